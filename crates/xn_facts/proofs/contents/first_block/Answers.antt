use Rattle.std.proofs.Common.{◌≡◌, ℕ, Option, Some, None, refl}
use Rattle.std.specs.Prelude.{IfSome}
use Rattle.xn_bytes.specs.Superblock.{IsBlock}
use Rattle.xn_inode.proofs.HomeLists.{mapped_home}
use Rattle.xn_facts.proofs.contents.first_block.Goals as goal

-- of what may be found
if_found : (found : Option ℕ) (P : ℕ → Type 0) → ((x : ℕ) → found ≡ Some x → P x) → IfSome found P
if_found None P of = tt
if_found (Some x) P of = of x refl

pub returns-in-Ok-of_fork-clause-place : goal.returns-in-Ok-of_fork-clause-place
returns-in-Ok-of_fork-clause-place c =
    let list = c.in-Ok-of_fork.ensures in
    if_found c.block_at.result (IsBlock c.args.geometry.now)
    (λ block there. (mapped_home c.args.geometry.now c.in-Ok-of_fork.extents 0 block (rw list.1 list.0.home) (rw (c.block_at.ensures) at there)).place)
