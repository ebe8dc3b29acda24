use Rattle.std.proofs.Common.{◌≡◌, ℕ, ◌/◌, map, arith}
use Rattle.std.proofs.lemmas.Grind.{common_steps}
use Rattle.xn_check.proofs.RunLemmas.{rising_blocks}
use Rattle.xn_check.proofs.whole_image.blocks_of.Goals as goal

pub returns-clause-rising : goal.returns-clause-rising
returns-clause-rising c =
    let same : c.loop-ino.blocks.items ≡ map (λ (ino : ℕ). ino / 8) c.args.inodes.now = grind (arith, common_steps) in
    rising_blocks c.args.inodes.now c.loop-ino.blocks.items c.requires same
