use Rattle.std.proofs.Common.{◌≡◌, ℕ, List, ◌++◌, take, drop, length, sym, subst, ◌∙◌, lit≤}
use Rattle.std.proofs.lemmas.List.{take_at}
use Rattle.xn_make.specs.Directories.{entries_from, total_length}
use Rattle.xn_make.specs.Images.{IsRootBlock, IsBlockImage, root_entries}
use Rattle.xn_make.proofs.images.block_image.Goals as goal

pub block_directory-requires-clause-fit : goal.block_directory-requires-clause-fit
unfolding total_length
block_directory-requires-clause-fit c = lit≤ tt

pub fill_with_block-requires-clause-block : goal.fill_with_block-requires-clause-block
unfolding total_length entries_from root_entries
fill_with_block-requires-clause-block c = subst (λ (xs : List ℕ). IsRootBlock xs) (sym c.deref.ensures.value) c.in_ok-block.ensures

pub returns : goal.returns
returns c =
    let new = c.fill_with_block.new.image in
    let same : take c.in_ok-image.image.len (new ++ drop (length new) c.in_ok-image.image.items) ≡ new =
    take_at new (drop (length new) c.in_ok-image.image.items) c.in_ok-image.image.len (c.fill_with_block.ensures.length ∙ c.deref_mut.ensures.len) in
    subst (λ (xs : List ℕ). IsBlockImage xs) (sym same) c.fill_with_block.ensures.made
