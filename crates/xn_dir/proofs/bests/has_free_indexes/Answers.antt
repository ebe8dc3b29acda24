use Rattle.xn_bytes.proofs.TestLemmas.{holds, fails}
use Rattle.xn_dir.proofs.FreeBlocks.{all_told, not_mapped}
use Rattle.xn_dir.proofs.bests.has_free_indexes.Goals as goal

pub returns-then-not-are_mapped-clause-right : goal.returns-then-not-are_mapped-clause-right
returns-then-not-are_mapped-clause-right g c = not_mapped g.S.Store c.args.dir c.args.extents.now c.args.noted.now c.args.store.now (fails c.if-not-are_mapped.ensures)

pub returns-clause-right : goal.returns-clause-right
returns-clause-right g c =
    all_told g.S.Store c.args.dir c.args.extents.now c.args.noted.now c.args.store.now c.are_free_indexes.result (holds c.if-not-are_mapped.ensures) c.are_free_indexes.ensures.right
