use Rattle.std.proofs.Common.{List, subst, sym, ◌∙◌, arith}
use Rattle.xn_bytes.specs.Extents.{Run, AreRuns}
use Rattle.xn_inode.proofs.Nexts.{Found, found_at, is_next, none_before}
use Rattle.xn_inode.proofs.extents.Extents.next_mapped.Goals as goal

pub returns-then-file_block-limit : goal.returns-then-file_block-limit
returns-then-file_block-limit c =
    let rise : AreRuns 0 c.args.self.now = subst (λ (runs : List Run). AreRuns 0 runs) c.self.view_is c.self.invariant in
    let found = found_at _ _ _ _ c.in_ok-run.run'.now rise (c.deref.ensures.value ∙ c.self.view_is) c.place.ensures
    c.in_ok-run.ensures.lookup.3.0 c.in_ok-run.ensures.lookup.1 in
    is_next _ _ _ _ _ (subst (λ (run : Run). Found c.args.self.now c.args.from run) (sym c.run.view_is) found) c.max-file_block.ensures (omega arith)

pub returns-else-file_block-limit : goal.returns-else-file_block-limit
returns-else-file_block-limit c =
    let rise : AreRuns 0 c.args.self.now = subst (λ (runs : List Run). AreRuns 0 runs) c.self.view_is c.self.invariant in
    let found = found_at _ _ _ _ c.in_ok-run.run'.now rise (c.deref.ensures.value ∙ c.self.view_is) c.place.ensures
    c.in_ok-run.ensures.lookup.3.0 c.in_ok-run.ensures.lookup.1 in
    λ other high low. none_before _ _ _ _ (subst (λ (run : Run). Found c.args.self.now c.args.from run) (sym c.run.view_is) found) c.max-file_block.ensures other high (omega arith)
