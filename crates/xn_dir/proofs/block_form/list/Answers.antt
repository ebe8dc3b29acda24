use Rattle.std.proofs.Common.{refl, inl, inr}
use Rattle.std.proofs.lemmas.Result.{err_from_is_err_and}
use Rattle.xn_bytes.proofs.TestLemmas.{holds, fails}
use Rattle.xn_dir.proofs.Collecting.{have_names, once_among}
use Rattle.xn_dir.proofs.FirstBlocks.{breaks_names}
use Rattle.xn_dir.proofs.block_form.list.Goals as goal

pub returns-then-not-is_indexed-clause-fault : goal.returns-then-not-is_indexed-clause-fault
returns-then-not-is_indexed-clause-fault c =
    let first = c.in_ok-first.first in
    rw c.of_rule.ensures (inr (first.held, first.entries, first.dotdot, c.in_ok-first.ensures.holds, inr (holds c.if-not-has_tail.ensures, inl (refl, refl, fails c.if-not-is_indexed.ensures))))

pub returns-in_err-listed-clause-fault : goal.returns-in_err-listed-clause-fault
returns-in_err-listed-clause-fault c =
    let p = err_from_is_err_and c.from_residual-in_err-listed.result c.from_residual-in_err-listed.ensures.1 in
    let first = c.in_ok-first.first in
    rw (p.1, p.2) (breaks_names c.args.geometry.now c.args.dir c.args.block c.args.bytes.now first.held first.entries first.dotdot _ _ c.in_ok-first.ensures.holds (holds c.if-not-has_tail.ensures) (holds c.if-not-is_indexed.ensures)
    (λ names. names.names) c.in_err-listed.ensures)

pub returns-in_err-check_once-clause-fault : goal.returns-in_err-check_once-clause-fault
returns-in_err-check_once-clause-fault c =
    let p = err_from_is_err_and c.from_residual-in_err-check_once.result c.from_residual-in_err-check_once.ensures.1 in
    let first = c.in_ok-first.first in
    let listed = c.in_ok-listed.listed.items in
    let fault = rw c.deref.ensures.value at c.in_err-check_once.ensures in
    rw (p.1, p.2) (breaks_names c.args.geometry.now c.args.dir c.args.block c.args.bytes.now first.held first.entries first.dotdot _ _ c.in_ok-first.ensures.holds (holds c.if-not-has_tail.ensures) (holds c.if-not-is_indexed.ensures)
    (λ names. once_among first.entries listed c.in_ok-listed.ensures.0 names) fault)

pub returns-clause-names : goal.returns-clause-names
returns-clause-names c = have_names c.in_ok-first.first.entries c.in_ok-listed.listed.items c.in_ok-listed.ensures (rw c.deref.ensures.value at c.in_ok-check_once.ensures)
