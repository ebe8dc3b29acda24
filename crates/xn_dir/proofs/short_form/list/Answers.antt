use Rattle.std.proofs.Common.{refl}
use Rattle.std.proofs.lemmas.Result.{err_from_is_err_and}
use Rattle.xn_dir.proofs.Collecting.{have_names, once_among}
use Rattle.xn_dir.proofs.ShortForms.{holds_short, breaks_names}
use Rattle.xn_dir.proofs.short_form.list.Goals as goal

pub returns-in_err-check_once-clause-fault : goal.returns-in_err-check_once-clause-fault
returns-in_err-check_once-clause-fault c =
    let p = err_from_is_err_and c.from_residual-in_err-check_once.result c.from_residual-in_err-check_once.ensures.1 in
    let listed = c.in_ok-listed.listed.items in
    let fault = rw c.deref.ensures.value at c.in_err-check_once.ensures in
    rw (p.1, p.2) (breaks_names c.args.inode.now c.in_ok-short.short _ _ c.in_ok-short.ensures.form
    (λ names. once_among c.in_ok-short.short.entries listed c.in_ok-listed.ensures.0 names) fault)

pub returns-clause-holds : goal.returns-clause-holds
returns-clause-holds c = (c.in_ok-short.short.parent, holds_short c.args.inode.now c.in_ok-short.short _ _ c.requires.form c.in_ok-short.ensures.form c.in_ok-listed.ensures.0 refl)

pub returns-clause-names : goal.returns-clause-names
returns-clause-names c =
    have_names c.in_ok-short.short.entries c.in_ok-listed.listed.items c.in_ok-listed.ensures (rw c.deref.ensures.value at c.in_ok-check_once.ensures)
