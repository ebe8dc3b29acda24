use Rattle.std.proofs.lemmas.Result.{err_from_is_err_and}
use Rattle.xn_attr.proofs.OverImages.{over_lists, own_shown}
use Rattle.xn_attr.proofs.attr.read_form.Goals as goal

pub returns-in_err-form-clause-fault : goal.returns-in_err-form-clause-fault
returns-in_err-form-clause-fault g c =
    let read = c.in_ok-core.ensures in
    let stays = read.stays in
    let fails = rw (c.geometry.ensures, stays.shape_stays) at c.in_err-form.ensures.fault in
    let p = err_from_is_err_and c.from_residual-in_err-form.result c.from_residual-in_err-form.ensures.1 in
    rw (p.1, p.2) (over_lists g.S.Store (λ x rule block. ⊥) c.args.ino c.read_core.new.inode c.args.store.now c.read_core.new.store
    c.in_err-form.field-0.0 read.bytes read.rule_ten read.rule_eleven fails)

pub returns-clause-inode : goal.returns-clause-inode
returns-clause-inode g c =
    let read = c.in_ok-core.ensures in
    let stays = read.stays in
    let lists = rw (c.geometry.ensures, stays.shape_stays) at c.in_ok-form.ensures.lists in
    own_shown _ _ _ _ read.bytes read.rule_ten read.rule_eleven lists
