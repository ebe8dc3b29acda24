use Rattle.xn_check.proofs.judge.reached_by.Goals as goal

pub returns : goal.returns
returns c = rw (c.deref.ensures.value, c.root.ensures) at c.from.ensures
