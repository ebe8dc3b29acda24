-- The next call fails where it is listed: that every call from now on fails is ruled out at this return.
use Rattle.std.proofs.Common.{◌↔◌, ◌⊎◌, Bool, false, IsTrue, inl, ⊎_elim}
use Rattle.std.proofs.lemmas.Bool.{false≢true}
use Rattle.xn_machine.proofs.memory.MemMachine.fails_next.Goals as goal

-- a test of the first fact decides both where the second does not hold
or_not : {Listed Over : Type 0} {b : Bool} → (IsTrue b ↔ Listed) → (Over → IsTrue false) → IsTrue b ↔ (Listed ⊎ Over)
or_not listed not_over = (λ t. inl (listed.0 t), λ either. ⊎_elim listed.1 (λ over. absurd (false≢true (not_over over))) either)

pub returns-else-is_over : goal.returns-else-is_over
returns-else-is_over c =
    let not_over = rw (← c.self.view_is) at c.if-is_over.ensures in
    rw (← c.self.view_is) (or_not (rw c.deref.ensures.value at c.is_listed.ensures) not_over.1)
