use Rattle.std.proofs.Common.{◌∙◌, sym, arith}
use Rattle.xn_data.proofs.Standing.{reaches, free_front, stays}
use Rattle.xn_data.proofs.entry.past_free.Goals as goal
use Rattle.xn_data.proofs.entry.past_free.Goals.{else-at-end-via-then-at-end+else-is_free, else-at-end-via-else-at-end}

pub is_free-requires : goal.is_free-requires
is_free-requires c = let reach = reaches _ _ _ _ c.requires c.if-at-end.true in omega (arith, c.requires.within)

pub free_size-requires : goal.free_size-requires
free_size-requires c = let reach = reaches _ _ _ _ c.requires c.if-at-end.true in omega (arith, c.requires.within)

pub overflow_add-result : goal.overflow_add-result
overflow_add-result c =
    let front = free_front _ _ _ _ c.requires c.if-at-end.true (sym c.is_free.ensures ∙ c.if-is_free.true) in
    omega (arith, front.within, c.free_size.ensures)

pub returns-then-is_free-clause-stand : goal.returns-then-is_free-clause-stand
returns-then-is_free-clause-stand c =
    let front = free_front _ _ _ _ c.requires c.if-at-end.true (sym c.is_free.ensures ∙ c.if-is_free.true) in
    rw c.free_size.ensures front.rest

pub returns-then-is_free-clause-entries : goal.returns-then-is_free-clause-entries
returns-then-is_free-clause-entries c =
    let front = free_front _ _ _ _ c.requires c.if-at-end.true (sym c.is_free.ensures ∙ c.if-is_free.true) in
    rw c.free_size.ensures front.entries

pub returns-else-at-end-clause-stand : goal.returns-else-at-end-clause-stand
returns-else-at-end-clause-stand c =
    elim c.else-at-end.branch [
      | else-at-end-via-then-at-end+else-is_free w ↦ stays _ _ _ c.requires (λ _. sym w.is_free.ensures ∙ w.if-is_free.false)
      | else-at-end-via-else-at-end w ↦ stays _ _ _ c.requires (λ more. absurd (omega (arith, w.if-at-end.false)))
    ]
