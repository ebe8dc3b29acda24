use Rattle.std.proofs.Common.{rules, ◌≡◌, length, arith}
use Rattle.std.proofs.lemmas.Grind.{common_steps}
use Rattle.xn_names.proofs.AskedRecords.{asked_same, asked_length, asked_at, asked_permutation}
use Rattle.xn_names.proofs.records.are_records.Goals as goal

pub returns-then-namings-parents : goal.returns-then-namings-parents
returns-then-namings-parents c one_generation rising = (
  λ t. absurd cc,
  λ moved.
      let e : length c.args.namings.now ≡ length c.args.parents.now = asked_length c.args.namings.now c.args.parents.now moved in
      absurd (grind (arith, common_steps)),
)

pub returns-then-not-asks_for : goal.returns-then-not-asks_for
returns-then-not-asks_for c one_generation rising = (
  λ t. absurd cc,
  λ moved.
      let same = asked_same c.args.namings.now c.args.parents.now c.requires one_generation rising moved in
      let here = asked_at c.args.namings.now c.args.parents.now c.loop-place.place c.index-namings-place.result c.index-parents-place.result (omega arith) (omega arith) same in
      absurd (grind (arith, common_steps)),
)

pub returns : goal.returns
returns c one_generation rising =
    (λ t. asked_permutation c.args.namings.now c.args.parents.now (grind (arith, common_steps)) (λ k d e lt. c.loop-place.invariant k d e (omega arith)), λ moved. search rules)
