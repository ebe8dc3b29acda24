use Rattle.std.proofs.Common.{◌≡◌, ℕ, ◌-◌, true, leb, sym, ap, ◌∙◌, arith}
use Rattle.std.proofs.lemmas.List.{take-map}
use Rattle.std.proofs.lemmas.Bool.Decides.{nat_tests}
use Rattle.xn_changes.specs.Decoded.{bytes_of}
use Rattle.xn_changes.specs.Items.{are_there, regions_said}
use Rattle.xn_changes.specs.Transactions.{Region}
use Rattle.xn_transactions.proofs.RegionLemmas.{length-front}
use Rattle.xn_transactions.proofs.buffer.regions_behind.Goals as goal

pub returns : goal.returns
returns c =
    let rest = c.args.rest.now in
    let count = c.in_ok-count.count in
    let said : c.from.result ≡ regions_said c.args.first.now = c.from.ensures ∙ c.little_u16_at.ensures in
    let count_is : count ≡ regions_said c.args.first.now - 1 = c.in_ok-count.ensures.1 ∙ ap (λ (n : ℕ). n - 1) said in
    let some : leb 1 (regions_said c.args.first.now) ≡ true = grind (arith, nat_tests, c.in_ok-count.ensures.0) in
    let there : are_there count (bytes_of rest) ≡ true = sym c.if-not-are_there.ensures in
    (sym c.if-not-is_lawful_format.ensures.value, some, rw (← count_is) there, rw (← count_is) (sym (take-map (λ (r : Region). r.bytes) count rest)), rw (← count_is) (length-front count rest there))
