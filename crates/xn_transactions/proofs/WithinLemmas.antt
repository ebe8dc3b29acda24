-- The regions that an intent or its end takes are there.
use Rattle.std.proofs.Common.{◌≡◌, ℕ, ◌≤◌, Bool, true, false, ltb, eqb, not, ◌&&◌, cond, List, length, Result, Ok, Err, refl, subst, arith}
use Rattle.std.specs.Prelude.{IfOk}
use Rattle.std.proofs.lemmas.Bool.{leb-true}
use Rattle.std.proofs.lemmas.List.{length-map}
use Rattle.xn_changes.specs.Decoded.{bytes_of}
use Rattle.xn_changes.specs.Transactions.{Region}
use Rattle.xn_changes.specs.Items.{Reason, Malformed, Foreign, Taken, if_lawful, is_lawful_one, is_lawful_replace, knows_op, op_in, regions_said, remove_op, set_op, take_done, take_intent}
use Rattle.xn_transactions.specs.declared.fault.Refusal.{Refusal}
use Rattle.xn_transactions.specs.declared.taken.Taken.{Taken as TakenHere}
use Rattle.xn_transactions.specs.Taking.{Takes}

abbrev IsWithin : Result Taken Reason → List (List ℕ) → Type 0
IsWithin said rest = (taken : Taken) → said ≡ Ok taken → taken.behind ≤ length rest

-- what is refused is within
refused_within : (why : Reason) (rest : List (List ℕ)) → IsWithin (Err why) rest
refused_within why rest taken e = absurd (cc)

either_within : (b : Bool) (x y : Result Taken Reason) (rest : List (List ℕ)) → IsWithin x rest → IsWithin y rest → IsWithin (cond b x y) rest
either_within true x y rest hx hy = hx
either_within false x y rest hx hy = hy

lawful_within : (b : Bool) (taken : Taken) (rest : List (List ℕ)) → (b ≡ true → taken.behind ≤ length rest) → IsWithin (if_lawful b taken) rest
lawful_within true taken rest h other e = let same : taken ≡ other = cc in subst (λ (t : Taken). t.behind ≤ length rest) same (h refl)
lawful_within false taken rest h other e = absurd (cc)

first_true : (a b : Bool) → (a && b) ≡ true → a ≡ true
first_true true b h = refl
first_true false b h = absurd (cc)

second_true : (a b : Bool) → (a && b) ≡ true → b ≡ true
second_true true b h = h
second_true false b h = absurd (cc)

intent_within : (first : List ℕ) (rest : List (List ℕ)) → IsWithin (take_intent first rest) rest
intent_within first rest =
    let one : is_lawful_one first rest ≡ true → 2 ≤ length rest = λ h. leb-true 2 (length rest) (second_true _ _ (first_true _ _ (first_true _ _ h))) in
    let replace : is_lawful_replace first rest ≡ true → 4 ≤ length rest = λ h. leb-true 4 (length rest) (second_true _ _ (first_true _ _ (first_true _ _ (first_true _ _ (first_true _ _ h))))) in
    either_within (ltb (length first) 28) _ _ rest (refused_within Malformed rest)
    (either_within (not (knows_op (op_in first))) _ _ rest (refused_within Foreign rest)
    (either_within (eqb (op_in first) set_op) _ _ rest (lawful_within (is_lawful_one first rest) _ rest one)
    (either_within (eqb (op_in first) remove_op) _ _ rest (lawful_within (is_lawful_one first rest) _ rest one)
    (lawful_within (is_lawful_replace first rest) _ rest replace))))

done_within : (first : List ℕ) (rest : List (List ℕ)) → IsWithin (take_done first rest) rest
done_within first rest = lawful_within (eqb (length first) 16 && eqb (regions_said first) 1) _ rest (λ h. omega arith)

within_from : (said : Result Taken Reason) (regions : List Region) (r : Result TakenHere Refusal) → IsWithin said (bytes_of regions) → Takes said r → IfOk r (λ taken. taken.behind ≤ length regions)
within_from said regions (Ok taken) within e =
    let le = within (record { item = taken.item; behind = taken.behind }) e in
    omega (arith, length-map regions (λ (r : Region). r.bytes))
within_from said regions (Err why) within e = tt

pub intent_taken_within : (first : List ℕ) (regions : List Region) (r : Result TakenHere Refusal) → Takes (take_intent first (bytes_of regions)) r → IfOk r (λ taken. taken.behind ≤ length regions)
intent_taken_within first regions r e = within_from _ regions r (intent_within first (bytes_of regions)) e

pub done_taken_within : (first : List ℕ) (regions : List Region) (r : Result TakenHere Refusal) → Takes (take_done first (bytes_of regions)) r → IfOk r (λ taken. taken.behind ≤ length regions)
done_taken_within first regions r e = within_from _ regions r (done_within first (bytes_of regions)) e
