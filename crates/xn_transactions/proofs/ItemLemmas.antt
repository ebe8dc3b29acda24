-- Items by what their parts say.
use Rattle.std.proofs.Common.{◌≡◌, ℕ, ◌≤◌, Bool, true, false, ltb, ◌&&◌, cond, List, length, Ok, Err, refl, arith}
use Rattle.std.proofs.Math.Bool.{and-false}
use Rattle.std.proofs.lemmas.Bool.Decides.{nat_tests}
use Rattle.xn_changes.specs.declared.intent.Act.{Act}
use Rattle.xn_changes.specs.declared.intent.Act.TheVariants.{Replace}
use Rattle.xn_changes.specs.Items.{Malformed, buffer_flags_in, intent_with, is_cancelled, is_lawful_replace, new_parent_in, old_parent_in, op_in, take_buffer, take_cancelled, take_done, take_intent, take_item, type_in}
use Rattle.xn_transactions.specs.declared.fault.Refusal.{Refusal}
use Rattle.xn_transactions.specs.declared.fault.Refusal.TheVariants as refusal
use Rattle.xn_transactions.specs.Faults.{IsRefused}
use Rattle.xn_transactions.specs.Taking.{replace_said}

-- what is said is said of something lawful
said_when : {X : Type 0} (lawful : Bool) (x y : X) → cond lawful (Ok x) (Err Malformed) ≡ Ok y → (lawful ≡ true) × (x ≡ y)
said_when true x y e = (refl, cc)
said_when false x y e = absurd (cc)

-- where a part refuses, the whole does
pub refused_with : {X Y : Type 0} (part whole : Bool) (x : X) (y : Y) (why : Refusal) → (part ≡ false → whole ≡ false) → IsRefused (cond part (Ok x) (Err Malformed)) why → IsRefused (cond whole (Ok y) (Err Malformed)) why
refused_with true whole x y refusal.Foreign falls e = absurd (cc)
refused_with true whole x y refusal.Malformed falls e = absurd (cc)
refused_with part whole x y refusal.Memory falls e = tt
refused_with false whole x y refusal.Foreign falls e = absurd (cc)
refused_with false whole x y refusal.Malformed falls e = rw (falls refl) refl

pub falls_with_new : (format old_name new_name old_value new_value : Bool) → (new_name && new_value) ≡ false → (format && old_name && new_name && old_value && new_value) ≡ false
falls_with_new format old_name true old_value true h = absurd (cc)
falls_with_new format old_name true old_value false h = and-false (format && old_name && true && old_value)
falls_with_new format old_name false old_value new_value h = rw (and-false (format && old_name)) refl

pub take_intent-replace : (first : List ℕ) (rest : List (List ℕ)) (act : Act) → 28 ≤ length first → op_in first ≡ 6 → replace_said first rest ≡ Ok act → take_intent first rest ≡ Ok (record { item = intent_with first act; behind = 4 })
take_intent-replace first rest act long op said =
    let h = said_when (is_lawful_replace first rest) (Replace (old_parent_in first rest) (new_parent_in first rest)) act said in
    let there : ltb (length first) 28 ≡ false = grind (arith, nat_tests) in
    rw (there, op, h.0, h.1) refl

pub take_buffer-cancelled : (first : List ℕ) (rest : List (List ℕ)) → 6 ≤ length first → is_cancelled (buffer_flags_in first) ≡ true → take_buffer first rest ≡ take_cancelled first rest
take_buffer-cancelled first rest long cancelled =
    let there : ltb (length first) 6 ≡ false = grind (arith, nat_tests) in
    rw (there, cancelled) refl

pub take_item-done : (first : List ℕ) (rest : List (List ℕ)) → 2 ≤ length first → type_in first ≡ 0x1247 → take_item first rest ≡ take_done first rest
take_item-done first rest long type =
    let there : ltb (length first) 2 ≡ false = grind (arith, nat_tests) in
    rw (there, type) refl
