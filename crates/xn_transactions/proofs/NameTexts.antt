-- Names, by the test that is applied to their bytes.
use Rattle.std.proofs.Common.{◌≡◌, ◌≢◌, ℕ, Bool, true, false, eqb, ltb, leb, ◌||◌, List, [], ◌∷◌, length, refl, arith}
use Rattle.std.specs.Prelude.{bytes_eq, All}
use Rattle.std.specs.List.{list_any}
use Rattle.std.proofs.lemmas.List.Folds.{list_any_none}
use Rattle.std.proofs.lemmas.List.Elements.{All-weaker}
use Rattle.std.proofs.lemmas.Slice.Eq.{bytes_eq-Decides}
use Rattle.std.proofs.lemmas.Bool.Decides.{nat_tests}
use Rattle.xn_bytes.specs.Names.{IsName}
use Rattle.xn_changes.specs.Items.{is_name_text}

-- a test that can't be true is false
false_from : (b : Bool) → (b ≡ true → ⊥) → b ≡ false
false_from true never = absurd (never refl)
false_from false never = refl

differ : (xs ys : List ℕ) → xs ≢ ys → bytes_eq xs ys ≡ false
differ xs ys ne = false_from (bytes_eq xs ys) (λ e. ne ((bytes_eq-Decides xs ys).0 e))

allowed_byte : (byte : ℕ) → (byte ≢ 0) × (byte ≢ 47) → (eqb byte 0 || eqb byte 47) ≡ false
allowed_byte byte h = grind (arith, nat_tests)

none_forbidden : (bytes : List ℕ) → All (λ byte. (byte ≢ 0) × (byte ≢ 47)) bytes → list_any (λ byte. eqb byte 0 || eqb byte 47) bytes ≡ false
none_forbidden bytes all = list_any_none _ bytes (All-weaker (λ byte. (byte ≢ 0) × (byte ≢ 47)) (λ byte. (eqb byte 0 || eqb byte 47) ≡ false) allowed_byte bytes all)

pub name_text_from_name : (bytes : List ℕ) → IsName bytes → is_name_text bytes ≡ true
name_text_from_name bytes name =
    let some : ltb 0 (length bytes) ≡ true = grind (arith, nat_tests, name.some) in
    let short : leb (length bytes) 255 ≡ true = grind (arith, nat_tests, name.short) in
    rw (some, short, none_forbidden bytes name.allowed, differ bytes (46 ∷ []) name.no_dots.0, differ bytes (46 ∷ 46 ∷ []) name.no_dots.1) refl
