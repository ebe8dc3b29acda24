-- One attribute in short form: its spelling is read as the attribute, and what is read is spelled so.
use Rattle.std.proofs.Common.{◌≡◌, ℕ, ◌+◌, ◌-◌, ◌<◌, ◌≤◌, true, leb, List, ◌∷◌, ◌++◌, length, get_or, slice_index, take, drop, refl, sym, ap, ◌∙◌, append_assoc, arith, inl, inr}
use Rattle.std.specs.Prelude.{slice_range}
use Rattle.std.proofs.lemmas.Bool.{cases_lt, leb-true, le-leb, and_parts}
use Rattle.std.proofs.lemmas.List.{take_at, drop_at, drop-drop, drop_more, take-append-drop, length-append, length-take, get_or-drop, get_or-take, get_or_past, get_or_default}
use Rattle.xn_bytes.specs.ShortAttributes.{ShortAttribute, short_attribute_size, short_attribute_spelling, FitsShortAttribute, front_size, front_attribute}
use Rattle.xn_bytes.proofs.Overlays.{length-slice_range}
use Rattle.xn_attrleaf.specs.ShortChecks.{front_there}

-- ---- bytes

abbrev pub IsBytes : List ℕ → Type 0
IsBytes bytes = (i : ℕ) → get_or bytes i 0 < 256

pub IsBytes-drop : (n : ℕ) (bytes : List ℕ) → IsBytes bytes → IsBytes (drop n bytes)
IsBytes-drop n bytes h i = rw get_or-drop (h (n + i))

pub IsBytes-take : (n : ℕ) (bytes : List ℕ) → IsBytes bytes → IsBytes (take n bytes)
IsBytes-take n bytes h i =
    elim (cases_lt i n) [
      | inl lt ↦ rw (get_or-take n bytes i 0 lt) (h i)
      | inr le ↦ rw (get_or_past (take n bytes) i 0 (omega (arith, length-take n bytes))) (omega arith)
    ]

-- ---- what is read is spelled so

pub record FrontIs (rest : List ℕ) : Type 0 where
  pub head : 3 ≤ length rest
  pub within : front_size rest ≤ length rest
  pub name : length (slice_range rest 3 (3 + slice_index rest 0)) ≡ slice_index rest 0
  pub value : length (slice_range rest (3 + slice_index rest 0) (front_size rest)) ≡ slice_index rest 1
  pub size : short_attribute_size (front_attribute rest) ≡ front_size rest

pub front_is : (rest : List ℕ) → front_there rest ≡ true → FrontIs rest
front_is rest there =
    let both = and_parts _ _ there in
    let head : 3 ≤ length rest = leb-true _ _ both.0 in
    let within : front_size rest ≤ length rest = leb-true _ _ both.1 in
    let n : ℕ = slice_index rest 0 in
    let m : ℕ = slice_index rest 1 in
    let name : length (slice_range rest 3 (3 + n)) ≡ n = length-slice_range rest 3 (3 + n) (omega arith) ∙ omega arith in
    let value : length (slice_range rest (3 + n) (3 + n + m)) ≡ m = length-slice_range rest (3 + n) (3 + n + m) within ∙ omega arith in
    record { head = head; within = within; name = name; value = value; size = omega (arith, name, value) }

assembled : (n m f : ℕ) (name value rest r0 r1 r2 r3 r4 : List ℕ) → r0 ≡ n ∷ r1 → r1 ≡ m ∷ r2 → r2 ≡ f ∷ r3 → r3 ≡ name ++ r4 → r4 ≡ value ++ rest → r0 ≡ (n ∷ m ∷ f ∷ (name ++ value)) ++ rest
assembled n m f name value rest r0 r1 r2 r3 r4 e0 e1 e2 e3 e4 = rw (e0, e1, e2, e3, e4) (simp append_assoc)

pub front_spelled : (rest : List ℕ) → front_there rest ≡ true → rest ≡ short_attribute_spelling (front_attribute rest) ++ drop (front_size rest) rest
front_spelled rest there =
    let known = front_is rest there in
    let head = known.head in
    let n : ℕ = slice_index rest 0 in
    let m : ℕ = slice_index rest 1 in
    let f : ℕ = slice_index rest 2 in
    let name : List ℕ = slice_range rest 3 (3 + n) in
    let value : List ℕ = slice_range rest (3 + n) (3 + n + m) in
    let e0 : rest ≡ n ∷ drop 1 rest = drop_more rest 0 0 (omega arith) in
    let e1 : drop 1 rest ≡ m ∷ drop 2 rest = drop_more rest 1 0 (omega arith) in
    let e2 : drop 2 rest ≡ f ∷ drop 3 rest = drop_more rest 2 0 (omega arith) in
    let name_cut : 3 + n - 3 ≡ n = omega arith in
    let e3 : drop 3 rest ≡ name ++ drop (3 + n) rest = rw (name_cut, ← drop-drop n 3 rest) (sym (take-append-drop n (drop 3 rest))) in
    let value_cut : 3 + n + m - (3 + n) ≡ m = omega arith in
    let e4 : drop (3 + n) rest ≡ value ++ drop (3 + n + m) rest = rw (value_cut, ← drop-drop m (3 + n) rest) (sym (take-append-drop m (drop (3 + n) rest))) in
    let whole = assembled n m f name value (drop (3 + n + m) rest) rest (drop 1 rest) (drop 2 rest) (drop 3 rest) (drop (3 + n) rest) e0 e1 e2 e3 e4 in
    whole
    ∙ ap (λ (x : ℕ). (x ∷ m ∷ f ∷ (name ++ value)) ++ drop (3 + n + m) rest) (sym known.name)
    ∙ ap (λ (x : ℕ). (length name ∷ x ∷ f ∷ (name ++ value)) ++ drop (3 + n + m) rest) (sym known.value)

pub front_fits : (rest : List ℕ) → IsBytes rest → front_there rest ≡ true → FitsShortAttribute (front_attribute rest)
front_fits rest fits there =
    let known = front_is rest there in
    let n : ℕ = slice_index rest 0 in
    let m : ℕ = slice_index rest 1 in
    let name : List ℕ = slice_range rest 3 (3 + n) in
    let value : List ℕ = slice_range rest (3 + n) (3 + n + m) in
    let low : n < 256 = fits 0 in
    let low_value : m < 256 = fits 1 in
    let name_bytes : IsBytes name = IsBytes-take (3 + n - 3) (drop 3 rest) (IsBytes-drop 3 rest fits) in
    let value_bytes : IsBytes value = IsBytes-take (3 + n + m - (3 + n)) (drop (3 + n) rest) (IsBytes-drop (3 + n) rest fits) in
    record {
      name = omega (arith, known.name);
      value = omega (arith, known.value);
      flags = fits 2;
      name_bytes = λ k d lt. rw (get_or_default name k d 0 lt) (name_bytes k);
      value_bytes = λ k d lt. rw (get_or_default value k d 0 lt) (value_bytes k);
    }

-- ---- what is spelled so is read

pub record StandsIn (attribute : ShortAttribute) (rest text : List ℕ) : Type 0 where
  pub there : front_there text ≡ true
  pub read : front_attribute text ≡ attribute
  pub behind : drop (front_size text) text ≡ rest

pub attribute_stands : (attribute : ShortAttribute) (rest : List ℕ) → StandsIn attribute rest (short_attribute_spelling attribute ++ rest)
attribute_stands attribute rest =
    let n : ℕ = length attribute.name in
    let m : ℕ = length attribute.value in
    let text : List ℕ = short_attribute_spelling attribute ++ rest in
    let t3 : drop 3 text ≡ attribute.name ++ (attribute.value ++ rest) = append_assoc attribute.name attribute.value rest in
    let tn : drop (3 + n) text ≡ attribute.value ++ rest = sym (drop-drop n 3 text) ∙ ap (drop n) t3 ∙ drop_at attribute.name (attribute.value ++ rest) n refl in
    let end : drop (3 + n + m) text ≡ rest = sym (drop-drop m (3 + n) text) ∙ ap (drop m) tn ∙ drop_at attribute.value rest m refl in
    let name_cut : 3 + n - 3 ≡ n = omega arith in
    let value_cut : 3 + n + m - (3 + n) ≡ m = omega arith in
    let name : slice_range text 3 (3 + n) ≡ attribute.name = rw (name_cut, t3) (take_at attribute.name (attribute.value ++ rest) n refl) in
    let value : slice_range text (3 + n) (3 + n + m) ≡ attribute.value = rw (value_cut, tn) (take_at attribute.value rest m refl) in
    let long : length text ≡ 3 + n + m + length rest = omega (arith, ap length t3, length-append attribute.name (attribute.value ++ rest), length-append attribute.value rest) in
    let a : leb 3 (length text) ≡ true = le-leb _ _ (omega arith) in
    let b : leb (3 + n + m) (length text) ≡ true = le-leb _ _ (omega arith) in
    record {
      there = rw (a, b) refl;
      read = rw (name, value) refl;
      behind = end;
    }
