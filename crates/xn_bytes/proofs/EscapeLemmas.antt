-- The text of bytes tells the bytes.
use Rattle.std.proofs.Common.{◌≡◌, ◌≢◌, ◌∙◌, ℕ, ◌+◌, ◌-◌, ◌<◌, ◌≤◌, ◌/◌, ◌%◌, Bool, true, false, if◌then◌else◌, List, [], ◌∷◌, ◌++◌, length, take, drop, All, Result, Ok, Err, IfOk, IfErr, MatchResult, refl, ap, sym, arith, append_assoc, length-append, length-drop}
use Rattle.std.proofs.lemmas.List.{take_at, drop_at, take-append-drop, length-take}
use Rattle.std.proofs.lemmas.List.Elements.{All-head, All-tail}
use Rattle.std.proofs.lemmas.Grind.{flat_map-append}
use Rattle.std.proofs.Math.Seq.{take-add}
use Rattle.xn_bytes.specs.declared.escaped_text.EscapeFault.{EscapeFault}
use Rattle.xn_bytes.specs.declared.escaped_text.EscapeFault.TheVariants.{Bad, Memory}
use Rattle.xn_bytes.specs.Escapes.{stands_for_itself, hex_digit, escaped_byte, escaped, IsFirstBad, IsEscapeFault}

-- two digits that are the same stand for the same number
pub one_digit : (m n : ℕ) → m < 16 → n < 16 → hex_digit m ≡ hex_digit n → m ≡ n
one_digit m n hm hn e = grind arith

one_byte_by : (p q : Bool) (x y : ℕ) (a b : List ℕ) → stands_for_itself x ≡ p → stands_for_itself y ≡ q → x < 256 → y < 256 → (if p then x ∷ [] else 0x5c ∷ hex_digit (x / 16) ∷ hex_digit (x % 16) ∷ []) ++ a ≡ (if q then y ∷ [] else 0x5c ∷ hex_digit (y / 16) ∷ hex_digit (y % 16) ∷ []) ++ b → (x ≡ y) × (a ≡ b)
one_byte_by true true x y a b px py hx hy e = (cc, cc)
one_byte_by true false x y a b px py hx hy e = let f : x ≡ 0x5c = cc in absurd (cc (ap stands_for_itself f))
one_byte_by false true x y a b px py hx hy e = let f : y ≡ 0x5c = cc in absurd (cc (ap stands_for_itself f))
one_byte_by false false x y a b px py hx hy e =
    let h : x / 16 ≡ y / 16 = one_digit (x / 16) (y / 16) (omega arith) (omega arith) (cc) in
    let l : x % 16 ≡ y % 16 = one_digit (x % 16) (y % 16) (omega arith) (omega arith) (cc) in
    (omega arith, cc)

-- no text of a byte begins another's
pub one_byte_text : (x y : ℕ) (a b : List ℕ) → x < 256 → y < 256 → escaped_byte x ++ a ≡ escaped_byte y ++ b → (x ≡ y) × (a ≡ b)
one_byte_text x y a b hx hy e = one_byte_by (stands_for_itself x) (stands_for_itself y) x y a b refl refl hx hy e

some_text_by : (p : Bool) (x : ℕ) (a : List ℕ) → (if p then x ∷ [] else 0x5c ∷ hex_digit (x / 16) ∷ hex_digit (x % 16) ∷ []) ++ a ≢ []
some_text_by true x a e = absurd (cc)
some_text_by false x a e = absurd (cc)

some_text : (x : ℕ) (a : List ℕ) → escaped_byte x ++ a ≢ []
some_text x a e = some_text_by (stands_for_itself x) x a e

abbrev AreBytes : List ℕ → Type 0
AreBytes xs = All (λ byte. byte < 256) xs

-- a text that begins with the text of bytes is that of these bytes and of what is left
goes_on : (xs ys tail : List ℕ) → AreBytes xs → AreBytes ys → escaped xs ++ tail ≡ escaped ys → (zs : List ℕ) × AreBytes zs × (tail ≡ escaped zs) × (ys ≡ xs ++ zs)
goes_on [] ys tail ax ay e = (ys, ay, e, refl)
goes_on (x ∷ xs) [] tail ax ay e = absurd (some_text x (escaped xs ++ tail) (sym (append_assoc (escaped_byte x) (escaped xs) tail) ∙ e))
goes_on (x ∷ xs) (y ∷ ys) tail ax ay e =
    let s : (x ≡ y) × (escaped xs ++ tail ≡ escaped ys) = one_byte_text x y (escaped xs ++ tail) (escaped ys) (All-head (λ byte. byte < 256) x xs ax) (All-head (λ byte. byte < 256) y ys ay) (sym (append_assoc (escaped_byte x) (escaped xs) tail) ∙ e) in
    let r : (zs : List ℕ) × AreBytes zs × (tail ≡ escaped zs) × (ys ≡ xs ++ zs) = goes_on xs ys tail (All-tail (λ byte. byte < 256) x xs ax) (All-tail (λ byte. byte < 256) y ys ay) s.1 in
    (r.0, r.1, r.2, cc)

-- bytes of one text are the same
pub one_text : (xs ys : List ℕ) → AreBytes xs → AreBytes ys → escaped xs ≡ escaped ys → xs ≡ ys
one_text [] [] ax ay e = refl
one_text [] (y ∷ ys) ax ay e = absurd (some_text y (escaped ys) (sym e))
one_text (x ∷ xs) [] ax ay e = absurd (some_text x (escaped xs) e)
one_text (x ∷ xs) (y ∷ ys) ax ay e =
    let s : (x ≡ y) × (escaped xs ≡ escaped ys) = one_byte_text x y (escaped xs) (escaped ys) (All-head (λ byte. byte < 256) x xs ax) (All-head (λ byte. byte < 256) y ys ay) e in
    let r : xs ≡ ys = one_text xs ys (All-tail (λ byte. byte < 256) x xs ax) (All-tail (λ byte. byte < 256) y ys ay) s.1 in
    cc

-- what is left at a first bad place is the text of no bytes
none_left : (text zs : List ℕ) (at : ℕ) → IsFirstBad text at → AreBytes zs → drop at text ≢ escaped zs
none_left text [] at bad az e = let within : at < length text = bad.within in omega (arith, length-drop at text, ap length e)
none_left text (z ∷ zs) at bad az e = bad.none_at z (escaped zs) (All-head (λ byte. byte < 256) z zs az) e

-- a text with a first bad place is the text of no bytes
pub no_text : (text bytes : List ℕ) (at : ℕ) → IsFirstBad text at → AreBytes bytes → text ≢ escaped bytes
no_text text bytes at bad all e =
    let left : escaped bad.before.0 ++ drop at text ≡ escaped bytes = ap (λ front. front ++ drop at text) (sym bad.before.2) ∙ take-append-drop at text ∙ e in
    let r = goes_on bad.before.0 bytes (drop at text) bad.before.1 all left in
    none_left text r.0 at bad r.1 r.2

-- where the bytes read so far are all and no byte's text stands next, is the first bad place
pub first_bad : (text rest bytes : List ℕ) → text ≡ escaped bytes ++ rest → AreBytes bytes → 0 < length rest → ((byte : ℕ) (after : List ℕ) → byte < 256 → rest ≢ escaped_byte byte ++ after) → IsFirstBad text (length text - length rest)
first_bad text rest bytes e all some none =
    let long : length text ≡ length (escaped bytes) + length rest = ap length e ∙ length-append (escaped bytes) rest in
    let at : length (escaped bytes) ≡ length text - length rest = omega arith in
    record {
      within = omega arith;
      before = (bytes, all, ap (take (length text - length rest)) e ∙ take_at (escaped bytes) rest (length text - length rest) at);
      none_at = λ byte after h f. none byte after h (sym (ap (drop (length text - length rest)) e ∙ drop_at (escaped bytes) rest (length text - length rest) at) ∙ f);
    }

-- what is the text of bytes was read as these
pub only_these : {X : Type 0} (items : X → List ℕ) (r : Result X EscapeFault) (text bytes : List ℕ) → IfOk r (λ v. text ≡ escaped (items v)) → IfOk r (λ v. AreBytes (items v)) → IfErr r (IsEscapeFault text) → AreBytes bytes → text ≡ escaped bytes → MatchResult r (λ v. items v ≡ bytes) (λ fault. fault ≡ Memory)
only_these items (Ok v) text bytes found all exact ab e = one_text (items v) bytes all ab (sym found ∙ e)
only_these items (Err (Bad at)) text bytes found all exact ab e = absurd (no_text text bytes at exact ab e)
only_these items (Err Memory) text bytes found all exact ab e = refl

-- of two texts of bytes at the front of one text, where no byte's text follows the first, the first is no shorter
no_longer : (xs ys p q : List ℕ) → AreBytes xs → AreBytes ys → ((byte : ℕ) (after : List ℕ) → byte < 256 → p ≢ escaped_byte byte ++ after) → escaped xs ++ p ≡ escaped ys ++ q → length (escaped ys) ≤ length (escaped xs)
no_longer xs [] p q ax ay none e = omega arith
no_longer [] (y ∷ ys) p q ax ay none e = absurd (none y (escaped ys ++ q) (All-head (λ byte. byte < 256) y ys ay) (e ∙ append_assoc (escaped_byte y) (escaped ys) q))
no_longer (x ∷ xs) (y ∷ ys) p q ax ay none e =
    let s : (x ≡ y) × (escaped xs ++ p ≡ escaped ys ++ q) = one_byte_text x y (escaped xs ++ p) (escaped ys ++ q) (All-head (λ byte. byte < 256) x xs ax) (All-head (λ byte. byte < 256) y ys ay) (sym (append_assoc (escaped_byte x) (escaped xs) p) ∙ e ∙ append_assoc (escaped_byte y) (escaped ys) q) in
    let r : length (escaped ys) ≤ length (escaped xs) = no_longer xs ys p q (All-tail (λ byte. byte < 256) x xs ax) (All-tail (λ byte. byte < 256) y ys ay) none s.1 in
    let same : length (escaped_byte x) ≡ length (escaped_byte y) = ap (λ b. length (escaped_byte b)) s.0 in
    omega (arith, length-append (escaped_byte x) (escaped xs), length-append (escaped_byte y) (escaped ys))

none_before : (text : List ℕ) (m n : ℕ) → IsFirstBad text m → IsFirstBad text n → n ≤ m
none_before text m n a b =
    let e : escaped a.before.0 ++ drop m text ≡ escaped b.before.0 ++ drop n text = ap (λ front. front ++ drop m text) (sym a.before.2) ∙ take-append-drop m text ∙ sym (take-append-drop n text) ∙ ap (λ front. front ++ drop n text) b.before.2 in
    let l : length (escaped b.before.0) ≤ length (escaped a.before.0) = no_longer a.before.0 b.before.0 (drop m text) (drop n text) a.before.1 b.before.1 a.none_at e in
    let wm : m < length text = a.within in
    let wn : n < length text = b.within in
    omega (arith, ap length a.before.2, ap length b.before.2, length-take m text, length-take n text)

-- a text has one first bad place at most
pub one_place : (text : List ℕ) (m n : ℕ) → IsFirstBad text m → IsFirstBad text n → m ≡ n
one_place text m n a b =
    let x : n ≤ m = none_before text m n a b in
    let y : m ≤ n = none_before text n m b a in
    omega arith

-- the text of some bytes more
pub texts_on : (before now after bytes : List ℕ) (at run : ℕ) → now ≡ before ++ escaped (take at bytes) → after ≡ now ++ escaped (take run (drop at bytes)) → after ≡ before ++ escaped (take (at + run) bytes)
texts_on before now after bytes at run so_far more =
    more
    ∙ ap (λ (front : List ℕ). front ++ escaped (take run (drop at bytes))) so_far
    ∙ append_assoc before (escaped (take at bytes)) (escaped (take run (drop at bytes)))
    ∙ ap (λ (text : List ℕ). before ++ text) (sym (flat_map-append escaped_byte (take at bytes) (take run (drop at bytes))) ∙ ap escaped (sym (take-add at run bytes)))
