-- The parts of a text: its lines, and the words of a line.
use Rattle.std.proofs.Common.{◌≡◌, ◌≢◌, ℕ, zero, suc, ◌+◌, ◌<◌, List, [], ◌∷◌, ◌++◌, length, get_or, take, drop, Option, Some, None, Result, Ok, Err, refl, sym, ap, subst, ◌∙◌, arith, inl, inr, append_assoc, Bor}
use Rattle.std.specs.Prelude.{IfSome, MatchResult}
use Rattle.std.specs.Result.{result_ok}
use Rattle.std.specs.Str.{IsAscii, IsUtf8}
use Rattle.std.proofs.lemmas.Bool.Decides.{eqb_tells, nat_tests}
use Rattle.std.proofs.lemmas.List.{append_cancel_left}
use Rattle.std.proofs.lemmas.Str.{IsAscii-append, IsUtf8-from_ascii}
use Rattle.std.proofs.lemmas.Str.Pattern.{IsSplitOnceResult, split_parts, split_after}
use Rattle.memchr.specs.Find.{IsFirstByte, is_byte}
use Rattle.xn_meaning.specs.Manifests.{lines_in}
use Rattle.xn_meaning.specs.Replies.{newline, space}
use Rattle.xn_text.specs.Parts.{AreWords, AreTheWords}

-- ---- lines

line_before : (at : ℕ) (text : List ℕ) → at < length text → get_or text at 0 ≡ newline → ((k : ℕ) → k < at → get_or text k 0 ≢ newline) → lines_in text ≡ take at text ∷ lines_in (drop (suc at) text)
line_before at [] within is none = absurd (omega (arith, within))
line_before zero (byte ∷ rest) within is none = rw is refl
line_before (suc at) (byte ∷ rest) within is none =
    let other = none 0 (omega arith) in
    let further = line_before at rest (omega (arith, within)) is (λ k before. none (suc k) (omega (arith, before))) in
    elim (eqb_tells byte newline) [
      | inl equal ↦ absurd (other equal.1)
      | inr differ ↦ rw differ.0 (rw further refl)
    ]

one_line : (byte : ℕ) (rest : List ℕ) → ((k : ℕ) → k < length (byte ∷ rest) → get_or (byte ∷ rest) k 0 ≢ newline) → lines_in (byte ∷ rest) ≡ (byte ∷ rest) ∷ []
one_line byte [] none =
    let other = none 0 (omega arith) in
    elim (eqb_tells byte newline) [ inl equal ↦ absurd (other equal.1) | inr differ ↦ rw differ.0 refl ]
one_line byte (next ∷ rest) none =
    let other = none 0 (omega arith) in
    let further = one_line next rest (λ k within. none (suc k) (omega (arith, within))) in
    elim (eqb_tells byte newline) [
      | inl equal ↦ absurd (other equal.1)
      | inr differ ↦ rw differ.0 (rw further refl)
    ]

-- the first line ends in front of the first newline
pub line_to : (at : ℕ) (text : List ℕ) → IsFirstByte (is_byte newline) text (Some at) → lines_in text ≡ take at text ∷ lines_in (drop (at + 1) text)
line_to at text found =
    let within = found.0.high in
    let is : get_or text at 0 ≡ newline = grind (arith, nat_tests, found.1) in
    let none : (k : ℕ) → k < at → get_or text k 0 ≢ newline = λ k before same. found.0.before k (omega arith) before (grind (arith, nat_tests, same)) in
    let next : suc at ≡ at + 1 = omega arith in
    line_before at text within is none ∙ ap (λ (n : ℕ). take at text ∷ lines_in (drop n text)) next

-- a text without one is a line
pub whole_line : (text : List ℕ) → 0 < length text → IsFirstByte (is_byte newline) text None → lines_in text ≡ text ∷ []
whole_line [] some nowhere = absurd (omega (arith, some))
whole_line (byte ∷ rest) some nowhere =
    one_line byte rest (λ k within same. nowhere k (omega arith) within (grind (arith, nat_tests, same)))

-- ---- words

ascii_space : (second : List ℕ) → IsAscii second → IsAscii (space ∷ second)
ascii_space second ascii zero = omega arith
ascii_space second ascii (suc k) = ascii k

pub words_utf8 : (first second : List ℕ) → AreWords first second → IsUtf8 (first ++ space ∷ second)
words_utf8 first second are = IsUtf8-from_ascii _ (IsAscii-append first (space ∷ second) are.first_ascii (ascii_space second are.second_ascii))

pub behind_front : (line front first second rest : List ℕ) → line ≡ front ++ rest → line ≡ front ++ first ++ space ∷ second → rest ≡ first ++ space ∷ second
behind_front line front first second rest e same =
    append_cancel_left front rest (first ++ space ∷ second) (sym e ∙ same ∙ append_assoc front first (space ∷ second))

pub found_words : (r : Option (Bor (List ℕ) × Bor (List ℕ))) (line front text : List ℕ) → line ≡ front ++ text → IsSplitOnceResult space text r → IfSome r (λ words. line ≡ front ++ words.0.now ++ space ∷ words.1.now)
found_words None line front text e h = tt
found_words (Some words) line front text e h =
    e ∙ ap (λ (t : List ℕ). front ++ t) (split_parts space text (Some words) h (omega arith)).0 ∙ sym (append_assoc front words.0.now (space ∷ words.1.now))

pub only_words : (r : Option (Bor (List ℕ) × Bor (List ℕ))) (text first second : List ℕ) → IsSplitOnceResult space text r → AreWords first second → text ≡ first ++ space ∷ second → AreTheWords first second r
only_words r text first second h are e = split_after space text first second r h (omega arith) e are.no_space

-- ---- what `ok` says of a result

pub err_of : {T E : Type 0} (r : Result T E) (P : T → Type 0) (Q : E → Type 0) → None ≡ result_ok r → MatchResult r P Q → (e : E) × Q e
err_of (Ok x) P Q none m = absurd cc
err_of (Err e) P Q none m = (e, m)

pub ok_of : {T E : Type 0} (r : Result T E) (P : T → Type 0) (Q : E → Type 0) (x : T) → Some x ≡ result_ok r → MatchResult r P Q → P x
ok_of (Ok y) P Q x some m = let e : y ≡ x = cc in subst P e m
ok_of (Err e) P Q x some m = absurd cc
