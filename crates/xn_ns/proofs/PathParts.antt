-- The parts of a path, from its front: slashes add none, and what stands in front of a slash is one.
use Rattle.std.proofs.Common.{◌≡◌, ◌≢◌, ℕ, zero, suc, ◌+◌, ◌<◌, ◌≤◌, Bool, true, false, List, [], ◌∷◌, length, get_or, take, drop, Some, None, refl, sym, ap, subst, ◌∙◌, arith, inl, inr}
use Rattle.std.specs.Prelude.{◌==◌, nat_lt, not, filter, position}
use Rattle.std.specs.List.{position_or_len}
use Rattle.std.proofs.lemmas.Bool.{cases_eq}
use Rattle.std.proofs.lemmas.Bool.Decides.{eqb_tells, nat_tests}
use Rattle.std.proofs.lemmas.Grind.{common_steps}
use Rattle.std.proofs.lemmas.List.{drop_all, drop_more, get_or-drop, length-take, length-drop}
use Rattle.std.proofs.lemmas.List.Quantifiers.{position-Some}
use Rattle.memchr.specs.Find.{IsFirstByte, is_byte}
use Rattle.xn_meaning.specs.Paths.{slash, pieces_of, parts_of}

-- ---- slashes in front

abbrev no_slash : ℕ → Bool
no_slash byte = not (byte == slash)

drop_first : (n byte : ℕ) (path : List ℕ) → drop (1 + n) (byte ∷ path) ≡ drop n path
drop_first n byte path = let e : 1 + n ≡ suc n = omega arith in rw e refl

stays : (byte : ℕ) (path : List ℕ) → (byte == slash) ≡ false → drop (position_or_len no_slash (byte ∷ path)) (byte ∷ path) ≡ byte ∷ path
stays byte path differs = rw differs refl

behind_slashes : (path : List ℕ) → parts_of path ≡ parts_of (drop (position_or_len no_slash path) path)
behind_slashes [] = refl
behind_slashes (byte ∷ path) = elim (eqb_tells byte slash) [
  | inl equal ↦ rw equal.0 (rw (drop_first (position_or_len no_slash path) byte path) (behind_slashes path))
  | inr differ ↦ ap parts_of (sym (stays byte path differ.0))
]

pub only_slashes : (path : List ℕ) → None ≡ position no_slash path → parts_of path ≡ []
only_slashes path none =
    let past : length path ≤ position_or_len no_slash path = grind (arith, nat_tests, common_steps) in
    behind_slashes path ∙ ap parts_of (drop_all (position_or_len no_slash path) path past)

pub from_first : (path : List ℕ) (start : ℕ) → Some start ≡ position no_slash path → parts_of path ≡ parts_of (drop start path)
from_first path start is =
    let same : position_or_len no_slash path ≡ start = grind (arith, nat_tests, common_steps) in
    subst (λ (n : ℕ). parts_of path ≡ parts_of (drop n path)) same (behind_slashes path)

-- ---- a piece

piece_before : (at : ℕ) (rest : List ℕ) → at < length rest → get_or rest at 0 ≡ slash → ((k : ℕ) → k < at → get_or rest k 0 ≢ slash) → pieces_of rest ≡ take at rest ∷ pieces_of (drop (suc at) rest)
piece_before at [] within is none = absurd (omega (arith, within))
piece_before zero (byte ∷ rest) within is none = rw is refl
piece_before (suc at) (byte ∷ rest) within is none =
    let other = none 0 (omega arith) in
    let further = piece_before at rest (omega (arith, within)) is (λ k before. none (suc k) (omega (arith, before))) in
    elim (eqb_tells byte slash) [
      | inl equal ↦ absurd (other equal.1)
      | inr differ ↦ rw differ.0 (rw further refl)
    ]

one_piece : (rest : List ℕ) → ((k : ℕ) → k < length rest → get_or rest k 0 ≢ slash) → pieces_of rest ≡ rest ∷ []
one_piece [] none = refl
one_piece (byte ∷ rest) none =
    let other = none 0 (omega arith) in
    let further = one_piece rest (λ k within. none (suc k) (omega (arith, within))) in
    elim (eqb_tells byte slash) [
      | inl equal ↦ absurd (other equal.1)
      | inr differ ↦ rw differ.0 (rw further refl)
    ]

-- ---- a part

kept : (piece : List ℕ) (pieces : List (List ℕ)) → 0 < length piece → filter (λ bytes. nat_lt 0 (length bytes)) (piece ∷ pieces) ≡ piece ∷ filter (λ bytes. nat_lt 0 (length bytes)) pieces
kept piece pieces some = let passes : nat_lt 0 (length piece) ≡ true = grind (arith, nat_tests, common_steps) in rw passes refl

-- a path that begins with no slash has its first part up to the first slash
pub part_before : (at : ℕ) (rest : List ℕ) → get_or rest 0 0 ≢ slash → IsFirstByte (is_byte slash) rest (Some at) → parts_of rest ≡ take at rest ∷ parts_of (drop at rest)
part_before at rest first found =
    let within = found.0.high in
    let is : get_or rest at 0 ≡ slash = grind (arith, nat_tests, found.1) in
    let none : (k : ℕ) → k < at → get_or rest k 0 ≢ slash = λ k before same. found.0.before k (omega arith) before (grind (arith, nat_tests, same)) in
    let later : 0 < at = elim (cases_eq at 0) [ inl zero_at ↦ absurd (first (subst (λ (n : ℕ). get_or rest n 0 ≡ slash) zero_at is)) | inr other ↦ omega (arith, other) ] in
    let long : 0 < length (take at rest) = omega (arith, length-take at rest, later, within) in
    let behind : parts_of (drop at rest) ≡ parts_of (drop (suc at) rest) = let e : at + 1 ≡ suc at = omega arith in rw (drop_more rest at 0 within, is, e) refl in
    rw (piece_before at rest within is none, kept (take at rest) (pieces_of (drop (suc at) rest)) long, behind) refl

-- one without a slash is a part
pub one_part : (rest : List ℕ) → 0 < length rest → IsFirstByte (is_byte slash) rest None → parts_of rest ≡ rest ∷ []
one_part rest some nowhere =
    let none : (k : ℕ) → k < length rest → get_or rest k 0 ≢ slash = λ k within same. nowhere k (omega arith) within (grind (arith, nat_tests, same)) in
    rw (one_piece rest none, kept rest [] some) refl

-- what is left from the first byte that is no slash on
pub record Begins (path rest : List ℕ) : Type 0 where
  pub same : parts_of path ≡ parts_of rest
  pub some : 0 < length rest
  pub first : get_or rest 0 0 ≢ slash

pub begins : (path rest : List ℕ) (start : ℕ) → Some start ≡ position no_slash path → rest ≡ drop start path → Begins path rest
begins path rest start is rest_is =
    let passes = position-Some no_slash path start 0 (sym is) in
    let at : get_or rest 0 0 ≡ get_or path start 0 = rw (rest_is, get_or-drop start path 0 0) (ap (λ (n : ℕ). get_or path n 0) (omega arith)) in
    record {
      same = rw rest_is (from_first path start is);
      some = rw rest_is (omega (arith, length-drop start path, passes.0));
      first = λ same. grind (arith, nat_tests, passes.1, at, same);
    }
