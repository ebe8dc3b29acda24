-- Which file blocks were met, and on which level.
use Rattle.std.proofs.Common.{◌≡◌, ◌≢◌, ℕ, suc, ◌+◌, ◌<◌, ◌≤◌, eq-eqb, cond, Bool, true, false, List, [], ◌∷◌, length, get_or, drop, Some, None, refl, sym, ap, ◌∙◌, inl, inr, arith}
use Rattle.std.specs.Prelude.{All, Any, IsTrue, IfSome, not, ◌==◌}
use Rattle.std.specs.List.{list_any}
use Rattle.std.proofs.lemmas.Bool.{eqb-true, false≢true}
use Rattle.std.proofs.lemmas.List.{drop_all, get_or_default}
use Rattle.std.proofs.lemmas.Bool.Decides.{eqb_tells}
use Rattle.std.proofs.lemmas.List.Folds.{Any-from_list_any, list_any-from_Any}
use Rattle.std.proofs.lemmas.Bool.{cases_lt}
use Rattle.xn_bytes.specs.Trees.{Met, left_on, AreEnds, IsOpenEnd}
use Rattle.xn_datree.proofs.Rising.{drop_at}

-- what no test finds was not met, and what one finds was
pub not_met : (met : List Met) (file_block : ℕ) → list_any (λ one. one.file_block == file_block) met ≡ false → All (λ one. one.file_block ≢ file_block) met
not_met met file_block none k d below same =
    let found : Any (λ (one : Met). (one.file_block == file_block) ≡ true) met = (k, get_or met k d, below, get_or_default met k (get_or met k d) d below, eq-eqb (get_or met k d).file_block file_block same) in
    false≢true (sym none ∙ list_any-from_Any (λ (one : Met). one.file_block == file_block) met found)

pub was_met : (met : List Met) (file_block : ℕ) → list_any (λ one. one.file_block == file_block) met ≡ true → All (λ one. one.file_block ≢ file_block) met → ⊥
was_met met file_block found all =
    let any = Any-from_list_any (λ (one : Met). one.file_block == file_block) met found in
    all any.0 any.1 any.2 (ap (λ (one : Met). one.file_block) any.3 ∙ eqb-true _ _ any.4)

-- ---- the last of a level

pub level_is : (level : ℕ) (one : Met) (rest : List Met) → one.level ≡ level → left_on level (one ∷ rest) ≡ Some one
level_is level one rest same = ap (λ (b : Bool). cond b (Some one) (left_on level rest)) (eq-eqb one.level level same)

pub other_level : (level : ℕ) (one : Met) (rest : List Met) → (one.level ≡ level → ⊥) → left_on level (one ∷ rest) ≡ left_on level rest
other_level level one rest other = elim (eqb_tells one.level level) [
  | inl same ↦ absurd (other same.1)
  | inr differs ↦ ap (λ (b : Bool). cond b (Some one) (left_on level rest)) differs.0
]

pub found_there : (level at : ℕ) (met : List Met) (one : Met) → at < length met → one ≡ get_or met at one → one.level ≡ level
    → left_on level (drop at met) ≡ left_on level met → Some one ≡ left_on level met
found_there level at met one below is same so_far =
    sym (level_is level one (drop (at + 1) met) same) ∙ ap (left_on level) (sym (drop_at met at one below is)) ∙ so_far

pub goes_past : (level at : ℕ) (met : List Met) (one : Met) → at < length met → one ≡ get_or met at one → (one.level ≡ level → ⊥)
    → left_on level (drop at met) ≡ left_on level met → left_on level (drop (at + 1) met) ≡ left_on level met
goes_past level at met one below is other so_far =
    sym (other_level level one (drop (at + 1) met) other) ∙ ap (left_on level) (sym (drop_at met at one below is)) ∙ so_far

pub none_there : (level at : ℕ) (met : List Met) → length met ≤ at → left_on level (drop at met) ≡ left_on level met → None ≡ left_on level met
none_there level at met past so_far = ap (left_on level) (sym (drop_all at met past)) ∙ so_far

pub is_new : (met : List Met) (file_block : ℕ) (found : Bool) → found ≡ list_any (λ one. one.file_block == file_block) met
    → (IsTrue (not found) → All (λ one. one.file_block ≢ file_block) met) × (All (λ one. one.file_block ≢ file_block) met → IsTrue (not found))
is_new met file_block true is = (λ f. absurd (false≢true f), λ all. absurd (was_met met file_block (sym is) all))
is_new met file_block false is = (λ t. not_met met file_block (sym is), λ all. refl)

-- ---- above the highest level nothing was met

pub none_above : (met : List Met) (level : ℕ) → All (λ one. one.level ≤ 4) met → 4 < level → left_on level met ≡ None
none_above [] level low above = refl
none_above (one ∷ met) level low above =
    let first : one.level ≤ 4 = low 0 one (omega arith) in
    other_level level one met (omega arith) ∙ none_above met level (λ k d below. low (suc k) d (omega arith)) above

pub ends_above : (met : List Met) (level : ℕ) → All (λ one. one.level ≤ 4) met → 4 < level → IfSome (left_on level met) (λ one. one.right ≡ 0)
ends_above met level low above = rw (none_above met level low above) tt

pub are_ends : (met : List Met) → All (λ one. one.level ≤ 4) met → ((level : ℕ) → 0 ≤ level → level < 5 → IfSome (left_on level met) (λ one. one.right ≡ 0)) → AreEnds met
are_ends met low below level = elim (cases_lt level 5) [
  | inl within ↦ below level (omega arith) within
  | inr past ↦ ends_above met level low (omega arith)
]

pub is_open_end : (met : List Met) (level : ℕ) (last : Met) → All (λ one. one.level ≤ 4) met → left_on level met ≡ Some last → (last.right ≡ 0 → ⊥)
    → ((other : ℕ) → level + 1 ≤ other → other < 5 → IfSome (left_on other met) (λ one. one.right ≡ 0)) → IsOpenEnd met last
is_open_end met level last low is open_end higher = record {
  level = level;
  is_last = is;
  open_end = open_end;
  higher = λ other above. elim (cases_lt other 5) [
    | inl within ↦ higher other (omega arith) within
    | inr past ↦ ends_above met other low (omega arith)
  ];
}
