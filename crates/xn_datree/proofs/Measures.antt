-- What is left of a walk grows less with each block, since levels fall; and no level is above 4.
use Rattle.std.proofs.Common.{◌≡◌, ℕ, zero, suc, ◌+◌, ◌-◌, ◌*◌, ◌<◌, ◌≤◌, eq-eqb, cond, Bool, List, [], ◌∷◌, ◌++◌, length, Option, Some, None, sym, ap, subst, ◌∙◌, inl, inr, arith}
use Rattle.std.specs.Prelude.{All, IfSome, ◌⊎◌, map, sum_by}
use Rattle.std.proofs.lemmas.List.Elements.{All-append, All-map}
use Rattle.std.proofs.lemmas.List.Sums.{sum_by-cons, sum_by-append}
use Rattle.std.proofs.Math.Nat.{mul-le-mul_right, zero-mul, suc-mul, add_comm}
use Rattle.std.proofs.lemmas.Bool.{cases_lt}
use Rattle.xn_bytes.specs.Numbers.{number_at}
use Rattle.xn_bytes.specs.HashedTree.{Child, node_magic}
use Rattle.xn_bytes.specs.Trees.{Asked, Visit, Met, Held, met_with, TreeFork, StandsAlone, HoldsBlock, IsAsked, IsNode, level_in, magic_in, visit_to, visits_below}

-- more than all the blocks that can stand under one of a level
abbrev pub power : ℕ → ℕ
power zero = 1
power (suc level) = 505 * power level

abbrev pub height_of : Visit → ℕ
height_of visit = elim visit.asked as (λ _. ℕ) [ None ↦ 5 | Some asked ↦ asked.level ]

abbrev pub weight : Visit → ℕ
weight visit = power (height_of visit)

-- of a child the level that is asked for is 3 at most
abbrev pub IsLow : Visit → Type 0
IsLow visit = IfSome visit.asked (λ asked. asked.level ≤ 3)

some_power : (level : ℕ) → 1 ≤ power level
some_power zero = omega arith
some_power (suc level) = let some = some_power level in omega arith

power_rises : (level high : ℕ) → level ≤ high → power level ≤ power high
power_rises level zero below = let e : level ≡ 0 = omega arith in subst (λ (l : ℕ). power l ≤ 1) (sym e) (omega arith)
power_rises level (suc high) below = elim (cases_lt level (suc high)) [
  | inl under ↦ let less = power_rises level high (omega arith) in omega arith
  | inr over ↦ let e : level ≡ suc high = omega arith in subst (λ (l : ℕ). power l ≤ power (suc high)) (sym e) (omega arith)
]

weight_of_children : (level : ℕ) (children : List Child) → sum_by weight (map (visit_to level) children) ≡ length children * power (level - 1)
weight_of_children level [] = sym (zero-mul (power (level - 1)))
weight_of_children level (child ∷ children) =
    sum_by-cons weight (visit_to level child) (map (visit_to level) children)
    ∙ ap (λ n. power (level - 1) + n) (weight_of_children level children)
    ∙ add_comm (power (level - 1)) (length children * power (level - 1))
    ∙ sym (suc-mul (length children) (power (level - 1)))

pub level_of_node : (bytes : List ℕ) (children : List Child) → IsNode bytes children → level_in bytes ≡ number_at 2 58 bytes
level_of_node bytes children node = ap (λ (b : Bool). cond b (number_at 2 58 bytes) 0) (eq-eqb (magic_in bytes) node_magic node.is_magic)

-- the children of a block weigh less than all that can stand under one of its height
fewer_below : (bytes : List ℕ) (children : List Child) (height : ℕ) → ((children ≡ []) ⊎ IsNode bytes children) → level_in bytes ≤ height
    → sum_by weight (map (visit_to (level_in bytes)) children) < power height
fewer_below bytes children height (inl none) low = let some = some_power height in subst (λ (cs : List Child). sum_by weight (map (visit_to (level_in bytes)) cs) < power height) (sym none) (omega arith)
fewer_below bytes children height (inr node) low =
    let level = level_in bytes in
    let is = level_of_node bytes children node in
    let some_level : 1 ≤ level = omega (arith, node.level) in
    let p = power (level - 1) in
    let many : length children * p ≤ 504 * p = mul-le-mul_right p node.few in
    let some = some_power (level - 1) in
    let e : suc (level - 1) ≡ level = omega arith in
    let whole : 505 * p ≡ power level = ap power e in
    let high = power_rises level height low in
    omega (arith, weight_of_children level children)

-- the level of a block that stands is at most the height of its visit, and 4
pub low_level : {E : Type 0} (H : List ℕ → List E → Type 0) (ends : List ℕ → Option (ℕ × ℕ)) (fork : TreeFork) (bytes : List ℕ) (visit : Visit) (held : Held E)
    → IsLow visit → StandsAlone H ends fork bytes visit held → (level_in bytes ≤ 4) × (level_in bytes ≤ height_of visit)
low_level H ends fork bytes visit held low alone = of_asked visit.asked alone.asked low where
  of_asked : (asked : Option Asked) → IsAsked bytes held.ends asked → IfSome asked (λ a. a.level ≤ 3) → (level_in bytes ≤ 4) × (level_in bytes ≤ (elim asked as (λ _. ℕ) [ None ↦ 5 | Some a ↦ a.level ]))
  of_asked None is low = (is, omega (arith, is))
  of_asked (Some a) is low = (omega (arith, is.0), omega (arith, is.0))

children_or_node : {E : Type 0} (H : List ℕ → List E → Type 0) (ends : List ℕ → Option (ℕ × ℕ)) (bytes : List ℕ) (held : Held E) → HoldsBlock H ends bytes held → (held.children ≡ []) ⊎ IsNode bytes held.children
children_or_node H ends bytes held holds = elim holds [ inl leaf ↦ inl leaf.1 | inr node ↦ inr node.0 ]

pub lesser : {E : Type 0} (H : List ℕ → List E → Type 0) (ends : List ℕ → Option (ℕ × ℕ)) (fork : TreeFork) (bytes : List ℕ) (visit : Visit) (agenda : List Visit) (held : Held E)
    → IsLow visit → StandsAlone H ends fork bytes visit held → sum_by weight (visits_below bytes held ++ agenda) < sum_by weight (visit ∷ agenda)
lesser H ends fork bytes visit agenda held low alone =
    let level = low_level H ends fork bytes visit held low alone in
    let fewer = fewer_below bytes held.children (height_of visit) (children_or_node H ends bytes held alone.holds) level.1 in
    omega (arith, sum_by-append weight (visits_below bytes held) agenda, sum_by-cons weight visit agenda)

-- the children that are asked for are low too
pub low_below : (bytes : List ℕ) (children : List Child) (agenda : List Visit) → level_in bytes ≤ 4 → All IsLow agenda → All IsLow (map (visit_to (level_in bytes)) children ++ agenda)
low_below bytes children agenda level low =
    All-append IsLow (map (visit_to (level_in bytes)) children) agenda (All-map IsLow (visit_to (level_in bytes)) children (λ k d below. omega arith)) low

-- ---- from one moment of a walk to the next

pub none_met_low : (met : List Met) → met ≡ [] → All (λ one. one.level ≤ 4) met
none_met_low met e = rw e (λ k d below. absurd (omega arith))

pub first_low : (agenda : List Visit) (visit : Visit) → agenda ≡ visit ∷ [] → visit.asked ≡ None → All IsLow agenda
first_low agenda visit e none = rw e (one_low visit none) where
  one_low : (v : Visit) → v.asked ≡ None → All IsLow (v ∷ [])
  one_low v none zero d below = rw none tt
  one_low v none (suc k) d below = absurd (omega arith)

popped_low : (visit : Visit) (rest : List Visit) → All IsLow (visit ∷ rest) → IsLow visit × All IsLow rest
popped_low visit rest low = (low 0 visit (omega arith), λ k d below. low (suc k) d (omega arith))

module _ {E : Type 0} (H : List ℕ → List E → Type 0) (ends : List ℕ → Option (ℕ × ℕ)) (fork : TreeFork) (bytes : List ℕ) (visit : Visit) (held : Held E) (whole rest agenda : List Visit) (level : ℕ) where
  pub smaller : whole ≡ visit ∷ rest → All IsLow whole → StandsAlone H ends fork bytes visit held → level ≡ level_in bytes → agenda ≡ map (visit_to level) held.children ++ rest
      → sum_by weight agenda < sum_by weight whole
  smaller w low alone l a =
      let all = subst (All IsLow) w low in
      let less = lesser H ends fork bytes visit rest held (popped_low visit rest all).0 alone in
      rw (w, a, l) less

  pub still_low : whole ≡ visit ∷ rest → All IsLow whole → StandsAlone H ends fork bytes visit held → level ≡ level_in bytes → agenda ≡ map (visit_to level) held.children ++ rest
      → All IsLow agenda
  still_low w low alone l a =
      let all = popped_low visit rest (subst (All IsLow) w low) in
      rw (a, l) (low_below bytes held.children rest (low_level H ends fork bytes visit held all.0 alone).0 all.1)

  pub met_low : (met met' : List Met) → whole ≡ visit ∷ rest → All IsLow whole → StandsAlone H ends fork bytes visit held → All (λ one. one.level ≤ 4) met → met' ≡ met_with bytes visit held.ends ∷ met
      → All (λ one. one.level ≤ 4) met'
  met_low met met' w low alone below m =
      let all = popped_low visit rest (subst (All IsLow) w low) in
      rw m (more_low (met_with bytes visit held.ends) met (low_level H ends fork bytes visit held all.0 alone).0 below) where
        more_low : (one : Met) (others : List Met) → one.level ≤ 4 → All (λ m. m.level ≤ 4) others → All (λ m. m.level ≤ 4) (one ∷ others)
        more_low one others here low zero d below = here
        more_low one others here low (suc k) d below = low k d (omega arith)
