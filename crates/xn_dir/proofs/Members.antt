-- What is in a list, through `filter` and `map`; and lists without repetition that have the same members.
use Rattle.std.proofs.Common.{◌≡◌, zero, suc, ◌+◌, Bool, true, false, List, [], ◌∷◌, ◌++◌, length, get_or, map, refl, sym, ap, subst, ◌∙◌, arith, inl, inr}
use Rattle.std.specs.Prelude.{◌⊎◌, All, Contains, IsPermutation, filter}
use Rattle.std.proofs.lemmas.List.{length-append}
use Rattle.std.proofs.lemmas.List.Elements.{Contains-get_or, Contains-append_left, Contains-append_right, Contains-append_cases}
use Rattle.std.proofs.lemmas.List.Sorted.{IsPermutation-refl, IsPermutation-cons, IsPermutation-middle, IsPermutation-sym, IsPermutation-trans}

pub at_front : {X : Type 0} (x : X) (xs : List X) → Contains (x ∷ xs) x
at_front x xs = (0, omega arith, refl)

pub behind_front : {X : Type 0} (x y : X) (xs : List X) → Contains xs y → Contains (x ∷ xs) y
behind_front x y xs within = (suc within.0, omega (arith, within.1), within.2)

pub front_or_behind : {X : Type 0} (x y : X) (xs : List X) → Contains (x ∷ xs) y → (x ≡ y) ⊎ Contains xs y
front_or_behind x y xs (zero, below, same) = inl same
front_or_behind x y xs (suc k, below, same) = inr (k, omega (arith, below), same)

pub in_none : {X : Type 0} (y : X) → Contains [] y → ⊥
in_none y within = omega (arith, within.1)

filter_yes : {X : Type 0} (p : X → Bool) (x : X) (xs : List X) → p x ≡ true → filter p (x ∷ xs) ≡ x ∷ filter p xs
filter_yes p x xs t = rw t refl

filter_no : {X : Type 0} (p : X → Bool) (x : X) (xs : List X) → p x ≡ false → filter p (x ∷ xs) ≡ filter p xs
filter_no p x xs f = rw f refl

pub yes_or_no : (b : Bool) → (b ≡ true) ⊎ (b ≡ false)
yes_or_no true = inl refl
yes_or_no false = inr refl

pub in_filter : {X : Type 0} (p : X → Bool) (xs : List X) (y : X) → p y ≡ true → Contains xs y → Contains (filter p xs) y
in_filter p [] y t within = absurd (in_none y within)
in_filter p (x ∷ xs) y passes within = elim (yes_or_no (p x)) [
  | inl t ↦ rw (filter_yes p x xs t) (elim (front_or_behind x y xs within) [
    | inl same ↦ subst (λ z. Contains (x ∷ filter p xs) z) same (at_front x (filter p xs))
    | inr behind ↦ behind_front x y (filter p xs) (in_filter p xs y passes behind)
  ])
  | inr f ↦ rw (filter_no p x xs f) (elim (front_or_behind x y xs within) [
    | inl same ↦ let fails : p y ≡ false = ap p (sym same) ∙ f in absurd cc
    | inr behind ↦ in_filter p xs y passes behind
  ])
]

pub of_filter : {X : Type 0} (p : X → Bool) (xs : List X) (y : X) → Contains (filter p xs) y → Contains xs y × (p y ≡ true)
of_filter p [] y within = absurd (in_none y within)
of_filter p (x ∷ xs) y within = elim (yes_or_no (p x)) [
  | inl t ↦ elim (front_or_behind x y (filter p xs) (subst (λ zs. Contains zs y) (filter_yes p x xs t) within)) [
    | inl same ↦ (subst (λ z. Contains (x ∷ xs) z) same (at_front x xs), ap p (sym same) ∙ t)
    | inr behind ↦ let rest = of_filter p xs y behind in (behind_front x y xs rest.0, rest.1)
  ]
  | inr f ↦ let rest = of_filter p xs y (subst (λ zs. Contains zs y) (filter_no p x xs f) within) in (behind_front x y xs rest.0, rest.1)
]

pub in_map : {X Y : Type 0} (f : X → Y) (xs : List X) (x : X) → Contains xs x → Contains (map f xs) (f x)
in_map f [] x within = absurd (in_none x within)
in_map f (y ∷ xs) x within = elim (front_or_behind y x xs within) [
  | inl same ↦ subst (λ z. Contains (map f (y ∷ xs)) (f z)) same (at_front (f y) (map f xs))
  | inr behind ↦ behind_front (f y) (f x) (map f xs) (in_map f xs x behind)
]

pub of_map : {X Y : Type 0} (f : X → Y) (xs : List X) (y : Y) → Contains (map f xs) y → (x : X) × Contains xs x × (f x ≡ y)
of_map f [] y within = absurd (in_none y within)
of_map f (x ∷ xs) y within = elim (front_or_behind (f x) y (map f xs) within) [
  | inl same ↦ (x, at_front x xs, same)
  | inr behind ↦ let rest = of_map f xs y behind in (rest.0, behind_front x rest.0 xs rest.1, rest.2)
]

-- ---- lists of different members

-- each is another than those behind it
abbrev pub AreDifferent : {X : Type 0} → List X → Type 0
AreDifferent [] = Unit {0}
AreDifferent (x ∷ xs) = (Contains xs x → ⊥) × AreDifferent xs

-- a list cut at a member
record Cut {X : Type 0} (ys : List X) (x : X) : Type 0 where
  before : List X
  after : List X
  whole : ys ≡ before ++ x ∷ after

cut : {X : Type 0} (ys : List X) (x : X) → Contains ys x → Cut ys x
cut [] x within = absurd (in_none x within)
cut (y ∷ ys) x within = elim (front_or_behind y x ys within) [
  | inl same ↦ record { before = []; after = ys; whole = ap (λ z. z ∷ ys) same }
  | inr behind ↦ let c = cut ys x behind in record { before = y ∷ c.before; after = c.after; whole = ap (λ zs. y ∷ zs) c.whole }
]

-- another member is in what is left of a list that was cut
left_of_cut : {X : Type 0} (ys : List X) (x z : X) (c : Cut ys x) → (x ≡ z → ⊥) → Contains ys z → Contains (c.before ++ c.after) z
left_of_cut ys x z c other within =
    elim (Contains-append_cases c.before (x ∷ c.after) z (subst (λ zs. Contains zs z) c.whole within)) [
      | inl front ↦ Contains-append_left c.before c.after z front
      | inr rest ↦ elim (front_or_behind x z c.after rest) [
        | inl same ↦ absurd (other same)
        | inr behind ↦ Contains-append_right c.before c.after z behind
      ]
    ]

-- Different members, all of them in a list that is as long: the lists are the same but for the order.
pub as_many : {X : Type 0} (xs ys : List X) → AreDifferent xs → All (Contains ys) xs → length ys ≡ length xs → IsPermutation xs ys
as_many [] [] different within long = IsPermutation-refl []
as_many [] (y ∷ ys) different within long = absurd (omega (arith, long))
as_many (x ∷ xs) ys different within long =
    let c = cut ys x (within 0 x (omega arith)) in
    let total : length ys ≡ length c.before + suc (length c.after) = ap length c.whole ∙ length-append c.before (x ∷ c.after) in
    let shorter : length (c.before ++ c.after) ≡ length xs = length-append c.before c.after ∙ omega (arith, total, long) in
    let others : All (Contains (c.before ++ c.after)) xs = λ i d below.
    left_of_cut ys x (get_or xs i d) c
    (λ same. different.0 (subst (λ z. Contains xs z) (sym same) (Contains-get_or xs i d below)))
    (within (suc i) d (omega (arith, below))) in
    let rest : IsPermutation xs (c.before ++ c.after) = as_many xs (c.before ++ c.after) different.1 others shorter in
    subst (λ zs. IsPermutation (x ∷ xs) zs) (sym c.whole)
    (IsPermutation-trans (x ∷ xs) (x ∷ (c.before ++ c.after)) (c.before ++ x ∷ c.after)
    (IsPermutation-cons x xs (c.before ++ c.after) rest)
    (IsPermutation-sym (c.before ++ x ∷ c.after) (x ∷ (c.before ++ c.after)) (IsPermutation-middle c.before x c.after)))
