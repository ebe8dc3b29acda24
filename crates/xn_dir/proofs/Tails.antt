-- Leaf entries gone over one by one: whether their hashes rise, and how many of them are stale.
use Rattle.std.proofs.Common.{◌≡◌, ◌≢◌, ℕ, zero, suc, ◌+◌, ◌-◌, ◌<◌, ◌≤◌, Bool, true, false, cond, List, [], ◌∷◌, length, get_or, refl, sym, ap, subst, ◌∙◌, arith}
use Rattle.std.specs.Prelude.{count_by, filter, not}
use Rattle.std.proofs.lemmas.List.Sums.{sum_by-cons, length-filter}
use Rattle.std.proofs.lemmas.List.Filters.{length-filter_both}
use Rattle.xn_bytes.specs.DataBlock.{DataForm, LeafEntry}
use Rattle.xn_bytes.specs.DirectoryForms.{AreSorted, HasTail}
use Rattle.xn_bytes.specs.HashedTree.{is_stale}

-- no hash is below the one in front of it, the first of them not below `least`
abbrev pub RiseFrom : ℕ → List LeafEntry → Type 0
RiseFrom least [] = Unit {0}
RiseFrom least (leaf ∷ leaves) = (least ≤ leaf.hash) × RiseFrom leaf.hash leaves

all_behind : (least : ℕ) (leaves : List LeafEntry) → RiseFrom least leaves → (j : ℕ) (d : LeafEntry) → j < length leaves → least ≤ (get_or leaves j d).hash
all_behind least [] rise j d below = absurd (omega arith)
all_behind least (leaf ∷ leaves) rise zero d below = rise.0
all_behind least (leaf ∷ leaves) rise (suc j) d below =
    let rest : leaf.hash ≤ (get_or leaves j d).hash = all_behind leaf.hash leaves rise.1 j d (omega arith) in
    omega (arith, rise.0, rest)

sorted_from : (least : ℕ) (leaves : List LeafEntry) → RiseFrom least leaves → AreSorted leaves
sorted_from least [] rise i j d h below = absurd (omega arith)
sorted_from least (leaf ∷ leaves) rise zero zero d h below = omega arith
sorted_from least (leaf ∷ leaves) rise zero (suc j) d h below = all_behind leaf.hash leaves rise.1 j d (omega arith)
sorted_from least (leaf ∷ leaves) rise (suc i) zero d h below = absurd (omega arith)
sorted_from least (leaf ∷ leaves) rise (suc i) (suc j) d h below = sorted_from leaf.hash leaves rise.1 i j d (omega arith) (omega arith)

rise_from : (least : ℕ) (leaves : List LeafEntry) → ((j : ℕ) (d : LeafEntry) → j < length leaves → least ≤ (get_or leaves j d).hash) → AreSorted leaves → RiseFrom least leaves
rise_from least [] low sorted = tt
rise_from least (leaf ∷ leaves) low sorted = (
  low 0 leaf (omega arith),
  rise_from leaf.hash leaves (λ j d below. sorted 0 (suc j) d (omega arith) (omega arith)) (λ i j d h below. sorted (suc i) (suc j) d (omega arith) (omega arith)),
)

pub record Goes (form : DataForm) (least stale : ℕ) (left : List LeafEntry) : Type 0 where
  pub sorted : RiseFrom least left → RiseFrom 0 form.leaves
  pub rising : RiseFrom 0 form.leaves → RiseFrom least left
  pub counted : stale ≡ count_by is_stale left → form.stale ≡ count_by is_stale form.leaves
  pub counts : form.stale ≡ count_by is_stale form.leaves → stale ≡ count_by is_stale left

pub goes_first : (form : DataForm) (stale : ℕ) (left : List LeafEntry) → stale ≡ form.stale → left ≡ form.leaves → Goes form 0 stale left
goes_first form stale left stale_is left_is = record {
  sorted = λ r. subst (RiseFrom 0) left_is r;
  rising = λ r. subst (RiseFrom 0) (sym left_is) r;
  counted = λ e. sym stale_is ∙ e ∙ ap (count_by is_stale) left_is;
  counts = λ e. stale_is ∙ e ∙ ap (count_by is_stale) (sym left_is);
}

count_cons : (leaf : LeafEntry) (leaves : List LeafEntry) → count_by is_stale (leaf ∷ leaves) ≡ cond (is_stale leaf) 1 0 + count_by is_stale leaves
count_cons leaf leaves = sum_by-cons (λ one. cond (is_stale one) 1 0) leaf leaves

count_stale : (leaf : LeafEntry) (leaves : List LeafEntry) → is_stale leaf ≡ true → count_by is_stale (leaf ∷ leaves) ≡ 1 + count_by is_stale leaves
count_stale leaf leaves t = count_cons leaf leaves ∙ ap (λ (b : Bool). cond b 1 0 + count_by is_stale leaves) t

count_live : (leaf : LeafEntry) (leaves : List LeafEntry) → is_stale leaf ≡ false → count_by is_stale (leaf ∷ leaves) ≡ count_by is_stale leaves
count_live leaf leaves f = count_cons leaf leaves ∙ ap (λ (b : Bool). cond b 1 0 + count_by is_stale leaves) f ∙ omega arith

risen : (least : ℕ) (leaf : LeafEntry) (after : List LeafEntry) → RiseFrom least (leaf ∷ after) → RiseFrom leaf.hash after
risen least leaf after rise = rise.1

-- a hash that is less than the one before
pub falls : (form : DataForm) (least stale : ℕ) (leaf : LeafEntry) (left after : List LeafEntry) → left ≡ leaf ∷ after → leaf.hash < least → Goes form least stale left → HasTail form → ⊥
falls form least stale leaf left after step less goes tail =
    let rise : RiseFrom least (leaf ∷ after) = subst (RiseFrom least) step (goes.rising (rise_from 0 form.leaves (λ j d below. omega arith) tail.sorted)) in
    omega (arith, rise.0, less)

-- a stale one past the count
pub past_count : (form : DataForm) (least stale : ℕ) (leaf : LeafEntry) (left after : List LeafEntry) → left ≡ leaf ∷ after → is_stale leaf ≡ true → stale ≡ 0 → Goes form least stale left → HasTail form → ⊥
past_count form least stale leaf left after step is none goes tail =
    let e : stale ≡ 1 + count_by is_stale after = goes.counts tail.stale ∙ ap (count_by is_stale) step ∙ count_stale leaf after is in
    omega (arith, e, none)

pub goes_stale : (form : DataForm) (least stale hash : ℕ) (leaf : LeafEntry) (left after : List LeafEntry) → left ≡ leaf ∷ after → hash ≡ leaf.hash → least ≤ leaf.hash → is_stale leaf ≡ true → stale ≢ 0 → Goes form least stale left → Goes form hash (stale - 1) after
goes_stale form least stale hash leaf left after step hash_is low is some goes =
    let here : count_by is_stale left ≡ 1 + count_by is_stale after = ap (count_by is_stale) step ∙ count_stale leaf after is in
    record {
      sorted = λ r. goes.sorted (subst (RiseFrom least) (sym step) (low, subst (λ h. RiseFrom h after) hash_is r));
      rising = λ r. subst (λ h. RiseFrom h after) (sym hash_is) (risen least leaf after (subst (RiseFrom least) step (goes.rising r)));
      counted = λ e. goes.counted (omega (arith, e, here, some));
      counts = λ e. let old = goes.counts e in omega (arith, old, here, some);
    }

pub goes_live : (form : DataForm) (least stale hash : ℕ) (leaf : LeafEntry) (left after : List LeafEntry) → left ≡ leaf ∷ after → hash ≡ leaf.hash → least ≤ leaf.hash → is_stale leaf ≡ false → Goes form least stale left → Goes form hash stale after
goes_live form least stale hash leaf left after step hash_is low is goes =
    let here : count_by is_stale left ≡ count_by is_stale after = ap (count_by is_stale) step ∙ count_live leaf after is in
    record {
      sorted = λ r. goes.sorted (subst (RiseFrom least) (sym step) (low, subst (λ h. RiseFrom h after) hash_is r));
      rising = λ r. subst (λ h. RiseFrom h after) (sym hash_is) (risen least leaf after (subst (RiseFrom least) step (goes.rising r)));
      counted = λ e. goes.counted (e ∙ sym here);
      counts = λ e. goes.counts e ∙ here;
    }

pub gone_over : (form : DataForm) (least stale : ℕ) (left : List LeafEntry) → left ≡ [] → stale ≡ 0 → Goes form least stale left → HasTail form
gone_over form least stale left done none goes = record {
  sorted = sorted_from 0 form.leaves (goes.sorted (subst (RiseFrom least) (sym done) tt));
  stale = goes.counted (none ∙ ap (count_by is_stale) (sym done));
}

pub some_missing : (form : DataForm) (least stale : ℕ) (left : List LeafEntry) → left ≡ [] → stale ≢ 0 → Goes form least stale left → HasTail form → ⊥
some_missing form least stale left done some goes tail = some (goes.counts tail.stale ∙ ap (count_by is_stale) done)

-- those that are not stale are the rest
pub live_count : (form : DataForm) → HasTail form → length (filter (λ leaf. not (is_stale leaf)) form.leaves) + form.stale ≡ length form.leaves
live_count form tail =
    let both : length (filter is_stale form.leaves) + length (filter (λ leaf. not (is_stale leaf)) form.leaves) ≡ length form.leaves =
    length-filter_both is_stale (λ leaf. not (is_stale leaf)) (λ _. refl) form.leaves in
    let stale : length (filter is_stale form.leaves) ≡ count_by is_stale form.leaves = length-filter is_stale form.leaves in
    omega (arith, both, stale, tail.stale)
