-- Where attributes in short form end, one after the other, and what this says of the fork.
use Rattle.std.proofs.Common.{◌≡◌, ◌≢◌, ℕ, suc, ◌+◌, ◌-◌, ◌<◌, ◌≤◌, Bool, true, false, not, cond, leb, ltb, eqb, List, [], ◌∷◌, length, map, slice_index, drop, Option, Some, None, refl, sym, ap, ◌∙◌, arith, inl, inr}
use Rattle.std.specs.Prelude.{sum_by}
use Rattle.std.proofs.lemmas.Bool.{cases_lt, ltb-false, le-ltb, lt-ltb, le-leb, lt-leb, leb-true, eqb-true, eq-eqb, ne_eqb, not-false, and_parts}
use Rattle.std.proofs.lemmas.List.{drop-drop, length-drop}
use Rattle.std.proofs.lemmas.List.Sums.{sum_by-cons}
use Rattle.xn_bytes.specs.declared.attribute.Attribute.{Attribute}
use Rattle.xn_bytes.specs.Numbers.{number_at}
use Rattle.xn_bytes.specs.ShortAttributes.{short_attribute_size, short_attributes_size, attribute_of_short, front_size, front_attribute, attributes_in, attributes_there, short_attributes_fault}
use Rattle.xn_attrleaf.specs.ShortChecks.{front_there, front_end, end_from, end_in}
use Rattle.xn_attrleaf.proofs.ShortAttribute.{front_is}

-- ---- tests in a row

guard_none : (b : Bool) (x : ℕ) (next : Option ℕ) → cond b (Some x) next ≡ None → (b ≡ false) × (next ≡ None)
guard_none true x next e = absurd cc
guard_none false x next e = (refl, e)

some_guard : (b : Bool) (next : Option ℕ) (end : ℕ) → cond b next None ≡ Some end → (b ≡ true) × (next ≡ Some end)
some_guard true next end e = (refl, e)
some_guard false next end e = absurd cc

not_guarded : (b : Bool) (x : ℕ) → cond b (Some x) None ≡ None → b ≡ false
not_guarded true x e = absurd cc
not_guarded false x e = refl

same_some : (a b : ℕ) → Some a ≡ Some b → a ≡ b
same_some a b e = cc

-- ---- one attribute more

pub there_split : (count : ℕ) (rest : List ℕ) → attributes_there (suc count) rest ≡ true → (front_there rest ≡ true) × (attributes_there count (drop (front_size rest) rest) ≡ true)
unfolding attributes_there
there_split count rest there = and_parts _ _ there

pub there_parts : (left : ℕ) (rest : List ℕ) → left ≢ 0 → attributes_there left rest ≡ true → (front_there rest ≡ true) × (attributes_there (left - 1) (drop (front_size rest) rest) ≡ true)
there_parts left rest some there =
    let k : left ≡ suc (left - 1) = omega arith in
    there_split (left - 1) rest (ap (λ (n : ℕ). attributes_there n rest) (sym k) ∙ there)

pub attributes_step : (left : ℕ) (rest : List ℕ) → left ≢ 0 → attributes_in left rest ≡ front_attribute rest ∷ attributes_in (left - 1) (drop (front_size rest) rest)
unfolding attributes_in
attributes_step left rest some =
    let k : left ≡ suc (left - 1) = omega arith in
    ap (λ (n : ℕ). attributes_in n rest) k

pub none_left : (left : ℕ) (rest : List ℕ) → left ≡ 0 → map attribute_of_short (attributes_in left rest) ≡ []
unfolding attributes_in
none_left left rest none = ap (λ (n : ℕ). map attribute_of_short (attributes_in n rest)) none

-- the attribute at the front, and those behind it
pub front_first : (now : List Attribute) (left : ℕ) (rest behind : List ℕ) (attribute : Attribute) → map attribute_of_short (attributes_in left rest) ≡ now → left ≢ 0 → attribute ≡ attribute_of_short (front_attribute rest) → behind ≡ drop (front_size rest) rest
    → now ≡ attribute ∷ map attribute_of_short (attributes_in (left - 1) behind)
front_first now left rest behind attribute all some attribute_is behind_is =
    sym all
    ∙ ap (map attribute_of_short) (attributes_step left rest some)
    ∙ ap (λ (one : Attribute). one ∷ map attribute_of_short (attributes_in (left - 1) (drop (front_size rest) rest))) (sym attribute_is)
    ∙ ap (λ (t : List ℕ). attribute ∷ map attribute_of_short (attributes_in (left - 1) t)) (sym behind_is)

pub there_more : (count : ℕ) (rest : List ℕ) → front_there rest ≡ true → attributes_there (suc count) rest ≡ attributes_there count (drop (front_size rest) rest)
unfolding attributes_there
there_more count rest front = rw front refl

next_end : (at count : ℕ) (rest : List ℕ) → front_there rest ≡ true → end_from at (suc count) rest ≡ end_from (at + front_size rest) count (drop (front_size rest) rest)
unfolding attributes_in
next_end at count rest front =
    let known = front_is rest front in
    let behind : List ℕ = drop (front_size rest) rest in
    let there = there_more count rest front in
    let sum : sum_by short_attribute_size (attributes_in (suc count) rest) ≡ short_attribute_size (front_attribute rest) + sum_by short_attribute_size (attributes_in count behind) = sum_by-cons short_attribute_size (front_attribute rest) (attributes_in count behind) in
    let end : at + sum_by short_attribute_size (attributes_in (suc count) rest) ≡ at + front_size rest + sum_by short_attribute_size (attributes_in count behind) = omega (arith, sum, known.size) in
    rw (there, end) refl

no_end : (at count : ℕ) (rest : List ℕ) → front_there rest ≡ false → end_from at (suc count) rest ≡ None
unfolding attributes_there
no_end at count rest front =
    let there : attributes_there (suc count) rest ≡ false = rw front refl in
    rw there refl

last_end : (at : ℕ) (rest : List ℕ) → end_from at 0 rest ≡ Some at
unfolding attributes_there attributes_in
last_end at rest = ap Some (omega arith)

-- ---- the attributes that were passed, and where they go on

pub record Goes (count i at : ℕ) (fork : List ℕ) : Type 0 where
  pub within : at ≤ length fork
  pub ends : end_from at (count - i) (drop at fork) ≡ end_in fork

pub starts : (count : ℕ) (fork : List ℕ) → 4 ≤ length fork → count ≡ slice_index fork 2 → Goes count 0 4 fork
starts count fork long is =
    let a : leb 4 (length fork) ≡ true = le-leb _ _ long in
    let all : count - 0 ≡ slice_index fork 2 = omega arith in
    record { within = long; ends = rw (all, a) refl }

pub goes_on : (count i at size : ℕ) (fork rest : List ℕ) → i < count → Goes count i at fork → rest ≡ drop at fork → Some size ≡ front_end rest → Goes count (i + 1) (at + size) fork
goes_on count i at size fork rest lt so_far is front =
    let parts = some_guard _ _ _ (sym front) in
    let size_is : front_size rest ≡ size = same_some _ _ parts.1 in
    let known = front_is rest parts.0 in
    let within : front_size rest ≤ length rest = known.within in
    let k : count - i ≡ suc (count - (i + 1)) = omega arith in
    let behind : drop size rest ≡ drop (at + size) fork = ap (drop size) is ∙ drop-drop size at fork in
    let here : end_from at (count - i) rest ≡ end_in fork = ap (end_from at (count - i)) is ∙ so_far.ends in
    let low = so_far.within in
    record {
      within = omega (arith, ap length is, length-drop at fork);
      ends =
          ap (end_from (at + size) (count - (i + 1))) (sym behind)
          ∙ ap (λ (s : ℕ). end_from (at + s) (count - (i + 1)) (drop s rest)) (sym size_is)
          ∙ sym (next_end at (count - (i + 1)) rest parts.0)
          ∙ ap (λ (n : ℕ). end_from at n rest) (sym k)
          ∙ here;
    }

pub stops : (count i at : ℕ) (fork rest : List ℕ) → i < count → Goes count i at fork → rest ≡ drop at fork → None ≡ front_end rest → None ≡ end_in fork
stops count i at fork rest lt so_far is front =
    let missing : front_there rest ≡ false = not_guarded _ _ (sym front) in
    let k : count - i ≡ suc (count - (i + 1)) = omega arith in
    let here : end_from at (count - i) rest ≡ end_in fork = ap (end_from at (count - i)) is ∙ so_far.ends in
    sym (no_end at (count - (i + 1)) rest missing) ∙ ap (λ (n : ℕ). end_from at n rest) (sym k) ∙ here

pub is_done : (count i at : ℕ) (fork : List ℕ) → count ≤ i → Goes count i at fork → Some at ≡ end_in fork
is_done count i at fork le so_far =
    let k : count - i ≡ 0 = omega arith in
    sym (last_end at (drop at fork)) ∙ ap (λ (n : ℕ). end_from at n (drop at fork)) (sym k) ∙ so_far.ends

pub too_short : (fork : List ℕ) → length fork < 4 → None ≡ end_in fork
too_short fork short =
    let a : leb 4 (length fork) ≡ false = lt-leb _ _ short in
    rw a refl

-- ---- what the end says of the fork

pub record HasNoFault (fork : List ℕ) : Type 0 where
  pub long : 4 ≤ length fork
  pub there : attributes_there (slice_index fork 2) (drop 4 fork) ≡ true
  pub size : number_at 2 0 fork ≡ short_attributes_size (attributes_in (slice_index fork 2) (drop 4 fork))

pub has_no_fault : (fork : List ℕ) → short_attributes_fault fork ≡ None → HasNoFault fork
unfolding short_attributes_fault
has_no_fault fork e =
    let g0 = guard_none _ _ _ e in
    let g1 = guard_none _ _ _ g0.1 in
    let g2 = guard_none _ _ _ g1.1 in
    record { long = ltb-false _ _ g0.0; there = not-false _ g1.0; size = eqb-true _ _ (not-false _ g2.0) }

pub passes : (fork : List ℕ) → HasNoFault fork → short_attributes_fault fork ≡ None
unfolding short_attributes_fault
passes fork h =
    let a : ltb (length fork) 4 ≡ false = le-ltb _ _ h.long in
    let b : eqb (number_at 2 0 fork) (short_attributes_size (attributes_in (slice_index fork 2) (drop 4 fork))) ≡ true = eq-eqb _ _ h.size in
    rw (a, h.there, b) refl

pub missing : (fork : List ℕ) → None ≡ end_in fork → short_attributes_fault fork ≡ Some (length fork)
unfolding short_attributes_fault
missing fork e =
    elim (cases_lt (length fork) 4) [
      | inl short ↦ let a : ltb (length fork) 4 ≡ true = lt-ltb _ _ short in rw a refl
      | inr long ↦
          let a : ltb (length fork) 4 ≡ false = le-ltb _ _ long in
          let b : leb 4 (length fork) ≡ true = le-leb _ _ long in
          let rest : end_from 4 (slice_index fork 2) (drop 4 fork) ≡ None = sym (e ∙ rw b refl) in
          rw (a, not_guarded _ _ rest) refl
    ]

pub record HasEnd (fork : List ℕ) (end : ℕ) : Type 0 where
  pub long : 4 ≤ length fork
  pub there : attributes_there (slice_index fork 2) (drop 4 fork) ≡ true
  pub end_is : end ≡ short_attributes_size (attributes_in (slice_index fork 2) (drop 4 fork))

pub has_end : (fork : List ℕ) (end : ℕ) → Some end ≡ end_in fork → HasEnd fork end
has_end fork end e =
    let p = some_guard _ _ _ (sym e) in
    let q = some_guard _ _ _ p.1 in
    record { long = leb-true _ _ p.0; there = q.0; end_is = sym (same_some _ _ q.1) }

pub other_size : (fork : List ℕ) (end : ℕ) → HasEnd fork end → end ≢ number_at 2 0 fork → short_attributes_fault fork ≡ Some 0
unfolding short_attributes_fault
other_size fork end h other =
    let a : ltb (length fork) 4 ≡ false = le-ltb _ _ h.long in
    let b : eqb (number_at 2 0 fork) (short_attributes_size (attributes_in (slice_index fork 2) (drop 4 fork))) ≡ false = ne_eqb _ _ (λ same. other (h.end_is ∙ sym same)) in
    rw (a, h.there, b) refl

pub right_size : (fork : List ℕ) (end : ℕ) → HasEnd fork end → end ≡ number_at 2 0 fork → short_attributes_fault fork ≡ None
right_size fork end h same = passes fork (record { long = h.long; there = h.there; size = sym same ∙ h.end_is })

-- where one of two places is the fault, and neither is past n
guarded : (n : ℕ) (test : Bool) (place fault : ℕ) (next : Option ℕ) → cond test (Some place) next ≡ Some fault → place ≤ n → (next ≡ Some fault → fault ≤ n) → fault ≤ n
guarded n true place fault next e here later = let same : place ≡ fault = cc in omega (arith, here)
guarded n false place fault next e here later = later e

not_none : (n fault : ℕ) → None ≡ Some fault → fault ≤ n
not_none n fault e = absurd cc

-- the place of a fault is none past the fork's end
pub fault_within : (fork : List ℕ) (fault : ℕ) → short_attributes_fault fork ≡ Some fault → fault ≤ length fork
unfolding short_attributes_fault
fault_within fork fault e =
    let n : ℕ = length fork in
    let all : ℕ = short_attributes_size (attributes_in (slice_index fork 2) (drop 4 fork)) in
    guarded n (ltb n 4) n fault _ e (omega arith) (λ e1.
    guarded n (not (attributes_there (slice_index fork 2) (drop 4 fork))) n fault _ e1 (omega arith) (λ e2.
    guarded n (not (eqb (number_at 2 0 fork) all)) 0 fault None e2 (omega arith) (λ e3. not_none n fault e3)))
