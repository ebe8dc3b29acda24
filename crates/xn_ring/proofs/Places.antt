-- Where outlines stand among those that rise by sector.
use Rattle.std.proofs.Common.{◌≡◌, ◌∙◌, ℕ, ◌+◌, ◌%◌, ◌<◌, ◌≤◌, true, false, List, length, get_or, Any, Contains, ⊎_elim, sym, ap, subst, arith, ltb, ltb-true, ltb-false}
use Rattle.std.specs.List.Sorted.{IsPartitionPoint, IsNonDecreasingBy, IsPartitionedBy}
use Rattle.std.proofs.lemmas.Bool.{cases_lt}
use Rattle.std.proofs.lemmas.List.{get_or_default}
use Rattle.std.proofs.lemmas.List.Sorted.{IsPartitionedBy-ltb}
use Rattle.xn_log.specs.declared.outline.Outline.{Outline}
use Rattle.xn_ring.specs.Chains.{AreBySector, IsBehind, lsn_told}
use Rattle.xn_ring.specs.Labels.{StandsAt}

never_falls : (outlines : List Outline) → AreBySector outlines → IsNonDecreasingBy (λ (o : Outline). o.sector) outlines
never_falls outlines by i j d le lt =
    ⊎_elim
    (λ (less : i < j). let one : (get_or outlines i d).sector < (get_or outlines j d).sector = by.rise i j d less lt in omega arith)
    (λ (more : j ≤ i). let same : i ≡ j = omega arith in let e : (get_or outlines i d).sector ≡ (get_or outlines j d).sector = ap (λ k. (get_or outlines k d).sector) same in omega arith)
    (cases_lt i j)

pub is_parted : (outlines : List Outline) (sector : ℕ) → AreBySector outlines → IsPartitionedBy (λ (o : Outline). ltb o.sector sector) outlines
is_parted outlines sector by = IsPartitionedBy-ltb (λ (o : Outline). o.sector) outlines sector (never_falls outlines by)

-- a search by a test ends at a point that splits the outlines by what it says
pub point_below : (outlines : List Outline) (bound at : ℕ) → IsPartitionPoint (λ (o : Outline). ltb o.sector bound ≡ true) (λ (o : Outline). ltb o.sector bound ≡ false) outlines at → IsPartitionPoint (λ (o : Outline). o.sector < bound) (λ (o : Outline). bound ≤ o.sector) outlines at
point_below outlines bound at point = (λ k d low below. ltb-true _ _ (point.0 k d low below), λ k d low below. ltb-false _ _ (point.1 k d low below))

-- where the outline at the point begins elsewhere, none begins at the bound
pub none_begins : (outlines : List Outline) (bound at : ℕ) (d : Outline) → AreBySector outlines → at < length outlines
    → IsPartitionPoint (λ (o : Outline). o.sector < bound) (λ (o : Outline). bound ≤ o.sector) outlines at
    → ((get_or outlines at d).sector ≡ bound → ⊥) → Any (λ (o : Outline). o.sector ≡ bound) outlines → ⊥
none_begins outlines bound at d by within point other (k, o, low, same, begins) =
    let here : (get_or outlines k d).sector ≡ bound = ap (λ (p : Outline). p.sector) (get_or_default outlines k d o low ∙ same) ∙ begins in
    ⊎_elim
    (λ (less : k < at). let below : (get_or outlines k d).sector < bound = point.0 k d (omega arith) less in omega arith)
    (λ (more : at ≤ k).
    ⊎_elim
    (λ (less : at < k).
    let high : bound ≤ (get_or outlines at d).sector = point.1 at d (omega arith) within in
    let rise : (get_or outlines at d).sector < (get_or outlines k d).sector = by.rise at k d less low in
    omega arith)
    (λ (same_place : k ≤ at). let e : k ≡ at = omega arith in other (subst (λ i. (get_or outlines i d).sector ≡ bound) e here))
    (cases_lt at k))
    (cases_lt k at)

-- ---- one outline a sector

pub same_place : (outlines : List Outline) (i j : ℕ) (d : Outline) → AreBySector outlines → i < length outlines → j < length outlines → (get_or outlines i d).sector ≡ (get_or outlines j d).sector → i ≡ j
same_place outlines i j d by low high same =
    ⊎_elim
    (λ (less : i < j). let rise : (get_or outlines i d).sector < (get_or outlines j d).sector = by.rise i j d less high in absurd (omega arith))
    (λ (more : j ≤ i).
    ⊎_elim
    (λ (less : j < i). let rise : (get_or outlines j d).sector < (get_or outlines i d).sector = by.rise j i d less low in absurd (omega arith))
    (λ (no_more : i ≤ j). let e : i ≡ j = omega arith in e)
    (cases_lt j i))
    (cases_lt i j)

pub same_outline : (outlines : List Outline) (o other : Outline) → AreBySector outlines → Contains outlines o → Contains outlines other → o.sector ≡ other.sector → o ≡ other
same_outline outlines o other by (i, low, is) (j, high, is_other) same =
    let moved : get_or outlines j o ≡ other = get_or_default outlines j o other high ∙ is_other in
    let sectors : (get_or outlines i o).sector ≡ (get_or outlines j o).sector = ap (λ (p : Outline). p.sector) is ∙ same ∙ sym (ap (λ (p : Outline). p.sector) moved) in
    let places : i ≡ j = same_place outlines i j o by low high sectors in
    sym is ∙ ap (λ k. get_or outlines k o) places ∙ moved

pub listed : (outlines : List Outline) (at : ℕ) (o : Outline) → StandsAt outlines at o → Contains outlines o
listed outlines at o stands = (at, stands.within, stands.same o)

pub listed_from_any : (P : Outline → Type 0) (outlines : List Outline) → Any P outlines → (o : Outline) × Contains outlines o × P o
listed_from_any P outlines (k, o, low, same, is) = (o, (k, low, same), is)

-- where the outline in the sector behind has no greater sequence number, none follows
pub none_behind : (ring_sectors : ℕ) (outlines : List Outline) (first found : Outline) → AreBySector outlines → Contains outlines found
    → found.sector ≡ (first.sector + first.sectors) % ring_sectors → lsn_told found ≤ lsn_told first → Any (IsBehind ring_sectors first) outlines → ⊥
none_behind ring_sectors outlines first found by has beside low any =
    let other = listed_from_any (IsBehind ring_sectors first) outlines any in
    let same : other.0 ≡ found = same_outline outlines _ _ by other.1 has (other.2.beside ∙ sym beside) in
    let greater : lsn_told first < lsn_told found = subst (λ o. lsn_told first < lsn_told o) same other.2.greater in
    omega arith
