-- Labels that are the same along every chain.
use Rattle.std.proofs.Common.{◌≡◌, ◌≢◌, ◌∙◌, ℕ, ◌+◌, ◌%◌, ◌^◌, ◌<◌, ◌≤◌, List, [], ◌∷◌, ◌++◌, length, take, drop, get_or, slice_index, get_or-set_other, get_or-set_same, Any, Contains, ⊎_elim, sym, ap, subst, inl, inr, arith}
use Rattle.std.proofs.Math.ListN.{set}
use Rattle.std.proofs.lemmas.Bool.{cases_lt, cases_eq}
use Rattle.std.proofs.Math.ListN.{length-set}
use Rattle.std.proofs.Math.Seq.{take-append_seam}
use Rattle.std.proofs.lemmas.List.{get_or_default}
use Rattle.std.proofs.lemmas.List.Elements.{Contains-get_or}
use Rattle.std.proofs.lemmas.List.Sorted.{Contains-permutation, IsPermutation-sym}
use Rattle.xn_log.specs.declared.outline.Outline.{Outline}
use Rattle.xn_ring.specs.Chains.{AreBySector, IsBehind, IsChain, IsReached, lsn_told}
use Rattle.xn_ring.specs.Labels.{AreLabels, AreNewestFirst, IsLabelled, StandsAt}
use Rattle.xn_ring.proofs.Places.{listed, same_outline, same_place}
use Rattle.xn_ring.proofs.Walks.{start_listed}

pub stands : (outlines : List Outline) (o : Outline) → Contains outlines o → (at : ℕ) × StandsAt outlines at o
stands outlines o (k, low, is) = (k, record { within = low; same = λ d. get_or_default outlines k d o low ∙ is })

pub one_place : (outlines : List Outline) (i j : ℕ) (o other : Outline) → AreBySector outlines → StandsAt outlines i o → StandsAt outlines j other → o.sector ≡ other.sector → i ≡ j
one_place outlines i j o other by at at_other same =
    same_place outlines i j o by at.within at_other.within (ap (λ (p : Outline). p.sector) (at.same o) ∙ same ∙ sym (ap (λ (p : Outline). p.sector) (at_other.same o)))

-- ---- the loop that labels

-- linked outlines have the same label, where the first is none of those still to come
abbrev pub AreLabelsUpTo : ℕ → List Outline → List Outline → ℕ → List ℕ → Type 0
AreLabelsUpTo n outlines newest done labels =
    (i j : ℕ) (first second : Outline) → StandsAt outlines i first → StandsAt outlines j second → IsBehind n first second
    → ((k : ℕ) → done ≤ k → k < length newest → get_or newest k first ≢ first) → slice_index labels i ≡ slice_index labels j

pub none_labelled : (n : ℕ) (outlines newest : List Outline) (labels : List ℕ) → AreNewestFirst outlines newest → AreLabelsUpTo n outlines newest 0 labels
none_labelled n outlines newest labels order i j first second at at_second behind out =
    let has : Contains newest first = Contains-permutation outlines newest first order.same (listed outlines i first at) in
    absurd (out has.0 (omega arith) has.1 has.2)

pub all_labelled : (n : ℕ) (outlines newest : List Outline) (labels : List ℕ) → length labels ≡ length outlines → AreLabelsUpTo n outlines newest (length newest) labels → AreLabels n outlines labels
all_labelled n outlines newest labels as_many up_to = record {
  as_many = as_many;
  linked = λ i j first second at at_second behind. up_to i j first second at at_second behind (λ k low high. absurd (omega arith));
}

module _ (n : ℕ) (outlines newest : List Outline) (done : ℕ) (o : Outline) (old new : List ℕ) (by : AreBySector outlines) (order : AreNewestFirst outlines newest)
    (within : done < length newest) (is : (d : Outline) → get_or newest done d ≡ o) (step : IsLabelled n outlines o old new) (up_to : AreLabelsUpTo n outlines newest done old) where
  still_out : (first : Outline) → (first ≡ o → ⊥) → ((k : ℕ) → done + 1 ≤ k → k < length newest → get_or newest k first ≢ first) → (k : ℕ) → done ≤ k → k < length newest → get_or newest k first ≢ first
  still_out first other out k low high here =
      elim (cases_lt done k) [
        | inl more ↦ out k (omega arith) high here
        | inr less ↦ let e : k ≡ done = omega arith in other (sym here ∙ ap (λ m. get_or newest m first) e ∙ is first)
      ]

  -- the record that follows was labelled before
  second_elsewhere : (i j : ℕ) (first second : Outline) → StandsAt outlines i first → StandsAt outlines j second → IsBehind n first second
      → ((k : ℕ) → done + 1 ≤ k → k < length newest → get_or newest k first ≢ first) → second ≡ o → ⊥
  second_elsewhere i j first second at at_second behind out same =
      let has : Contains newest first = Contains-permutation outlines newest first order.same (listed outlines i first at) in
      let k : ℕ = has.0 in
      let low : k < length newest = has.1 in
      let here : get_or newest k first ≡ first = has.2 in
      let greater : lsn_told first < lsn_told o = subst (λ p. lsn_told first < lsn_told p) same behind.greater in
      ⊎_elim
      (λ (before : k < done + 1).
      let fall : lsn_told (get_or newest done first) ≤ lsn_told (get_or newest k first) = order.fall k done first (omega arith) within in
      let e : lsn_told (get_or newest done first) ≡ lsn_told o = ap lsn_told (is first) in
      let f : lsn_told (get_or newest k first) ≡ lsn_told first = ap lsn_told here in
      omega arith)
      (λ (behind : done + 1 ≤ k). out k behind low here)
      (cases_lt k (done + 1))

  kept_elsewhere : (i : ℕ) (first : Outline) → StandsAt outlines i first → (first ≡ o → ⊥) → Contains outlines o → slice_index new i ≡ slice_index old i
  kept_elsewhere i first at other has = step.kept i first at (λ same. other (same_outline outlines first o by (listed outlines i first at) has same))

  pub one_labelled : AreLabelsUpTo n outlines newest (done + 1) new
  one_labelled i j first second at at_second behind out =
      let is_listed : Contains outlines o = Contains-permutation newest outlines o (IsPermutation-sym _ _ order.same) (done, within, is o) in
      let no_second : second ≡ o → ⊥ = second_elsewhere i j first second at at_second behind out in
      let kept : slice_index new j ≡ slice_index old j = kept_elsewhere j second at_second no_second is_listed in
      elim (cases_eq first.sector o.sector) [
        | inl same ↦
            let first_is : first ≡ o = same_outline outlines first o by (listed outlines i first at) is_listed same in
            let linked : slice_index new i ≡ slice_index old j = step.linked i j second (subst (StandsAt outlines i) first_is at) at_second (subst (λ p. IsBehind n p second) first_is behind) in
            linked ∙ sym kept
        | inr differ ↦
            let no_first : first ≡ o → ⊥ = λ e. differ (ap (λ (p : Outline). p.sector) e) in
            let before : slice_index old i ≡ slice_index old j = up_to i j first second at at_second behind (still_out first no_first out) in
            kept_elsewhere i first at no_first is_listed ∙ before ∙ sym kept
      ]

-- so many of them were labelled
pub record IsLabelling (n : ℕ) (outlines newest : List Outline) (done : ℕ) (labels : List ℕ) : Type 0 where
  pub as_many : length labels ≡ length outlines
  pub labelled : AreLabelsUpTo n outlines newest done labels

pub one_more : (n : ℕ) (outlines newest : List Outline) (done : ℕ) (d : Outline) (old new : List ℕ) → AreBySector outlines → AreNewestFirst outlines newest → done < length newest
    → IsLabelled n outlines (get_or newest done d) old new → IsLabelling n outlines newest done old → IsLabelling n outlines newest (done + 1) new
one_more n outlines newest done d old new by order within step labelling = record {
  as_many = step.as_many ∙ labelling.as_many;
  labelled = one_labelled n outlines newest done (get_or newest done d) old new by order within (λ e. get_or_default newest done e d within) step labelling.labelled;
}

-- ---- a chain has one label

pub one_label : (n : ℕ) (outlines : List Outline) (labels : List ℕ) → AreBySector outlines → AreLabels n outlines labels → (first : Outline) (rest : List Outline) (last : Outline) → IsChain n outlines first rest last
    → (i j : ℕ) → StandsAt outlines i first → StandsAt outlines j last → slice_index labels i ≡ slice_index labels j
one_label n outlines labels by are first [] last chain i j at at_last = ap (slice_index labels) (one_place outlines i j first last by at at_last (ap (λ (o : Outline). o.sector) chain.1))
one_label n outlines labels by are first (next ∷ rest) last chain i j at at_last =
    let place = stands outlines next chain.0.has_second in
    are.linked i place.0 first next at place.1 chain.0.behind ∙ one_label n outlines labels by are next rest last chain.1 place.0 j place.1 at_last

-- the sector that a sequence number tells
pub sector_told : (outlines : List Outline) (first : Outline) (tail : ℕ) → AreBySector outlines → Contains outlines first → lsn_told first ≡ tail → first.sector ≡ tail % 2 ^ 32
sector_told outlines first tail by (k, low, is) same =
    let small : first.sector < 2 ^ 32 = subst (λ (o : Outline). o.sector < 2 ^ 32) is (by.small k first low) in
    omega arith

-- no record begins where the tail's would
pub no_tail : (n : ℕ) (outlines : List Outline) (last : Outline) → AreBySector outlines → (Any (λ (o : Outline). o.sector ≡ last.tail % 2 ^ 32) outlines → ⊥) → IsReached n outlines last → ⊥
no_tail n outlines last by none (first, rest, from_tail) =
    let has : Contains outlines first = start_listed n outlines first rest last from_tail.chain in
    none (has.0, first, has.1, has.2, sector_told outlines first last.tail by has from_tail.tail)

-- another record begins there, or it has another label
pub other_tail : (n : ℕ) (outlines : List Outline) (labels : List ℕ) (at end : ℕ) (found last : Outline) → AreBySector outlines → AreLabels n outlines labels
    → StandsAt outlines at found → StandsAt outlines end last → found.sector ≡ last.tail % 2 ^ 32
    → (lsn_told found ≡ last.tail → slice_index labels at ≡ slice_index labels end → ⊥) → IsReached n outlines last → ⊥
other_tail n outlines labels at end found last by are stands_found stands_last begins differ (first, rest, from_tail) =
    let has : Contains outlines first = start_listed n outlines first rest last from_tail.chain in
    let same : found ≡ first = same_outline outlines found first by (listed outlines at found stands_found) has (begins ∙ sym (sector_told outlines first last.tail by has from_tail.tail)) in
    differ (ap lsn_told same ∙ from_tail.tail)
    (one_label n outlines labels by are first rest last from_tail.chain at end (subst (StandsAt outlines at) same stands_found) stands_last)

-- ---- one outline gets its label

label_put : (n : ℕ) (outlines : List Outline) (o p : Outline) (old : List ℕ) (at v : ℕ) → AreBySector outlines → length old ≡ length outlines → StandsAt outlines at p → p.sector ≡ o.sector
    → ((j : ℕ) (second : Outline) → StandsAt outlines j second → IsBehind n o second → v ≡ slice_index old j) → IsLabelled n outlines o old (set old at v)
label_put n outlines o p old at v by as_many stands_at same follows =
    let within : at < length old = let low : at < length outlines = stands_at.within in omega arith in
    record {
      as_many = length-set old at v;
      kept = λ i other at_other differ.
          let apart : i ≢ at = λ e. differ (ap (λ (q : Outline). q.sector) (sym (at_other.same other) ∙ ap (λ k. get_or outlines k other) e ∙ stands_at.same other) ∙ same) in
          get_or-set_other old at i v 0 apart;
      linked = λ i j second at_o at_second behind.
          let e : i ≡ at = one_place outlines i at o p by at_o stands_at (sym same) in
          ap (slice_index (set old at v)) e ∙ get_or-set_same old at v 0 within ∙ follows j second at_second behind;
    }

pub label_follows : (n : ℕ) (outlines : List Outline) (o p next : Outline) (old : List ℕ) (at next_at v : ℕ) → AreBySector outlines → length old ≡ length outlines → StandsAt outlines at p → p.sector ≡ o.sector
    → StandsAt outlines next_at next → IsBehind n o next → v ≡ slice_index old next_at → IsLabelled n outlines o old (set old at v)
label_follows n outlines o p next old at next_at v by as_many stands_at same stands_next behind is =
    label_put n outlines o p old at v by as_many stands_at same
    (λ j second at_second behind_too. is ∙ ap (slice_index old) (one_place outlines next_at j next second by stands_next at_second (behind.beside ∙ sym behind_too.beside)))

pub label_begins : (n : ℕ) (outlines : List Outline) (o p : Outline) (old : List ℕ) (at v : ℕ) → AreBySector outlines → length old ≡ length outlines → StandsAt outlines at p → p.sector ≡ o.sector
    → (Any (IsBehind n o) outlines → ⊥) → IsLabelled n outlines o old (set old at v)
label_begins n outlines o p old at v by as_many stands_at same none =
    label_put n outlines o p old at v by as_many stands_at same
    (λ j second at_second behind. absurd (none (j, second, at_second.within, at_second.same second, behind)))

-- the labels are written back whole
pub written_back : (count : ℕ) (new old : List ℕ) → length new ≡ count → take count (new ++ drop (length new) old) ≡ new
written_back count new old long = ap (λ k. take k (new ++ drop (length new) old)) (sym long) ∙ take-append_seam new (drop (length new) old)

pub listed_newest : (outlines newest : List Outline) (at : ℕ) (d : Outline) → AreNewestFirst outlines newest → at < length newest → Contains outlines (get_or newest at d)
listed_newest outlines newest at d order low = Contains-permutation newest outlines _ (IsPermutation-sym _ _ order.same) (Contains-get_or newest at d low)
