-- The head among the outlines, tried in falling order of their sequence numbers.
use Rattle.std.proofs.Common.{◌≡◌, ◌∙◌, ℕ, ◌+◌, ◌<◌, ◌≤◌, IsTrue, List, ◌∷◌, length, get_or, Option, Some, None, Result, Ok, Err, IfOk, MatchOption, Contains, inl, inr, sym, ap, subst, arith}
use Rattle.std.proofs.lemmas.Bool.{cases_lt}
use Rattle.std.proofs.lemmas.List.{get_or_default}
use Rattle.std.proofs.lemmas.List.Sorted.{Contains-permutation}
use Rattle.xn_log.specs.declared.outline.Outline.{Outline}
use Rattle.xn_ring.specs.Chains.{AreBySector, AreLiveAmong, IsChain, IsChainFromTail, IsHeadAmong, IsReached, MayBeHead, lsn_told}
use Rattle.xn_ring.specs.Labels.{AreNewestFirst}
use Rattle.xn_ring.proofs.Places.{same_outline}
use Rattle.xn_ring.proofs.Walks.{start_listed}
use Rattle.xn_ring.proofs.Labelling.{sector_told}

module _ (n : ℕ) (outlines : List Outline) (last : Outline) (by : AreBySector outlines) where
  -- two records with the same sequence number are one
  one_start : (first other : Outline) → Contains outlines first → Contains outlines other → lsn_told first ≡ last.tail → lsn_told other ≡ last.tail → other ≡ first
  one_start first other has has_other same same_other = same_outline outlines other first by has_other has (sector_told outlines other last.tail by has_other same_other ∙ sym (sector_told outlines first last.tail by has same))

  pub not_reached : (IsTrue last.is_unmount → ⊥) → (IsReached n outlines last → ⊥) → MayBeHead n outlines last → ⊥
  not_reached no_unmount none head = elim head.reached [ inl unmount ↦ no_unmount unmount | inr reached ↦ none reached ]

  no_chain : (first : Outline) → Contains outlines first → lsn_told first ≡ last.tail → ((rest : List Outline) → IsChain n outlines first rest last → ⊥) → IsReached n outlines last → ⊥
  no_chain first has same none (other, rest, from_tail) =
      none rest (subst (λ o. IsChain n outlines o rest last) (one_start first other has (start_listed n outlines other rest last from_tail.chain) same from_tail.tail) from_tail.chain)

  -- what the walk from the start of the chain found says whether the last one may be the head
  pub chain_found : {V E : Type 0} (items : V → List Outline) (first : Outline) (r : Result (Option V) E) → Contains outlines last → Contains outlines first → lsn_told first ≡ last.tail → (IsTrue last.is_unmount → ⊥)
      → IfOk r (λ found. MatchOption found ((rest : List Outline) → IsChain n outlines first rest last → ⊥) (λ chain. (rest : List Outline) × (items chain ≡ first ∷ rest) × IsChain n outlines first rest last))
      → IfOk r (λ found. MatchOption found (MayBeHead n outlines last → ⊥) (λ live. MayBeHead n outlines last × AreLiveAmong n outlines last (items live)))
  chain_found items first (Ok None) has_last has same no_unmount none = not_reached no_unmount (no_chain first has same none)
  chain_found items first (Ok (Some live)) has_last has same no_unmount (rest, is, chain) =
      let from_tail : IsChainFromTail n outlines first rest last = record { chain = chain; tail = same } in
      (record { listed = has_last; reached = inr (first, rest, from_tail) }, inr (no_unmount, (first, rest, is, from_tail)))
  chain_found items first (Err e) has_last has same no_unmount none = tt

-- ---- the search

-- none of those tried may be the head
pub record IsSearch (n : ℕ) (outlines newest : List Outline) (done : ℕ) : Type 0 where
  pub order : AreNewestFirst outlines newest
  pub passed : (k : ℕ) (d : Outline) → k < done → k < length newest → MayBeHead n outlines (get_or newest k d) → ⊥

module _ (n : ℕ) (outlines newest : List Outline) where
  pub none_tried : AreNewestFirst outlines newest → IsSearch n outlines newest 0
  none_tried order = record { order = order; passed = λ k d less low head. omega arith }

  pub one_tried : (done : ℕ) (d : Outline) → done < length newest → (MayBeHead n outlines (get_or newest done d) → ⊥) → IsSearch n outlines newest done → IsSearch n outlines newest (done + 1)
  one_tried done d within none search = record {
    order = search.order;
    passed = λ k e less low head.
        elim (cases_lt k done) [
          | inl before ↦ search.passed k e before low head
          | inr here ↦
              let same : k ≡ done = omega arith in
              none (subst (MayBeHead n outlines) (get_or_default newest k e d low ∙ ap (λ i. get_or newest i d) same) head)
        ];
  }

  pub is_head : (done : ℕ) (d : Outline) → done < length newest → IsSearch n outlines newest done → MayBeHead n outlines (get_or newest done d) → IsHeadAmong n outlines (get_or newest done d)
  is_head done d within search candidate = record {
    candidate = candidate;
    greatest = λ other may.
        let has : Contains newest other = Contains-permutation outlines newest other search.order.same may.listed in
        let here : get_or newest has.0 other ≡ other = has.2 in
        elim (cases_lt has.0 done) [
          | inl before ↦ absurd (search.passed has.0 other before has.1 (subst (MayBeHead n outlines) (sym here) may))
          | inr behind ↦
              let fall : lsn_told (get_or newest has.0 d) ≤ lsn_told (get_or newest done d) = search.order.fall done has.0 d behind has.1 in
              let e : lsn_told (get_or newest has.0 d) ≡ lsn_told other = ap lsn_told (get_or_default newest has.0 d other has.1 ∙ here) in
              omega arith
        ];
  }

  pub no_head : (done : ℕ) → length newest ≤ done → IsSearch n outlines newest done → (o : Outline) → IsHeadAmong n outlines o → ⊥
  no_head done all search o head =
      let has : Contains newest o = Contains-permutation outlines newest o search.order.same head.candidate.listed in
      search.passed has.0 o (omega (arith, has.1)) has.1 (subst (MayBeHead n outlines) (sym has.2) head.candidate)
