-- A walk along a chain of linked records.
use Rattle.std.proofs.Common.{◌≡◌, ◌∙◌, ℕ, ◌<◌, ◌≤◌, List, [], ◌∷◌, ◌++◌, Any, Contains, sym, ap, subst, refl, arith}
use Rattle.xn_log.specs.declared.outline.Outline.{Outline}
use Rattle.xn_ring.specs.Chains.{AreBySector, IsBehind, IsChain, IsLinked, lsn_told}
use Rattle.xn_ring.specs.Labels.{StandsAt, IsUnderWay}
use Rattle.xn_ring.proofs.Places.{listed, same_outline}

module _ (n : ℕ) (outlines : List Outline) where
  pub end_listed : (first : Outline) (rest : List Outline) (last : Outline) → IsChain n outlines first rest last → Contains outlines last
  end_listed first [] last chain = subst (Contains outlines) chain.1 chain.0
  end_listed first (next ∷ rest) last chain = end_listed next rest last chain.1

  pub start_listed : (first : Outline) (rest : List Outline) (last : Outline) → IsChain n outlines first rest last → Contains outlines first
  start_listed first [] last chain = chain.0
  start_listed first (next ∷ rest) last chain = chain.0.has_first

  chain_push : (first : Outline) (rest : List Outline) (here next : Outline) → IsChain n outlines first rest here → IsLinked n outlines here next → IsChain n outlines first (rest ++ next ∷ []) next
  chain_push first [] here next chain link = (subst (λ o. IsLinked n outlines o next) (sym chain.1) link, (link.has_second, refl))
  chain_push first (other ∷ rest) here next chain link = (chain.0, chain_push other rest here next chain.1 link)

  -- sequence numbers don't fall along a chain
  pub never_older : (first : Outline) (rest : List Outline) (last : Outline) → IsChain n outlines first rest last → lsn_told first ≤ lsn_told last
  never_older first [] last chain = let e : lsn_told first ≡ lsn_told last = ap lsn_told chain.1 in omega arith
  never_older first (next ∷ rest) last chain =
      let step : lsn_told first < lsn_told next = chain.0.behind.greater in
      let later : lsn_told next ≤ lsn_told last = never_older next rest last chain.1 in
      omega arith

  -- what follows a record is the one record behind it
  pub one_behind : (here next other : Outline) → AreBySector outlines → Contains outlines next → IsBehind n here next → IsLinked n outlines here other → other ≡ next
  one_behind here next other by has behind link = same_outline outlines other next by link.has_second has (link.behind.beside ∙ sym behind.beside)

  -- where a chain leads on that doesn't end here, it leads on from the next record
  chain_on : (here next last : Outline) (left : List Outline) → AreBySector outlines → Contains outlines next → IsBehind n here next → lsn_told here < lsn_told last
      → IsChain n outlines here left last → (later : List Outline) × IsChain n outlines next later last
  chain_on here next last [] by has behind older chain = let e : lsn_told here ≡ lsn_told last = ap lsn_told chain.1 in absurd (omega arith)
  chain_on here next last (other ∷ left) by has behind older chain =
      (left, subst (λ o. IsChain n outlines o left last) (one_behind here next other by has behind chain.0) chain.1)

  -- ---- the walk

  pub at_first : (first last : Outline) (walked : List Outline) → Contains outlines first → walked ≡ first ∷ [] → IsUnderWay n outlines first last walked first
  at_first first last walked has begins = record { rest = []; begins = begins; chain = (has, refl); onward = λ all chain. (all, chain) }

  pub a_step : (first last : Outline) (walked : List Outline) (here next : Outline) (at : ℕ) → AreBySector outlines → lsn_told here < lsn_told last
      → StandsAt outlines at next → IsBehind n here next → IsUnderWay n outlines first last walked here → IsUnderWay n outlines first last (walked ++ next ∷ []) next
  a_step first last walked here next at by older stands behind way =
      let has : Contains outlines next = listed outlines at next stands in
      let link : IsLinked n outlines here next = record { has_first = end_listed first way.rest here way.chain; has_second = has; behind = behind } in
      record {
        rest = way.rest ++ next ∷ [];
        begins = ap (λ os. os ++ next ∷ []) way.begins;
        chain = chain_push first way.rest here next way.chain link;
        onward = λ all chain. let on = way.onward all chain in chain_on here next last on.0 by has behind older on.1;
      }

  any_behind : (here next : Outline) → IsLinked n outlines here next → Any (IsBehind n here) outlines
  any_behind here next link = (link.has_second.0, next, link.has_second.1, link.has_second.2, link.behind)

  no_chain_on : (here last : Outline) (left : List Outline) → lsn_told here < lsn_told last → (Any (IsBehind n here) outlines → ⊥) → IsChain n outlines here left last → ⊥
  no_chain_on here last [] older none chain = let e : lsn_told here ≡ lsn_told last = ap lsn_told chain.1 in omega arith
  no_chain_on here last (next ∷ left) older none chain = none (any_behind here next chain.0)

  pub no_way_on : (first last : Outline) (walked : List Outline) (here : Outline) → lsn_told here < lsn_told last
      → (Any (IsBehind n here) outlines → ⊥) → IsUnderWay n outlines first last walked here → (rest : List Outline) → IsChain n outlines first rest last → ⊥
  no_way_on first last walked here older none way rest chain = let on = way.onward rest chain in no_chain_on here last on.0 older none on.1

  no_chain_back : (here last : Outline) (left : List Outline) → lsn_told last ≤ lsn_told here → (here ≡ last → ⊥) → IsChain n outlines here left last → ⊥
  no_chain_back here last [] past other chain = other chain.1
  no_chain_back here last (next ∷ left) past other chain =
      let step : lsn_told here < lsn_told next = chain.0.behind.greater in
      let later : lsn_told next ≤ lsn_told last = never_older next left last chain.1 in
      omega arith

  pub led_past : (first last : Outline) (walked : List Outline) (here : Outline) → lsn_told last ≤ lsn_told here
      → (here ≡ last → ⊥) → IsUnderWay n outlines first last walked here → (rest : List Outline) → IsChain n outlines first rest last → ⊥
  led_past first last walked here past other way rest chain = let on = way.onward rest chain in no_chain_back here last on.0 past other on.1

  pub led_here : (first last : Outline) (walked : List Outline) (here : Outline) → here ≡ last → IsUnderWay n outlines first last walked here
      → (rest : List Outline) × (walked ≡ first ∷ rest) × IsChain n outlines first rest last
  led_here first last walked here same way = (way.rest, way.begins, subst (IsChain n outlines first way.rest) same way.chain)
