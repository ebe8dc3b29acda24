-- The head among the outlines is the head of the ring.
use Rattle.std.proofs.Common.{◌≡◌, ◌∙◌, ◌⊎◌, ℕ, ◌+◌, ◌%◌, ◌^◌, ◌<◌, ◌≤◌, IsTrue, List, [], ◌∷◌, map, get_or, Contains, inl, inr, sym, ap, subst, arith}
use Rattle.xn_log.specs.Records.{holds_unmount, lsn_of}
use Rattle.xn_log.specs.Ring.{IsIntactAt, lsn_at, ring_sectors_of, sector_after, sectors_at, tail_at, turned}
use Rattle.xn_log.specs.Heads.{AreLive, IsCandidate, IsFollowedBy, IsHead, IsRun, IsRunFromTail, is_unmounted_at}
use Rattle.xn_log.specs.declared.outline.Outline.{Outline}
use Rattle.xn_ring.specs.Chains.{AreBySector, AreLiveAmong, IsChain, IsChainFromTail, IsHeadAmong, IsLinked, IsReached, MayBeHead, lsn_told}
use Rattle.xn_ring.specs.Scans.{AreOutlines, HavePlaces, outline_at}
use Rattle.xn_ring.proofs.Walks.{end_listed, start_listed}

abbrev pub sectors_told : List Outline → List ℕ
sectors_told os = map (λ (o : Outline). o.sector) os

module _ (uuid ring : List ℕ) (outlines : List Outline) (are : AreOutlines uuid ring (ring_sectors_of ring) outlines) where
  -- ---- one record

  intact_at : (o : Outline) → Contains outlines o → IsIntactAt uuid ring o.sector
  intact_at o has = (are.each o has).intact

  lsn_same : (o : Outline) → Contains outlines o → lsn_at ring o.sector ≡ lsn_told o
  lsn_same o has =
      let of = are.each o has in
      of.intact.intact.lsn ∙ ap (λ (p : Outline). lsn_of p.cycle o.sector) (sym of.is)

  sectors_same : (o : Outline) → Contains outlines o → sectors_at ring o.sector ≡ o.sectors
  sectors_same o has = ap (λ (p : Outline). p.sectors) (sym (are.each o has).is)

  tail_same : (o : Outline) → Contains outlines o → tail_at ring o.sector ≡ o.tail
  tail_same o has = ap (λ (p : Outline). p.tail) (sym (are.each o has).is)

  unmount_same : (o : Outline) → Contains outlines o → is_unmounted_at ring o.sector ≡ o.is_unmount
  unmount_same o has = ap (λ (p : Outline). p.is_unmount) (sym (are.each o has).is)

  after_same : (o : Outline) → Contains outlines o → sector_after ring o.sector ≡ (o.sector + o.sectors) % ring_sectors_of ring
  after_same o has = ap (λ n. (o.sector + n) % ring_sectors_of ring) (sectors_same o has)

  listed_at : (sector : ℕ) → IsIntactAt uuid ring sector → Contains outlines (outline_at ring sector)
  listed_at sector intact = are.all sector intact.within intact

  -- ---- runs

  followed : (a b : Outline) → IsLinked (ring_sectors_of ring) outlines a b → IsFollowedBy uuid ring a.sector b.sector
  followed a b link = record {
    first = intact_at a link.has_first;
    second = intact_at b link.has_second;
    beside = link.behind.beside ∙ sym (after_same a link.has_first);
    greater = subst (λ m. m < lsn_at ring b.sector) (sym (lsn_same a link.has_first)) (subst (λ m. lsn_told a < m) (sym (lsn_same b link.has_second)) link.behind.greater);
  }

  linked : (s t : ℕ) → IsFollowedBy uuid ring s t → IsLinked (ring_sectors_of ring) outlines (outline_at ring s) (outline_at ring t)
  linked s t by =
      let has_s : Contains outlines (outline_at ring s) = listed_at s by.first in
      let has_t : Contains outlines (outline_at ring t) = listed_at t by.second in
      record {
        has_first = has_s;
        has_second = has_t;
        behind = record {
          beside = by.beside;
          greater = subst (λ m. m < lsn_told (outline_at ring t)) (lsn_same (outline_at ring s) has_s) (subst (λ m. lsn_at ring s < m) (lsn_same (outline_at ring t) has_t) by.greater);
        };
      }

  run_at : (first : Outline) (rest : List Outline) (last : Outline) → IsChain (ring_sectors_of ring) outlines first rest last → IsRun uuid ring first.sector (sectors_told rest) last.sector
  run_at first [] last chain = (intact_at first chain.0, ap (λ (o : Outline). o.sector) chain.1)
  run_at first (next ∷ rest) last chain = (followed first next chain.0, run_at next rest last chain.1)

  chain_of : (first : ℕ) (rest : List ℕ) (last : ℕ) → IsRun uuid ring first rest last → IsChain (ring_sectors_of ring) outlines (outline_at ring first) (map (outline_at ring) rest) (outline_at ring last)
  chain_of first [] last run = (listed_at first run.0, ap (outline_at ring) run.1)
  chain_of first (next ∷ rest) last run = (linked first next run.0, chain_of next rest last run.1)

  end_intact : (first : ℕ) (rest : List ℕ) (last : ℕ) → IsRun uuid ring first rest last → IsIntactAt uuid ring last
  end_intact first [] last run = subst (IsIntactAt uuid ring) run.1 run.0
  end_intact first (next ∷ rest) last run = end_intact next rest last run.1

  run_from_tail : (first : Outline) (rest : List Outline) (last : Outline) → Contains outlines first → IsChainFromTail (ring_sectors_of ring) outlines first rest last → IsRunFromTail uuid ring first.sector (sectors_told rest) last.sector
  run_from_tail first rest last has chain = record {
    run = run_at first rest last chain.chain;
    tail = lsn_same first has ∙ chain.tail ∙ sym (tail_same last (end_listed (ring_sectors_of ring) outlines first rest last chain.chain));
  }

  start_intact : (first : ℕ) (rest : List ℕ) (last : ℕ) → IsRun uuid ring first rest last → IsIntactAt uuid ring first
  start_intact first [] last run = run.0
  start_intact first (next ∷ rest) last run = run.0.first

  chain_from_tail : (first : ℕ) (rest : List ℕ) (last : ℕ) → IsRunFromTail uuid ring first rest last → IsChainFromTail (ring_sectors_of ring) outlines (outline_at ring first) (map (outline_at ring) rest) (outline_at ring last)
  chain_from_tail first rest last run = record {
    chain = chain_of first rest last run.run;
    tail = sym (lsn_same (outline_at ring first) (listed_at first (start_intact first rest last run.run))) ∙ run.tail;
  }

  -- ---- candidates and the head

  candidate_at : (o : Outline) → MayBeHead (ring_sectors_of ring) outlines o → IsCandidate uuid ring o.sector
  candidate_at o may = record {
    intact = intact_at o may.listed;
    reached =
        elim may.reached as (λ _. IsTrue (is_unmounted_at ring o.sector) ⊎ ((first : ℕ) × (rest : List ℕ) × IsRunFromTail uuid ring first rest o.sector)) [
          | inl unmount ↦ inl (subst IsTrue (sym (unmount_same o may.listed)) unmount)
          | inr reached ↦ inr (reached.0.sector, sectors_told reached.1, run_from_tail reached.0 reached.1 o (start_listed (ring_sectors_of ring) outlines reached.0 reached.1 o reached.2.chain) reached.2)
        ];
  }

  candidate_of : (sector : ℕ) → IsCandidate uuid ring sector → MayBeHead (ring_sectors_of ring) outlines (outline_at ring sector)
  candidate_of sector candidate = record {
    listed = listed_at sector candidate.intact;
    reached =
        elim candidate.reached as (λ _. IsTrue (holds_unmount (turned ring sector)) ⊎ IsReached (ring_sectors_of ring) outlines (outline_at ring sector)) [
          | inl unmount ↦ inl unmount
          | inr reached ↦ inr (outline_at ring reached.0, map (outline_at ring) reached.1, chain_from_tail reached.0 reached.1 sector reached.2)
        ];
  }

  pub head_at : (o : Outline) → IsHeadAmong (ring_sectors_of ring) outlines o → IsHead uuid ring o.sector
  head_at o head = record {
    candidate = candidate_at o head.candidate;
    greatest = λ other candidate.
        let may = candidate_of other candidate in
        let le : lsn_told (outline_at ring other) ≤ lsn_told o = head.greatest (outline_at ring other) may in
        let e : lsn_at ring other ≡ lsn_told (outline_at ring other) = lsn_same (outline_at ring other) may.listed in
        let f : lsn_at ring o.sector ≡ lsn_told o = lsn_same o head.candidate.listed in
        omega arith;
  }

  pub head_of : (sector : ℕ) → IsHead uuid ring sector → IsHeadAmong (ring_sectors_of ring) outlines (outline_at ring sector)
  head_of sector head = record {
    candidate = candidate_of sector head.candidate;
    greatest = λ other may.
        let le : lsn_at ring other.sector ≤ lsn_at ring sector = head.greatest other.sector (candidate_at other may) in
        let e : lsn_at ring other.sector ≡ lsn_told other = lsn_same other may.listed in
        let f : lsn_at ring sector ≡ lsn_told (outline_at ring sector) = lsn_same (outline_at ring sector) (listed_at sector head.candidate.intact) in
        omega arith;
  }

  pub live_at : (head : Outline) (live : List Outline) → Contains outlines head → AreLiveAmong (ring_sectors_of ring) outlines head live → AreLive uuid ring head.sector (sectors_told live)
  live_at head live has are_live =
      elim are_live [
        | inl none ↦ inl (subst IsTrue (sym (unmount_same head has)) none.0, ap sectors_told none.1)
        | inr some ↦
            let first : Outline = some.1.0 in
            let rest : List Outline = some.1.1 in
            let chain = some.1.3 in
            inr (
              λ unmount. some.0 (subst IsTrue (unmount_same head has) unmount),
              (first.sector, sectors_told rest, ap sectors_told some.1.2, run_from_tail first rest head (start_listed (ring_sectors_of ring) outlines first rest head chain.chain) chain),
            )
      ]

-- the outlines rise by sector
pub by_sector : (n done : ℕ) (outlines : List Outline) → done ≤ 2 ^ 32 → HavePlaces n done outlines → AreBySector outlines
by_sector n done outlines small places = record {
  small = λ i d low. let below : (get_or outlines i d).sector < done = (places.each i d low).below in omega arith;
  rise = places.rise;
}
