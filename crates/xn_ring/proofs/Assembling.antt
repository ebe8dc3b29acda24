-- What was found makes the state of the ring.
use Rattle.std.proofs.Common.{◌≡◌, ◌∙◌, ◌↔◌, ℕ, suc, ◌+◌, ◌-◌, ◌*◌, ◌%◌, ◌≤◌, List, [], ◌∷◌, length, map, sum_by, get_or, Option, Some, None, Contains, inl, inr, sym, ap, subst, refl, arith, nat_lt, if◌then◌else◌}
use Rattle.std.specs.Prelude.{All, IfSome}
use Rattle.std.specs.List.Sorted.{IsStrictlyIncreasing}
use Rattle.std.proofs.lemmas.List.Elements.{All-cons, All-contains, All-nil}
use Rattle.std.proofs.lemmas.List.Sums.{sum_by-cons}
use Rattle.xn_bytes.specs.Superblock.{Geometry, sector_of_block}
use Rattle.xn_log.specs.Ring.{IsMarked, record_at, ring_of, ring_sectors_of, sectors_at}
use Rattle.xn_log.specs.Heads.{HasNoHead, RingHolds, RingState, free_sectors}
use Rattle.xn_log.specs.declared.outline.Outline.{Outline}
use Rattle.xn_log.specs.declared.record.Record.{Record}
use Rattle.xn_ring.specs.Chains.{AreLiveAmong, IsChain, IsHeadAmong}
use Rattle.xn_ring.specs.Scans.{AreOutlines, HavePlaces, IsNoted, IsOutlineOf, IsPlaced, left_free, outline_at}
use Rattle.xn_ring.specs.declared.found.Found.{Found}
use Rattle.xn_ring.proofs.OnRing.{head_at, head_of, live_at, sectors_told}
use Rattle.xn_ring.proofs.Scanning.{sectors_of_ring}

-- ---- the live records are among the outlines

chain_listed : (n : ℕ) (outlines : List Outline) (first : Outline) (rest : List Outline) (last : Outline) → IsChain n outlines first rest last → All (Contains outlines) (first ∷ rest)
chain_listed n outlines first [] last chain = All-cons (Contains outlines) first [] chain.0 (All-nil (Contains outlines))
chain_listed n outlines first (next ∷ rest) last chain = All-cons (Contains outlines) first (next ∷ rest) chain.0.has_first (chain_listed n outlines next rest last chain.1)

pub live_listed : (n : ℕ) (outlines : List Outline) (head : Outline) (live : List Outline) → AreLiveAmong n outlines head live → All (Contains outlines) live
live_listed n outlines head live are =
    elim are [
      | inl none ↦ subst (All (Contains outlines)) (sym none.1) (All-nil (Contains outlines))
      | inr some ↦ subst (All (Contains outlines)) (sym some.1.2) (chain_listed n outlines some.1.0 some.1.1 head some.1.3.chain)
    ]

pub live_placed : (n done : ℕ) (outlines : List Outline) (head : Outline) (live : List Outline) → HavePlaces n done outlines → AreLiveAmong n outlines head live → All (IsPlaced n done) live
live_placed n done outlines head live places are = λ k d low. All-contains (IsPlaced n done) outlines (get_or live k d) places.each (live_listed n outlines head live are k d low)

live_outlined : (uuid ring : List ℕ) (n done : ℕ) (outlines : List Outline) (head : Outline) (live : List Outline) → AreOutlines uuid ring done outlines → AreLiveAmong n outlines head live → All (IsOutlineOf uuid ring done) live
live_outlined uuid ring n done outlines head live of are = λ k d low. of.each (get_or live k d) (live_listed n outlines head live are k d low)

-- ---- the state

sum_told : (uuid ring : List ℕ) (done : ℕ) (live : List Outline) → All (IsOutlineOf uuid ring done) live → sum_by (sectors_at ring) (sectors_told live) ≡ sum_by (λ (o : Outline). o.sectors) live
sum_told uuid ring done [] all = refl
sum_told uuid ring done (o ∷ live) all =
    let here : sectors_at ring o.sector ≡ o.sectors = ap (λ (p : Outline). p.sectors) (sym (all 0 o (omega arith)).is) in
    let rest : sum_by (sectors_at ring) (sectors_told live) ≡ sum_by (λ (p : Outline). p.sectors) live = sum_told uuid ring done live (λ k d low. all (suc k) d (omega arith)) in
    sum_by-cons (sectors_at ring) o.sector (sectors_told live)
    ∙ (ap (λ n. n + sum_by (sectors_at ring) (sectors_told live)) here ∙ ap (λ n. o.sectors + n) rest)
    ∙ sym (sum_by-cons (λ (p : Outline). p.sectors) o live)

free_told : (uuid ring : List ℕ) (head : Outline) (live : List Outline) → head ≡ outline_at ring head.sector → All (IsOutlineOf uuid ring (ring_sectors_of ring)) live
    → left_free (ring_sectors_of ring) head live ≡ free_sectors ring head.sector (sectors_told live)
free_told uuid ring head [] is all = ap (λ (o : Outline). ring_sectors_of ring - o.sectors) is
free_told uuid ring head (first ∷ rest) is all = ap (λ n. ring_sectors_of ring - n) (sym (sum_told uuid ring (ring_sectors_of ring) (first ∷ rest) all))

records_told : (ring : List ℕ) (live : List Outline) → map (λ (o : Outline). record_at ring o.sector) live ≡ map (record_at ring) (sectors_told live)
records_told ring [] = refl
records_told ring (o ∷ live) = ap (λ rs. record_at ring o.sector ∷ rs) (records_told ring live)

-- what makes the state of a ring of so many sectors
pub record MakesState (n : ℕ) (head : Outline) (live : List Outline) (records : List Record) (marks : List ℕ) (state : RingState) : Type 0 where
  pub head_cycle_is : state.head_cycle ≡ head.cycle
  pub next_cycle_is : state.next_cycle ≡ (if nat_lt (head.sector + head.sectors) n then head.cycle else head.cycle + 1)
  pub next_sector_is : state.next_sector ≡ (head.sector + head.sectors) % n
  pub free_is : state.free ≡ left_free n head live
  pub live_are : state.live ≡ records
  pub marks_are : state.marks ≡ marks

module _ (uuid ring : List ℕ) (found : Found) (noted : IsNoted uuid ring (ring_sectors_of ring) found) where
  pub holds : (head : Outline) (live : List Outline) (records : List Record) (state : RingState)
      → IsHeadAmong (ring_sectors_of ring) found.outlines.items head → AreLiveAmong (ring_sectors_of ring) found.outlines.items head live
      → (All (IsOutlineOf uuid ring (ring_sectors_of ring)) live → records ≡ map (λ (o : Outline). record_at ring o.sector) live)
      → MakesState (ring_sectors_of ring) head live records found.marks.items state → RingHolds uuid ring state
  holds head live records state is_head are_live read makes =
      let n : ℕ = ring_sectors_of ring in
      let has : Contains found.outlines.items head = is_head.candidate.listed in
      let is : head ≡ outline_at ring head.sector = (noted.outlines.each head has).is in
      let all = live_outlined uuid ring n n found.outlines.items head live noted.outlines are_live in (
        head.sector,
        sectors_told live,
        record {
          is_head = head_at uuid ring found.outlines.items noted.outlines head is_head;
          are_live = live_at uuid ring found.outlines.items noted.outlines head live has are_live;
          head_cycle_is = makes.head_cycle_is ∙ ap (λ (o : Outline). o.cycle) is;
          next_cycle_is = makes.next_cycle_is ∙ ap (λ (o : Outline). if nat_lt (head.sector + o.sectors) n then o.cycle else o.cycle + 1) is;
          next_sector_is = makes.next_sector_is ∙ ap (λ (o : Outline). (head.sector + o.sectors) % n) is;
          free_is = makes.free_is ∙ free_told uuid ring head live is all;
          live_are = makes.live_are ∙ read all ∙ records_told ring live;
          marks_are = λ s. subst (λ ms. Contains ms s ↔ IsMarked ring s) (sym makes.marks_are) (
            λ has_mark. ((noted.marks.each s).0 has_mark).1,
            λ marked. (noted.marks.each s).1 (marked.within, marked),
          );
          marks_rise = subst IsStrictlyIncreasing (sym makes.marks_are) noted.marks.rise;
        },
      )

  pub holds_none : ((o : Outline) → IsHeadAmong (ring_sectors_of ring) found.outlines.items o → ⊥) → HasNoHead uuid ring
  holds_none none sector head = none (outline_at ring sector) (head_of uuid ring found.outlines.items noted.outlines sector head)

-- ---- where the image may not be told

pub ring_told : (g : Geometry) (image now : Option (List ℕ)) (sectors n : ℕ) (found : Found) (head : Outline) (live : List Outline) (records : List Record) (state : RingState)
    → IfSome image (λ x. length x ≡ 512 * sectors) → sector_of_block g g.log_start + 8 * g.log_blocks ≤ sectors → n ≡ 8 * g.log_blocks → now ≡ image
    → IfSome image (λ x. IsNoted g.uuid (ring_of g x) (8 * g.log_blocks) found)
    → IsHeadAmong n found.outlines.items head → AreLiveAmong n found.outlines.items head live
    → IfSome now (λ x. All (IsOutlineOf g.uuid (ring_of g x) (8 * g.log_blocks)) live → records ≡ map (λ (o : Outline). record_at (ring_of g x) o.sector) live)
    → MakesState n head live records found.marks.items state → IfSome image (λ x. RingHolds g.uuid (ring_of g x) state)
ring_told g None now sectors n found head live records state long there is_n stays noted is_head are_live read makes = tt
ring_told g (Some x) now sectors n found head live records state long there is_n stays noted is_head are_live read makes =
    let ring : List ℕ = ring_of g x in
    let many : 8 * g.log_blocks ≡ ring_sectors_of ring = sym (sectors_of_ring g x sectors long there) in
    let many_n : n ≡ ring_sectors_of ring = is_n ∙ many in
    let P : Option (List ℕ) → Type 0 = λ i. IfSome i (λ y. All (IsOutlineOf g.uuid (ring_of g y) (8 * g.log_blocks)) live → records ≡ map (λ (o : Outline). record_at (ring_of g y) o.sector) live) in
    let read_here : All (IsOutlineOf g.uuid ring (8 * g.log_blocks)) live → records ≡ map (λ (o : Outline). record_at ring o.sector) live = subst P stays read in
    holds g.uuid ring found (subst (λ m. IsNoted g.uuid ring m found) many noted) head live records state
    (subst (λ m. IsHeadAmong m found.outlines.items head) many_n is_head)
    (subst (λ m. AreLiveAmong m found.outlines.items head live) many_n are_live)
    (subst (λ m. All (IsOutlineOf g.uuid ring m) live → records ≡ map (λ (o : Outline). record_at ring o.sector) live) many read_here)
    (subst (λ m. MakesState m head live records found.marks.items state) many_n makes)

pub none_told : (g : Geometry) (image : Option (List ℕ)) (sectors n : ℕ) (found : Found)
    → IfSome image (λ x. length x ≡ 512 * sectors) → sector_of_block g g.log_start + 8 * g.log_blocks ≤ sectors → n ≡ 8 * g.log_blocks
    → IfSome image (λ x. IsNoted g.uuid (ring_of g x) (8 * g.log_blocks) found)
    → ((o : Outline) → IsHeadAmong n found.outlines.items o → ⊥) → IfSome image (λ x. HasNoHead g.uuid (ring_of g x))
none_told g None sectors n found long there is_n noted none = tt
none_told g (Some x) sectors n found long there is_n noted none =
    let ring : List ℕ = ring_of g x in
    let many : 8 * g.log_blocks ≡ ring_sectors_of ring = sym (sectors_of_ring g x sectors long there) in
    holds_none g.uuid ring found (subst (λ m. IsNoted g.uuid ring m found) many noted) (subst (λ m. (o : Outline) → IsHeadAmong m found.outlines.items o → ⊥) (is_n ∙ many) none)

-- a record that was noted was there to be read
pub missing_told : (g : Geometry) (image now : Option (List ℕ)) (n : ℕ) (found : Found) (head : Outline) (live : List Outline) → now ≡ image
    → IfSome image (λ x. IsNoted g.uuid (ring_of g x) (8 * g.log_blocks) found) → AreLiveAmong n found.outlines.items head live
    → IfSome now (λ x. All (IsOutlineOf g.uuid (ring_of g x) (8 * g.log_blocks)) live → ⊥) → IfSome image (λ x. HasNoHead g.uuid (ring_of g x))
missing_told g None now n found head live stays noted are none = tt
missing_told g (Some x) now n found head live stays noted are none =
    let P : Option (List ℕ) → Type 0 = λ i. IfSome i (λ y. All (IsOutlineOf g.uuid (ring_of g y) (8 * g.log_blocks)) live → ⊥) in
    let none_here : All (IsOutlineOf g.uuid (ring_of g x) (8 * g.log_blocks)) live → ⊥ = subst P stays none in
    absurd (none_here (live_outlined g.uuid (ring_of g x) n (8 * g.log_blocks) found.outlines.items head live noted.outlines are))
