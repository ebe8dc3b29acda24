-- Operations that are joined, one step on.
use Rattle.std.proofs.Common.{◌≡◌, ℕ, ◌+◌, ◌<◌, ◌≤◌, Bool, true, false, not, ◌&&◌, List, [], ◌∷◌, length, get_or, drop, map, Option, Some, None, refl, sym, ap, ◌∙◌, append_assoc}
use mathlib.Core.Bool.{beq}
use Rattle.std.proofs.lemmas.List.{at_drop_more, at_drop_all}
use Rattle.xn_changes.specs.Transactions.{LiveOp, Region, are_joined, continues, joined, regions_in, same, was_continued}
use Rattle.xn_transactions.specs.declared.live.LiveOp.{LiveOp as LiveOpHere}
use Rattle.xn_transactions.specs.Joining.{grown_by, with_last}
use Rattle.xn_transactions.specs.Viewed.{live_of}

-- what is said of operations from a place on, by the one there
from_place : {Y : Type 0} (F : List LiveOp → Y) (parts : List LiveOpHere) (k : ℕ) (part : LiveOpHere) → k < length parts → part ≡ get_or parts k part → F (map live_of (drop k parts)) ≡ F (live_of part ∷ map live_of (drop (k + 1) parts))
from_place F parts k part lt is =
    at_drop_more (λ (ps : List LiveOpHere). F (map live_of ps)) parts k part lt ∙ ap (λ (p : LiveOpHere). F (live_of p ∷ map live_of (drop (k + 1) parts))) (sym is)

-- what a comparison of truth values tells

pub alike : (a b : Bool) → not (beq a b) ≡ false → a ≡ b
alike true true h = refl
alike true false h = absurd (cc)
alike false true h = absurd (cc)
alike false false h = refl

pub unlike : (a b : Bool) → not (beq a b) ≡ true → a ≡ b → ⊥
unlike true true h e = cc
unlike true false h e = cc
unlike false true h e = cc
unlike false false h e = cc

same_as_itself : (b : Bool) → same b b ≡ true
same_as_itself true = refl
same_as_itself false = refl

same_as_other : (a b : Bool) → (a ≡ b → ⊥) → same a b ≡ false
same_as_other true true h = absurd (h refl)
same_as_other true false h = refl
same_as_other false true h = refl
same_as_other false false h = absurd (h refl)

are_joined-parts : (continued : Bool) (live : LiveOp) (parts : List LiveOp) → are_joined continued (live ∷ parts) ≡ (same (was_continued live) continued && are_joined (continues live) parts)
unfolding are_joined
are_joined-parts continued live parts = refl

are_joined-end : (continued : Bool) → are_joined continued [] ≡ not continued
unfolding are_joined
are_joined-end continued = refl

pub are_joined-more : (continued : Bool) (parts : List LiveOpHere) (k : ℕ) (part : LiveOpHere) → k < length parts → part ≡ get_or parts k part → was_continued (live_of part) ≡ continued → are_joined continued (map live_of (drop k parts)) ≡ are_joined (continues (live_of part)) (map live_of (drop (k + 1) parts))
are_joined-more continued parts k part lt is goes =
    from_place (are_joined continued) parts k part lt is ∙ are_joined-parts continued (live_of part) (map live_of (drop (k + 1) parts)) ∙ rw (goes, same_as_itself continued) refl

pub are_joined-stops : (continued : Bool) (parts : List LiveOpHere) (k : ℕ) (part : LiveOpHere) → k < length parts → part ≡ get_or parts k part → (was_continued (live_of part) ≡ continued → ⊥) → are_joined continued (map live_of (drop k parts)) ≡ false
are_joined-stops continued parts k part lt is stops =
    from_place (are_joined continued) parts k part lt is ∙ are_joined-parts continued (live_of part) (map live_of (drop (k + 1) parts)) ∙ rw (same_as_other (was_continued (live_of part)) continued stops) refl

pub are_joined-all : (continued : Bool) (parts : List LiveOpHere) (k : ℕ) → length parts ≤ k → are_joined continued (map live_of (drop k parts)) ≡ not continued
are_joined-all continued parts k past = at_drop_all (λ (ps : List LiveOpHere). are_joined continued (map live_of ps)) parts k past ∙ are_joined-end continued

ends : (unfinished : Option Region) (live : LiveOp) (parts : List LiveOp) → continues live ≡ false → with_last unfinished (regions_in (live ∷ parts)) ≡ grown_by live unfinished ∷ regions_in parts
unfolding regions_in
ends None live parts h = rw h refl
ends (Some region) live parts h = rw h refl

goes_on : (unfinished : Option Region) (live : LiveOp) (regions : List Region) → with_last unfinished (joined live regions) ≡ with_last (Some (grown_by live unfinished)) regions
goes_on None live [] = refl
goes_on None live (next ∷ regions) = refl
goes_on (Some region) live [] = refl
goes_on (Some region) live (next ∷ regions) = ap (λ (bs : List ℕ). record { place = region.place; bytes = bs } ∷ regions) (sym (append_assoc region.bytes live.op.bytes next.bytes))

going : (unfinished : Option Region) (live : LiveOp) (parts : List LiveOp) → continues live ≡ true → with_last unfinished (regions_in (live ∷ parts)) ≡ with_last (Some (grown_by live unfinished)) (regions_in parts)
unfolding regions_in
going unfinished live parts h = rw h (goes_on unfinished live (regions_in parts))

-- the operation at a place ends its region
pub regions_in-ended : (unfinished : Option Region) (parts : List LiveOpHere) (k : ℕ) (part : LiveOpHere) → k < length parts → part ≡ get_or parts k part → continues (live_of part) ≡ false → with_last unfinished (regions_in (map live_of (drop k parts))) ≡ grown_by (live_of part) unfinished ∷ regions_in (map live_of (drop (k + 1) parts))
regions_in-ended unfinished parts k part lt is h =
    from_place (λ (ps : List LiveOp). with_last unfinished (regions_in ps)) parts k part lt is ∙ ends unfinished (live_of part) (map live_of (drop (k + 1) parts)) h

-- its region goes on
pub regions_in-going : (unfinished : Option Region) (parts : List LiveOpHere) (k : ℕ) (part : LiveOpHere) → k < length parts → part ≡ get_or parts k part → continues (live_of part) ≡ true → with_last unfinished (regions_in (map live_of (drop k parts))) ≡ with_last (Some (grown_by (live_of part) unfinished)) (regions_in (map live_of (drop (k + 1) parts)))
regions_in-going unfinished parts k part lt is h =
    from_place (λ (ps : List LiveOp). with_last unfinished (regions_in ps)) parts k part lt is ∙ going unfinished (live_of part) (map live_of (drop (k + 1) parts)) h

pub regions_in-all : (unfinished : Option Region) (parts : List LiveOpHere) (k : ℕ) → length parts ≤ k → with_last unfinished (regions_in (map live_of (drop k parts))) ≡ with_last unfinished []
unfolding regions_in
regions_in-all unfinished parts k past = at_drop_all (λ (ps : List LiveOpHere). with_last unfinished (regions_in (map live_of ps))) parts k past
