-- Committed transactions, one step on.
use Rattle.std.proofs.Common.{◌≡◌, ℕ, ◌+◌, ◌<◌, ◌≤◌, List, [], ◌∷◌, ◌++◌, length, get_or, drop, Result, Ok, Err, refl, sym, ap, ◌∙◌, append_assoc}
use Rattle.std.proofs.lemmas.List.{append-nil, at_drop_all, drop_more}
use Rattle.xn_changes.specs.declared.committed.Committed.{Committed}
use Rattle.xn_changes.specs.Decoded.{ItemFault, PlacedItem, committed_with, decoded_all, items_of, with_items}
use Rattle.xn_changes.specs.Transactions.{Whole}
use Rattle.xn_transactions.specs.declared.fault.ItemFault.{ItemFault as FaultHere}
use Rattle.xn_transactions.specs.declared.fault.ItemFault.TheVariants as fault
use Rattle.xn_transactions.specs.Decoding.{IsCommitted, committed_before}
use Rattle.xn_transactions.specs.Faults.{IsFirstFault}

decoded_all-parts : (whole : Whole) (rest : List Whole) → decoded_all (whole ∷ rest) ≡ with_items whole (items_of whole) (decoded_all rest)
unfolding decoded_all
decoded_all-parts whole rest = refl

decoded_all-none : decoded_all [] ≡ Ok []
unfolding decoded_all
decoded_all-none = refl

before_with : (done : List Committed) (whole : Whole) (items : List PlacedItem) (behind : Result (List Committed) ItemFault) → committed_before done (with_items whole (Ok items) behind) ≡ committed_before (done ++ committed_with whole items ∷ []) behind
before_with done whole items (Ok behind) = ap Ok (sym (append_assoc done (committed_with whole items ∷ []) behind))
before_with done whole items (Err why) = refl

before_fault : (done : List Committed) (whole : Whole) (said : Result (List PlacedItem) ItemFault) (behind : Result (List Committed) ItemFault) (f : FaultHere) → IsFirstFault said f → IsFirstFault (committed_before done (with_items whole said behind)) f
before_fault done whole said behind (fault.Foreign at) h = rw h refl
before_fault done whole said behind (fault.Malformed at) h = rw h refl
before_fault done whole said behind fault.Memory h = tt

from_whole : (wholes : List Whole) (k : ℕ) (whole : Whole) → k < length wholes → whole ≡ get_or wholes k whole → decoded_all (drop k wholes) ≡ with_items whole (items_of whole) (decoded_all (drop (k + 1) wholes))
from_whole wholes k whole lt is =
    ap decoded_all (drop_more wholes k whole lt ∙ ap (λ (w : Whole). w ∷ drop (k + 1) wholes) (sym is)) ∙ decoded_all-parts whole (drop (k + 1) wholes)

-- no transaction is before the first
pub decoded-none : (said : Result (List Committed) ItemFault) → said ≡ committed_before [] said
decoded-none (Ok committed) = refl
decoded-none (Err why) = refl

-- the transaction at a place is decoded
pub decoded-more : (done : List Committed) (wholes : List Whole) (k : ℕ) (whole : Whole) (committed : Committed) → k < length wholes → whole ≡ get_or wholes k whole → IsCommitted whole committed → committed_before done (decoded_all (drop k wholes)) ≡ committed_before (done ++ committed ∷ []) (decoded_all (drop (k + 1) wholes))
decoded-more done wholes k whole committed lt is h =
    ap (committed_before done) (from_whole wholes k whole lt is)
    ∙ ap (λ (said : Result (List PlacedItem) ItemFault). committed_before done (with_items whole said (decoded_all (drop (k + 1) wholes)))) h.said_so
    ∙ before_with done whole h.items (decoded_all (drop (k + 1) wholes))
    ∙ ap (λ (c : Committed). committed_before (done ++ c ∷ []) (decoded_all (drop (k + 1) wholes))) (sym h.held)

-- or an item of it is none
pub decoded-fault : (done : List Committed) (wholes : List Whole) (k : ℕ) (whole : Whole) (f : FaultHere) → k < length wholes → whole ≡ get_or wholes k whole → IsFirstFault (items_of whole) f → IsFirstFault (committed_before done (decoded_all (drop k wholes))) f
decoded-fault done wholes k whole f lt is h =
    rw (from_whole wholes k whole lt is) (before_fault done whole (items_of whole) (decoded_all (drop (k + 1) wholes)) f h)

-- all are decoded
pub decoded-all : (done : List Committed) (wholes : List Whole) (k : ℕ) → length wholes ≤ k → committed_before done (decoded_all (drop k wholes)) ≡ Ok done
decoded-all done wholes k past =
    ap (committed_before done) (at_drop_all decoded_all wholes k past ∙ decoded_all-none) ∙ ap Ok (append-nil done)
