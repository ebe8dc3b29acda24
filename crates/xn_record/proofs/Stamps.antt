-- The stamps, one after another.
use Rattle.std.proofs.Common.{◌≡◌, ℕ, suc, ◌+◌, ◌*◌, List, Option, refl, sym, ap, ◌∙◌, add-one, ◌==◌}
use Rattle.xn_bytes.specs.Numbers.{number_at}
use Rattle.xn_log.specs.Records.{cycle_in, stamp_of}
use Rattle.xn_log.specs.RecordFaults.{body_end_fault, stamps_fault, unless}

abbrev pub stamp_fault : List ℕ → ℕ → ℕ → Option ℕ → Option ℕ
stamp_fault bytes k stamp behind = unless 4 (512 + 512 * k) (number_at 4 (512 + 512 * k) bytes == stamp) bytes behind

pub stamps_more : (ring_sectors sector : ℕ) (bytes : List ℕ) (k count stamp : ℕ) → stamp ≡ stamp_of ring_sectors sector (cycle_in bytes) k
    → stamps_fault ring_sectors sector bytes k (suc count) ≡ stamp_fault bytes k stamp (stamps_fault ring_sectors sector bytes (k + 1) count)
unfolding stamps_fault
stamps_more ring_sectors sector bytes k count stamp e =
    ap (λ (at : ℕ). stamp_fault bytes k (stamp_of ring_sectors sector (cycle_in bytes) k) (stamps_fault ring_sectors sector bytes at count)) (sym (add-one k))
    ∙ ap (λ (right : ℕ). stamp_fault bytes k right (stamps_fault ring_sectors sector bytes (k + 1) count)) (sym e)

pub stamps_end : (ring_sectors sector : ℕ) (bytes : List ℕ) (k : ℕ) → stamps_fault ring_sectors sector bytes k 0 ≡ body_end_fault bytes
unfolding stamps_fault
stamps_end ring_sectors sector bytes k = refl
