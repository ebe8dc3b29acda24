-- Sectors of a piece of the image, of which the first ones have what is kept laid over them.
use Rattle.std.proofs.Common.{◌≡◌, ◌≢◌, inl, inr, ℕ, ◌+◌, ◌*◌, ◌/◌, ◌<◌, ◌≤◌, List, length, Some, None, sym, ap, subst, ◌∙◌, arith}
use Rattle.std.specs.Prelude.{unwrap_or}
use Rattle.std.proofs.lemmas.Bool.{cases_eq, cases_lt}
use Rattle.xn_bytes.specs.Numbers.{overlaid, sector_of}
use Rattle.xn_bytes.proofs.Overlays.{slice_range-overlaid-there, slice_range-overlaid-apart}
use Rattle.xn_replay.specs.Overlay.{kept_at}

-- the first k sectors are done
pub record IsLaid (kept : List (ℕ × List ℕ)) (first k : ℕ) (initial into : List ℕ) : Type 0 where
  pub laid : (j : ℕ) → j < k → sector_of into j ≡ unwrap_or (kept_at kept (first + j)) (sector_of initial j)
  pub left : (j : ℕ) → k ≤ j → j < length initial / 512 → sector_of into j ≡ sector_of initial j

sector_stays : (into : List ℕ) (k j : ℕ) (over : List ℕ) → length over ≡ 512 → 512 * (k + 1) ≤ length into → 512 * (j + 1) ≤ length into → k ≢ j → sector_of (overlaid into (512 * k) over) j ≡ sector_of into j
sector_stays into k j over whole room place apart =
    slice_range-overlaid-apart into (512 * k) over (512 * j) (512 * j + 512) (omega arith) (omega arith)
    (elim (cases_lt j k) [ inl below ↦ inl (omega arith) | inr above ↦ inr (omega arith) ])

pub laid_some : (kept : List (ℕ × List ℕ)) (first k : ℕ) (initial into over : List ℕ) → length into ≡ length initial → k < length initial / 512 → length over ≡ 512 → kept_at kept (first + k) ≡ Some over → IsLaid kept first k initial into → IsLaid kept first (k + 1) initial (overlaid into (512 * k) over)
laid_some kept first k initial into over long low whole found is = record {
  laid = λ j h. elim (cases_eq k j) [
    | inl here ↦ subst (λ n. sector_of (overlaid into (512 * k) over) n ≡ unwrap_or (kept_at kept (first + n)) (sector_of initial n)) here
        (slice_range-overlaid-there into (512 * k) over (512 * k + 512) (omega arith) (omega arith) ∙ sym (ap (λ r. unwrap_or r (sector_of initial k)) found))
    | inr apart ↦ sector_stays into k j over whole (omega arith) (omega arith) apart ∙ is.laid j (omega arith)
  ];
  left = λ j h within. sector_stays into k j over whole (omega arith) (omega arith) (λ same. omega arith) ∙ is.left j (omega arith) within;
}

pub laid_none : (kept : List (ℕ × List ℕ)) (first k : ℕ) (initial into : List ℕ) → k < length initial / 512 → kept_at kept (first + k) ≡ None → IsLaid kept first k initial into → IsLaid kept first (k + 1) initial into
laid_none kept first k initial into low found is = record {
  laid = λ j h. elim (cases_eq k j) [
    | inl here ↦ subst (λ n. sector_of into n ≡ unwrap_or (kept_at kept (first + n)) (sector_of initial n)) here
        (is.left k (omega arith) low ∙ sym (ap (λ r. unwrap_or r (sector_of initial k)) found))
    | inr apart ↦ is.laid j (omega arith)
  ];
  left = λ j h within. is.left j (omega arith) within;
}
