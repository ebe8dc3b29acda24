-- A body is restored sector by sector.
use Rattle.std.proofs.Common.{◌≡◌, ℕ, zero, suc, ◌+◌, ◌*◌, List, [], ◌++◌, refl, sym, ap, ◌∙◌, arith, add-zero, append_assoc}
use Rattle.std.specs.Prelude.{slice_range}
use Rattle.std.proofs.lemmas.List.{append-nil}
use Rattle.xn_log.specs.Records.{body_sector_at, restored_from, restored_sector}

pub restored_none : (bytes : List ℕ) → restored_from bytes 0 0 ≡ []
unfolding restored_from
restored_none bytes = refl

restored_behind : (bytes : List ℕ) (k count : ℕ) → restored_from bytes k (suc count) ≡ restored_from bytes k count ++ restored_sector bytes (k + count)
unfolding restored_from
restored_behind bytes k zero = append-nil (restored_sector bytes k) ∙ ap (restored_sector bytes) (sym (add-zero k))
restored_behind bytes k (suc count) =
    let same : suc k + count ≡ k + suc count = omega arith in
    ap (λ (behind : List ℕ). restored_sector bytes k ++ behind) (restored_behind bytes (suc k) count ∙ ap (λ (at : ℕ). restored_from bytes (suc k) count ++ restored_sector bytes at) same)
    ∙ sym (append_assoc (restored_sector bytes k) (restored_from bytes (suc k) count) (restored_sector bytes (k + suc count)))

-- one more sector, as two pieces that are put behind
pub restored_more : (bytes body first second : List ℕ) (k : ℕ) → body ≡ restored_from bytes 0 k
    → first ≡ body ++ slice_range bytes (44 + 4 * k) (48 + 4 * k) → second ≡ first ++ slice_range bytes (512 + 512 * k + 4) (512 + 512 * k + 512)
    → second ≡ restored_from bytes 0 (k + 1)
restored_more bytes body first second k eb e1 e2 =
    let next : k + 1 ≡ suc k = omega arith in
    let end : 512 + 512 * k + 512 ≡ body_sector_at (suc k) = omega arith in
    let here : 0 + k ≡ k = omega arith in
    let word : List ℕ = slice_range bytes (44 + 4 * k) (48 + 4 * k) in
    let rest : slice_range bytes (512 + 512 * k + 4) (512 + 512 * k + 512) ≡ slice_range bytes (body_sector_at k + 4) (body_sector_at (suc k)) = ap (slice_range bytes (512 + 512 * k + 4)) end in
    e2 ∙ ap (λ (front : List ℕ). front ++ slice_range bytes (512 + 512 * k + 4) (512 + 512 * k + 512)) e1
    ∙ ap (λ (behind : List ℕ). (body ++ word) ++ behind) rest
    ∙ append_assoc body word (slice_range bytes (body_sector_at k + 4) (body_sector_at (suc k)))
    ∙ ap (λ (front : List ℕ). front ++ restored_sector bytes k) eb
    ∙ ap (λ (at : ℕ). restored_from bytes 0 k ++ restored_sector bytes at) (sym here)
    ∙ sym (restored_behind bytes 0 k)
    ∙ ap (restored_from bytes 0) (sym next)
