-- Where levels start.
use Rattle.std.proofs.Common.{◌≡◌, ℕ, zero, suc, ◌+◌, ◌*◌, refl, sym, ap, ◌∙◌}
use Rattle.xn_pool.specs.Trees.{level_below}

below_more : (levels start : ℕ) → level_below levels (64 * start + 1) ≡ 64 * level_below levels start + 1
below_more zero start = refl
below_more (suc levels) start = below_more levels (64 * start + 1)

pub next_level : (first : ℕ) → (levels : ℕ) × (first ≡ level_below levels 0) → (levels : ℕ) × (64 * first + 1 ≡ level_below levels 0)
next_level first (levels, e) = (suc levels, ap (λ n. 64 * n + 1) e ∙ sym (below_more levels 0))
