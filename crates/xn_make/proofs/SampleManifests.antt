-- The chunks of a sample's manifest rise.
use Rattle.std.proofs.Common.{◌≡◌, ℕ, zero, suc, ◌+◌, ◌*◌, ◌/◌, ◌≤◌, ◌^◌, List, [], ◌∷◌, ◌++◌, map, lit<, sym, ap, subst, ◌∙◌, arith}
use Rattle.std.specs.List.{range_with_len}
use Rattle.std.proofs.lemmas.List.FromFn.{map-range_with_len_more}
use Rattle.xn_meaning.specs.Manifests.{AreChunks, IsManifest, Manifest}
use Rattle.xn_make.specs.Samples.{full_chunk, sample_manifest}

chunks_from : (first count least : ℕ) → least ≤ 128 + 64 * first → 128 + 64 * (first + count) ≤ 2 ^ 56 → AreChunks least (map full_chunk (range_with_len first count))
chunks_from first zero least low few = tt
chunks_from first (suc count) least low few =
    (low, omega (arith, few), lit< tt, chunks_from (first + 1) count (128 + 64 * first + 64) (omega arith) (omega (arith, few)))

-- one more chunk
pub chunks_more : (place start : ℕ) (old new : List (ℕ × ℕ)) → old ≡ map full_chunk (range_with_len 0 place) → start ≡ 64 * place → new ≡ old ++ (128 + start, 0) ∷ []
    → new ≡ map full_chunk (range_with_len 0 (place + 1))
chunks_more place start old new are at push =
    push
    ∙ ap (λ (n : ℕ). old ++ (128 + n, 0) ∷ []) at
    ∙ ap (λ (xs : List (ℕ × ℕ)). xs ++ full_chunk place ∷ []) are
    ∙ sym (map-range_with_len_more full_chunk 0 place place (omega arith))

-- what was put together is the sample's manifest
pub manifest_is : (inodes pool place first count : ℕ) (chunks runs : List (ℕ × ℕ)) → place ≡ inodes / 64 → first ≡ 512 → count ≡ pool → chunks ≡ map full_chunk (range_with_len 0 place) → runs ≡ (first, count) ∷ []
    → record { chunks = chunks; runs = runs } ≡ sample_manifest inodes pool
manifest_is inodes pool place first count chunks runs all at many are run =
    let M : List (ℕ × ℕ) → List (ℕ × ℕ) → Manifest = λ (xs : List (ℕ × ℕ)) (ys : List (ℕ × ℕ)). record { chunks = xs; runs = ys } in
    ap (λ (xs : List (ℕ × ℕ)). M xs runs) (are ∙ ap (λ (n : ℕ). map full_chunk (range_with_len 0 n)) all)
    ∙ ap (M (map full_chunk (range_with_len 0 (inodes / 64)))) (run ∙ ap (λ (n : ℕ). (n, count) ∷ []) at ∙ ap (λ (n : ℕ). (512, n) ∷ []) many)

sample_is : (inodes pool : ℕ) → inodes ≤ 3968 → 1 ≤ pool → pool ≤ 65536 → IsManifest (sample_manifest inodes pool)
sample_is inodes pool fit some few = record {
  chunks = chunks_from 0 (inodes / 64) 0 (omega arith) (omega (arith, fit));
  runs = (omega arith, some, omega (arith, few), tt);
  few = omega (arith, few);
}

pub is_manifest : (inodes pool place first count : ℕ) (chunks runs : List (ℕ × ℕ)) → inodes ≤ 3968 → 1 ≤ pool → pool ≤ 65536
    → place ≡ inodes / 64 → first ≡ 512 → count ≡ pool → chunks ≡ map full_chunk (range_with_len 0 place) → runs ≡ (first, count) ∷ [] → IsManifest (record { chunks = chunks; runs = runs })
is_manifest inodes pool place first count chunks runs fit some few all at many are run =
    subst (λ (m : Manifest). IsManifest m) (sym (manifest_is inodes pool place first count chunks runs all at many are run)) (sample_is inodes pool fit some few)
