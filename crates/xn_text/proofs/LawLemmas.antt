-- What the grammar of a manifest's text decides: the manifest of a text, or the first line that is outside the grammar.
use Rattle.std.proofs.Common.{◌≡◌, ◌∙◌, ℕ, zero, suc, ◌+◌, ◌-◌, ◌<◌, ◌≤◌, List, [], ◌∷◌, length, take, inl, inr, sym, ap, ap₂, subst, arith}
use Rattle.std.proofs.lemmas.Bool.{cases_lt}
use Rattle.std.proofs.lemmas.List.{take-map, take-take}
use Rattle.std.proofs.lemmas.List.Sums.{sum_by-take-le}
use Rattle.xn_meaning.specs.Manifests.{Manifest as Said, IsManifest, IsTextOf, IsFirstBadLine, SpellManifest, AreChunks, ArePoolRuns, header_line, chunk_line, pool_line, manifest_lines, lines_in}
use Rattle.xn_text.proofs.ManifestLemmas.{body, same_body, small_chunks, small_runs}

-- ---- a text is that of one manifest

same_lines : (m n : Said) → IsManifest m → IsManifest n → manifest_lines m ≡ manifest_lines n → m ≡ n
same_lines m n is also e =
    let rest : body m.chunks m.runs ≡ body n.chunks n.runs = cc in
    let same = same_body m.chunks m.runs n.chunks n.runs (small_chunks 0 m.chunks is.chunks) (small_runs 0 m.runs is.runs) (small_chunks 0 n.chunks also.chunks) (small_runs 0 n.runs also.runs) rest in
    let made : List (ℕ × ℕ) → List (ℕ × ℕ) → Said = λ chunks runs. record { chunks = chunks; runs = runs } in
    ap₂ made same.0 same.1

pub one_manifest : (text : List ℕ) (m n : Said) → IsTextOf text m → IsTextOf text n → m ≡ n
one_manifest text m n a b = same_lines m n a.0 b.0 (sym a.1 ∙ b.1)

-- ---- the front of a manifest's lines is a manifest's

cut_chunks : (least k : ℕ) (chunks : List (ℕ × ℕ)) → AreChunks least chunks → AreChunks least (take k chunks)
cut_chunks least zero chunks are = tt
cut_chunks least (suc k) [] are = tt
cut_chunks least (suc k) (chunk ∷ chunks) are = (are.0, are.1, are.2, cut_chunks (chunk.0 + 64) k chunks are.3)

cut_runs : (least k : ℕ) (runs : List (ℕ × ℕ)) → ArePoolRuns least runs → ArePoolRuns least (take k runs)
cut_runs least zero runs are = tt
cut_runs least (suc k) [] are = tt
cut_runs least (suc k) (run ∷ runs) are = (are.0, are.1, are.2, cut_runs (run.0 + run.1) k runs are.3)

cut_body : (k : ℕ) (chunks runs : List (ℕ × ℕ)) → take k (body chunks runs) ≡ body (take k chunks) (take (k - length chunks) runs)
cut_body zero chunks runs =
    let none : 0 - length chunks ≡ 0 = omega arith in
    ap (λ (n : ℕ). body [] (take n runs)) (sym none)
cut_body (suc k) [] runs =
    let all : suc k - 0 ≡ suc k = omega arith in
    take-map pool_line (suc k) runs ∙ ap (λ (n : ℕ). body [] (take n runs)) (sym all)
cut_body (suc k) (chunk ∷ chunks) runs =
    let left : suc k - suc (length chunks) ≡ k - length chunks = omega arith in
    ap (λ (lines : List (List ℕ)). chunk_line chunk ∷ lines) (cut_body k chunks runs ∙ ap (λ (n : ℕ). body (take k chunks) (take n runs)) (sym left))

abbrev cut : ℕ → Said → Said
cut k m = record { chunks = take k m.chunks; runs = take (k - length m.chunks) m.runs }

cut_is : (k : ℕ) (m : Said) → IsManifest m → IsManifest (cut k m)
cut_is k m is = record {
  chunks = cut_chunks 0 k m.chunks is.chunks;
  runs = cut_runs 0 (k - length m.chunks) m.runs is.runs;
  few = omega (arith, sum_by-take-le (λ (run : ℕ × ℕ). run.1) m.runs (k - length m.chunks), is.few);
}

front_spelled : (k : ℕ) (m : Said) (lines : List (List ℕ)) → 0 < k → SpellManifest lines m → (n : Said) × SpellManifest (take k lines) n
front_spelled zero m lines some spells = absurd (omega (arith, some))
front_spelled (suc k) m lines some spells =
    (cut k m, (cut_is k m spells.0, ap (take (suc k)) spells.1 ∙ ap (λ (rest : List (List ℕ)). header_line ∷ rest) (cut_body k m.chunks m.runs)))

-- ---- one first bad line at most

pub no_bad_line : (text : List ℕ) (m : Said) (number : ℕ) → IsTextOf text m → ¬ IsFirstBadLine text number
no_bad_line text m number is bad =
    let front = front_spelled number m (lines_in text) bad.counted is in
    bad.none front.0 front.1

no_earlier : (text : List ℕ) (m n : ℕ) → IsFirstBadLine text m → IsFirstBadLine text n → n ≤ m
no_earlier text m n a b =
    let counted = a.counted in
    elim (cases_lt m n) [
      | inl before ↦
          elim b.front [
            | inl first ↦ absurd (omega (arith, first, before, counted))
            | inr spelled ↦
                let front = front_spelled m spelled.0 (take (n - 1) (lines_in text)) counted spelled.1 in
                let within : m ≤ n - 1 = omega (arith, before) in
                absurd (a.none front.0 (subst (λ (lines : List (List ℕ)). SpellManifest lines front.0) (take-take m (n - 1) (lines_in text) within) front.1))
          ]
      | inr behind ↦ behind
    ]

pub one_bad_line : (text : List ℕ) (m n : ℕ) → IsFirstBadLine text m → IsFirstBadLine text n → m ≡ n
one_bad_line text m n a b =
    let x : n ≤ m = no_earlier text m n a b in
    let y : m ≤ n = no_earlier text n m b a in
    omega arith
