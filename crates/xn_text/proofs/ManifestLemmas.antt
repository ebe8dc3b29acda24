-- The lines of a manifest: what they say, and which line may follow them.
use Rattle.std.proofs.Common.{◌≡◌, ◌≢◌, ℕ, ◌+◌, ◌-◌, ◌^◌, ◌<◌, ◌≤◌, List, [], ◌∷◌, ◌++◌, length, take, map, refl, sym, ap, ap₂, subst, ◌∙◌, arith, inl, inr, append_assoc}
use Rattle.std.specs.Prelude.{codes, decimal}
use Rattle.std.proofs.lemmas.Fmt.{decimal_injective}
use Rattle.std.proofs.lemmas.List.{append_cancel_left, length_push, map_push, take_at}
use Rattle.xn_meaning.specs.Manifests.{Manifest as Said, IsManifest, AreChunks, ArePoolRuns, hex_digits, header_line, chunk_line, pool_line, manifest_lines, lines_in, IsFirstBadLine}
use Rattle.xn_meaning.specs.Replies.{space}
use Rattle.xn_text.specs.Numbers.{AreSmall}
use Rattle.xn_text.specs.Parts.{AreWords}
use Rattle.xn_text.specs.Reading.{end_of_chunks, end_of_runs, with_chunk, with_run, IsBadChunk, IsBadRun, IsBadNext}
use Rattle.xn_text.proofs.NumberLemmas.{hex_injective, decimal_words, mask_words, tail_words}

-- ---- lines and what they say

-- two words in two ways with a space between them
pub one_cut : (a b c d : List ℕ) → AreWords a b → AreWords c d → a ++ space ∷ b ≡ c ++ space ∷ d → (a ≡ c) × (b ≡ d)
one_cut [] b [] d p q e = (refl, cc)
one_cut [] b (y ∷ c) d p q e = let same : space ≡ y = cc in absurd (q.no_space 0 (omega arith) (sym same))
one_cut (x ∷ a) b [] d p q e = let same : x ≡ space = cc in absurd (p.no_space 0 (omega arith) same)
one_cut (x ∷ a) b (y ∷ c) d p q e =
    let head : x ≡ y = cc in
    let rest : (a ≡ c) × (b ≡ d) = one_cut a b c d (tail_words x a b p) (tail_words y c d q) (cc) in
    (ap₂ (λ (h : ℕ) (t : List ℕ). h ∷ t) head rest.0, rest.1)

pub one_chunk : (a b : ℕ × ℕ) → AreSmall a → AreSmall b → chunk_line a ≡ chunk_line b → a ≡ b
one_chunk a b sa sb e =
    let words = one_cut (decimal a.0) (hex_digits 16 a.1) (decimal b.0) (hex_digits 16 b.1) (mask_words a sa) (mask_words b sb)
    (append_cancel_left (codes "chunk ") (decimal a.0 ++ space ∷ hex_digits 16 a.1) (decimal b.0 ++ space ∷ hex_digits 16 b.1) e) in
    ap₂ (λ (x y : ℕ). (x, y)) (decimal_injective a.0 b.0 sa.0 sb.0 words.0) (hex_injective 16 a.1 b.1 sa.1 sb.1 words.1)

pub one_run : (a b : ℕ × ℕ) → AreSmall a → AreSmall b → pool_line a ≡ pool_line b → a ≡ b
one_run a b sa sb e =
    let words = one_cut (decimal a.0) (decimal a.1) (decimal b.0) (decimal b.1) (decimal_words a sa) (decimal_words b sb)
    (append_cancel_left (codes "pool ") (decimal a.0 ++ space ∷ decimal a.1) (decimal b.0 ++ space ∷ decimal b.1) e) in
    ap₂ (λ (x y : ℕ). (x, y)) (decimal_injective a.0 b.0 sa.0 sb.0 words.0) (decimal_injective a.1 b.1 sa.1 sb.1 words.1)

pub chunk_or_run : (chunk run : ℕ × ℕ) → chunk_line chunk ≢ pool_line run
chunk_or_run chunk run e = let same : ◌≡◌ {A = ℕ} 99 112 = cc in omega (arith, same)

-- ---- one chunk or run more

pub chunks_more : (least : ℕ) (chunks : List (ℕ × ℕ)) (chunk : ℕ × ℕ) → AreChunks least chunks → end_of_chunks least chunks ≤ chunk.0 → chunk.0 ≤ 2 ^ 56 → chunk.1 < 2 ^ 64 → AreChunks least (chunks ++ chunk ∷ [])
chunks_more least [] chunk are above low small = (above, low, small, tt)
chunks_more least (first ∷ chunks) chunk are above low small = (are.0, are.1, are.2, chunks_more (first.0 + 64) chunks chunk are.3 above low small)

pub runs_more : (least : ℕ) (runs : List (ℕ × ℕ)) (run : ℕ × ℕ) → ArePoolRuns least runs → end_of_runs least runs ≤ run.0 → 0 < run.1 → run.0 + run.1 ≤ 2 ^ 56 → ArePoolRuns least (runs ++ run ∷ [])
runs_more least [] run are above some low = (above, some, low, tt)
runs_more least (first ∷ runs) run are above some low = (are.0, are.1, are.2, runs_more (first.0 + first.1) runs run are.3 above some low)

-- what the last chunk and the last run keep
pub record IsNextChunk (least : ℕ) (chunks : List (ℕ × ℕ)) (chunk : ℕ × ℕ) : Type 0 where
  pub front : AreChunks least chunks
  pub above : end_of_chunks least chunks ≤ chunk.0
  pub low : chunk.0 ≤ 2 ^ 56
  pub small : chunk.1 < 2 ^ 64

pub record IsNextRun (least : ℕ) (runs : List (ℕ × ℕ)) (run : ℕ × ℕ) : Type 0 where
  pub front : ArePoolRuns least runs
  pub above : end_of_runs least runs ≤ run.0
  pub some : 0 < run.1
  pub low : run.0 + run.1 ≤ 2 ^ 56

pub last_chunk : (least : ℕ) (chunks : List (ℕ × ℕ)) (chunk : ℕ × ℕ) → AreChunks least (chunks ++ chunk ∷ []) → IsNextChunk least chunks chunk
last_chunk least [] chunk are = record { front = tt; above = are.0; low = are.1; small = are.2 }
last_chunk least (first ∷ chunks) chunk are =
    let last = last_chunk (first.0 + 64) chunks chunk are.3 in
    record { front = (are.0, are.1, are.2, last.front); above = last.above; low = last.low; small = last.small }

pub last_run : (least : ℕ) (runs : List (ℕ × ℕ)) (run : ℕ × ℕ) → ArePoolRuns least (runs ++ run ∷ []) → IsNextRun least runs run
last_run least [] run are = record { front = tt; above = are.0; some = are.1; low = are.2 }
last_run least (first ∷ runs) run are =
    let last = last_run (first.0 + first.1) runs run are.3 in
    record { front = (are.0, are.1, are.2, last.front); above = last.above; some = last.some; low = last.low }

pub chunks_end : (least : ℕ) (chunks : List (ℕ × ℕ)) (chunk : ℕ × ℕ) → end_of_chunks least (chunks ++ chunk ∷ []) ≡ chunk.0 + 64
chunks_end least [] chunk = refl
chunks_end least (first ∷ chunks) chunk = chunks_end (first.0 + 64) chunks chunk

pub runs_end : (least : ℕ) (runs : List (ℕ × ℕ)) (run : ℕ × ℕ) → end_of_runs least (runs ++ run ∷ []) ≡ run.0 + run.1
runs_end least [] run = refl
runs_end least (first ∷ runs) run = runs_end (first.0 + first.1) runs run

-- ---- lines of chunks and runs

-- each of them has small numbers
abbrev pub AreAllSmall : List (ℕ × ℕ) → Type 0
AreAllSmall [] = Unit {0}
AreAllSmall (pair ∷ pairs) = AreSmall pair × AreAllSmall pairs

pub small_chunks : (least : ℕ) (chunks : List (ℕ × ℕ)) → AreChunks least chunks → AreAllSmall chunks
small_chunks least [] are = tt
small_chunks least (chunk ∷ chunks) are = ((omega (arith, are.1), are.2), small_chunks (chunk.0 + 64) chunks are.3)

pub small_runs : (least : ℕ) (runs : List (ℕ × ℕ)) → ArePoolRuns least runs → AreAllSmall runs
small_runs least [] are = tt
small_runs least (run ∷ runs) are = ((omega (arith, are.2), omega (arith, are.2)), small_runs (run.0 + run.1) runs are.3)

-- the lines behind the header
abbrev pub body : List (ℕ × ℕ) → List (ℕ × ℕ) → List (List ℕ)
body chunks runs = map chunk_line chunks ++ map pool_line runs

same_runs : (p q : List (ℕ × ℕ)) → AreAllSmall p → AreAllSmall q → map pool_line p ≡ map pool_line q → p ≡ q
same_runs [] [] sp sq e = refl
same_runs [] (y ∷ q) sp sq e = absurd cc
same_runs (x ∷ p) [] sp sq e = absurd cc
same_runs (x ∷ p) (y ∷ q) sp sq e =
    ap₂ (λ (run : ℕ × ℕ) (runs : List (ℕ × ℕ)). run ∷ runs) (one_run x y sp.0 sq.0 (cc)) (same_runs p q sp.1 sq.1 (cc))

-- the lines of a body tell its chunks and its runs
pub same_body : (a p b q : List (ℕ × ℕ)) → AreAllSmall a → AreAllSmall p → AreAllSmall b → AreAllSmall q → body a p ≡ body b q → (a ≡ b) × (p ≡ q)
same_body [] p [] q sa sp sb sq e = (refl, same_runs p q sp sq e)
same_body [] [] (y ∷ b) q sa sp sb sq e = absurd cc
same_body [] (x ∷ p) (y ∷ b) q sa sp sb sq e = absurd (chunk_or_run y x (sym (cc)))
same_body (x ∷ a) p [] [] sa sp sb sq e = absurd cc
same_body (x ∷ a) p [] (y ∷ q) sa sp sb sq e = absurd (chunk_or_run x y (cc))
same_body (x ∷ a) p (y ∷ b) q sa sp sb sq e =
    let rest : (a ≡ b) × (p ≡ q) = same_body a p b q sa.1 sp sb.1 sq (cc) in
    (ap₂ (λ (chunk : ℕ × ℕ) (chunks : List (ℕ × ℕ)). chunk ∷ chunks) (one_chunk x y sa.0 sb.0 (cc)) rest.0, rest.1)

-- ---- a line more

push_chunks : (chunks : List (ℕ × ℕ)) (chunk : ℕ × ℕ) → body (chunks ++ chunk ∷ []) [] ≡ body chunks [] ++ chunk_line chunk ∷ []
push_chunks [] chunk = refl
push_chunks (first ∷ chunks) chunk = ap (λ (lines : List (List ℕ)). chunk_line first ∷ lines) (push_chunks chunks chunk)

push_runs : (chunks runs : List (ℕ × ℕ)) (run : ℕ × ℕ) → body chunks (runs ++ run ∷ []) ≡ body chunks runs ++ pool_line run ∷ []
push_runs chunks runs run =
    ap (λ (lines : List (List ℕ)). map chunk_line chunks ++ lines) (map_push pool_line runs run)
    ∙ sym (append_assoc (map chunk_line chunks) (map pool_line runs) (pool_line run ∷ []))

pub with_chunk_lines : (m : Said) (chunk : ℕ × ℕ) → m.runs ≡ [] → manifest_lines (with_chunk m chunk) ≡ manifest_lines m ++ chunk_line chunk ∷ []
with_chunk_lines m chunk none =
    ap (λ (runs : List (ℕ × ℕ)). header_line ∷ body (m.chunks ++ chunk ∷ []) runs) none
    ∙ ap (λ (lines : List (List ℕ)). header_line ∷ lines) (push_chunks m.chunks chunk)
    ∙ ap (λ (runs : List (ℕ × ℕ)). header_line ∷ body m.chunks runs ++ chunk_line chunk ∷ []) (sym none)

pub with_run_lines : (m : Said) (run : ℕ × ℕ) → manifest_lines (with_run m run) ≡ manifest_lines m ++ pool_line run ∷ []
with_run_lines m run = ap (λ (lines : List (List ℕ)). header_line ∷ lines) (push_runs m.chunks m.runs run)

-- A line behind those of a body makes those of another body: it is that of a chunk, and there are no runs, or that of a run.
data OneMore (a p b q : List (ℕ × ℕ)) (line : List ℕ) : Type 0 where
  ChunkMore : (chunk : ℕ × ℕ) → b ≡ a ++ chunk ∷ [] → p ≡ [] → q ≡ [] → line ≡ chunk_line chunk → OneMore a p b q line
  RunMore : (run : ℕ × ℕ) → b ≡ a → q ≡ p ++ run ∷ [] → line ≡ pool_line run → OneMore a p b q line

run_more : (p q : List (ℕ × ℕ)) (line : List ℕ) → AreAllSmall p → AreAllSmall q → map pool_line p ++ line ∷ [] ≡ map pool_line q → (run : ℕ × ℕ) × (q ≡ p ++ run ∷ []) × (line ≡ pool_line run)
run_more [] [] line sp sq e = absurd cc
run_more [] (y ∷ []) line sp sq e = (y, refl, cc)
run_more [] (y ∷ z ∷ q) line sp sq e = absurd cc
run_more (x ∷ p) [] line sp sq e = absurd cc
run_more (x ∷ p) (y ∷ q) line sp sq e =
    let rest = run_more p q line sp.1 sq.1 (cc) in
    let head : x ≡ y = one_run x y sp.0 sq.0 (cc) in
    (rest.0, ap₂ (λ (run : ℕ × ℕ) (runs : List (ℕ × ℕ)). run ∷ runs) (sym head) rest.1, rest.2)

one_more_line : (a p b q : List (ℕ × ℕ)) (line : List ℕ) → AreAllSmall a → AreAllSmall p → AreAllSmall b → AreAllSmall q → body a p ++ line ∷ [] ≡ body b q → OneMore a p b q line
one_more_line [] p [] q line sa sp sb sq e = let more = run_more p q line sp sq e in RunMore more.0 refl more.1 more.2
one_more_line [] [] (y ∷ []) [] line sa sp sb sq e = ChunkMore y refl refl refl (cc)
one_more_line [] [] (y ∷ []) (z ∷ q) line sa sp sb sq e = absurd cc
one_more_line [] [] (y ∷ z ∷ b) q line sa sp sb sq e = absurd cc
one_more_line [] (x ∷ p) (y ∷ b) q line sa sp sb sq e = absurd (chunk_or_run y x (sym (cc)))
one_more_line (x ∷ a) p [] [] line sa sp sb sq e = absurd cc
one_more_line (x ∷ a) p [] (y ∷ q) line sa sp sb sq e = absurd (chunk_or_run x y (cc))
one_more_line (x ∷ a) p (y ∷ b) q line sa sp sb sq e =
    let head : x ≡ y = one_chunk x y sa.0 sb.0 (cc) in
    elim (one_more_line a p b q line sa.1 sp sb.1 sq (cc)) [
      | ChunkMore chunk more none empty is ↦ ChunkMore chunk (ap₂ (λ (first : ℕ × ℕ) (chunks : List (ℕ × ℕ)). first ∷ chunks) (sym head) more) none empty is
      | RunMore run same more is ↦ RunMore run (ap₂ (λ (first : ℕ × ℕ) (chunks : List (ℕ × ℕ)). first ∷ chunks) (sym head) same) more is
    ]

last_small : (pairs : List (ℕ × ℕ)) (pair : ℕ × ℕ) → AreAllSmall (pairs ++ pair ∷ []) → AreSmall pair
last_small [] pair are = are.0
last_small (first ∷ pairs) pair are = last_small pairs pair are.1

said : (n : Said) (chunks runs : List (ℕ × ℕ)) → n.chunks ≡ chunks → n.runs ≡ runs → IsManifest n → IsManifest (record { chunks = chunks; runs = runs })
said n chunks runs e f is =
    subst (λ (c : List (ℕ × ℕ)). IsManifest (record { chunks = c; runs = runs })) e
    (subst (λ (r : List (ℕ × ℕ)). IsManifest (record { chunks = n.chunks; runs = r })) f is)

-- A line that is that of no chunk and of no run that may stand there makes the lines those of no manifest.
pub refused : (m : Said) (line : List ℕ) → IsManifest m
    → ((chunk : ℕ × ℕ) → AreSmall chunk → line ≡ chunk_line chunk → m.runs ≡ [] → ¬ IsManifest (with_chunk m chunk))
    → ((run : ℕ × ℕ) → AreSmall run → line ≡ pool_line run → ¬ IsManifest (with_run m run))
    → IsBadNext m line
refused m line is no_chunk no_run = record {
  front = is;
  none = λ n spells.
      let sb = small_chunks 0 n.chunks spells.0.chunks in
      let sq = small_runs 0 n.runs spells.0.runs in
      let rest : body m.chunks m.runs ++ line ∷ [] ≡ body n.chunks n.runs = cc in
      elim (one_more_line m.chunks m.runs n.chunks n.runs line (small_chunks 0 m.chunks is.chunks) (small_runs 0 m.runs is.runs) sb sq rest) [
        | ChunkMore chunk more none empty same ↦
            no_chunk chunk (last_small m.chunks chunk (subst AreAllSmall more sb)) same none
            (said n (m.chunks ++ chunk ∷ []) m.runs more (empty ∙ sym none) spells.0)
        | RunMore run others more same ↦
            no_run run (last_small m.runs run (subst AreAllSmall more sq)) same
            (said n m.chunks (m.runs ++ run ∷ []) others more spells.0)
      ];
}

-- the line of a chunk that may not stand there
pub chunk_refused : (m : Said) (chunk : ℕ × ℕ) (line : List ℕ) → line ≡ chunk_line chunk → IsBadChunk m chunk → IsBadNext m line
chunk_refused m chunk line is bad = refused m line bad.front
    (λ other also same none manifest. bad.none (subst (λ (c : ℕ × ℕ). IsManifest (with_chunk m c)) (one_chunk other chunk also bad.small (sym same ∙ is)) manifest))
    (λ run also same manifest. chunk_or_run chunk run (sym is ∙ same))

-- the line of a run that may not
pub run_refused : (m : Said) (run : ℕ × ℕ) (line : List ℕ) → line ≡ pool_line run → IsBadRun m run → IsBadNext m line
run_refused m run line is bad = refused m line bad.front
    (λ chunk also same none manifest. chunk_or_run chunk run (sym same ∙ is))
    (λ other also same manifest. bad.none (subst (λ (r : ℕ × ℕ). IsManifest (with_run m r)) (one_run other run also bad.small (sym same ∙ is)) manifest))

-- a line that is no run's, behind runs, and one that is no chunk's either
pub no_run_refused : (m : Said) (line : List ℕ) → IsManifest m → m.runs ≢ [] → ((run : ℕ × ℕ) → AreSmall run → line ≢ pool_line run) → IsBadNext m line
no_run_refused m line is some no_run = refused m line is (λ chunk small same none manifest. some none) (λ run small same manifest. no_run run small same)

pub no_line_refused : (m : Said) (line : List ℕ) → IsManifest m → ((chunk : ℕ × ℕ) → AreSmall chunk → line ≢ chunk_line chunk) → ((run : ℕ × ℕ) → AreSmall run → line ≢ pool_line run) → IsBadNext m line
no_line_refused m line is no_chunk no_run = refused m line is (λ chunk small same none manifest. no_chunk chunk small same) (λ run small same manifest. no_run run small same)

-- ---- the first bad line

-- the line behind those of a manifest that makes them none
pub first_bad : (text line : List ℕ) (m : Said) (behind : List (List ℕ)) (number : ℕ) → lines_in text ≡ manifest_lines m ++ line ∷ behind → number ≡ length (manifest_lines m) → IsBadNext m line → IsFirstBadLine text (number + 1)
first_bad text line m behind number is counted bad =
    let before : number + 1 - 1 ≡ number = omega arith in
    let longer : lines_in text ≡ manifest_lines m ++ line ∷ [] ++ behind = is ∙ sym (append_assoc (manifest_lines m) (line ∷ []) behind) in
    let front : take (number + 1 - 1) (lines_in text) ≡ manifest_lines m =
    ap₂ (λ (n : ℕ) (lines : List (List ℕ)). take n lines) before is ∙ take_at (manifest_lines m) (line ∷ behind) number (sym counted) in
    let whole : take (number + 1) (lines_in text) ≡ manifest_lines m ++ line ∷ [] =
    ap (take (number + 1)) longer ∙ take_at (manifest_lines m ++ line ∷ []) behind (number + 1) (omega (arith, length_push (manifest_lines m) line, counted)) in
    record {
      counted = omega arith;
      front = inr (m, (bad.front, front));
      none = λ n spells. bad.none n (spells.0, sym whole ∙ spells.1);
    }

first_of : (lines : List (List ℕ)) (m : Said) → ((rest : List (List ℕ)) → lines ≢ header_line ∷ rest) → take 1 lines ≢ manifest_lines m
first_of [] m none e = absurd cc
first_of (line ∷ lines) m none e = let same : line ≡ header_line = cc in none lines (ap (λ (l : List ℕ). l ∷ lines) same)

-- a first line that is not the header
pub bad_header : (text : List ℕ) → ((rest : List (List ℕ)) → lines_in text ≢ header_line ∷ rest) → IsFirstBadLine text 1
bad_header text none = record {
  counted = omega arith;
  front = inl refl;
  none = λ m spells. first_of (lines_in text) m none spells.1;
}
