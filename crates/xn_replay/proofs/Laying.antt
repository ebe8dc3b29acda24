-- What is shown after sectors are kept.
use Rattle.std.proofs.Common.{◌≡◌, ℕ, ◌+◌, ◌*◌, ◌<◌, ◌≤◌, cond, List, [], ◌++◌, length, take, Some, inl, inr, sym, ap, subst, ◌∙◌, arith, ◌-◌, length-append, length-take}
use Rattle.std.specs.Prelude.{unwrap_or, slice_range}
use Rattle.std.proofs.Math.Seq.{take-add}
use Rattle.std.specs.Ordering.{nat_cmp}
use Rattle.std.specs.BTreeMap.{is_at, insert_entry}
use Rattle.std.proofs.lemmas.Map.Views.{All-keys-insert_entry, All-values-insert_entry}
use Rattle.xn_bytes.specs.Numbers.{overlaid, sector_of}
use Rattle.xn_bytes.proofs.Overlays.{length-overlaid, overlaid-append, overlaid-nothing, same_by_pieces, sector_of-overlaid-there, sector_of-overlaid-apart}
use Rattle.xn_replay.specs.Overlay.{shown, kept_at, AreKept, LaysOver}
use Rattle.xn_replay.proofs.Kept.{tied, length-shown, sector_of-shown}

inserted_kept : (old : List (ℕ × List ℕ)) (k : ℕ) (bytes : List ℕ) → length bytes ≡ 512 → (sectors : ℕ) → k < sectors → AreKept sectors old → AreKept sectors (insert_entry nat_cmp old k bytes)
inserted_kept old k bytes whole sectors within all = record {
  within = All-keys-insert_entry nat_cmp k bytes (λ sector. sector < sectors) old all.within within;
  whole = All-values-insert_entry nat_cmp k bytes (λ ys. length ys ≡ 512) old all.whole whole;
}

inserted_shown : (old new : List (ℕ × List ℕ)) (k : ℕ) (bytes : List ℕ) → length bytes ≡ 512 → ((q : ℕ) → kept_at new q ≡ cond (is_at (nat_cmp k) q) (Some bytes) (kept_at old q))
    → (sectors : ℕ) (image : List ℕ) → length image ≡ 512 * sectors → k < sectors → AreKept sectors old → AreKept sectors new → shown image new ≡ overlaid (shown image old) (512 * k) bytes
inserted_shown old new k bytes whole found sectors image long within was is =
    let len : length (shown image old) ≡ 512 * sectors = length-shown sectors image old long was in
    same_by_pieces 512 sectors _ _
    (length-shown sectors image new long is)
    (length-overlaid (shown image old) (512 * k) bytes (omega arith) ∙ len)
    (λ q low.
    let now : sector_of (shown image new) q ≡ unwrap_or (kept_at new q) (sector_of image q) = sector_of-shown sectors image new long is q low in
    let before : sector_of (shown image old) q ≡ unwrap_or (kept_at old q) (sector_of image q) = sector_of-shown sectors image old long was q low in
    let found_here : unwrap_or (kept_at new q) (sector_of image q) ≡ unwrap_or (cond (is_at (nat_cmp k) q) (Some bytes) (kept_at old q)) (sector_of image q) =
    ap (λ r. unwrap_or r (sector_of image q)) (found q) in
    now
    ∙ found_here
    ∙ elim (tied k q) [
      | inl here ↦
          ap (λ b. unwrap_or (cond b (Some bytes) (kept_at old q)) (sector_of image q)) here.1
          ∙ subst (λ n. bytes ≡ sector_of (overlaid (shown image old) (512 * k) bytes) n) here.0 (sym (sector_of-overlaid-there (shown image old) k bytes whole (omega arith)))
      | inr apart ↦
          ap (λ b. unwrap_or (cond b (Some bytes) (kept_at old q)) (sector_of image q)) apart.1
          ∙ sym before
          ∙ sym (sector_of-overlaid-apart (shown image old) k bytes q whole (omega arith) (λ same. apart.0 (sym same)) (omega arith))
    ])

-- a sector that is inserted
pub lays_one : (old new : List (ℕ × List ℕ)) (k : ℕ) (bytes : List ℕ) → length bytes ≡ 512 → new ≡ insert_entry nat_cmp old k bytes → ((q : ℕ) → kept_at new q ≡ cond (is_at (nat_cmp k) q) (Some bytes) (kept_at old q)) → LaysOver old new k bytes
lays_one old new k bytes whole e found =
    let all : (sectors : ℕ) → 512 * k + length bytes ≤ 512 * sectors → AreKept sectors old → AreKept sectors new =
    λ sectors room was. rw e (inserted_kept old k bytes whole sectors (omega arith) was) in
    record {
      kept = all;
      image = λ sectors image long room was. inserted_shown old new k bytes whole found sectors image long (omega arith) was (all sectors room was);
    }

-- no sector
pub lays_none : (old : List (ℕ × List ℕ)) (first : ℕ) → LaysOver old old first []
lays_none old first = record {
  kept = λ sectors room was. was;
  image = λ sectors image long room was. sym (overlaid-nothing (shown image old) (512 * first));
}

-- sectors, and then those behind them
pub lays_on : (a b c : List (ℕ × List ℕ)) (first next : ℕ) (xs ys : List ℕ) → 512 * next ≡ 512 * first + length xs → LaysOver a b first xs → LaysOver b c next ys → LaysOver a c first (xs ++ ys)
lays_on a b c first next xs ys e one two =
    let both : length (xs ++ ys) ≡ length xs + length ys = length-append xs ys in
    record {
      kept = λ sectors room was. two.kept sectors (omega arith) (one.kept sectors (omega arith) was);
      image = λ sectors image long room was.
          let len : length (shown image a) ≡ 512 * sectors = length-shown sectors image a long was in
          two.image sectors image long (omega arith) (one.kept sectors (omega arith) was)
          ∙ ap (λ y. overlaid y (512 * next) ys) (one.image sectors image long (omega arith) was)
          ∙ overlaid-append (shown image a) (512 * first) xs ys (512 * next) e (omega arith);
    }

-- one more sector of the bytes
pub lays_more : (a b c : List (ℕ × List ℕ)) (first k : ℕ) (bytes : List ℕ) → 512 * (k + 1) ≤ length bytes → LaysOver a b first (take (512 * k) bytes) → LaysOver b c (first + k) (slice_range bytes (512 * k) (512 * (k + 1))) → LaysOver a c first (take (512 * (k + 1)) bytes)
lays_more a b c first k bytes room one two =
    let front : length (take (512 * k) bytes) ≡ 512 * k = omega (arith, length-take (512 * k) bytes) in
    let width : 512 * k + (512 * (k + 1) - 512 * k) ≡ 512 * (k + 1) = omega arith in
    let both : take (512 * k) bytes ++ slice_range bytes (512 * k) (512 * (k + 1)) ≡ take (512 * (k + 1)) bytes =
    sym (take-add (512 * k) (512 * (k + 1) - 512 * k) bytes) ∙ ap (λ n. take n bytes) width in
    subst (LaysOver a c first) both (lays_on a b c first (first + k) _ _ (omega arith) one two)
