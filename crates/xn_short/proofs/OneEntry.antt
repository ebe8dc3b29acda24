-- One entry: its spelling is read as the entry, and what is read is spelled so.
use Rattle.std.proofs.Common.{◌≡◌, ℕ, zero, suc, ◌+◌, ◌-◌, ◌%◌, ◌^◌, ◌<◌, ◌≤◌, Bool, true, false, cond, ltb, eqb, List, ◌∷◌, ◌++◌, length, slice_index, take, drop, Option, Some, None, refl, sym, ap, subst, ◌∙◌, append_assoc, arith}
use Rattle.std.specs.Prelude.{IsSome, is_none, unwrap_or, slice_range}
use Rattle.std.proofs.lemmas.Bool.{ltb-false, le-ltb, leb-true, le-leb, eqb-true, eq-eqb, ne_eqb, true≢false, and_parts, not-false}
use Rattle.std.proofs.lemmas.List.{take_at, drop_at, drop-drop, drop_more, take-append-drop, length-append, length-take-le, length-drop, get_or-drop}
use Rattle.byteorder.specs.Endian.{big_number, big_bytes}
use Rattle.byteorder.specs.Numbers.{big_number-reads_back, length-bytes_high_first}
use Rattle.xn_bytes.specs.declared.kind.Kind.{Kind}
use Rattle.xn_bytes.specs.declared.kind.Kind.TheVariants.{Reg, Dir, Chr, Blk, Fifo, Sock, Lnk}
use Rattle.xn_bytes.specs.Kinds.{kind_number, kind_of_number}
use Rattle.xn_bytes.specs.Numbers.{number_at}
use Rattle.xn_bytes.specs.Entries.{Entry, data_entry_length}
use Rattle.xn_bytes.specs.ShortDirectory.{entry_spelling, entry_in, entry_size, entry_fault, fits_position}
use Rattle.xn_short.specs.Whole.{IsWhole}
use Rattle.xn_short.proofs.Numbers.{IsBytes, IsBytes-drop, IsWidth, two_bytes}

-- ---- kinds

kind_again : (kind : Kind) → kind_of_number (kind_number kind) ≡ Some kind
kind_again Reg = refl
kind_again Dir = refl
kind_again Chr = refl
kind_again Blk = refl
kind_again Fifo = refl
kind_again Sock = refl
kind_again Lnk = refl

other_byte : (byte k : ℕ) → 7 < byte → k ≤ 7 → eqb byte k ≡ false
other_byte byte k high low = ne_eqb byte k (λ e. omega arith)

kind_none : (byte : ℕ) → 7 < byte → kind_of_number byte ≡ None
kind_none byte high = rw (other_byte byte 1 high (omega arith), other_byte byte 2 high (omega arith), other_byte byte 3 high (omega arith), other_byte byte 4 high (omega arith), other_byte byte 5 high (omega arith), other_byte byte 6 high (omega arith), other_byte byte 7 high (omega arith)) refl

not_some : {kind : Option Kind} → kind ≡ None → IsSome kind → ⊥
not_some {kind} e h = let f : IsSome {T = Kind} None = subst (λ (o : Option Kind). IsSome o) e h in absurd (true≢false (sym f))

kind_back : (byte : ℕ) → IsSome (kind_of_number byte) → kind_number (unwrap_or (kind_of_number byte) Reg) ≡ byte
kind_back zero h = absurd cc
kind_back (suc zero) h = refl
kind_back (suc (suc zero)) h = refl
kind_back (suc (suc (suc zero))) h = refl
kind_back (suc (suc (suc (suc zero)))) h = refl
kind_back (suc (suc (suc (suc (suc zero))))) h = refl
kind_back (suc (suc (suc (suc (suc (suc zero)))))) h = refl
kind_back (suc (suc (suc (suc (suc (suc (suc zero))))))) h = refl
kind_back (suc (suc (suc (suc (suc (suc (suc (suc byte)))))))) h =
    let here : ℕ = suc (suc (suc (suc (suc (suc (suc (suc byte))))))) in
    absurd (not_some (kind_none here (omega arith)) h)

-- ---- what is read is spelled so

assembled : (n k : ℕ) (position name ino rest r0 r1 r3 rn r4 : List ℕ) → r0 ≡ n ∷ r1 → r1 ≡ position ++ r3 → r3 ≡ name ++ rn → rn ≡ k ∷ r4 → r4 ≡ ino ++ rest → r0 ≡ (n ∷ (position ++ name ++ k ∷ ino)) ++ rest
assembled n k position name ino rest r0 r1 r3 rn r4 e0 e1 e2 e3 e4 = rw (e0, e1, e2, e3, e4) (simp append_assoc)

spelled_as : (width n k : ℕ) (position name ino : List ℕ) (entry : Entry) (rest whole : List ℕ) → length entry.name ≡ n → big_bytes 2 entry.position ≡ position → entry.name ≡ name → kind_number entry.kind ≡ k → big_bytes width entry.ino ≡ ino
    → whole ≡ (n ∷ (position ++ name ++ k ∷ ino)) ++ rest → whole ≡ entry_spelling width entry ++ rest
spelled_as width n k position name ino entry rest whole e0 e1 e2 e3 e4 w =
    w
    ∙ ap (λ (t : List ℕ). t ++ rest) (
    ap (λ (x : ℕ). x ∷ (position ++ name ++ k ∷ ino)) (sym e0)
    ∙ ap (λ (x : List ℕ). length entry.name ∷ (x ++ name ++ k ∷ ino)) (sym e1)
    ∙ ap (λ (x : List ℕ). length entry.name ∷ (big_bytes 2 entry.position ++ x ++ k ∷ ino)) (sym e2)
    ∙ ap (λ (x : ℕ). length entry.name ∷ (big_bytes 2 entry.position ++ entry.name ++ x ∷ ino)) (sym e3)
    ∙ ap (λ (x : List ℕ). length entry.name ∷ (big_bytes 2 entry.position ++ entry.name ++ kind_number entry.kind ∷ x)) (sym e4)
    )

pub entry_spelled : (width : ℕ) (rest : List ℕ) → IsWidth width → IsBytes rest → IsWhole width rest → rest ≡ entry_spelling width (entry_in width rest) ++ drop (entry_size width rest) rest
unfolding number_at
entry_spelled width rest wide fits whole =
    let n : ℕ = slice_index rest 0 in
    let name : List ℕ = slice_range rest 3 (3 + n) in
    let long : 4 + n + width ≤ length rest = whole.within in
    let e0 : rest ≡ n ∷ drop 1 rest = drop_more rest 0 0 (omega arith) in
    let e1 : drop 1 rest ≡ take 2 (drop 1 rest) ++ drop 3 rest = rw (← drop-drop 2 1 rest) (sym (take-append-drop 2 (drop 1 rest))) in
    let cut : 3 + n - 3 ≡ n = omega arith in
    let e2 : drop 3 rest ≡ name ++ drop (3 + n) rest = rw (cut, ← drop-drop n 3 rest) (sym (take-append-drop n (drop 3 rest))) in
    let next : 3 + n + 1 ≡ 4 + n = omega arith in
    let e3 : drop (3 + n) rest ≡ slice_index rest (3 + n) ∷ drop (4 + n) rest = rw (← next) (drop_more rest (3 + n) 0 (omega arith)) in
    let e4 : drop (4 + n) rest ≡ take width (drop (4 + n) rest) ++ drop (4 + n + width) rest = rw (← drop-drop width (4 + n) rest) (sym (take-append-drop width (drop (4 + n) rest))) in
    let whole_is = assembled n (slice_index rest (3 + n)) (take 2 (drop 1 rest)) name (take width (drop (4 + n) rest)) (drop (4 + n + width) rest) rest (drop 1 rest) (drop 3 rest) (drop (3 + n) rest) (drop (4 + n) rest) e0 e1 e2 e3 e4 in
    let name_length : length name ≡ n = rw cut (length-take-le n (drop 3 rest) (omega (arith, length-drop 3 rest))) in
    let position : big_bytes 2 (number_at 2 1 rest) ≡ take 2 (drop 1 rest) = two_bytes.back (drop 1 rest) (IsBytes-drop 1 rest fits) (omega (arith, length-drop 1 rest)) in
    let ino : big_bytes width (number_at width (4 + n) rest) ≡ take width (drop (4 + n) rest) = wide.back (drop (4 + n) rest) (IsBytes-drop (4 + n) rest fits) (omega (arith, length-drop (4 + n) rest)) in
    let kind = kind_back (slice_index rest (3 + n)) whole.kind in
    spelled_as width n (slice_index rest (3 + n)) (take 2 (drop 1 rest)) name (take width (drop (4 + n) rest)) (entry_in width rest) (drop (4 + n + width) rest) rest name_length position refl kind ino whole_is

-- ---- what is spelled so is read

pub record StandsIn (width : ℕ) (entry : Entry) (rest text : List ℕ) : Type 0 where
  pub first : slice_index text 0 ≡ length entry.name
  pub position : number_at 2 1 text ≡ entry.position
  pub kind : kind_of_number (slice_index text (3 + slice_index text 0)) ≡ Some entry.kind
  pub read : entry_in width text ≡ entry
  pub long : length text ≡ entry_size width text + length rest
  pub behind : drop (entry_size width text) text ≡ rest

pub entry_stands : (width : ℕ) (entry : Entry) (rest : List ℕ) → entry.position < 256 ^ 2 → entry.ino < 256 ^ width → StandsIn width entry rest (entry_spelling width entry ++ rest)
unfolding number_at
entry_stands width entry rest low_position low_ino =
    let n : ℕ = length entry.name in
    let k : ℕ = kind_number entry.kind in
    let ino : List ℕ = big_bytes width entry.ino in
    let text : List ℕ = entry_spelling width entry ++ rest in
    let t1 : drop 1 text ≡ big_bytes 2 entry.position ++ (entry.name ++ (k ∷ (ino ++ rest))) = simp append_assoc in
    let t3 : drop 3 text ≡ entry.name ++ (k ∷ (ino ++ rest)) = sym (drop-drop 2 1 text) ∙ ap (drop 2) t1 in
    let tn : drop (3 + n) text ≡ k ∷ (ino ++ rest) = sym (drop-drop n 3 text) ∙ ap (drop n) t3 ∙ drop_at entry.name (k ∷ (ino ++ rest)) n refl in
    let next : 3 + n + 1 ≡ 4 + n = omega arith in
    let t4 : drop (4 + n) text ≡ ino ++ rest = rw (← next) (sym (drop-drop 1 (3 + n) text) ∙ ap (drop 1) tn) in
    let end : drop (4 + n + width) text ≡ rest = sym (drop-drop width (4 + n) text) ∙ ap (drop width) t4 ∙ drop_at ino rest width (length-bytes_high_first width entry.ino) in
    let position : number_at 2 1 text ≡ entry.position = ap (big_number 2) t1 ∙ big_number-reads_back 2 entry.position (entry.name ++ (k ∷ (ino ++ rest))) low_position in
    let zero_in : 3 + n + 0 ≡ 3 + n = omega arith in
    let kind_byte : slice_index text (3 + n) ≡ k = ap (slice_index text) (sym zero_in) ∙ sym (get_or-drop (3 + n) text 0 0) ∙ ap (λ (t : List ℕ). slice_index t 0) tn in
    let number : number_at width (4 + n) text ≡ entry.ino = ap (big_number width) t4 ∙ big_number-reads_back width entry.ino rest low_ino in
    let cut : 3 + n - 3 ≡ n = omega arith in
    let name : slice_range text 3 (3 + n) ≡ entry.name = rw (cut, t3) (take_at entry.name (k ∷ (ino ++ rest)) n refl) in
    record {
      first = refl;
      position = position;
      kind = ap kind_of_number kind_byte ∙ kind_again entry.kind;
      read = rw (name, number, position, kind_byte, kind_again entry.kind) refl;
      long = omega (arith, length-append (entry_spelling width entry) rest, length-append (big_bytes 2 entry.position ++ entry.name) (k ∷ ino), length-append (big_bytes 2 entry.position) entry.name, length-bytes_high_first width entry.ino);
      behind = end;
    }

-- ---- the fault of an entry

pub record FitsHere (width least limit : ℕ) (rest : List ℕ) : Type 0 where
  pub low : least ≤ number_at 2 1 rest
  pub step : number_at 2 1 rest % 8 ≡ 0
  pub high : number_at 2 1 rest + data_entry_length (slice_index rest 0) ≤ limit
  pub whole : IsWhole width rest

guard_none : (b : Bool) (x : ℕ) (next : Option ℕ) → cond b (Some x) next ≡ None → (b ≡ false) × (next ≡ None)
guard_none true x next e = absurd cc
guard_none false x next e = (refl, e)

some_from : (kind : Option Kind) → is_none kind ≡ false → IsSome kind
some_from (Some kind) e = refl
some_from None e = absurd cc

none_from : (kind : Option Kind) → IsSome kind → is_none kind ≡ false
none_from (Some kind) e = refl
none_from None e = absurd cc

pub entry_passed : (width least limit at : ℕ) (rest : List ℕ) → entry_fault width least limit at rest ≡ None → FitsHere width least limit rest
unfolding entry_fault
entry_passed width least limit at rest e =
    let g0 = guard_none _ _ _ e in
    let g1 = guard_none _ _ _ g0.1 in
    let g2 = guard_none _ _ _ g1.1 in
    let g3 = guard_none _ _ _ g2.1 in
    let g4 = guard_none _ _ _ g3.1 in
    let fits = not-false _ g1.0 in
    let p = and_parts _ _ fits in
    let q = and_parts _ _ p.0 in
    record {
      low = leb-true _ _ q.0;
      step = eqb-true _ _ q.1;
      high = leb-true _ _ p.1;
      whole = record { within = ltb-false _ _ g4.0; kind = some_from _ g3.0 };
    }

pub entry_passes : (width least limit at : ℕ) (rest : List ℕ) → FitsHere width least limit rest → entry_fault width least limit at rest ≡ None
unfolding entry_fault
entry_passes width least limit at rest h =
    let long : 4 + slice_index rest 0 + width ≤ length rest = h.whole.within in
    let a : ltb (length rest) 3 ≡ false = le-ltb _ _ (omega arith) in
    let b : fits_position least limit (slice_index rest 0) (number_at 2 1 rest) ≡ true = rw (le-leb _ _ h.low, eq-eqb _ _ h.step, le-leb _ _ h.high) refl in
    let c : ltb (length rest) (4 + slice_index rest 0) ≡ false = le-ltb _ _ (omega arith) in
    let d = none_from (kind_of_number (slice_index rest (3 + slice_index rest 0))) h.whole.kind in
    let e : ltb (length rest) (entry_size width rest) ≡ false = le-ltb _ _ (omega arith) in
    rw (a, b, c, d, e) refl
