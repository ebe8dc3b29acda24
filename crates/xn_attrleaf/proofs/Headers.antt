-- The header of a leaf that is written anew.
use Rattle.std.proofs.Common.{◌≡◌, ℕ, ◌+◌, ◌-◌, ◌*◌, ◌^◌, ◌<◌, ◌≤◌, List, length, refl, ◌∙◌, arith}
use Rattle.std.specs.Prelude.{replicate}
use Rattle.std.proofs.lemmas.List.{length-replicate}
use Rattle.byteorder.specs.Endian.{big_bytes}
use Rattle.xn_bytes.specs.Numbers.{number_at, overlaid}
use Rattle.xn_attrleaf.specs.Putting.{KeepsAround, PutsHeader, PutsCounts, PutsFreeMap, TellsFree}
use Rattle.xn_attrleaf.proofs.Frames.{around_both, around_number, around_overlaid, number_before, number_behind, number_put, piece_before, piece_behind}

-- two writes, one behind the other
joined : (from middle to : ℕ) (old one new : List ℕ) → length old ≡ 4096 → from ≤ middle → middle ≤ to → to ≤ 4096 → KeepsAround from middle old one → KeepsAround middle to one new → KeepsAround from to old new
joined from middle to old one new size low high within first second =
    around_both from to from middle middle to old one new size first second (omega arith) (omega arith) (omega arith) (omega arith) (omega arith) (omega arith) within

pub puts_counts : (count first : ℕ) (old b1 b2 b3 new : List ℕ) → length old ≡ 4096 → count < 2 ^ 16 → first ≤ 4096
    → b1 ≡ overlaid old 56 (big_bytes 2 count) → b2 ≡ overlaid b1 58 (big_bytes 2 (4096 - first)) → b3 ≡ overlaid b2 60 (big_bytes 2 first) → new ≡ overlaid b3 62 (big_bytes 2 0) → PutsCounts count first old new
puts_counts count first old b1 b2 b3 new size small within e1 e2 e3 e4 =
    let a1 = around_number 2 56 58 count old b1 size e1 refl (omega arith) in
    let w1 : length b1 ≡ 4096 = a1.whole ∙ size in
    let a2 = around_number 2 58 60 (4096 - first) b1 b2 w1 e2 refl (omega arith) in
    let w2 : length b2 ≡ 4096 = a2.whole ∙ w1 in
    let a3 = around_number 2 60 62 first b2 b3 w2 e3 refl (omega arith) in
    let w3 : length b3 ≡ 4096 = a3.whole ∙ w2 in
    let a4 = around_number 2 62 64 0 b3 new w3 e4 refl (omega arith) in
    record {
      entries = number_before 62 64 2 56 b3 new w3 a4 (omega arith) (omega arith)
          ∙ number_before 60 62 2 56 b2 b3 w2 a3 (omega arith) (omega arith)
          ∙ number_before 58 60 2 56 b1 b2 w1 a2 (omega arith) (omega arith)
          ∙ number_put 2 56 count old b1 size e1 (omega arith) (omega arith);
      used = number_before 62 64 2 58 b3 new w3 a4 (omega arith) (omega arith)
          ∙ number_before 60 62 2 58 b2 b3 w2 a3 (omega arith) (omega arith)
          ∙ number_put 2 58 (4096 - first) b1 b2 w1 e2 (omega arith) (omega arith);
      names = number_before 62 64 2 60 b3 new w3 a4 (omega arith) (omega arith) ∙ number_put 2 60 first b2 b3 w2 e3 (omega arith) (omega arith);
      no_holes = number_put 2 62 0 b3 new w3 e4 (omega arith) (omega arith);
      around = joined 56 60 64 old b2 new size (omega arith) (omega arith) (omega arith)
          (joined 56 58 60 old b1 b2 size (omega arith) (omega arith) (omega arith) a1 a2)
          (joined 60 62 64 b2 b3 new w2 (omega arith) (omega arith) (omega arith) a3 a4);
    }

pub puts_free_map : (base first : ℕ) (old b1 b2 new : List ℕ) → length old ≡ 4096 → base < 2 ^ 16 → first < 2 ^ 16
    → b1 ≡ overlaid old 64 (big_bytes 2 base) → b2 ≡ overlaid b1 66 (big_bytes 2 (first - base)) → new ≡ overlaid b2 68 (replicate (80 - 68) 0) → PutsFreeMap base first old new
puts_free_map base first old b1 b2 new size small small2 e1 e2 e3 =
    let a1 = around_number 2 64 66 base old b1 size e1 refl (omega arith) in
    let w1 : length b1 ≡ 4096 = a1.whole ∙ size in
    let a2 = around_number 2 66 68 (first - base) b1 b2 w1 e2 refl (omega arith) in
    let w2 : length b2 ≡ 4096 = a2.whole ∙ w1 in
    let a3 = around_overlaid 68 80 b2 new (replicate (80 - 68) 0) w2 e3 (omega (arith, length-replicate {A = ℕ} (80 - 68) 0)) (omega arith) in
    record {
      behind = number_before 68 80 2 64 b2 new w2 a3 (omega arith) (omega arith)
          ∙ number_before 66 68 2 64 b1 b2 w1 a2 (omega arith) (omega arith)
          ∙ number_put 2 64 base old b1 size e1 (omega arith) (omega arith);
      size = number_before 68 80 2 66 b2 new w2 a3 (omega arith) (omega arith) ∙ number_put 2 66 (first - base) b1 b2 w1 e2 (omega arith) (omega arith);
      around = joined 64 68 80 old b2 new size (omega arith) (omega arith) (omega arith) (joined 64 66 68 old b1 b2 size (omega arith) (omega arith) (omega arith) a1 a2) a3;
    }

pub puts_header : (count first : ℕ) (old b1 b2 b3 new : List ℕ) → length old ≡ 4096 → 80 + 8 * count ≤ first
    → b1 ≡ overlaid old 8 (big_bytes 2 0x3bee) → b2 ≡ overlaid b1 10 (big_bytes 2 0) → PutsCounts count first b2 b3 → PutsFreeMap (80 + 8 * count) first b3 new → PutsHeader count first old new
puts_header count first old b1 b2 b3 new size room e1 e2 counts free =
    let a1 = around_number 2 8 10 0x3bee old b1 size e1 refl (omega arith) in
    let w1 : length b1 ≡ 4096 = a1.whole ∙ size in
    let a2 = around_number 2 10 12 0 b1 b2 w1 e2 refl (omega arith) in
    let w2 : length b2 ≡ 4096 = a2.whole ∙ w1 in
    let w3 : length b3 ≡ 4096 = counts.around.whole ∙ w2 in
    let front : KeepsAround 8 12 old b2 = joined 8 10 12 old b1 b2 size (omega arith) (omega arith) (omega arith) a1 a2 in
    let back : KeepsAround 56 80 b2 new = joined 56 64 80 b2 b3 new w2 (omega arith) (omega arith) (omega arith) counts.around free.around in
    let entries : number_at 2 56 new ≡ count = number_before 64 80 2 56 b3 new w3 free.around (omega arith) (omega arith) ∙ counts.entries in
    let names : number_at 2 60 new ≡ first = number_before 64 80 2 60 b3 new w3 free.around (omega arith) (omega arith) ∙ counts.names in
    record {
      whole = back.whole ∙ front.whole;
      magic = number_before 56 80 2 8 b2 new w2 back (omega arith) (omega arith)
          ∙ number_before 10 12 2 8 b1 b2 w1 a2 (omega arith) (omega arith)
          ∙ number_put 2 8 0x3bee old b1 size e1 (omega arith) (omega arith);
      entries = entries;
      used = number_before 64 80 2 58 b3 new w3 free.around (omega arith) (omega arith) ∙ counts.used;
      names = names;
      free = record {
        no_holes = number_before 64 80 2 62 b3 new w3 free.around (omega arith) (omega arith) ∙ counts.no_holes;
        base = omega (arith, free.behind);
        size = omega (arith, free.behind, free.size);
      };
      siblings = piece_before 56 80 0 8 b2 new w2 back (omega arith) (omega arith) (omega arith) ∙ front.before;
      place = piece_before 56 80 16 56 b2 new w2 back (omega arith) (omega arith) (omega arith) ∙ piece_behind 8 12 16 56 old b2 size front (omega arith) (omega arith) (omega arith);
      body = back.behind ∙ piece_behind 8 12 80 4096 old b2 size front (omega arith) (omega arith) (omega arith);
    }

-- what the header tells of free bytes stays where others are put
pub tells_free_still : (from to : ℕ) (old new : List ℕ) → length old ≡ 4096 → KeepsAround from to old new → to ≤ 56 → TellsFree old → TellsFree new
tells_free_still from to old new size keeps low free =
    let number : (at : ℕ) → 56 ≤ at → at + 2 ≤ 4096 → number_at 2 at new ≡ number_at 2 at old = λ at far high. number_behind from to 2 at old new size keeps (omega arith) high in
    let count = number 56 (omega arith) (omega arith) in
    let first = number 60 (omega arith) (omega arith) in
    let base = number 64 (omega arith) (omega arith) in
    let many = number 66 (omega arith) (omega arith) in
    record { no_holes = number 62 (omega arith) (omega arith) ∙ free.no_holes; base = omega (arith, free.base); size = omega (arith, free.size) }
