-- A leaf is written a piece at a time.
use Rattle.std.proofs.Common.{◌≡◌, ℕ, ◌+◌, ◌-◌, ◌*◌, ◌^◌, ◌<◌, ◌≤◌, List, length, refl, ap, subst, ◌∙◌, arith}
use Rattle.std.specs.Prelude.{slice_range, replicate}
use Rattle.std.proofs.lemmas.List.{length-replicate}
use Rattle.byteorder.specs.Endian.{big_bytes}
use Rattle.xn_bytes.specs.Numbers.{overlaid}
use Rattle.xn_bytes.specs.AttributeLeaves.{AttrEntry, attr_entry_at, local_size, remote_size}
use Rattle.xn_attrleaf.specs.Putting.{KeepsAround, PutsEntry, PutsText, PutsLocal, PutsRemote}
use Rattle.xn_attrleaf.proofs.Frames.{around_both, around_number, around_overlaid, around_wider, number_before, number_put, piece_before, piece_put}

pub same_entry : (a b : AttrEntry) → a.hash ≡ b.hash → a.place ≡ b.place → a.flags ≡ b.flags → a ≡ b
same_entry a b hash place flags =
    ap (λ (h : ℕ). record a { hash = h }) hash
    ∙ ap (λ (p : ℕ). record { hash = b.hash; place = p; flags = a.flags }) place
    ∙ ap (λ (f : ℕ). record { hash = b.hash; place = b.place; flags = f }) flags

pub puts_entry : (index hash place flags : ℕ) (old b1 b2 b3 new : List ℕ) → length old ≡ 4096 → 80 + 8 * index + 8 ≤ 4096 → hash < 2 ^ 32 → place < 2 ^ 16 → flags < 2 ^ 8
    → b1 ≡ overlaid old (80 + 8 * index) (big_bytes 4 hash) → b2 ≡ overlaid b1 (80 + 8 * index + 4) (big_bytes 2 place) → b3 ≡ overlaid b2 (80 + 8 * index + 6) (big_bytes 1 flags) → new ≡ overlaid b3 (80 + 8 * index + 7) (big_bytes 1 0)
    → PutsEntry index old new (record { hash = hash; place = place; flags = flags })
puts_entry index hash place flags old b1 b2 b3 new size within small small2 small3 e1 e2 e3 e4 =
    let at : ℕ = 80 + 8 * index in
    let a1 = around_number 4 at (at + 4) hash old b1 size e1 refl (omega arith) in
    let w1 : length b1 ≡ 4096 = a1.whole ∙ size in
    let a2 = around_number 2 (at + 4) (at + 6) place b1 b2 w1 e2 (omega arith) (omega arith) in
    let w2 : length b2 ≡ 4096 = a2.whole ∙ w1 in
    let a3 = around_number 1 (at + 6) (at + 7) flags b2 b3 w2 e3 (omega arith) (omega arith) in
    let w3 : length b3 ≡ 4096 = a3.whole ∙ w2 in
    let a4 = around_number 1 (at + 7) (at + 8) 0 b3 new w3 e4 (omega arith) (omega arith) in
    let first = around_both at (at + 8) at (at + 4) (at + 4) (at + 6) old b1 b2 size a1 a2 (omega arith) (omega arith) (omega arith) (omega arith) (omega arith) (omega arith) (omega arith) in
    let second = around_both at (at + 8) (at + 6) (at + 7) (at + 7) (at + 8) b2 b3 new w2 a3 a4 (omega arith) (omega arith) (omega arith) (omega arith) (omega arith) (omega arith) (omega arith) in
    record {
      there = same_entry (attr_entry_at at new) (record { hash = hash; place = place; flags = flags })
          (number_before (at + 7) (at + 8) 4 at b3 new w3 a4 (omega arith) (omega arith)
          ∙ number_before (at + 6) (at + 7) 4 at b2 b3 w2 a3 (omega arith) (omega arith)
          ∙ number_before (at + 4) (at + 6) 4 at b1 b2 w1 a2 (omega arith) (omega arith)
          ∙ number_put 4 at hash old b1 size e1 (omega arith) small)
          (number_before (at + 7) (at + 8) 2 (at + 4) b3 new w3 a4 (omega arith) (omega arith)
          ∙ number_before (at + 6) (at + 7) 2 (at + 4) b2 b3 w2 a3 (omega arith) (omega arith)
          ∙ number_put 2 (at + 4) place b1 b2 w1 e2 (omega arith) small2)
          (number_before (at + 7) (at + 8) 1 (at + 6) b3 new w3 a4 (omega arith) (omega arith)
          ∙ number_put 1 (at + 6) flags b2 b3 w2 e3 (omega arith) small3);
      around = around_both at (at + 8) at (at + 8) at (at + 8) old b2 new size first second (omega arith) (omega arith) (omega arith) (omega arith) (omega arith) (omega arith) (omega arith);
    }

pub puts_text : (at : ℕ) (old one new name : List ℕ) → length old ≡ 4096 → length name ≤ 255 → at + 1 + length name ≤ 4096 → one ≡ overlaid old at (big_bytes 1 (length name)) → new ≡ overlaid one (at + 1) name → PutsText at old new name
puts_text at old one new name size few within e1 e2 =
    let end : ℕ = at + 1 + length name in
    let a1 = around_number 1 at (at + 1) (length name) old one size e1 refl (omega arith) in
    let w1 : length one ≡ 4096 = a1.whole ∙ size in
    let a2 = around_overlaid (at + 1) end one new name w1 e2 refl within in
    record {
      size = number_before (at + 1) end 1 at one new w1 a2 (omega arith) (omega arith) ∙ number_put 1 at (length name) old one size e1 (omega arith) (omega arith);
      text = piece_put (at + 1) end one new name w1 e2 refl within;
      around = around_both at end at (at + 1) (at + 1) end old one new size a1 a2 (omega arith) (omega arith) (omega arith) (omega arith) (omega arith) (omega arith) (omega arith);
    }

pub puts_local : (place end : ℕ) (old b1 b2 b3 new name value : List ℕ) → length old ≡ 4096 → length value ≤ 65535 → place + local_size (length name) (length value) ≡ end → end ≤ 4096
    → b1 ≡ overlaid old place (big_bytes 2 (length value)) → PutsText (place + 2) b1 b2 name → b3 ≡ overlaid b2 (place + 3 + length name) value
    → new ≡ overlaid b3 (place + 3 + length name + length value) (replicate (end - (place + 3 + length name + length value)) 0) → PutsLocal place end old new name value
puts_local place end old b1 b2 b3 new name value size few ends within e1 put2 e3 e4 =
    let n : ℕ = length name in
    let s : ℕ = place + 3 + length name in
    let t : ℕ = place + 3 + length name + length value in
    let fits : t ≤ end = omega arith in
    let a1 = around_number 2 place (place + 2) (length value) old b1 size e1 refl (omega arith) in
    let w1 : length b1 ≡ 4096 = a1.whole ∙ size in
    let a2 : KeepsAround (place + 2) s b1 b2 = around_wider (place + 2) s (place + 2) (place + 2 + 1 + length name) b1 b2 w1 put2.around (omega arith) (omega arith) (omega arith) (omega arith) in
    let w2 : length b2 ≡ 4096 = a2.whole ∙ w1 in
    let a3 = around_overlaid s t b2 b3 value w2 e3 refl (omega arith) in
    let w3 : length b3 ≡ 4096 = a3.whole ∙ w2 in
    let a4 = around_overlaid t end b3 new (replicate (end - t) 0) w3 e4 (omega (arith, length-replicate {A = ℕ} (end - t) 0)) within in
    let here : place + 2 + 1 ≡ place + 3 = omega arith in
    let text : slice_range b2 (place + 3) s ≡ name = subst (λ (k : ℕ). slice_range b2 k (k + length name) ≡ name) here put2.text in
    let first = around_both place end place (place + 2) (place + 2) s old b1 b2 size a1 a2 (omega arith) (omega arith) (omega arith) (omega arith) (omega arith) (omega arith) (omega arith) in
    let second = around_both place end s t t end b2 b3 new w2 a3 a4 (omega arith) (omega arith) (omega arith) (omega arith) (omega arith) (omega arith) (omega arith) in
    record {
      value_size = number_before t end 2 place b3 new w3 a4 (omega arith) (omega arith)
          ∙ number_before s t 2 place b2 b3 w2 a3 (omega arith) (omega arith)
          ∙ number_before (place + 2) s 2 place b1 b2 w1 a2 (omega arith) (omega arith)
          ∙ number_put 2 place (length value) old b1 size e1 (omega arith) (omega arith);
      name_size = number_before t end 1 (place + 2) b3 new w3 a4 (omega arith) (omega arith)
          ∙ number_before s t 1 (place + 2) b2 b3 w2 a3 (omega arith) (omega arith)
          ∙ put2.size;
      text = piece_before t end (place + 3) s b3 new w3 a4 (omega arith) (omega arith) (omega arith)
          ∙ piece_before s t (place + 3) s b2 b3 w2 a3 (omega arith) (omega arith) (omega arith)
          ∙ text;
      bytes = piece_before t end s t b3 new w3 a4 (omega arith) (omega arith) (omega arith) ∙ piece_put s t b2 b3 value w2 e3 refl (omega arith);
      around = around_both place end place end place end old b2 new size first second (omega arith) (omega arith) (omega arith) (omega arith) (omega arith) (omega arith) (omega arith);
    }

pub puts_remote : (place end first count : ℕ) (old b1 b2 b3 new name : List ℕ) → length old ≡ 4096 → first < 2 ^ 32 → count < 2 ^ 32 → place + remote_size (length name) ≡ end → end ≤ 4096
    → b1 ≡ overlaid old place (big_bytes 4 first) → b2 ≡ overlaid b1 (place + 4) (big_bytes 4 count) → PutsText (place + 8) b2 b3 name
    → new ≡ overlaid b3 (place + 9 + length name) (replicate (end - (place + 9 + length name)) 0) → PutsRemote place end first count old new name
puts_remote place end first count old b1 b2 b3 new name size small small2 ends within e1 e2 put3 e4 =
    let t : ℕ = place + 9 + length name in
    let fits : t ≤ end = omega arith in
    let a1 = around_number 4 place (place + 4) first old b1 size e1 refl (omega arith) in
    let w1 : length b1 ≡ 4096 = a1.whole ∙ size in
    let a2 = around_number 4 (place + 4) (place + 8) count b1 b2 w1 e2 (omega arith) (omega arith) in
    let w2 : length b2 ≡ 4096 = a2.whole ∙ w1 in
    let a3 : KeepsAround (place + 8) t b2 b3 = around_wider (place + 8) t (place + 8) (place + 8 + 1 + length name) b2 b3 w2 put3.around (omega arith) (omega arith) (omega arith) (omega arith) in
    let w3 : length b3 ≡ 4096 = a3.whole ∙ w2 in
    let a4 = around_overlaid t end b3 new (replicate (end - t) 0) w3 e4 (omega (arith, length-replicate {A = ℕ} (end - t) 0)) within in
    let here : place + 8 + 1 ≡ place + 9 = omega arith in
    let text : slice_range b3 (place + 9) t ≡ name = subst (λ (k : ℕ). slice_range b3 k (k + length name) ≡ name) here put3.text in
    let begin = around_both place end place (place + 4) (place + 4) (place + 8) old b1 b2 size a1 a2 (omega arith) (omega arith) (omega arith) (omega arith) (omega arith) (omega arith) (omega arith) in
    let rest = around_both place end (place + 8) t t end b2 b3 new w2 a3 a4 (omega arith) (omega arith) (omega arith) (omega arith) (omega arith) (omega arith) (omega arith) in
    record {
      value_block = number_before t end 4 place b3 new w3 a4 (omega arith) (omega arith)
          ∙ number_before (place + 8) t 4 place b2 b3 w2 a3 (omega arith) (omega arith)
          ∙ number_before (place + 4) (place + 8) 4 place b1 b2 w1 a2 (omega arith) (omega arith)
          ∙ number_put 4 place first old b1 size e1 (omega arith) small;
      value_size = number_before t end 4 (place + 4) b3 new w3 a4 (omega arith) (omega arith)
          ∙ number_before (place + 8) t 4 (place + 4) b2 b3 w2 a3 (omega arith) (omega arith)
          ∙ number_put 4 (place + 4) count b1 b2 w1 e2 (omega arith) small2;
      name_size = number_before t end 1 (place + 8) b3 new w3 a4 (omega arith) (omega arith) ∙ put3.size;
      text = piece_before t end (place + 9) t b3 new w3 a4 (omega arith) (omega arith) (omega arith) ∙ text;
      around = around_both place end place end place end old b2 new size begin rest (omega arith) (omega arith) (omega arith) (omega arith) (omega arith) (omega arith) (omega arith);
    }
