-- One more sector of a ring is looked at.
use Rattle.std.proofs.Common.{◌≡◌, ◌∙◌, ℕ, ◌+◌, ◌-◌, ◌*◌, ◌<◌, ◌≤◌, List, [], ◌∷◌, ◌++◌, length, take, drop, get_or, Option, Some, None, Result, Ok, Err, Contains, inl, inr, refl, sym, ap, subst, arith, length-drop}
use Rattle.std.specs.Prelude.{slice_index}
use Rattle.std.proofs.lemmas.Bool.{cases_eq, cases_lt}
use Rattle.std.proofs.lemmas.List.{get_or_append_left, get_or_push, drop-append-le, drop-drop, length_push, take-append-le, take-take}
use Rattle.std.proofs.Math.Seq.{take-append-add}
use Rattle.std.proofs.lemmas.List.Elements.{Contains-append_left, Contains-get_or, Contains-push, Contains-push_cases}
use Rattle.xn_log.specs.Records.{IsIntact, greatest_cycle, magic_in, outline_in, record_magic, record_sectors}
use Rattle.xn_log.specs.RecordFaults.{record_fault}
use Rattle.xn_log.specs.Ring.{IsIntactAt, IsMarked, ring_sectors_of, turned}
use Rattle.xn_log.specs.declared.outline.Outline.{Outline}
use Rattle.xn_record.specs.Answers.{IsRead}
use Rattle.xn_record.specs.declared.fault.RecFault.{RecFault}
use Rattle.xn_record.specs.declared.fault.RecFault.TheVariants.{Bad, Memory}
use Rattle.xn_record.proofs.Faultless.{complete, sound}
use Rattle.xn_record.proofs.Fronts.{drop-of_take, number_at-take, number_same}
use Rattle.xn_record.proofs.SameFronts.{intact_same, outline_same}
use Rattle.xn_ring.specs.Scans.{AreMarks, AreOutlines, HavePlaces, IsOutlineOf, IsPiece, IsPlaced, IsWindow, outline_at}

-- ---- a window shows the ring

magic_shown : (ring : List ℕ) (sector : ℕ) (bytes : List ℕ) → IsWindow ring sector bytes → magic_in bytes ≡ magic_in (drop (512 * sector) ring)
magic_shown ring sector bytes window =
    let rest : List ℕ = drop (512 * sector) ring in
    let front : List ℕ = take (512 * sector) ring in
    let long : 4 ≤ length rest = omega (arith, length-drop (512 * sector) ring, window.within) in
    let low : 0 + 4 ≤ length bytes = omega (arith, window.room) in
    ap magic_in window.shown ∙ number_at-take 4 0 (length bytes) (turned ring sector) low ∙ number_same 4 0 4 (rest ++ front) rest (omega arith) (take-append-le 4 rest front long)

-- the front of the bytes is that of the ring from the sector on
front_shown : (ring : List ℕ) (sector : ℕ) (bytes : List ℕ) (n : ℕ) → IsWindow ring sector bytes → n ≤ length bytes → take n bytes ≡ take n (turned ring sector)
front_shown ring sector bytes n window low = ap (take n) window.shown ∙ take-take n (length bytes) (turned ring sector) low

intact_shown : (uuid ring : List ℕ) (sector : ℕ) (bytes : List ℕ) → IsWindow ring sector bytes → IsIntact (ring_sectors_of ring) sector uuid bytes
    → IsIntactAt uuid ring sector × (outline_in sector bytes ≡ outline_at ring sector)
intact_shown uuid ring sector bytes window intact =
    let low : 512 * record_sectors bytes ≤ length bytes = omega (arith, intact.length_most, window.room) in
    let same = front_shown ring sector bytes (512 * record_sectors bytes) window low in (
      record { within = window.within; intact = intact_same (ring_sectors_of ring) sector uuid bytes (turned ring sector) same intact },
      outline_same (ring_sectors_of ring) sector uuid bytes (turned ring sector) same intact,
    )

shown_intact : (uuid ring : List ℕ) (sector : ℕ) (bytes : List ℕ) → IsWindow ring sector bytes → IsIntactAt uuid ring sector → IsIntact (ring_sectors_of ring) sector uuid bytes
shown_intact uuid ring sector bytes window at =
    let whole : List ℕ = turned ring sector in
    let low : 512 * record_sectors whole ≤ length bytes = omega (arith, at.intact.length_most, window.room) in
    intact_same (ring_sectors_of ring) sector uuid whole bytes (sym (front_shown ring sector bytes (512 * record_sectors whole) window low)) at.intact

-- ---- marks

marks_below : (ring : List ℕ) (done : ℕ) (marks : List ℕ) → AreMarks ring done marks → (k : ℕ) → k < length marks → slice_index marks k < done
marks_below ring done marks are k low = ((are.each (slice_index marks k)).0 (Contains-get_or marks k 0 low)).0

pub no_mark : (ring : List ℕ) (sector : ℕ) (bytes marks : List ℕ) → (magic_in bytes ≡ record_magic → ⊥) → IsWindow ring sector bytes → AreMarks ring sector marks → AreMarks ring (sector + 1) marks
no_mark ring sector bytes marks other window are = record {
  each = λ s. (
    λ has. let before = (are.each s).0 has in (omega (arith, before.0), before.1),
    λ (low, marked).
        elim (cases_eq s sector) [
          | inl here ↦ absurd (other (magic_shown ring sector bytes window ∙ ap (λ n. magic_in (drop (512 * n) ring)) (sym here) ∙ marked.magic))
          | inr elsewhere ↦ (are.each s).1 (omega (arith, elsewhere), marked)
        ],
  );
  rise = are.rise;
}

pub one_mark : (ring : List ℕ) (sector : ℕ) (bytes marks now : List ℕ) → magic_in bytes ≡ record_magic → now ≡ marks ++ sector ∷ [] → IsWindow ring sector bytes → AreMarks ring sector marks → AreMarks ring (sector + 1) now
one_mark ring sector bytes marks now is pushed window are =
    let marked : IsMarked ring sector = record { within = window.within; magic = sym (magic_shown ring sector bytes window) ∙ is } in
    subst (AreMarks ring (sector + 1)) (sym pushed)
    record {
      each = λ s. (
        λ has.
            elim (Contains-push_cases marks sector s has) [
              | inl before ↦ let at = (are.each s).0 before in (omega (arith, at.0), at.1)
              | inr here ↦ (omega arith, subst (IsMarked ring) here marked)
            ],
        λ (low, at).
            elim (cases_eq s sector) [
              | inl here ↦ subst (Contains (marks ++ sector ∷ [])) (sym here) (Contains-push marks sector)
              | inr elsewhere ↦ Contains-append_left marks (sector ∷ []) s ((are.each s).1 (omega (arith, elsewhere), at))
            ],
      );
      rise = λ k low.
          let long : length (marks ++ sector ∷ []) ≡ length marks + 1 = length_push marks sector in
          elim (cases_lt (k + 1) (length marks)) [
            | inl inside ↦
                let a : slice_index (marks ++ sector ∷ []) k ≡ slice_index marks k = get_or_append_left marks (sector ∷ []) 0 k (omega arith) in
                let b : slice_index (marks ++ sector ∷ []) (k + 1) ≡ slice_index marks (k + 1) = get_or_append_left marks (sector ∷ []) 0 (k + 1) inside in
                let c : slice_index marks k < slice_index marks (k + 1) = are.rise k inside in
                omega arith
            | inr last ↦
                let at : k + 1 ≡ length marks = omega arith in
                let a : slice_index (marks ++ sector ∷ []) k ≡ slice_index marks k = get_or_append_left marks (sector ∷ []) 0 k (omega arith) in
                let b : slice_index (marks ++ sector ∷ []) (k + 1) ≡ sector = get_or_push marks sector 0 (k + 1) (sym at) in
                let c : slice_index marks k < sector = marks_below ring sector marks are k (omega arith) in
                omega arith
          ];
    }

-- ---- outlines

module _ (uuid ring : List ℕ) (sector : ℕ) (outlines : List Outline) (are : AreOutlines uuid ring sector outlines) where
  later : (o : Outline) → IsOutlineOf uuid ring sector o → IsOutlineOf uuid ring (sector + 1) o
  later o of = record { below = omega (arith, of.below); intact = of.intact; is = of.is }

  pub no_record : (IsIntactAt uuid ring sector → ⊥) → AreOutlines uuid ring (sector + 1) outlines
  no_record none = record {
    each = λ o has. later o (are.each o has);
    all = λ s low intact.
        elim (cases_eq s sector) [
          | inl here ↦ absurd (none (subst (IsIntactAt uuid ring) here intact))
          | inr elsewhere ↦ are.all s (omega (arith, elsewhere)) intact
        ];
  }

  pub one_record : IsIntactAt uuid ring sector → AreOutlines uuid ring (sector + 1) (outlines ++ outline_at ring sector ∷ [])
  one_record intact =
      let o : Outline = outline_at ring sector in
      record {
        each = λ p has.
            elim (Contains-push_cases outlines o p has) [
              | inl before ↦ later p (are.each p before)
              | inr here ↦ subst (IsOutlineOf uuid ring (sector + 1)) here (record { below = omega arith; intact = intact; is = refl })
            ];
        all = λ s low at.
            elim (cases_eq s sector) [
              | inl here ↦ subst (λ n. Contains (outlines ++ o ∷ []) (outline_at ring n)) (sym here) (Contains-push outlines o)
              | inr elsewhere ↦ Contains-append_left outlines (o ∷ []) (outline_at ring s) (are.all s (omega (arith, elsewhere)) at)
            ];
      }

-- what was read of a window says whether an intact record begins there
pub not_read : {T : Type 0} (fault : Option ℕ) (value : T) (r : Result T RecFault) → IsRead fault value r → ((x : T) → r ≡ Ok x → ⊥) → fault ≡ None → ⊥
not_read fault value (Ok x) read other none = other x refl
not_read fault value (Err (Bad at)) read other none = let e : Some at ≡ None = sym read ∙ none in cc
not_read fault value (Err Memory) read other none = read

pub noted_none : (n sector : ℕ) (uuid ring bytes : List ℕ) (outlines : List Outline) (r : Result Outline RecFault) → ring_sectors_of ring ≡ n → IsWindow ring sector bytes
    → IsRead (record_fault n sector uuid bytes) (outline_in sector bytes) r → ((x : Outline) → r ≡ Ok x → ⊥) → AreOutlines uuid ring sector outlines → AreOutlines uuid ring (sector + 1) outlines
noted_none n sector uuid ring bytes outlines r same window read other are =
    no_record uuid ring sector outlines are
    (λ intact.
    not_read (record_fault n sector uuid bytes) (outline_in sector bytes) r read other
    (complete n sector uuid bytes (subst (λ m. IsIntact m sector uuid bytes) same (shown_intact uuid ring sector bytes window intact))))

pub noted_one : (n sector : ℕ) (uuid ring bytes : List ℕ) (outlines now : List Outline) (o : Outline) → ring_sectors_of ring ≡ n → IsWindow ring sector bytes
    → record_fault n sector uuid bytes ≡ None → o ≡ outline_in sector bytes → now ≡ outlines ++ o ∷ [] → AreOutlines uuid ring sector outlines → AreOutlines uuid ring (sector + 1) now
noted_one n sector uuid ring bytes outlines now o same window none is pushed are =
    let intact : IsIntact (ring_sectors_of ring) sector uuid bytes = subst (λ m. IsIntact m sector uuid bytes) (sym same) (sound n sector uuid bytes none) in
    let at = intact_shown uuid ring sector bytes window intact in
    let o_is : o ≡ outline_at ring sector = is ∙ at.1 in
    subst (AreOutlines uuid ring (sector + 1)) (sym (pushed ∙ ap (λ p. outlines ++ p ∷ []) o_is)) (one_record uuid ring sector outlines are at.0)

-- ---- places

placed_later : (n done : ℕ) (o : Outline) → IsPlaced n done o → IsPlaced n (done + 1) o
placed_later n done o placed = record { below = omega (arith, placed.below); some = placed.some; in_ring = placed.in_ring; cycle = placed.cycle }

pub next_place : (n done : ℕ) (outlines : List Outline) → HavePlaces n done outlines → HavePlaces n (done + 1) outlines
next_place n done outlines places = record { each = λ k d low. placed_later n done (get_or outlines k d) (places.each k d low); rise = places.rise }

-- what holds of each outline and of one more
each_pushed : (P : Outline → Type 0) (outlines : List Outline) (o : Outline) → ((k : ℕ) (d : Outline) → k < length outlines → P (get_or outlines k d)) → P o → (k : ℕ) (d : Outline) → k < length (outlines ++ o ∷ []) → P (get_or (outlines ++ o ∷ []) k d)
each_pushed P outlines o all one k d low =
    let long : length (outlines ++ o ∷ []) ≡ length outlines + 1 = length_push outlines o in
    elim (cases_lt k (length outlines)) [
      | inl inside ↦ subst P (sym (get_or_append_left outlines (o ∷ []) d k inside)) (all k d inside)
      | inr last ↦ subst P (sym (get_or_push outlines o d k (omega arith))) one
    ]

pub place_pushed : (n done : ℕ) (outlines : List Outline) (o : Outline) → o.sector ≡ done → 0 < o.sectors → o.sectors ≤ n → o.cycle ≤ greatest_cycle → HavePlaces n done outlines → HavePlaces n (done + 1) (outlines ++ o ∷ [])
place_pushed n done outlines o here some in_ring cycle places = record {
  each = each_pushed (IsPlaced n (done + 1)) outlines o (λ k d low. placed_later n done (get_or outlines k d) (places.each k d low)) (record { below = omega arith; some = some; in_ring = in_ring; cycle = cycle });
  rise = λ i j d less low.
      let long : length (outlines ++ o ∷ []) ≡ length outlines + 1 = length_push outlines o in
      let a : (get_or (outlines ++ o ∷ []) i d).sector ≡ (get_or outlines i d).sector = ap (λ (p : Outline). p.sector) (get_or_append_left outlines (o ∷ []) d i (omega arith)) in
      elim (cases_lt j (length outlines)) [
        | inl inside ↦
            let b : (get_or (outlines ++ o ∷ []) j d).sector ≡ (get_or outlines j d).sector = ap (λ (p : Outline). p.sector) (get_or_append_left outlines (o ∷ []) d j inside) in
            let c : (get_or outlines i d).sector < (get_or outlines j d).sector = places.rise i j d less inside in
            omega arith
        | inr last ↦
            let b : (get_or (outlines ++ o ∷ []) j d).sector ≡ o.sector = ap (λ (p : Outline). p.sector) (get_or_push outlines o d j (omega arith)) in
            let c : (get_or outlines i d).sector < done = (places.each i d (omega arith)).below in
            omega arith
      ];
}

pub place_noted : (n sector : ℕ) (uuid bytes : List ℕ) (outlines now : List Outline) (o : Outline) → record_fault n sector uuid bytes ≡ None → o ≡ outline_in sector bytes → now ≡ outlines ++ o ∷ []
    → HavePlaces n sector outlines → HavePlaces n (sector + 1) now
place_noted n sector uuid bytes outlines now o none is pushed places =
    let intact : IsIntact n sector uuid bytes = sound n sector uuid bytes none in
    let sectors : o.sectors ≡ record_sectors bytes = ap (λ (p : Outline). p.sectors) is in
    let long : record_sectors bytes ≤ n = intact.in_ring in
    let cycle : o.cycle ≤ greatest_cycle = subst (λ c. c ≤ greatest_cycle) (sym (ap (λ (p : Outline). p.cycle) is)) intact.cycle_most in
    subst (HavePlaces n (sector + 1)) (sym pushed) (place_pushed n sector outlines o (ap (λ (p : Outline). p.sector) is) (omega arith) (omega arith) cycle places)

-- ---- pieces

-- a take that ends in the second part needs no more of it
shorter : (count front : ℕ) (xs ys : List ℕ) → count ≤ length xs + front → take count (xs ++ take front ys) ≡ take count (xs ++ ys)
shorter count front xs ys low =
    elim (cases_lt (length xs) count) [
      | inl more ↦
          let n : ℕ = count - length xs in
          let e : count ≡ length xs + n = omega arith in
          let short : take n (take front ys) ≡ take n ys = take-take n front ys (omega arith) in
          ap (λ m. take m (xs ++ take front ys)) e ∙ take-append-add xs (take front ys) n ∙ ap (λ zs. xs ++ zs) short ∙ sym (take-append-add xs ys n) ∙ ap (λ m. take m (xs ++ ys)) (sym e)
      | inr within ↦ take-append-le count xs (take front ys) within ∙ sym (take-append-le count xs ys within)
    ]

pub window_of_piece : (ring : List ℕ) (start count k : ℕ) (bytes : List ℕ) → IsPiece ring start count bytes → k < count → IsWindow ring (start + k) (drop (512 * k) bytes)
window_of_piece ring start count k bytes piece low =
    let within : start + count ≤ ring_sectors_of ring = piece.within in
    let room : 512 * (count + 64) ≤ length bytes = piece.room in
    let once : length bytes ≤ length ring = piece.once in
    let long : length (drop (512 * k) bytes) ≡ length bytes - 512 * k = length-drop (512 * k) bytes in
    let rest_long : length (drop (512 * start) ring) ≡ length ring - 512 * start = length-drop (512 * start) ring in
    let width : ℕ = length bytes - 512 * k in
    let further : List ℕ = drop (512 * (start + k)) ring in
    let further_long : length further ≡ length ring - 512 * (start + k) = length-drop (512 * (start + k)) ring in
    let cut : drop (512 * k) bytes ≡ take width (drop (512 * k) (turned ring start)) =
    ap (drop (512 * k)) piece.shown ∙ drop-of_take (length bytes) (512 * k) (turned ring start) (omega arith) in
    let dropped : drop (512 * k) (turned ring start) ≡ further ++ take (512 * start) ring =
    drop-append-le (512 * k) (drop (512 * start) ring) (take (512 * start) ring) (omega arith)
    ∙ ap (λ xs. xs ++ take (512 * start) ring) (drop-drop (512 * k) (512 * start) ring ∙ ap (λ n. drop n ring) (let e : 512 * start + 512 * k ≡ 512 * (start + k) = omega arith in e)) in
    let fewer : take (512 * start) ring ≡ take (512 * start) (take (512 * (start + k)) ring) = sym (take-take (512 * start) (512 * (start + k)) ring (omega arith)) in
    let all : take width (further ++ take (512 * start) ring) ≡ take width (turned ring (start + k)) =
    ap (λ xs. take width (further ++ xs)) fewer ∙ shorter width (512 * start) further (take (512 * (start + k)) ring) (omega arith) in
    record {
      within = omega arith;
      room = omega arith;
      shown = cut ∙ ap (take width) dropped ∙ all ∙ ap (λ n. take n (turned ring (start + k))) (sym long);
    }
