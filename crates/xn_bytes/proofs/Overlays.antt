-- Bytes with others laid over them, and pieces of such bytes, at any place and of any width.
use Rattle.std.proofs.Common.{◌≡◌, ◌≢◌, ◌⊎◌, inl, inr, ℕ, zero, suc, ◌+◌, ◌-◌, ◌*◌, ◌<◌, ◌≤◌, List, [], ◌++◌, length, take, drop, get_or, refl, sym, ap, ◌∙◌, arith, length-take, length-drop, length-append, append_assoc, add-zero, mul-zero, mul-suc}
use Rattle.std.specs.Prelude.{slice_range}
use Rattle.std.proofs.Math.Seq.{take-add}
use Rattle.std.proofs.lemmas.List.{same_lists, append-nil, take-append-drop, get_or_append_left, get_or-append_right, get_or-take, get_or-drop, drop-drop, take_at, drop_at, take_all}
use borrow.Rule.Slice.PartMut.{put_mid}
use Rattle.xn_bytes.specs.Numbers.{overlaid, sector_of}

-- ---- lengths and single bytes

pub length-slice_range : (xs : List ℕ) (from to : ℕ) → to ≤ length xs → length (slice_range xs from to) ≡ to - from
length-slice_range xs from to h = omega (arith, length-take (to - from) (drop from xs), length-drop from xs)

pub get_or-slice_range : (xs : List ℕ) (from to i d : ℕ) → i < to - from → get_or (slice_range xs from to) i d ≡ get_or xs (from + i) d
get_or-slice_range xs from to i d h = get_or-take (to - from) (drop from xs) i d h ∙ get_or-drop from xs i d

pub length-overlaid : (xs : List ℕ) (at : ℕ) (over : List ℕ) → at + length over ≤ length xs → length (overlaid xs at over) ≡ length xs
length-overlaid xs at over h = omega (arith, length-append (take at xs ++ over) (drop (at + length over) xs), length-append (take at xs) over, length-take at xs, length-drop (at + length over) xs)

-- a byte below the piece, within it and above it
pub get_or-overlaid-below : (xs : List ℕ) (at : ℕ) (over : List ℕ) (i d : ℕ) → i < at → at ≤ length xs → get_or (overlaid xs at over) i d ≡ get_or xs i d
get_or-overlaid-below xs at over i d low h =
    let front : length (take at xs) ≡ at = omega (arith, length-take at xs) in
    let both : length (take at xs ++ over) ≡ at + length over = omega (arith, length-append (take at xs) over) in
    get_or_append_left (take at xs ++ over) (drop (at + length over) xs) d i (omega arith)
    ∙ get_or_append_left (take at xs) over d i (omega arith)
    ∙ get_or-take at xs i d low

pub get_or-overlaid-there : (xs : List ℕ) (at : ℕ) (over : List ℕ) (i d : ℕ) → at ≤ i → i < at + length over → at ≤ length xs → get_or (overlaid xs at over) i d ≡ get_or over (i - at) d
get_or-overlaid-there xs at over i d low high h =
    let front : length (take at xs) ≡ at = omega (arith, length-take at xs) in
    let both : length (take at xs ++ over) ≡ at + length over = omega (arith, length-append (take at xs) over) in
    get_or_append_left (take at xs ++ over) (drop (at + length over) xs) d i (omega arith)
    ∙ get_or-append_right (take at xs) over at i d front low

pub get_or-overlaid-above : (xs : List ℕ) (at : ℕ) (over : List ℕ) (i d : ℕ) → at + length over ≤ i → at ≤ length xs → get_or (overlaid xs at over) i d ≡ get_or xs i d
get_or-overlaid-above xs at over i d high h =
    let front : length (take at xs) ≡ at = omega (arith, length-take at xs) in
    let both : length (take at xs ++ over) ≡ at + length over = omega (arith, length-append (take at xs) over) in
    let there : at + length over + (i - (at + length over)) ≡ i = omega arith in
    get_or-append_right (take at xs ++ over) (drop (at + length over) xs) (at + length over) i d both high
    ∙ get_or-drop (at + length over) xs (i - (at + length over)) d
    ∙ ap (λ k. get_or xs k d) there

-- ---- pieces

-- a piece of a piece
pub slice_range-slice_range : (xs : List ℕ) (from to a b : ℕ) → from + b ≤ to → to ≤ length xs → slice_range (slice_range xs from to) a b ≡ slice_range xs (from + a) (from + b)
slice_range-slice_range xs from to a b h whole =
    let len : length (slice_range xs from to) ≡ to - from = length-slice_range xs from to whole in
    let left : length (slice_range (slice_range xs from to) a b) ≡ b - a = length-slice_range (slice_range xs from to) a b (omega arith) in
    let right : length (slice_range xs (from + a) (from + b)) ≡ from + b - (from + a) = length-slice_range xs (from + a) (from + b) (omega arith) in
    same_lists _ _ (omega arith)
    (λ k d low.
    let moved : from + (a + k) ≡ from + a + k = omega arith in
    get_or-slice_range (slice_range xs from to) a b k d (omega arith)
    ∙ get_or-slice_range xs from to (a + k) d (omega arith)
    ∙ ap (λ i. get_or xs i d) moved
    ∙ sym (get_or-slice_range xs (from + a) (from + b) k d (omega arith)))

-- neighbouring pieces are one
pub slice_range-append : (xs : List ℕ) (from middle to : ℕ) → from ≤ middle → middle ≤ to → slice_range xs from middle ++ slice_range xs middle to ≡ slice_range xs from to
slice_range-append xs from middle to low high =
    let further : drop (middle - from) (drop from xs) ≡ drop middle xs =
    drop-drop (middle - from) from xs ∙ ap (λ n. drop n xs) (let e : from + (middle - from) ≡ middle = omega arith in e) in
    let width : middle - from + (to - middle) ≡ to - from = omega arith in
    let both : take (middle - from) (drop from xs) ++ take (to - middle) (drop (middle - from) (drop from xs)) ≡ take (middle - from + (to - middle)) (drop from xs) =
    sym (take-add (middle - from) (to - middle) (drop from xs)) in
    cc

-- the piece that was laid down
pub slice_range-overlaid-there : (xs : List ℕ) (at : ℕ) (over : List ℕ) (to : ℕ) → to ≡ at + length over → to ≤ length xs → slice_range (overlaid xs at over) at to ≡ over
slice_range-overlaid-there xs at over to e h =
    let len : length (overlaid xs at over) ≡ length xs = length-overlaid xs at over (omega arith) in
    let left : length (slice_range (overlaid xs at over) at to) ≡ to - at = length-slice_range (overlaid xs at over) at to (omega arith) in
    same_lists _ _ (omega arith)
    (λ k d low.
    let back : at + k - at ≡ k = omega arith in
    get_or-slice_range (overlaid xs at over) at to k d (omega arith)
    ∙ get_or-overlaid-there xs at over (at + k) d (omega arith) (omega arith) (omega arith)
    ∙ ap (λ i. get_or over i d) back)

-- a piece elsewhere stays
pub slice_range-overlaid-apart : (xs : List ℕ) (at : ℕ) (over : List ℕ) (from to : ℕ) → at + length over ≤ length xs → to ≤ length xs → (to ≤ at) ⊎ (at + length over ≤ from) → slice_range (overlaid xs at over) from to ≡ slice_range xs from to
slice_range-overlaid-apart xs at over from to whole within apart =
    let len : length (overlaid xs at over) ≡ length xs = length-overlaid xs at over whole in
    let left : length (slice_range (overlaid xs at over) from to) ≡ to - from = length-slice_range (overlaid xs at over) from to (omega arith) in
    let right : length (slice_range xs from to) ≡ to - from = length-slice_range xs from to within in
    same_lists _ _ (omega arith)
    (λ k d low.
    let stays : get_or (overlaid xs at over) (from + k) d ≡ get_or xs (from + k) d =
    elim apart [
      | inl below ↦ get_or-overlaid-below xs at over (from + k) d (omega arith) (omega arith)
      | inr above ↦ get_or-overlaid-above xs at over (from + k) d (omega arith) (omega arith)
    ] in
    get_or-slice_range (overlaid xs at over) from to k d (omega arith)
    ∙ stays
    ∙ sym (get_or-slice_range xs from to k d (omega arith)))

-- a piece within what was laid down
pub slice_range-overlaid-within : (xs : List ℕ) (at : ℕ) (over : List ℕ) (from to : ℕ) → at + length over ≤ length xs → from ≤ to → to ≤ length over → slice_range (overlaid xs at over) (at + from) (at + to) ≡ slice_range over from to
slice_range-overlaid-within xs at over from to whole order within =
    let len : length (overlaid xs at over) ≡ length xs = length-overlaid xs at over whole in
    let part : slice_range (slice_range (overlaid xs at over) at (at + length over)) from to ≡ slice_range (overlaid xs at over) (at + from) (at + to) =
    slice_range-slice_range (overlaid xs at over) at (at + length over) from to (omega arith) (omega arith) in
    sym part ∙ ap (λ ys. slice_range ys from to) (slice_range-overlaid-there xs at over (at + length over) refl whole)

-- ---- what is laid over

-- neighbouring pieces are laid down as one
pub overlaid-append : (xs : List ℕ) (at : ℕ) (first second : List ℕ) (next : ℕ) → next ≡ at + length first → at ≤ length xs → overlaid (overlaid xs at first) next second ≡ overlaid xs at (first ++ second)
overlaid-append xs at first second next e h =
    let front : length (take at xs) ≡ at = omega (arith, length-take at xs) in
    let both : length (take at xs ++ first) ≡ next = omega (arith, length-append (take at xs) first) in
    let taken : take next (overlaid xs at first) ≡ take at xs ++ first = take_at (take at xs ++ first) (drop (at + length first) xs) next both in
    let left : drop next (overlaid xs at first) ≡ drop next xs = drop_at (take at xs ++ first) (drop (at + length first) xs) next both ∙ ap (λ n. drop n xs) (sym e) in
    let rest : drop (next + length second) (overlaid xs at first) ≡ drop (next + length second) xs =
    sym (drop-drop (length second) next (overlaid xs at first)) ∙ ap (drop (length second)) left ∙ drop-drop (length second) next xs in
    let end : next + length second ≡ at + length (first ++ second) = omega (arith, length-append first second) in
    let grouped : take at xs ++ first ++ second ≡ take at xs ++ (first ++ second) = append_assoc (take at xs) first second in
    cc

-- a piece of the bytes themselves changes nothing
pub overlaid-same : (xs : List ℕ) (at to : ℕ) → at ≤ to → to ≤ length xs → overlaid xs at (slice_range xs at to) ≡ xs
overlaid-same xs at to order h =
    let width : length (slice_range xs at to) ≡ to - at = length-slice_range xs at to h in
    let end : at + length (slice_range xs at to) ≡ at + (to - at) = omega arith in
    let front : take at xs ++ take (to - at) (drop at xs) ≡ take (at + (to - at)) xs = sym (take-add at (to - at) xs) in
    let whole : take (at + (to - at)) xs ++ drop (at + (to - at)) xs ≡ xs = take-append-drop (at + (to - at)) xs in
    cc

same_fronts : (width count : ℕ) (xs ys : List ℕ) → ((k : ℕ) → k < count → slice_range xs (width * k) (width * k + width) ≡ slice_range ys (width * k) (width * k + width)) → take (width * count) xs ≡ take (width * count) ys
same_fronts width zero xs ys same = rw mul-zero refl
same_fronts width (suc k) xs ys same =
    let one : width * k + width - width * k ≡ width = omega arith in
    let more : width * suc k ≡ width * k + width = omega (arith, mul-suc width k) in
    let here : slice_range xs (width * k) (width * k + width) ≡ slice_range ys (width * k) (width * k + width) = same k (omega arith) in
    let before : take (width * k) xs ≡ take (width * k) ys = same_fronts width k xs ys (λ j low. same j (omega arith)) in
    let left : take (width * k) xs ++ take width (drop (width * k) xs) ≡ take (width * k + width) xs = sym (take-add (width * k) width xs) in
    let right : take (width * k) ys ++ take width (drop (width * k) ys) ≡ take (width * k + width) ys = sym (take-add (width * k) width ys) in
    cc

-- Bytes of `count` pieces of one width are the same where each piece is.
pub same_by_pieces : (width count : ℕ) (xs ys : List ℕ) → length xs ≡ width * count → length ys ≡ width * count → ((k : ℕ) → k < count → slice_range xs (width * k) (width * k + width) ≡ slice_range ys (width * k) (width * k + width)) → xs ≡ ys
same_by_pieces width count xs ys long as_long same =
    sym (take_all (width * count) xs (omega arith)) ∙ same_fronts width count xs ys same ∙ take_all (width * count) ys (omega arith)

-- nothing laid over changes nothing
pub overlaid-nothing : (xs : List ℕ) (at : ℕ) → overlaid xs at [] ≡ xs
overlaid-nothing xs at = simp (append-nil, add-zero) (take-append-drop at xs)

-- a write to a part of a slice lays what it leaves there over the slice
pub put_mid-overlaid : (at count : ℕ) (xs over : List ℕ) → length over ≡ count → put_mid at count xs over ≡ overlaid xs at over
put_mid-overlaid at count xs over e =
    let rest : drop count (drop at xs) ≡ drop (at + length over) xs = rw (drop-drop, e) refl in
    rw rest (sym (append_assoc (take at xs) over (drop (at + length over) xs)))

-- a piece laid down with the bytes behind it is that piece laid down
pub overlaid-longer : (xs : List ℕ) (at : ℕ) (over : List ℕ) (to : ℕ) → at + length over ≤ to → to ≤ length xs → overlaid xs at (over ++ slice_range xs (at + length over) to) ≡ overlaid xs at over
overlaid-longer xs at over to order h =
    let len : length (overlaid xs at over) ≡ length xs = length-overlaid xs at over (omega arith) in
    let stays : slice_range (overlaid xs at over) (at + length over) to ≡ slice_range xs (at + length over) to =
    slice_range-overlaid-apart xs at over (at + length over) to (omega arith) h (inr (omega arith)) in
    let both : overlaid (overlaid xs at over) (at + length over) (slice_range xs (at + length over) to) ≡ overlaid xs at (over ++ slice_range xs (at + length over) to) =
    overlaid-append xs at over (slice_range xs (at + length over) to) (at + length over) refl (omega arith) in
    sym both
    ∙ ap (overlaid (overlaid xs at over) (at + length over)) (sym stays)
    ∙ overlaid-same (overlaid xs at over) (at + length over) to order (omega arith)

-- ---- sectors

-- the sector that was put
pub sector_of-overlaid-there : (image : List ℕ) (sector : ℕ) (bytes : List ℕ) → length bytes ≡ 512 → 512 * sector + 512 ≤ length image → sector_of (overlaid image (512 * sector) bytes) sector ≡ bytes
sector_of-overlaid-there image sector bytes e h = slice_range-overlaid-there image (512 * sector) bytes (512 * sector + 512) (omega arith) (omega arith)

-- another
pub sector_of-overlaid-apart : (image : List ℕ) (put : ℕ) (bytes : List ℕ) (sector : ℕ) → length bytes ≡ 512 → 512 * put + 512 ≤ length image → sector ≢ put → 512 * sector + 512 ≤ length image → sector_of (overlaid image (512 * put) bytes) sector ≡ sector_of image sector
sector_of-overlaid-apart image put bytes sector e h ne within =
    let side : (sector < put) ⊎ (put < sector) = grind arith in
    slice_range-overlaid-apart image (512 * put) bytes (512 * sector) (512 * sector + 512) (omega arith) (omega arith)
    (elim side [ inl before ↦ inl (omega arith) | inr behind ↦ inr (omega arith) ])
