-- The image that is shown after whole sectors are kept, or a front of them.
use Rattle.std.proofs.Common.{◌≡◌, ℕ, ◌+◌, ◌-◌, ◌*◌, ◌≤◌, List, ◌++◌, length, take, Option, Some, None, Result, Ok, Err, refl, sym, ap, ◌∙◌, arith, length-append, length-take}
use Rattle.std.specs.Prelude.{slice_range, option_map, IfSome, OnOk, OnErr}
use Rattle.std.specs.Result.{is_ok}
use Rattle.std.proofs.lemmas.Result.{on_ok_weaker, on_err_weaker}
use Rattle.xn_bytes.specs.Numbers.{overlaid}
use Rattle.xn_bytes.specs.Superblock.{Geometry}
use Rattle.xn_bytes.proofs.Overlays.{length-slice_range, overlaid-longer}
use Rattle.xn_inode.specs.Stores.{BothImages}
use Rattle.xn_replay.specs.Overlay.{ViewState, shown, AreKept, LaysOver, LaysFront}
use Rattle.xn_replay.specs.Viewed.{IsSeen}
use Rattle.xn_replay.proofs.Kept.{length-shown}

lays_image : (old new : List (ℕ × List ℕ)) (image : Option (List ℕ)) (sectors first place : ℕ) (bytes : List ℕ) → IfSome image (λ x. length x ≡ 512 * sectors) → AreKept sectors old → first ≡ place → 512 * first + length bytes ≤ 512 * sectors
    → LaysOver old new first bytes → option_map (λ x. shown x new) image ≡ option_map (λ y. overlaid y (512 * place) bytes) (option_map (λ x. shown x old) image)
lays_image old new None sectors first place bytes long all e room laid = refl
lays_image old new (Some x) sectors first place bytes long all e room laid =
    ap Some (laid.image sectors x long room all ∙ ap (λ n. overlaid (shown x old) (512 * n) bytes) e)

lays_part : (old new : List (ℕ × List ℕ)) (image : Option (List ℕ)) (sectors first place : ℕ) (bytes : List ℕ) (size : ℕ) → length bytes ≡ size → IfSome image (λ x. length x ≡ 512 * sectors) → AreKept sectors old → first ≡ place → 512 * first + size ≤ 512 * sectors
    → LaysFront old new first bytes → BothImages (option_map (λ x. shown x old) image) (option_map (λ x. shown x new) image) (λ x y. (ys : List ℕ) × (length ys ≡ size) × (y ≡ overlaid x (512 * place) ys))
lays_part old new None sectors first place bytes size whole long all e room (count, some, laid) = refl
lays_part old new (Some x) sectors first place bytes size whole long all e room (count, some, laid) =
    let front : length (take (512 * count) bytes) ≡ 512 * count = omega (arith, length-take (512 * count) bytes) in
    let len : length (shown x old) ≡ 512 * sectors = length-shown sectors x old long all in
    let rest : List ℕ = slice_range (shown x old) (512 * first + length (take (512 * count) bytes)) (512 * first + size) in
    let left : length rest ≡ 512 * first + size - (512 * first + length (take (512 * count) bytes)) =
    length-slice_range (shown x old) (512 * first + length (take (512 * count) bytes)) (512 * first + size) (omega arith) in
    let both : length (take (512 * count) bytes ++ rest) ≡ size = omega (arith, length-append (take (512 * count) bytes) rest) in
    let now : shown x new ≡ overlaid (shown x old) (512 * first) (take (512 * count) bytes) = laid.image sectors x long (omega arith) all in (
      take (512 * count) bytes ++ rest,
      both,
      now
          ∙ sym (overlaid-longer (shown x old) (512 * first) (take (512 * count) bytes) (512 * first + size) (omega arith) (omega arith))
          ∙ ap (λ n. overlaid (shown x old) (512 * n) (take (512 * count) bytes ++ rest)) e,
    )

-- whether or not memory ran out, what is kept are sectors of the image
kept_after : {T E : Type 0} (r : Result T E) (old new : List (ℕ × List ℕ)) (sectors first : ℕ) (bytes : List ℕ) → 512 * first + length bytes ≤ 512 * sectors → AreKept sectors old → OnOk r (LaysOver old new first bytes) → OnErr r (LaysFront old new first bytes) → AreKept sectors new
kept_after (Ok _) old new sectors first bytes room all laid front = laid.kept sectors room all
kept_after (Err _) old new sectors first bytes room all laid front =
    front.2.kept sectors (omega (arith, length-take (512 * front.0) bytes)) all

-- a result with another error
same_ok : {T D E : Type 0} (P : Type 0) (r : Result T D) (s : Result T E) → is_ok s ≡ is_ok r → OnOk r P → OnOk s P
same_ok P (Ok _) (Ok _) same h = h
same_ok P (Ok _) (Err _) same h = tt
same_ok P (Err _) (Ok _) same h = absurd (cc)
same_ok P (Err _) (Err _) same h = tt

same_err : {T D E : Type 0} (P : Type 0) (r : Result T D) (s : Result T E) → is_ok s ≡ is_ok r → OnErr r P → OnErr s P
same_err P (Ok _) (Ok _) same h = tt
same_err P (Ok _) (Err _) same h = absurd (cc)
same_err P (Err _) (Ok _) same h = tt
same_err P (Err _) (Err _) same h = h

-- What a view shows over a machine's image after `count` sectors from a place on were put: all of them, or after an
-- error some.
pub record WasPut {T E : Type 0} (result : Result T E) (view view' : ViewState) (image : Option (List ℕ)) (sectors read_faults reads count place : ℕ) (bytes : List ℕ) : Type 0 where
  pub put : OnOk result (option_map (λ x. shown x view'.kept) image ≡ option_map (λ y. overlaid y (512 * place) bytes) (option_map (λ x. shown x view.kept) image))
  pub part : OnErr result (BothImages (option_map (λ x. shown x view.kept) image) (option_map (λ x. shown x view'.kept) image) (λ x y. (ys : List ℕ) × (length ys ≡ 512 * count) × (y ≡ overlaid x (512 * place) ys)))
  pub whole : IsSeen view' image sectors read_faults reads

-- The sectors were kept from where the superblock has them; the error is told by another name.
pub was_put : {T D E : Type 0} (kept : Result T D) (result : Result T E) (view view' : ViewState) (shape : Geometry) (image : Option (List ℕ)) (sectors read_faults reads first count : ℕ) (place : Geometry → ℕ) (bytes : List ℕ)
    → IsSeen view image sectors read_faults reads → shape ≡ view.shape → first ≡ place shape → first + count ≤ 8 * shape.data_blocks → length bytes ≡ 512 * count
    → view' ≡ record view { kept = view'.kept } → OnOk kept (LaysOver view.kept view'.kept first bytes) → OnErr kept (LaysFront view.kept view'.kept first bytes) → is_ok result ≡ is_ok kept
    → WasPut result view view' image sectors read_faults reads count (place view.shape) bytes
was_put kept result view view' shape image sectors read_faults reads first count place bytes seen shape_is at within size others ok err same =
    let shape_stays : view'.shape ≡ view.shape = ap (λ (v : ViewState). v.shape) others in
    let blocks : shape.data_blocks ≡ view.shape.data_blocks = ap (λ (s : Geometry). s.data_blocks) shape_is in
    let blocks_stay : view'.shape.data_blocks ≡ view.shape.data_blocks = ap (λ (s : Geometry). s.data_blocks) shape_stays in
    let there : first ≡ place view.shape = at ∙ ap place shape_is in
    let room : 512 * first + length bytes ≤ 512 * sectors = omega (arith, seen.all_blocks) in
    let part_room : 512 * first + 512 * count ≤ 512 * sectors = omega arith in
    record {
      put = same_ok _ kept result same (on_ok_weaker kept (lays_image view.kept view'.kept image sectors first (place view.shape) bytes seen.length seen.kept there room) ok);
      part = same_err _ kept result same (on_err_weaker kept (lays_part view.kept view'.kept image sectors first (place view.shape) bytes (512 * count) size seen.length seen.kept there part_room) err);
      whole = record {
        all_blocks = omega (arith, seen.all_blocks);
        length = seen.length;
        kept = kept_after kept view.kept view'.kept sectors first bytes room seen.kept ok err;
        small = seen.small;
      };
    }
