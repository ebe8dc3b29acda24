-- The sectors that are put into a sample image.
use Rattle.std.proofs.Common.{◌≡◌, ◌≢◌, ◌⊎◌, ℕ, ◌+◌, ◌*◌, ◌<◌, ◌≤◌, List, length, refl, sym, ap, subst, ◌∙◌, arith, inl, inr}
use Rattle.std.proofs.lemmas.Bool.{cases_eq}
use Rattle.xn_bytes.specs.Numbers.{sector_of, overlaid}
use Rattle.xn_make.specs.Images.{IsBlank, IsImageSuperblock}
use Rattle.xn_make.specs.Samples.{sample_sectors, IsSampleInode, HasSampleInodes, IsSampleImage}
use Rattle.xn_bytes.proofs.Overlays.{length-overlaid, sector_of-overlaid-there, sector_of-overlaid-apart}

-- no inodes yet
pub inodes_none : (inodes : ℕ) (image : List ℕ) → HasSampleInodes inodes 0 image image
inodes_none inodes image = record { whole = refl; inodes = λ place below. absurd (omega (arith, below)); others = λ sector h outside. refl }

-- a sector on either side of the inodes is not that of the next one
not_next : (sector place : ℕ) → (sector < 128) ⊎ (128 + (place + 1) ≤ sector) → sector ≢ 128 + place
not_next sector place (inl before) e = omega (arith, before, e)
not_next sector place (inr behind) e = omega (arith, behind, e)

outside_too : (sector place : ℕ) → (sector < 128) ⊎ (128 + (place + 1) ≤ sector) → (sector < 128) ⊎ (128 + place ≤ sector)
outside_too sector place (inl before) = inl before
outside_too sector place (inr behind) = inr (omega (arith, behind))

-- one more inode
pub inodes_more : (inodes place : ℕ) (old image new bytes : List ℕ) → HasSampleInodes inodes place old image → 512 * (128 + inodes) ≤ length old → place < inodes → length bytes ≡ 512
    → new ≡ overlaid image (512 * (128 + place)) bytes → IsSampleInode bytes inodes place → HasSampleInodes inodes (place + 1) old new
inodes_more inodes place old image new bytes has room within n put is =
    let same : length image ≡ length old = has.whole in
    record {
      whole = ap length put ∙ length-overlaid image (512 * (128 + place)) bytes (omega (arith, same, n, room, within)) ∙ same;
      inodes = λ other below.
          elim (cases_eq other place) [
            | inl next ↦
                let at : sector_of new (128 + place) ≡ bytes = ap (λ (xs : List ℕ). sector_of xs (128 + place)) put ∙ sector_of-overlaid-there image (128 + place) bytes n (omega (arith, same, room, within)) in
                subst (λ (k : ℕ). IsSampleInode (sector_of new (128 + k)) inodes k) (sym next) (subst (λ (xs : List ℕ). IsSampleInode xs inodes place) (sym at) is)
            | inr differs ↦
                let at : sector_of new (128 + other) ≡ sector_of image (128 + other) =
                ap (λ (xs : List ℕ). sector_of xs (128 + other)) put
                ∙ sector_of-overlaid-apart image (128 + place) bytes (128 + other) n (omega (arith, same, room, within)) (λ e. differs (omega (arith, e))) (omega (arith, same, room, within, below)) in
                subst (λ (xs : List ℕ). IsSampleInode xs inodes other) (sym at) (has.inodes other (let less : other < place = grind (arith, differs, below) in less))
          ];
      others = λ sector h outside.
          ap (λ (xs : List ℕ). sector_of xs sector) put
          ∙ sector_of-overlaid-apart image (128 + place) bytes sector n (omega (arith, same, room, within)) (not_next sector place outside) (omega (arith, same, h))
          ∙ has.others sector h (outside_too sector place outside);
    }

pub inodes_all : (inodes place : ℕ) (old image : List ℕ) → HasSampleInodes inodes place old image → place ≡ inodes → HasSampleInodes inodes inodes old image
inodes_all inodes place old image has e = subst (λ (n : ℕ). HasSampleInodes inodes n old image) e has

-- the inodes lie in the image
pub inodes_fit : (inodes pool : ℕ) (empty one : List ℕ) → inodes ≤ 3968 → IsBlank empty (sample_sectors pool) → length one ≡ length empty → 512 * (128 + inodes) ≤ length one
inodes_fit inodes pool empty one fit blank kept =
    let whole : length empty ≡ 512 * (8 * (512 + pool + 512)) = blank.whole in
    omega (arith, whole, kept, fit)

-- both the superblock and the inodes put into a blank image
pub sample_made : (inodes pool : ℕ) (empty one image superblock : List ℕ) → inodes ≤ 3968 → IsBlank empty (sample_sectors pool) → length superblock ≡ 512
    → one ≡ overlaid empty (512 * 0) superblock → IsImageSuperblock superblock (512 + pool) → HasSampleInodes inodes inodes one image → IsSampleImage image inodes pool
sample_made inodes pool empty one image superblock fit blank s put is has =
    let whole : length empty ≡ 512 * (8 * (512 + pool + 512)) = blank.whole in
    let kept : length one ≡ length empty = ap length put ∙ length-overlaid empty (512 * 0) superblock (omega (arith, whole, s)) in
    let at : sector_of image 0 ≡ superblock =
    has.others 0 (omega (arith, kept, whole)) (inl (omega arith))
    ∙ ap (λ (xs : List ℕ). sector_of xs 0) put ∙ sector_of-overlaid-there empty 0 superblock s (omega (arith, whole)) in
    record {
      whole = has.whole ∙ kept ∙ whole;
      superblock = subst (λ (xs : List ℕ). IsImageSuperblock xs (512 + pool)) (sym at) is;
      inodes = has.inodes;
      zeros = λ sector h not0 outside.
          has.others sector (omega (arith, kept, whole, h)) outside
          ∙ ap (λ (xs : List ℕ). sector_of xs sector) put ∙ sector_of-overlaid-apart empty 0 superblock sector s (omega (arith, whole)) not0 (omega (arith, whole, h))
          ∙ blank.zeros sector h;
    }
