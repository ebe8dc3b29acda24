-- Sectors put into a blank image.
use Rattle.std.proofs.Common.{◌≡◌, ℕ, ◌+◌, ◌-◌, ◌*◌, List, length, take, replicate, sym, ap, subst, ◌∙◌, arith}
use Rattle.std.proofs.lemmas.List.{length-replicate, take-replicate, drop-replicate}
use Rattle.xn_bytes.specs.Numbers.{sector_of, overlaid}
use Rattle.xn_make.specs.Images.{small_sectors, IsBlank, IsSmallSuperblock, IsSmallDirectory, IsSmallImage}
use Rattle.xn_bytes.proofs.Overlays.{length-overlaid, sector_of-overlaid-there, sector_of-overlaid-apart}

-- zeros are so many blank sectors
pub blank : (image : List ℕ) (sectors : ℕ) → image ≡ replicate (512 * sectors) 0 → IsBlank image sectors
blank image sectors e = record {
  whole = ap length e ∙ length-replicate (512 * sectors) 0;
  zeros = λ sector h.
      ap (λ (xs : List ℕ). sector_of xs sector) e
      ∙ ap (take (512 * sector + 512 - 512 * sector)) (drop-replicate (512 * sector) (512 * sectors) 0)
      ∙ take-replicate (512 * sector + 512 - 512 * sector) (512 * sectors - 512 * sector) 0 (omega arith)
      ∙ ap (λ (n : ℕ). replicate n 0) (let n : 512 * sector + 512 - 512 * sector ≡ 512 = omega arith in n);
}

-- both sectors put into a blank image
pub image-made : (empty one image superblock inode form : List ℕ) → IsBlank empty small_sectors → length superblock ≡ 512 → length inode ≡ 512
    → one ≡ overlaid empty (512 * 0) superblock → image ≡ overlaid one (512 * 128) inode
    → IsSmallSuperblock superblock → IsSmallDirectory inode 128 2 form → IsSmallImage image form
image-made empty one image superblock inode form blank s i put0 put128 first root =
    let whole : length empty ≡ 512 * small_sectors = blank.whole in
    let kept : length one ≡ length empty = ap length put0 ∙ length-overlaid empty (512 * 0) superblock (omega arith) in
    let at0 : sector_of image 0 ≡ superblock =
    ap (λ (xs : List ℕ). sector_of xs 0) put128 ∙ sector_of-overlaid-apart one 128 inode 0 i (omega arith) (omega arith) (omega arith)
    ∙ ap (λ (xs : List ℕ). sector_of xs 0) put0 ∙ sector_of-overlaid-there empty 0 superblock s (omega arith) in
    let at128 : sector_of image 128 ≡ inode =
    ap (λ (xs : List ℕ). sector_of xs 128) put128 ∙ sector_of-overlaid-there one 128 inode i (omega arith) in
    let P : List ℕ → Type 0 = λ (xs : List ℕ). IsSmallDirectory xs 128 2 form in
    let Q : List ℕ → Type 0 = λ (xs : List ℕ). IsSmallSuperblock xs in
    record {
      whole = ap length put128 ∙ length-overlaid one (512 * 128) inode (omega arith) ∙ kept ∙ whole;
      superblock = subst Q (sym at0) first;
      root = subst P (sym at128) root;
      zeros = λ sector h not0 not128.
          ap (λ (xs : List ℕ). sector_of xs sector) put128 ∙ sector_of-overlaid-apart one 128 inode sector i (omega arith) not128 (omega arith)
          ∙ ap (λ (xs : List ℕ). sector_of xs sector) put0 ∙ sector_of-overlaid-apart empty 0 superblock sector s (omega arith) not0 (omega arith)
          ∙ blank.zeros sector h;
    }
