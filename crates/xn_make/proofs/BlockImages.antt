-- The sectors and the block that are put into an image whose root directory is in block form.
use Rattle.std.proofs.Common.{◌≡◌, ℕ, ◌+◌, ◌*◌, ◌<◌, ◌≤◌, List, length, slice_range, refl, sym, ap, subst, ◌∙◌, arith, inl, inr}
use Rattle.std.proofs.lemmas.Bool.{cases_eq}
use Rattle.xn_bytes.specs.Numbers.{sector_of, overlaid}
use Rattle.xn_make.specs.Images.{small_sectors, empty_form, IsBlank, IsSmallSuperblock, IsSmallDirectory, IsSmallRegular, IsBlockDirectoryInode, HasFiles, HasInodes, IsRootBlock, IsBlockImage}
use Rattle.xn_bytes.proofs.Overlays.{length-overlaid, slice_range-overlaid-there, slice_range-overlaid-apart, sector_of-overlaid-there, sector_of-overlaid-apart}

-- no files yet
pub files_none : (image : List ℕ) → HasFiles 144 image image
files_none image = record { files = λ number low high. absurd (omega arith); others = λ sector h no. refl }

-- one more file
pub files_more : (old image new : List ℕ) (number : ℕ) (bytes : List ℕ) → HasFiles number old image → length image ≡ 512 * small_sectors → length bytes ≡ 512 → 144 ≤ number → number < 155
    → new ≡ overlaid image (512 * number) bytes → IsSmallRegular bytes number → HasFiles (number + 1) old new
files_more old image new number bytes has whole n low high put is = record {
  files = λ other from to.
      elim (cases_eq other number) [
        | inl same ↦
            let at : sector_of new number ≡ bytes = ap (λ (xs : List ℕ). sector_of xs number) put ∙ sector_of-overlaid-there image number bytes n (omega arith) in
            subst (λ (k : ℕ). IsSmallRegular (sector_of new k) k) (sym same) (subst (λ (xs : List ℕ). IsSmallRegular xs number) (sym at) is)
        | inr differs ↦
            let at : sector_of new other ≡ sector_of image other = ap (λ (xs : List ℕ). sector_of xs other) put ∙ sector_of-overlaid-apart image number bytes other n (omega arith) differs (omega arith) in
            subst (λ (xs : List ℕ). IsSmallRegular xs other) (sym at) (has.files other from (let less : other < number = grind (arith, differs) in less))
      ];
  others = λ sector h outside.
      ap (λ (xs : List ℕ). sector_of xs sector) put
      ∙ sector_of-overlaid-apart image number bytes sector n (omega arith) (λ e. outside (omega arith) (omega arith)) (omega arith)
      ∙ has.others sector h (λ a b. outside a (omega arith));
}

pub files_all : (old image : List ℕ) (number : ℕ) → HasFiles number old image → number ≡ 155 → HasFiles 155 old image
files_all old image number has e = subst (λ (n : ℕ). HasFiles n old image) e has

-- the root, the directory that no entry names, and the files
pub inodes_made : (old one two three root detached : List ℕ) → length old ≡ 512 * small_sectors → length root ≡ 512 → length detached ≡ 512
    → one ≡ overlaid old (512 * 128) root → two ≡ overlaid one (512 * 129) detached → length one ≡ length old
    → IsBlockDirectoryInode root 128 40 → IsSmallDirectory detached 129 0 empty_form → HasFiles 155 two three → HasInodes old three
inodes_made old one two three root detached whole r d put128 put129 kept is129root is129 files =
    let no : (sector : ℕ) → sector < 144 → 144 ≤ sector → sector < 155 → ⊥ = λ sector low from to. omega arith in
    let zero : sector_of three 0 ≡ sector_of old 0 =
    files.others 0 (omega arith) (no 0 (omega arith)) ∙ ap (λ (xs : List ℕ). sector_of xs 0) put129 ∙ sector_of-overlaid-apart one 129 detached 0 d (omega arith) (omega arith) (omega arith)
    ∙ ap (λ (xs : List ℕ). sector_of xs 0) put128 ∙ sector_of-overlaid-apart old 128 root 0 r (omega arith) (omega arith) (omega arith) in
    let at128 : sector_of three 128 ≡ root =
    files.others 128 (omega arith) (no 128 (omega arith)) ∙ ap (λ (xs : List ℕ). sector_of xs 128) put129 ∙ sector_of-overlaid-apart one 129 detached 128 d (omega arith) (omega arith) (omega arith)
    ∙ ap (λ (xs : List ℕ). sector_of xs 128) put128 ∙ sector_of-overlaid-there old 128 root r (omega arith) in
    let at129 : sector_of three 129 ≡ detached =
    files.others 129 (omega arith) (no 129 (omega arith)) ∙ ap (λ (xs : List ℕ). sector_of xs 129) put129 ∙ sector_of-overlaid-there one 129 detached d (omega arith) in
    record {
      superblock = zero;
      root = subst (λ (xs : List ℕ). IsBlockDirectoryInode xs 128 40) (sym at128) is129root;
      detached = subst (λ (xs : List ℕ). IsSmallDirectory xs 129 0 empty_form) (sym at129) is129;
      files = files.files;
    }

-- a sector in front of the root's block
in_front : (image block : List ℕ) (sector : ℕ) → length image ≡ 512 * small_sectors → length block ≡ 4096 → sector < 320 → sector_of (overlaid image 163840 block) sector ≡ sector_of image sector
in_front image block sector whole n h = slice_range-overlaid-apart image 163840 block (512 * sector) (512 * sector + 512) (omega arith) (omega arith) (inl (omega arith))

-- the whole image
pub block_image_made : (empty one two image superblock block : List ℕ) → IsBlank empty small_sectors → length superblock ≡ 512
    → one ≡ overlaid empty (512 * 0) superblock → HasInodes one two → length two ≡ length one → image ≡ overlaid two 163840 block
    → IsSmallSuperblock superblock → IsRootBlock block → IsBlockImage image
block_image_made empty one two image superblock block blank s put0 inodes kept put is is_block =
    let whole : length empty ≡ 512 * small_sectors = blank.whole in
    let same : length one ≡ length empty = ap length put0 ∙ length-overlaid empty (512 * 0) superblock (omega arith) in
    let size : length two ≡ 512 * small_sectors = omega arith in
    let n : length block ≡ 4096 = is_block.whole in
    let at = λ (sector : ℕ) (h : sector < 320). ap (λ (xs : List ℕ). sector_of xs sector) put ∙ in_front two block sector size n h in
    let at0 : sector_of image 0 ≡ superblock =
    at 0 (omega arith) ∙ inodes.superblock ∙ ap (λ (xs : List ℕ). sector_of xs 0) put0 ∙ sector_of-overlaid-there empty 0 superblock s (omega arith) in
    let there : slice_range image 163840 167936 ≡ block =
    ap (λ (xs : List ℕ). slice_range xs 163840 167936) put ∙ slice_range-overlaid-there two 163840 block 167936 (omega arith) (omega arith) in
    record {
      whole = ap length put ∙ length-overlaid two 163840 block (omega arith) ∙ size;
      superblock = subst (λ (xs : List ℕ). IsSmallSuperblock xs) (sym at0) is;
      root = subst (λ (xs : List ℕ). IsBlockDirectoryInode xs 128 40) (sym (at 128 (omega arith))) inodes.root;
      detached = subst (λ (xs : List ℕ). IsSmallDirectory xs 129 0 empty_form) (sym (at 129 (omega arith))) inodes.detached;
      files = λ number from to. subst (λ (xs : List ℕ). IsSmallRegular xs number) (sym (at number (omega arith))) (inodes.files number from to);
      block = subst (λ (xs : List ℕ). IsRootBlock xs) (sym there) is_block;
    }

-- the block lies in the image
pub block_fits : (empty one two block : List ℕ) → length empty ≡ 512 * small_sectors → length one ≡ length empty → length two ≡ length one → length block ≡ 4096 → 163840 + length block ≤ length two
block_fits empty one two block e o t b = omega arith
