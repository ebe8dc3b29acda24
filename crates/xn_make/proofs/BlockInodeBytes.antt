-- The inode of a directory in block form.
use Rattle.std.proofs.Common.{◌≡◌, ℕ, ◌+◌, ◌-◌, ◌*◌, ◌/◌, ◌%◌, ◌^◌, ◌<◌, List, [], ◌∷◌, ◌++◌, drop, refl, sym, ap, subst, ◌∙◌, arith, inl, inr, lit<, lit≤}
use Rattle.std.proofs.lemmas.Nat.{div-mul-add, mod-mul-add}
use Rattle.std.proofs.lemmas.List.{length-append}
use Rattle.byteorder.specs.Numbers.{big_number-reads_back}
use Rattle.xn_bytes.specs.Numbers.{number_at}
use Rattle.xn_bytes.specs.Checksum.{HasChecksum}
use Rattle.xn_bytes.specs.Inode.{HasForks, CoreHolds, data_fork_of}
use Rattle.xn_bytes.specs.Extents.{Run, AreRecords, run_in, runs_in}
use Rattle.xn_bytes.specs.DirectoryForms.{data_runs_of}
use Rattle.xn_make.specs.SpelledInodes.{inode_bytes, extent_bytes, IsInodeSpelled}
use Rattle.xn_make.specs.declared.inodes.CoreNumbers.{CoreNumbers}
use Rattle.xn_make.specs.Images.{block_directory_core, IsBlockDirectoryInode}
use Rattle.xn_make.proofs.InodeBytes.{length-inode, has_core, attributes, generation}

abbrev pub block_numbers : ℕ → CoreNumbers
block_numbers number = record { number = number; mode = 0x4000; format = 2; links = 2; size = 4096; block_count = 1; extent_count = 1; generation = number - 127 }

fields : (number block checksum : ℕ) → number < 2 ^ 32 → CoreHolds (inode_bytes (block_numbers number) (extent_bytes block) checksum) (block_directory_core number)
unfolding number_at
fields number block checksum small = record {
  kind = refl;
  permissions = refl;
  nlink = refl;
  size = refl;
  nblocks = refl;
  generation = sym (generation (block_numbers number) checksum (extent_bytes block) (omega arith));
  fork_offset = refl;
  data_format = refl;
  attr_format = refl;
  large_counts = refl;
  data_extents = refl;
  attr_extents = refl;
}

forks : (number block checksum : ℕ) → HasForks (inode_bytes (block_numbers number) (extent_bytes block) checksum)
unfolding number_at
forks number block checksum = record {
  kind = refl;
  offset = omega (arith, length-inode (block_numbers number) checksum (extent_bytes block) (lit≤ tt));
  directory = λ e. inr refl;
  attribute = λ e. inl refl;
}

-- the record in the data fork
fork_is : (number block checksum : ℕ) → data_fork_of (inode_bytes (block_numbers number) (extent_bytes block) checksum) ≡ extent_bytes block ++ drop 16 (data_fork_of (inode_bytes (block_numbers number) (extent_bytes block) checksum))
unfolding number_at
fork_is number block checksum = refl

upper : (block : ℕ) (rest : List ℕ) → number_at 8 0 (extent_bytes block ++ rest) ≡ 0
unfolding number_at
upper block rest = refl

lower : (block : ℕ) (rest : List ℕ) → block < 2 ^ 43 → number_at 8 8 (extent_bytes block ++ rest) ≡ block * 2 ^ 21 + 1
unfolding number_at
lower block rest small = big_number-reads_back 8 (block * 2 ^ 21 + 1) rest (omega arith)

one_run : (block : ℕ) (rest : List ℕ) → block < 2 ^ 43 → run_in (extent_bytes block ++ rest) ≡ record { file_block = 0; block = block; count = 1 }
one_run block rest small =
    let low = lower block rest small in
    let high = upper block rest in
    let b : (block * 2 ^ 21 + 1) / 2 ^ 21 ≡ block = div-mul-add block (2 ^ 21) 1 (lit< tt) in
    let n : (block * 2 ^ 21 + 1) % 2 ^ 21 ≡ 1 = mod-mul-add block (2 ^ 21) 1 (lit< tt) in
    let R : ℕ → ℕ → Run = λ (x : ℕ) (y : ℕ). record { file_block = x / 2 ^ 9 % 2 ^ 54; block = x % 2 ^ 9 * 2 ^ 43 + y / 2 ^ 21; count = y % 2 ^ 21 } in
    let S : ℕ → ℕ → Run = λ (x : ℕ) (y : ℕ). record { file_block = 0; block = 0 + x; count = y } in
    ap (λ (x : ℕ). R x (number_at 8 8 (extent_bytes block ++ rest))) high ∙ ap (R 0) low ∙ ap (λ (x : ℕ). S x ((block * 2 ^ 21 + 1) % 2 ^ 21)) b ∙ ap (S block) n ∙ ap (λ (x : ℕ). record { file_block = 0; block = x; count = 1 }) (let e : 0 + block ≡ block = omega arith in e)

runs : (number block checksum : ℕ) → block < 2 ^ 43 → data_runs_of (inode_bytes (block_numbers number) (extent_bytes block) checksum) ≡ record { file_block = 0; block = block; count = 1 } ∷ []
unfolding number_at runs_in
runs number block checksum small =
    let rest = drop 16 (data_fork_of (inode_bytes (block_numbers number) (extent_bytes block) checksum)) in
    ap (λ (run : Run). run ∷ []) (one_run block rest small)

records : (number block checksum : ℕ) → block < 2 ^ 43 → AreRecords 1 0 (data_fork_of (inode_bytes (block_numbers number) (extent_bytes block) checksum))
records number block checksum small =
    let inode = inode_bytes (block_numbers number) (extent_bytes block) checksum in
    let rest = drop 16 (data_fork_of inode) in
    let P : List ℕ → Type 0 = λ (xs : List ℕ). AreRecords 1 0 xs in
    let one = one_run block rest small in
    let high : number_at 8 0 (extent_bytes block ++ rest) ≡ 0 = upper block rest in
    subst P (sym (fork_is number block checksum)) (
      record {
        whole = omega (arith, length-append (extent_bytes block) rest);
        unflagged = ap (λ (x : ℕ). x / 2 ^ 63) high;
        some = subst (λ (run : Run). 0 < run.count) (sym one) (lit< tt);
        behind = omega arith;
      },
      tt,
    )

pub block_inode : (inode : List ℕ) (number block : ℕ) → IsInodeSpelled inode (block_numbers number) (extent_bytes block) → HasChecksum inode 100 → number < 2 ^ 32 → block < 2 ^ 43
    → IsBlockDirectoryInode inode number block
block_inode inode number block spelled h small low =
    let checksum = spelled.0 in
    let core = block_numbers number in
    let P : List ℕ → Type 0 = λ (xs : List ℕ). IsBlockDirectoryInode xs number block in
    let Q : List ℕ → Type 0 = λ (xs : List ℕ). HasChecksum xs 100 in
    subst P (sym spelled.1) (record {
      core = has_core core checksum (extent_bytes block) (lit≤ tt) (omega arith) (subst Q spelled.1 h);
      fields = fields number block checksum small;
      forks = forks number block checksum;
      records = records number block checksum low;
      runs = runs number block checksum low;
      attributes = attributes core checksum (extent_bytes block) (lit≤ tt);
    })
