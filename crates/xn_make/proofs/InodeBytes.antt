-- The bytes that are put into an inode, read again.
use Rattle.std.proofs.Common.{◌≡◌, ℕ, ◌+◌, ◌^◌, ◌<◌, ◌≤◌, List, [], ◌++◌, length, take, drop, refl, sym, ap, subst, ◌∙◌, arith, inl, inr}
use Rattle.std.proofs.lemmas.List.{take_at, take-take, length-take, length-append, length-drop, drop-drop}
use Rattle.std.proofs.lemmas.Slice.{drop-append-drop}
use Rattle.byteorder.specs.Numbers.{big_number-reads_back}
use Rattle.xn_bytes.specs.Numbers.{number_at}
use Rattle.xn_bytes.specs.Checksum.{HasChecksum}
use Rattle.xn_bytes.specs.Inode.{HasCore, HasForks, CoreHolds, data_fork_of, attr_fork_of}
use Rattle.xn_bytes.specs.Directory.{short_bytes_of, HasShortSize}
use Rattle.xn_make.specs.Fixed.{small_uuid, no_attributes}
use Rattle.xn_make.specs.SpelledInodes.{blank_inode, inode_bytes, IsInodeSpelled, directory_numbers, file_numbers}
use Rattle.xn_make.specs.declared.inodes.CoreNumbers.{CoreNumbers}
use Rattle.xn_make.specs.Images.{directory_core, file_core, IsShortDirectory, IsEmptyFile}

-- what stands from 176 on
abbrev from_forks : List ℕ → List ℕ
from_forks fork = fork ++ drop (176 + length fork) blank_inode

pub length-inode : (core : CoreNumbers) (checksum : ℕ) (fork : List ℕ) → length fork ≤ 192 → length (inode_bytes core fork checksum) ≡ 512
length-inode core checksum fork h = omega (arith, length-append fork (drop (176 + length fork) blank_inode), length-drop (176 + length fork) blank_inode)

own_number : (core : CoreNumbers) (checksum : ℕ) (fork : List ℕ) → core.number < 2 ^ 64 → number_at 8 152 (inode_bytes core fork checksum) ≡ core.number
unfolding number_at
own_number core checksum fork h = big_number-reads_back 8 core.number (small_uuid ++ from_forks fork) h

size : (core : CoreNumbers) (checksum : ℕ) (fork : List ℕ) → core.size < 2 ^ 64 → number_at 8 56 (inode_bytes core fork checksum) ≡ core.size
unfolding number_at
size core checksum fork h = big_number-reads_back 8 core.size (drop 64 (inode_bytes core fork checksum)) h

link_count : (core : CoreNumbers) (checksum : ℕ) (fork : List ℕ) → core.links < 2 ^ 32 → number_at 4 16 (inode_bytes core fork checksum) ≡ core.links
unfolding number_at
link_count core checksum fork h = big_number-reads_back 4 core.links (drop 20 (inode_bytes core fork checksum)) h

pub generation : (core : CoreNumbers) (checksum : ℕ) (fork : List ℕ) → core.generation < 2 ^ 32 → number_at 4 92 (inode_bytes core fork checksum) ≡ core.generation
unfolding number_at
generation core checksum fork h = big_number-reads_back 4 core.generation (drop 96 (inode_bytes core fork checksum)) h

data_fork : (core : CoreNumbers) (checksum : ℕ) (fork : List ℕ) → data_fork_of (inode_bytes core fork checksum) ≡ take 192 (from_forks fork)
unfolding number_at
data_fork core checksum fork = refl

attr_fork : (core : CoreNumbers) (checksum : ℕ) (fork : List ℕ) → attr_fork_of (inode_bytes core fork checksum) ≡ drop 192 (from_forks fork)
unfolding number_at
attr_fork core checksum fork = refl

pub has_core : (core : CoreNumbers) (checksum : ℕ) (fork : List ℕ) → length fork ≤ 192 → core.number < 2 ^ 64 → HasChecksum (inode_bytes core fork checksum) 100
    → HasCore (inode_bytes core fork checksum) core.number small_uuid
unfolding number_at
has_core core checksum fork l small h = record {
  whole = omega (arith, length-inode core checksum fork l);
  magic = refl;
  version = refl;
  checksum = h;
  own_number = own_number core checksum fork small;
  own_uuid = refl;
}

pub attributes : (core : CoreNumbers) (checksum : ℕ) (fork : List ℕ) → length fork ≤ 192 → take 4 (attr_fork_of (inode_bytes core fork checksum)) ≡ no_attributes
attributes core checksum fork l =
    ap (take 4) (attr_fork core checksum fork
    ∙ ap (λ (xs : List ℕ). drop 192 (fork ++ xs)) (sym (drop-drop (length fork) 176 blank_inode))
    ∙ drop-append-drop (length fork) (drop 176 blank_inode) fork 192 l refl)

-- ---- a directory in short form

short_fields : (number age links checksum : ℕ) (form : List ℕ) → length form ≤ 192 → links < 2 ^ 32 → age < 2 ^ 32 → CoreHolds (inode_bytes (directory_numbers number age links (length form)) form checksum) (directory_core age links (length form))
unfolding number_at
short_fields number age links checksum form l few young = record {
  kind = refl;
  permissions = refl;
  nlink = sym (link_count (directory_numbers number age links (length form)) checksum form few);
  size = sym (size (directory_numbers number age links (length form)) checksum form (omega arith));
  nblocks = refl;
  generation = sym (generation (directory_numbers number age links (length form)) checksum form young);
  fork_offset = refl;
  data_format = refl;
  attr_format = refl;
  large_counts = refl;
  data_extents = refl;
  attr_extents = refl;
}

short_forks : (number age links checksum : ℕ) (form : List ℕ) → length form ≤ 192 → HasForks (inode_bytes (directory_numbers number age links (length form)) form checksum)
unfolding number_at
short_forks number age links checksum form l = record {
  kind = refl;
  offset = omega (arith, length-inode (directory_numbers number age links (length form)) checksum form l);
  directory = λ e. inl refl;
  attribute = λ e. inl refl;
}

short_bytes : (number age links checksum : ℕ) (form : List ℕ) → length form ≤ 192 → short_bytes_of (inode_bytes (directory_numbers number age links (length form)) form checksum) ≡ form
short_bytes number age links checksum form l =
    let core = directory_numbers number age links (length form) in
    let inode = inode_bytes core form checksum in
    ap (λ (n : ℕ). take n (data_fork_of inode)) (size core checksum form (omega arith))
    ∙ ap (take (length form)) (data_fork core checksum form)
    ∙ take-take (length form) 192 (from_forks form) l
    ∙ take_at form (drop (176 + length form) blank_inode) (length form) refl

short_size : (number age links checksum : ℕ) (form : List ℕ) → length form ≤ 192 → HasShortSize (inode_bytes (directory_numbers number age links (length form)) form checksum)
short_size number age links checksum form l =
    let core = directory_numbers number age links (length form) in
    let forks = from_forks form in
    omega (arith, size core checksum form (omega arith), ap length (data_fork core checksum form), length-take 192 forks, length-append form (drop (176 + length form) blank_inode))

pub short_directory_made : (inode : List ℕ) (number age links : ℕ) (form : List ℕ) → IsInodeSpelled inode (directory_numbers number age links (length form)) form → HasChecksum inode 100 → length form ≤ 192 → number < 2 ^ 64 → age < 2 ^ 32 → links < 2 ^ 32
    → IsShortDirectory inode number age links form
short_directory_made inode number age links form spelled h l small young few =
    let checksum = spelled.0 in
    let core = directory_numbers number age links (length form) in
    let P : List ℕ → Type 0 = λ (xs : List ℕ). IsShortDirectory xs number age links form in
    let Q : List ℕ → Type 0 = λ (xs : List ℕ). HasChecksum xs 100 in
    subst P (sym spelled.1) (record {
      core = has_core core checksum form l small (subst Q spelled.1 h);
      fields = short_fields number age links checksum form l few young;
      forks = short_forks number age links checksum form l;
      size = short_size number age links checksum form l;
      short_bytes = short_bytes number age links checksum form l;
      attributes = attributes core checksum form l;
      spelled = (checksum, refl);
    })

-- ---- a regular file

file_fields : (number age links checksum : ℕ) → age < 2 ^ 32 → links < 2 ^ 32 → CoreHolds (inode_bytes (file_numbers number age links) [] checksum) (file_core age links)
unfolding number_at
file_fields number age links checksum young few = record {
  kind = refl;
  permissions = refl;
  nlink = sym (link_count (file_numbers number age links) checksum [] few);
  size = refl;
  nblocks = refl;
  generation = sym (generation (file_numbers number age links) checksum [] young);
  fork_offset = refl;
  data_format = refl;
  attr_format = refl;
  large_counts = refl;
  data_extents = refl;
  attr_extents = refl;
}

file_forks : (number age links checksum : ℕ) → HasForks (inode_bytes (file_numbers number age links) [] checksum)
unfolding number_at
file_forks number age links checksum = record {
  kind = refl;
  offset = omega (arith, length-inode (file_numbers number age links) checksum [] (omega arith));
  directory = λ e. inr refl;
  attribute = λ e. inl refl;
}

pub empty_file_made : (inode : List ℕ) (number age links : ℕ) → IsInodeSpelled inode (file_numbers number age links) [] → HasChecksum inode 100 → number < 2 ^ 64 → age < 2 ^ 32 → links < 2 ^ 32
    → IsEmptyFile inode number age links
empty_file_made inode number age links spelled h small young few =
    let checksum = spelled.0 in
    let core = file_numbers number age links in
    let P : List ℕ → Type 0 = λ (xs : List ℕ). IsEmptyFile xs number age links in
    let Q : List ℕ → Type 0 = λ (xs : List ℕ). HasChecksum xs 100 in
    subst P (sym spelled.1) (record {
      core = has_core core checksum [] (omega arith) small (subst Q spelled.1 h);
      fields = file_fields number age links checksum young few;
      forks = file_forks number age links checksum;
      attributes = attributes core checksum [] (omega arith);
      spelled = (checksum, refl);
    })
