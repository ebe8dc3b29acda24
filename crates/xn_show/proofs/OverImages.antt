-- From the bytes of an inode to the image that shows them.
use Rattle.std.proofs.Common.{◌≡◌, ℕ, List, Option, Some, None}
use Rattle.std.specs.Prelude.{IfSome}
use Rattle.xn_bytes.specs.Superblock.{Geometry}
use Rattle.xn_bytes.specs.Inode.{inode_of}
use Rattle.xn_dir.specs.Inodes.{IsDirectory}

pub directory_over : (g : Geometry) (ino : ℕ) (image : Option (List ℕ)) (inode : List ℕ) → IfSome image (λ x. inode ≡ inode_of g x ino) → IsDirectory inode → IfSome image (λ x. IsDirectory (inode_of g x ino))
directory_over g ino None inode same is = tt
directory_over g ino (Some x) inode same is = rw same at is
