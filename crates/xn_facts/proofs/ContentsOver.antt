-- What a directory holds, over a store's image, where it is told.
use Rattle.std.proofs.Common.{◌≡◌, ℕ, List, Option, Some, None, Ok, map, sym, subst}
use Rattle.std.specs.Prelude.{◌↔◌, IfSome, IsTrue}
use Rattle.xn_bytes.specs.Superblock.{Geometry}
use Rattle.xn_bytes.specs.Inode.{inode_of}
use Rattle.xn_bytes.specs.Directory.{HasNames}
use Rattle.xn_bytes.specs.DirectoryHolds.{DirHolds, HasDotdot}
use Rattle.xn_bytes.specs.DirectoryRules.{DirBreaks, HasInode}
use Rattle.xn_inode.specs.declared.fork_fault.ForkFault.{ForkFault}
use Rattle.xn_inode.specs.declared.fork_fault.ForkFault.TheVariants.{Read, Memory, Broken}
use Rattle.xn_inode.specs.declared.store.Store.{Ghosts}
use Rattle.xn_dir.specs.Faults.{IsFaultOf}
use Rattle.xn_dir.specs.Listings.{entry_of}
use Rattle.xn_rules.specs.InodeRules.{IsOfDirectory}
use Rattle.xn_rules.specs.NameRules.{HasDot}
use Rattle.xn_verdicts.proofs.OneList.{one_dotdot}
use Rattle.xn_facts.specs.declared.facts.Broken as verdict
use Rattle.xn_facts.specs.declared.facts.Contents.{Contents}
use Rattle.xn_facts.specs.Facts.{AreContents}
use Rattle.xn_facts.specs.Verdicts.{broken_in}

-- what was read of a directory, one look behind the other
pub record AreRead (g : Geometry) (image : List ℕ) (dir : ℕ) (inode : List ℕ) (contents : Contents) : Type 0 where
  pub same : inode ≡ inode_of g image dir
  pub inode_holds : HasInode g (inode_of g image dir) dir
  pub listed : (dotdot : ℕ) × DirHolds g image dir (map entry_of contents.entries.items) dotdot
  pub dotdot : HasDotdot g image dir contents.dotdot
  pub dot : IsTrue contents.has_dot ↔ HasDot g image dir

are_contents : (g : Geometry) (image : List ℕ) (dir : ℕ) (inode : List ℕ) (contents : Contents) → IsOfDirectory inode → HasNames (map entry_of contents.entries.items) → AreRead g image dir inode contents → AreContents g image dir contents
are_contents g image dir inode contents is names read =
    let entries = map entry_of contents.entries.items in
    let one : contents.dotdot ≡ read.listed.0 = one_dotdot g image dir entries contents.dotdot read.listed.0 read.dotdot read.listed.1 in
    record {
      held = record {
        directory = rw read.same at is;
        inode = read.inode_holds;
        holds = subst (λ (dotdot : ℕ). DirHolds g image dir entries dotdot) (sym one) read.listed.1;
        names = names;
      };
      dot = read.dot;
    }

pub contents_over : (g : Geometry) (image : Option (List ℕ)) (dir : ℕ) (inode : List ℕ) (contents : Contents) → IsOfDirectory inode → HasNames (map entry_of contents.entries.items) → IfSome image (λ x. inode ≡ inode_of g x dir)
    → IfSome image (λ x. HasInode g (inode_of g x dir) dir) → IfSome image (λ x. (dotdot : ℕ) × DirHolds g x dir (map entry_of contents.entries.items) dotdot) → IfSome image (λ x. HasDotdot g x dir contents.dotdot)
    → IfSome image (λ x. IsTrue contents.has_dot ↔ HasDot g x dir) → IfSome image (λ x. AreContents g x dir contents)
contents_over g None dir inode contents is names same holds listed dotdot dot = tt
contents_over g (Some x) dir inode contents is names same holds listed dotdot dot =
    are_contents g x dir inode contents is names (record { same = same; inode_holds = holds; listed = listed; dotdot = dotdot; dot = dot })

-- the rule that a fault of a directory names
abbrev BreaksOver : Geometry → Option (List ℕ) → ℕ → verdict.Broken → Type 0
BreaksOver g image dir broken = IfSome image (λ x. DirBreaks g x dir broken.rule broken.block)

pub broken_over : {S : Type 0} (store : Ghosts S) (dir : ℕ) (old new : S) (fault : ForkFault) (broken : verdict.Broken) → Ok broken ≡ broken_in fault → IsFaultOf store dir old new fault
    → IfSome (store.image old) (λ x. DirBreaks (store.shape old) x dir broken.rule broken.block)
broken_over store dir old new Read broken is fault = absurd cc
broken_over store dir old new Memory broken is fault = absurd cc
broken_over store dir old new (Broken rule block) broken is fault = (let same : record { rule = rule; block = block } ≡ broken = cc in subst (BreaksOver (store.shape old) (store.image old) dir) same fault)
