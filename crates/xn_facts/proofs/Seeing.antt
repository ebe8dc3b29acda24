-- What is seen of an inode's blocks is all that there is to see: where something is held no rule is broken, and where one is broken
-- nothing is held, and it is the first.
use Rattle.std.proofs.Common.{◌≡◌, ℕ, List, Option, Some, None, Result, Ok, Err, map}
use Rattle.std.specs.Prelude.{IfSome, MatchResult}
use Rattle.std.specs.Global.{Vec}
use Rattle.std.specs.Result.{result_ok, result_err}
use Rattle.xn_bytes.specs.Superblock.{Geometry}
use Rattle.xn_bytes.specs.Inode.{inode_of}
use Rattle.xn_bytes.specs.DirectoryRules.{DirBreaks}
use Rattle.xn_bytes.specs.ParentRecords.{ListsParents, ParentsBreak}
use Rattle.xn_dir.specs.Listings.{entry_of}
use Rattle.xn_items.specs.declared.parent.ParentRec.{ParentRec}
use Rattle.xn_items.specs.Viewed.{record_of}
use Rattle.xn_rules.specs.InodeRules.{IsOfDirectory}
use Rattle.xn_verdicts.proofs.OneRule.{one_rule, holds_or_breaks}
use Rattle.xn_verdicts.proofs.OneParents.{parents_one_rule, parents_or_break}
use Rattle.xn_facts.specs.declared.facts.Broken.{Broken}
use Rattle.xn_facts.specs.declared.facts.Contents.{Contents}
use Rattle.xn_facts.specs.Facts.{AreContents}
use Rattle.xn_facts.specs.Seen.{AreSeenParents, BreaksDirectory, IsSeenDirectory}
use Rattle.xn_facts.proofs.FirstOfTwo.{first_alone}

-- ---- a directory

abbrev IsVerdict : Geometry → List ℕ → ℕ → Result Contents Broken → Type 0
IsVerdict g image dir verdict = MatchResult verdict (AreContents g image dir) (λ broken. DirBreaks g image dir broken.rule broken.block)

directory_seen : (g : Geometry) (image : List ℕ) (dir : ℕ) (verdict : Result Contents Broken) → IsOfDirectory (inode_of g image dir) → IsVerdict g image dir verdict
    → IsSeenDirectory g image dir (result_ok verdict) (result_err verdict)
directory_seen g image dir (Ok contents) is are = record {
  contents = are;
  first = λ rule block breaks. holds_or_breaks g image dir (map entry_of contents.entries.items) contents.dotdot rule block are.held.inode are.held.holds are.held.names breaks.1;
  holds = λ none of_directory. (map entry_of contents.entries.items, contents.dotdot, are.held);
}
directory_seen g image dir (Err broken) is breaks = record {
  contents = λ entries dotdot held. holds_or_breaks g image dir entries dotdot broken.rule broken.block held.inode held.holds held.names breaks;
  first = first_alone (BreaksDirectory g image dir) broken (λ r s b c one other. one_rule g image dir r s b c one.1 other.1) (is, breaks);
  holds = λ none. absurd cc;
}

-- over a store's image, where it is told
pub seen_over : (g : Geometry) (image : Option (List ℕ)) (dir : ℕ) (inode : List ℕ) (verdict : Result Contents Broken) → IfSome image (λ x. inode ≡ inode_of g x dir) → IsOfDirectory inode
    → IfSome image (λ x. IsVerdict g x dir verdict) → IfSome image (λ x. IsSeenDirectory g x dir (result_ok verdict) (result_err verdict))
seen_over g None dir inode verdict same is told = tt
seen_over g (Some x) dir inode verdict same is told = directory_seen g x dir verdict (rw same at is) told

-- ---- parent records

abbrev IsListed : Geometry → List ℕ → ℕ → Result (Vec ParentRec) Broken → Type 0
IsListed g image ino verdict =
    MatchResult verdict (λ parents. ListsParents g image ino (map record_of parents.items)) (λ broken. ParentsBreak g image ino broken.rule broken.block)

parents_seen : (g : Geometry) (image : List ℕ) (ino : ℕ) (verdict : Result (Vec ParentRec) Broken) → IsListed g image ino verdict → AreSeenParents g image ino (result_ok verdict) (result_err verdict)
parents_seen g image ino (Ok parents) lists = record {
  parents = lists;
  first = λ rule block breaks. parents_or_break g image ino lists.records rule block lists.inode lists.parents breaks;
  holds = λ none. (map record_of parents.items, lists);
}
parents_seen g image ino (Err broken) breaks = record {
  parents = λ records own parents. parents_or_break g image ino records broken.rule broken.block own parents breaks;
  first = first_alone (ParentsBreak g image ino) broken (λ r s b c one other. (parents_one_rule g image ino r s b c one other).0) breaks;
  holds = λ none. absurd cc;
}

-- over a store's image, where it is told
pub parents_over : (g : Geometry) (image : Option (List ℕ)) (ino : ℕ) (verdict : Result (Vec ParentRec) Broken) → IfSome image (λ x. IsListed g x ino verdict)
    → IfSome image (λ x. AreSeenParents g x ino (result_ok verdict) (result_err verdict))
parents_over g None ino verdict told = tt
parents_over g (Some x) ino verdict told = parents_seen g x ino verdict told
