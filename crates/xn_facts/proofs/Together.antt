-- The facts of an inode from what is seen of it, over a store's image, where it is told.
use Rattle.std.proofs.Common.{◌≡◌, ◌⊎◌, ℕ, List, Option, Some, None, map, sym, subst, ◌∙◌}
use Rattle.std.specs.Prelude.{◌↔◌, IfSome, IsTrue}
use Rattle.xn_bytes.specs.Superblock.{Geometry}
use Rattle.xn_bytes.specs.Inode.{inode_of}
use Rattle.xn_bytes.specs.ParentRecords.{ParentsBreak}
use Rattle.xn_rules.specs.InodeRules.{IsOfDirectory}
use Rattle.xn_facts.specs.declared.facts.Broken.{Broken}
use Rattle.xn_facts.specs.declared.facts.Facts.{Facts}
use Rattle.xn_facts.specs.declared.own.Own.{Own}
use Rattle.xn_facts.specs.Facts.{FactsHold, IsFirstOf, StandsAlone, mapped_of}
use Rattle.xn_facts.specs.Owned.{BreaksOwnCount, OwnHolds}
use Rattle.xn_facts.specs.Seen.{AreSeenParents, BreaksDirectory, IsSeenDirectory}
use Rattle.xn_facts.specs.Verdicts.{lesser_of}
use Rattle.xn_facts.proofs.FirstOfTwo.{first_of_both, none_of_both}
use Rattle.xn_facts.proofs.Owning.{counted, known_over, runs_over}

-- which of the facts are those that the bytes of the inode say, and which rule is kept
pub record AreKept (own : Own) (of_directory of_parents : Option Broken) (facts : Facts) : Type 0 where
  pub known : facts.node.known ≡ own.known
  pub runs : facts.runs ≡ own.runs
  pub broken : facts.node.broken ≡ lesser_of of_directory (lesser_of own.broken of_parents)

module _ (g : Geometry) (facts : Facts) (inode : List ℕ) (own : Own) (of_directory of_parents : Option Broken) (kept : AreKept own of_directory of_parents facts) (mode : IsTrue facts.node.is_directory ↔ IsOfDirectory inode)
    (said : OwnHolds g inode facts.node.ino own) where
  -- where no rule is kept, none of the three is broken
  alone : (image : List ℕ) → OwnHolds g (inode_of g image facts.node.ino) facts.node.ino own → IsSeenDirectory g image facts.node.ino facts.contents of_directory
      → AreSeenParents g image facts.node.ino facts.node.parents of_parents → facts.node.broken ≡ None → StandsAlone g image facts.node.ino
  alone image there directory parents none =
      let of_all = none_of_both of_directory (lesser_of own.broken of_parents) (sym kept.broken ∙ none) in
      let of_rest = none_of_both own.broken of_parents of_all.1 in
      let listed = parents.holds of_rest.1 in
      record {
        own = listed.1.inode;
        blocks =
            counted g (inode_of g image facts.node.ino) facts.node.ino listed.1.inode
            (subst (λ (broken : Option Broken). IsFirstOf (BreaksOwnCount g (inode_of g image facts.node.ino) facts.node.ino) broken) of_rest.0 there.broken);
        directory = directory.holds of_all.0;
        parents = (listed.1.records, listed.1.parents);
      }

  together : (image : List ℕ) → inode ≡ inode_of g image facts.node.ino → IsSeenDirectory g image facts.node.ino facts.contents of_directory → AreSeenParents g image facts.node.ino facts.node.parents of_parents
      → FactsHold g image facts
  together image same directory parents =
      let there : OwnHolds g (inode_of g image facts.node.ino) facts.node.ino own = subst (λ (bytes : List ℕ). OwnHolds g bytes facts.node.ino own) same said in
      record {
        node = record {
          directory = subst (λ (bytes : List ℕ). IsTrue facts.node.is_directory ↔ IsOfDirectory bytes) same mode;
          known = rw kept.known (known_over g image facts.node.ino own.known there.known);
          parents = parents.parents;
          broken =
              rw kept.broken (first_of_both (BreaksDirectory g image facts.node.ino) (λ rule block. BreaksOwnCount g (inode_of g image facts.node.ino) facts.node.ino rule block ⊎ ParentsBreak g image facts.node.ino rule block)
              of_directory (lesser_of own.broken of_parents) directory.first
              (first_of_both (BreaksOwnCount g (inode_of g image facts.node.ino) facts.node.ino) (ParentsBreak g image facts.node.ino) own.broken of_parents there.broken parents.first));
          stands = alone image there directory parents;
        };
        contents = directory.contents;
        runs = rw kept.runs (runs_over g image facts.node.ino (map mapped_of own.runs.items) there.runs);
      }

  pub facts_over : (image : Option (List ℕ)) → IfSome image (λ x. inode ≡ inode_of g x facts.node.ino) → IfSome image (λ x. IsSeenDirectory g x facts.node.ino facts.contents of_directory)
      → IfSome image (λ x. AreSeenParents g x facts.node.ino facts.node.parents of_parents) → IfSome image (λ x. FactsHold g x facts)
  facts_over None same directory parents = tt
  facts_over (Some x) same directory parents = together x same directory parents
