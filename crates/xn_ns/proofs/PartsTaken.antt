-- What comes of one part of a path, by what a look-up of its name answers.
use Rattle.std.proofs.Common.{◌≡◌, ℕ, List, Option, Some, None, Ok, Err, refl, sym, ap, subst, arith, inl, inr}
use Rattle.std.specs.Prelude.{◌⊎◌, ◌≤◌, IfSome, MatchResult, Result}
use Rattle.std.proofs.lemmas.Result.{IfErr-weaker}
use Rattle.xn_bytes.specs.Causes.{Rose}
use Rattle.xn_bytes.specs.Names.{IsName}
use Rattle.xn_bytes.specs.Superblock.{Geometry}
use Rattle.xn_bytes.specs.Inode.{inode_of}
use Rattle.xn_bytes.specs.DirectoryRules.{HasInode, FailsBlocks}
use Rattle.xn_meaning.specs.Manifests.{Manifest}
use Rattle.xn_meaning.specs.NameSpace.{Place as Reached, Step as Taken, part_error}
use Rattle.xn_meaning.specs.Reading.{TakesPart, TakesInImage, IsDirectoryIn, RestsOnAll, RestsOnOne}
use Rattle.xn_inode.specs.declared.fork_fault.ForkFault.{ForkFault}
use Rattle.xn_inode.specs.declared.fork_fault.ForkFault.TheVariants as forks
use Rattle.xn_dir.specs.declared.entry.Entry.{Entry}
use Rattle.xn_dir.specs.Faults.{IsFaultOver}
use Rattle.xn_dir.specs.Finding.{FindsOver, StandsOver}
use Rattle.xn_meaning.specs.declared.errno.Errno.TheVariants.{ENOENT}
use Rattle.xn_bytes.specs.declared.kind.Kind.TheVariants.{Dir}
use Rattle.xn_ns.specs.declared.sight.Sight.{Sight}
use Rattle.xn_ns.specs.declared.sight.Sight.TheVariants as sights
use Rattle.xn_ns.specs.Sights.{IsSightOf}
use Rattle.xn_ns.specs.declared.walk.Step.{Step}
use Rattle.xn_ns.specs.declared.walk.Step.TheVariants as steps
use Rattle.xn_ns.specs.declared.fault.SeeFault.{SeeFault}
use Rattle.xn_ns.specs.declared.fault.SeeFault.TheVariants as see
use Rattle.xn_ns.specs.Ends.{see_fault_in}
use Rattle.xn_ns.specs.Steps.{IsTaken, step_of, taken_of}

abbrev reached : Entry → Reached
reached entry = record { ino = entry.ino; kind = entry.kind }

abbrev IsPartTaken : Geometry → Option (List ℕ) → ℕ → List ℕ → ℕ → ℕ → Result Step SeeFault → Type 0
IsPartTaken g image dir part before now result = IsTaken (λ x. TakesPart g x dir part) image before now result

-- the part is no name
pub not_a_name : (g : Geometry) (image : Option (List ℕ)) (dir : ℕ) (part : List ℕ) (before now : ℕ) (result : Result Step SeeFault)
    → MatchResult result (λ step. ¬ IsName part × (step ≡ steps.Refused (part_error part))) (λ error. error ≡ see.Memory) → IsPartTaken g image dir part before now result
not_a_name g None dir part before now (Ok step) which = record { takes = tt; cause = tt }
not_a_name g (Some x) dir part before now (Ok step) which = record { takes = inl (which.0, ap step_of which.1); cause = tt }
not_a_name g image dir part before now (Err fault) which =
    let memory : IsPartTaken g image dir part before now (Err see.Memory) = record { takes = tt; cause = λ is. absurd cc } in
    subst (λ (error : SeeFault). IsPartTaken g image dir part before now (Err error)) (sym which) memory

-- what stands in the directory stands there for the walk
rests_on_found : (g : Geometry) (x : List ℕ) (dir : ℕ) (part : List ℕ) (entry : Entry) → StandsOver g x dir part (Some entry) → RestsOnAll g x dir part (Some (reached entry)) ⊎ RestsOnOne g x dir part (Some (reached entry))
rests_on_found g x dir part entry (inl all) =
    inl (record {
      entries = all.entries;
      dotdot = all.dotdot;
      stand = all.stand;
      there = (entry.position, all.there);
      indexed = λ is. (entry.position, all.indexed is);
    })
rests_on_found g x dir part entry (inr (blocks, stands)) = inr (blocks, (entry.position, stands))

rests_on_none : (g : Geometry) (x : List ℕ) (dir : ℕ) (part : List ℕ) → StandsOver g x dir part None → RestsOnAll g x dir part None ⊎ RestsOnOne g x dir part None
rests_on_none g x dir part (inl all) = inl (record { entries = all.entries; dotdot = all.dotdot; stand = all.stand; there = tt; indexed = all.indexed })
rests_on_none g x dir part (inr (blocks, nothing)) = inr (blocks, tt)

-- an entry has the name
pub entry_found : (g : Geometry) (image : Option (List ℕ)) (dir : ℕ) (part : List ℕ) (before now : ℕ) (entry : Entry) → IsName part → IfSome image (λ x. HasInode g (inode_of g x dir) dir) → IfSome image (λ x. FindsOver g x dir part (Some entry))
    → IfSome image (λ x. StandsOver g x dir part (Some entry)) → IsPartTaken g image dir part before now (Ok (steps.Goes (record { ino = entry.ino; kind = entry.kind })))
entry_found g None dir part before now entry name inode finds stands = record { takes = tt; cause = tt }
entry_found g (Some x) dir part before now entry name inode finds stands = record {
  takes = inr (
    name,
    inr (
      Some (reached entry),
      refl,
      record {
        inode = inode;
        rests = rests_on_found g x dir part entry stands;
        among = λ entries dotdot holds. (entry.position, finds entries dotdot holds);
      },
    ),
  );
  cause = tt;
}

-- none has it
pub none_found : (g : Geometry) (image : Option (List ℕ)) (dir : ℕ) (part : List ℕ) (before now : ℕ) → IsName part → IfSome image (λ x. HasInode g (inode_of g x dir) dir) → IfSome image (λ x. FindsOver g x dir part None)
    → IfSome image (λ x. StandsOver g x dir part None) → IsPartTaken g image dir part before now (Ok (steps.Refused ENOENT))
none_found g None dir part before now name inode finds stands = record { takes = tt; cause = tt }
none_found g (Some x) dir part before now name inode finds stands = record {
  takes = inr (name, inr (None, refl, record { inode = inode; rests = rests_on_none g x dir part stands; among = finds }));
  cause = tt;
}

-- the look-up gave up
pub look_up_fails : (g : Geometry) (image : Option (List ℕ)) (dir : ℕ) (part : List ℕ) (before now : ℕ) (fault : ForkFault) → IsName part → IsFaultOver FailsBlocks g dir image before now fault → IsPartTaken g image dir part before now (Err (see_fault_in dir fault))
look_up_fails g image dir part before now forks.Read name rose = record { takes = tt; cause = λ _. rose }
look_up_fails g image dir part before now forks.Memory name free = record { takes = tt; cause = λ is. absurd cc }
look_up_fails g None dir part before now (forks.Broken rule block) name breaks = record { takes = tt; cause = λ is. absurd cc }
look_up_fails g (Some x) dir part before now (forks.Broken rule block) name breaks = record { takes = inr (name, inl (rule, block, refl, breaks)); cause = λ is. absurd cc }

-- ---- from a place

weaker : (o : Option Taken) (image : Option (List ℕ)) (P Q : List ℕ → Taken → Type 0) → IfSome image (λ x. (step : Taken) → P x step → Q x step) → IfSome o (λ step. IfSome image (λ x. P x step)) → IfSome o (λ step. IfSome image (λ x. Q x step))
weaker None image P Q on takes = tt
weaker (Some step) None P Q on takes = tt
weaker (Some step) (Some x) P Q on takes = on step takes

pub rose_before : (before middle now : ℕ) → before ≤ middle → Rose middle now → Rose before now
rose_before before middle now later rose = omega (arith, later, rose)

pub directory_seen : (g : Geometry) (m : Manifest) (image : Option (List ℕ)) (ino : ℕ) (seen : Sight) → IfSome image (λ x. IsSightOf g m (inode_of g x ino) ino seen) → (seen ≡ sights.Detached) ⊎ (seen ≡ sights.Attached)
    → IfSome image (λ x. IsDirectoryIn g m x ino)
directory_seen g m None ino seen is which = tt
directory_seen g m (Some x) ino seen is (inl detached) = (rw detached at is).directory
directory_seen g m (Some x) ino seen is (inr attached) = (rw attached at is).directory

from_directory : (g : Geometry) (m : Manifest) (image : Option (List ℕ)) (here : Reached) (part : List ℕ) → here.kind ≡ Dir → IfSome image (λ x. IsDirectoryIn g m x here.ino)
    → IfSome image (λ x. (step : Taken) → TakesPart g x here.ino part step → TakesInImage g m x here part step)
from_directory g m None here part dir directory = tt
from_directory g m (Some x) here part dir directory = λ step takes. inr (inr (dir, directory, takes))

-- a part is taken from a place as from its directory
pub taken_from : (g : Geometry) (m : Manifest) (image : Option (List ℕ)) (here : Reached) (part : List ℕ) (before middle now : ℕ) (result : Result Step SeeFault) → here.kind ≡ Dir → IfSome image (λ x. IsDirectoryIn g m x here.ino) → before ≤ middle
    → IsPartTaken g image here.ino part middle now result → IsTaken (λ x. TakesInImage g m x here part) image before now result
taken_from g m image here part before middle now result dir directory later taken = record {
  takes = weaker (taken_of result) image (λ x. TakesPart g x here.ino part) (λ x. TakesInImage g m x here part) (from_directory g m image here part dir directory) taken.takes;
  cause = IfErr-weaker result _ _ (λ fault rose is. rose_before before middle now later (rose is)) taken.cause;
}
