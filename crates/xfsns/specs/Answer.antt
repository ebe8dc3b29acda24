-- What the commands are, how their ends are answered, and what a fault of reading comes from.
use Rattle.std.specs.Prelude.{◌≡◌, ◌⊎◌, ℕ, ◌+◌, ◌*◌, ◌≤◌, List, [], length, Option, IfSome, IsSomeAnd}
use Rattle.xn_meaning.specs.declared.status.Status.{Status}
use Rattle.xn_meaning.specs.declared.status.Status.TheVariants.{Done, Usage, Image, Manifest as BadManifest, ReadFault, SayFault, Memory, Long}
use Rattle.xn_meaning.specs.Manifests.{Manifest}
use Rattle.xn_bytes.specs.Causes.{Rose}
use Rattle.xn_bytes.specs.Superblock.{Geometry}
use Rattle.xn_meaning.specs.Words.{AsksList, AsksResolve, AsksParents}
use Rattle.xn_meaning.specs.Paths.{parts_of}
use Rattle.xn_meaning.specs.NameSpace.{End}
use Rattle.xn_bytes.specs.Inode.{inode_of}
use Rattle.xn_bytes.specs.Costs.{list_cost}
use Rattle.xn_meaning.specs.Reading.{ListEnds, ResolveEnds, ParentsEnd, IsAttached}
use Rattle.xn_rules.specs.Checking.{CheckEnds}
use Rattle.xn_rules.specs.Outcome.{AsksToRead, HasManifest, IsManifestIn, end_status, end_text, geometry_in}
use Rattle.xn_text.specs.declared.words.Words.{Words}
use Rattle.xn_text.specs.declared.words.Words.TheVariants as commands
use Rattle.xn_attr.specs.Costs.{list_most}
use Rattle.xn_ns.specs.Costs.{CostsAtMost}
use Rattle.xfsns.specs.declared.answer.Fault.{Fault}
use Rattle.xfsns.specs.declared.answer.Fault.TheVariants as faults

-- ---- the commands

-- how a command ends over an image, by its geometry and its manifest
abbrev pub EndsWith : Words → Geometry → Manifest → List ℕ → End → Type 0
EndsWith (commands.List ino) g m = ListEnds g m ino
EndsWith (commands.Resolve path) g m = ResolveEnds g m path
EndsWith (commands.Parents ino) g m = ParentsEnd g m ino
EndsWith commands.Check g m = CheckEnds g m

-- What a command that looks at a part of an image reads of it, once the superblock is read: for a list a look at the inode, and, where it is that of
-- an attached directory, what the list costs; for a walk, by a bound on each look-up, one look and one look-up for each part.
abbrev pub ReadsAtMost : Words → Geometry → Manifest → List ℕ → ℕ → ℕ → Type 0
ReadsAtMost (commands.List ino) g m image before now =
    (now ≤ before + 1 + list_cost (inode_of g image ino)) × (¬ IsAttached g m (inode_of g image ino) ino → now ≤ before + 1)
ReadsAtMost (commands.Resolve path) g m image before now = (most : ℕ) → CostsAtMost g m image path most → now ≤ before + (1 + most) * length (parts_of path)
ReadsAtMost (commands.Parents ino) g m image before now = now ≤ before + list_most (inode_of g image ino)
ReadsAtMost commands.Check g m image before now = Unit {0}

-- the same with the read of the superblock, where an image is told
abbrev pub ListReads : Option (List ℕ) → ℕ → ℕ → ℕ → Type 0
ListReads image ino before now = IfSome image (λ x. now ≤ before + 2 + list_cost (inode_of (geometry_in x) x ino))

-- an inode that is no attached directory, by the manifest that a text is
abbrev pub IsRefused : List ℕ → List ℕ → ℕ → Type 0
IsRefused text x ino = (m : Manifest) → IsManifestIn text m → ¬ IsAttached (geometry_in x) m (inode_of (geometry_in x) x ino) ino

abbrev pub RefusedReads : Option (List ℕ) → Option (List ℕ) → ℕ → ℕ → ℕ → Type 0
RefusedReads manifest image ino before now = IfSome manifest (λ text. IfSome image (λ x. IsRefused text x ino → now ≤ before + 2))

-- each look-up of the walk of a path costs so much at most, by the manifest that a text is
abbrev pub WalkCosts : List ℕ → List ℕ → List ℕ → ℕ → Type 0
WalkCosts text x path most = (m : Manifest) → IsManifestIn text m → CostsAtMost (geometry_in x) m x path most

abbrev pub ResolveReads : Option (List ℕ) → Option (List ℕ) → List ℕ → ℕ → ℕ → Type 0
ResolveReads manifest image path before now =
    IfSome manifest (λ text. IfSome image (λ x. (most : ℕ) → WalkCosts text x path most → now ≤ before + 1 + (1 + most) * length (parts_of path)))

abbrev pub ParentsReads : Option (List ℕ) → ℕ → ℕ → ℕ → Type 0
ParentsReads image ino before now = IfSome image (λ x. now ≤ before + 1 + list_most (inode_of (geometry_in x) x ino))

-- what a command reads over a manifest and an image, where they are told
abbrev pub CommandReads : Words → Option (List ℕ) → Option (List ℕ) → ℕ → ℕ → Type 0
CommandReads (commands.List ino) manifest image before now = ListReads image ino before now × RefusedReads manifest image ino before now
CommandReads (commands.Resolve path) manifest image before now = ResolveReads manifest image path before now
CommandReads (commands.Parents ino) manifest image before now = ParentsReads image ino before now
CommandReads commands.Check manifest image before now = Unit {0}

-- The reads of a call, by its words.
pub record ReadsFor (words : List (List ℕ)) (manifest image : Option (List ℕ)) (before now : ℕ) : Type 0 where
  pub list : (ino : ℕ) → AsksList words ino → ListReads image ino before now
  pub refused : (ino : ℕ) → AsksList words ino → RefusedReads manifest image ino before now
  pub resolve : (path : List ℕ) → AsksResolve words path → ResolveReads manifest image path before now
  pub parents : (ino : ℕ) → AsksParents words ino → ParentsReads image ino before now

-- ---- the answers

-- the status and the text of the end that there was
abbrev pub IsAnswerTo : Option End → Status → List ℕ → Type 0
IsAnswerTo ended status text = IsSomeAnd ended (λ end. (status ≡ end_status end) × (text ≡ end_text end))

-- it is an answer over an image
abbrev pub IsOfImage : Status → Type 0
IsOfImage status = (status ≡ Done) ⊎ (status ≡ Image)

-- an answer for which the manifest was read to its end: nothing is left of it
abbrev pub IsOfWhole : Status → Option (List ℕ) → Type 0
IsOfWhole Done left = IfSome left (λ rest. rest ≡ [])
IsOfWhole Image left = IfSome left (λ rest. rest ≡ [])
IsOfWhole BadManifest left = IfSome left (λ rest. rest ≡ [])
IsOfWhole Usage left = Unit {0}
IsOfWhole ReadFault left = Unit {0}
IsOfWhole SayFault left = Unit {0}
IsOfWhole Memory left = Unit {0}
IsOfWhole Long left = Unit {0}

-- the count of read faults rose: of the machine, where the manifest is one, or of the manifest's source
abbrev pub ReadRose : Option (List ℕ) → ℕ → ℕ → ℕ → ℕ → Type 0
ReadRose manifest before now source_before source_now = (Rose before now × HasManifest manifest) ⊎ Rose source_before source_now

-- A read that failed: a count rose, and the words ask for something that is read. Want of memory has no cause.
abbrev pub HasReadCause : List (List ℕ) → Option (List ℕ) → ℕ → ℕ → ℕ → ℕ → Fault → Type 0
HasReadCause words manifest before now source_before source_now faults.Memory = Unit {0}
HasReadCause words manifest before now source_before source_now faults.Read = AsksToRead words × ReadRose manifest before now source_before source_now
