-- What the program answers: one relation from its words, the manifest and the image to its status and what it tells.
use Rattle.std.specs.Prelude.{◌≡◌, ◌⊎◌, ℕ, ◌/◌, ◌<◌, ◌≤◌, List, [], ◌++◌, length, take, Option, Some, None, IfSome, MatchOption}
use Rattle.xn_meaning.specs.declared.status.Status.{Status}
use Rattle.xn_meaning.specs.declared.status.Status.TheVariants.{Done, Usage, Image, Manifest as BadManifest, ReadFault, SayFault, Memory, Long}
use Rattle.xn_bytes.specs.Numbers.{sector_of}
use Rattle.xn_bytes.specs.Causes.{Rose}
use Rattle.xn_bytes.specs.Superblock.{Geometry, geometry_of, IsSuperblock}
use Rattle.xn_meaning.specs.Words.{AsksList, AsksResolve, AsksParents, AsksCheck, AsksNothing}
use Rattle.xn_meaning.specs.Replies.{usage_line, image_line, manifest_line, reply_text, summary_line}
use Rattle.xn_meaning.specs.Manifests.{Manifest, HasPlaces, IsManifest, IsTextOf, IsFirstBadLine, most_bytes}
use Rattle.xn_meaning.specs.NameSpace.{End, Says, Sums, Breaks}
use Rattle.xn_meaning.specs.Reading.{ListEnds, ResolveEnds, ParentsEnd}
use Rattle.xn_rules.specs.Checking.{CheckEnds}

-- ---- the image

-- the geometry that sector 0 of an image says
abbrev pub geometry_in : List ℕ → Geometry
geometry_in image = geometry_of (sector_of image 0)

-- the superblock in sector 0 is accepted
abbrev pub HasSuperblock : List ℕ → Type 0
HasSuperblock image = IsSuperblock (sector_of image 0) (length image / 512)

-- ---- the answers

-- the status with which the end of a command is told
abbrev pub end_status : End → Status
end_status (Says reply) = Done
end_status (Sums summary) = Done
end_status (Breaks inode rule block) = Image

-- and the text
abbrev pub end_text : End → List ℕ
end_text (Says reply) = reply_text reply
end_text (Sums summary) = summary_line summary
end_text (Breaks inode rule block) = image_line rule inode block

-- What a command that reads answers over the image, by the manifest: that the superblock is not accepted; or else that what the
-- manifest names is not in its place; or else the end that the command has, by geometry and manifest.
abbrev pub ReadsImage : (Geometry → Manifest → List ℕ → End → Type 0) → Manifest → Option (List ℕ) → Status → List ℕ → Type 0
ReadsImage EndsWith m image status told =
    ((status ≡ Image) × (told ≡ image_line 1 0 0) × IfSome image (λ x. ¬ HasSuperblock x))
    ⊎ ((status ≡ Image) × (told ≡ image_line 2 0 0) × IfSome image (λ x. HasSuperblock x × ¬ HasPlaces (geometry_in x) m))
    ⊎ ((end : End) × (status ≡ end_status end) × (told ≡ end_text end)
    × IfSome image (λ x. HasSuperblock x × HasPlaces (geometry_in x) m × EndsWith (geometry_in x) m x end))

-- the manifest's bytes are few enough, and the text of this manifest
pub record IsManifestIn (text : List ℕ) (m : Manifest) : Type 0 where
  pub few : length text ≤ most_bytes
  pub is_text : IsTextOf text m

-- What is answered where it is none: it has too many bytes, or a line that is outside its grammar, of which the first is told.
abbrev pub RefusesManifest : Option (List ℕ) → Status → List ℕ → Type 0
RefusesManifest manifest status told =
    ((status ≡ Long) × (told ≡ []) × IfSome manifest (λ text. most_bytes < length text))
    ⊎ ((number : ℕ) × (0 < number) × (status ≡ BadManifest) × (told ≡ manifest_line number)
    × IfSome manifest (λ text. (length text ≤ most_bytes) × IsFirstBadLine text number))

-- What a command that reads answers: of the manifest, or else of the image. Where both are told, each answer comes exactly where
-- its cause stands.
abbrev pub Reads : (Geometry → Manifest → List ℕ → End → Type 0) → Option (List ℕ) → Option (List ℕ) → Status → List ℕ → Type 0
Reads EndsWith manifest image status told =
    RefusesManifest manifest status told
    ⊎ ((m : Manifest) × IsManifest m × IfSome manifest (λ text. IsManifestIn text m) × ReadsImage EndsWith m image status told)

-- what is answered to words that are none of the forms
pub record UsageAnswers (words : List (List ℕ)) (status : Status) (told : List ℕ) : Type 0 where
  pub nothing : AsksNothing words
  pub is_usage : status ≡ Usage
  pub line : told ≡ usage_line

-- What the program answers to words over a manifest and an image, where these are told.
abbrev pub Answers : List (List ℕ) → Option (List ℕ) → Option (List ℕ) → Status → List ℕ → Type 0
Answers words manifest image status told =
    UsageAnswers words status told
    ⊎ ((ino : ℕ) × AsksList words ino × Reads (λ g m. ListEnds g m ino) manifest image status told)
    ⊎ ((path : List ℕ) × AsksResolve words path × Reads (λ g m. ResolveEnds g m path) manifest image status told)
    ⊎ ((ino : ℕ) × AsksParents words ino × Reads (λ g m. ParentsEnd g m ino) manifest image status told)
    ⊎ (AsksCheck words × Reads CheckEnds manifest image status told)

-- the words ask for something that is read from the image
abbrev pub AsksToRead : List (List ℕ) → Type 0
AsksToRead words =
    ((ino : ℕ) × AsksList words ino) ⊎ ((path : List ℕ) × AsksResolve words path) ⊎ ((ino : ℕ) × AsksParents words ino) ⊎ AsksCheck words

-- ---- the outcome of a call

-- what of the outside an outcome speaks of: the image, the told bytes and what is left of the manifest, where these are known,
-- and the counts of faults
pub record Outside : Type 0 where
  pub image : Option (List ℕ)
  pub told : Option (List ℕ)
  pub manifest : Option (List ℕ)
  pub read_faults : ℕ
  pub say_faults : ℕ
  pub manifest_faults : ℕ

-- the machine and the source of the manifest seen so
abbrev pub outside_of : {M F : Type 0} → (M → Option (List ℕ)) → (M → Option (List ℕ)) → (M → ℕ) → (M → ℕ) → (F → Option (List ℕ)) → (F → ℕ) → M → F → Outside
outside_of image told read_faults say_faults left faults machine manifest = record {
  image = image machine;
  told = told machine;
  manifest = left manifest;
  read_faults = read_faults machine;
  say_faults = say_faults machine;
  manifest_faults = faults manifest;
}

-- these bytes were told, and no others
abbrev pub Tells : Outside → Outside → List ℕ → Type 0
Tells before now bytes = MatchOption before.told (now.told ≡ None) (λ told. now.told ≡ Some (told ++ bytes))

-- an answer, told whole
abbrev pub TellsAnswer : List (List ℕ) → Outside → Outside → Status → Type 0
TellsAnswer words before now status = (text : List ℕ) × Answers words before.manifest before.image status text × Tells before now text

-- an answer for which the manifest was read to its end
abbrev pub TellsOfWhole : List (List ℕ) → Outside → Outside → Status → Type 0
TellsOfWhole words before now status = TellsAnswer words before now status × IfSome now.manifest (λ left. left ≡ [])

-- a text is that of a manifest, where one is told
abbrev pub HasManifest : Option (List ℕ) → Type 0
HasManifest manifest = IfSome manifest (λ text. (m : Manifest) × IsManifestIn text m)

-- Reading failed: the words ask to read, and nothing was told. The image is read only where the manifest is one.
pub record FailsToRead (words : List (List ℕ)) (before now : Outside) : Type 0 where
  pub asks : AsksToRead words
  pub rose : (Rose before.read_faults now.read_faults × HasManifest before.manifest) ⊎ Rose before.manifest_faults now.manifest_faults
  pub silent : Tells before now []

-- Telling that failed, where there was something to tell: a front of an answer was told.
pub record FailsToSay (words : List (List ℕ)) (before now : Outside) : Type 0 where
  pub rose : Rose before.say_faults now.say_faults
  pub status : Status
  pub text : List ℕ
  pub some : 0 < length text
  pub answer : Answers words before.manifest before.image status text
  pub count : ℕ
  pub front : Tells before now (take count text)

-- How a call ends. Every status but want of memory and the two faults is an answer, told whole.
abbrev pub Outcome : List (List ℕ) → Outside → Outside → Status → Type 0
Outcome words before now Done = TellsOfWhole words before now Done
Outcome words before now Usage = TellsAnswer words before now Usage
Outcome words before now Image = TellsOfWhole words before now Image
Outcome words before now BadManifest = TellsOfWhole words before now BadManifest
Outcome words before now ReadFault = FailsToRead words before now
Outcome words before now SayFault = FailsToSay words before now
Outcome words before now Memory = Tells before now []
Outcome words before now Long = TellsAnswer words before now Long
