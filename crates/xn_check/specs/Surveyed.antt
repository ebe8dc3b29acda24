-- What is known of an image once its live inodes were looked at one by one.
use Rattle.std.specs.Prelude.{◌↔◌, ℕ, IfSome, IsTrue, List, Option, map}
use Rattle.xn_bytes.specs.Superblock.{Geometry}
use Rattle.xn_meaning.specs.Manifests.{Manifest}
use Rattle.xn_rules.specs.Namings.{AreLive}
use Rattle.xn_rules.specs.Sound.{MapOnce}
use Rattle.xn_facts.specs.Facts.{mapped_of}
use Rattle.xn_census.specs.Census.{AreAmong, CensusHolds}
use Rattle.xn_check.specs.declared.examine.Survey.{Survey}

-- those that were looked at
abbrev pub surveyed : Survey → List ℕ
surveyed survey = map (λ node. node.ino) survey.census.nodes.items

-- They are the live ones; what was found of them holds of the image, if there is one, and rule 9 was told.
pub record IsSurvey (g : Geometry) (m : Manifest) (image : Option (List ℕ)) (survey : Survey) : Type 0 where
  pub live : AreLive g m (surveyed survey)
  pub among : AreAmong (surveyed survey) survey.census.held.items
  pub holds : IfSome image (λ x. CensusHolds g x (surveyed survey) survey.census)
  pub once : IsTrue survey.is_mapped_once ↔ MapOnce (surveyed survey) (map mapped_of survey.census.runs.items)
