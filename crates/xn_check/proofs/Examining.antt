-- From what was judged of an image to the first rule that is broken, or to an image of which all hold.
use Rattle.std.proofs.Common.{◌≡◌, ℕ, List, get_or, length, map, Option, Some, None, Result, Ok, Err, Bool, ◌↔◌, ◌∙◌, ap, sym}
use Rattle.std.specs.Prelude.{All, IfSome, IsPermutation, IsTrue}
use Rattle.std.proofs.lemmas.List.Elements.{Contains-get_or}
use Rattle.std.proofs.lemmas.List.Sorted.{IsPermutation-refl}
use Rattle.xn_bytes.specs.Superblock.{Geometry, IsInode}
use Rattle.xn_meaning.specs.Manifests.{Manifest, HasPlaces}
use Rattle.xn_rules.specs.Namings.{AreLive, Naming as Means}
use Rattle.xn_rules.specs.Checking.{directories_among}
use Rattle.xn_rules.specs.Sound.{Contents, MapOnce}
use Rattle.xn_facts.specs.Facts.{mapped_of}
use Rattle.xn_facts.specs.declared.facts.Node.{Node}
use Rattle.xn_bytes.specs.Extents.{Run}
use Rattle.xn_census.specs.declared.census.Census.{Census}
use Rattle.xn_census.specs.declared.sorted_out.SortedOut.{SortedOut}
use Rattle.xn_census.specs.Census.{CensusHolds}
use Rattle.xn_census.specs.SortedOut.{SortsOut}
use Rattle.xn_census.proofs.Meanings.{are_namings}
use Rattle.xn_check.specs.Judged.{IsFound, Judges, meant_by}
use Rattle.xn_check.specs.Examined.{IsExamined, Refuses}
use Rattle.xn_check.specs.declared.fault.CheckFault.{CheckFault}
use Rattle.xn_check.specs.declared.fault.CheckFault.TheVariants as faults
use Rattle.xn_check.proofs.Found.{out_holds}

-- live inodes stand in places of the image
pub live_places : (g : Geometry) (m : Manifest) (live : List ℕ) → HasPlaces g m → AreLive g m live → All (IsInode g) live
live_places g m live places are k d lt = (places.inodes (get_or live k d) ((are.each (get_or live k d)).0 (Contains-get_or live k d lt)).listed).place

module _ (g : Geometry) (m : Manifest) (live : List ℕ) (census : Census) (out : SortedOut) (are_live : AreLive g m live) (sorts : SortsOut census.nodes.items census.held.items out) where
  pub found : (image : List ℕ) → CensusHolds g image live census → IsFound g m image live census.nodes.items out
  found image holds = record {
    are_live = are_live;
    nodes_hold = holds.nodes;
    out_holds = out_holds g m image live census out are_live holds sorts;
  }

  contents : (image : List ℕ) → CensusHolds g image live census → (namings : List Means) → IsPermutation (meant_by out) namings → Contents g m image live namings (map mapped_of census.runs.items)
  contents image holds namings same = record {
    are_live = are_live;
    namings_in_turn = meant_by out;
    are_namings = are_namings g m image live census out are_live holds sorts;
    same_namings = same;
    runs_in_turn = map mapped_of census.runs.items;
    are_runs = holds.runs;
    same_runs = IsPermutation-refl (map mapped_of census.runs.items);
  }

  -- what was judged of each image that is told of
  abbrev IsJudgedOver : Result ℕ CheckFault → Type 0
  IsJudgedOver result = (manifest : Manifest) (image : List ℕ) → IsFound g manifest image live census.nodes.items out → Judges g manifest image live out (map mapped_of census.runs.items) result

  pub judged_same : (h : Geometry) (nodes : List Node) (once : Bool) (result : Result ℕ CheckFault) → h ≡ g → nodes ≡ census.nodes.items → map (λ (node : Node). node.ino) census.nodes.items ≡ live
      → (IsTrue once ↔ MapOnce live (map mapped_of census.runs.items))
      → ((manifest : Manifest) (image : List ℕ) (runs : List Run) → IsFound h manifest image (map (λ (node : Node). node.ino) nodes) nodes out
      → (IsTrue once ↔ MapOnce (map (λ (node : Node). node.ino) nodes) runs) → Judges h manifest image (map (λ (node : Node). node.ino) nodes) out runs result)
      → IsJudgedOver result
  judged_same h nodes once result same_shape same_nodes same_inodes told judged manifest image is_found =
      let inodes : map (λ (node : Node). node.ino) nodes ≡ live = ap (map (λ (node : Node). node.ino)) same_nodes ∙ same_inodes in
      let there : IsFound h manifest image (map (λ (node : Node). node.ino) nodes) nodes out = rw (inodes, same_shape, same_nodes) is_found in
      let once_there : IsTrue once ↔ MapOnce (map (λ (node : Node). node.ino) nodes) (map mapped_of census.runs.items) = rw inodes told in
      rw (sym same_shape, sym inodes) (judged manifest image (map mapped_of census.runs.items) there once_there)

  refused : (image : List ℕ) (fault : CheckFault) → CensusHolds g image live census → Judges g m image live out (map mapped_of census.runs.items) (Err fault) → Refuses g m image fault
  refused image faults.Read holds judged = tt
  refused image faults.Memory holds judged = tt
  refused image (faults.Broken rule inode block) holds judged =
      (live, judged.0, map mapped_of census.runs.items, contents image holds judged.0 judged.1, judged.2)

  pub refused_over : (image : Option (List ℕ)) (fault : CheckFault) → IfSome image (λ x. CensusHolds g x live census) → IsJudgedOver (Err fault) → IfSome image (λ x. Refuses g m x fault)
  refused_over None fault holds judged = tt
  refused_over (Some x) fault holds judged = refused x fault holds (judged m x (found x holds))

  examined : (image : List ℕ) (inodes directories entries : ℕ) → CensusHolds g image live census → inodes ≡ length live → directories ≡ directories_among g image live
      → Judges g m image live out (map mapped_of census.runs.items) (Ok entries)
      → IsExamined g m image (record { inodes = inodes; directories = directories; entries = entries; runs = census.runs })
  examined image inodes directories entries holds many some judged = record {
    live = live;
    namings = judged.0;
    sound = (contents image holds judged.0 judged.1, judged.2.0.root, judged.2.0.once, judged.2.0.stands);
    inodes = many;
    directories = some;
    entries = judged.2.1;
  }

  pub examined_over : (image : Option (List ℕ)) (inodes directories entries : ℕ) → IfSome image (λ x. CensusHolds g x live census) → inodes ≡ length live
      → ((x : List ℕ) → CensusHolds g x live census → directories ≡ directories_among g x live) → IsJudgedOver (Ok entries)
      → IfSome image (λ x. IsExamined g m x (record { inodes = inodes; directories = directories; entries = entries; runs = census.runs }))
  examined_over None inodes directories entries holds many some judged = tt
  examined_over (Some x) inodes directories entries holds many some judged = examined x inodes directories entries holds many (some x holds) (judged m x (found x holds))
