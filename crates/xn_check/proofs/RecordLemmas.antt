-- Rule 27, by the parent records in order and the records that entries ask for.
use Rattle.std.proofs.Common.{◌≡◌, ◌↔◌, ℕ, Bool, List, [], ◌∷◌, map, refl, sym, ap, subst, ◌∙◌}
use Rattle.std.specs.Prelude.{◌==◌, All, IsTrue, IsPermutation, filter}
use Rattle.std.specs.Bool.{MatchBool}
use Rattle.std.proofs.lemmas.List.Elements.{All-filter, All-head, All-same, All-tail}
use Rattle.std.proofs.lemmas.List.Sorted.{IsPermutation-sym, IsPermutation-trans}
use Rattle.xn_bytes.specs.Numbers.{number_at}
use Rattle.xn_bytes.specs.Superblock.{Geometry}
use Rattle.xn_bytes.specs.Inode.{inode_of}
use Rattle.xn_bytes.specs.Parents.{ParentRecord}
use Rattle.xn_bytes.specs.ParentRecords.{ListsParents}
use Rattle.xn_rules.specs.Namings as namings
use Rattle.xn_rules.specs.NameRules.{BreaksRecords}
use Rattle.xn_verdicts.proofs.OneParents.{one_parents}
use Rattle.xn_names.specs.declared.entry.Naming.{Naming}
use Rattle.xn_names.specs.Names.{HasOneGeneration, asked_by, naming_of}
use Rattle.xn_names.proofs.AskedRecords.{one_generation_from}
use Rattle.xn_check.specs.Known.{HasItsGeneration, HoldsRecords}
use Rattle.xn_check.proofs.RuleLemmas.{told_by}

-- ---- generations

-- those that name an inode have the generations of their directories
pub generations_among : (g : Geometry) (image : List ℕ) (ino : ℕ) (run namings items : List Naming) → run ≡ filter (λ n. n.ino == ino) namings → namings ≡ items
    → All (HasItsGeneration g image) items → All (HasItsGeneration g image) run
generations_among g image ino run namings items are same all =
    All-same (HasItsGeneration g image) run (filter (λ n. n.ino == ino) namings) are
    (All-filter (λ n. n.ino == ino) (HasItsGeneration g image) namings (All-same (HasItsGeneration g image) namings items same all))

pub one_each : (g : Geometry) (image : List ℕ) (run : List Naming) → All (HasItsGeneration g image) run → HasOneGeneration run
one_each g image run all = one_generation_from (λ dir. number_at 4 92 (inode_of g image dir)) run all

-- the records that they ask for are those of which the rule speaks
asked_are : (g : Geometry) (image : List ℕ) (run : List Naming) → All (HasItsGeneration g image) run → map asked_by run ≡ map (namings.record_for g image) (map naming_of run)
asked_are g image [] all = refl
asked_are g image (n ∷ run) all =
    let first : ParentRecord = asked_by n in
    let its : n.generation ≡ number_at 4 92 (inode_of g image n.dir) = All-head (HasItsGeneration g image) n run all in
    let rest = asked_are g image run (All-tail (HasItsGeneration g image) n run all) in
    ap (λ (records : List ParentRecord). first ∷ records) rest
    ∙ ap (λ (generation : ℕ). record { dir = n.dir; generation = generation; name = n.name } ∷ map (namings.record_for g image) (map naming_of run)) its

pub asked_for : (g : Geometry) (image : List ℕ) (ino : ℕ) (run : List Naming) (all : List namings.Naming) → map naming_of run ≡ namings.naming ino all
    → All (HasItsGeneration g image) run → map asked_by run ≡ map (namings.record_for g image) (namings.naming ino all)
asked_for g image ino run all viewed generations = asked_are g image run generations ∙ ap (map (namings.record_for g image)) viewed

-- ---- the rule

pub records_told : (g : Geometry) (image : List ℕ) (ino : ℕ) (all : List namings.Naming) (sorted asked : List ParentRecord) (answer : Bool) → ListsParents g image ino sorted
    → asked ≡ map (namings.record_for g image) (namings.naming ino all) → (IsTrue answer ↔ IsPermutation sorted asked)
    → MatchBool answer (HoldsRecords g image all ino) (BreaksRecords g image all ino)
records_told g image ino all sorted asked answer lists are tells =
    let wanted : List ParentRecord = map (namings.record_for g image) (namings.naming ino all) in
    told_by answer (IsPermutation sorted asked) (HoldsRecords g image all ino) (BreaksRecords g image all ino) tells
    (λ right records own parents.
    subst (λ (records : List ParentRecord). IsPermutation records wanted) (one_parents g image ino lists.records records lists.parents parents)
    (IsPermutation-trans lists.records sorted wanted lists.ordered.same (subst (λ (records : List ParentRecord). IsPermutation sorted records) are right)))
    (λ wrong. record {
      own = lists.inode;
      records = lists.records;
      parents = lists.parents;
      wrong = λ right. wrong (subst (λ (records : List ParentRecord). IsPermutation sorted records) (sym are) (IsPermutation-trans sorted lists.records wanted (IsPermutation-sym lists.records sorted lists.ordered.same) right));
    })
