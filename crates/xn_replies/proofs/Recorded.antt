-- The parent records of an inode of an accepted image are the names of the name space that name it.
use Rattle.std.proofs.Common.{◌≡◌, ℕ, List, map, get_or, Some, None, refl, sym, subst, inl, inr, eq-eqb}
use Rattle.std.specs.Prelude.{◌≢◌, ◌==◌, Contains, IsPermutation}
use Rattle.std.proofs.lemmas.Bool.{eqb-true}
use Rattle.std.proofs.lemmas.List.Elements.{Contains-get_or}
use Rattle.std.proofs.lemmas.List.Sorted.{Contains-permutation, IsPermutation-sym, IsPermutation-trans}
use Rattle.xn_bytes.specs.Superblock.{Geometry}
use Rattle.xn_bytes.specs.Parents.{ParentRecord}
use Rattle.xn_bytes.specs.ParentRecords.{ListsParents}
use Rattle.xn_meaning.specs.declared.errno.Errno.TheVariants.{ENOENT}
use Rattle.xn_meaning.specs.Manifests.{Manifest, IsLive}
use Rattle.xn_meaning.specs.Replies.{Reply, ParentsOf, ErrorOf}
use Rattle.xn_meaning.specs.NameSpace.{End, Says}
use Rattle.xn_meaning.specs.NameSpaces.{Inode, NameSpace, AreRecordsOf, ParentsOfInode}
use Rattle.xn_meaning.specs.Reading.{ParentsEnd}
use Rattle.xn_rules.specs.Namings.{Naming, naming, record_for}
use Rattle.xn_rules.specs.Means.{Means}
use Rattle.xn_verdicts.proofs.OneParents.{one_parents, parents_or_break}
use Rattle.xn_dir.proofs.Members.{in_filter, of_filter, in_map, of_map}
use Rattle.xn_replies.proofs.Standing.{stands, inode_there, none_live}
use Rattle.xn_replies.proofs.Named.{key_of, naming_of_key, has_entry}

-- a record is that of a name that names the inode, with the generation of its directory
abbrev IsRecordOf : NameSpace → ℕ → ParentRecord → Type 0
IsRecordOf s ino r =
    (s.entries r.dir r.name ≡ Some ino) × ((inode : Inode) × (s.live r.dir ≡ Some inode) × (inode.generation ≡ r.generation))

module _ (g : Geometry) (m : Manifest) (image : List ℕ) (s : NameSpace) (means : Means g m image s) where
  -- the records that the entries ask for which name an inode
  abbrev asked : ℕ → List ParentRecord
  asked ino = map (record_for g image) (naming ino means.namings)

  as_asked : (ino : ℕ) (sorted : List ParentRecord) → IsLive g m ino → ListsParents g image ino sorted → IsPermutation sorted (asked ino)
  as_asked ino sorted live lists =
      let own = (stands g m image s means ino live).records in
      let same = one_parents g image ino own.records lists.records own.parents lists.parents in
      IsPermutation-trans sorted lists.records (asked ino)
      (IsPermutation-sym lists.records sorted lists.ordered.same)
      (subst (λ (records : List ParentRecord). IsPermutation records (asked ino)) same own.same)

  -- each record is one that an entry asks for
  naming_of_record : (ino : ℕ) (r : ParentRecord) → Contains (asked ino) r
      → (n : Naming) × Contains means.namings n × (n.ino ≡ ino) × (record_for g image n ≡ r)
  naming_of_record ino r within =
      let of = of_map (record_for g image) (naming ino means.namings) r within in
      let kept = of_filter (λ (n : Naming). n.ino == ino) means.namings of.0 of.1 in
      (of.0, kept.0, eqb-true of.0.ino ino kept.1, of.2)

  record_of : (ino : ℕ) (r : ParentRecord) → Contains (asked ino) r → IsRecordOf s ino r
  record_of ino r within =
      let of = naming_of_record ino r within in
      let n : Naming = of.0 in
      let dir = inode_there g m image s means n.dir (has_entry g m image s means n of.1).live in
      let key : s.entries n.dir n.name ≡ Some ino =
      subst (λ (i : ℕ). s.entries n.dir n.name ≡ Some i) of.2 (key_of g m image s means n of.1) in
      subst (IsRecordOf s ino) of.3 (key, (dir.0, dir.1, sym dir.2.generation))

  -- and each entry asks for one
  record_there : (ino dir : ℕ) (name : List ℕ) → s.entries dir name ≡ Some ino
      → (r : ParentRecord) × Contains (asked ino) r × (r.dir ≡ dir) × (r.name ≡ name)
  record_there ino dir name is =
      let named = naming_of_key g m image s means dir name ino is in
      let n : Naming = named.0 in
      let within = in_filter (λ (k : Naming). k.ino == ino) means.namings n (eq-eqb n.ino ino named.2.ino_is) named.1 in
      (record_for g image n, in_map (record_for g image) (naming ino means.namings) n within, named.2.dir_is, named.2.name_is)

  records_of : (ino : ℕ) (sorted : List ParentRecord) → IsLive g m ino → ListsParents g image ino sorted → AreRecordsOf s ino sorted
  records_of ino sorted live lists =
      let same = as_asked ino sorted live lists in
      record {
        each = λ k d below.
            let r : ParentRecord = get_or sorted k d in
            record_of ino r (Contains-permutation sorted (asked ino) r same (Contains-get_or sorted k d below));
        complete = λ dir name is.
            let there = record_there ino dir name is in
            let within = Contains-permutation (asked ino) sorted there.0 (IsPermutation-sym sorted (asked ino) same) there.1 in
            (within.0, there.0, within.1, within.2, (there.2, there.3));
        rising = lists.ordered.rising;
      }

  pub parents_of_the_name_space : (ino : ℕ) (end : End) → ParentsEnd g m ino image end
      → (reply : Reply) × (end ≡ Says reply) × ParentsOfInode s ino reply
  parents_of_the_name_space ino end (inl (is, dead)) = (ErrorOf ENOENT, is, inl (refl, none_live g m image s means ino dead))
  parents_of_the_name_space ino end (inr (inl (rule, block, is, live, breaks))) =
      let stand = stands g m image s means ino live in
      absurd (parents_or_break g image ino stand.records.records rule block stand.own stand.records.parents breaks)
  parents_of_the_name_space ino end (inr (inr (sorted, is, live, lists))) =
      let there = inode_there g m image s means ino live in
      let known : s.live ino ≢ None = λ none. let lost = there.1 in absurd cc in
      (ParentsOf sorted, is, inr (sorted, refl, known, records_of ino sorted live lists))
