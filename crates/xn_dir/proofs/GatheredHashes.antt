-- The leaf entries of what was gathered have the hashes of the names that are listed, behind those of dot and dotdot.
use Rattle.std.proofs.Common.{◌≡◌, ℕ, true, List, [], ◌∷◌, ◌++◌, map, Option, refl, sym, ap, subst, ◌∙◌}
use Rattle.std.specs.Prelude.{IsPermutation, flat_map}
use Rattle.std.proofs.lemmas.List.Sorted.{IsPermutation-refl, IsPermutation-map, IsPermutation-sym, IsPermutation-trans}
use Rattle.xn_bytes.specs.Superblock.{Geometry}
use Rattle.xn_bytes.specs.Entries.{Entry}
use Rattle.xn_bytes.specs.Hashes.{name_hash_of}
use Rattle.xn_bytes.specs.DataBlock.{LeafEntry, entries_among}
use Rattle.xn_bytes.specs.DirectoryForms.{leaf_of}
use Rattle.xn_bytes.specs.LeafForms.{entries_placed}
use Rattle.xn_datree.specs.declared.fork.Fork.{Fork}
use Rattle.xn_dir.specs.declared.gather.Gathered.{Gathered}
use Rattle.xn_dir.specs.declared.listing.Listed.{Listed}
use Rattle.xn_dir.specs.Gathering.{GathersBelow}
use Rattle.xn_dir.specs.Listings.{entry_of, name_of}
use Rattle.xn_dir.specs.Repeats.{HaveHashes, hash_of}

same_hashes : (listed : List Listed) → map hash_of (map leaf_of (map entry_of listed)) ≡ map name_hash_of (map name_of listed)
same_hashes [] = refl
same_hashes (entry ∷ listed) = ap (λ (t : List ℕ). name_hash_of (name_of entry) ∷ t) (same_hashes listed)

pub have_hashes : (g : Geometry) (fork : Fork) (image : Option (List ℕ)) (end : ℕ) (gathered : Gathered) → GathersBelow g fork image end gathered → gathered.are_names ≡ true → HaveHashes gathered.leaves.items (map name_of gathered.listed.items)
have_hashes g fork image end gathered so_far named =
    let rest : List Entry = flat_map entries_placed so_far.others in
    let dots = so_far.dots in
    let all : List ℕ = map hash_of gathered.leaves.items in
    let first : all ≡ map hash_of (map leaf_of (entries_among so_far.first.regions ++ rest)) = ap (λ (leaves : List LeafEntry). map hash_of leaves) so_far.gathers.leaves in
    let split : all ≡ name_hash_of dots.dot.name ∷ name_hash_of dots.parent.name ∷ map hash_of (map leaf_of (so_far.front ++ rest)) =
    first ∙ ap (λ (entries : List Entry). map hash_of (map leaf_of (entries ++ rest))) dots.first in
    let those : map hash_of (map leaf_of (so_far.front ++ rest)) ≡ map name_hash_of (map name_of gathered.listed.items) =
    ap (λ (entries : List Entry). map hash_of (map leaf_of entries)) (sym (so_far.gathers.names named).0) ∙ same_hashes gathered.listed.items in
    let others : List ℕ = name_hash_of dots.dot.name ∷ name_hash_of dots.parent.name ∷ [] in
    let is : all ≡ others ++ map name_hash_of (map name_of gathered.listed.items) = split ∙ ap (λ (t : List ℕ). name_hash_of dots.dot.name ∷ name_hash_of dots.parent.name ∷ t) those in
    record { others = others; same = subst (IsPermutation all) is (IsPermutation-refl all) }

-- the same of leaf entries in another order
pub moved_hashes : (leaves others : List LeafEntry) (names : List (List ℕ)) → IsPermutation leaves others → HaveHashes leaves names → HaveHashes others names
moved_hashes leaves others names moved have = record {
  others = have.others;
  same =
      IsPermutation-trans (map hash_of others) (map hash_of leaves) (have.others ++ map name_hash_of names) (IsPermutation-sym (map hash_of leaves) (map hash_of others) (IsPermutation-map hash_of leaves others moved)) have.same;
}
