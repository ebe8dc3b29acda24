-- The walk of a path over an accepted image ends with a reply, and that is the end of the walk through the names of the name space.
use Rattle.std.proofs.Common.{◌≡◌, ℕ, List, [], ◌∷◌, Option, Some, None, sym, subst, inl, inr}
use Rattle.xn_bytes.specs.declared.kind.Kind.TheVariants.{Dir}
use Rattle.xn_bytes.specs.Superblock.{Geometry}
use Rattle.xn_meaning.specs.declared.errno.Errno.TheVariants.{ENOENT, ENOTDIR}
use Rattle.xn_meaning.specs.Manifests.{Manifest}
use Rattle.xn_meaning.specs.Replies.{Reply, EntryOf, ErrorOf}
use Rattle.xn_meaning.specs.Paths.{parts_of}
use Rattle.xn_meaning.specs.NameSpace.{End, Says, Place, Ends, Walks, TakesInMap, part_error, step_to}
use Rattle.xn_meaning.specs.NameSpaces.{NameSpace, ResolvesOf, names_of}
use Rattle.xn_meaning.specs.Reading.{TakesInImage, ResolveEnds, root_place}
use Rattle.xn_rules.specs.Means.{Means}
use Rattle.xn_ns.proofs.MapWalks.{resolved_through_the_map}
use Rattle.xn_replies.proofs.Standing.{no_core_fault, no_fails}
use Rattle.xn_replies.proofs.OfMap.{has_map}

-- where a walk can begin
abbrev directory_at : ℕ → Place
directory_at ino = record { ino = ino; kind = Dir }

-- a walk that ends so ends with a reply
abbrev IsSaid : End → Type 0
IsSaid end = (reply : Reply) × (end ≡ Says reply)

ends_unfound : (found : Option Place) (end : End) → Ends end ≡ step_to found → IsSaid end
ends_unfound None end is = (ErrorOf ENOENT, cc)
ends_unfound (Some place) end is = absurd cc

module _ (g : Geometry) (m : Manifest) (image : List ℕ) (s : NameSpace) (means : Means g m image s) where
  ends_said : (here : Place) (part : List ℕ) (end : End) → TakesInImage g m image here part (Ends end) → IsSaid end
  ends_said here part end (inl (is, none)) = (ErrorOf ENOTDIR, cc)
  ends_said here part end (inr (inl (rule, is, dir, breaks))) = absurd (no_core_fault g m image s means here.ino rule breaks)
  ends_said here part end (inr (inr (dir, directory, inl (no_name, is)))) = (ErrorOf (part_error part), cc)
  ends_said here part end (inr (inr (dir, directory, inr (name, inl (rule, block, is, fails))))) =
      absurd (no_fails g m image s means here.ino rule block directory fails)
  ends_said here part end (inr (inr (dir, directory, inr (name, inr (found, is, stands))))) = ends_unfound found end is

  walk_said : (here : Place) (parts : List (List ℕ)) (end : End) → Walks (TakesInImage g m image) here parts end → IsSaid end
  walk_said here [] end walk = (EntryOf here.ino here.kind, walk)
  walk_said here (part ∷ parts) end (inl ends) = ends_said here part end ends
  walk_said here (part ∷ parts) end (inr (next, goes, rest)) = walk_said next parts end rest

  said_of : (path : List ℕ) (reply : Reply) → ResolveEnds g m path image (Says reply) → ResolvesOf s path reply
  said_of path reply ends =
      subst (λ (root : ℕ). Walks (TakesInMap (names_of s)) (directory_at root) (parts_of path) (Says reply)) (sym means.root)
      (resolved_through_the_map g m image path (names_of s) reply (has_map g m image s means) ends)

  pub walk_of_the_name_space : (path : List ℕ) (end : End) → ResolveEnds g m path image end
      → (reply : Reply) × (end ≡ Says reply) × ResolvesOf s path reply
  walk_of_the_name_space path end (inl (is, dead)) = absurd (dead means.sound.1.live)
  walk_of_the_name_space path end (inr (live, walk)) =
      let said = walk_said (root_place g) (parts_of path) end walk in
      let ends : ResolveEnds g m path image (Says said.0) =
      inr (live, subst (λ (e : End). Walks (TakesInImage g m image) (root_place g) (parts_of path) e) said.1 walk) in
      (said.0, said.1, said_of path said.0 ends)
