-- The walk of a path over an image that has a map of its names: where it ends with a reply, it is the walk through the map.
use Rattle.std.proofs.Common.{◌≡◌, ℕ, List, [], ◌∷◌, Option, Some, None, ap, subst, ◌∙◌, inl, inr}
use Rattle.std.specs.Prelude.{◌⊎◌}
use Rattle.xn_bytes.specs.declared.kind.Kind.TheVariants.{Dir}
use Rattle.xn_bytes.specs.Superblock.{Geometry}
use Rattle.xn_meaning.specs.Manifests.{Manifest, IsLive}
use Rattle.xn_bytes.specs.Inode.{inode_of}
use Rattle.xn_meaning.specs.Replies.{Reply}
use Rattle.xn_meaning.specs.NameSpace.{Says, Sums, Breaks, Place, NameMap, Step, Ends, Goes, Walks, TakesInMap, step_to}
use Rattle.xn_meaning.specs.Paths.{parts_of}
use Rattle.xn_meaning.specs.Reading.{HasMap, TakesInImage, ResolveEnds, IsNoDirectory, IsDirectoryIn, root_place}
use Rattle.xn_ns.proofs.NamesOfMap.{as_the_map_says}

-- a step that tells no fault of the image
abbrev IsAnswer : Step → Type 0
IsAnswer (Ends (Says reply)) = Unit {0}
IsAnswer (Ends (Sums summary)) = Unit {0}
IsAnswer (Ends (Breaks inode rule block)) = ⊥
IsAnswer (Goes place) = Unit {0}

-- where the kind is that of a directory, the inode is one of the image
abbrev IsPlaceIn : Geometry → Manifest → List ℕ → Place → Type 0
IsPlaceIn g m image here = here.kind ≡ Dir → IsDirectoryIn g m image here.ino

has_parts : (g : Geometry) (m : Manifest) (image : List ℕ) (ino : ℕ) → IsDirectoryIn g m image ino → ¬ IsLive g m ino ⊎ IsNoDirectory g m (inode_of g image ino) ino → ⊥
has_parts g m image ino directory (inl gone) = gone directory.sound.live
has_parts g m image ino directory (inr other) = other.kind directory.kind

-- what comes of a part over the image is what comes of it over the map
taken : (g : Geometry) (m : Manifest) (image : List ℕ) (names : NameMap) (here : Place) (part : List ℕ) (step : Step) → HasMap g m image names → IsPlaceIn g m image here → IsAnswer step
    → TakesInImage g m image here part step → TakesInMap names here part step
taken g m image names here part step has placed answers (inl (is, inl other)) = inl (other, is)
taken g m image names here part step has placed answers (inl (is, inr (dir, none))) = absurd (has_parts g m image here.ino (placed dir) none)
taken g m image names here part step has placed answers (inr (inl (rule, is, dir, breaks))) = absurd (subst IsAnswer is answers)
taken g m image names here part step has placed answers (inr (inr (dir, directory, inl (no_name, is)))) = inr (inl (dir, no_name, is))
taken g m image names here part step has placed answers (inr (inr (dir, directory, inr (name, inl (rule, block, is, breaks))))) = absurd (subst IsAnswer is answers)
taken g m image names here part step has placed answers (inr (inr (dir, directory, inr (name, inr (found, is, stands))))) =
    inr (inr (dir, name, is ∙ ap step_to (as_the_map_says g m image names here.ino part found has directory stands)))

stands_for : (found : Option Place) (next : Place) → Goes next ≡ step_to found → found ≡ Some next
stands_for None next is = absurd cc
stands_for (Some place) next is = cc

-- where the walk goes on, the place is one of the image
next_placed : (g : Geometry) (m : Manifest) (image : List ℕ) (names : NameMap) (here next : Place) (part : List ℕ) → HasMap g m image names → TakesInMap names here part (Goes next) → IsPlaceIn g m image next
next_placed g m image names here next part has (inl (other, is)) = absurd cc
next_placed g m image names here next part has (inr (inl (dir, no_name, is))) = absurd cc
next_placed g m image names here next part has (inr (inr (dir, name, is))) = has.named here.ino part next (stands_for (names here.ino part) next is)

through_the_map : (g : Geometry) (m : Manifest) (image : List ℕ) (names : NameMap) (here : Place) (parts : List (List ℕ)) (reply : Reply) → HasMap g m image names → IsPlaceIn g m image here
    → Walks (TakesInImage g m image) here parts (Says reply) → Walks (TakesInMap names) here parts (Says reply)
through_the_map g m image names here [] reply has placed walk = walk
through_the_map g m image names here (part ∷ parts) reply has placed (inl ends) = inl (taken g m image names here part (Ends (Says reply)) has placed tt ends)
through_the_map g m image names here (part ∷ parts) reply has placed (inr (next, goes, rest)) =
    let step = taken g m image names here part (Goes next) has placed tt goes in
    inr (next, step, through_the_map g m image names next parts reply has (next_placed g m image names here next part has step) rest)

-- the root of such an image is live
pub resolved_through_the_map : (g : Geometry) (m : Manifest) (image path : List ℕ) (names : NameMap) (reply : Reply) → HasMap g m image names → ResolveEnds g m path image (Says reply)
    → Walks (TakesInMap names) (root_place g) (parts_of path) (Says reply)
resolved_through_the_map g m image path names reply has (inl (is, gone)) = absurd (gone has.root.sound.live)
resolved_through_the_map g m image path names reply has (inr (live, walk)) = through_the_map g m image names (root_place g) (parts_of path) reply has (λ _. has.root) walk
