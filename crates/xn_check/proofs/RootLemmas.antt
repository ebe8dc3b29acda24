-- From what is kept of the live inodes to the rule of the root.
use Rattle.std.proofs.Common.{◌≡◌, ℕ, ◌<◌, ◌≤◌, List, [], ◌∷◌, length, get_or, map, sym, subst, ap, ◌∙◌, arith}
use Rattle.std.specs.Prelude.{All, Any, Contains, IsTrue}
use Rattle.std.proofs.lemmas.List.{get_or-map, get_or_default, length-map}
use Rattle.std.proofs.lemmas.List.Elements.{All-contains}
use Rattle.xn_bytes.specs.Superblock.{Geometry}
use Rattle.xn_bytes.specs.Inode.{inode_of}
use Rattle.xn_meaning.specs.Manifests.{Manifest, IsLive}
use Rattle.xn_rules.specs.InodeRules.{IsOfDirectory}
use Rattle.xn_rules.specs.Namings.{AreLive, Naming}
use Rattle.xn_rules.specs.Sound.{HasRightRoot, most_entries}
use Rattle.xn_facts.specs.Facts.{NodeHolds}
use Rattle.xn_facts.specs.declared.facts.Node.{Node}

-- one of the nodes is a directory of that number
abbrev pub HasDirectory : List Node → ℕ → Type 0
HasDirectory nodes ino = Any (λ node. (node.ino ≡ ino) × IsTrue node.is_directory) nodes

-- what stands at a place, whatever is read past the end
read_at : (nodes : List Node) (k : ℕ) → k < length nodes → (node : Node) × (get_or nodes k node ≡ node)
read_at [] k below = absurd (omega (arith, below))
read_at (node ∷ nodes) k below = (get_or (node ∷ nodes) k node, get_or_default (node ∷ nodes) k _ node below)

module _ (g : Geometry) (m : Manifest) (image : List ℕ) (nodes : List Node) (are_live : AreLive g m (map (λ node. node.ino) nodes)) (hold : All (NodeHolds g image) nodes) where
  pub live_directory : (ino : ℕ) → HasDirectory nodes ino → IsLive g m ino × IsOfDirectory (inode_of g image ino)
  live_directory ino (k, node, below, same, is) =
      let among : Contains (map (λ (node : Node). node.ino) nodes) ino =
      (k, omega (arith, length-map nodes (λ (node : Node). node.ino), below), get_or-map (λ (node : Node). node.ino) nodes k node ino below ∙ ap (λ (node : Node). node.ino) same ∙ is.0) in
      let held = All-contains (NodeHolds g image) nodes node hold (k, below, same) in
      ((are_live.each ino).0 among, subst (λ (ino : ℕ). IsOfDirectory (inode_of g image ino)) is.0 (held.directory.0 is.1))

  directory_at : (ino k : ℕ) (node : Node) → k < length nodes → get_or nodes k node ≡ node → node.ino ≡ ino → IsOfDirectory (inode_of g image ino) → HasDirectory nodes ino
  directory_at ino k node below same is directory =
      let held = All-contains (NodeHolds g image) nodes node hold (k, below, same) in
      (k, node, below, same, (is, held.directory.1 (subst (λ (ino : ℕ). IsOfDirectory (inode_of g image ino)) (sym is) directory)))

  pub directory_live : (ino : ℕ) → IsLive g m ino → IsOfDirectory (inode_of g image ino) → HasDirectory nodes ino
  directory_live ino live directory =
      let (k, below, same) = (are_live.each ino).1 live in
      let within : k < length nodes = omega (arith, length-map nodes (λ (node : Node). node.ino), below) in
      let first = read_at nodes k within in
      directory_at ino k first.0 within first.1 (sym (get_or-map (λ (node : Node). node.ino) nodes k first.0 ino within ∙ ap (λ (node : Node). node.ino) first.1) ∙ same) directory

  -- the rule of the root, where there are not too many entries
  pub right_root : (namings : List Naming) → length namings ≤ most_entries → HasDirectory nodes g.root → HasRightRoot g m image namings
  right_root namings few there =
      let is = live_directory g.root there in
      record { live = is.0; directory = is.1; few = few }

  pub root_there : (namings : List Naming) → HasRightRoot g m image namings → HasDirectory nodes g.root
  root_there namings right = directory_live g.root right.live right.directory
