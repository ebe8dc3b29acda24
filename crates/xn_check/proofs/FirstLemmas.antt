-- The nodes of all live inodes, which rise.
use Rattle.std.proofs.Common.{◌≡◌, ℕ, ◌<◌, List, length, map, get_or, sym, ap, ◌∙◌, inl, inr, arith}
use Rattle.std.specs.Prelude.{Contains}
use Rattle.std.proofs.lemmas.Bool.{cases_lt}
use Rattle.std.proofs.lemmas.List.{get_or-map, length-map}
use Rattle.xn_bytes.specs.Superblock.{Geometry}
use Rattle.xn_meaning.specs.Manifests.{Manifest, IsLive}
use Rattle.xn_rules.specs.Namings.{AreLive}
use Rattle.xn_facts.specs.declared.facts.Node.{Node}
use Rattle.xn_check.proofs.WholesFound.{rises_apart}

abbrev number_of : Node → ℕ
number_of node = node.ino

module _ (g : Geometry) (m : Manifest) (nodes : List Node) (live : AreLive g m (map (λ node. node.ino) nodes)) where
  number_at_place : (k : ℕ) (d : Node) (e : ℕ) → k < length nodes → get_or (map number_of nodes) k e ≡ (get_or nodes k d).ino
  number_at_place k d e within = get_or-map number_of nodes k d e within

  pub is_live : (k : ℕ) (d : Node) → k < length nodes → IsLive g m (get_or nodes k d).ino
  is_live k d within =
      let long = length-map nodes number_of in
      let there : Contains (map number_of nodes) (get_or nodes k d).ino = (k, omega (arith, long, within), number_at_place k d (get_or nodes k d).ino within) in
      (live.each (get_or nodes k d).ino).0 there

  -- a live inode is one of them
  pub place_of : (ino : ℕ) → IsLive g m ino → (k : ℕ) × (k < length nodes) × ((d : Node) → (get_or nodes k d).ino ≡ ino)
  place_of ino is =
      let long = length-map nodes number_of in
      let found = (live.each ino).1 is in
      let within : found.0 < length nodes = omega (arith, long, found.1) in
      (found.0, within, λ d. sym (number_at_place found.0 d ino within) ∙ found.2)

  -- they rise
  pub nodes_rise : (i j : ℕ) (d : Node) → i < j → j < length nodes → (get_or nodes i d).ino < (get_or nodes j d).ino
  nodes_rise i j d before within =
      let long = length-map nodes number_of in
      let rise = rises_apart (λ (n : ℕ). n) (map number_of nodes) live.rising i j d.ino before (omega (arith, long, within)) in
      let low = number_at_place i d d.ino (omega (arith, before, within)) in
      let high = number_at_place j d d.ino within in
      omega (arith, rise, low, high)

  -- one of less number stands before
  pub stands_before : (i j : ℕ) (d : Node) → i < length nodes → j < length nodes → (get_or nodes j d).ino < (get_or nodes i d).ino → j < i
  stands_before i j d within there less = elim (cases_lt j i) [
    | inl before ↦ before
    | inr from ↦ elim (cases_lt i j) [
      | inl behind ↦ let rise = nodes_rise i j d behind there in absurd (omega (arith, rise, less))
      | inr le ↦ let same : i ≡ j = omega (arith, from, le) in absurd (let e = ap (λ (k : ℕ). (get_or nodes k d).ino) same in omega (arith, e, less))
    ]
  ]
