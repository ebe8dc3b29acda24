-- What is found of one inode more.
use Rattle.std.proofs.Common.{◌≡◌, inl, inr, ℕ, List, [], ◌∷◌, ◌++◌, map, Some, None, refl, sym, ap, subst, ◌∙◌, append_assoc}
use Rattle.std.specs.Prelude.{All, Option, MatchOption}
use Rattle.std.specs.Global.{Vec}
use Rattle.std.proofs.lemmas.List.{append-nil, map-append}
use Rattle.std.proofs.lemmas.List.Elements.{All-push, All-nil}
use Rattle.xn_bytes.specs.Superblock.{Geometry}
use Rattle.xn_bytes.specs.Extents.{Run as Mapped}
use Rattle.xn_bytes.specs.Entries.{Entry}
use Rattle.xn_bytes.specs.ParentRecords.{ListsParents}
use Rattle.xn_items.specs.declared.parent.ParentRec.{ParentRec}
use Rattle.xn_items.specs.Viewed.{record_of}
use Rattle.xn_rules.specs.Sound.{AreRunsIn, AreRunsOf}
use Rattle.xn_facts.specs.declared.facts.Contents.{Contents}
use Rattle.xn_facts.specs.declared.facts.Facts.{Facts}
use Rattle.xn_facts.specs.declared.facts.Known.{Known}
use Rattle.xn_facts.specs.declared.facts.Node.{Node}
use Rattle.xn_facts.specs.Facts.{AreContents, FactsHold, IsHeld, IsKnown, IsUnknown, NodeHolds, mapped_of}
use Rattle.xn_census.specs.declared.census.Held.{Held}
use Rattle.xn_census.specs.declared.census.Census.{Census}
use Rattle.xn_census.specs.Added.{IsKept, IsWithHeld}
use Rattle.xn_census.specs.Census.{AreAmong, AreHeldIn, CensusHolds}

-- ---- runs

pub runs_behind : (g : Geometry) (image : List ℕ) (inodes : List ℕ) (ino : ℕ) (runs own : List Mapped) → AreRunsIn g image inodes runs → AreRunsOf g image ino own → AreRunsIn g image (inodes ++ ino ∷ []) (runs ++ own)
runs_behind g image [] ino runs own are is = (own, [], is, refl, ap (λ (rs : List Mapped). rs ++ own) are ∙ sym (append-nil own))
runs_behind g image (first ∷ inodes) ino runs own (front, rest, of_first, of_rest, both) is =
    (front, rest ++ own, of_first, runs_behind g image inodes ino rest own of_rest is, ap (λ (rs : List Mapped). rs ++ own) both ∙ append_assoc front rest own)

-- ---- directories with what they hold

-- those of one inode behind those of others
pub held_behind : (g : Geometry) (image : List ℕ) (inodes : List ℕ) (ino : ℕ) (helds more : List Held) → AreHeldIn g image inodes helds → AreHeldIn g image (ino ∷ []) more → AreHeldIn g image (inodes ++ ino ∷ []) (helds ++ more)
held_behind g image [] ino helds more are is = subst (λ (hs : List Held). AreHeldIn g image (ino ∷ []) (hs ++ more)) (sym are) is
held_behind g image (first ∷ inodes) ino helds more (inl (one, rest, both, dir, by, of_rest)) is =
    inl (one, rest ++ more, ap (λ (hs : List Held). hs ++ more) both, dir, by, held_behind g image inodes ino rest more of_rest is)
held_behind g image (first ∷ inodes) ino helds more (inr (none, of_rest)) is = inr (none, held_behind g image inodes ino helds more of_rest is)

-- the same, whatever they hold
pub among_behind : (inodes : List ℕ) (ino : ℕ) (helds more : List Held) → AreAmong inodes helds → AreAmong (ino ∷ []) more → AreAmong (inodes ++ ino ∷ []) (helds ++ more)
among_behind [] ino helds more are is = subst (λ (hs : List Held). AreAmong (ino ∷ []) (hs ++ more)) (sym are) is
among_behind (first ∷ inodes) ino helds more (inl (one, rest, both, dir, of_rest)) is = inl (one, rest ++ more, ap (λ (hs : List Held). hs ++ more) both, dir, among_behind inodes ino rest more of_rest is)
among_behind (first ∷ inodes) ino helds more (inr of_rest) is = inr (among_behind inodes ino helds more of_rest is)

pub among_more : (inodes : List ℕ) (ino : ℕ) (known : Option Known) (contents : Option Contents) (old new : List Held) → IsWithHeld ino known contents old new → AreAmong inodes old → AreAmong (inodes ++ ino ∷ []) new
among_more inodes ino known None old new with_held are = subst (λ (hs : List Held). AreAmong (inodes ++ ino ∷ []) hs) (append-nil old ∙ sym with_held) (among_behind inodes ino old [] are (inr refl))
among_more inodes ino None (Some contents) old new with_held are = absurd with_held
among_more inodes ino (Some known) (Some contents) old new with_held are =
    let one : Held = record { dir = ino; generation = known.generation; contents = contents } in
    subst (λ (hs : List Held). AreAmong (inodes ++ ino ∷ []) hs) (sym with_held) (among_behind inodes ino old (one ∷ []) are (inl (one, [], refl, refl, refl)))

-- what is added of one, with the generation that is known
pub held_one : (g : Geometry) (image : List ℕ) (ino : ℕ) (known : Option Known) (contents : Option Contents) (old new : List Held)
    → MatchOption known (IsUnknown g image ino) (IsKnown g image ino)
    → MatchOption contents ((entries : List Entry) (dotdot : ℕ) → ¬ IsHeld g image ino entries dotdot) (AreContents g image ino)
    → IsWithHeld ino known contents old new
    → (more : List Held) × (new ≡ old ++ more) × AreHeldIn g image (ino ∷ []) more
held_one g image ino known None old new is seen with_held = ([], with_held ∙ sym (append-nil old), inr (seen, refl))
held_one g image ino None (Some contents) old new is seen with_held = absurd with_held
held_one g image ino (Some known) (Some contents) old new is seen with_held =
    let one : Held = record { dir = ino; generation = known.generation; contents = contents } in
    (one ∷ [], with_held, inl (one, [], refl, refl, record { contents = seen; generation = is.generation }, refl))

-- ---- nodes

-- the records of two vectors that hold the same
same_records : (old new : Option (Vec ParentRec)) (P : Type 0) (Q : List ParentRec → Type 0) → MatchOption old (new ≡ None) (λ records. MatchOption new ⊥ (λ same. same.items ≡ records.items)) → MatchOption old P (λ records. Q records.items) → MatchOption new P (λ records. Q records.items)
same_records None new P Q kept holds = rw kept holds
same_records (Some a) None P Q kept holds = absurd kept
same_records (Some a) (Some b) P Q kept holds = subst Q (sym kept) holds

pub node_kept : (g : Geometry) (image : List ℕ) (old new : Node) → IsKept old new → NodeHolds g image old → NodeHolds g image new
node_kept g image old new kept holds = record {
  directory = rw (kept.ino, kept.is_directory) holds.directory;
  known = rw (kept.ino, kept.known) holds.known;
  parents = rw kept.ino (same_records old.parents new.parents _ (λ (records : List ParentRec). ListsParents g image old.ino (map record_of records)) kept.parents holds.parents);
  broken = rw (kept.ino, kept.broken) holds.broken;
  stands = rw (kept.ino, kept.broken) holds.stands;
}

-- ---- all of one inode

pub numbers_more : (old new : List Node) (node : Node) (ino : ℕ) → node.ino ≡ ino → new ≡ old ++ node ∷ [] → map (λ (n : Node). n.ino) new ≡ map (λ (n : Node). n.ino) old ++ ino ∷ []
numbers_more old new node ino is nodes = ap (map (λ (n : Node). n.ino)) nodes ∙ map-append (λ (n : Node). n.ino) old (node ∷ []) ∙ ap (λ (n : ℕ). map (λ (one : Node). one.ino) old ++ n ∷ []) is

pub holds_more : (g : Geometry) (image : List ℕ) (inodes : List ℕ) (facts : Facts) (node : Node) (old new : Census)
    → IsKept facts.node node → new.nodes.items ≡ old.nodes.items ++ node ∷ []
    → IsWithHeld facts.node.ino facts.node.known facts.contents old.held.items new.held.items
    → new.runs.items ≡ old.runs.items ++ facts.runs.items
    → FactsHold g image facts → CensusHolds g image inodes old → CensusHolds g image (inodes ++ facts.node.ino ∷ []) new
holds_more g image inodes facts node old new kept nodes with_held runs hold holds =
    let added = held_one g image facts.node.ino facts.node.known facts.contents old.held.items new.held.items hold.node.known hold.contents with_held in
    record {
      inodes_are = ap (map (λ (n : Node). n.ino)) nodes ∙ map-append (λ (n : Node). n.ino) old.nodes.items (node ∷ []) ∙ ap (λ (ns : List ℕ). ns ++ node.ino ∷ []) holds.inodes_are ∙ ap (λ (n : ℕ). inodes ++ n ∷ []) kept.ino;
      nodes = subst (λ (ns : List Node). All (NodeHolds g image) ns) (sym nodes) (All-push (NodeHolds g image) old.nodes.items node holds.nodes (node_kept g image facts.node node kept hold.node));
      held = subst (λ (hs : List Held). AreHeldIn g image (inodes ++ facts.node.ino ∷ []) hs) (sym added.1) (held_behind g image inodes facts.node.ino old.held.items added.0 holds.held added.2);
      runs = subst (λ (rs : List Mapped). AreRunsIn g image (inodes ++ facts.node.ino ∷ []) rs) (sym (ap (map mapped_of) runs ∙ map-append mapped_of old.runs.items facts.runs.items))
          (runs_behind g image inodes facts.node.ino (map mapped_of old.runs.items) (map mapped_of facts.runs.items) holds.runs hold.runs);
    }

-- nothing is found of no inodes
pub holds_none : (g : Geometry) (image : List ℕ) (census : Census) → census.nodes.items ≡ [] → census.held.items ≡ [] → census.runs.items ≡ [] → CensusHolds g image [] census
holds_none g image census nodes held runs = record {
  inodes_are = ap (map (λ (n : Node). n.ino)) nodes;
  nodes = subst (λ (ns : List Node). All (NodeHolds g image) ns) (sym nodes) (All-nil (NodeHolds g image));
  held = held;
  runs = ap (map mapped_of) runs;
}
