-- The descent to a hash, and the leaves from there on that hold it.
use Rattle.std.proofs.Common.{◌≡◌, ℕ, zero, suc, ◌-◌, ◌<◌, ◌≤◌, Bool, cond, List, [], ◌∷◌, ◌++◌, length, get_or, Option, Some, None, refl, sym, ap, subst, ◌∙◌, inl, inr, append_assoc, arith}
use Rattle.std.specs.Prelude.{All, IsSome, IfSome, ◌⊎◌, map}
use Rattle.std.proofs.lemmas.Bool.{cases_lt}
use Rattle.std.proofs.lemmas.Bool.Decides.{leb_tells}
use Rattle.std.proofs.lemmas.List.Elements.{All-append, All-map}
use Rattle.std.proofs.lemmas.Grind.{flat_map-append}
use Rattle.std.proofs.lemmas.List.{map-append}
use Rattle.xn_bytes.specs.HashedTree.{Child}
use Rattle.xn_bytes.specs.Trees.{Tree, TreeFork, Held, Met, Visit, Asked, Stands, StandsAlone, IsAsked, IsNode, HoldsBlock, Walks, IsTree, entries_in, met_with, visit_to, visits_below, bytes_at, block_number, level_in, last_of, last_hash, child_for, root_visit, ends_of_children, FollowsToFault, SeeksToFault, StandsBy, FailsFor}
use Rattle.xn_inode.specs.declared.store.Store.{Ghosts}
use Rattle.xn_inode.specs.declared.fork_fault.ForkFault.{ForkFault}
use Rattle.xn_inode.specs.declared.fork_fault.ForkFault.TheVariants.{Read, Memory, Broken}
use Rattle.xn_inode.specs.Frames.{StoreStays}
use Rattle.xn_datree.specs.declared.fork.Fork.{Fork}
use Rattle.xn_datree.specs.Forks.{tree_fork, IsTreeFault}
use Rattle.xn_datree.specs.Finding.{ComesDown}
use Rattle.xn_datree.proofs.Measures.{level_of_node}
use Rattle.xn_datree.proofs.Walking.{over_all, over_two, over_three}
use Rattle.xn_datree.proofs.Passing.{LeafLaws, level_of_other, IsLowVisit, node_of_level, pass_many, pass_one}

-- ---- the child of a descent

-- Children before the one that is taken are below the hash; it is not, or none is behind it.
pub record Splits (hash : ℕ) (children : List Child) (taken : Child) : Type 0 where
  pub before : List Child
  pub after : List Child
  pub are : children ≡ before ++ taken ∷ after
  pub below : All (λ child. child.hash < hash) before
  pub side : (hash ≤ taken.hash) ⊎ ((taken.hash < hash) × (after ≡ []))

all_cons : (hash : ℕ) (child : Child) (others : List Child) → child.hash < hash → All (λ child. child.hash < hash) others → All (λ child. child.hash < hash) (child ∷ others)
all_cons hash child others here rest zero d below = here
all_cons hash child others here rest (suc k) d below = rest k d (omega arith)

last_of_split : (before after : List Child) (taken child : Child) (others : List Child) → child ∷ others ≡ before ++ taken ∷ after → after ≡ [] → last_hash child others ≡ taken.hash
last_of_split [] after taken child others are none =
    let e : child ∷ others ≡ taken ∷ [] = are ∙ ap (λ (cs : List Child). taken ∷ cs) none in
    same_last child taken others e where
      same_last : (child taken : Child) (others : List Child) → child ∷ others ≡ taken ∷ [] → last_hash child others ≡ taken.hash
      same_last child taken [] e = ap (λ (cs : List Child). elim cs [ [] ↦ 0 | c ∷ _ ↦ c.hash ]) e
      same_last child taken (next ∷ others) e = absurd cc
last_of_split (first ∷ before) after taken child [] are none = absurd (too_short before after taken child first are) where
  too_short : (before after : List Child) (taken child first : Child) → child ∷ [] ≡ first ∷ (before ++ taken ∷ after) → ⊥
  too_short [] after taken child first e = cc
  too_short (b ∷ before) after taken child first e = cc
last_of_split (first ∷ before) after taken child (next ∷ others) are none =
    last_of_split before after taken next others (ap (λ (cs : List Child). elim cs as (λ _. List Child) [ [] ↦ [] | _ ∷ rest ↦ rest ]) are) none

pub node_with_children : {E : Type 0} (H : List ℕ → List E → Type 0) (ends : List ℕ → Option (ℕ × ℕ)) (bytes : List ℕ) (held : Held E) (child : Child) (others : List Child) → HoldsBlock H ends bytes held → held.children ≡ child ∷ others → IsNode bytes held.children
node_with_children H ends bytes held child others holds children = elim holds [
  | inl leaf ↦ absurd (let e : child ∷ others ≡ [] = sym children ∙ leaf.1 in cc)
  | inr node ↦ node.0
]

-- a block with children is no leaf
pub some_level : {E : Type 0} (H : List ℕ → List E → Type 0) (ends : List ℕ → Option (ℕ × ℕ)) (bytes : List ℕ) (held : Held E) (child : Child) (others : List Child) → HoldsBlock H ends bytes held → held.children ≡ child ∷ others → 1 ≤ level_in bytes
some_level H ends bytes held child others holds children =
    let node = node_with_children H ends bytes held child others holds children in
    omega (arith, level_of_node bytes held.children node, node.level)

pub flat_without : {E : Type 0} (H : List ℕ → List E → Type 0) (ends : List ℕ → Option (ℕ × ℕ)) (bytes : List ℕ) (held : Held E) → HoldsBlock H ends bytes held → held.children ≡ [] → level_in bytes ≡ 0
flat_without H ends bytes held holds children = elim holds [
  | inl leaf ↦ level_of_other bytes leaf.0.no_node
  | inr node ↦ absurd (let none = ap length children in let some = node.0.some in omega arith)
]

pub splits : (hash : ℕ) (child : Child) (others : List Child) → Splits hash (child ∷ others) (child_for hash child others)
splits hash child [] = record {
  before = [];
  after = [];
  are = refl;
  below = λ k d below. absurd (omega arith);
  side = elim (cases_lt child.hash hash) [ inl less ↦ inr (less, refl) | inr not ↦ inl not ];
}
splits hash child (next ∷ others) = elim (leb_tells hash child.hash) [
  | inl not_below ↦ subst (Splits hash (child ∷ next ∷ others)) (ap (λ (b : Bool). cond b child (child_for hash next others)) (sym not_below.0)) (record {
    before = [];
    after = next ∷ others;
    are = refl;
    below = λ k d below. absurd (omega arith);
    side = inl not_below.1;
  })
  | inr below ↦
      let rest = splits hash next others in
      subst (Splits hash (child ∷ next ∷ others)) (ap (λ (b : Bool). cond b child (child_for hash next others)) (sym below.0)) (record {
        before = child ∷ rest.before;
        after = rest.after;
        are = ap (λ (cs : List Child). child ∷ cs) rest.are;
        below = all_cons hash child rest.before below.1 rest.below;
        side = rest.side;
      })
]

module _ {E : Type 0} (tree : Tree E) (hash : E → ℕ) (limit : ℕ) where
  -- the blocks that were passed have lesser hashes alone; and the block that comes next reaches the hash, or is the last
  pub record LeadsTo (helds : List (Held E)) (visit : Visit) : Type 0 where
    pub past : List (Held E)
    pub future : List (Held E)
    pub met : List Met
    pub agenda : List Visit
    pub split : helds ≡ past ++ future
    pub goes : Walks tree future met (visit ∷ agenda)
    pub lower : All (λ entry. hash entry < limit) (entries_in past)
    pub asked : All (λ v. IsSome v.asked) agenda
    pub side : ((asked : Asked) × (visit.asked ≡ Some asked) × (limit ≤ asked.hash)) ⊎ (agenda ≡ [])

  pub leads_first : (helds : List (Held E)) → IsTree tree helds → LeadsTo helds (root_visit tree.fork)
  leads_first helds is = record {
    past = [];
    future = helds;
    met = [];
    agenda = [];
    split = refl;
    goes = is;
    lower = λ k d below. absurd (omega arith);
    asked = λ k d below. absurd (omega arith);
    side = inr refl;
  }

  -- what the walk reads at the front, and behind it
  pub record Reads (future : List (Held E)) (met : List Met) (visit : Visit) (agenda : List Visit) : Type 0 where
    pub held : Held E
    pub others : List (Held E)
    pub are : future ≡ held ∷ others
    pub stands : Stands tree met visit held
    pub goes : Walks tree others (met_with (bytes_at tree visit.file_block) visit held.ends ∷ met) (visits_below (bytes_at tree visit.file_block) held ++ agenda)

  pub reads : (future : List (Held E)) (met : List Met) (visit : Visit) (agenda : List Visit) → Walks tree future met (visit ∷ agenda) → Reads future met visit agenda
  reads [] met visit agenda walks = absurd walks
  reads (held ∷ others) met visit agenda walks = record { held = held; others = others; are = refl; stands = walks.0; goes = walks.1 }

module _ {E : Type 0} (tree : Tree E) (hash : E → ℕ) (laws : LeafLaws tree hash) (limit : ℕ) where
  node_of : (visit : Visit) (met : List Met) (held : Held E) (level : ℕ) → level_in (bytes_at tree visit.file_block) ≡ suc level → Stands tree met visit held
      → IsNode (bytes_at tree visit.file_block) held.children × (held.entries ≡ []) × (held.ends ≡ ends_of_children held.children)
  node_of visit met held level high stands = node_of_level tree hash laws (bytes_at tree visit.file_block) held level stands.alone.holds high

  -- From a node to the child that is taken.
  pub leads_down : (helds : List (Held E)) (visit : Visit) (level : ℕ) (child : Child) (others : List Child)
      → level_in (bytes_at tree visit.file_block) ≡ suc level
      → (there : LeadsTo tree hash limit helds visit) → (now : Reads tree hash limit there.future there.met visit there.agenda) → now.held.children ≡ child ∷ others
      → LeadsTo tree hash limit helds (visit_to (level_in (bytes_at tree visit.file_block)) (child_for limit child others))
  leads_down helds visit level child others high there now children =
      let bytes = bytes_at tree visit.file_block in
      let to = visit_to (level_in bytes) in
      let node = node_of visit there.met now.held level high now.stands in
      let parts = splits limit child others in
      let taken = child_for limit child others in
      let met = met_with bytes visit now.held.ends ∷ there.met in
      let shape : visits_below bytes now.held ++ there.agenda ≡ map to parts.before ++ to taken ∷ (map to parts.after ++ there.agenda) =
      ap (λ (cs : List Child). map to cs ++ there.agenda) (children ∙ parts.are)
      ∙ ap (λ (vs : List Visit). vs ++ there.agenda) (map-append to parts.before (taken ∷ parts.after))
      ∙ append_assoc (map to parts.before) (to taken ∷ map to parts.after) there.agenda in
      let walks = subst (Walks tree now.others met) shape now.goes in
      let low : All (IsLowVisit tree hash laws (level_in bytes - 1) limit) (map to parts.before) =
      All-map (IsLowVisit tree hash laws (level_in bytes - 1) limit) to parts.before (λ k d below. record { greatest = (get_or parts.before k d).hash; asked = refl; low = parts.below k d below }) in
      let passes = pass_many tree hash laws (level_in bytes - 1) (pass_one tree hash laws (level_in bytes - 1)) limit now.others met (map to parts.before) (to taken ∷ (map to parts.after ++ there.agenda)) low walks in
      record {
        past = there.past ++ now.held ∷ passes.gone;
        future = passes.left;
        met = passes.met;
        agenda = map to parts.after ++ there.agenda;
        split = there.split ∙ ap (λ (hs : List (Held E)). there.past ++ hs) (now.are ∙ ap (λ (hs : List (Held E)). now.held ∷ hs) passes.split) ∙ sym (append_assoc there.past (now.held ∷ passes.gone) passes.left);
        goes = passes.goes;
        lower = subst (All (λ entry. hash entry < limit)) (sym (flat_map-append (λ (h : Held E). h.entries) there.past (now.held ∷ passes.gone)))
            (All-append (λ entry. hash entry < limit) (entries_in there.past) (entries_in (now.held ∷ passes.gone)) there.lower
            (subst (λ (es : List E). All (λ entry. hash entry < limit) (es ++ entries_in passes.gone)) (sym node.1) passes.lower));
        asked = All-append (λ (v : Visit). IsSome v.asked) (map to parts.after) there.agenda (All-map (λ (v : Visit). IsSome v.asked) to parts.after (λ k d below. refl)) there.asked;
        side = elim parts.side [
          | inl not_below ↦ inl (record { level = level_in bytes - 1; hash = taken.hash }, refl, not_below)
          | inr below ↦ elim there.side [
            | inl reaches ↦
                let asks = subst (λ (a : Option Asked). IsAsked bytes now.held.ends a) reaches.1 now.stands.alone.asked in
                let last : last_hash child others ≡ reaches.0.hash = ap last_of (sym (ap ends_of_children children) ∙ sym node.2 ∙ asks.1.1) in
                let taken_last = last_of_split parts.before parts.after taken child others parts.are below.1 in
                let limit_reached = reaches.2 in
                let under = below.0 in
                absurd (omega arith)
            | inr none ↦ inr (ap (λ (cs : List Child). map to cs ++ there.agenda) below.1 ∙ none)
          ]
        ];
      }

-- ---- over what code has read

-- a block holds one thing, where leaves do
pub held_once : {E : Type 0} (H : List ℕ → List E → Type 0) (ends : List ℕ → Option (ℕ × ℕ)) → ((bytes : List ℕ) (a b : List E) → H bytes a → H bytes b → a ≡ b)
    → (bytes : List ℕ) (a b : Held E) → HoldsBlock H ends bytes a → HoldsBlock H ends bytes b → a ≡ b
held_once {E} H ends once bytes a b holds_a holds_b = elim holds_a [
  | inl leaf_a ↦ elim holds_b [
    | inl leaf_b ↦ same_held a b (once bytes a.entries b.entries leaf_a.0.holds leaf_b.0.holds) (leaf_a.1 ∙ sym leaf_b.1) (leaf_a.2 ∙ sym leaf_b.2)
    | inr node_b ↦ absurd (leaf_a.0.no_node node_b.0.is_magic)
  ]
  | inr node_a ↦ elim holds_b [
    | inl leaf_b ↦ absurd (leaf_b.0.no_node node_a.0.is_magic)
    | inr node_b ↦
        let children = node_a.0.are ∙ sym node_b.0.are in
        same_held a b (node_a.1 ∙ sym node_b.1) children (node_a.2 ∙ ap ends_of_children children ∙ sym node_b.2)
  ]
] where
  same_held : (a b : Held E) → a.entries ≡ b.entries → a.children ≡ b.children → a.ends ≡ b.ends → a ≡ b
  same_held a b entries children ends =
      ap (λ (es : List E). record a { entries = es }) entries
      ∙ ap (λ (cs : List Child). record { entries = b.entries; children = cs; ends = a.ends }) children
      ∙ ap (λ (o : Option (ℕ × ℕ)). record { entries = b.entries; children = b.children; ends = o }) ends

module _ {E : Type 0} (tree : Tree E) (hash : E → ℕ) (laws : LeafLaws tree hash) (once : (bytes : List ℕ) (a b : List E) → tree.HoldsLeaf bytes a → tree.HoldsLeaf bytes b → a ≡ b) (limit : ℕ) where
  -- what was read of a block by itself is what the walk reads there
  pub read_is : (met : List Met) (visit : Visit) (held now : Held E) (bytes : List ℕ) → bytes ≡ bytes_at tree visit.file_block → StandsAlone tree.HoldsLeaf tree.ends_of_leaf tree.fork bytes visit held → Stands tree met visit now → held ≡ now
  read_is met visit held now bytes is alone stands =
      held_once tree.HoldsLeaf tree.ends_of_leaf once bytes held now alone.holds (subst (λ (bs : List ℕ). HoldsBlock tree.HoldsLeaf tree.ends_of_leaf bs now) (sym is) stands.alone.holds)

  pub goes_down : (helds : List (Held E)) (visit : Visit) (held : Held E) (bytes : List ℕ) (child : Child) (others : List Child) (next : Visit)
      → bytes ≡ bytes_at tree visit.file_block → StandsAlone tree.HoldsLeaf tree.ends_of_leaf tree.fork bytes visit held → held.children ≡ child ∷ others
      → next ≡ visit_to (level_in bytes) (child_for limit child others)
      → LeadsTo tree hash limit helds visit → LeadsTo tree hash limit helds next
  goes_down helds visit held bytes child others next is alone children to there =
      let now = reads tree hash limit there.future there.met visit there.agenda there.goes in
      let same = read_is there.met visit held now.held bytes is alone now.stands in
      let here : now.held.children ≡ child ∷ others = sym (ap (λ (h : Held E). h.children) same) ∙ children in
      let node = node_with_children tree.HoldsLeaf tree.ends_of_leaf bytes held child others alone.holds children in
      let some : suc (level_in bytes - 1) ≡ level_in bytes = omega (arith, level_of_node bytes held.children node, node.level) in
      let high : level_in (bytes_at tree visit.file_block) ≡ suc (level_in bytes - 1) = ap level_in (sym is) ∙ sym some in
      rw (to, is) (leads_down tree hash laws limit helds visit (level_in bytes - 1) child others high there now here)

  pub comes_down : (helds : List (Held E)) (visit : Visit) (held : Held E) (bytes : List ℕ)
      → bytes ≡ bytes_at tree visit.file_block → StandsAlone tree.HoldsLeaf tree.ends_of_leaf tree.fork bytes visit held → held.children ≡ []
      → LeadsTo tree hash limit helds visit → ComesDown tree hash limit helds bytes visit.file_block held
  comes_down helds visit held bytes is alone children there =
      let now = reads tree hash limit there.future there.met visit there.agenda there.goes in
      let same = read_is there.met visit held now.held bytes is alone now.stands in
      let none : now.held.children ≡ [] = sym (ap (λ (h : Held E). h.children) same) ∙ children in
      let goes = subst (λ (cs : List Child). Walks tree now.others (met_with (bytes_at tree visit.file_block) visit now.held.ends ∷ there.met) (map (visit_to (level_in (bytes_at tree visit.file_block))) cs ++ there.agenda)) none now.goes in
      record {
        past = there.past;
        others = now.others;
        met = there.met;
        visit = visit;
        place = refl;
        agenda = there.agenda;
        split = there.split ∙ ap (λ (hs : List (Held E)). there.past ++ hs) (now.are ∙ ap (λ (h : Held E). h ∷ now.others) (sym same));
        is = is;
        flat = flat_without tree.HoldsLeaf tree.ends_of_leaf bytes held alone.holds children;
        stands = subst (Stands tree there.met visit) (sym same) now.stands;
        goes = rw (is, same) goes;
        lower = there.lower;
        asked = there.asked;
        side = elim there.side [
          | inl reaches ↦ let asks = subst (λ (a : Option Asked). IsAsked bytes held.ends a) reaches.1 alone.asked in inl (asks.1.0, reaches.0.hash, asks.1.1, reaches.2)
          | inr last ↦ inr last
        ];
      }

-- ---- over an image, where one is told

-- however the tree's blocks hold it, the walk comes to this visit
abbrev pub LeadsAll : {E : Type 0} → (List ℕ → Tree E) → (E → ℕ) → ℕ → List ℕ → Visit → Type 0
LeadsAll {E} T hash limit x visit = (helds : List (Held E)) → IsTree (T x) helds → LeadsTo (T x) hash limit helds visit

module _ {E : Type 0} (T : List ℕ → Tree E) (hash : E → ℕ) (laws : (x : List ℕ) → LeafLaws (T x) hash) (once : (x bytes : List ℕ) (a b : List E) → (T x).HoldsLeaf bytes a → (T x).HoldsLeaf bytes b → a ≡ b) (limit : ℕ) where
  pub first_over : (image : Option (List ℕ)) (visit : Visit) → ((x : List ℕ) → root_visit (T x).fork ≡ visit) → IfSome image (λ x. LeadsAll T hash limit x visit)
  first_over image visit is = over_all (λ x. LeadsAll T hash limit x visit) image (λ x helds tree. subst (LeadsTo (T x) hash limit helds) (is x) (leads_first (T x) hash limit helds tree))

  pub down_over : (image : Option (List ℕ)) (visit : Visit) (held : Held E) (bytes : List ℕ) (child : Child) (others : List Child) (next : Visit)
      → ((x : List ℕ) → StandsAlone (T x).HoldsLeaf (T x).ends_of_leaf (T x).fork bytes visit held) → held.children ≡ child ∷ others → next ≡ visit_to (level_in bytes) (child_for limit child others)
      → IfSome image (λ x. bytes ≡ bytes_at (T x) visit.file_block) → IfSome image (λ x. LeadsAll T hash limit x visit) → IfSome image (λ x. LeadsAll T hash limit x next)
  down_over image visit held bytes child others next alone children to is leads =
      over_two (λ x. bytes ≡ bytes_at (T x) visit.file_block) (λ x. LeadsAll T hash limit x visit) (λ x. LeadsAll T hash limit x next) image
      (λ x b l helds tree. goes_down (T x) hash (laws x) (once x) limit helds visit held bytes child others next b (alone x) children to (l helds tree)) is leads

  pub leaf_over : (image : Option (List ℕ)) (visit : Visit) (held : Held E) (bytes : List ℕ)
      → ((x : List ℕ) → StandsAlone (T x).HoldsLeaf (T x).ends_of_leaf (T x).fork bytes visit held) → held.children ≡ []
      → IfSome image (λ x. bytes ≡ bytes_at (T x) visit.file_block) → IfSome image (λ x. LeadsAll T hash limit x visit)
      → IfSome image (λ x. (helds : List (Held E)) → IsTree (T x) helds → ComesDown (T x) hash limit helds bytes visit.file_block held)
  leaf_over image visit held bytes alone children is leads =
      over_two (λ x. bytes ≡ bytes_at (T x) visit.file_block) (λ x. LeadsAll T hash limit x visit) (λ x. (helds : List (Held E)) → IsTree (T x) helds → ComesDown (T x) hash limit helds bytes visit.file_block held) image
      (λ x b l helds tree. comes_down (T x) hash (laws x) (once x) limit helds visit held bytes b (alone x) children (l helds tree)) is leads

  pub fails_over : (image : Option (List ℕ)) (visit : Visit) → IfSome image (λ x. LeadsAll T hash limit x visit)
      → IfSome image (λ x. (held : Held E) → StandsAlone (T x).HoldsLeaf (T x).ends_of_leaf (T x).fork (bytes_at (T x) visit.file_block) visit held → ⊥)
      → IfSome image (λ x. (helds : List (Held E)) → IsTree (T x) helds → ⊥)
  fails_over image visit leads fails =
      over_two (λ x. LeadsAll T hash limit x visit) (λ x. (held : Held E) → StandsAlone (T x).HoldsLeaf (T x).ends_of_leaf (T x).fork (bytes_at (T x) visit.file_block) visit held → ⊥) (λ x. (helds : List (Held E)) → IsTree (T x) helds → ⊥) image
      (λ x l f helds tree.
      let there = l helds tree in
      let now = reads (T x) hash limit there.future there.met visit there.agenda there.goes in
      f now.held now.stands.alone) leads fails

-- however the way of a hash goes on to a fault from this visit, it goes so from the root
abbrev pub SeeksOn : {E : Type 0} → (List ℕ → Tree E) → ℕ → Visit → List ℕ → Type 0
SeeksOn {E} T limit visit x = (others : List (Held E)) (block : ℕ) → SeeksToFault (T x) limit others visit block → (helds : List (Held E)) × SeeksToFault (T x) limit helds (root_visit (T x).fork) block

-- the same from a leaf on, along its right siblings
abbrev pub FollowsOn : {E : Type 0} → (List ℕ → Tree E) → ℕ → Met → List Met → List ℕ → Type 0
FollowsOn {E} T limit left met x = (others : List (Held E)) (block : ℕ) → FollowsToFault (T x) limit others left met block → (helds : List (Held E)) × SeeksToFault (T x) limit helds (root_visit (T x).fork) block

module _ {E : Type 0} (T : List ℕ → Tree E) (limit : ℕ) where
  pub seeks_over_first : (image : Option (List ℕ)) (visit : Visit) → ((x : List ℕ) → root_visit (T x).fork ≡ visit) → IfSome image (SeeksOn T limit visit)
  seeks_over_first image visit is =
      over_all (SeeksOn T limit visit) image
      (λ x others block seeks. (others, subst (λ (v : Visit). SeeksToFault (T x) limit others v block) (sym (is x)) seeks))

  pub seeks_over_down : (image : Option (List ℕ)) (visit : Visit) (held : Held E) (bytes : List ℕ) (child : Child) (others : List Child) (next : Visit)
      → ((x : List ℕ) → StandsAlone (T x).HoldsLeaf (T x).ends_of_leaf (T x).fork bytes visit held) → held.children ≡ child ∷ others → next ≡ visit_to (level_in bytes) (child_for limit child others)
      → IfSome image (λ x. bytes ≡ bytes_at (T x) visit.file_block) → IfSome image (SeeksOn T limit visit) → IfSome image (SeeksOn T limit next)
  seeks_over_down image visit held bytes child others next alone children to is seeks =
      over_two (λ x. bytes ≡ bytes_at (T x) visit.file_block) (SeeksOn T limit visit) (SeeksOn T limit next) image
      (λ x b on more block below.
      let stands : StandsBy (T x) visit held = subst (λ (bs : List ℕ). StandsAlone (T x).HoldsLeaf (T x).ends_of_leaf (T x).fork bs visit held) b (alone x) in
      let there : next ≡ visit_to (level_in (bytes_at (T x) visit.file_block)) (child_for limit child others) = to ∙ ap (λ (bs : List ℕ). visit_to (level_in bs) (child_for limit child others)) b in
      on (held ∷ more) block (stands, inl (child, others, children, subst (λ (v : Visit). SeeksToFault (T x) limit more v block) there below))) is seeks

  pub follows_over_leaf : (image : Option (List ℕ)) (visit : Visit) (held : Held E) (bytes : List ℕ)
      → ((x : List ℕ) → StandsAlone (T x).HoldsLeaf (T x).ends_of_leaf (T x).fork bytes visit held) → held.children ≡ []
      → IfSome image (λ x. bytes ≡ bytes_at (T x) visit.file_block) → IfSome image (SeeksOn T limit visit) → IfSome image (FollowsOn T limit (met_with bytes visit held.ends) [])
  follows_over_leaf image visit held bytes alone children is seeks =
      over_two (λ x. bytes ≡ bytes_at (T x) visit.file_block) (SeeksOn T limit visit) (FollowsOn T limit (met_with bytes visit held.ends) []) image
      (λ x b on more block follows.
      let stands : StandsBy (T x) visit held = subst (λ (bs : List ℕ). StandsAlone (T x).HoldsLeaf (T x).ends_of_leaf (T x).fork bs visit held) b (alone x) in
      on (held ∷ more) block (stands, inr (children, subst (λ (bs : List ℕ). FollowsToFault (T x) limit more (met_with bs visit held.ends) [] block) b follows))) is seeks

-- a descent has come to a block with these bytes
pub record IsAt {E : Type 0} (T : List ℕ → Tree E) (H : List ℕ → List E → Type 0) (ends : List ℕ → Option (ℕ × ℕ)) (fork : TreeFork) (hash : E → ℕ) (limit : ℕ) (image : Option (List ℕ)) (bytes : List ℕ) (visit : Visit) (held : Held E) : Type 0 where
  pub alone : StandsAlone H ends fork bytes visit held
  pub is : IfSome image (λ x. bytes ≡ bytes_at (T x) visit.file_block)
  pub leads : IfSome image (λ x. LeadsAll T hash limit x visit)
  pub seeks : IfSome image (SeeksOn T limit visit)

-- the child's level is one less
pub level_falls : {E : Type 0} (H : List ℕ → List E → Type 0) (ends : List ℕ → Option (ℕ × ℕ)) (fork : TreeFork) (bytes below : List ℕ) (visit next : Visit) (held now : Held E) (child : Child) (others : List Child) (hash : ℕ)
    → StandsAlone H ends fork bytes visit held → held.children ≡ child ∷ others → next ≡ visit_to (level_in bytes) (child_for hash child others) → StandsAlone H ends fork below next now
    → level_in below < level_in bytes
level_falls H ends fork bytes below visit next held now child others hash alone children to under =
    let node = node_with_children H ends bytes held child others alone.holds children in
    let asked : next.asked ≡ Some (record { level = level_in bytes - 1; hash = (child_for hash child others).hash }) = ap (λ (v : Visit). v.asked) to in
    let asks = subst (λ (a : Option Asked). IsAsked below now.ends a) asked under.asked in
    omega (arith, level_of_node bytes held.children node, node.level, asks.0)

-- a child that was taken is that of the children
pub taken_among : (children : List Child) (result : Option Child) (taken : Child) (hash : ℕ) → (children ≡ [] → result ≡ None) → ((child : Child) (others : List Child) → children ≡ child ∷ others → result ≡ Some (child_for hash child others))
    → result ≡ Some taken → (child : Child) × (others : List Child) × (children ≡ child ∷ others) × (taken ≡ child_for hash child others)
taken_among [] result taken hash none some is = absurd (let e : Some taken ≡ None = sym is ∙ none refl in cc)
taken_among (child ∷ others) result taken hash none some is =
    let e : Some taken ≡ Some (child_for hash child others) = sym is ∙ some child others refl in
    (child, others, refl, cc)

-- A fault that was answered behind calls that only read is one of all of them, where what it says over the image follows.
pub fault_over : {S : Type 0} (store : Ghosts S) (fork : Fork) (P Q : List ℕ → ℕ → Type 0) (old mid new : S) (fault : ForkFault) → StoreStays store old mid
    → ((block : ℕ) → IfSome (store.image old) (λ x. P x block) → IfSome (store.image old) (λ x. Q x block))
    → IsTreeFault store P fork mid new fault → IsTreeFault store Q fork old new fault
fault_over store fork P Q old mid new Read stays so fails = let later = stays.faults_later in omega arith
fault_over store fork P Q old mid new Memory stays so fails = tt
fault_over store fork P Q old mid new (Broken rule block) stays so fails =
    (fails.0, so block (subst (λ (i : Option (List ℕ)). IfSome i (λ x. P x block)) stays.image_stays fails.1))

module _ {E S : Type 0} (store : Ghosts S) (T : List ℕ → Tree E) (fork : Fork) (hash : E → ℕ) (limit : ℕ) where
  -- the block that a visit names fails, whatever stands before it
  abbrev pub FailsAlone : TreeFork → Visit → List ℕ → ℕ → Type 0
  FailsAlone f visit x block = (block ≡ block_number f visit.file_block) × ((held : Held E) → StandsAlone (T x).HoldsLeaf (T x).ends_of_leaf (T x).fork (bytes_at (T x) visit.file_block) visit held → ⊥)

  no_tree : (x : List ℕ) (visit : Visit) (f : TreeFork) (block : ℕ) → LeadsAll T hash limit x visit → FailsAlone f visit x block → (helds : List (Held E)) → IsTree (T x) helds → ⊥
  no_tree x visit f block leads fails helds tree =
      let there = leads helds tree in
      let now = reads (T x) hash limit there.future there.met visit there.agenda there.goes in
      fails.1 now.held now.stands.alone

  pub alone_fault : (visit : Visit) (old mid new : S) (fault : ForkFault)
      → StoreStays store old mid → ((x : List ℕ) → tree_fork (store.shape old) fork ≡ (T x).fork)
      → IfSome (store.image old) (λ x. LeadsAll T hash limit x visit)
      → IfSome (store.image old) (SeeksOn T limit visit)
      → IsTreeFault store (FailsAlone (tree_fork (store.shape old) fork) visit) fork mid new fault
      → IsTreeFault store (λ x. FailsFor (T x) limit) fork old new fault
  alone_fault visit old mid new fault stays forks leads seeks fails =
      let f = tree_fork (store.shape old) fork in
      fault_over store fork (FailsAlone f visit) (λ x. FailsFor (T x) limit) old mid new fault stays
      (λ block there. over_three (λ x. LeadsAll T hash limit x visit) (SeeksOn T limit visit) (λ x. FailsAlone f visit x block) (λ x. FailsFor (T x) limit block) (store.image old)
      (λ x l s p. (no_tree x visit f block l p, s [] block (subst (λ (t : TreeFork). block ≡ block_number t visit.file_block) (forks x) p.0, p.1))) leads seeks there) fails

  -- the root fails, and with it the tree
  pub root_fault : (visit : Visit) (file_block : ℕ) (old mid new : S) (fault : ForkFault)
      → StoreStays store old mid → visit.file_block ≡ file_block
      → IfSome (store.image old) (λ x. LeadsAll T hash limit x visit)
      → IsTreeFault store (FailsAlone (tree_fork (store.shape old) fork) visit) fork mid new fault
      → IsTreeFault store (λ x block. (block ≡ block_number (tree_fork (store.shape old) fork) file_block) × ((helds : List (Held E)) → IsTree (T x) helds → ⊥)) fork old new fault
  root_fault visit file_block old mid new fault stays at leads fails =
      let f = tree_fork (store.shape old) fork in
      let Q : List ℕ → ℕ → Type 0 = λ x block. (block ≡ block_number f file_block) × ((helds : List (Held E)) → IsTree (T x) helds → ⊥) in
      fault_over store fork (FailsAlone f visit) Q old mid new fault stays
      (λ block there. over_two (λ x. LeadsAll T hash limit x visit) (λ x. FailsAlone f visit x block) (λ x. Q x block) (store.image old)
      (λ x l p. (p.0 ∙ ap (block_number f) at, no_tree x visit f block l p)) leads there) fails
