-- From one leaf of a tree to the next: where the walk goes on, and that hashes don't fall.
use Rattle.std.proofs.Common.{◌≡◌, ◌≢◌, ℕ, suc, ◌≤◌, List, [], ◌∷◌, ◌++◌, Option, Some, None, refl, sym, ap, subst, ◌∙◌, inl, inr, arith}
use Rattle.std.specs.Prelude.{All, IsSome, IfSome, ◌⊎◌}
use Rattle.std.proofs.lemmas.Bool.{cases_lt, false≢true}
use Rattle.std.proofs.lemmas.List.Elements.{All-append, All-map}
use Rattle.xn_bytes.specs.Trees.{Tree, Held, Met, Visit, Asked, Stands, IsAsked, IsBeside, HoldsBlock, Walks, entries_in, left_on, met_with, visit_to, visits_below, bytes_at, level_in, left_in, last_of}
use Rattle.xn_datree.proofs.Trails.{level_is, other_level}
use Rattle.xn_datree.proofs.Passing.{LeafLaws, level_of_other, level_of_leaf}

module _ {E : Type 0} (tree : Tree E) (hash : E → ℕ) (laws : LeafLaws tree hash) where
  -- the entries of a node are none, whichever level it has
  entries_of_node : (bytes : List ℕ) (held : Held E) → HoldsBlock tree.HoldsLeaf tree.ends_of_leaf bytes held → 1 ≤ level_in bytes → held.entries ≡ []
  entries_of_node bytes held holds high = elim holds [
    | inl leaf ↦ absurd (let flat = level_of_other bytes leaf.0.no_node in omega arith)
    | inr node ↦ node.1
  ]

  -- a leaf that comes behind another
  pub record Follows (visit : Visit) (held : Held E) (left : Met) : Type 0 where
    pub named : left_in (bytes_at tree visit.file_block) ≡ left.file_block
    pub right : left.right ≡ visit.file_block
    pub is_named : left.right ≢ 0
    pub first : ℕ
    pub greatest : ℕ
    pub ends : held.ends ≡ Some (first, greatest)
    pub rises : left.last ≤ first
    pub order : first ≤ greatest
    pub between : All (λ entry. (first ≤ hash entry) × (hash entry ≤ greatest)) held.entries
    pub children : held.children ≡ []

  pub follows : (met : List Met) (visit : Visit) (held : Held E) (left : Met) → IsSome visit.asked → level_in (bytes_at tree visit.file_block) ≡ 0 → left_on 0 met ≡ Some left → Stands tree met visit held → Follows visit held left
  follows met visit held left some flat is stands = of_asked visit.asked some stands.alone.asked where
    of_asked : (asked : Option Asked) → IsSome asked → IsAsked (bytes_at tree visit.file_block) held.ends asked → Follows visit held left
    of_asked None none asks = absurd (false≢true none)
    of_asked (Some asked) some asks =
        let bytes = bytes_at tree visit.file_block in
        let leaf = level_of_leaf tree hash laws bytes held stands.alone.holds flat in
        let beside = subst (IsBeside bytes visit.file_block held.ends) (ap (λ (l : ℕ). left_on l met) flat ∙ is) stands.beside in
        let both = subst (λ (o : Option (ℕ × ℕ)). IfSome o (λ both. (both.0 ≤ both.1) × All (λ entry. (both.0 ≤ hash entry) × (hash entry ≤ both.1)) held.entries)) (sym leaf.2 ∙ asks.1.1) (laws.within bytes held.entries leaf.0.holds) in
        record {
          named = beside.0;
          right = beside.1;
          is_named = beside.2;
          first = asks.1.0;
          greatest = asked.hash;
          ends = asks.1.1;
          rises = subst (λ (o : Option (ℕ × ℕ)). IfSome o (λ hashes. left.last ≤ hashes.0)) asks.1.1 beside.3;
          order = both.0;
          between = both.1;
          children = leaf.1;
        }

  left_now : (visit : Visit) (held : Held E) (met : List Met) → level_in (bytes_at tree visit.file_block) ≡ 0
      → left_on 0 (met_with (bytes_at tree visit.file_block) visit held.ends ∷ met) ≡ Some (met_with (bytes_at tree visit.file_block) visit held.ends)
  left_now visit held met flat = level_is 0 (met_with (bytes_at tree visit.file_block) visit held.ends) met flat

  left_still : (visit : Visit) (held : Held E) (met : List Met) (left : Met) → 1 ≤ level_in (bytes_at tree visit.file_block) → left_on 0 met ≡ Some left
      → left_on 0 (met_with (bytes_at tree visit.file_block) visit held.ends ∷ met) ≡ Some left
  left_still visit held met left high is = other_level 0 (met_with (bytes_at tree visit.file_block) visit held.ends) met (λ (e : level_in (bytes_at tree visit.file_block) ≡ 0). omega arith) ∙ is

  -- what is asked for of all that is to be read
  all_asked : (bytes : List ℕ) (held : Held E) (agenda : List Visit) → All (λ v. IsSome v.asked) agenda → All (λ v. IsSome v.asked) (visits_below bytes held ++ agenda)
  all_asked bytes held agenda asked = All-append (λ (v : Visit). IsSome v.asked) (visits_below bytes held) agenda (All-map (λ (v : Visit). IsSome v.asked) (visit_to (level_in bytes)) held.children (λ k d below. refl)) asked

  -- Behind a leaf no entry has a lesser hash than its last one.
  pub later_high : (helds : List (Held E)) (met : List Met) (agenda : List Visit) (left : Met) → All (λ v. IsSome v.asked) agenda → left_on 0 met ≡ Some left → Walks tree helds met agenda
      → All (λ entry. left.last ≤ hash entry) (entries_in helds)
  later_high [] met agenda left asked is walks = λ k d below. absurd (omega arith)
  later_high (held ∷ others) met [] left asked is walks = absurd walks
  later_high (held ∷ others) met (visit ∷ agenda) left asked is walks =
      let bytes = bytes_at tree visit.file_block in
      let more = all_asked bytes held agenda (λ k d below. asked (suc k) d (omega arith)) in
      let here : IsSome visit.asked = asked 0 visit (omega arith) in
      elim (cases_lt 0 (level_in bytes)) [
        | inl high ↦
            let none = entries_of_node bytes held walks.0.alone.holds high in
            subst (λ (es : List E). All (λ entry. left.last ≤ hash entry) (es ++ entries_in others)) (sym none)
            (later_high others (met_with bytes visit held.ends ∷ met) (visits_below bytes held ++ agenda) left more (left_still visit held met left high is) walks.1)
        | inr low ↦
            let flat : level_in bytes ≡ 0 = omega arith in
            let leaf = follows met visit held left here flat is walks.0 in
            let last : last_of held.ends ≡ leaf.greatest = ap last_of leaf.ends in
            let rest = later_high others (met_with bytes visit held.ends ∷ met) (visits_below bytes held ++ agenda) (met_with bytes visit held.ends) more (left_now visit held met flat) walks.1 in
            All-append (λ entry. left.last ≤ hash entry) held.entries (entries_in others)
            (λ k d below. let one = leaf.between k d below in omega (arith, one.0, leaf.rises))
            (λ k d below. let one = rest k d below in omega (arith, leaf.rises, leaf.order))
      ]

  -- The walk has come to the next leaf behind one, and read no entry since.
  pub record ComesTo (helds : List (Held E)) (before : List Met) (left : Met) : Type 0 where
    pub nodes : List (Held E)
    pub held : Held E
    pub others : List (Held E)
    pub met : List Met
    pub visit : Visit
    pub agenda : List Visit
    pub split : helds ≡ nodes ++ held ∷ others
    pub grown : (file_block : ℕ) → All (λ one. one.file_block ≢ file_block) met → All (λ one. one.file_block ≢ file_block) before
    pub silent : entries_in nodes ≡ []
    pub stands : Stands tree met visit held
    pub leaf : Follows visit held left
    pub flat : level_in (bytes_at tree visit.file_block) ≡ 0
    pub goes : Walks tree others (met_with (bytes_at tree visit.file_block) visit held.ends ∷ met) (visits_below (bytes_at tree visit.file_block) held ++ agenda)
    pub asked : All (λ v. IsSome v.asked) (visits_below (bytes_at tree visit.file_block) held ++ agenda)

  -- Behind a leaf there is a next one, or no entry is left and the leaf has none on its right.
  pub next_leaf : (helds : List (Held E)) (met : List Met) (agenda : List Visit) (left : Met) → All (λ v. IsSome v.asked) agenda → left_on 0 met ≡ Some left → Walks tree helds met agenda
      → ((left.right ≡ 0) × (entries_in helds ≡ [])) ⊎ ComesTo helds met left
  next_leaf [] met [] left asked is walks = inl (subst (λ (o : Option Met). IfSome o (λ one. one.right ≡ 0)) is (walks 0), refl)
  next_leaf [] met (visit ∷ agenda) left asked is walks = absurd walks
  next_leaf (held ∷ others) met [] left asked is walks = absurd walks
  next_leaf (held ∷ others) met (visit ∷ agenda) left asked is walks =
      let bytes = bytes_at tree visit.file_block in
      let more = all_asked bytes held agenda (λ k d below. asked (suc k) d (omega arith)) in
      let here : IsSome visit.asked = asked 0 visit (omega arith) in
      elim (cases_lt 0 (level_in bytes)) [
        | inl high ↦
            let none = entries_of_node bytes held walks.0.alone.holds high in
            elim (next_leaf others (met_with bytes visit held.ends ∷ met) (visits_below bytes held ++ agenda) left more (left_still visit held met left high is) walks.1) [
              | inl last ↦ inl (last.0, subst (λ (es : List E). es ++ entries_in others ≡ []) (sym none) last.1)
              | inr next ↦ inr (record {
                nodes = held ∷ next.nodes;
                held = next.held;
                others = next.others;
                met = next.met;
                visit = next.visit;
                agenda = next.agenda;
                split = ap (λ (hs : List (Held E)). held ∷ hs) next.split;
                grown = λ file_block new k d below. next.grown file_block new (suc k) d (omega arith);
                silent = subst (λ (es : List E). es ++ entries_in next.nodes ≡ []) (sym none) next.silent;
                stands = next.stands;
                leaf = next.leaf;
                flat = next.flat;
                goes = next.goes;
                asked = next.asked;
              })
            ]
        | inr low ↦
            let flat : level_in bytes ≡ 0 = omega arith in
            inr (record {
              nodes = [];
              held = held;
              others = others;
              met = met;
              visit = visit;
              agenda = agenda;
              split = refl;
              grown = λ file_block new. new;
              silent = refl;
              stands = walks.0;
              leaf = follows met visit held left here flat is walks.0;
              flat = flat;
              goes = walks.1;
              asked = more;
            })
      ]
