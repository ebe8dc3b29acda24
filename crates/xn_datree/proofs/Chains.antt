-- From the leaf that a descent has come to along its right siblings: what was found so far, and that nothing is left.
use Rattle.std.proofs.Common.{◌≡◌, ◌≢◌, ℕ, zero, suc, ◌+◌, ◌<◌, ◌≤◌, cond, eq-eqb, true, length, Bool, List, [], ◌∷◌, ◌++◌, Option, Some, None, refl, sym, ap, subst, ◌∙◌, inl, inr, append_assoc, append-nil, arith}
use Rattle.std.specs.Prelude.{All, IsSome, IfSome, ◌⊎◌, filter, sum_by, ◌==◌, ◌&&◌}
use Rattle.std.proofs.lemmas.Bool.{cases_lt}
use Rattle.std.proofs.lemmas.Bool.Decides.{eqb_tells}
use Rattle.std.proofs.lemmas.Grind.{flat_map-append}
use Rattle.std.proofs.lemmas.List.Sums.{sum_by-cons, sum_by-append}
use Rattle.xn_bytes.specs.HashedTree.{Child}
use Rattle.xn_bytes.specs.Trees.{Tree, Held, Met, Visit, Stands, Walks, IsTree, TreeHolds, IsBeside, entries_in, left_on, met_with, visits_below, bytes_at, level_in, left_in, last_of, block_number, right_of, FailsFor, GoesRight, FollowsToFault, TreeFork, levels_of_tree}
use Rattle.xn_inode.specs.declared.store.Store.{Ghosts}
use Rattle.xn_inode.specs.declared.fork_fault.ForkFault.{ForkFault}
use Rattle.xn_inode.specs.Frames.{StoreStays}
use Rattle.xn_datree.specs.declared.fork.Fork.{Fork}
use Rattle.xn_datree.specs.Forks.{tree_fork, IsTreeFault}
use Rattle.xn_datree.specs.Finding.{ComesDown, IsNoLeaf}
use Rattle.xn_bytes.specs.Trees.{ends_at, has_none, leaves_to}
use Rattle.xn_datree.proofs.Trails.{level_is}
use Rattle.xn_datree.proofs.Walking.{over_one, over_two, over_three}
use Rattle.xn_datree.proofs.Passing.{LeafLaws, level_of_leaf}
use Rattle.xn_datree.proofs.Descents.{held_once, fault_over, FollowsOn}
use Rattle.xn_datree.proofs.Leaves.{later_high, next_leaf}

-- ---- entries of one hash

module _ {E : Type 0} (hash : E → ℕ) (limit : ℕ) where
  -- those that have the hash
  abbrev pub with_hash : List E → List E
  with_hash es = filter (λ entry. hash entry == limit) es

  pub with_hash-append : (es bs : List E) → with_hash (es ++ bs) ≡ with_hash es ++ with_hash bs
  with_hash-append [] bs = refl
  with_hash-append (a ∷ es) bs = elim (eqb_tells (hash a) limit) [
    | inl same ↦
        ap (λ (b : Bool). cond b (a ∷ with_hash (es ++ bs)) (with_hash (es ++ bs))) same.0
        ∙ ap (λ (more : List E). a ∷ more) (with_hash-append es bs)
        ∙ sym (ap (λ (b : Bool). cond b (a ∷ with_hash es) (with_hash es) ++ with_hash bs) same.0)
    | inr differs ↦
        ap (λ (b : Bool). cond b (a ∷ with_hash (es ++ bs)) (with_hash (es ++ bs))) differs.0
        ∙ with_hash-append es bs
        ∙ sym (ap (λ (b : Bool). cond b (a ∷ with_hash es) (with_hash es) ++ with_hash bs) differs.0)
  ]

  pub with_hash-none : (es : List E) → All (λ entry. hash entry ≢ limit) es → with_hash es ≡ []
  with_hash-none [] all = refl
  with_hash-none (e ∷ es) all = elim (eqb_tells (hash e) limit) [
    | inl same ↦ absurd (all 0 e (omega arith) same.1)
    | inr differs ↦
        ap (λ (b : Bool). cond b (e ∷ with_hash es) (with_hash es)) differs.0
        ∙ with_hash-none es (λ k d below. all (suc k) d (omega arith))
  ]

-- what is not below is not above
pub not_above : (last limit : ℕ) → (limit < last → ⊥) → last ≤ limit
not_above last limit not = elim (cases_lt limit last) [ inl below ↦ absurd (not below) | inr so ↦ omega (arith, so) ]

all_tail : (file_block : ℕ) (one : Met) (rest : List Met) → All (λ one. one.file_block ≢ file_block) (one ∷ rest) → All (λ one. one.file_block ≢ file_block) rest
all_tail file_block one rest all = λ k d below. all (suc k) d (omega arith)

all_cons : (file_block : ℕ) (one : Met) (rest : List Met) → one.file_block ≢ file_block → All (λ one. one.file_block ≢ file_block) rest → All (λ one. one.file_block ≢ file_block) (one ∷ rest)
all_cons file_block one rest here there zero d below = here
all_cons file_block one rest here there (suc k) d below = there k d (omega arith)

module _ {E : Type 0} (tree : Tree E) (hash : E → ℕ) (limit : ℕ) where
  -- The blocks that were passed have what was found; the last of them is a leaf; and each block of the trail was met.
  pub record ChainAt (helds : List (Held E)) (found : List E) (trail : List Met) (left : Met) : Type 0 where
    pub past : List (Held E)
    pub others : List (Held E)
    pub met : List Met
    pub agenda : List Visit
    pub split : helds ≡ past ++ others
    pub goes : Walks tree others met agenda
    pub last : left_on 0 met ≡ Some left
    pub flat : left.level ≡ 0
    pub asked : All (λ v. IsSome v.asked) agenda
    pub found_are : found ≡ with_hash hash limit (entries_in past)
    pub grown : (file_block : ℕ) → All (λ one. one.file_block ≢ file_block) met → All (λ one. one.file_block ≢ file_block) (left ∷ trail)
    pub counted : length trail ≤ leaves_to limit past
    pub next_counted : left.right ≢ 0 → left.last ≡ limit → length trail + 1 ≤ leaves_to limit past
    pub side : left.right ≢ 0 → limit ≤ left.last

  leaves_one : (past : List (Held E)) (held : Held E) (first last : ℕ) → held.children ≡ [] → held.ends ≡ Some (first, last) → last ≡ limit → leaves_to limit (past ++ held ∷ []) ≡ leaves_to limit past + 1
  leaves_one past held first last children ends same =
      let test : Held E → ℕ = λ (h : Held E). cond (has_none h.children && ends_at limit h.ends) 1 0 in
      let one : (has_none held.children && ends_at limit held.ends) ≡ true = ap (λ (cs : List Child). has_none cs && ends_at limit held.ends) children ∙ ap (ends_at limit) ends ∙ eq-eqb last limit same in
      let single : sum_by test (held ∷ []) ≡ 1 = sum_by-cons test held [] ∙ ap (λ (b : Bool). cond b 1 0 + 0) one in
      sum_by-append test past (held ∷ []) ∙ ap (λ (n : ℕ). leaves_to limit past + n) single

  leaves_more : (past more : List (Held E)) → leaves_to limit past ≤ leaves_to limit (past ++ more)
  leaves_more past more =
      let both = sum_by-append (λ (h : Held E). cond (has_none h.children && ends_at limit h.ends) 1 0) past more in
      omega (arith, both)

  -- a leaf with one on its right reaches the hash
  record Reaches (held : Held E) (left : Met) : Type 0 where
    pub first : ℕ
    pub ends : held.ends ≡ Some (first, left.last)
    pub side : limit ≤ left.last

  ends_here : (others : List (Held E)) (met : List Met) (agenda : List Visit) (left : Met) → agenda ≡ [] → left_on 0 met ≡ Some left → Walks tree others met agenda → left.right ≡ 0
  ends_here [] met [] left none is walks = subst (λ (o : Option Met). IfSome o (λ one. one.right ≡ 0)) is (walks 0)
  ends_here [] met (visit ∷ agenda) left none is walks = absurd walks
  ends_here (held ∷ others) met [] left none is walks = absurd walks
  ends_here (held ∷ others) met (visit ∷ agenda) left none is walks = absurd cc

  entries_one : (past : List (Held E)) (held : Held E) → entries_in (past ++ held ∷ []) ≡ entries_in past ++ held.entries
  entries_one past held =
      flat_map-append (λ (h : Held E). h.entries) past (held ∷ []) ∙ ap (λ (es : List E). entries_in past ++ es) (append-nil held.entries)

  pub chain_first : LeafLaws tree hash → (helds : List (Held E)) (bytes : List ℕ) (file_block : ℕ) (held : Held E) (visit : Visit) (found : List E) (left : Met)
      → visit.file_block ≡ file_block → left ≡ met_with bytes visit held.ends → found ≡ with_hash hash limit held.entries
      → ComesDown tree hash limit helds bytes file_block held → ChainAt helds found [] left
  chain_first laws helds bytes file_block held visit found left at left_is found_are down =
      let met = met_with bytes down.visit held.ends in
      let same : met ≡ left = ap (λ (fb : ℕ). record { file_block = fb; level = met.level; right = met.right; last = met.last }) (down.place ∙ sym at) ∙ sym left_is in
      let last : left_on 0 (met ∷ down.met) ≡ Some left = level_is 0 met down.met down.flat ∙ ap (λ (m : Met). Some m) same in
      let leaf = level_of_leaf tree hash laws (bytes_at tree down.visit.file_block) held down.stands.alone.holds (ap level_in (sym down.is) ∙ down.flat) in
      let reaches : (left.right ≡ 0 → ⊥) → Reaches held left = λ some. elim down.side [
        | inl there ↦
            let is_last : there.1 ≡ left.last = ap last_of (sym there.2) ∙ ap (λ (m : Met). m.last) same in
            record { first = there.0; ends = there.2 ∙ ap (λ (n : ℕ). Some (there.0, n)) is_last; side = subst (λ (n : ℕ). limit ≤ n) is_last there.3 }
        | inr none ↦ absurd (some (ends_here down.others (met ∷ down.met) down.agenda left none last down.goes))
      ] in
      record {
        past = down.past ++ held ∷ [];
        others = down.others;
        met = met ∷ down.met;
        agenda = down.agenda;
        split = down.split ∙ sym (append_assoc down.past (held ∷ []) down.others);
        goes = down.goes;
        last = last;
        flat = ap (λ (m : Met). m.level) (sym same) ∙ down.flat;
        asked = down.asked;
        found_are =
            found_are
            ∙ ap (λ (es : List E). es ++ with_hash hash limit held.entries) (sym (with_hash-none hash limit (entries_in down.past) (λ k d below is. let low = down.lower k d below in omega arith)))
            ∙ sym (with_hash-append hash limit (entries_in down.past) held.entries)
            ∙ ap (with_hash hash limit) (sym (entries_one down.past held));
        grown = λ fb all. subst (λ (m : Met). All (λ one. one.file_block ≢ fb) (m ∷ [])) same (all_cons fb met [] (all 0 met (omega arith)) (λ k d below. absurd (omega arith)));
        counted = omega arith;
        next_counted = λ some same_hash. let one = reaches some in let counts = leaves_one down.past held one.first left.last leaf.1 one.ends same_hash in omega (arith, counts);
        side = λ some. (reaches some).side;
      }

  -- Nothing of the hash is behind a leaf that has none on its right, or a greater hash.
  pub chain_last : LeafLaws tree hash → (helds : List (Held E)) (found : List E) (trail : List Met) (left : Met) → (left.right ≡ 0) ⊎ (limit < left.last)
      → ChainAt helds found trail left → found ≡ with_hash hash limit (entries_in helds)
  chain_last laws helds found trail left done chain =
      let rest = with_hash hash limit (entries_in chain.others) in
      let nothing : rest ≡ [] = elim done [
        | inl no_right ↦ elim (next_leaf tree hash laws chain.others chain.met chain.agenda left chain.asked chain.last chain.goes) [
          | inl end ↦ ap (with_hash hash limit) end.1
          | inr next ↦ absurd (next.leaf.is_named no_right)
        ]
        | inr greater ↦ with_hash-none hash limit (entries_in chain.others) (λ k d below is.
            let high = later_high tree hash laws chain.others chain.met chain.agenda left chain.asked chain.last chain.goes k d below in
            omega arith)
      ] in
      chain.found_are
      ∙ sym (append-nil (with_hash hash limit (entries_in chain.past)))
      ∙ ap (λ (es : List E). with_hash hash limit (entries_in chain.past) ++ es) (sym nothing)
      ∙ sym (with_hash-append hash limit (entries_in chain.past) (entries_in chain.others))
      ∙ ap (with_hash hash limit) (sym (flat_map-append (λ (h : Held E). h.entries) chain.past chain.others) ∙ ap entries_in (sym chain.split))

  -- as many leaves were read behind the first as end with the hash, or less
  pub chain_reads : (helds : List (Held E)) (found : List E) (trail : List Met) (left : Met) → ChainAt helds found trail left → length trail ≤ leaves_to limit helds
  chain_reads helds found trail left chain = let more = leaves_more chain.past chain.others in rw chain.split (omega (arith, chain.counted, more))

  -- the leaf on the right was counted before it is read
  pub chain_reads_next : (helds : List (Held E)) (found : List E) (trail : List Met) (left : Met) → left.right ≢ 0 → left.last ≤ limit → ChainAt helds found trail left → length trail + 1 ≤ leaves_to limit helds
  chain_reads_next helds found trail left some low chain =
      let reached = chain.side some in
      let next = chain.next_counted some (omega (arith, reached, low)) in
      let more = leaves_more chain.past chain.others in
      rw chain.split (omega (arith, next, more))

  -- the leaf on the right stands behind the trail
  pub record Continues (helds : List (Held E)) (found : List E) (trail : List Met) (left : Met) : Type 0 where
    pub held : Held E
    pub stands : Stands tree (left ∷ trail) (right_of left) held
    pub flat : level_in (bytes_at tree left.right) ≡ 0
    pub on : (found_now : List E) (now : Met) → found_now ≡ found ++ with_hash hash limit held.entries → now ≡ met_with (bytes_at tree left.right) (right_of left) held.ends
        → ChainAt helds found_now (left ∷ trail) now

  pub continues : LeafLaws tree hash → (helds : List (Held E)) (found : List E) (trail : List Met) (left : Met) → left.right ≢ 0 → left.last ≤ limit → ChainAt helds found trail left → Continues helds found trail left
  continues laws helds found trail left some low_last chain =
      elim (next_leaf tree hash laws chain.others chain.met chain.agenda left chain.asked chain.last chain.goes) [
        | inl end ↦ absurd (some end.0)
        | inr next ↦
            let at : next.visit.file_block ≡ left.right = sym next.leaf.right in
            let low : level_in (bytes_at tree left.right) ≡ 0 = ap (λ (fb : ℕ). level_in (bytes_at tree fb)) (sym at) ∙ next.flat in
            let on_left : left_on (level_in (bytes_at tree left.right)) (left ∷ trail) ≡ Some left = ap (λ (l : ℕ). left_on l (left ∷ trail)) low ∙ level_is 0 left trail chain.flat in
            let alone = next.stands.alone in
            let bytes = bytes_at tree next.visit.file_block in
            let met = met_with bytes next.visit next.held.ends in
            record {
              held = next.held;
              stands = record {
                alone = rw next.leaf.right record {
                  there = alone.there;
                  own = alone.own;
                  holds = alone.holds;
                  asked = omega (arith, next.flat);
                  children = alone.children;
                };
                new = chain.grown left.right (next.grown left.right (subst (λ (fb : ℕ). All (λ one. one.file_block ≢ fb) next.met) at next.stands.new));
                beside = subst (IsBeside (bytes_at tree left.right) left.right next.held.ends) (sym on_left) (ap (λ (fb : ℕ). left_in (bytes_at tree fb)) (sym at) ∙ next.leaf.named, refl, some, rises next.held.ends left next.leaf.first next.leaf.greatest next.leaf.ends next.leaf.rises);
              };
              flat = low;
              on = λ found_now now found_is now_is.
                  let same : met ≡ now = ap (λ (fb : ℕ). met_with (bytes_at tree fb) (record { file_block = fb; asked = None }) next.held.ends) at ∙ sym now_is in
                  let is_last : next.leaf.greatest ≡ now.last = ap last_of (sym next.leaf.ends) ∙ ap (λ (m : Met). m.last) same in
                  let so_far : length trail + 1 ≤ leaves_to limit chain.past = let reached = chain.side some in chain.next_counted some (omega (arith, reached, low_last)) in
                  record {
                    past = (chain.past ++ next.nodes) ++ next.held ∷ [];
                    others = next.others;
                    met = met ∷ next.met;
                    agenda = visits_below bytes next.held ++ next.agenda;
                    split =
                        chain.split ∙ ap (λ (hs : List (Held E)). chain.past ++ hs) next.split
                        ∙ sym (append_assoc chain.past next.nodes (next.held ∷ next.others))
                        ∙ sym (append_assoc (chain.past ++ next.nodes) (next.held ∷ []) next.others);
                    goes = next.goes;
                    last = level_is 0 met next.met next.flat ∙ ap (λ (m : Met). Some m) same;
                    flat = ap (λ (m : Met). m.level) (sym same) ∙ next.flat;
                    asked = next.asked;
                    found_are =
                        found_is
                        ∙ ap (λ (es : List E). es ++ with_hash hash limit next.held.entries) (chain.found_are ∙ ap (with_hash hash limit) (
                        sym (append-nil (entries_in chain.past)) ∙ ap (λ (es : List E). entries_in chain.past ++ es) (sym next.silent) ∙ sym (flat_map-append (λ (h : Held E). h.entries) chain.past next.nodes)))
                        ∙ sym (with_hash-append hash limit (entries_in (chain.past ++ next.nodes)) next.held.entries)
                        ∙ ap (with_hash hash limit) (sym (entries_one (chain.past ++ next.nodes) next.held));
                    grown = λ fb all. subst (λ (m : Met). All (λ one. one.file_block ≢ fb) (m ∷ left ∷ trail)) same
                        (all_cons fb met (left ∷ trail) (all 0 met (omega arith)) (chain.grown fb (next.grown fb (all_tail fb met next.met all))));
                    counted = let more = leaves_more chain.past next.nodes in let more_too = leaves_more (chain.past ++ next.nodes) (next.held ∷ []) in omega (arith, so_far, more, more_too);
                    next_counted = λ again same_hash.
                        let more = leaves_more chain.past next.nodes in
                        let counts = leaves_one (chain.past ++ next.nodes) next.held next.leaf.first now.last next.leaf.children (next.leaf.ends ∙ ap (λ (n : ℕ). Some (next.leaf.first, n)) is_last) same_hash in
                        omega (arith, so_far, more, counts);
                    side = λ again. let reached = chain.side some in subst (λ (n : ℕ). limit ≤ n) is_last (omega (arith, reached, next.leaf.rises, next.leaf.order));
                  };
            }
      ] where
        rises : (ends : Option (ℕ × ℕ)) (left : Met) (first greatest : ℕ) → ends ≡ Some (first, greatest) → left.last ≤ first → IfSome ends (λ hashes. left.last ≤ hashes.0)
        rises ends left first greatest is low = subst (λ (o : Option (ℕ × ℕ)). IfSome o (λ hashes. left.last ≤ hashes.0)) (sym is) low

-- ---- over an image, where one is told

-- however the tree's blocks hold it, the chain has come to this leaf
abbrev pub ChainAll : {E : Type 0} → (List ℕ → Tree E) → (E → ℕ) → ℕ → List E → List Met → Met → List ℕ → Type 0
ChainAll {E} T hash limit found trail left x = (helds : List (Held E)) → IsTree (T x) helds → ChainAt (T x) hash limit helds found trail left

-- what is found, of whatever the tree holds
abbrev pub FindsAll : {E : Type 0} → (List ℕ → Tree E) → (E → ℕ) → ℕ → List E → List ℕ → Type 0
FindsAll {E} T hash limit found x = (entries : List E) → TreeHolds (T x) entries → found ≡ filter (λ entry. hash entry == limit) entries

module _ {E : Type 0} (T : List ℕ → Tree E) (hash : E → ℕ) (laws : (x : List ℕ) → LeafLaws (T x) hash) (once : (x bytes : List ℕ) (a b : List E) → (T x).HoldsLeaf bytes a → (T x).HoldsLeaf bytes b → a ≡ b) (limit : ℕ) where
  pub chain_over_first : (image : Option (List ℕ)) (bytes : List ℕ) (file_block : ℕ) (held : Held E) (visit : Visit) (found : List E) (left : Met)
      → visit.file_block ≡ file_block → left ≡ met_with bytes visit held.ends → found ≡ filter (λ entry. hash entry == limit) held.entries
      → IfSome image (λ x. (helds : List (Held E)) → IsTree (T x) helds → ComesDown (T x) hash limit helds bytes file_block held)
      → IfSome image (ChainAll T hash limit found [] left)
  chain_over_first image bytes file_block held visit found left at left_is found_are down =
      over_one (λ x. (helds : List (Held E)) → IsTree (T x) helds → ComesDown (T x) hash limit helds bytes file_block held) (ChainAll T hash limit found [] left) image
      (λ x d helds tree. chain_first (T x) hash limit (laws x) helds bytes file_block held visit found left at left_is found_are (d helds tree)) down

  -- what was fetched, by the leaves that end with the hash, where the last leaf needs none behind it
  pub few_over_last : (image : Option (List ℕ)) (found : List E) (trail : List Met) (left : Met) (before now : ℕ) → IfSome image (ChainAll T hash limit found trail left)
      → IfSome image (λ x. now ≤ before + levels_of_tree (T x) + length trail)
      → IfSome image (λ x. (helds : List (Held E)) → IsTree (T x) helds → now ≤ before + levels_of_tree (T x) + leaves_to limit helds)
  few_over_last image found trail left before now chain few =
      over_two (ChainAll T hash limit found trail left) (λ x. now ≤ before + levels_of_tree (T x) + length trail) (λ x. (helds : List (Held E)) → IsTree (T x) helds → now ≤ before + levels_of_tree (T x) + leaves_to limit helds) image
      (λ x c so helds tree. let reads = chain_reads (T x) hash limit helds found trail left (c helds tree) in omega (arith, reads, so)) chain few

  -- the same where the leaf on the right is read too
  pub few_over_next : (image : Option (List ℕ)) (found : List E) (trail : List Met) (left : Met) (before mid now : ℕ) → left.right ≢ 0 → left.last ≤ limit → now ≤ mid + 1
      → IfSome image (ChainAll T hash limit found trail left) → IfSome image (λ x. mid ≤ before + levels_of_tree (T x) + length trail)
      → IfSome image (λ x. (helds : List (Held E)) → IsTree (T x) helds → now ≤ before + levels_of_tree (T x) + leaves_to limit helds)
  few_over_next image found trail left before mid now some low one chain few =
      over_two (ChainAll T hash limit found trail left) (λ x. mid ≤ before + levels_of_tree (T x) + length trail) (λ x. (helds : List (Held E)) → IsTree (T x) helds → now ≤ before + levels_of_tree (T x) + leaves_to limit helds) image
      (λ x c so helds tree. let reads = chain_reads_next (T x) hash limit helds found trail left some low (c helds tree) in omega (arith, reads, so, one)) chain few

  pub chain_over_last : (image : Option (List ℕ)) (found : List E) (trail : List Met) (left : Met) → (left.right ≡ 0) ⊎ (limit < left.last)
      → IfSome image (ChainAll T hash limit found trail left) → IfSome image (FindsAll T hash limit found)
  chain_over_last image found trail left done chain =
      over_one (ChainAll T hash limit found trail left) (FindsAll T hash limit found) image
      (λ x c entries holds. chain_last (T x) hash limit (laws x) holds.0 found trail left done (c holds.0 holds.1) ∙ ap (filter (λ entry. hash entry == limit)) (sym holds.2)) chain

  pub chain_over_on : (image : Option (List ℕ)) (found found_now : List E) (trail : List Met) (left now : Met) (held : Held E) (bytes : List ℕ) → left.right ≢ 0 → left.last ≤ limit
      → found_now ≡ found ++ filter (λ entry. hash entry == limit) held.entries → now ≡ met_with bytes (right_of left) held.ends
      → IfSome image (λ x. bytes ≡ bytes_at (T x) left.right) → IfSome image (λ x. Stands (T x) (left ∷ trail) (right_of left) held)
      → IfSome image (ChainAll T hash limit found trail left) → IfSome image (ChainAll T hash limit found_now (left ∷ trail) now)
  chain_over_on image found found_now trail left now held bytes some low_last found_are now_is are stands chain =
      over_two (λ x. (bytes ≡ bytes_at (T x) left.right) × Stands (T x) (left ∷ trail) (right_of left) held) (ChainAll T hash limit found trail left) (ChainAll T hash limit found_now (left ∷ trail) now) image
      (λ x read c helds tree.
      let on = continues (T x) hash limit (laws x) helds found trail left some low_last (c helds tree) in
      let same : held ≡ on.held = held_once (T x).HoldsLeaf (T x).ends_of_leaf (once x) (bytes_at (T x) left.right) held on.held read.1.alone.holds on.stands.alone.holds in
      on.on found_now now (found_are ∙ ap (λ (h : Held E). found ++ filter (λ entry. hash entry == limit) h.entries) same)
      (now_is ∙ ap (λ (bs : List ℕ). met_with bs (right_of left) held.ends) read.0 ∙ ap (λ (h : Held E). met_with (bytes_at (T x) left.right) (right_of left) h.ends) same))
      (over_two (λ x. bytes ≡ bytes_at (T x) left.right) (λ x. Stands (T x) (left ∷ trail) (right_of left) held) (λ x. (bytes ≡ bytes_at (T x) left.right) × Stands (T x) (left ∷ trail) (right_of left) held) image (λ x b s. (b, s)) are stands) chain

-- the way down alone
pub few_over_way : {E : Type 0} (T : List ℕ → Tree E) (limit : ℕ) (image : Option (List ℕ)) (before now : ℕ) → IfSome image (λ x. now ≤ before + levels_of_tree (T x))
    → IfSome image (λ x. (helds : List (Held E)) → IsTree (T x) helds → now ≤ before + levels_of_tree (T x) + leaves_to limit helds)
few_over_way {E} T limit image before now few =
    over_one (λ x. now ≤ before + levels_of_tree (T x)) (λ x. (helds : List (Held E)) → IsTree (T x) helds → now ≤ before + levels_of_tree (T x) + leaves_to limit helds) image
    (λ x so helds tree. omega (arith, so)) few

-- the way along the right siblings goes on to the next leaf
pub follows_over_on : {E : Type 0} (T : List ℕ → Tree E) (limit : ℕ) (image : Option (List ℕ)) (trail : List Met) (left now : Met) (held : Held E) (bytes : List ℕ) → left.right ≢ 0 → left.last ≤ limit
    → level_in bytes ≡ 0 → now ≡ met_with bytes (right_of left) held.ends
    → IfSome image (λ x. bytes ≡ bytes_at (T x) left.right) → IfSome image (λ x. Stands (T x) (left ∷ trail) (right_of left) held)
    → IfSome image (FollowsOn T limit left trail) → IfSome image (FollowsOn T limit now (left ∷ trail))
follows_over_on T limit image trail left now held bytes some low flat now_is are stands follows =
    over_three (λ x. bytes ≡ bytes_at (T x) left.right) (λ x. Stands (T x) (left ∷ trail) (right_of left) held) (FollowsOn T limit left trail) (FollowsOn T limit now (left ∷ trail)) image
    (λ x b s on others block more.
    let goes : GoesRight limit left = record { some = some; low = low } in
    let there : now ≡ met_with (bytes_at (T x) left.right) (right_of left) held.ends = now_is ∙ ap (λ (bs : List ℕ). met_with bs (right_of left) held.ends) b in
    on (held ∷ others) block (goes, (ap level_in (sym b) ∙ flat, s), subst (λ (m : Met). FollowsToFault (T x) limit others m (left ∷ trail) block) there more)) are stands follows

module _ {E S : Type 0} (store : Ghosts S) (T : List ℕ → Tree E) (fork : Fork) (hash : E → ℕ) (laws : (x : List ℕ) → LeafLaws (T x) hash) (limit : ℕ) where
  pub chain_fault : (found : List E) (trail : List Met) (left : Met) (old mid new : S) (fault : ForkFault) → left.right ≢ 0 → left.last ≤ limit
      → StoreStays store old mid → ((x : List ℕ) → tree_fork (store.shape old) fork ≡ (T x).fork)
      → IfSome (store.image old) (ChainAll T hash limit found trail left) → IfSome (store.image old) (FollowsOn T limit left trail)
      → IsTreeFault store (λ x block. (block ≡ block_number (tree_fork (store.shape old) fork) left.right) × IsNoLeaf (T x) (left ∷ trail) (right_of left)) fork mid new fault
      → IsTreeFault store (λ x. FailsFor (T x) limit) fork old new fault
  chain_fault found trail left old mid new fault some low_last stays forks chain follows fails =
      let f = tree_fork (store.shape old) fork in
      let P : List ℕ → ℕ → Type 0 = λ x block. (block ≡ block_number f left.right) × IsNoLeaf (T x) (left ∷ trail) (right_of left) in
      fault_over store fork P (λ x. FailsFor (T x) limit) old mid new fault stays
      (λ block there. over_three (ChainAll T hash limit found trail left) (FollowsOn T limit left trail) (λ x. P x block) (λ x. FailsFor (T x) limit block) (store.image old)
      (λ x c on p.
      let no_tree : (helds : List (Held E)) → IsTree (T x) helds → ⊥ = λ helds tree.
      let next = continues (T x) hash limit (laws x) helds found trail left some low_last (c helds tree) in
      p.1 next.held next.flat next.stands in
      let goes : GoesRight limit left = record { some = some; low = low_last } in
      (no_tree, on [] block (goes, subst (λ (t : TreeFork). block ≡ block_number t left.right) (forks x) p.0, λ held stands. p.1 held stands.0 stands.1))) chain follows there) fails
