-- Which blocks a walk has fetched: those that it met, each once, and maybe the one that comes next.
use Rattle.std.proofs.Common.{◌≡◌, ◌≢◌, ℕ, ◌+◌, ◌≤◌, List, [], ◌∷◌, ◌++◌, length, sym, subst, inl, inr, arith}
use Rattle.std.specs.Prelude.{All, AllPairs, IsSome, IsTrue, ◌⊎◌, map, Option}
use Rattle.std.proofs.lemmas.List.{length-map}
use Rattle.std.proofs.lemmas.List.Elements.{All-append, All-cons, All-map, All-nil, All-head, All-tail}
use Rattle.std.proofs.lemmas.List.Kept.{AllPairs-cons}
use Rattle.xn_bytes.specs.Costs.{mapped_count}
use Rattle.xn_bytes.specs.Extents.{Run, mapped}
use Rattle.xn_bytes.specs.Superblock.{Geometry}
use Rattle.xn_bytes.specs.Trees.{Held, Met, Visit, StandsAlone, is_tree_number, met_with, visit_to}
use Rattle.xn_inode.proofs.Counts.{few_of_mapped}
use Rattle.xn_datree.specs.declared.fork.Fork.{Fork}
use Rattle.xn_datree.specs.Forks.{tree_fork, FetchesBlocks}

abbrev pub file_blocks : List Met → List ℕ
file_blocks met = map (λ one. one.file_block) met

-- a mapped block that was not met
abbrev pub IsNewTo : List Run → List Met → ℕ → Type 0
IsNewTo runs met file_block = IsSome (mapped runs file_block) × All (λ one. one.file_block ≢ file_block) met

-- the blocks that were met are mapped, and each was met once
pub record AreOnce (runs : List Run) (met : List Met) : Type 0 where
  pub once : AllPairs (λ a b. a ≢ b) (file_blocks met)
  pub there : All (λ file_block. IsSome (mapped runs file_block)) (file_blocks met)

pub once_none : (runs : List Run) → AreOnce runs []
once_none runs = record {
  once = λ i j d below within. absurd (omega arith);
  there = λ k d below. absurd (omega arith);
}

differ : (file_block : ℕ) (met : List Met) → All (λ one. one.file_block ≢ file_block) met → All (λ other. file_block ≢ other) (file_blocks met)
differ file_block met new = All-map (λ (other : ℕ). file_block ≢ other) (λ (one : Met). one.file_block) met (λ k d below same. new k d below (sym same))

pub once_more : (runs : List Run) (one : Met) (met : List Met) → IsNewTo runs met one.file_block → AreOnce runs met → AreOnce runs (one ∷ met)
once_more runs one met new once = record {
  once = AllPairs-cons (λ (a b : ℕ). a ≢ b) one.file_block (file_blocks met) (differ one.file_block met new.1) once.once;
  there = All-cons (λ (file_block : ℕ). IsSome (mapped runs file_block)) one.file_block (file_blocks met) new.0 once.there;
}

pub once_few : (runs : List Run) (met : List Met) → AreOnce runs met → length met ≤ mapped_count runs
once_few runs met once =
    let few = few_of_mapped runs (file_blocks met) once.once once.there in
    let long = length-map met (λ (one : Met). one.file_block) in
    omega (arith, few, long)

-- ---- a walk

-- the root's file block, or one that the tree can have
abbrev pub IsOfTree : Fork → ℕ → Type 0
IsOfTree fork file_block = (file_block ≡ fork.root) ⊎ IsTrue (is_tree_number fork.attribute file_block)

-- what was met is of the tree, each block once; and of the tree is what is to be read
pub record MeetsOnce (fork : Fork) (met : List Met) (agenda : List Visit) : Type 0 where
  pub once : AreOnce fork.extents met
  pub of_tree : All (IsOfTree fork) (file_blocks met)
  pub asks : All (λ visit. IsOfTree fork visit.file_block) agenda

pub meets_first : (fork : Fork) (visit : Visit) (met : List Met) (agenda : List Visit) → visit.file_block ≡ fork.root → met ≡ [] → agenda ≡ visit ∷ [] → MeetsOnce fork met agenda
meets_first fork visit met agenda root m a = rw (m, a) (record {
  once = once_none fork.extents;
  of_tree = All-nil (IsOfTree fork);
  asks = All-cons (λ (v : Visit). IsOfTree fork v.file_block) visit [] (inl root) (All-nil (λ (v : Visit). IsOfTree fork v.file_block));
})

pub meets_on : {E : Type 0} (H : List ℕ → List E → Type 0) (ends : List ℕ → Option (ℕ × ℕ)) (g : Geometry) (fork : Fork) (bytes : List ℕ) (visit : Visit) (held : Held E)
    → (whole rest agenda : List Visit) (level : ℕ) (met met' : List Met)
    → whole ≡ visit ∷ rest → agenda ≡ map (visit_to level) held.children ++ rest → met' ≡ met_with bytes visit held.ends ∷ met
    → StandsAlone H ends (tree_fork g fork) bytes visit held → All (λ one. one.file_block ≢ visit.file_block) met
    → MeetsOnce fork met whole → MeetsOnce fork met' agenda
meets_on H ends g fork bytes visit held whole rest agenda level met met' w a m alone new meets =
    let asks = subst (All (λ (v : Visit). IsOfTree fork v.file_block)) w meets.asks in
    rw (m, a) (record {
      once = once_more fork.extents (met_with bytes visit held.ends) met (alone.there, new) meets.once;
      of_tree = All-cons (IsOfTree fork) visit.file_block (file_blocks met) (All-head (λ (v : Visit). IsOfTree fork v.file_block) visit rest asks) meets.of_tree;
      asks = All-append (λ (v : Visit). IsOfTree fork v.file_block) (map (visit_to level) held.children) rest
          (All-map (λ (v : Visit). IsOfTree fork v.file_block) (visit_to level) held.children (λ k d below. inr (alone.children k d below).number))
          (All-tail (λ (v : Visit). IsOfTree fork v.file_block) visit rest asks);
    })

pub fetches_met : (fork : Fork) (met : List Met) (agenda : List Visit) (before now : ℕ) → MeetsOnce fork met agenda → now ≤ before + length met → FetchesBlocks fork before now
fetches_met fork met agenda before now meets few = record {
  read = file_blocks met;
  once = meets.once.once;
  there = meets.once.there;
  of_tree = meets.of_tree;
  fetches = let long = length-map met (λ (one : Met). one.file_block) in omega (arith, few, long);
}

-- the next block was read too, or was not fetched
pub fetches_next : (fork : Fork) (met : List Met) (visit : Visit) (whole rest : List Visit) (before mid now : ℕ) → whole ≡ visit ∷ rest → MeetsOnce fork met whole
    → mid ≤ before + length met → now ≤ mid + 1 → ((now ≤ mid) ⊎ IsNewTo fork.extents met visit.file_block) → FetchesBlocks fork before now
fetches_next fork met visit whole rest before mid now w meets few one (inl none) = fetches_met fork met whole before now meets (omega (arith, few, none))
fetches_next fork met visit whole rest before mid now w meets few one (inr new) =
    let asks = subst (All (λ (v : Visit). IsOfTree fork v.file_block)) w meets.asks in
    let read : Met = record { file_block = visit.file_block; level = 0; right = 0; last = 0 } in
    let once = once_more fork.extents read met new meets.once in
    record {
      read = file_blocks (read ∷ met);
      once = once.once;
      there = once.there;
      of_tree = All-cons (IsOfTree fork) visit.file_block (file_blocks met) (All-head (λ (v : Visit). IsOfTree fork v.file_block) visit rest asks) meets.of_tree;
      fetches = let long = length-map met (λ (one : Met). one.file_block) in omega (arith, few, one, long);
    }
