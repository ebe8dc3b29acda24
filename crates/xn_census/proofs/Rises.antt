-- What rises where the numbers of the live inodes do: the directories among them, and where steps start.
use Rattle.std.proofs.Common.{◌≡◌, inl, inr, ℕ, zero, suc, ◌+◌, ◌<◌, ◌≤◌, List, [], ◌∷◌, ◌++◌, length, map, get_or, refl, sym, ap, subst, ◌∙◌, arith}
use Rattle.std.specs.Prelude.{All, filter}
use Rattle.std.specs.List.{AllAdjacentBelow}
use Rattle.std.specs.List.Sorted.{IsNonDecreasingBy}
use Rattle.std.proofs.lemmas.List.{map-append}
use Rattle.std.proofs.lemmas.List.Elements.{All-append, All-cons, All-head, All-nil, All-tail, All-weaker, filter-append}
use Rattle.xn_facts.specs.declared.facts.Node.{Node}
use Rattle.xn_dir.specs.declared.listing.Listed.{Listed}
use Rattle.xn_names.specs.declared.entry.Naming.{Naming}
use Rattle.xn_names.proofs.Filtered.{map-filter}
use Rattle.xn_reach.specs.declared.step.Step.{Step}
use Rattle.xn_census.specs.declared.census.Held.{Held}
use Rattle.xn_census.specs.declared.sorted_out.SortedOut.{SortedOut}
use Rattle.xn_census.specs.declared.sorted_out.Whole.{Whole}
use Rattle.xn_census.specs.Census.{AreAmong}
use Rattle.xn_census.specs.SortedOut.{AreSortedOut, AreTaken, SortsOut, lists_directory, named_in, names_directory, step_in, steps_in}

module _ {X : Type 0} (key : X → ℕ) where
  abbrev pub Rises : List X → Type 0
  Rises xs = AllAdjacentBelow (λ a b. key a < key b) xs (length xs)

  abbrev pub AreAbove : ℕ → List X → Type 0
  AreAbove least xs = All (λ x. least < key x) xs

  pub rises_none : Rises []
  rises_none k d low = let none : k + 1 < 0 = low in absurd (omega arith)

  pub rises_behind : (x : X) (xs : List X) → Rises (x ∷ xs) → Rises xs
  rises_behind x xs rises k d low =
      let one : suc k + 1 ≡ suc (k + 1) = omega arith in
      subst (λ (n : ℕ). key (get_or xs k d) < key (get_or (x ∷ xs) n d)) one (rises (suc k) d (omega arith))

  pub above_first : (x : X) (xs : List X) → Rises (x ∷ xs) → AreAbove (key x) xs
  above_first x xs rises zero d low = rises 0 d (omega arith)
  above_first x xs rises (suc k) d low =
      let before : key x < key (get_or xs k d) = above_first x xs rises k d (omega arith) in
      let here : key (get_or xs k d) < key (get_or xs (k + 1) d) = rises_behind x xs rises k d (omega arith) in
      let one : k + 1 ≡ suc k = omega arith in
      subst (λ (n : ℕ). key x < key (get_or xs n d)) one (omega (arith, before, here))

  pub rises_on : (x : X) (xs : List X) → AreAbove (key x) xs → Rises xs → Rises (x ∷ xs)
  rises_on x xs above rises zero d low = above 0 d (omega arith)
  rises_on x xs above rises (suc k) d low =
      let one : suc (k + 1) ≡ suc k + 1 = omega arith in
      subst (λ (n : ℕ). key (get_or xs k d) < key (get_or (x ∷ xs) n d)) one (rises k d (omega arith))

  -- numbers that don't fall
  pub falls_never_on : (x : X) (xs : List X) → All (λ y. key x ≤ key y) xs → IsNonDecreasingBy key xs → IsNonDecreasingBy key (x ∷ xs)
  falls_never_on x xs least never zero zero d before low = omega arith
  falls_never_on x xs least never zero (suc j) d before low = least j d (omega arith)
  falls_never_on x xs least never (suc i) zero d before low = absurd (omega (arith, before))
  falls_never_on x xs least never (suc i) (suc j) d before low = never i j d (omega (arith, before)) (omega arith)

  pub falls_never_of_one : (number : ℕ) (xs ys : List X) → All (λ x. key x ≡ number) xs → AreAbove number ys → IsNonDecreasingBy key ys → IsNonDecreasingBy key (xs ++ ys)
  falls_never_of_one number [] ys same above never = never
  falls_never_of_one number (x ∷ xs) ys same above never =
      let is : key x ≡ number = All-head (λ (z : X). key z ≡ number) x xs same in
      let behind : All (λ (z : X). key z ≡ number) xs = All-tail (λ (z : X). key z ≡ number) x xs same in
      let least_x : All (λ (z : X). key x ≤ key z) xs = All-weaker (λ (z : X). key z ≡ number) (λ (z : X). key x ≤ key z) (λ z e. omega (arith, is, e)) xs behind in
      let least_y : All (λ (z : X). key x ≤ key z) ys = All-weaker (λ (z : X). number < key z) (λ (z : X). key x ≤ key z) (λ z e. omega (arith, is, e)) ys above in
      falls_never_on x (xs ++ ys) (All-append (λ (z : X). key x ≤ key z) xs ys least_x least_y) (falls_never_of_one number xs ys behind above never)

abbrev pub itself : ℕ → ℕ
itself n = n

abbrev dir_of : Held → ℕ
dir_of held = held.dir

-- ---- directories among inodes

among_above : (least : ℕ) (inodes : List ℕ) (helds : List Held) → AreAbove itself least inodes → AreAmong inodes helds → AreAbove dir_of least helds
among_above least [] helds above are = subst (λ (hs : List Held). AreAbove dir_of least hs) (sym are) (All-nil (λ (held : Held). least < held.dir))
among_above least (ino ∷ inodes) helds above (inl (one, rest, both, dir, are)) =
    let first : least < ino = All-head (λ (n : ℕ). least < n) ino inodes above in
    let further : AreAbove dir_of least rest = among_above least inodes rest (All-tail (λ (n : ℕ). least < n) ino inodes above) are in
    subst (λ (hs : List Held). AreAbove dir_of least hs) (sym both) (All-cons (λ (held : Held). least < held.dir) one rest (omega (arith, first, dir)) further)
among_above least (ino ∷ inodes) helds above (inr are) = among_above least inodes helds (All-tail (λ (n : ℕ). least < n) ino inodes above) are

pub among_rise : (inodes : List ℕ) (helds : List Held) → AllAdjacentBelow (λ (a b : ℕ). a < b) inodes (length inodes) → AreAmong inodes helds → AllAdjacentBelow (λ (a b : Held). a.dir < b.dir) helds (length helds)
among_rise [] helds rise are = subst (λ (hs : List Held). Rises dir_of hs) (sym are) (rises_none dir_of)
among_rise (ino ∷ inodes) helds rise (inl (one, rest, both, dir, are)) =
    let above : AreAbove dir_of ino rest = among_above ino inodes rest (above_first itself ino inodes rise) are in
    let behind : Rises dir_of rest = among_rise inodes rest (rises_behind itself ino inodes rise) are in
    subst (λ (hs : List Held). Rises dir_of hs) (sym both) (rises_on dir_of one rest (subst (λ (n : ℕ). AreAbove dir_of n rest) (sym dir) above) behind)
among_rise (ino ∷ inodes) helds rise (inr are) = among_rise inodes helds (rises_behind itself ino inodes rise) are

-- ---- what is sorted out of them

abbrev whole_dir : Whole → ℕ
whole_dir whole = whole.dir

abbrev start_of : Step → ℕ
start_of step = step.from

-- the step that an entry is
abbrev pub step_of : Naming → Step
step_of n = record { from = n.dir; to = n.ino }

named_steps : (held : Held) (items : List Listed) → map (step_in held) items ≡ map step_of (map (named_in held) items)
named_steps held [] = refl
named_steps held (l ∷ items) = ap (λ (steps : List Step). step_in held l ∷ steps) (named_steps held items)

directory_steps : (held : Held) (items : List Listed) → steps_in held items ≡ map step_of (filter names_directory (map (named_in held) items))
directory_steps held items = named_steps held (filter lists_directory items) ∙ ap (map step_of) (map-filter (named_in held) names_directory items)

steps_taken : (held : Held) (whole : Whole) (own : List Naming) (out : List Step) → AreTaken held whole own out → out ≡ map step_of (filter names_directory own)
steps_taken held whole own out (inl (right, namings, steps)) =
    steps ∙ directory_steps held held.contents.entries.items ∙ ap (λ (ns : List Naming). map step_of (filter names_directory ns)) (sym namings)
steps_taken held whole own out (inr (wrong, namings, steps)) = steps ∙ ap (λ (ns : List Naming). map step_of (filter names_directory ns)) (sym namings)

sorted_steps : (nodes : List Node) (helds : List Held) (wholes : List Whole) (namings : List Naming) (steps : List Step) → AreSortedOut nodes helds wholes namings steps → steps ≡ map step_of (filter names_directory namings)
sorted_steps nodes [] wholes namings steps sorted = sorted.2 ∙ ap (λ (ns : List Naming). map step_of (filter names_directory ns)) (sym sorted.1)
sorted_steps nodes (held ∷ helds) wholes namings steps (whole, others, own, rest, out, further, is, taken, are, wholes_are, namings_are, steps_are) =
    steps_are
    ∙ ap (λ (front : List Step). front ++ further) (steps_taken held whole own out taken)
    ∙ ap (λ (behind : List Step). map step_of (filter names_directory own) ++ behind) (sorted_steps nodes helds others rest further are)
    ∙ sym (map-append step_of (filter names_directory own) (filter names_directory rest))
    ∙ ap (map step_of) (sym (filter-append names_directory own rest))
    ∙ ap (λ (ns : List Naming). map step_of (filter names_directory ns)) (sym namings_are)

all_start_in : (held : Held) (items : List Listed) → All (λ (step : Step). step.from ≡ held.dir) (map (step_in held) items)
all_start_in held [] = All-nil (λ (step : Step). step.from ≡ held.dir)
all_start_in held (l ∷ items) = All-cons (λ (step : Step). step.from ≡ held.dir) (step_in held l) (map (step_in held) items) refl (all_start_in held items)

start_there : (held : Held) (whole : Whole) (own : List Naming) (out : List Step) → AreTaken held whole own out → All (λ (step : Step). step.from ≡ held.dir) out
start_there held whole own out (inl (right, namings, steps)) = subst (λ (ss : List Step). All (λ (step : Step). step.from ≡ held.dir) ss) (sym steps) (all_start_in held (filter lists_directory held.contents.entries.items))
start_there held whole own out (inr (wrong, namings, steps)) = subst (λ (ss : List Step). All (λ (step : Step). step.from ≡ held.dir) ss) (sym steps) (All-nil (λ (step : Step). step.from ≡ held.dir))

wholes_above : (nodes : List Node) (least : ℕ) (helds : List Held) (wholes : List Whole) (namings : List Naming) (steps : List Step) → AreAbove dir_of least helds → AreSortedOut nodes helds wholes namings steps → AreAbove whole_dir least wholes
wholes_above nodes least [] wholes namings steps above sorted = subst (λ (ws : List Whole). AreAbove whole_dir least ws) (sym sorted.0) (All-nil (λ (whole : Whole). least < whole.dir))
wholes_above nodes least (held ∷ helds) wholes namings steps above (whole, others, own, rest, out, further, is, taken, are, wholes_are, namings_are, steps_are) =
    let first : least < held.dir = All-head (λ (h : Held). least < h.dir) held helds above in
    let same : whole.dir ≡ held.dir = is.dir in
    let behind : AreAbove whole_dir least others = wholes_above nodes least helds others rest further (All-tail (λ (h : Held). least < h.dir) held helds above) are in
    subst (λ (ws : List Whole). AreAbove whole_dir least ws) (sym wholes_are) (All-cons (λ (w : Whole). least < w.dir) whole others (omega (arith, first, same)) behind)

steps_above : (nodes : List Node) (least : ℕ) (helds : List Held) (wholes : List Whole) (namings : List Naming) (steps : List Step) → AreAbove dir_of least helds → AreSortedOut nodes helds wholes namings steps → AreAbove start_of least steps
steps_above nodes least [] wholes namings steps above sorted = subst (λ (ss : List Step). AreAbove start_of least ss) (sym sorted.2) (All-nil (λ (step : Step). least < step.from))
steps_above nodes least (held ∷ helds) wholes namings steps above (whole, others, own, rest, out, further, is, taken, are, wholes_are, namings_are, steps_are) =
    let first : least < held.dir = All-head (λ (h : Held). least < h.dir) held helds above in
    let here : AreAbove start_of least out = All-weaker (λ (step : Step). step.from ≡ held.dir) (λ (step : Step). least < step.from) (λ step e. omega (arith, first, e)) out (start_there held whole own out taken) in
    let behind : AreAbove start_of least further = steps_above nodes least helds others rest further (All-tail (λ (h : Held). least < h.dir) held helds above) are in
    subst (λ (ss : List Step). AreAbove start_of least ss) (sym steps_are) (All-append (λ (step : Step). least < step.from) out further here behind)

wholes_in_order : (nodes : List Node) (helds : List Held) (wholes : List Whole) (namings : List Naming) (steps : List Step) → Rises dir_of helds → AreSortedOut nodes helds wholes namings steps → Rises whole_dir wholes
wholes_in_order nodes [] wholes namings steps rise sorted = subst (λ (ws : List Whole). Rises whole_dir ws) (sym sorted.0) (rises_none whole_dir)
wholes_in_order nodes (held ∷ helds) wholes namings steps rise (whole, others, own, rest, out, further, is, taken, are, wholes_are, namings_are, steps_are) =
    let above : AreAbove whole_dir held.dir others = wholes_above nodes held.dir helds others rest further (above_first dir_of held helds rise) are in
    let behind : Rises whole_dir others = wholes_in_order nodes helds others rest further (rises_behind dir_of held helds rise) are in
    subst (λ (ws : List Whole). Rises whole_dir ws) (sym wholes_are) (rises_on whole_dir whole others (subst (λ (n : ℕ). AreAbove whole_dir n others) (sym is.dir) above) behind)

steps_in_order : (nodes : List Node) (helds : List Held) (wholes : List Whole) (namings : List Naming) (steps : List Step) → Rises dir_of helds → AreSortedOut nodes helds wholes namings steps → IsNonDecreasingBy start_of steps
steps_in_order nodes [] wholes namings steps rise sorted = subst (λ (ss : List Step). IsNonDecreasingBy start_of ss) (sym sorted.2) (λ i j d before low. let none : j < 0 = low in absurd (omega arith))
steps_in_order nodes (held ∷ helds) wholes namings steps rise (whole, others, own, rest, out, further, is, taken, are, wholes_are, namings_are, steps_are) =
    let above : AreAbove start_of held.dir further = steps_above nodes held.dir helds others rest further (above_first dir_of held helds rise) are in
    let behind : IsNonDecreasingBy start_of further = steps_in_order nodes helds others rest further (rises_behind dir_of held helds rise) are in
    subst (λ (ss : List Step). IsNonDecreasingBy start_of ss) (sym steps_are) (falls_never_of_one start_of held.dir out further (start_there held whole own out taken) above behind)

-- of directories that rise
pub wholes_rise : (nodes : List Node) (helds : List Held) (out : SortedOut) → AllAdjacentBelow (λ (a b : Held). a.dir < b.dir) helds (length helds) → SortsOut nodes helds out
    → AllAdjacentBelow (λ (a b : Whole). a.dir < b.dir) out.wholes.items (length out.wholes.items)
wholes_rise nodes helds out rise sorts = wholes_in_order nodes helds out.wholes.items out.namings.items out.steps.items rise sorts

pub steps_rise : (nodes : List Node) (helds : List Held) (out : SortedOut) → AllAdjacentBelow (λ (a b : Held). a.dir < b.dir) helds (length helds) → SortsOut nodes helds out → IsNonDecreasingBy (λ (step : Step). step.from) out.steps.items
steps_rise nodes helds out rise sorts = steps_in_order nodes helds out.wholes.items out.namings.items out.steps.items rise sorts

-- the steps are those of the entries that are directories
pub steps_are : (nodes : List Node) (helds : List Held) (out : SortedOut) → SortsOut nodes helds out → out.steps.items ≡ map step_of (filter names_directory out.namings.items)
steps_are nodes helds out sorts = sorted_steps nodes helds out.wholes.items out.namings.items out.steps.items sorts
