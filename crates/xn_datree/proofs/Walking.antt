-- A walk that has come to a moment, and what the moments behind it say of the whole tree.
use Rattle.std.proofs.Common.{◌≡◌, ◌+◌, ◌≤◌, length, arith, ℕ, List, [], ◌∷◌, ◌++◌, Option, Some, None, refl, sym, ap, subst, ◌∙◌, append_assoc, append-nil}
use Rattle.std.specs.Prelude.{IfSome}
use Rattle.std.proofs.lemmas.Grind.{flat_map-append}
use lib.ListN.{length-append}
use Rattle.xn_bytes.specs.Trees.{Tree, Held, Met, Visit, Stands, Walks, WalksToFault, IsTree, TreeHolds, BreaksAt, AreEnds, IsOpenEnd, entries_in, root_visit, met_with, visits_below, bytes_at, block_number}

-- The blocks that were read hold these things, with these entries; and however the walk goes on, it goes on so from the
-- root.
pub record Led {E : Type 0} (tree : Tree E) (entries : List E) (met : List Met) (agenda : List Visit) : Type 0 where
  pub helds : List (Held E)
  pub entries_are : entries ≡ entries_in helds
  pub as_many : length met ≡ length helds
  pub goes : (more : List (Held E)) → Walks tree more met agenda → IsTree tree (helds ++ more)
  pub breaks : (more : List (Held E)) (block : ℕ) → WalksToFault tree more met agenda block → WalksToFault tree (helds ++ more) [] (root_visit tree.fork ∷ []) block

pub led_first : {E : Type 0} (tree : Tree E) → Led tree [] [] (root_visit tree.fork ∷ [])
led_first tree = record {
  helds = [];
  entries_are = refl;
  as_many = refl;
  goes = λ more walks. walks;
  breaks = λ more block walks. walks;
}

pub led_on : {E : Type 0} (tree : Tree E) (entries : List E) (met : List Met) (visit : Visit) (agenda : List Visit) (held : Held E) (bytes : List ℕ)
    → bytes ≡ bytes_at tree visit.file_block → Stands tree met visit held → Led tree entries met (visit ∷ agenda)
    → Led tree (entries ++ held.entries) (met_with bytes visit held.ends ∷ met) (visits_below bytes held ++ agenda)
led_on {E} tree entries met visit agenda held bytes is stands led =
    let at_block : Led tree (entries ++ held.entries) (met_with (bytes_at tree visit.file_block) visit held.ends ∷ met) (visits_below (bytes_at tree visit.file_block) held ++ agenda) = record {
      helds = led.helds ++ held ∷ [];
      entries_are =
          ap (λ (es : List E). es ++ held.entries) led.entries_are
          ∙ ap (λ (es : List E). entries_in led.helds ++ es) (sym (append-nil held.entries))
          ∙ sym (flat_map-append (λ (h : Held E). h.entries) led.helds (held ∷ []));
      as_many = let longer = length-append led.helds (held ∷ []) in omega (arith, led.as_many, longer);
      goes = λ more walks. subst (IsTree tree) (sym (append_assoc led.helds (held ∷ []) more)) (led.goes (held ∷ more) (stands, walks));
      breaks = λ more block walks. subst (λ (hs : List (Held E)). WalksToFault tree hs [] (root_visit tree.fork ∷ []) block) (sym (append_assoc led.helds (held ∷ []) more)) (led.breaks (held ∷ more) block (stands, walks));
    } in
    subst (λ (bs : List ℕ). Led tree (entries ++ held.entries) (met_with bs visit held.ends ∷ met) (visits_below bs held ++ agenda)) (sym is) at_block

pub led_to_end : {E : Type 0} (tree : Tree E) (entries : List E) (met : List Met) → AreEnds met → Led tree entries met [] → TreeHolds tree entries
led_to_end {E} tree entries met ends led =
    let all = append-nil led.helds in
    (led.helds, subst (IsTree tree) all (led.goes [] ends), led.entries_are)

pub led_to_reads : {E : Type 0} (tree : Tree E) (entries : List E) (met : List Met) (reads : ℕ) → AreEnds met → Led tree entries met [] → reads ≤ length met → (helds : List (Held E)) × IsTree tree helds × (reads ≤ length helds)
led_to_reads {E} tree entries met reads ends led few =
    let all = append-nil led.helds in
    (led.helds, subst (IsTree tree) all (led.goes [] ends), omega (arith, few, led.as_many))

pub led_to_fault : {E : Type 0} (tree : Tree E) (entries : List E) (met : List Met) (visit : Visit) (agenda : List Visit)
    → ((held : Held E) → Stands tree met visit held → ⊥) → Led tree entries met (visit ∷ agenda) → BreaksAt tree (block_number tree.fork visit.file_block)
led_to_fault tree entries met visit agenda fails led = (led.helds ++ [], led.breaks [] _ (refl, fails))

pub led_to_open_end : {E : Type 0} (tree : Tree E) (entries : List E) (met : List Met) (last : Met)
    → IsOpenEnd met last → Led tree entries met [] → BreaksAt tree (block_number tree.fork last.file_block)
led_to_open_end tree entries met last is_open led = (led.helds ++ [], led.breaks [] _ (last, is_open, refl))

-- ---- over an image, where one is told

pub over_all : (P : List ℕ → Type 0) (image : Option (List ℕ)) → ((x : List ℕ) → P x) → IfSome image P
over_all P None f = tt
over_all P (Some x) f = f x

pub over_one : (P Q : List ℕ → Type 0) (image : Option (List ℕ)) → ((x : List ℕ) → P x → Q x) → IfSome image P → IfSome image Q
over_one P Q None f p = tt
over_one P Q (Some x) f p = f x p

pub over_two : (P Q R : List ℕ → Type 0) (image : Option (List ℕ)) → ((x : List ℕ) → P x → Q x → R x) → IfSome image P → IfSome image Q → IfSome image R
over_two P Q R None f p q = tt
over_two P Q R (Some x) f p q = f x p q

pub over_three : (P Q R T : List ℕ → Type 0) (image : Option (List ℕ)) → ((x : List ℕ) → P x → Q x → R x → T x) → IfSome image P → IfSome image Q → IfSome image R → IfSome image T
over_three P Q R T None f p q r = tt
over_three P Q R T (Some x) f p q r = f x p q r

-- the tree of each image
module _ {E : Type 0} (T : List ℕ → Tree E) where
  pub led_over_first : (image : Option (List ℕ)) (visit : Visit) → ((x : List ℕ) → root_visit (T x).fork ≡ visit) → (entries : List E) (met : List Met) (agenda : List Visit)
      → entries ≡ [] → met ≡ [] → agenda ≡ visit ∷ [] → IfSome image (λ x. Led (T x) entries met agenda)
  led_over_first image visit is entries met agenda e m a =
      over_all (λ x. Led (T x) entries met agenda) image
      (λ x. rw (e, m, a, ← is x) (led_first (T x)))

  pub led_over_on : (image : Option (List ℕ)) (entries : List E) (met : List Met) (visit : Visit) (agenda : List Visit) (held : Held E) (bytes : List ℕ)
      → (whole : List Visit) (more : List E) (met' : List Met) (agenda' : List Visit)
      → whole ≡ visit ∷ agenda → more ≡ entries ++ held.entries → met' ≡ met_with bytes visit held.ends ∷ met → agenda' ≡ visits_below bytes held ++ agenda
      → IfSome image (λ x. bytes ≡ bytes_at (T x) visit.file_block) → IfSome image (λ x. Stands (T x) met visit held) → IfSome image (λ x. Led (T x) entries met whole)
      → IfSome image (λ x. Led (T x) more met' agenda')
  led_over_on image entries met visit agenda held bytes whole more met' agenda' w e m a is stands led =
      over_three (λ x. bytes ≡ bytes_at (T x) visit.file_block) (λ x. Stands (T x) met visit held) (λ x. Led (T x) entries met whole) (λ x. Led (T x) more met' agenda') image
      (λ x b s l. rw (e, m, a) (led_on (T x) entries met visit agenda held bytes b s (subst (Led (T x) entries met) w l))) is stands led

  pub led_over_end : (image : Option (List ℕ)) (entries : List E) (met : List Met) (agenda : List Visit) → agenda ≡ [] → AreEnds met
      → IfSome image (λ x. Led (T x) entries met agenda) → IfSome image (λ x. TreeHolds (T x) entries)
  led_over_end image entries met agenda a ends led =
      over_one (λ x. Led (T x) entries met agenda) (λ x. TreeHolds (T x) entries) image
      (λ x l. led_to_end (T x) entries met ends (subst (Led (T x) entries met) a l)) led

  pub led_over_reads : (image : Option (List ℕ)) (entries : List E) (met : List Met) (agenda : List Visit) (old new : ℕ) → agenda ≡ [] → AreEnds met → new ≤ old + length met
      → IfSome image (λ x. Led (T x) entries met agenda) → IfSome image (λ x. (helds : List (Held E)) × IsTree (T x) helds × (new ≤ old + length helds))
  led_over_reads image entries met agenda old new a ends few led =
      over_one (λ x. Led (T x) entries met agenda) (λ x. (helds : List (Held E)) × IsTree (T x) helds × (new ≤ old + length helds)) image
      (λ x l. let read = led_to_reads (T x) entries met (length met) ends (subst (Led (T x) entries met) a l) (omega arith) in (read.0, read.1, omega (arith, few, read.2))) led

  pub led_over_fault : (image : Option (List ℕ)) (entries : List E) (met : List Met) (visit : Visit) (agenda whole : List Visit) (block : ℕ) → whole ≡ visit ∷ agenda
      → IfSome image (λ x. (block ≡ block_number (T x).fork visit.file_block) × ((held : Held E) → Stands (T x) met visit held → ⊥))
      → IfSome image (λ x. Led (T x) entries met whole) → IfSome image (λ x. BreaksAt (T x) block)
  led_over_fault image entries met visit agenda whole block w fails led =
      over_two (λ x. (block ≡ block_number (T x).fork visit.file_block) × ((held : Held E) → Stands (T x) met visit held → ⊥)) (λ x. Led (T x) entries met whole) (λ x. BreaksAt (T x) block) image
      (λ x f l. rw f.0 (led_to_fault (T x) entries met visit agenda f.1 (subst (Led (T x) entries met) w l))) fails led

  pub led_over_open_end : (image : Option (List ℕ)) (entries : List E) (met : List Met) (agenda : List Visit) (last : Met) (block : ℕ) → agenda ≡ [] → IsOpenEnd met last
      → ((x : List ℕ) → block ≡ block_number (T x).fork last.file_block)
      → IfSome image (λ x. Led (T x) entries met agenda) → IfSome image (λ x. BreaksAt (T x) block)
  led_over_open_end image entries met agenda last block a is_open which led =
      over_one (λ x. Led (T x) entries met agenda) (λ x. BreaksAt (T x) block) image
      (λ x l. rw (which x) (led_to_open_end (T x) entries met last is_open (subst (Led (T x) entries met) a l))) led
