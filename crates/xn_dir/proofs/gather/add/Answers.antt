use Rattle.std.proofs.Common.{ℕ, List, [], ◌∷◌, ◌++◌, ◌∙◌, ap, map, refl, sym, subst, inl, inr, arith}
use Rattle.xn_bytes.specs.Entries.{Entry}
use Rattle.xn_bytes.specs.DirectoryForms.{leaf_of}
use Rattle.xn_bytes.specs.LeafForms.{placed_in}
use Rattle.xn_dir.specs.declared.gather.Gathered.{Gathered}
use Rattle.xn_dir.proofs.Gatherings.{Lister, adds, best_small, low_in}
use Rattle.xn_dir.proofs.gather.add.Goals as goal
use Rattle.xn_dir.proofs.gather.add.Goals.{then-gathered+in_ok-gathered, else-gathered}

pub add_leaves-requires-clause-placed : goal.add_leaves-requires-clause-placed
add_leaves-requires-clause-placed c = low_in c.requires.holds.0 c.args.held.now c.entries.result c.requires.holds.1 c.entries.ensures.entries

pub overflow_cast-largest_free : goal.overflow_cast-largest_free
overflow_cast-largest_free c = let small = best_small c.requires.holds.0 c.args.held.now c.requires.holds.1 in omega (arith, small, c.largest_free.ensures)

pub returns-clause-holds : goal.returns-clause-holds
returns-clause-holds c =
    let before = c.args.gathered.now in
    let listed = map (placed_in c.args.number) c.args.listed in
    let lister : Lister before c.if-gathered.gathered listed = elim c.if-gathered.branch [
      | then-gathered+in_ok-gathered w ↦ subst (λ (now : Gathered). Lister before now listed) (sym w.gathered-is) (record {
        names = inl (w.if-gathered.true, w.in_ok-gathered.ensures.lists);
        leaves_stay = refl;
        bests_stay = refl;
      })
      | else-gathered w ↦ subst (λ (now : Gathered). Lister before now listed) (sym w.gathered-is) (record {
        names = inr (w.if-gathered.false, w.if-gathered.false);
        leaves_stay = refl;
        bests_stay = refl;
      })
    ] in
    adds before c.if-gathered.gathered _ (record { number = c.args.number; form = c.args.held.now }) listed lister refl refl
    (c.in_ok-add_leaves.ensures ∙ ap (λ (es : List Entry). c.if-gathered.gathered.leaves.items ++ map leaf_of (map (placed_in c.args.number) es)) c.entries.ensures.entries)
    (c.in_ok-push.ensures.items ∙ ap (λ (n : ℕ). c.if-gathered.gathered.bests.items ++ record { number = c.args.number; best = n } ∷ []) c.largest_free.ensures)
