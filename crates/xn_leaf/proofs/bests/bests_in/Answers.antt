use Rattle.std.proofs.Common.{◌++◌, List, ℕ, sym, ap, ◌∙◌, arith, rules}
use Rattle.std.proofs.lemmas.List.{append-nil}
use Rattle.xn_bytes.specs.HashedTree.{bests_at}
use Rattle.xn_leaf.proofs.BestsRead.{best_pushed, none_from}
use Rattle.xn_leaf.proofs.bests.bests_in.Goals as goal

pub loop-index-preserved : goal.loop-index-preserved
loop-index-preserved c =
    best_pushed (bests_at c.args.count c.args.at c.args.block.now) c.loop-index.bests.items c.push.new.self.items c.loop-index.index c.args.count c.args.at c.best_in.result c.args.block.now c.loop-index-test.true c.best_in.ensures (search rules) c.loop-index.invariant

pub returns : goal.returns
returns c =
    let gone = none_from c.loop-index.index c.args.count c.args.at c.args.block.now (omega arith) in
    sym (append-nil c.loop-index.bests.items) ∙ ap (λ (xs : List ℕ). c.loop-index.bests.items ++ xs) (sym gone) ∙ c.loop-index.invariant
