use Rattle.std.proofs.Common.{◌≡◌, ◌∙◌, rules, tests}
use Rattle.std.specs.Prelude.{length, filter}
use Rattle.std.proofs.lemmas.List.Sums.{length-filter}
use Rattle.std.proofs.lemmas.Iterator.{YieldsList-from_slice}
use Rattle.std.proofs.lemmas.Iterator.Consumers.{YieldsList-from_filter, count_from_yields_List}
use Rattle.xn_facts.specs.declared.facts.Node.{Node}
use Rattle.xn_check.proofs.CountLemmas.{count_nodes}
use Rattle.xn_check.proofs.examine.count_directories.Goals as goal

pub returns : goal.returns
returns c = λ g image hold.
    let counted : c.count.result ≡ length (filter (λ (node : Node). node.is_directory) c.args.nodes.now)
    = count_from_yields_List c.filter.result c.count.result c.count.ensures.ran
    (YieldsList-from_filter _ (λ (node : Node). node.is_directory) (YieldsList-from_slice c.args.nodes.now cc) c.filter.ensures.closure (λ x b q k. search (rules, tests))) in
    counted ∙ length-filter (λ (node : Node). node.is_directory) c.args.nodes.now ∙ count_nodes g image c.args.nodes.now hold
