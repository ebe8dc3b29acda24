use Rattle.xn_census.proofs.Additions.{among_more, holds_more, numbers_more}
use Rattle.xn_census.proofs.census.add_facts.Goals as goal

pub returns-clause-adds : goal.returns-clause-adds
returns-clause-adds c = λ g image inodes hold holds.
    holds_more g image inodes c.args.facts c.kept.result c.args.census.now _ c.kept.ensures c.in_ok-push.ensures.items c.in_ok-add_contents.ensures c.in_ok-append.ensures.items hold holds

pub returns-clause-inodes_are : goal.returns-clause-inodes_are
returns-clause-inodes_are c = numbers_more c.args.census.now.nodes.items _ c.kept.result c.args.facts.node.ino c.kept.ensures.ino c.in_ok-push.ensures.items

pub returns-clause-among : goal.returns-clause-among
returns-clause-among c = λ inodes are. among_more inodes c.args.facts.node.ino c.args.facts.node.known c.args.facts.contents c.args.census.now.held.items _ c.in_ok-add_contents.ensures are
