use Rattle.std.proofs.Common.{sym, ◌∙◌}
use Rattle.xn_leaf.proofs.FreeForms.{holds_read, only_read, no_fault}
use Rattle.xn_leaf.proofs.free.FreeIndex.read.Goals as goal

pub invariant_of-result : goal.invariant_of-result
invariant_of-result c = holds_read c.args.bytes.now c.requires.size (sym c.in-None.ensures)

pub returns-in-None-clause-found : goal.returns-in-None-clause-found
returns-in-None-clause-found c = holds_read c.args.bytes.now c.requires.size (sym c.in-None.ensures)

pub returns-in-None-clause-only : goal.returns-in-None-clause-only
returns-in-None-clause-only c = λ form holds. only_read c.args.bytes.now form holds

pub returns-in-Some-clause-only : goal.returns-in-Some-clause-only
returns-in-Some-clause-only c = λ form holds. absurd (let none = c.in-Some.ensures ∙ no_fault c.args.bytes.now form holds in cc)
