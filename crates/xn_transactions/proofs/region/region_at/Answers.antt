use Rattle.std.proofs.Common.{sym, ap, ◌∙◌, arith}
use Rattle.xn_transactions.proofs.RegionLemmas.{region_at-there, region_at-past}
use Rattle.xn_transactions.proofs.region.region_at.Goals as goal

pub returns-in-Some : goal.returns-in-Some
returns-in-Some c =
    let h = c.in-Some.ensures.lookup in
    let there = region_at-there c.args.k c.args.regions.now c.in-Some.region.now (omega arith) in
    c.bytes.ensures ∙ ap (λ r. r.bytes) h.1 ∙ sym there

pub returns-in-None : goal.returns-in-None
returns-in-None c = sym (region_at-past c.args.k c.args.regions.now c.in-None.ensures.lookup.3)
