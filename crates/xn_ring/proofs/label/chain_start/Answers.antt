use Rattle.std.proofs.Common.{◌≡◌, ◌∙◌, ap, subst}
use Rattle.xn_ring.specs.Chains.{lsn_told}
use Rattle.xn_ring.specs.Labels.{StandsAt}
use Rattle.xn_ring.proofs.Places.{listed, same_outline}
use Rattle.xn_ring.proofs.Labelling.{no_tail, other_tail}
use Rattle.xn_ring.proofs.label.chain_start.Goals as goal
use Rattle.xn_ring.proofs.label.chain_start.Goals.{else-lsn-last-via-then-lsn-last+else-labels-first, else-lsn-last-via-else-lsn-last}

pub returns-in_err-first : goal.returns-in_err-first
returns-in_err-first c = rw c.from_residual.ensures (λ n are. no_tail n _ _ c.requires.by_sector c.in_err-first.ensures)

pub returns-else-lsn-last : goal.returns-else-lsn-last
returns-else-lsn-last c = λ n are.
    let found = c.in_ok-first.ensures in
    let end = c.in_ok-end.ensures in
    let outlines = c.args.outlines.now in
    let last_is : end.0 ≡ c.args.last.now = same_outline outlines end.0 c.args.last.now c.requires.by_sector (listed _ _ _ end.1) c.requires.listed (end.2 ∙ c.from.ensures) in
    let read : c.lsn.result ≡ lsn_told found.0 = c.lsn.ensures ∙ ap lsn_told (found.1.same _) in
    other_tail n outlines c.args.labels.now c.in_ok-first.first c.in_ok-end.end found.0 c.args.last.now c.requires.by_sector are found.1 (subst (StandsAt outlines c.in_ok-end.end) last_is end.1) found.2
    (λ same_lsn same_label.
    elim c.else-lsn-last.branch [
      | else-lsn-last-via-then-lsn-last+else-labels-first w ↦ w.if-labels-first.false same_label
      | else-lsn-last-via-else-lsn-last w ↦ w.if-lsn-last.false (read ∙ same_lsn)
    ])
