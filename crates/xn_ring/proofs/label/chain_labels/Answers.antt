use Rattle.std.proofs.Common.{◌≡◌, ◌∙◌, ◌+◌, ℕ, List, false, get_or, length, subst, sym, arith}
use Rattle.xn_log.specs.declared.outline.Outline.{Outline}
use Rattle.xn_ring.specs.Labels.{IsLabelled}
use Rattle.xn_ring.proofs.Labelling.{all_labelled, listed_newest, none_labelled, one_more, written_back, AreLabelsUpTo, IsLabelling}
use Rattle.xn_ring.proofs.label.chain_labels.Goals as goal

pub loop-outline-init : goal.loop-outline-init
loop-outline-init c = record { as_many = omega (arith, c.in_ok-labels.labels.ok.0, c.in_ok-labels.ensures.len); labelled = none_labelled c.args.ring_sectors c.args.outlines.now c.args.newest.now c.in_ok-labels.labels.items c.requires.order }

pub label-requires-clause-listed : goal.label-requires-clause-listed
label-requires-clause-listed c = listed_newest _ c.args.newest.now c.loop-outline.outline-index _ c.requires.order (omega arith)

pub loop-outline-preserved : goal.loop-outline-preserved
loop-outline-preserved c =
    let n = c.args.ring_sectors in
    let outlines = c.args.outlines.now in
    let newest = c.args.newest.now in
    let done = c.loop-outline.outline-index in
    let none : Outline = record { cycle = 0; sector = 0; sectors = 0; tail = 0; is_unmount = false } in
    let step = subst (λ old. IsLabelled n outlines (get_or newest done none) old c.label.new.labels) c.deref_mut.ensures.value c.label.ensures in
    let long : length c.label.new.labels ≡ c.loop-outline.labels.len = c.label.ensures.as_many ∙ c.deref_mut.ensures.len in
    let now = one_more n outlines newest done none c.loop-outline.labels.items c.label.new.labels c.requires.by_sector c.requires.order (omega arith) step c.loop-outline.invariant in
    let P : List ℕ → Type 0 = λ labels. IsLabelling n outlines newest (done + 1) labels in
    subst P (sym (written_back c.loop-outline.labels.len c.label.new.labels c.loop-outline.labels.items long)) now

pub returns : goal.returns
returns c =
    let whole : c.loop-outline.outline-index ≡ length c.args.newest.now = omega arith in
    all_labelled _ _ c.args.newest.now _ c.loop-outline.invariant.as_many (subst (λ done. AreLabelsUpTo c.args.ring_sectors c.args.outlines.now c.args.newest.now done c.loop-outline.labels.items) whole c.loop-outline.invariant.labelled)
