use Rattle.std.proofs.Common.{subst}
use Rattle.xn_bytes.specs.DataBlock.{DataForm, entries_among}
use Rattle.xn_bytes.specs.DirectoryForms.{HasDots}
use Rattle.xn_dir.proofs.Following.{match_weaker}
use Rattle.xn_dir.proofs.OneForm.{one_data}
use Rattle.xn_dir.proofs.hashed_form.dotdot_in.Goals as goal

pub returns : goal.returns
returns c =
    let held = c.in_ok-held.held in
    let block = c.in_ok-held.ensures in
    match_weaker c.take_dots.result (rw c.entries.ensures.entries at c.take_dots.ensures)
    (λ none form front dotdot is dots. none front dotdot (subst (λ (f : DataForm). HasDots (entries_among f.regions) front dotdot) (one_data c.args.bytes.now form held is.holds block.holds) dots))
    (λ dotdot dots. (held, _, block, dots))
