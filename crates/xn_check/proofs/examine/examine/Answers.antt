use Rattle.std.proofs.Common.{length, map, refl, sym, ap, ◌∙◌, Ok, Err}
use Rattle.std.proofs.lemmas.List.{length-map}
use Rattle.std.proofs.lemmas.Result.{err_from_is_err_and}
use Rattle.xn_rules.specs.Checking.{directories_among}
use Rattle.xn_facts.specs.declared.facts.Node.{Node}
use Rattle.xn_census.proofs.Nodes.{rise_by_numbers}
use Rattle.xn_check.specs.Surveyed.{surveyed}
use Rattle.xn_check.proofs.Found.{is_sorted_out}
use Rattle.xn_check.proofs.Examining.{judged_same, refused_over, examined_over}
use Rattle.xn_check.proofs.examine.examine.Goals as goal

pub sort_out-requires : goal.sort_out-requires
sort_out-requires g c =
    let of = c.in_ok-census.ensures.surveys in
    rw c.deref.ensures.value (rise_by_numbers c.in_ok-census.field-0.census.nodes.items (surveyed c.in_ok-census.field-0) refl of.live.rising)

pub judge-requires : goal.judge-requires
judge-requires g c =
    let of = c.in_ok-census.ensures.surveys in
    is_sorted_out (surveyed c.in_ok-census.field-0) c.deref.result.now c.in_ok-census.field-0.census.held.items c.in_ok-out.out of.live.rising of.among c.in_ok-out.ensures

pub returns-in_err-entries-clause-refuses : goal.returns-in_err-entries-clause-refuses
returns-in_err-entries-clause-refuses g c =
    let p = err_from_is_err_and c.from_residual-in_err-entries.result c.from_residual-in_err-entries.ensures.1 in
    let shape = g.S.Store.shape c.args.store.now in
    let survey = c.in_ok-census.field-0 in
    let of = c.in_ok-census.ensures.surveys in
    let sorts = rw c.deref.ensures.value at c.in_ok-out.ensures in
    let judged =
    judged_same shape c.args.manifest.now (surveyed survey) survey.census c.in_ok-out.out of.live sorts c.geometry.result.now c.deref-2.result.now survey.is_mapped_once (Err c.in_err-entries.field-0.0)
    (c.geometry.ensures ∙ c.in_ok-census.ensures.stays.shape_stays) c.deref-2.ensures.value refl of.once c.in_err-entries.ensures.judges in
    rw (p.1, p.2) (refused_over shape c.args.manifest.now (surveyed survey) survey.census c.in_ok-out.out of.live sorts (g.S.Store.image c.args.store.now) c.in_err-entries.field-0.0 of.holds judged)

pub returns-clause-examined : goal.returns-clause-examined
returns-clause-examined g c =
    let shape = g.S.Store.shape c.args.store.now in
    let survey = c.in_ok-census.field-0 in
    let of = c.in_ok-census.ensures.surveys in
    let sorts = rw c.deref.ensures.value at c.in_ok-out.ensures in
    let judged =
    judged_same shape c.args.manifest.now (surveyed survey) survey.census c.in_ok-out.out of.live sorts c.geometry.result.now c.deref-2.result.now survey.is_mapped_once (Ok c.in_ok-entries.entries)
    (c.geometry.ensures ∙ c.in_ok-census.ensures.stays.shape_stays) c.deref-2.ensures.value refl of.once c.in_ok-entries.ensures.judges in
    examined_over shape c.args.manifest.now (surveyed survey) survey.census c.in_ok-out.out of.live sorts (g.S.Store.image c.args.store.now) c.len.result c.count_directories.result c.in_ok-entries.entries of.holds
    (c.len.ensures ∙ sym c.deref.ensures.len ∙ ap length c.deref.ensures.value ∙ sym (length-map survey.census.nodes.items (λ (node : Node). node.ino)))
    (λ x there. c.count_directories.ensures shape x (rw c.deref-3.ensures.value there.nodes) ∙ ap (directories_among shape x) (ap (map (λ (node : Node). node.ino)) c.deref-3.ensures.value ∙ there.inodes_are))
    judged
