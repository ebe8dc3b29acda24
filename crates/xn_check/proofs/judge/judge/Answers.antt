-- Where a rule of the whole image is broken or memory ran out, the entries are taken as they were sorted out; else in order.
use Rattle.std.proofs.Common.{◌≡◌, true, false, refl, inl, inr}
use Rattle.std.proofs.lemmas.Result.{err_from_is_err_and}
use Rattle.std.proofs.lemmas.List.Sorted.{IsPermutation-refl}
use Rattle.xn_check.specs.Known.{meant}
use Rattle.xn_check.specs.Judged.{meant_by}
use Rattle.xn_check.proofs.JudgeLemmas.{as_many, meant_in_order, names_hold, nodes_are_live, root_told}
use Rattle.xn_check.proofs.judge.judge.Goals as goal

pub returns-then-not-root_is_right-clause-judges : goal.returns-then-not-root_is_right-clause-judges
returns-then-not-root_is_right-clause-judges c = λ m image runs found told_once.
    let same = IsPermutation-refl (meant_by c.args.out) in
    let told = root_told found refl c.len-entries.result c.len-entries.ensures false c.if-not-root_is_right.ensures (meant_by c.args.out) same in
    (meant_by c.args.out, same, rw c.of_image.ensures (inl (refl, refl, refl, λ right. let no : false ≡ true = told.1 right in cc)))

pub returns-then-not-is_mapped_once-clause-judges : goal.returns-then-not-is_mapped_once-clause-judges
returns-then-not-is_mapped_once-clause-judges c = λ m image runs found told_once.
    let same = IsPermutation-refl (meant_by c.args.out) in
    let told = root_told found refl c.len-entries.result c.len-entries.ensures true c.if-not-root_is_right.ensures (meant_by c.args.out) same in (
      meant_by c.args.out,
      same,
      rw c.of_image-then-not-is_mapped_once.ensures (inr (
        told.0 refl,
        inl (refl, refl, refl, λ once. let no : c.args.is_mapped_once ≡ true = told_once.1 once in cc c.if-not-is_mapped_once.true),
      )),
    )

pub returns-in_err-names-clause-judges : goal.returns-in_err-names-clause-judges
returns-in_err-names-clause-judges c = λ m image runs found told_once.
    let error = err_from_is_err_and c.from_residual.result c.from_residual.ensures.1 in
    (meant_by c.args.out, IsPermutation-refl (meant_by c.args.out), rw (error.1, error.2, c.in_err-names.ensures.memory) tt)

pub returns-in-Some-clause-judges : goal.returns-in-Some-clause-judges
returns-in-Some-clause-judges c = λ m image runs found told_once.
    let are = c.in_ok-names.ensures.names in
    let moved = meant_in_order are in
    let told = root_told found refl c.len-entries.result c.len-entries.ensures true c.if-not-root_is_right.ensures (meant c.in_ok-names.names) moved in
    let first = c.in-Some.ensures m image (names_hold are found.out_holds) (nodes_are_live found refl) found.nodes_hold in
    (meant c.in_ok-names.names, moved, inr (told.0 refl, inr (told_once.0 c.if-not-is_mapped_once.false, first)))

pub returns-clause-judges : goal.returns-clause-judges
returns-clause-judges c = λ m image runs found told_once.
    let are = c.in_ok-names.ensures.names in
    let moved = meant_in_order are in
    let told = root_told found refl c.len-entries.result c.len-entries.ensures true c.if-not-root_is_right.ensures (meant c.in_ok-names.names) moved in
    let stand = c.in-None.ensures m image (names_hold are found.out_holds) (nodes_are_live found refl) found.nodes_hold in (
      meant c.in_ok-names.names,
      moved,
      (
        record { root = told.0 refl; once = told_once.0 c.if-not-is_mapped_once.false; stands = stand },
        as_many c.args.out (meant c.in_ok-names.names) c.len-entries.result c.len-entries.ensures moved,
      ),
    )
