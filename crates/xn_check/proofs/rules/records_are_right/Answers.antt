use Rattle.std.proofs.Common.{List, map, subst, sym}
use Rattle.xn_bytes.specs.ParentRecords.{ListsParents}
use Rattle.xn_items.specs.declared.parent.ParentRec.{ParentRec}
use Rattle.xn_items.specs.Viewed.{record_of}
use Rattle.xn_names.specs.Names.{asked_by}
use Rattle.xn_check.proofs.RecordLemmas.{asked_for, one_each, records_told}
use Rattle.xn_check.proofs.rules.records_are_right.Goals as goal

pub returns-in-Some : goal.returns-in-Some
returns-in-Some c g image namings viewed generations holds =
    let ino = c.args.node.now.ino in
    let run = c.args.named.now in
    let parents = c.deref.result.now in
    let kept = rw c.in-Some.is at holds.parents in
    let lists = subst (λ (ps : List ParentRec). ListsParents g image ino (map record_of ps)) (sym c.deref.ensures.value) kept in
    records_told g image ino namings (map record_of parents) (map asked_by run) c.are_records.result lists (asked_for g image ino run namings viewed generations)
    (c.are_records.ensures (one_each g image run generations) lists.ordered.rising)

pub returns-in-None : goal.returns-in-None
returns-in-None c g image namings viewed generations holds = λ records own parents.
    let none = rw c.in-None.is at holds.parents in absurd (none records own parents)
