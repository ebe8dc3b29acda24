use Rattle.std.proofs.Common.{◌≡◌, ◌-◌, true, length, take, drop, arith}
use Rattle.std.specs.Prelude.{◌==◌, All}
use Rattle.std.proofs.lemmas.List.{take_all, length-drop}
use Rattle.std.proofs.lemmas.List.Elements.{filter_passes}
use Rattle.std.proofs.lemmas.List.Sorted.{IsNonDecreasingBy-drop, IsNonDecreasingBy-take}
use Rattle.xn_names.specs.declared.entry.Naming.{Naming}
use Rattle.xn_names.specs.Names.{naming_of}
use Rattle.xn_names.proofs.Filtered.{map-filter}
use Rattle.xn_names.proofs.Runs.{run_of_filter}
use Rattle.xn_names.proofs.Orders.{run_by_place}
use Rattle.xn_names.proofs.order.naming_near.Goals as goal

pub count_up_to-count-requires : goal.count_up_to-count-requires
count_up_to-count-requires c =
    let xs = c.args.namings.now in
    let start = c.count_below-start.result in
    IsNonDecreasingBy-take (λ (y : Naming). y.ino) (length xs - start) (drop start xs) (IsNonDecreasingBy-drop (λ (y : Naming). y.ino) start xs c.requires)

pub returns-clause-are : goal.returns-clause-are
returns-clause-are c =
    let xs = c.args.namings.now in
    let start = c.count_below-start.result in
    let ys = take (length xs - start) (drop start xs) in
    let are : ys ≡ drop start xs = take_all (length xs - start) (drop start xs) (omega (arith, length-drop start xs)) in
    run_of_filter (λ (y : Naming). y.ino) c.args.ino xs start ys c.count_up_to-count.result c.count_below-start.ensures.bound are c.count_below-start.ensures.point
    c.count_up_to-count.ensures.bound c.count_up_to-count.ensures.point

pub returns-clause-viewed : goal.returns-clause-viewed
returns-clause-viewed c =
    rw (returns-clause-are c) (map-filter naming_of (λ n. n.ino == c.args.ino) c.args.namings.now)

pub returns-clause-placed : goal.returns-clause-placed
returns-clause-placed c sorted =
    let xs = c.args.namings.now in
    let start = c.count_below-start.result in
    let ys = take (length xs - start) (drop start xs) in
    let count = c.count_up_to-count.result in
    let are : ys ≡ drop start xs = take_all (length xs - start) (drop start xs) (omega (arith, length-drop start xs)) in
    let each : All (λ n. (n.ino == c.args.ino) ≡ true) (take count ys) =
    rw (returns-clause-are c) (filter_passes (λ (n : Naming). n.ino == c.args.ino) xs) in
    run_by_place c.args.ino xs start count ys are c.count_up_to-count.ensures.bound each sorted
