use Rattle.std.proofs.Common.{◌≡◌, false, true, refl}
use Rattle.xn_check.proofs.Pooled.{starts, is_pool, are_placed, none_where_foreign}
use Rattle.xn_check.proofs.places.pool_of.Goals as goal

pub new-requires : goal.new-requires
new-requires c = rw c.runs.ensures.runs c.runs.ensures.lawful

pub returns-in-Err-Range : goal.returns-in-Err-Range
returns-in-Err-Range c =
    none_where_foreign c.args.geometry.now c.args.manifest.now c.in-Err-Range.field-0-0
    (rw (c.runs.ensures.runs, c.in-Err-Range.field-0-is) at c.in-Err-Range.ensures)

pub are_placed-requires : goal.are_placed-requires
are_placed-requires c = rw c.chunks.ensures.chunks (starts 0 c.args.manifest.now.chunks c.chunks.ensures.lawful)

pub returns-then-are_placed : goal.returns-then-are_placed
returns-then-are_placed c =
    is_pool c.args.geometry.now c.args.manifest.now c.in-Ok.pool (rw c.runs.ensures.runs at c.in-Ok.ensures) (rw c.chunks.ensures.chunks at (c.if-are_placed.ensures.0 refl))

pub returns-else-are_placed : goal.returns-else-are_placed
returns-else-are_placed c = λ places.
    let no : false ≡ true = c.if-are_placed.ensures.1 (rw c.chunks.ensures.chunks (are_placed c.args.geometry.now c.args.manifest.now c.in-Ok.pool (rw c.runs.ensures.runs at c.in-Ok.ensures) places)) in
    cc
