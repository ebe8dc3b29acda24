use Rattle.std.proofs.Common.{◌∙◌, sym, ap, arith, false}
use Rattle.xn_bytes.specs.Entries.{Entry}
use Rattle.xn_data.proofs.Standing.{entry_in, entry_room, no_entry_with_fault, no_entry_in_free}
use Rattle.xn_data.proofs.entry.entry_in_place.Goals as goal

pub returns-then-is_free : goal.returns-then-is_free
returns-then-is_free c = λ entry place low stands. no_entry_in_free _ _ _ entry place stands (sym c.is_free.ensures ∙ c.if-is_free.true)

pub read_entry-requires : goal.read_entry-requires
read_entry-requires c =
    let room = entry_room _ _ _ c.requires (sym c.is_free.ensures ∙ c.if-is_free.false) (c.in-Ok.ensures.fault false) in
    omega (arith, room)

pub returns-in-Ok : goal.returns-in-Ok
returns-in-Ok c =
    let stands = entry_in _ _ _ c.requires (sym c.is_free.ensures ∙ c.if-is_free.false) (c.in-Ok.ensures.fault false) in
    (ap (λ (entry : Entry). entry.position) c.read_entry.ensures, c.if-at-lt-HEADER.false, rw c.read_entry.ensures stands)

pub returns-in-Err : goal.returns-in-Err
returns-in-Err c = λ entry place low stands. no_entry_with_fault _ _ _ _ entry place stands (c.in-Err.ensures.fault false)
