use Rattle.std.proofs.Common.{Some, ap, arith}
use Rattle.xn_record.proofs.HeaderLemmas.{header_same, intact_header, same_length}
use Rattle.xn_record.proofs.sectors.sectors_of.Goals as goal

pub returns-then-is_header-clause-intact : goal.returns-then-is_header-clause-intact
returns-then-is_header-clause-intact c = λ uuid bytes same intact.
    let length = same_length bytes c.args.header.now same in
    ap Some (omega arith)

pub returns-else-is_header-clause-intact : goal.returns-else-is_header-clause-intact
returns-else-is_header-clause-intact c = λ uuid bytes same intact.
    let none = c.is_header.ensures.1 (header_same c.args.ring_sectors c.args.sector bytes c.args.header.now same (intact_header c.args.ring_sectors c.args.sector uuid bytes intact)) in
    absurd cc
