use Rattle.xn_record.proofs.SameFronts.{intact_same, outline_same, record_same}
use Rattle.xn_record.proofs.laws.only_the_front_counts.Goals as goal

pub returns-clause-intact : goal.returns-clause-intact
returns-clause-intact c = intact_same

pub returns-clause-decoded : goal.returns-clause-decoded
returns-clause-decoded c = record_same

pub returns-clause-outlined : goal.returns-clause-outlined
returns-clause-outlined c = outline_same
