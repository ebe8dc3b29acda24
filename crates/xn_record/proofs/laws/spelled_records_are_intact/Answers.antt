use Rattle.xn_record.proofs.SpelledRecords.{intact_spelled, record_spelled}
use Rattle.xn_record.proofs.laws.spelled_records_are_intact.Goals as goal

pub returns-clause-intact : goal.returns-clause-intact
returns-clause-intact c = intact_spelled

pub returns-clause-decoded : goal.returns-clause-decoded
returns-clause-decoded c = record_spelled
