use Rattle.xn_record.proofs.Faultless.{complete, sound}
use Rattle.xn_record.proofs.laws.intact_records_have_no_fault.Goals as goal

pub returns-clause-sound : goal.returns-clause-sound
returns-clause-sound c = sound

pub returns-clause-complete : goal.returns-clause-complete
returns-clause-complete c = complete
