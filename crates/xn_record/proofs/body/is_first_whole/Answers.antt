use Rattle.std.proofs.Common.{ap, ◌∙◌}
use Rattle.std.specs.Prelude.{is_some}
use Rattle.xn_log.specs.Records.{body_of}
use Rattle.xn_record.proofs.Walking.{first_whole}
use Rattle.xn_record.proofs.body.is_first_whole.Goals as goal

pub returns-clause-whole : goal.returns-clause-whole
returns-clause-whole c =
    c.is_some.ensures ∙ ap is_some c.operation_end.ensures ∙ first_whole (body_of c.args.bytes.now)
