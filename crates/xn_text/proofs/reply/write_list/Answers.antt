use Rattle.std.proofs.Common.{◌≡◌, ◌++◌, ℕ, List, subst}
use Rattle.std.specs.Prelude.{OnOk}
use Rattle.xn_meaning.specs.Replies.{line_text}
use Rattle.xn_text.specs.Viewed.{line_of}
use Rattle.xn_text.proofs.RowLemmas.{rows_said}
use Rattle.xn_text.proofs.reply.write_list.Goals as goal

pub returns-clause-ok : goal.returns-clause-ok
returns-clause-ok c =
    subst (λ (text : List ℕ). OnOk c.write_rows.result (c.write_rows.new.out.items ≡ c.args.out.now.items ++ text)) (rows_said line_text line_of c.args.lines.now) c.write_rows.ensures.ok
