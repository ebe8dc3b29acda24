use Rattle.std.proofs.lemmas.Result.{err_from_is_err_and}
use Rattle.xn_changes.specs.Decoded.{bytes_of}
use Rattle.xn_changes.specs.Items.{holds_name, holds_value, is_lawful_intent_format, is_lawful_replace, new_length_in, new_parent_in, old_length_in, old_parent_in, region_at}
use Rattle.xn_changes.specs.declared.intent.Act.TheVariants.{Replace}
use Rattle.xn_transactions.proofs.ItemLemmas.{refused_with, falls_with_new}
use Rattle.xn_transactions.proofs.intent.replace_in.Goals as goal

pub returns-in_err-new : goal.returns-in_err-new
returns-in_err-new c =
    let p = err_from_is_err_and c.from_residual-in_err-new.result c.from_residual-in_err-new.ensures.1 in
    let first = c.args.first.now in
    let rest = bytes_of c.args.rest.now in
    let refused = rw (c.from-new_length.ensures, c.little_u16_at-2.ensures, c.region_at-3.ensures, c.region_at-4.ensures) at c.in_err-new.ensures in
    rw (p.1, p.2)
    (refused_with _ (is_lawful_replace first rest) _ (Replace (old_parent_in first rest) (new_parent_in first rest)) _
    (falls_with_new (is_lawful_intent_format 5 first rest) (holds_name (old_length_in first) (region_at 0 rest)) (holds_name (new_length_in first) (region_at 1 rest)) (holds_value (region_at 2 rest)) (holds_value (region_at 3 rest)))
    refused)
