use Rattle.std.proofs.Common.{rules, ◌≡◌, ◌∙◌, ap, ap₂, codes, true, Option}
use Rattle.std.proofs.lemmas.Result.{IfOk-weaker}
use Rattle.clap.specs.Words.{app_of, rule_of, new_rule, with_rule, Rule}
use Rattle.clap.specs.Simple.{app_of_fields, on_top}
use Rattle.xn_text.specs.Arguments.{plain_app, command_rule, rest_rule}
use Rattle.clap.specs.declared.builder.range.ValueRange.{ValueRange}
use Rattle.xn_text.proofs.ArgumentLemmas.{some_same}
use Rattle.xn_text.proofs.arguments.reader.Goals as goal

pub returns : goal.returns
returns c =
    let command_is : rule_of c.required-command.result ≡ command_rule = search rules in
    let required_is : rule_of c.required.result ≡ record (new_rule (codes "rest")) { required = true } = search rules in
    let rest_is : rule_of c.num_args-rest.result ≡ rest_rule =
    ap rule_of c.num_args-rest.ensures.0
    ∙ ap₂ (λ (rule : Rule) (range : Option ValueRange). record rule { range = range }) required_is (some_same _ _ c.num_args-rest.ensures.1) in
    let plain_is : app_of c.disable_help_flag.result ≡ plain_app =
    ap app_of_fields c.disable_help_flag.ensures
    ∙ ap (λ f. app_of_fields (record f { disable_help_flag = true })) c.no_binary_name.ensures
    ∙ ap (on_top (λ s. record s { no_binary_name = true; disable_help_flag = true })) c.new-3.ensures.app in
    IfOk-weaker c.arg-2.result _ _ (λ command adds. adds.shape (search rules)
    ∙ ap₂ with_rule (c.in_ok-arg.ensures.shape (search rules) ∙ ap₂ with_rule plain_is command_is) rest_is) c.arg-2.ensures
