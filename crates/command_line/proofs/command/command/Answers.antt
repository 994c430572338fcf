use Rattle.std.proofs.Common.{◌≡◌, ◌∙◌, rules, ap, ap₂, codes, true}
use Rattle.std.proofs.lemmas.Result.{IfOk-weaker}
use Rattle.clap.specs.Words.{App, app_of, new_rule, rule_of, with_rule}
use Rattle.clap.specs.Simple.{app_of_fields}
use Rattle.clap.specs.declared.builder.command.Command.{Command}
use Rattle.clap.specs.declared.builder.command.Command.TheOpen.{Command-F}
use Rattle.command_line.specs.Command.{option_rule, top_app}
use Rattle.command_line.proofs.command.command.Goals as goal

abbrev with_settings : App → App
with_settings a = record a { top = record a.top { no_binary_name = true; disable_help_flag = true } }

pub returns : goal.returns
returns c =
    let fuel_is : rule_of c.option.result ≡ option_rule (codes "fuel") = search rules in
    let depth_is : rule_of c.option-2.result ≡ option_rule (codes "depth") = search rules in
    let order_is : rule_of c.option-3.result ≡ option_rule (codes "order") = search rules in
    let mode_is : rule_of c.new-2.result ≡ new_rule (codes "mode") = search rules in
    let first_is : rule_of c.new-3.result ≡ new_rule (codes "first") = search rules in
    let second_is : rule_of c.new-4.result ≡ new_rule (codes "second") = search rules in
    let top_is : app_of c.disable_help_flag-top.result ≡ top_app =
    ap app_of_fields (c.disable_help_flag-top.ensures
    ∙ ap (λ (f : Command-F Command). record f { disable_help_flag = true }) c.no_binary_name.ensures)
    ∙ ap with_settings c.new.ensures.app in
    let fuel_in = c.in_ok-arg.ensures.shape c.option.ensures.own ∙ ap₂ with_rule top_is fuel_is in
    let depth_in = c.in_ok-arg-2.ensures.shape c.option-2.ensures.own ∙ ap₂ with_rule fuel_in depth_is in
    let order_in = c.in_ok-limits.ensures.shape c.option-3.ensures.own ∙ ap₂ with_rule depth_in order_is in
    let mode_in = c.in_ok-arg-3.ensures.shape c.new-2.ensures.optional.1 ∙ ap₂ with_rule order_in mode_is in
    let first_in = c.in_ok-arg-4.ensures.shape c.new-3.ensures.optional.1 ∙ ap₂ with_rule mode_in first_is in
    IfOk-weaker c.arg-6.result _ _ (λ r adds. adds.shape c.new-4.ensures.optional.1 ∙ ap₂ with_rule first_in second_is) c.arg-6.ensures
