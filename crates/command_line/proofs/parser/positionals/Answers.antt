use Rattle.std.proofs.Common.{◌≡◌, ◌∙◌, ap, false, rules, true}
use Rattle.std.proofs.lemmas.Result.{IfOk-weaker}
use Rattle.clap.specs.Simple.{Shape, app_of, app_of_fields, on_top, with_rule}
use Rattle.clap.specs.Walk.{rule_of}
use Rattle.command_line.specs.Clap.{args_rule, mill_top, mode_rule}
use Rattle.command_line.proofs.Args.{app_of-more}
use Rattle.command_line.proofs.parser.positionals.Goals as goal

pub returns : goal.returns
returns c =
    let top : app_of c.disable_help_flag.result ≡ mill_top =
    ap app_of_fields c.disable_help_flag.ensures
    ∙ ap (on_top (λ (s : Shape). record s { disable_help_flag = true }))
    (ap app_of_fields c.no_binary_name.ensures ∙ ap (on_top (λ (s : Shape). record s { no_binary_name = true })) c.new.ensures.app) in
    let args_is : rule_of c.action.result ≡ args_rule = search rules in
    let args_local : c.action.result.global ≡ false = search rules in
    let mode = app_of-more c.disable_help_flag.result c.in_ok-arg.field-0 c.new-2.result mill_top mode_rule c.in_ok-arg.ensures
    c.new-2.ensures.optional.1 top c.new-2.ensures.rule in
    record {
      app = IfOk-weaker c.arg-2.result _ _
          (λ new adds. app_of-more c.in_ok-arg.field-0 new c.action.result (with_rule mill_top mode_rule) args_rule adds args_local mode args_is)
          c.arg-2.ensures;
    }
