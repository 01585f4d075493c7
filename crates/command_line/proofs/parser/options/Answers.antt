use Rattle.std.proofs.Common.{codes}
use Rattle.std.proofs.lemmas.Result.{IfOk-weaker}
use Rattle.clap.specs.Simple.{App, with_rule}
use Rattle.command_line.specs.Clap.{option_rule, positional_app}
use Rattle.command_line.proofs.Args.{app_of-more}
use Rattle.command_line.proofs.parser.options.Goals as goal

abbrev with_plan : App
with_plan = with_rule positional_app (option_rule (codes "plan"))

abbrev with_workers : App
with_workers = with_rule with_plan (option_rule (codes "workers"))

abbrev with_rounds : App
with_rounds = with_rule with_workers (option_rule (codes "rounds"))

abbrev with_keep : App
with_keep = with_rule with_rounds (option_rule (codes "keep"))

pub returns : goal.returns
returns c =
    let plan = app_of-more c.in_ok-positionals.field-0 c.in_ok-arg.field-0 c.valued.result positional_app (option_rule (codes "plan"))
    c.in_ok-arg.ensures c.valued.ensures.local c.in_ok-positionals.ensures.app c.valued.ensures.rule in
    let workers = app_of-more c.in_ok-arg.field-0 c.in_ok-arg-2.field-0 c.valued-2.result with_plan (option_rule (codes "workers"))
    c.in_ok-arg-2.ensures c.valued-2.ensures.local plan c.valued-2.ensures.rule in
    let rounds = app_of-more c.in_ok-arg-2.field-0 c.in_ok-arg-3.field-0 c.valued-3.result with_workers (option_rule (codes "rounds"))
    c.in_ok-arg-3.ensures c.valued-3.ensures.local workers c.valued-3.ensures.rule in
    let keep = app_of-more c.in_ok-arg-3.field-0 c.in_ok-arg-4.field-0 c.valued-4.result with_rounds (option_rule (codes "keep"))
    c.in_ok-arg-4.ensures c.valued-4.ensures.local rounds c.valued-4.ensures.rule in
    record {
      app = IfOk-weaker c.arg-5.result _ _
          (λ new adds. app_of-more c.in_ok-arg-4.field-0 new c.valued-5.result with_keep (option_rule (codes "trace"))
          adds c.valued-5.ensures.local keep c.valued-5.ensures.rule)
          c.arg-5.ensures;
    }
