use Rattle.std.proofs.Common.{codes}
use Rattle.std.proofs.lemmas.Result.{IfOk-weaker}
use Rattle.clap.specs.Simple.{App, with_rule}
use Rattle.command_line.specs.Clap.{flag_rule, option_app}
use Rattle.command_line.proofs.Args.{app_of-more}
use Rattle.command_line.proofs.parser.parser.Goals as goal

abbrev with_history : App
with_history = with_rule option_app (flag_rule (codes "history"))

pub returns : goal.returns
returns c =
    let history = app_of-more c.in_ok-options.field-0 c.in_ok-arg.field-0 c.flag.result option_app (flag_rule (codes "history"))
    c.in_ok-arg.ensures c.flag.ensures.local c.in_ok-options.ensures.app c.flag.ensures.rule in
    record {
      app = IfOk-weaker c.arg-2.result _ _
          (λ new adds. app_of-more c.in_ok-arg.field-0 new c.flag-2.result with_history (flag_rule (codes "live"))
          adds c.flag-2.ensures.local history c.flag-2.ensures.rule)
          c.arg-2.ensures;
    }
