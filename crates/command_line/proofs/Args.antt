-- How `clap`'s command grows by an argument.
use Rattle.std.proofs.Common.{◌≡◌, ◌∙◌, ap₂, false}
use Rattle.clap.specs.Built.{AddsArg}
use Rattle.clap.specs.Simple.{App, app_of, with_rule}
use Rattle.clap.specs.Walk.{Rule, rule_of}
use Rattle.clap.specs.declared.builder.arg.Arg.{Arg}
use Rattle.clap.specs.declared.builder.command.Command.{Command}

-- a command with one more argument is told one more rule
pub app_of-more : (old new : Command) (arg : Arg) (app : App) (rule : Rule) → AddsArg old arg new → arg.global ≡ false → app_of old ≡ app
    → rule_of arg ≡ rule → app_of new ≡ with_rule app rule
app_of-more old new arg app rule adds local app_is rule_is = adds.shape local ∙ ap₂ with_rule app_is rule_is
