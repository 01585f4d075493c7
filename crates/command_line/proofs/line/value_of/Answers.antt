use Rattle.std.proofs.Common.{◌∙◌, Some, ap}
use Rattle.clap.specs.Matches.{found_of}
use Rattle.clap.proofs.WalkLemmas.{first_value-rows}
use Rattle.command_line.proofs.line.value_of.Goals as goal

pub returns-in_ok-of-in-Some : goal.returns-in_ok-of-in-Some
returns-in_ok-of-in-Some c = record {
  value = ap Some c.in_ok-of-in-Some.ensures.held ∙ c.in-Some.ensures ∙ first_value-rows (found_of c.args.matches.now) c.args.id.now;
}

pub returns-in-None : goal.returns-in-None
returns-in-None c = record { value = c.in-None.ensures ∙ first_value-rows (found_of c.args.matches.now) c.args.id.now }
