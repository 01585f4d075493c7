use Rattle.trace_lines.proofs.Choosing.{choice_in-entry, choice_at-entry, choice_of-same}
use Rattle.trace_lines.proofs.laws.lines_tell_choices.Goals as goal

pub returns : goal.returns
returns c = record { object = choice_in-entry; line = choice_at-entry; one = choice_of-same }
