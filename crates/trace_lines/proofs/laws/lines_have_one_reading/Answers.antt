use Rattle.trace_lines.proofs.OneReading.{choice_of-fixes, reading-one, run_text-read}
use Rattle.trace_lines.proofs.laws.lines_have_one_reading.Goals as goal

pub returns : goal.returns
returns c = record { entry = choice_of-fixes; reading = reading-one; text = run_text-read }
