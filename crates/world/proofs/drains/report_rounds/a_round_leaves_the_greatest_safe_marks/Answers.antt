use Rattle.world.proofs.drains.RoundLaws.{round-safe, round-greatest}
use Rattle.world.proofs.drains.report_rounds.a_round_leaves_the_greatest_safe_marks.Goals as goal

pub returns : goal.returns
returns c = record { safe = round-safe; greatest = round-greatest }
