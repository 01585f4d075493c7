use Rattle.plain_answer.proofs.PlainPasses.{lines-seen_through, text-seen_through}
use Rattle.plain_answer.proofs.law.weak_passes_are_seen_through.Goals as goal

pub returns : goal.returns
returns c = record { lines = lines-seen_through; text = text-seen_through }
