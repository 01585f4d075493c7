use Rattle.std.proofs.Common.{rules, sym}
use Rattle.json_reading.proofs.Texts.{json_of-read, json_of-unread}
use Rattle.json_reading.proofs.text.json_of.Goals as goal

pub returns-in-Ok : goal.returns-in-Ok
returns-in-Ok c = sym (json_of-read _ _ c.in-Ok.ensures.ok.0 c.in-Ok.ensures.ok.1)

pub returns-else-is_memory : goal.returns-else-is_memory
returns-else-is_memory c = sym (json_of-unread _ (c.in-Err.ensures.err (λ memory. search rules)))
