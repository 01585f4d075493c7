use Rattle.read_back.proofs.Reading.{read-compact_text}
use Rattle.read_back.proofs.laws.written_values_read_back.Goals as goal

pub returns : goal.returns
returns c = record { same = read-compact_text }
