use Rattle.read_back.proofs.Utf8.{compact_text-utf8}
use Rattle.read_back.proofs.laws.written_texts_are_utf8.Goals as goal

pub returns : goal.returns
returns c = record { utf8 = compact_text-utf8 }
