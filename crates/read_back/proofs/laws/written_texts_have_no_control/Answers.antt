use Rattle.read_back.proofs.Control.{compact_text-no_control}
use Rattle.read_back.proofs.laws.written_texts_have_no_control.Goals as goal

pub returns : goal.returns
returns c = record { one_line = compact_text-no_control }
