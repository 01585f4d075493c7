use Rattle.std.proofs.Common.{sym}
use Rattle.std.proofs.lemmas.List.{take_rest}
use Rattle.text_lines.proofs.Cuts.{cut_at-first, cut_at-none}
use Rattle.text_lines.proofs.words.first_word.Goals as goal

pub returns-in-Some : goal.returns-in-Some
returns-in-Some c = record {
  word = rw take_rest (sym (cut_at-first 32 c.args.text.now c.in-Some.at c.in-Some.ensures.0 c.in-Some.ensures.1));
}

pub returns-in-None : goal.returns-in-None
returns-in-None c = record { word = sym (cut_at-none 32 c.args.text.now c.in-None.ensures) }
