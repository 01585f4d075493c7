use Rattle.std.proofs.Common.{None, sym}
use Rattle.command_line.specs.Words.{no_words}
use Rattle.command_line.proofs.Short.{short_is_none}
use Rattle.command_line.proofs.line.line_of.Goals as goal

pub returns-then-has_short : goal.returns-then-has_short
returns-then-has_short c = record { line = λ _. short_is_none c.args.words.now None no_words (sym c.if-has_short.ensures.short) }
