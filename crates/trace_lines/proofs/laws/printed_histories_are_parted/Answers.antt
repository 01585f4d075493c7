use Rattle.std.proofs.Common.{arith}
use Rattle.std.proofs.lemmas.List.Elements.{recursion_from_All}
use Rattle.trace_lines.specs.Entries.{IsEntry}
use Rattle.trace_lines.proofs.Parting.{lines_in-from, entry-begins, result-not_begun, entry_lines_in-printed, entry-no_control}
use Rattle.trace_lines.proofs.laws.printed_histories_are_parted.Goals as goal

pub returns : goal.returns
returns c = record {
  lines = λ history text each few. lines_in-from 0 history text (recursion_from_All IsEntry history each) (omega (arith, few));
  begins = entry-begins;
  result = result-not_begun;
  entries = λ shape history text each few is.
      entry_lines_in-printed shape history text (recursion_from_All IsEntry history each) few is;
  plain = entry-no_control;
}
