use Rattle.trace_lines.proofs.OneReading.{choice_of-fixes}
use Rattle.audit.proofs.law.choices_have_one_entry.Goals as goal

pub returns : goal.returns
returns c = record {
  one = λ case history a b one other same. choice_of-fixes case history a b one.may one.under other.may other.under same;
}
