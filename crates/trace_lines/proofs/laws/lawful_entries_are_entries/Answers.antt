use Rattle.std.proofs.lemmas.List.Elements.{All-from_recursion}
use Rattle.trace_lines.specs.Entries.{IsEntry}
use Rattle.trace_lines.proofs.EntryLaws.{next-entry, legal-entries, legal-told}
use Rattle.trace_lines.proofs.laws.lawful_entries_are_entries.Goals as goal

pub returns : goal.returns
returns c = record {
  next = next-entry;
  all = λ case history runs keyed valued lawful short.
      All-from_recursion IsEntry history (legal-entries case history runs keyed valued lawful short);
  told = legal-told;
}
