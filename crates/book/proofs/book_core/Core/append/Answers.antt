use Rattle.std.proofs.Common.{length, sym, ap, subst, ◌∙◌}
use Rattle.std.specs.Prelude.{option_map}
use Rattle.std.specs.Ordering.{nat_cmp}
use Rattle.std.specs.BTreeMap.{get}
use Rattle.row_parts.specs.Spelling.{spelling_of}
use Rattle.row_keeper.specs.Rows.{with_row}
use Rattle.run_history.specs.Lent.{lent}
use Rattle.book.specs.Appending.{left_row}
use Rattle.book.specs.Books.{CoreView}
use Rattle.book.specs.Sending.{IsUnsent}
use Rattle.book.proofs.ClaimLaws.{KnowsClaims-row}
use Rattle.book.proofs.book_core.Core.append.Goals as goal

-- an entry on a row is no claim
pub invariant_of-self-2 : goal.invariant_of-self-2
invariant_of-self-2 g c =
    KnowsClaims-row (get nat_cmp c.self.inside.sequencers) c.self.inside.history c.note.new.history (lent c.args.entry.now) c.args.name.now
    c.self.invariant c.requires.on_row c.in_ok-note.ensures.appended

-- no id of the entry that comes is known
pub note-requires : goal.note-requires
note-requires g c = record {
  unsent = subst (λ (b : CoreView). IsUnsent (length b.history) b.unacknowledged) (sym c.self.view_is) c.requires.unsent;
}

-- what was stored is the bytes of the row
pub returns-clause-stored : goal.returns-clause-stored
returns-clause-stored g c =
    c.in_default.ensures.stored
    ∙ ap (λ (b : CoreView). option_map (with_row c.args.name.now (spelling_of (left_row c.args.settled c.args.row.now))) b.rows) c.self.view_is
