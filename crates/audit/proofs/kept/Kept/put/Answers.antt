use Rattle.std.proofs.Common.{List, subst}
use Rattle.list_lemmas.proofs.Told.{on_ok-map}
use Rattle.mw_types.specs.declared.delivery.Delivery.{Delivery}
use Rattle.book.specs.Sending.{IsAfterEntry}
use Rattle.audit.specs.Keeping.{HasNoted}
use Rattle.audit.proofs.kept.Kept.put.Goals as goal

-- what was handled is taken, and then what was sent is noted
pub returns-clause-waiting : goal.returns-clause-waiting
returns-clause-waiting c = on_ok-map c.put_row.result
    (λ _. record {
      between = c.take_handled.new.waiting.entries;
      taken = c.take_handled.ensures;
      noted = subst (λ (l : List Delivery). HasNoted l c.take_handled.new.waiting.entries c.note_sent.new.waiting.entries)
          c.new_pending.ensures c.in_ok-note_sent.ensures;
    }) c.put_row.ensures

-- what was sent is pending, and what is acknowledged is not
pub returns-clause-pending : goal.returns-clause-pending
returns-clause-pending c = on_ok-map c.put_row.result
    (λ _. subst (λ n. IsAfterEntry c.args.number c.args.entry.now c.args.left.name n c.args.self.now.pending.entries
    c.note_entry.new.senders.entries) c.count_new-count.ensures c.in_ok-note_entry.ensures) c.put_row.ensures
