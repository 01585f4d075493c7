use Rattle.std.proofs.Common.{◌≡◌, ◌++◌, ◌∷◌, [], List, subst, sym, ◌∙◌}
use Rattle.std.specs.Prelude.{IfSome}
use Rattle.run_history.specs.Runs.{run_of}
use Rattle.mw_types.specs.declared.entry.Entry.{Entry}
use Rattle.run_history.specs.Lent.{lent}
use Rattle.book.specs.Books.{BookView, core_of}
use Rattle.book.specs.Appending.{IsNext, LeavesWork, left_row, sent_by}
use Rattle.book.specs.Conditions.{IsRowOf}
use Rattle.book.specs.Senders.{AreSenders}
use Rattle.book.proofs.Keeping.{IsLawful-next, IsLawful-stays}
use Rattle.book.proofs.SenderSteps.{senders-next, senders-unsent}
use Rattle.book.proofs.Stores.{grown-held, settled-held}
use Rattle.book.proofs.books.Book.append_left.Goals.{in-Ok, in-Err}
use Rattle.book.proofs.books.Book.append_left.Goals as goal

-- the entry may come next, and its row was stored; or nothing was appended
pub invariant_of-self : goal.invariant_of-self
invariant_of-self g c =
    let left = left_row c.args.settled c.args.row.now in
    let was = subst (λ (b : BookView). LeavesWork b c.args.name.now left c.args.left) (sym c.self.view_is) c.requires.left in
    elim c.match-append.branch [
      | in-Ok w ↦
          IsLawful-next c.self.inside.case.now c.self.inside.core c.append.new.self c.args.name.now (lent c.args.entry.now) was.0 left
          c.self.invariant
          (subst (λ (b : BookView). IsNext b.case (core_of b) c.args.name.now (lent c.args.entry.now) left) (sym c.self.view_is)
          c.requires.next)
          w.in-Ok.ensures.own
          was.1.0
          (w.in-Ok.ensures.left ∙ was.1.1)
          w.in-Ok.ensures.appended
          w.in-Ok.ensures.stored
          c.append.ensures.limit
          (subst (λ (h : List Entry). AreSenders c.self.inside.case.now.topology
          (run_of c.self.inside.case.now.topology h) c.append.new.self.unacknowledged)
          (sym w.in-Ok.ensures.appended)
          (senders-next c.self.inside.case.now.topology c.self.inside.core.history (lent c.args.entry.now) c.args.name.now c.args.sent
          c.self.inside.core.unacknowledged c.append.new.self.unacknowledged c.requires.next.on_row
          (subst (λ (b : BookView). c.args.sent ≡ sent_by b.case.topology b.history (lent c.args.entry.now)) (sym c.self.view_is) c.requires.sent)
          c.self.invariant.senders w.in-Ok.ensures.senders))
          c.append.ensures.marks
      | in-Err w ↦
          IsLawful-stays c.self.inside.case.now c.self.inside.core c.append.new.self c.self.invariant
          w.in-Err.ensures.history w.in-Err.ensures.rows c.append.ensures.limit w.in-Err.ensures.same_left
          w.in-Err.ensures.same_senders c.append.ensures.marks
    ]

-- nothing is known of the entry that comes
pub append-requires-clause-unsent : goal.append-requires-clause-unsent
append-requires-clause-unsent g c =
    senders-unsent c.self.inside.case.now.topology c.self.inside.core.history c.self.inside.core.unacknowledged c.self.invariant.senders

-- the keeper has the bytes of the row in which an id is settled
pub append-requires-clause-held : goal.append-requires-clause-held
append-requires-clause-held g c =
    settled-held c.args.settled c.self.inside.case.now c.self.inside.core.history c.self.inside.core.rows c.args.name.now c.args.row.now
    c.self.invariant.held
    (subst (λ (b : BookView). IfSome c.args.settled (λ _. IsRowOf b.case b.rows b.history c.args.name.now c.args.row.now))
    (sym c.self.view_is) c.requires.was)

-- the keeper has the bytes of the row before a line's deliveries came
pub append-requires-clause-shorter : goal.append-requires-clause-shorter
append-requires-clause-shorter g c =
    grown-held c.args.settled (lent c.args.entry.now) c.args.sent c.self.inside.case.now c.self.inside.core.history c.self.inside.core.rows
    c.args.name.now c.args.row.now c.self.invariant.held c.requires.next.on_row
    (subst (λ (b : BookView). IsRowOf b.case b.rows (b.history ++ (lent c.args.entry.now) ∷ []) c.args.name.now
    (left_row c.args.settled c.args.row.now)) (sym c.self.view_is) c.requires.next.of_history)
    (subst (λ (b : BookView). c.args.sent ≡ sent_by b.case.topology b.history (lent c.args.entry.now)) (sym c.self.view_is) c.requires.sent)
