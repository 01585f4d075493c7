use Rattle.std.proofs.Common.{◌≡◌, ◌<◌, [], subst}
use Rattle.std.specs.Prelude.{◌↔◌, None, IfSome}
use Rattle.run_history.specs.Runs.{run_of}
use Rattle.run_history.specs.Finished.{all_pending}
use Rattle.book.specs.Books.{BookView}
use Rattle.book.specs.Senders.{IsLeastSent}
use Rattle.topology.specs.Shapes.{parts_of}
use Rattle.book.proofs.SenderFloors.{least-found, none-pending}
use Rattle.book.proofs.SenderParts.{part-found}
use Rattle.book.proofs.books.Book.least_sent.Goals as goal

-- the first that is known is the least that is pending
pub returns-clause-least : goal.returns-clause-least
returns-clause-least g c =
    subst (λ (b : BookView). IfSome c.first_sent.result
    (λ sent. IsLeastSent b.case.topology (run_of b.case.topology b.history) sent.0 sent.1.now)) c.self.view_is
    (least-found c.self.inside.case.now.topology (run_of c.self.inside.case.now.topology c.self.inside.core.history)
    c.self.inside.core.unacknowledged
    c.first_sent.result (λ n. n.now) c.self.invariant.senders c.first_sent.ensures.sender c.first_sent.ensures.least)

-- none is known where nothing is pending
pub returns-clause-none : goal.returns-clause-none
returns-clause-none g c =
    let shape = c.self.inside.case.now.topology in
    let known = c.first_sent.ensures.none in
    let pending = none-pending shape c.self.inside.core.history c.self.inside.core.unacknowledged c.self.invariant.senders in
    subst (λ (b : BookView). (c.first_sent.result ≡ None) ↔ (all_pending (run_of b.case.topology b.history) ≡ [])) c.self.view_is
    (λ none. pending.0 (known.0 none), λ empty. known.1 (pending.1 empty))

-- each entry is on a part that is there
pub returns-clause-part : goal.returns-clause-part
returns-clause-part g c =
    subst (λ (b : BookView). IfSome c.first_sent.result (λ sent. sent.1.now.part < parts_of b.case.topology)) c.self.view_is
    (part-found c.self.inside.case.now.topology c.self.inside.core.history c.self.inside.core.unacknowledged
    c.first_sent.result (λ n. n.now) c.self.invariant.printable.parts c.self.invariant.senders c.first_sent.ensures.sender)
