use Rattle.std.proofs.Common.{◌<◌, length, subst, sym}
use Rattle.run_history.specs.Legal.{MayClaim}
use Rattle.book.specs.Books.{BookView}
use Rattle.book.proofs.Keeping.{IsLawful-claiming}
use Rattle.book.proofs.books.Book.append_claim.Goals as goal

-- the claim may come next
pub invariant_of-self : goal.invariant_of-self
invariant_of-self g c =
    IsLawful-claiming c.self.inside.case.now c.self.inside.core c.claim.new.self c.args.worker c.args.interval c.claim.result
    c.self.invariant
    (subst (λ (b : BookView). length b.history < b.limit) (sym c.self.view_is) c.requires.room)
    (subst (λ (b : BookView). MayClaim b.case c.args.worker c.args.interval) (sym c.self.view_is) c.requires.may)
    c.claim.ensures.appended c.claim.ensures.history c.claim.ensures.rows c.claim.ensures.limit c.claim.ensures.left
    c.claim.ensures.senders c.claim.ensures.marks
