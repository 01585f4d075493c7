use Rattle.std.proofs.Common.{subst}
use Rattle.book.specs.Books.{CoreView}
use Rattle.book.specs.Sending.{IsLeastKnown}
use Rattle.book.proofs.book_core.Core.first_sent.Goals as goal

-- the first key is the least
pub returns-in-Some-clause-least : goal.returns-in-Some-clause-least
returns-in-Some-clause-least g c = subst (λ (b : CoreView). IsLeastKnown b.unacknowledged c.in-Some.id.now) c.self.view_is
    c.in-Some.ensures.least
