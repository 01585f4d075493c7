use Rattle.std.proofs.Common.{◌≡◌, sym, ◌∙◌}
use Rattle.run_history.specs.Fences.{last_claim}
use Rattle.book.specs.Appending.{later_than}
use Rattle.book.proofs.ClaimLaws.{later-own}
use Rattle.book.proofs.books.Book.newer.Goals as goal

-- no later claim is there
pub returns-clause-own : goal.returns-clause-own
returns-clause-own g c none =
    let newest : c.newest-newest.result ≡ last_claim c.args.lease.now.interval c.args.self.now.history
    = c.newest-newest.ensures.last ∙ (λ i. last_claim (c.interval.ensures i) (c.self.view_is i).history) in
    later-own c.args.self.now.history c.args.lease.now c.requires.claimed
    (sym (c.later.ensures ∙ (λ i. later_than (c.seq.ensures i) (newest i))) ∙ none)
