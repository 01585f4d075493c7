use Rattle.std.proofs.Common.{◌≡◌, ◌∙◌, ap, rules, subst, sym}
use Rattle.std.specs.Prelude.{option_copied}
use Rattle.row_parts.specs.Contents.{Contents}
use Rattle.run_history.specs.Runs.{run_of}
use Rattle.book.specs.OwnDesks.{own_view}
use Rattle.holdings.specs.Holding.{row_held}
use Rattle.node.specs.Works.{IsStateThere, row_or_fresh}
use Rattle.node.proofs.PurgeLaws.{held-on-at}
use Rattle.node.proofs.StateLaws.{state-held}
use Rattle.world.specs.drains.Standings.{IsStandingIn}
use Rattle.world.proofs.drains.HeldLaws.{cached_at, held-here, held-if, row-here}
use Rattle.world.proofs.Results.{ok-then}
use Rattle.world.proofs.drains.standing.standing_of.Goals as goal

-- the row has a state of its part's kind
pub standing_at-requires-clause-there : goal.standing_at-requires-clause-there
standing_at-requires-clause-there g c =
    let book = c.args.book.now in
    let shape = book.case.topology in
    let all = c.args.held.now in
    let to = c.args.delivery.now.to in
    let held = held-here book all to c.args.interval c.requires.at_work c.requires.covers in
    let is : option_copied c.row_of-row.result ≡ cached_at all c.args.interval to = search rules in
    subst (λ (r : Contents). IsStateThere shape to.part r.state)
    (sym (ap (row_or_fresh shape to.part) is ∙ row-here shape all to c.args.interval held.0 held.1))
    (state-held book.case (own_view book) all to held.0 c.requires.at_work.fits.held c.requires.computation
    (held-on-at shape all to c.args.interval held.0 c.requires.covers held.1))

-- what is found of it is found as it is held
pub returns : goal.returns
returns g c =
    let book = c.args.book.now in
    let shape = book.case.topology in
    let all = c.args.held.now in
    let to = c.args.delivery.now.to in
    let held = held-here book all to c.args.interval c.requires.at_work c.requires.covers in
    let is : option_copied c.row_of-row.result ≡ cached_at all c.args.interval to = search rules in
    record {
      stands = ok-then c.standing_at.result (λ found stands. held-if (λ here. IsStandingIn book.case (run_of shape book.history)
          (row_held shape here to) c.args.delivery.now found) all c.args.interval held.0 held.1
          (subst (λ (r : Contents). IsStandingIn book.case (run_of shape book.history) r c.args.delivery.now found)
          (ap (row_or_fresh shape to.part) is ∙ row-here shape all to c.args.interval held.0 held.1) stands)) c.standing_at.ensures.stands;
    }
