use Rattle.std.proofs.Common.{◌≡◌, ◌∙◌, ap, subst, sym}
use Rattle.std.specs.Prelude.{Option, Some}
use Rattle.std.specs.Option.{option_and_then}
use Rattle.computations.specs.Handlers.{OfRecord}
use Rattle.row_parts.specs.Contents.{Contents}
use Rattle.run_history.specs.Legal.{outcome_of}
use Rattle.holdings.specs.Holding.{held_at, held_on}
use Rattle.node.specs.Fits.{Fits}
use Rattle.outbox.specs.Messages.{IsOutgoing}
use Rattle.node.specs.Workers.{NodeView, WorkView}
use Rattle.node.specs.Works.{row_or_fresh}
use Rattle.outbox.specs.declared.outgoing.Outgoing.TheVariants as outgoing
use Rattle.node.proofs.FitLaws.{node_in}
use Rattle.node.proofs.CopyLaws.{handled-held}
use Rattle.node.proofs.ReceiveLaws.{Fits-again, Fits-new}
use Rattle.node.proofs.node.Node.take_in.Goals as goal

-- a record that is finished is acknowledged once more
pub returns-then-is_finished-clause-fits : goal.returns-then-is_finished-clause-fits
returns-then-is_finished-clause-fits g c = λ desk sound fits sent.
    let case = c.args.case.now in
    let node : NodeView = node_in c.self.inside in
    let was : Fits case desk node = subst (Fits case desk) (sym c.self.view_is) fits in
    let there : held_on case.topology node.held c.args.delivery.to ≡ Some c.in-Some.held.now =
    ap (option_and_then (held_at node.held)) c.interval_of-interval.ensures.interval ∙ sym c.in-Some.ensures.held in
    let handled = handled-held case desk node.held c.args.delivery c.args.sender c.in-Some.held.now sound was.of_case was.held there sent
    (sym (c.is_finished.ensures case.topology) ∙ c.if-is_finished.true) in
    let ack : IsOutgoing case desk (outgoing.Ack c.args.sender c.args.delivery.id) =
    record { so = handled; addressed = c.requires.deliverable.from } in
    subst (Fits case desk) (sym c.in_ok-acknowledge.ensures.put)
    (Fits-again case desk c.args.self.now c.args.delivery c.args.sender ack fits)

-- a record that is not is prepared
pub returns-in-Ok-clause-fits : goal.returns-in-Ok-clause-fits
returns-in-Ok-clause-fits g c = λ desk sound fits sent.
    let case = c.args.case.now in
    let node : NodeView = node_in c.self.inside in
    let was : Fits case desk node = subst (Fits case desk) (sym c.self.view_is) fits in
    let there : held_on case.topology node.held c.args.delivery.to ≡ Some c.in-Some.held.now =
    ap (option_and_then (held_at node.held)) c.interval_of-interval.ensures.interval ∙ sym c.in-Some.ensures.held in
    let to = c.args.delivery.to in
    let does = subst (λ (o : Option Contents). outcome_of case to (row_or_fresh case.topology to.part o) (OfRecord c.args.delivery.item)
    ≡ Some c.in-Ok.effects) c.row-row.ensures.row c.in-Ok.ensures.does in
    subst (λ (p : Option WorkView). Fits case desk (record node { prepared = p })) (sym c.keep.ensures)
    (Fits-new case desk node c.args.delivery c.args.sender c.in-Ok.effects c.in-Some.held.now there
    (sym (c.is_finished.ensures case.topology) ∙ c.if-is_finished.false) does c.requires.deliverable was sent)
