use Rattle.std.proofs.Common.{◌≡◌, rules, subst, sym}
use Rattle.std.specs.Prelude.{Option, option_copied}
use Rattle.row_parts.specs.Contents.{Contents}
use Rattle.run_history.specs.Runs.{cached, row_in}
use Rattle.node.specs.Works.{IsStateThere, row_or_fresh}
use Rattle.audit.proofs.FoundLaws.{reader-there, state-there, waits-in_time}
use Rattle.audit.proofs.handling.delivered.Goals as goal

-- the part to which the delivery goes is there
pub sequencer-requires : goal.sequencer-requires
sequencer-requires c = record {
  part = (reader-there c.args.case.now c.args.history.now c.args.delivery.now.id c.args.delivery.now c.requires.followed
      c.requires.waits).1;
}

-- and its row has a state of its kind
pub left_of_delivery-requires-clause-there : goal.left_of_delivery-requires-clause-there
left_of_delivery-requires-clause-there c =
    let shape = c.args.case.now.topology in
    let to = c.args.delivery.now.to in
    let there = reader-there c.args.case.now c.args.history.now c.args.delivery.now.id c.args.delivery.now c.requires.followed
    c.requires.waits in
    let found : option_copied c.get-found.result ≡ row_in (cached c.args.kept.now.rows.entries) to = search rules in
    subst (λ (o : Option Contents). IsStateThere shape to.part (row_or_fresh shape to.part o).state) (sym found)
    (state-there c.args.case.now c.args.history.now c.args.kept.now to c.requires.followed c.requires.kept there.0 there.1)

-- the delivery is in time
pub left_of_delivery-requires-clause-stamp : goal.left_of_delivery-requires-clause-stamp
left_of_delivery-requires-clause-stamp c =
    waits-in_time c.args.case.now c.args.history.now c.args.delivery.now.id c.args.delivery.now c.requires.followed c.requires.waits
