use Rattle.std.proofs.Common.{◌≡◌, ◌<◌, ◌≤◌, length, arith}
use Rattle.std.proofs.lemmas.List.{length-map}
use Rattle.mw_types.specs.declared.record.Production.{Production}
use Rattle.topology.specs.declared.subscription.Subscription.{Subscription}
use Rattle.run_history.specs.Made.{produced, row_to, sends_of, delivery_at}
use Rattle.run_history.proofs.Making.{length_sent, sent_step, sent_all}
use Rattle.run_history.proofs.made.deliveries.Goals as goal

pub loop-production-preserved : goal.loop-production-preserved
loop-production-preserved c =
    let subscriptions = c.args.consumers.now in
    let item = produced c.args.late c.production-item.result in
    let old = c.loop-production.deliveries in
    let within : c.loop-production.production-index < length c.args.productions.now = omega arith in
    let each : length (sends_of subscriptions item) ≡ length subscriptions = length-map subscriptions
    (λ (s : Subscription). (row_to item s, item)) in
    record {
      count = omega (
        arith,
        each,
        length_sent (delivery_at c.args.commit) (length old)
            (sends_of subscriptions item) old c.send.new.deliveries c.in_ok-send.ensures,
      );
      left = sent_step (delivery_at c.args.commit)
          (λ (p : Production). sends_of subscriptions (produced c.args.late p)) c.args.productions.now _ _ old c.send.new.deliveries _
          within c.production-item.is c.in_ok-send.ensures c.loop-production.invariant.left;
    }

pub returns : goal.returns
returns c =
    let over : length c.args.productions.now ≤ c.loop-production.production-index = omega arith in
    sent_all (delivery_at c.args.commit) (sends_of c.args.consumers.now)
    (produced c.args.late) c.args.productions.now _ _ over c.loop-production.invariant.left
