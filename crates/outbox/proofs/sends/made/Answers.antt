use Rattle.std.proofs.Common.{◌∙◌, List, ap, map}
use Rattle.mw_types.specs.declared.delivery.Delivery.{Delivery}
use Rattle.outbox.specs.Outboxes.{numbered}
use Rattle.outbox.specs.Messages.{messages_from}
use Rattle.outbox.specs.declared.outgoing.Outgoing.{Outgoing}
use Rattle.outbox.proofs.SendLaws.{made-addressed, made-numbered}
use Rattle.outbox.proofs.sends.made.Goals as goal

-- what is made under the number 0 gets the entry's
pub returns-clause-made : goal.returns-clause-made
returns-clause-made c = λ commit.
    ap (λ (l : List Outgoing). map (numbered commit) l)
    (c.in_ok-made.ensures ∙ ap (λ (l : List Delivery). messages_from c.args.name.now l) c.in_ok-deliveries.ensures.deliveries)
    ∙ made-numbered c.args.topology.now c.args.name.now c.args.productions.now c.args.late commit

-- and goes to computations
pub returns-clause-addressed : goal.returns-clause-addressed
returns-clause-addressed c = λ commit small.
    made-addressed c.args.topology.now c.args.name.now c.args.productions.now c.args.late commit c.parts-parts.ensures.rules
    c.requires.part c.requires.few c.requires.stamps small
