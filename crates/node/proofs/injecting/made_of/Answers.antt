use Rattle.std.proofs.Common.{◌≡◌, ◌<◌, ◌^◌, ◌∷◌, ℕ, [], map, subst}
use Rattle.std.specs.Prelude.{All, IfOk, OnOk}
use Rattle.mw_types.specs.declared.record.Production.{Production}
use Rattle.run_history.specs.Made.{deliveries_made}
use Rattle.outbox.specs.Messages.{IsAddressed, messages_from}
use Rattle.outbox.specs.Outboxes.{numbered}
use Rattle.node.proofs.injecting.made_of.Goals as goal

-- what is made of the one record
pub returns-clause-made : goal.returns-clause-made
returns-clause-made c = subst (λ (p : Production). IfOk c.made.result (λ made. (commit : ℕ) → map (numbered commit) made.items
    ≡ messages_from c.args.name.now (deliveries_made c.args.topology.now c.args.name.now.part (p ∷ []) c.args.item.late commit)))
    c.production_of-production.ensures c.made.ensures.made

-- and where it goes
pub returns-clause-addressed : goal.returns-clause-addressed
returns-clause-addressed c = subst (λ (p : Production). OnOk c.made.result ((commit : ℕ) → commit < 2 ^ 32
    → All (IsAddressed c.args.topology.now) (messages_from c.args.name.now
    (deliveries_made c.args.topology.now c.args.name.now.part (p ∷ []) c.args.item.late commit))))
    c.production_of-production.ensures c.made.ensures.addressed
