use Rattle.std.proofs.Common.{rules, nat_lt}
use Rattle.std.proofs.lemmas.Fn.{filter_same}
use Rattle.holdings.specs.declared.pending.Sent.{Sent}
use Rattle.node.proofs.sweeping.older_of.Goals as goal

-- those that pass are kept
pub returns : goal.returns
returns c = filter_same _ (λ (sent : Sent). nat_lt sent.delivery.id.commit c.args.number) _ (λ x b f' k. search rules) _ _
    c.retain.ensures.filtered
