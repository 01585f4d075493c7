use Rattle.std.proofs.Common.{subst, sym}
use Rattle.trace_lines.specs.declared.choice.Choice.{Choice}
use Rattle.trace_lines.specs.declared.choice.Choice.TheVariants as choices
use Rattle.audit.specs.Choices.{IsChosen}
use Rattle.audit.specs.Standings.{StandingView}
use Rattle.audit.proofs.standings.Standing.entry_of.Goals as goal

-- a claim is that of any history
pub returns-in-Claim : goal.returns-in-Claim
returns-in-Claim c = record {
  chosen = subst (λ (choice : Choice). IsChosen c.args.self.now.case c.args.self.now.history choice c.claim_of.result)
      (sym c.in-Claim.is)
      (subst (λ (v : StandingView). IsChosen v.case v.history (choices.Claim c.in-Claim.worker c.in-Claim.interval) c.claim_of.result)
      c.self.view_is (c.claim_of.ensures c.self.inside.history));
}
