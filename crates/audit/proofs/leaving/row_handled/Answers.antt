use Rattle.std.proofs.Common.{◌≡◌, Some, rules, subst, sym}
use Rattle.mw_types.specs.declared.identity.RowName.{RowName}
use Rattle.run_history.specs.Runs.{cached, row_of}
use Rattle.book.specs.Proposals.{IsProposable}
use Rattle.book.specs.declared.proposal.Proposal.{Proposal}
use Rattle.book.specs.declared.proposal.Proposal.TheVariants as proposals
use Rattle.audit.specs.Waits.{waiting_in}
use Rattle.audit.proofs.leaving.row_handled.Goals as goal

-- the proposal is that the delivery which waits was handled
pub row_after-requires-clause-proposal : goal.row_after-requires-clause-proposal
row_after-requires-clause-proposal c =
    let case = c.args.case.now in
    let rows = cached c.args.kept.now.rows.entries in
    let found : waiting_in c.args.kept.now.waiting.entries c.args.id ≡ Some c.unwrap-delivery.result.now = search rules in
    subst (λ (p : Proposal). IsProposable case c.in_ok-name.name (row_of case.topology rows c.in_ok-name.name) p)
    (sym c.in_ok-proposal.ensures)
    (subst (λ (n : RowName). IsProposable case n (row_of case.topology rows n)
    (proposals.Handle c.unwrap-delivery.result.now c.args.effects.now)) (sym c.in_ok-name.ensures.copied)
    (c.requires.proposal c.unwrap-delivery.result.now found))
