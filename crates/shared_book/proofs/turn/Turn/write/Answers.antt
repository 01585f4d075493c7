use Rattle.std.proofs.Common.{subst, sym}
use Rattle.run_history.specs.Cases.{CaseShape}
use Rattle.book.specs.Proposals.{IsProposable}
use Rattle.shared_book.proofs.turn.Turn.write.Goals as goal

-- the case of the seat is that of the book
pub put_at-requires-clause-may : goal.put_at-requires-clause-may
put_at-requires-clause-may g c = (
  subst (λ (shape : CaseShape). IsProposable shape c.args.name.now c.args.row.now c.args.proposal.now) (sym c.requires.here.case)
      c.requires.proposal,
  c.requires.seen,
)
