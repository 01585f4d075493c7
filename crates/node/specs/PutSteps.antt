-- What one write on a row that a node holds leaves of the node. No public clause cites this module.
use Rattle.std.specs.Prelude.{◌≡◌, ◌++◌, ◌⊎◌, ℕ, List, map, Result, Ok}
use Rattle.mw_types.specs.declared.identity.RowName.{RowName}
use Rattle.run_history.specs.Cases.{CaseShape}
use Rattle.book.specs.Desks.{DeskView, HasLooked}
use Rattle.book.specs.declared.desk_refusal.DeskRefusal.{DeskRefusal}
use Rattle.book.specs.declared.writing.Writing.{Writing}
use Rattle.holdings.specs.Holding.{AreAllHeld, IsRefusedOf}
use Rattle.outbox.specs.Outboxes.{numbered}
use Rattle.outbox.specs.WorkSteps.{HoldsPut}
use Rattle.outbox.specs.declared.outgoing.Outgoing.{Outgoing}
use Rattle.node.specs.Answers.{HasKept}
use Rattle.node.specs.Fits.{Fits}
use Rattle.node.specs.Steps.{HasYielded, answered}
use Rattle.node.specs.Workers.{NodeView}
use Rattle.node.specs.declared.outcome.NodeFault.{NodeFault}
use Rattle.node.specs.declared.outcome.Outcome.{Outcome}
use Rattle.node.specs.declared.outcome.Outcome.TheVariants as outcomes

-- a row of an interval was written: it is held as the entry leaves it, and what the entry made is last in the
-- outbox
pub record IsPutOn (case : CaseShape) (old new : DeskView) (interval : ℕ) (name : RowName) (writing : Writing)
    (made : List Outgoing) (was node : NodeView) (commit : ℕ) : Type 0 where
  pub put : HoldsPut case.topology old new interval name writing commit was.held node.held
  pub fit : AreAllHeld case new node.held
  pub left : record was { held = node.held; outbox = was.outbox ++ map (numbered commit) made } ≡ node

-- the desk refused a call on what is held of an interval: a lease that was overtaken is let go, and all else is
-- as it was
pub record IsPutOff (case : CaseShape) (old new : DeskView) (interval : ℕ) (was node : NodeView)
    (result : Result Outcome NodeFault) : Type 0 where
  pub why : DeskRefusal
  pub answer : result ≡ answered why
  pub looked : HasLooked old new
  pub reason : IsRefusedOf old new was.held interval why
  pub asked : NodeView
  pub kept : HasKept was asked
  pub left : HasYielded case.topology interval why asked node
  pub fits : Fits case new node

-- what was written stands, or the desk refused
abbrev pub HasPutOn : CaseShape → DeskView → DeskView → ℕ → RowName → Writing → List Outgoing → NodeView → NodeView
    → Result Outcome NodeFault → Type 0
HasPutOn case old new interval name writing made was node result =
    ((commit : ℕ) × (result ≡ Ok (outcomes.Committed commit))
    × IsPutOn case old new interval name writing made was node commit)
    ⊎ IsPutOff case old new interval was node result
