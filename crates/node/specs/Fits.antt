-- When a node fits what its desk knows: what it holds, what it has prepared and what it has to send are right
-- by what the desk has seen. Own.
use Rattle.std.specs.Prelude.{◌≡◌, List, Option, Some, IfSome, All}
use Rattle.mw_types.specs.Outcomes.{EffectsView}
use Rattle.mw_types.specs.declared.delivery.Delivery.{Delivery}
use Rattle.mw_types.specs.declared.identity.RowName.{RowName}
use Rattle.run_history.specs.Cases.{CaseShape}
use Rattle.book.specs.Desks.{DeskView}
use Rattle.book.specs.Proposals.{IsHandling}
use Rattle.book.specs.declared.proposal.Proposal.{Proposal}
use Rattle.book.specs.declared.proposal.Proposal.TheVariants as proposals
use Rattle.holdings.specs.Holding.{AreAllHeld, HeldView, held_on, row_held}
use Rattle.outbox.specs.Messages.{IsOutgoing}
use Rattle.node.specs.Workers.{NodeView, WorkView}
use Rattle.outbox.specs.declared.outgoing.Outgoing.TheVariants as outgoing

-- a record that its sender may have sent goes to a row that is held, and is not finished there; these effects
-- are what its computation's handler leaves of it on that row
pub record IsHandled (case : CaseShape) (desk : DeskView) (all : List (Option HeldView)) (sender : RowName)
    (delivery : Delivery) (effects : EffectsView) : Type 0 where
  pub sent : IsOutgoing case desk (outgoing.Deliver delivery sender)
  pub held : HeldView
  pub there : held_on case.topology all delivery.to ≡ Some held
  pub handling : IsHandling case delivery.to (row_held case.topology held delivery.to) delivery effects

-- what is proposed is that such a record was handled
abbrev pub IsPrepared : CaseShape → DeskView → List (Option HeldView) → RowName → Proposal → Type 0
IsPrepared case desk all sender (proposals.Handle delivery effects) =
    IsHandled case desk all sender delivery effects
IsPrepared case desk all sender _ = ⊥

-- a work that is prepared is right
abbrev pub IsWork : CaseShape → DeskView → List (Option HeldView) → WorkView → Type 0
IsWork case desk all work = IsPrepared case desk all work.sender work.proposal

-- a node fits a desk
pub record Fits (case : CaseShape) (desk : DeskView) (node : NodeView) : Type 0 where
  pub of_case : desk.case ≡ case
  pub held : AreAllHeld case desk node.held
  pub work : IfSome node.prepared (IsWork case desk node.held)
  pub outbox : All (IsOutgoing case desk) node.outbox
