-- How a record stands that a row has pending. No public clause cites this module.
use Rattle.std.specs.Prelude.{◌≡◌, ◌<◌, ℕ, true, false, List, Option, Some, IfSome}
use Rattle.mw_types.specs.Outcomes.{EffectsView}
use Rattle.mw_types.specs.declared.delivery.Delivery.{Delivery}
use Rattle.mw_types.specs.declared.identity.RowName.{RowName}
use Rattle.topology.specs.Shapes.{parts_of}
use Rattle.row_parts.specs.Contents.{Contents, is_finished}
use Rattle.run_history.specs.Cases.{CaseShape}
use Rattle.computations.specs.Handlers.{OfRecord}
use Rattle.run_history.specs.Legal.{outcome_of}
use Rattle.run_history.specs.Runs.{Run, run_of}
use Rattle.book.specs.Books.{BookView, core_of}
use Rattle.book.specs.Lawful.{IsLawful}
use Rattle.book.specs.Senders.{IsLeastSent}
use Rattle.holdings.specs.Holding.{HeldView, held_at, row_held}
use Rattle.node.specs.Workers.{NodeView}
use Rattle.world.specs.drains.Drains.{is_full}
use Rattle.world.specs.drains.Turns.{IsAtWork, sent_at}
use Rattle.world.specs.declared.drains.standing.Standing.{Standing}
use Rattle.world.specs.declared.drains.standing.Standing.TheVariants as standings

-- a record is to be handled on a row, of which its computation leaves this
pub record IsToWrite (case : CaseShape) (run : Run) (row : Contents) (delivery : Delivery)
    (effects : EffectsView) : Type 0 where
  pub left : is_finished delivery.id row ≡ false
  pub room : is_full run row ≡ false
  pub does : outcome_of case delivery.to row (OfRecord delivery.item) ≡ Some effects

-- a row that has not finished a record is full
pub record IsToForget (run : Run) (row : Contents) (delivery : Delivery) : Type 0 where
  pub left : is_finished delivery.id row ≡ false
  pub full : is_full run row ≡ true

-- how a record stands in a row
abbrev pub IsStandingIn : CaseShape → Run → Contents → Delivery → Standing → Type 0
IsStandingIn case run row delivery standings.Finished = is_finished delivery.id row ≡ true
IsStandingIn case run row delivery standings.Full = IsToForget run row delivery
IsStandingIn case run row delivery (standings.Handled effects) = IsToWrite case run row delivery effects

-- how a record stands in its row as that is held of an interval
abbrev pub StandsIn : BookView → List (Option HeldView) → ℕ → Delivery → Standing → Type 0
StandsIn book all interval d found = let shape = book.case.topology in
    IfSome (held_at all interval) (λ (here : HeldView).
    IsStandingIn book.case (run_of shape book.history) (row_held shape here d.to) d found)

-- the record of the least id that is not acknowledged, as its sender's row has it pending that is held
pub record IsFound (book : BookView) (node : NodeView) (sender : RowName) (d : Delivery) : Type 0 where
  pub at_work : IsAtWork book node
  pub lawful : IsLawful book.case (core_of book)
  pub part : sender.part < parts_of book.case.topology
  pub least : IsLeastSent book.case.topology (run_of book.case.topology book.history) d.id sender
  pub sent : sent_at book.case.topology node sender d.id ≡ Some d
