-- What workers send each other: a record to the row that handles it, and word that it was handled to the row
-- that sent it.
-- Akidau et al., VLDB 2013, section 6.1. Own: what a message says is so in what its sender had seen of the
-- history.
use Rattle.std.specs.Prelude.{◌≡◌, ◌<◌, ◌≤◌, ℕ, true, List, map, Option, Some, None, IfSome, ⊤}
use Rattle.mw_types.specs.declared.TheConstants.{MAX_STAMP}
use Rattle.mw_types.specs.declared.identity.RecordId.{RecordId}
use Rattle.mw_types.specs.declared.identity.RowName.{RowName}
use Rattle.mw_types.specs.declared.delivery.Delivery.{Delivery}
use Rattle.mw_types.specs.declared.entry.Entry.{Entry}
use Rattle.topology.specs.Shapes.{Shape, injectors_of, parts_of}
use Rattle.row_parts.specs.Contents.{IsId, found_delivery}
use Rattle.run_history.specs.Cases.{CaseShape}
use Rattle.run_history.specs.Finished.{is_handled}
use Rattle.run_history.specs.Runs.{run_of}
use Rattle.history_laws.specs.Ids.{IsMadeOn}
use Rattle.book.specs.Desks.{DeskView, Sight}
use Rattle.holdings.specs.declared.pending.Sent.{Sent}
use Rattle.outbox.specs.declared.outgoing.Outgoing.{Outgoing}
use Rattle.outbox.specs.declared.outgoing.Outgoing.TheVariants as outgoing

-- ---- what a message says

-- a delivery was made, by an entry on its sender's row
pub record IsSentFrom (case : CaseShape) (seen : List Entry) (sender : RowName)
    (delivery : Delivery) : Type 0 where
  pub made : found_delivery delivery.id (run_of case.topology seen).made ≡ Some delivery
  pub on_sender : IsMadeOn seen sender delivery

-- what a message says is so in a history: its record was made on the sender's row, or the record of its id
-- was handled
abbrev pub IsSoIn : CaseShape → List Entry → Outgoing → Type 0
IsSoIn case seen (outgoing.Deliver delivery sender) = IsSentFrom case seen sender delivery
IsSoIn case seen (outgoing.Ack to id) = is_handled id seen ≡ true

-- a part is a computation
pub record IsComputation (shape : Shape) (part : ℕ) : Type 0 where
  pub no_injector : injectors_of shape ≤ part
  pub there : part < parts_of shape

-- a record that is sent has an id and a timestamp that can be kept, goes to a computation's row and comes
-- from a row of a part
pub record IsDeliverable (shape : Shape) (delivery : Delivery) (sender : RowName) : Type 0 where
  pub id : IsId delivery.id
  pub stamp : delivery.item.stamp ≤ MAX_STAMP
  pub to : IsComputation shape delivery.to.part
  pub from : sender.part < parts_of shape

-- a message names rows that may be there
abbrev pub IsAddressed : Shape → Outgoing → Type 0
IsAddressed shape (outgoing.Deliver delivery sender) = IsDeliverable shape delivery sender
IsAddressed shape (outgoing.Ack to id) = to.part < parts_of shape

-- a message may be sent by one who has seen so much: it is so where that is told, and is addressed
pub record IsOutgoing (case : CaseShape) (desk : DeskView) (message : Outgoing) : Type 0 where
  pub so : IfSome desk.told (λ _. IsSoIn case desk.seen message)
  pub addressed : IsAddressed case.topology message

-- ---- what is sent

-- deliveries as messages from the row that sent them
abbrev pub messages_from : RowName → List Delivery → List Outgoing
messages_from name deliveries = map (λ (d : Delivery). outgoing.Deliver d name) deliveries

-- a record that is sent again, as a message from the row that has it pending
abbrev pub sent_again : Sent → Outgoing
sent_again sent = outgoing.Deliver sent.delivery sent.sender

-- ---- messages with a note of what their sender had seen

-- a record that is sent, with a note
pub record ParcelView (N : Type 0) : Type 0 where
  pub delivery : Delivery
  pub sender : RowName
  pub note : N

-- word that the record of an id was handled, with a note
pub record ReceiptView (N : Type 0) : Type 0 where
  pub to : RowName
  pub id : RecordId
  pub note : N

-- a message says what is so by its note, where the note tells
abbrev pub IsSoBy : Option Sight → Outgoing → Type 0
IsSoBy sight message = IfSome sight (λ told. IsSoIn told.case told.seen message)

-- what a message says is so by what the reader has seen, where that is told and the note tells nothing. A reader
-- whose desk is not alone needs nobody to vouch: there a note of its own book tells
abbrev pub IsVouchedFor : CaseShape → DeskView → Option Sight → Outgoing → Type 0
IsVouchedFor case desk None message = desk.alone ≡ true → IfSome desk.told (λ _. IsSoIn case desk.seen message)
IsVouchedFor case desk (Some sight) message = ⊤
