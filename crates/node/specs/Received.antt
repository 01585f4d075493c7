-- A message that a worker is given, without its note and by its note. Own.
use Rattle.std.specs.Prelude.{List, Option, Some, None, slice_get, ⊤}
use Rattle.std.specs.Option.{option_and_then}
use Rattle.node.specs.declared.message.Message.{Message}
use Rattle.node.specs.declared.message.Message.TheVariants as messages
use Rattle.outbox.specs.declared.outgoing.Outgoing.{Outgoing}
use Rattle.outbox.specs.declared.outgoing.Outgoing.TheVariants as outgoing

-- a message without its note
abbrev pub outgoing_of : {N : Type 0} → Message N → Outgoing
outgoing_of (messages.Deliver parcel) = outgoing.Deliver parcel.delivery parcel.sender
outgoing_of (messages.Ack receipt) = outgoing.Ack receipt.to receipt.id

-- the note of a message
abbrev pub note_of : {N : Type 0} → Message N → N
note_of (messages.Deliver parcel) = parcel.note
note_of (messages.Ack receipt) = receipt.note

-- a message is a record to be handled
abbrev pub IsDeliver : Outgoing → Type 0
IsDeliver (outgoing.Deliver delivery sender) = ⊤
IsDeliver (outgoing.Ack to id) = ⊥

-- a message is word that a record was handled
abbrev pub IsAck : Outgoing → Type 0
IsAck (outgoing.Deliver delivery sender) = ⊥
IsAck (outgoing.Ack to id) = ⊤

-- a message, where it is a record to be handled
abbrev pub where_record : Outgoing → Option Outgoing
where_record (outgoing.Deliver delivery sender) = Some (outgoing.Deliver delivery sender)
where_record (outgoing.Ack to id) = None

-- the first of some messages, where it is a record to be handled
abbrev pub first_record : List Outgoing → Option Outgoing
first_record messages = option_and_then where_record (slice_get messages 0)
