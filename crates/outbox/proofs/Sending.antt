-- What a worker has to send may cross threads.
use denote.Param.Send.{IsSend, sendable}
use Rattle.std.proofs.Crossing.{crosses}
use Rattle.mw_types.proofs.delivery.Delivery.TheSendSync as deliveries
use Rattle.mw_types.proofs.identity.RecordId.TheSendSync as ids
use Rattle.mw_types.proofs.identity.RowName.TheSendSync as names
use Rattle.outbox.specs.contracts.outbox.Outbox as Outbox
use Rattle.outbox.specs.contracts.outgoing.Outgoing as Outgoing

-- what is to be sent
outgoing_send : IsSend Outgoing.the_row
outgoing_send = search (sendable, deliveries.the_field_send, names.the_field_send, ids.the_field_send) depth 30

-- what a worker has to send
pub outbox_send : IsSend Outbox.the_row
outbox_send = search (sendable, crosses, outgoing_send) depth 30
