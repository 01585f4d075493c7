-- What a worker holds may cross threads.
use denote.Param.Send.{IsSend, sendable}
use Rattle.std.proofs.Crossing.{crosses}
use Rattle.std.proofs.MapsCrossing as maps
use Rattle.mw_types.proofs.delivery.Delivery.TheSendSync as deliveries
use Rattle.mw_types.proofs.identity.RecordId.TheSendSync as ids
use Rattle.mw_types.proofs.identity.RowName.TheSendSync as names
use Rattle.mw_types.proofs.seq.Seq.TheSendSync as lists
use Rattle.mw_types.specs.contracts.delivery.Delivery as Delivery
use Rattle.mw_types.specs.contracts.identity.RecordId as RecordId
use Rattle.mw_types.specs.contracts.seq.Seq as Seq
use Rattle.row_parts.specs.contracts.row.Row as Row
use Rattle.holdings.specs.contracts.cache.Cache as Cache
use Rattle.holdings.specs.contracts.held.Held as Held
use Rattle.holdings.specs.contracts.holdings.Holdings as Holdings
use Rattle.holdings.specs.contracts.index.Index as Index
use Rattle.holdings.specs.contracts.slots.Slots as Slots
use Rattle.book.proofs.Sending.{state_field_send, timers_send}

-- a list of deliveries
pub deliveries_send : IsSend (Seq.the_row Delivery.the_row)
deliveries_send = search (lists.the_send, deliveries.the_send) depth 30

-- a list of ids
pub ids_send : IsSend (Seq.the_row RecordId.the_row)
ids_send = search (lists.the_send, ids.the_send) depth 30

-- a row
pub row_send : IsSend Row.the_row
row_send = search (sendable, state_field_send, timers_send, deliveries_send, ids_send) depth 30

-- rows at places of their own
pub slots_send : IsSend Slots.the_row
slots_send = search (sendable, crosses, maps.crosses, row_send, names.the_send, names.the_field_send) depth 30

-- the rows of an interval
pub cache_send : IsSend Cache.the_row
cache_send = search (sendable, crosses, slots_send, row_send, names.the_field_send) depth 30

-- what is kept beside them
pub index_send : IsSend Index.the_row
index_send = search (sendable, crosses, maps.crosses, names.the_send, names.the_field_send) depth 30

-- what is held of an interval
pub held_send : IsSend Held.the_row
held_send = search (sendable, crosses, cache_send, index_send) depth 30

-- what is held of all intervals
pub holdings_send : IsSend Holdings.the_row
holdings_send = search (sendable, crosses, held_send) depth 30
