-- What waits, kept by its ids. No public clause cites this module.
use Rattle.std.specs.Prelude.{◌≡◌, List, Option}
use Rattle.std.specs.Map.{lookup}
use Rattle.std.specs.BTreeMap.{is_at}
use Rattle.mw_types.specs.Orders.{id_cmp}
use Rattle.mw_types.specs.declared.identity.RecordId.{RecordId}
use Rattle.mw_types.specs.declared.delivery.Delivery.{Delivery}
use Rattle.row_parts.specs.Contents.{found_delivery}

-- the delivery of an id, of deliveries that are kept by their ids
abbrev pub waiting_in : List (RecordId × Delivery) → RecordId → Option Delivery
waiting_in waiting id = lookup (is_at (id_cmp id)) waiting

-- each delivery that waits is found under its id, and no other
abbrev pub AreWaiting : List Delivery → List (RecordId × Delivery) → Type 0
AreWaiting unhandled waiting = (id : RecordId) → waiting_in waiting id ≡ found_delivery id unhandled
