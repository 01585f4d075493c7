-- Which ids are unacknowledged, and which row sent each.
-- Akidau et al., VLDB 2013, section 6.1: a sender keeps a record until it is acknowledged. Own: an id
-- is pending in its sender's row until then.
use Rattle.std.specs.Prelude.{◌≡◌, ◌↔◌, List, Option, Some, IsSome, false}
use Rattle.std.specs.Map.{lookup}
use Rattle.std.specs.BTreeMap.{is_at}
use Rattle.std.specs.Ordering.{is_gt}
use Rattle.mw_types.specs.Orders.{id_cmp}
use Rattle.mw_types.specs.declared.identity.RecordId.{RecordId}
use Rattle.mw_types.specs.declared.identity.RowName.{RowName}
use Rattle.topology.specs.Shapes.{Shape}
use Rattle.row_parts.specs.Contents.{found_delivery}
use Rattle.run_history.specs.Runs.{Run, row_of}

-- which row sent an id, by what is known of the senders
abbrev pub sender_of : List (RecordId × RowName) → RecordId → Option RowName
sender_of sent id = lookup (is_at (id_cmp id)) sent

-- an id is pending in a row, which sent it
abbrev pub IsPendingIn : Shape → Run → RecordId → RowName → Type 0
IsPendingIn shape run id name = IsSome (found_delivery id (row_of shape run name).pending)

-- an id stands with a row exactly where it is pending in the row
abbrev pub AreSenders : Shape → Run → List (RecordId × RowName) → Type 0
AreSenders shape run sent = (id : RecordId) (name : RowName) →
    (sender_of sent id ≡ Some name) ↔ IsPendingIn shape run id name

-- an id is the least of those that are pending in any row, and this is its sender's row
pub record IsLeastSent (shape : Shape) (run : Run) (id : RecordId) (name : RowName) : Type 0 where
  pub pending : IsPendingIn shape run id name
  pub least : (other : RecordId) (sender : RowName) →
      IsPendingIn shape run other sender → is_gt (id_cmp id other) ≡ false
