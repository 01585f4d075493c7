-- What is pending in the rows of an interval.
-- Akidau et al., VLDB 2013, section 6.1: what was sent and not acknowledged is sent again. Own: the list
-- of it.
use Rattle.std.specs.Prelude.{◌≡◌, List, Some, All, Contains, map}
use Rattle.mw_types.specs.declared.identity.RowName.{RowName}
use Rattle.mw_types.specs.declared.delivery.Delivery.{Delivery}
use Rattle.row_parts.specs.Contents.{Contents}
use Rattle.run_history.specs.Runs.{cached, row_in}
use Rattle.holdings.specs.declared.pending.Sent.{Sent}

-- a delivery is pending in the row that sent it
pub record IsPendingAmong (rows : List (RowName × Contents)) (sent : Sent) : Type 0 where
  pub row : Contents
  pub there : row_in (cached rows) sent.sender ≡ Some row
  pub pending : Contains row.pending sent.delivery

-- all that is pending in some rows, and nothing else
pub record ArePendingAmong (rows : List (RowName × Contents)) (sent : List Sent) : Type 0 where
  pub each : All (IsPendingAmong rows) sent
  pub all : (one : Sent) → IsPendingAmong rows one → Contains sent one

-- ---- what no public clause cites

-- a delivery, with the name of the row that sent it
abbrev pub sent_of : RowName → Delivery → Sent
sent_of name delivery = record { sender = name; delivery = delivery }

-- what is pending in a row
abbrev pub sent_in : RowName × Contents → List Sent
sent_in r = map (sent_of r.0) r.1.pending
