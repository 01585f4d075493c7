-- What one thread writes where it works all off: which entry of a drain comes next after a history.
-- Akidau et al., VLDB 2013, sections 4.5 and 4.6, for the low watermark under which timers fire. Own: the
-- order, in which a rule applies only where the earlier ones have nothing to do. The sequencer, a handler's
-- effects, and the line and record that are injected are not named here, since a fenced and legal history
-- leaves no choice of them.
use Rattle.std.specs.Prelude.{◌≡◌, ◌≢◌, ◌<◌, ◌≤◌, ◌+◌, ◌⊎◌, ◌++◌, ◌∷◌, [], ℕ, Bool, true, false, ◌&&◌, nat_lt, nat_le, List, length, Some, Contains}
use Rattle.std.specs.Ordering.{is_gt, nat_cmp, ordering_then}
use Rattle.mw_types.specs.Orders.{row_cmp, timer_cmp, key_cmp}
use Rattle.mw_types.specs.declared.identity.RecordId.{RecordId}
use Rattle.mw_types.specs.declared.identity.RowName.{RowName}
use Rattle.mw_types.specs.declared.delivery.Delivery.{Delivery}
use Rattle.mw_types.specs.declared.timer.Timer.{Timer}
use Rattle.mw_types.specs.declared.entry.Entry.{Entry}
use Rattle.mw_types.specs.declared.entry.Entry.TheVariants.{Claim, Inject, Handle, Fire, Ack, Purge}
use Rattle.topology.specs.Rules.{interval_count}
use Rattle.row_parts.specs.Contents.{Contents, found_delivery}
use Rattle.run_history.specs.Cases.{CaseShape}
use Rattle.run_history.specs.Runs.{Run, run_of, row_of}
use Rattle.run_history.specs.Watermarks.{cursor_of, low_watermark}
use Rattle.run_history.specs.Legal.{floor_of}
use Rattle.run_history.specs.Fences.{Begins}
use Rattle.run_history.specs.Finished.{all_pending, is_handled, injectors_left}
use Rattle.book.specs.Senders.{IsLeastSent}

-- ---- words

-- whether a row forgets ids before it handles one more: it has 64 or more, and its floor can rise
abbrev pub is_full : Run → Contents → Bool
is_full run row = nat_le 64 (length row.seen) && nat_lt row.floor (floor_of run)

-- a timer that is set in a row is due: its time is at most the low watermark of the row's part
pub record IsDue (case : CaseShape) (run : Run) (row : RowName) (timer : Timer) : Type 0 where
  pub set : Contains (row_of case.topology run row).timers timer
  pub due : timer.time ≤ low_watermark case run row.part

-- ---- how far a drain has come that began when the history had this length

-- it has claimed each interval: the history is longer by at least as many entries
abbrev pub HasClaimedAll : CaseShape → ℕ → List Entry → Type 0
HasClaimedAll case from history = from + interval_count case.topology ≤ length history

-- it has claimed each interval, and nothing that was made is unacknowledged
pub record HasAcknowledged (case : CaseShape) (from : ℕ) (history : List Entry) : Type 0 where
  pub claimed : HasClaimedAll case from history
  pub none_pending : all_pending (run_of case.topology history) ≡ []

-- nothing is unacknowledged, and no timer is due
pub record HasFired (case : CaseShape) (from : ℕ) (history : List Entry) : Type 0 where
  pub earlier : HasAcknowledged case from history
  pub none_due : (row : RowName) (timer : Timer) → IsDue case (run_of case.topology history) row timer → ⊥

-- no timer is due, and no injector has a line left
pub record HasInjected (case : CaseShape) (from : ℕ) (history : List Entry) : Type 0 where
  pub earlier : HasFired case from history
  pub none_left : injectors_left case (run_of case.topology history) ≡ []

-- it has come to its end: no line is left, and no row has seen ids
pub record HasEnded (case : CaseShape) (from : ℕ) (history : List Entry) : Type 0 where
  pub earlier : HasInjected case from history
  pub none_seen : (row : RowName) → (row_of case.topology (run_of case.topology history) row).seen ≡ []

-- ---- what it writes next

-- worker 0 claims the intervals, in the order of their numbers
pub record IsNextClaim (case : CaseShape) (from : ℕ) (history : List Entry)
    (worker interval : ℕ) : Type 0 where
  pub first_worker : worker ≡ 0
  pub there : interval < interval_count case.topology
  pub next : length history ≡ from + interval

-- the least id that is unacknowledged is acknowledged in its sender's row, where its record is handled
pub record IsNextAck (case : CaseShape) (from : ℕ) (history : List Entry)
    (row : RowName) (id : RecordId) : Type 0 where
  pub earlier : HasClaimedAll case from history
  pub least : IsLeastSent case.topology (run_of case.topology history) id row
  pub handled : is_handled id history ≡ true

-- the record of the least id that is unacknowledged is to be handled in this row
pub record IsToHandle (case : CaseShape) (from : ℕ) (history : List Entry)
    (row : RowName) (id : RecordId) : Type 0 where
  pub earlier : HasClaimedAll case from history
  pub sender : RowName
  pub least : IsLeastSent case.topology (run_of case.topology history) id sender
  pub delivery : Delivery
  pub sent : let run = run_of case.topology history in
      found_delivery id (row_of case.topology run sender).pending ≡ Some delivery
  pub to_row : delivery.to ≡ row
  pub unhandled : is_handled id history ≡ false

-- a row that is full forgets the ids below the run's floor before it handles that record
pub record IsPurgeBefore (case : CaseShape) (from : ℕ) (history : List Entry)
    (row : RowName) (floor : ℕ) : Type 0 where
  pub id : RecordId
  pub waits : IsToHandle case from history row id
  pub full : let run = run_of case.topology history in
      is_full run (row_of case.topology run row) ≡ true
  pub to_floor : floor ≡ floor_of (run_of case.topology history)

-- a row that is not full handles that record
pub record IsNextHandle (case : CaseShape) (from : ℕ) (history : List Entry)
    (row : RowName) (id : RecordId) : Type 0 where
  pub waits : IsToHandle case from history row id
  pub room : let run = run_of case.topology history in
      is_full run (row_of case.topology run row) ≡ false

-- the first part that has a due timer fires its least by time, tag and key, under exactly its low watermark
pub record IsNextFire (case : CaseShape) (from : ℕ) (history : List Entry)
    (row : RowName) (timer : Timer) (mark : ℕ) : Type 0 where
  pub earlier : HasAcknowledged case from history
  pub due : IsDue case (run_of case.topology history) row timer
  pub first : (other : RowName) (another : Timer) →
      IsDue case (run_of case.topology history) other another → row.part ≤ other.part
  pub least : (other : RowName) (another : Timer) →
      IsDue case (run_of case.topology history) other another → other.part ≡ row.part →
      is_gt (ordering_then (timer_cmp timer another) (key_cmp row.key other.key)) ≡ false
  pub exact : mark ≡ low_watermark case (run_of case.topology history) row.part

-- of the injectors that have a line left the one that has injected the fewest injects its next, and of equal
-- ones the first
pub record IsNextInject (case : CaseShape) (from : ℕ) (history : List Entry) (part : ℕ) : Type 0 where
  pub earlier : HasFired case from history
  pub left : Contains (injectors_left case (run_of case.topology history)) part
  pub least : (other : ℕ) → let run = run_of case.topology history in
      Contains (injectors_left case run) other → let lines = cursor_of case run in
      is_gt (ordering_then (nat_cmp (lines part) (lines other)) (nat_cmp part other)) ≡ false

-- of the rows that have seen ids the first by name forgets those below the run's floor
pub record IsLastPurge (case : CaseShape) (from : ℕ) (history : List Entry)
    (row : RowName) (floor : ℕ) : Type 0 where
  pub earlier : HasInjected case from history
  pub has : (row_of case.topology (run_of case.topology history) row).seen ≢ []
  pub least : (other : RowName) → let run = run_of case.topology history in
      (row_of case.topology run other).seen ≢ [] → is_gt (row_cmp row other) ≡ false
  pub to_floor : floor ≡ floor_of (run_of case.topology history)

-- ---- the whole

-- an entry comes next after a history, in a drain that began when the history had this length
abbrev pub IsNextEntry : CaseShape → ℕ → List Entry → Entry → Type 0
IsNextEntry case from history (Claim worker interval) = IsNextClaim case from history worker interval
IsNextEntry case from history (Inject seq part line item) = IsNextInject case from history part
IsNextEntry case from history (Handle seq row id effects) = IsNextHandle case from history row id
IsNextEntry case from history (Fire seq row timer mark effects) = IsNextFire case from history row timer mark
IsNextEntry case from history (Ack seq row id) = IsNextAck case from history row id
IsNextEntry case from history (Purge seq row floor) =
    IsPurgeBefore case from history row floor ⊎ IsLastPurge case from history row floor

-- from this length on a history goes as a drain does: each of its entries is the next after those before it
abbrev pub IsDraining : CaseShape → ℕ → List Entry → Type 0
IsDraining case from history = (before : List Entry) (entry : Entry) →
    Begins (before ++ entry ∷ []) history → from ≤ length before → IsNextEntry case from before entry

-- a history is drained: from this length on it goes as a drain does, and to the drain's end
pub record IsDrained (case : CaseShape) (from : ℕ) (history : List Entry) : Type 0 where
  pub draining : IsDraining case from history
  pub ended : HasEnded case from history
