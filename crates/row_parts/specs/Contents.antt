-- What a row is, and what happens to its lists.
-- Own; timers and their lateness after Akidau et al., VLDB 2013, section 4.6, finished ids after section 6.1.
use Rattle.std.specs.Prelude.{ℕ, List, [], ◌∷◌, length, filter, find, Option, All, Bool, not, ◌&&◌, ◌||◌, ◌==◌, nat_lt, nat_le, ◌<◌, ◌≤◌, ◌^◌}
use Rattle.std.specs.List.{list_any}
use Rattle.std.specs.declared.cmp.Ordering.{Ordering}
use Rattle.std.specs.Ordering.{match_ordering}
use Rattle.std.specs.List.Sorted.{IsStrictlySortedBy}
use Rattle.mw_types.specs.declared.TheConstants.{MAX_STAMP}
use Rattle.mw_types.specs.declared.state.State.{State}
use Rattle.mw_types.specs.declared.state.State.TheVariants as states
use Rattle.mw_types.specs.declared.timer.Timer.{Timer}
use Rattle.mw_types.specs.declared.delivery.Delivery.{Delivery}
use Rattle.mw_types.specs.declared.identity.RecordId.{RecordId}
use Rattle.mw_types.specs.Bounds.{IsWithin, IsKey}
use Rattle.mw_types.specs.Orders.{id_cmp, timer_cmp}

-- a row's state, the timers that are set, what it produced and is not yet acknowledged, the ids that it
-- handled, the commit number below which every id is finished, and the last entry that wrote the row
pub record Contents : Type 0 where
  pub state : State
  pub timers : List Timer
  pub pending : List Delivery
  pub seen : List RecordId
  pub floor : ℕ
  pub last : ℕ

-- a row that nothing has written yet
abbrev pub fresh : State → Contents
fresh state = record { state = state; timers = []; pending = []; seen = []; floor = 0; last = 0 }

-- how many lines a state says were injected
abbrev pub cursor_in : State → ℕ
cursor_in (states.Injector cursor) = cursor
cursor_in _ = 0

-- ---- what happens to the lists

-- a list in order with one more element; `again` says what stands where one of its rank stood
abbrev pub put_in : {X : Type 0} → (X → X → Ordering) → (X → X → X) → X → List X → List X
put_in cmp again new [] = new ∷ []
put_in cmp again new (x ∷ xs) = match_ordering (cmp new x) (new ∷ x ∷ xs) (again new x ∷ xs) (x ∷ put_in cmp again new xs)

-- a timer that is set again stays one timer, which is late only where both settings are
abbrev pub set_again : Timer → Timer → Timer
set_again new old = record { tag = old.tag; time = old.time; late = new.late && old.late }

-- the timers once this one is set too, in order
abbrev pub with_timer : Timer → List Timer → List Timer
with_timer = put_in timer_cmp set_again

-- the timer of this tag and time
abbrev pub is_timer : ℕ → ℕ → Timer → Bool
is_timer tag time t = (t.tag == tag) && (t.time == time)

-- the timers but for the one of this tag and time
abbrev pub without_timer : ℕ → ℕ → List Timer → List Timer
without_timer tag time = filter (λ t. not (is_timer tag time t))

-- the ids with this one among them, in order
abbrev pub with_id : RecordId → List RecordId → List RecordId
with_id = put_in id_cmp (λ new old. old)

-- whether two ids are the same
abbrev pub same_id : RecordId → RecordId → Bool
same_id a b = (a.commit == b.commit) && (a.index == b.index)

-- the delivery of this id
abbrev pub found_delivery : RecordId → List Delivery → Option Delivery
found_delivery id = find (λ (d : Delivery). same_id d.id id)

-- the deliveries but for the one of this id
abbrev pub without_delivery : RecordId → List Delivery → List Delivery
without_delivery id = filter (λ (d : Delivery). not (same_id d.id id))

-- the ids whose commit number is at least the floor
abbrev pub ids_from : ℕ → List RecordId → List RecordId
ids_from floor = filter (λ (id : RecordId). nat_le floor id.commit)

-- whether an id is finished for a row: it is below the floor, or the row handled it
abbrev pub is_finished : RecordId → Contents → Bool
is_finished id row = nat_lt id.commit row.floor || list_any (same_id id) row.seen

-- ---- what a row may be

-- an id: the commit number is that of an entry, which makes at most 512 records
pub record IsId (id : RecordId) : Type 0 where
  pub commit : id.commit < 2 ^ 32
  pub index : id.index < 512

-- a delivery that can be kept
pub record IsDelivery (d : Delivery) : Type 0 where
  pub id : IsId d.id
  pub to : IsKey d.to.key
  pub key : IsKey d.item.key
  pub stamp : d.item.stamp ≤ MAX_STAMP

-- timers stand strictly ascending by time and tag, none above the greatest timestamp
pub record AreTimers (timers : List Timer) : Type 0 where
  pub ascending : IsStrictlySortedBy timer_cmp timers
  pub times : All (λ (t : Timer). t.time ≤ MAX_STAMP) timers
  pub few : length timers < 2 ^ 32

-- deliveries stand by their ids
abbrev pub delivery_cmp : Delivery → Delivery → Ordering
delivery_cmp a b = id_cmp a.id b.id

-- deliveries stand strictly ascending by id
pub record ArePending (pending : List Delivery) : Type 0 where
  pub ascending : IsStrictlySortedBy delivery_cmp pending
  pub each : All IsDelivery pending
  pub few : length pending < 2 ^ 32

-- handled ids stand strictly ascending, and none below the floor is kept
pub record AreSeen (floor : ℕ) (seen : List RecordId) : Type 0 where
  pub ascending : IsStrictlySortedBy id_cmp seen
  pub each : All IsId seen
  pub kept : All (λ (id : RecordId). floor ≤ id.commit) seen
  pub few : length seen < 2 ^ 32

-- a row that can be kept: its lists are in order and its numbers in range
pub record IsRow (row : Contents) : Type 0 where
  pub state : IsWithin row.state
  pub timers : AreTimers row.timers
  pub pending : ArePending row.pending
  pub seen : AreSeen row.floor row.seen
  pub floor : row.floor ≤ 2 ^ 32
  pub last : row.last < 2 ^ 32
