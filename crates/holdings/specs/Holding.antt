-- What a worker holds of each interval, and when it fits what its desk knows.
-- Akidau et al., VLDB 2013, section 6.2: a worker caches the state of the keys that it owns, which is safe
-- while its sequencer is the last. Own: the rows under a lease that was overtaken are those that it knew
-- until then.
use Rattle.std.specs.Prelude.{◌≡◌, ◌<◌, ◌++◌, ℕ, true, List, Option, Some, None, IsSome, IfSome, length, map, slice_get, unwrap_or}
use Rattle.std.specs.Option.{option_and_then}
use Rattle.std.specs.List.Sorted.{IsStrictlySortedBy}
use Rattle.std.specs.Map.{keys_of}
use Rattle.std.specs.BTreeMap.{insert_entry}
use Rattle.mw_types.specs.Orders.{row_cmp}
use Rattle.mw_types.specs.declared.identity.RowName.{RowName}
use Rattle.mw_types.specs.declared.entry.Entry.{Entry}
use Rattle.topology.specs.Shapes.{Shape, parts_of}
use Rattle.row_parts.specs.Contents.{Contents}
use Rattle.run_history.specs.Cases.{CaseShape}
use Rattle.run_history.specs.Fences.{CarryNot, interval_of, known}
use Rattle.run_history.specs.Fits.{fits}
use Rattle.run_history.specs.Runs.{cached, row_in, row_of, run_of}
use Rattle.book.specs.Books.{LeaseView}
use Rattle.book.specs.Claims.{named}
use Rattle.book.specs.Desking.{HasClaimed}
use Rattle.book.specs.DeskReasons.{HasReason}
use Rattle.book.specs.Desks.{DeskView}
use Rattle.book.specs.declared.answers.Claimed.{Claimed}
use Rattle.book.specs.declared.answers.Written.{Written}
use Rattle.book.specs.declared.desk_refusal.DeskRefusal.{DeskRefusal}

-- what is held of an interval: the lease, and the rows that are cached, in order of their names
pub record HeldView : Type 0 where
  pub lease : LeaseView
  pub rows : List (RowName × Contents)

-- what is held of an interval, by its number
abbrev pub held_at : List (Option HeldView) → ℕ → Option HeldView
held_at all interval = unwrap_or (slice_get all interval) None

-- what is held of the interval of a row
abbrev pub held_on : Shape → List (Option HeldView) → RowName → Option HeldView
held_on shape all name = option_and_then (held_at all) (interval_of shape name)

-- a row that is held, which is fresh where none is cached
abbrev pub row_held : Shape → HeldView → RowName → Contents
row_held shape held name = row_of shape (cached held.rows) name

-- what is held, with this row in the place of the one of its name
abbrev pub with_row : RowName → Contents → HeldView → HeldView
with_row name row held = record held { rows = insert_entry row_cmp held.rows name row }

-- ---- when it fits a desk

-- the rows that are held are those of the lease by what the desk has seen, where that is told, and fit their
-- names
pub record AreRowsHeld (case : CaseShape) (desk : DeskView) (held : HeldView) : Type 0 where
  pub known : IfSome desk.told (λ _. (name : RowName) →
      interval_of case.topology name ≡ Some held.lease.interval →
      row_held case.topology held name
      ≡ row_of case.topology (run_of case.topology (known held.lease.interval held.lease.seq desk.seen)) name)
  pub fit : (name : RowName) → interval_of case.topology name ≡ Some held.lease.interval →
      name.part < parts_of case.topology →
      fits case (length desk.seen) name (row_held case.topology held name) ≡ true
  -- each row that is cached lies in the interval
  pub within : (name : RowName) → IsSome (row_in (cached held.rows) name) →
      interval_of case.topology name ≡ Some held.lease.interval
  pub ordered : IsStrictlySortedBy row_cmp (keys_of held.rows)

-- what is held of an interval fits a desk: the desk may use the lease, which is one of the interval
pub record IsHeld (case : CaseShape) (desk : DeskView) (interval : ℕ) (held : HeldView) : Type 0 where
  pub of_interval : held.lease.interval ≡ interval
  pub may_use : desk.leases held.lease ≡ true
  pub rows : AreRowsHeld case desk held

-- all that is held fits a desk
pub record AreAllHeld (case : CaseShape) (desk : DeskView) (all : List (Option HeldView)) : Type 0 where
  pub each : (interval : ℕ) (held : HeldView) → held_at all interval ≡ Some held →
      IsHeld case desk interval held

-- the same rows and leases are held, but that fresh rows may be cached
pub record KeepsHeld (shape : Shape) (old new : List (Option HeldView)) : Type 0 where
  pub there : (interval : ℕ) (held : HeldView) → held_at old interval ≡ Some held → (kept : HeldView)
      × (held_at new interval ≡ Some kept) × (kept.lease ≡ held.lease)
      × ((name : RowName) → row_held shape kept name ≡ row_held shape held name)
  pub none : (interval : ℕ) → held_at old interval ≡ None → held_at new interval ≡ None

-- of every other interval the same is held
abbrev pub KeepsOthers : ℕ → List (Option HeldView) → List (Option HeldView) → Type 0
KeepsOthers interval old new = (other : ℕ) → (other ≡ interval → ⊥) → held_at new other ≡ held_at old other

-- ---- what a call answers

-- a claim was accepted, and what it answered is held of the interval: the lease, and the rows
pub record HoldsClaim (old new : DeskView) (worker interval seq : ℕ)
    (before after : List (Option HeldView)) : Type 0 where
  pub answer : Claimed
  pub claimed : HasClaimed old new worker interval answer
  pub number : answer.lease.seq ≡ seq
  pub held : held_at after interval ≡ Some (record { lease = answer.lease; rows = map named answer.rows })
  pub others : KeepsOthers interval before after

-- a row of an interval was written, as is said of the lease and the row that were held and of what the desk
-- answered: the row that was answered is held now, and all else as before
pub record HoldsEntry (shape : Shape) (interval : ℕ) (name : RowName) (commit : ℕ)
    (IsEntry : LeaseView → Contents → Written → Type 0) (before after : List (Option HeldView)) : Type 0 where
  pub held : HeldView
  pub answer : Written
  pub was : held_at before interval ≡ Some held
  pub entry : IsEntry held.lease (row_held shape held name) answer
  pub number : answer.commit ≡ commit
  pub is : held_at after interval ≡ Some (with_row name answer.row held)
  pub others : KeepsOthers interval before after

-- a call on a row of an interval was refused for a reason that the desk has, by the lease that is held
abbrev pub IsRefusedOf : DeskView → DeskView → List (Option HeldView) → ℕ → DeskRefusal → Type 0
IsRefusedOf old new all interval why =
    IfSome (held_at all interval) (λ held. HasReason old new held.lease why)

-- ---- beside a worker that acts

-- a desk came to see more, of which nothing was written under a lease that is held, and these leases may
-- still be used
pub record HasSeenOthers (old new : DeskView) (all : List (Option HeldView)) : Type 0 where
  pub case : new.case ≡ old.case
  pub told : new.told ≡ old.told
  pub rest : List Entry
  pub more : new.seen ≡ old.seen ++ rest
  pub foreign : (interval : ℕ) (held : HeldView) → held_at all interval ≡ Some held →
      CarryNot held.lease.seq rest
  pub leases : (interval : ℕ) (held : HeldView) → held_at all interval ≡ Some held →
      new.leases held.lease ≡ true
