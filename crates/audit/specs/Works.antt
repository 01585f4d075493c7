-- The oldest work of each part, as stamps that come and go. No public clause cites this module.
use Rattle.std.specs.Prelude.{◌≡◌, ◌+◌, ◌<◌, ℕ, List, [], get_or, length, sum_by, ◌==◌, None, Option, if◌then◌else◌}
use Rattle.std.specs.Option.{option_map_or}
use Rattle.mw_types.specs.declared.identity.RecordId.{RecordId}
use Rattle.mw_types.specs.declared.entry.Entry.{Entry}
use Rattle.mw_types.specs.declared.entry.Entry.TheVariants.{Handle}
use Rattle.book.specs.declared.answers.NamedRow.{NamedRow}
use Rattle.audit.specs.Waits.{waiting_in}
use Rattle.mw_types.specs.declared.TheConstants.{END}
use Rattle.mw_types.specs.declared.identity.RowName.{RowName}
use Rattle.mw_types.specs.declared.delivery.Delivery.{Delivery}
use Rattle.topology.specs.Shapes.{Shape, parts_of}
use Rattle.row_parts.specs.Contents.{Contents}
use Rattle.run_history.specs.Runs.{cached, row_of}
use Rattle.run_history.specs.Watermarks.{least, times_set}

-- the timestamp of a delivery that is not late, or the end
abbrev pub mark_of : Delivery → ℕ
mark_of d = if d.item.late then END else d.item.stamp

-- what a delivery is of the work of a part, or the end where it is none of it
abbrev pub wait_of : ℕ → Delivery → ℕ
wait_of part d = if d.to.part == part then mark_of d else END

-- what a row is of the work of a part, or the end where it is none of it
abbrev pub time_of : ℕ → RowName × Contents → ℕ
time_of part r = if r.0.part == part then least (times_set r.1) else END

-- a sum over the stamps of a part
abbrev pub sum_at : (ℕ → ℕ) → ℕ → List (List ℕ) → ℕ
sum_at weigh part works = sum_by weigh (get_or works part [])

-- some stamps are the work of each part: whatever is added up, and nothing for the end, both have the same sum
pub record AreWorks (shape : Shape) (unhandled : List Delivery) (rows : List (RowName × Contents))
    (works : List (List ℕ)) : Type 0 where
  pub many : length works ≡ parts_of shape
  pub sums : (part : ℕ) (weigh : ℕ → ℕ) → part < parts_of shape → weigh END ≡ 0 → sum_at weigh part works
      ≡ sum_by (λ (d : Delivery). weigh (wait_of part d)) unhandled
      + sum_by (λ (r : RowName × Contents). weigh (time_of part r)) rows

-- there is one stamp more of a part, unless it is the end
abbrev pub HasStampMore : ℕ → ℕ → List (List ℕ) → List (List ℕ) → Type 0
HasStampMore at stamp old new = (part : ℕ) (weigh : ℕ → ℕ) → weigh END ≡ 0 →
    sum_at weigh part new ≡ sum_at weigh part old + (if at == part then weigh stamp else 0)

-- there is one stamp less of a part, unless it is the end
abbrev pub HasStampLess : ℕ → ℕ → List (List ℕ) → List (List ℕ) → Type 0
HasStampLess at stamp old new = (part : ℕ) (weigh : ℕ → ℕ) → weigh END ≡ 0 →
    sum_at weigh part old ≡ sum_at weigh part new + (if at == part then weigh stamp else 0)

-- a part has one stamp more, and another less
abbrev pub HasRestampedAt : ℕ → ℕ → ℕ → List (List ℕ) → List (List ℕ) → Type 0
HasRestampedAt at before after old new = (part : ℕ) (weigh : ℕ → ℕ) → weigh END ≡ 0 →
    sum_at weigh part new + (if at == part then weigh before else 0)
    ≡ sum_at weigh part old + (if at == part then weigh after else 0)

-- there is one stamp more for each of these that is not late, of the part to which it goes
abbrev pub HasStampsMore : List Delivery → List (List ℕ) → List (List ℕ) → Type 0
HasStampsMore sent old new = (part : ℕ) (weigh : ℕ → ℕ) → weigh END ≡ 0 →
    sum_at weigh part new
    ≡ sum_at weigh part old + sum_by (λ (d : Delivery). weigh (wait_of part d)) sent

-- what an entry handles, of what waits
abbrev pub taken_by : Entry → List (RecordId × Delivery) → Option Delivery
taken_by (Handle seq row id effects) waiting = waiting_in waiting id
taken_by _ waiting = None

-- what an entry handles is no work any more
abbrev pub HasTakenWork : Option Delivery → List (List ℕ) → List (List ℕ) → Type 0
HasTakenWork taken old new = (part : ℕ) (weigh : ℕ → ℕ) → weigh END ≡ 0 →
    sum_at weigh part old
    ≡ sum_at weigh part new + option_map_or (λ (d : Delivery). weigh (wait_of part d)) taken 0

-- an entry that leaves a row has taken what it handles, changed the row's timers, and sent these
pub record HasWorked (shape : Shape) (entry : Entry) (waiting : List (RecordId × Delivery))
    (rows : List (RowName × Contents)) (left : NamedRow) (sent : List Delivery)
    (old new : List (List ℕ)) : Type 0 where
  pub without : List (List ℕ)
  pub timed : List (List ℕ)
  pub taken : HasTakenWork (taken_by entry waiting) old without
  pub changed : HasRestampedAt left.name.part (least (times_set (row_of shape (cached rows) left.name)))
      (least (times_set left.row)) without timed
  pub sends : HasStampsMore sent timed new
  pub many : length new ≡ length old
