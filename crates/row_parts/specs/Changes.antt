-- What a write changes in a row where it lies, and what takes that back. Own.
use Rattle.std.specs.Prelude.{◌++◌, ℕ, List, Option, Some, None, take, filter, not}
use Rattle.std.specs.Option.{unwrap_or}
use Rattle.mw_types.specs.declared.delivery.Delivery.{Delivery}
use Rattle.mw_types.specs.declared.identity.RecordId.{RecordId}
use Rattle.row_parts.specs.Contents.{Contents, same_id, with_id}
use Rattle.row_parts.specs.declared.changes.Own.{Own}

-- the ids with this one among them, where there is one
abbrev pub with_ids : Option RecordId → List RecordId → List RecordId
with_ids None ids = ids
with_ids (Some id) ids = with_id id ids

-- the ids without this one, where there is one
abbrev pub without_ids : Option RecordId → List RecordId → List RecordId
without_ids None ids = ids
without_ids (Some id) ids = filter (λ other. not (same_id id other)) ids

-- a row that has handled one more id, if there is one, and has these pending too
abbrev pub grown : Option RecordId → List Delivery → Contents → Contents
grown id sent row = record row { pending = row.pending ++ sent; seen = with_ids id row.seen }

-- a row that has only so many pending, and has not handled this id, if there is one
abbrev pub shrunk : Option RecordId → ℕ → Contents → Contents
shrunk id count row = record row { pending = take count row.pending; seen = without_ids id row.seen }

-- a row with a state and timers in the place of its own, where they are there
abbrev pub with_own : Own → Contents → Contents
with_own own row = record row { state = unwrap_or own.state row.state; timers = unwrap_or own.timers row.timers }
