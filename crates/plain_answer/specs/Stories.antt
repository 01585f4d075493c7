-- What a history handled, and what it put into the streams, in the order of its entries.
-- No clause of another crate cites this module. Own.
use Rattle.std.specs.Prelude.{ℕ, ◌==◌, if◌then◌else◌, Bool, List, [], ◌∷◌, ◌++◌, map, fold, option_to_list}
use Rattle.std.specs.Option.{option_map_or}
use Rattle.std.specs.List.{flat_map}
use Rattle.mw_types.specs.declared.identity.RowName.{RowName}
use Rattle.mw_types.specs.declared.record.Record.{Record}
use Rattle.mw_types.specs.declared.record.Production.{Production}
use Rattle.mw_types.specs.declared.delivery.Delivery.{Delivery}
use Rattle.mw_types.specs.declared.entry.Entry.{Entry}
use Rattle.mw_types.specs.declared.entry.Entry.TheVariants.{Handle, Fire}
use Rattle.topology.specs.Shapes.{Shape}
use Rattle.row_parts.specs.Contents.{found_delivery}
use Rattle.run_history.specs.Made.{row_written, productions_of, late_cause, produced}
use Rattle.run_history.specs.Runs.{Run, followed, empty_run}

-- what an entry handles, by what waits before it
abbrev pub handled_by : Run → Entry → List Delivery
handled_by run (Handle seq row id effects) = option_to_list (found_delivery id run.unhandled)
handled_by run _ = []

-- a member of the stream of a part
abbrev pub Member : Type 0
Member = ℕ × Record

-- a production as a member of a part's stream
abbrev pub member_of : ℕ → Bool → Production → Member
member_of part late p = (part, produced late p)

-- what an entry adds to the streams
abbrev pub added_by : Run → Entry → List Member
added_by run entry = option_map_or
    (λ (row : RowName). map (member_of row.part (late_cause run.made entry)) (productions_of entry))
    (row_written entry) []

-- what stands after some entries, what was handled in them, and what was put into the streams
pub record Story : Type 0 where
  pub run : Run
  pub done : List Delivery
  pub out : List Member

-- with one more entry
abbrev pub story_with : Shape → Story → Entry → Story
story_with shape s entry = record {
  run = followed shape s.run entry;
  done = s.done ++ handled_by s.run entry;
  out = s.out ++ added_by s.run entry;
}

-- of a whole history
abbrev pub story_of : Shape → List Entry → Story
story_of shape history = fold (story_with shape) (record { run = empty_run; done = []; out = [] }) history

-- what a history handled
abbrev pub done_of : Shape → List Entry → List Delivery
done_of shape history = (story_of shape history).done

-- what a history put into the streams
abbrev pub out_of : Shape → List Entry → List Member
out_of shape history = (story_of shape history).out

-- how often an entry fires a timer of a part: once or not
abbrev pub fires_on : ℕ → Entry → ℕ
fires_on part (Fire seq row timer mark effects) = if row.part == part then 1 else 0
fires_on part _ = 0

-- the keys of the rows of a part on which an entry fires
abbrev pub fired_keys_by : ℕ → Entry → List (List ℕ)
fired_keys_by part (Fire seq row timer mark effects) = if row.part == part then row.key ∷ [] else []
fired_keys_by part _ = []

-- the keys of the rows of a part that fired, as often as they did
abbrev pub fired_keys : ℕ → List Entry → List (List ℕ)
fired_keys part history = flat_map (fired_keys_by part) history
