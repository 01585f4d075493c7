-- The lines of a history: for each entry one JSON object, as `serde_json` prints it, and LF. Own.
-- Each says what the entry does and its commit number. An id is printed as a UUID, and a state as its bytes
-- in lower-case hexadecimal.
use Rattle.std.specs.Prelude.{ℕ, List, map, codes, ⊤}
use Rattle.std.specs.List.{flat_map, enumerate_from}
use Rattle.mw_types.specs.declared.identity.RecordId.{RecordId}
use Rattle.mw_types.specs.declared.identity.RowName.{RowName}
use Rattle.mw_types.specs.declared.record.Record.{Record}
use Rattle.mw_types.specs.declared.record.Production.{Production}
use Rattle.mw_types.specs.declared.timer.Timer.{Timer}
use Rattle.mw_types.specs.declared.state.State.{State}
use Rattle.mw_types.specs.declared.entry.Entry.{Entry}
use Rattle.mw_types.specs.declared.entry.Entry.TheVariants.{Claim, Inject, Handle, Fire, Ack, Purge}
use Rattle.mw_types.specs.Outcomes.{EffectsView}
use Rattle.mw_types.specs.PrintedIds.{printed_id}
use Rattle.row_parts.specs.Contents.{IsId}
use Rattle.row_parts.specs.Spelling.{state_spelling}
use Rattle.run_history.specs.Texts.{as_line}
use Rattle.hex.specs.Hex.{encode_lower}
use Rattle.serde_json.specs.Data.{Data, boolean, object, array, member, no_members, string, number, unsigned}
use Rattle.serde_json.specs.Find.{of_integer}
use Rattle.serde_json.specs.View.{items_of}

-- ---- the parts of an entry

-- what a list holds, as an array in the list's order
abbrev pub array_data : {X : Type 0} → (X → Data) → List X → Data
array_data shown xs = array (items_of (map shown xs))

-- a production: its key, its timestamp and its value
abbrev pub production_data : Production → Data
production_data p = object
    (member (codes "key") (string p.key)
    (member (codes "ts") (number (unsigned p.stamp))
    (member (codes "value") (number (of_integer p.value)) no_members)))

-- a timer that was set: its tag and its time
abbrev pub timer_data : Timer → Data
timer_data t = object
    (member (codes "tag") (number (unsigned t.tag))
    (member (codes "time") (number (unsigned t.time)) no_members))

-- an id, as it is printed
abbrev pub id_data : RecordId → Data
id_data id = string (printed_id id)

-- a state: its bytes in lower-case hexadecimal
abbrev pub state_data : State → Data
state_data state = string (encode_lower (state_spelling state))

-- ---- the entries, each under its commit number

-- a worker claimed an interval
abbrev pub claim_data : ℕ → ℕ → ℕ → Data
claim_data n worker interval = object
    (member (codes "do") (string (codes "claim"))
    (member (codes "interval") (number (unsigned interval))
    (member (codes "n") (number (unsigned n))
    (member (codes "worker") (number (unsigned worker)) no_members))))

-- an injector injected the record of a line
abbrev pub inject_data : ℕ → ℕ → ℕ → ℕ → Record → Data
inject_data n seq part line item = object
    (member (codes "do") (string (codes "inject"))
    (member (codes "key") (string item.key)
    (member (codes "late") (boolean item.late)
    (member (codes "line") (number (unsigned line))
    (member (codes "n") (number (unsigned n))
    (member (codes "part") (number (unsigned part))
    (member (codes "seq") (number (unsigned seq))
    (member (codes "ts") (number (unsigned item.stamp))
    (member (codes "value") (number (of_integer item.value)) no_members)))))))))

-- a row handled a record; its id, what the handler produced, the state that it left and the timers that it
-- set are given as they are printed
abbrev pub handled_data : ℕ → ℕ → RowName → Data → Data → Data → Data → Data
handled_data n seq row id out state timers = object
    (member (codes "do") (string (codes "handle"))
    (member (codes "id") id
    (member (codes "n") (number (unsigned n))
    (member (codes "out") out
    (member (codes "part") (number (unsigned row.part))
    (member (codes "row") (string row.key)
    (member (codes "seq") (number (unsigned seq))
    (member (codes "state") state
    (member (codes "timers") timers no_members)))))))))

-- a row handled a record
abbrev pub handle_data : ℕ → ℕ → RowName → RecordId → EffectsView → Data
handle_data n seq row id effects =
    handled_data n seq row (id_data id) (array_data production_data effects.productions)
    (state_data effects.state) (array_data timer_data effects.timers)

-- a row fired a timer under a watermark; what the handler produced and the state that it left are given as
-- they are printed
abbrev pub fired_data : ℕ → ℕ → RowName → Timer → ℕ → Data → Data → Data
fired_data n seq row timer mark out state = object
    (member (codes "do") (string (codes "fire"))
    (member (codes "late") (boolean timer.late)
    (member (codes "mark") (number (unsigned mark))
    (member (codes "n") (number (unsigned n))
    (member (codes "out") out
    (member (codes "part") (number (unsigned row.part))
    (member (codes "row") (string row.key)
    (member (codes "seq") (number (unsigned seq))
    (member (codes "state") state
    (member (codes "tag") (number (unsigned timer.tag))
    (member (codes "time") (number (unsigned timer.time)) no_members)))))))))))

-- a row fired a timer under a watermark
abbrev pub fire_data : ℕ → ℕ → RowName → Timer → ℕ → EffectsView → Data
fire_data n seq row timer mark effects =
    fired_data n seq row timer mark (array_data production_data effects.productions)
    (state_data effects.state)

-- a sender's row learnt that a record was handled
abbrev pub ack_data : ℕ → ℕ → RowName → RecordId → Data
ack_data n seq row id = object
    (member (codes "do") (string (codes "ack"))
    (member (codes "id") (id_data id)
    (member (codes "n") (number (unsigned n))
    (member (codes "part") (number (unsigned row.part))
    (member (codes "row") (string row.key)
    (member (codes "seq") (number (unsigned seq)) no_members))))))

-- a row forgot the ids below a floor
abbrev pub purge_data : ℕ → ℕ → RowName → ℕ → Data
purge_data n seq row floor = object
    (member (codes "do") (string (codes "purge"))
    (member (codes "floor") (number (unsigned floor))
    (member (codes "n") (number (unsigned n))
    (member (codes "part") (number (unsigned row.part))
    (member (codes "row") (string row.key)
    (member (codes "seq") (number (unsigned seq)) no_members))))))

-- an entry under its commit number, as an object
abbrev pub entry_data : ℕ → Entry → Data
entry_data n (Claim worker interval) = claim_data n worker interval
entry_data n (Inject seq part line item) = inject_data n seq part line item
entry_data n (Handle seq row id effects) = handle_data n seq row id effects
entry_data n (Fire seq row timer mark effects) = fire_data n seq row timer mark effects
entry_data n (Ack seq row id) = ack_data n seq row id
entry_data n (Purge seq row floor) = purge_data n seq row floor

-- ---- the lines

-- the line of an entry under its commit number
abbrev pub line_of_entry : ℕ → Entry → List ℕ
line_of_entry n entry = as_line (entry_data n entry)

-- the lines of the entries from a commit number on, in order
abbrev pub lines_from : ℕ → List Entry → List ℕ
lines_from n entries = flat_map (λ (e : ℕ × Entry). line_of_entry e.0 e.1) (enumerate_from n entries)

-- the lines of a history; the first entry has the commit number 0
abbrev pub lines_of_history : List Entry → List ℕ
lines_of_history history = lines_from 0 history

-- ---- which entries have a line

-- an entry has a line where the id of the record that it handled or acknowledges can be printed
abbrev pub HasLine : Entry → Type 0
HasLine (Handle seq row id effects) = IsId id
HasLine (Ack seq row id) = IsId id
HasLine _ = ⊤
