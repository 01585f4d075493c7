-- Which entry a line may be of, by its JSON: only the entry's own line tells whether it is. Own.
-- No public clause cites this module.
use Rattle.std.specs.Prelude.{◌≡◌, ℕ, nat_eq, nat_le, Bool, false, if◌then◌else◌, List, [], codes, map, Option, Some, None, Result, Ok, Err, ⊤}
use Rattle.std.specs.Cmp.Lexicographic.{pointwise}
use Rattle.hex.specs.Hex.{decode_of}
use Rattle.serde_json.specs.Data.{Data}
use Rattle.serde_json.specs.Find.{as_bool, get}
use Rattle.mw_types.specs.declared.TheConstants.{MAX_STAMP}
use Rattle.mw_types.specs.declared.record.Record.{Record}
use Rattle.mw_types.specs.declared.record.Production.{Production}
use Rattle.mw_types.specs.declared.timer.Timer.{Timer}
use Rattle.mw_types.specs.declared.state.State.{State}
use Rattle.mw_types.specs.declared.entry.Entry.{Entry}
use Rattle.mw_types.specs.declared.entry.Entry.TheVariants.{Claim, Inject, Handle, Fire, Ack, Purge}
use Rattle.mw_types.specs.Outcomes.{EffectsView}
use Rattle.json_reading.specs.Texts.{json_of}
use Rattle.topology.specs.Grammar.{and_then, list_in}
use Rattle.row_parts.specs.Reading.{whole_state}
use Rattle.live_outlet.specs.Guesses.{text_at, id_at, key_at, stamp_at, value_at}
use Rattle.trace_lines.specs.Choices.{short_at, row_in}
use Rattle.audit.specs.declared.unlike.Unlike.{Unlike}
use Rattle.audit.specs.declared.unlike.Unlike.TheVariants.{NoEntry, NoMemory}

-- the answer is what is found, or that there is nothing, unless memory ran out
abbrev pub Gives : {X : Type 0} → Result X Unlike → Option X → Type 0
Gives (Ok x) found = found ≡ Some x
Gives (Err NoEntry) found = found ≡ None
Gives (Err NoMemory) found = ⊤

-- ---- members

-- a number, where it is no later than the greatest timestamp
abbrev pub in_time : ℕ → Option ℕ
in_time n = if nat_le n MAX_STAMP then Some n else None

-- a member that is a timestamp inside a run
abbrev pub time_at : List ℕ → Data → Option ℕ
time_at name d = and_then (stamp_at name d) in_time

-- a member that is a truth value
abbrev pub flag_at : List ℕ → Data → Option Bool
flag_at name d = and_then (get name d) as_bool

-- what was found, if it was
abbrev pub found_in : {X E : Type 0} → Result X E → Option X
found_in (Ok x) = Some x
found_in (Err e) = None

-- the state whose bytes a member has in hexadecimal
abbrev pub state_in : Data → Option State
state_in d = and_then (text_at (codes "state") d) (λ text. and_then (found_in (decode_of text)) whole_state)

-- ---- the parts of an entry

-- a production
abbrev pub production_in : Data → Option Production
production_in d = and_then (time_at (codes "ts") d) (λ stamp. and_then (value_at (codes "value") d)
    (λ value. and_then (key_at (codes "key") d)
    (λ key. Some (record { key = key; stamp = stamp; value = value }))))

-- a timer; whether it is late is not printed
abbrev pub timer_in : Data → Option Timer
timer_in d = and_then (stamp_at (codes "tag") d) (λ tag. and_then (time_at (codes "time") d)
    (λ time. Some (record { tag = tag; time = time; late = false })))

-- a record
abbrev pub item_in : Data → Option Record
item_in d = and_then (stamp_at (codes "ts") d) (λ stamp. and_then (value_at (codes "value") d)
    (λ value. and_then (flag_at (codes "late") d) (λ late. and_then (key_at (codes "key") d)
    (λ key. Some (record { key = key; stamp = stamp; value = value; late = late })))))

-- what a handler left, with these timers
abbrev pub effects_in : List Timer → Data → Option EffectsView
effects_in timers d = and_then (state_in d) (λ state. and_then (list_in production_in (codes "out") d)
    (λ productions. Some (record { state = state; timers = timers; productions = productions })))

-- what a handler left of a record
abbrev pub outcome_in : Data → Option EffectsView
outcome_in d = and_then (list_in timer_in (codes "timers") d) (λ timers. effects_in timers d)

-- ---- the entries

-- a claim
abbrev pub claim_in : Data → Option Entry
claim_in d = and_then (short_at (codes "worker") d) (λ worker. and_then (short_at (codes "interval") d)
    (λ interval. Some (Claim worker interval)))

-- an injected line
abbrev pub inject_in : Data → Option Entry
inject_in d = and_then (stamp_at (codes "seq") d) (λ seq. and_then (short_at (codes "part") d)
    (λ part. and_then (short_at (codes "line") d) (λ line. and_then (item_in d)
    (λ item. Some (Inject seq part line item)))))

-- a handled record
abbrev pub handle_in : Data → Option Entry
handle_in d = and_then (stamp_at (codes "seq") d) (λ seq. and_then (id_at (codes "id") d)
    (λ id. and_then (row_in d) (λ row. and_then (outcome_in d)
    (λ effects. Some (Handle seq row id effects)))))

-- a timer of a row
abbrev pub fired_in : Data → Option Timer
fired_in d = and_then (stamp_at (codes "tag") d) (λ tag. and_then (stamp_at (codes "time") d)
    (λ time. and_then (flag_at (codes "late") d)
    (λ late. Some (record { tag = tag; time = time; late = late }))))

-- a fired timer; no timer that its handler set is printed
abbrev pub fire_in : Data → Option Entry
fire_in d = and_then (stamp_at (codes "seq") d) (λ seq. and_then (stamp_at (codes "mark") d)
    (λ mark. and_then (fired_in d) (λ timer. and_then (row_in d) (λ row. and_then (effects_in [] d)
    (λ effects. Some (Fire seq row timer mark effects))))))

-- an acknowledgement
abbrev pub ack_in : Data → Option Entry
ack_in d = and_then (stamp_at (codes "seq") d) (λ seq. and_then (id_at (codes "id") d)
    (λ id. and_then (row_in d) (λ row. Some (Ack seq row id))))

-- a purge
abbrev pub purge_in : Data → Option Entry
purge_in d = and_then (stamp_at (codes "seq") d) (λ seq. and_then (stamp_at (codes "floor") d)
    (λ floor. and_then (row_in d) (λ row. Some (Purge seq row floor))))

-- the entry of the kind that a value names
abbrev pub entry_named : List ℕ → Data → Option Entry
entry_named kind d =
    if pointwise nat_eq kind (codes "claim") then claim_in d
    else if pointwise nat_eq kind (codes "inject") then inject_in d
    else if pointwise nat_eq kind (codes "handle") then handle_in d
    else if pointwise nat_eq kind (codes "fire") then fire_in d
    else if pointwise nat_eq kind (codes "ack") then ack_in d
    else if pointwise nat_eq kind (codes "purge") then purge_in d
    else None

-- the entry that a value may be of
abbrev pub entry_in : Data → Option Entry
entry_in d = and_then (text_at (codes "do") d) (λ kind. entry_named kind d)

-- the entry that a line may be of
abbrev pub entry_guessed : List ℕ → Option Entry
entry_guessed line = and_then (json_of line) entry_in

-- ---- what of an entry is printed

-- a timer that is not late
abbrev pub in_print : Timer → Timer
in_print t = record { tag = t.tag; time = t.time; late = false }

-- an entry, but for what its line does not tell
abbrev pub as_printed : Entry → Entry
as_printed (Claim worker interval) = Claim worker interval
as_printed (Inject seq part line item) = Inject seq part line item
as_printed (Handle seq row id effects) =
    Handle seq row id (record effects { timers = map in_print effects.timers })
as_printed (Fire seq row timer mark effects) = Fire seq row timer mark (record effects { timers = [] })
as_printed (Ack seq row id) = Ack seq row id
as_printed (Purge seq row floor) = Purge seq row floor
