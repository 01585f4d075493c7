-- What of an entry is chosen, and what a line tells of it. Own.
-- Given what stands before it, all else of a lawful entry follows from these members.
use Rattle.std.specs.Prelude.{◌^◌, ℕ, List, codes, nat_lt, nat_eq, if◌then◌else◌, Option, Some, None, option_map, option_and_then}
use Rattle.std.specs.Cmp.Lexicographic.{pointwise}
use Rattle.serde_json.specs.Data.{Data}
use Rattle.mw_types.specs.declared.identity.RowName.{RowName}
use Rattle.mw_types.specs.declared.entry.Entry.{Entry}
use Rattle.mw_types.specs.declared.entry.Entry.TheVariants.{Claim, Inject, Handle, Fire, Ack, Purge}
use Rattle.json_reading.specs.Texts.{json_of}
use Rattle.live_outlet.specs.Guesses.{text_at, id_at, key_at, stamp_at}
use Rattle.trace_lines.specs.declared.choice.Choice.{Choice}
use Rattle.trace_lines.specs.declared.choice.Choice.TheVariants as choices

-- what is chosen of an entry
abbrev pub choice_of : Entry → Choice
choice_of (Claim worker interval) = choices.Claim worker interval
choice_of (Inject seq part line item) = choices.Inject part
choice_of (Handle seq row id effects) = choices.Handle id
choice_of (Fire seq row timer mark effects) = choices.Fire row mark
choice_of (Ack seq row id) = choices.Ack row id
choice_of (Purge seq row floor) = choices.Purge row floor

-- ---- what a value tells

-- a number, where it has 32 bits
abbrev pub short_of : ℕ → Option ℕ
short_of n = if nat_lt n (2 ^ 32) then Some n else None

-- a member that is an unsigned number of 32 bits
abbrev pub short_at : List ℕ → Data → Option ℕ
short_at name d = option_and_then short_of (stamp_at name d)

-- a row's name, of a part and a key
abbrev pub row_with : ℕ → List ℕ → RowName
row_with part key = record { part = part; key = key }

-- the row that a value names
abbrev pub row_in : Data → Option RowName
row_in d =
    option_and_then (λ part. option_map (row_with part) (key_at (codes "row") d)) (short_at (codes "part") d)

-- the choice of a claim
abbrev pub claim_in : Data → Option Choice
claim_in d = option_and_then (λ worker. option_map (choices.Claim worker) (short_at (codes "interval") d))
    (short_at (codes "worker") d)

-- the choice of an injected line
abbrev pub inject_in : Data → Option Choice
inject_in d = option_map choices.Inject (short_at (codes "part") d)

-- the choice of a handled record
abbrev pub handle_in : Data → Option Choice
handle_in d = option_map choices.Handle (id_at (codes "id") d)

-- the choice of a fired timer
abbrev pub fire_in : Data → Option Choice
fire_in d =
    option_and_then (λ mark. option_map (λ row. choices.Fire row mark) (row_in d)) (stamp_at (codes "mark") d)

-- the choice of an acknowledgement
abbrev pub ack_in : Data → Option Choice
ack_in d =
    option_and_then (λ id. option_map (λ row. choices.Ack row id) (row_in d)) (id_at (codes "id") d)

-- the choice of a purge
abbrev pub purge_in : Data → Option Choice
purge_in d =
    option_and_then (λ floor. option_map (λ row. choices.Purge row floor) (row_in d)) (stamp_at (codes "floor") d)

-- the choice of an entry of the kind that a value names
abbrev pub choice_named : List ℕ → Data → Option Choice
choice_named kind d =
    if pointwise nat_eq kind (codes "claim") then claim_in d
    else if pointwise nat_eq kind (codes "inject") then inject_in d
    else if pointwise nat_eq kind (codes "handle") then handle_in d
    else if pointwise nat_eq kind (codes "fire") then fire_in d
    else if pointwise nat_eq kind (codes "ack") then ack_in d
    else if pointwise nat_eq kind (codes "purge") then purge_in d
    else None

-- the choice that a value tells
abbrev pub choice_in : Data → Option Choice
choice_in d = option_and_then (λ kind. choice_named kind d) (text_at (codes "do") d)

-- the choice that a line tells, where it is a JSON text
abbrev pub choice_at : List ℕ → Option Choice
choice_at line = option_and_then choice_in (json_of line)
