-- Which entries there can be, and which lines are lines of one. Own.
-- An entry is within the bounds of its types, whether or not a run would make it.
use Rattle.std.specs.Prelude.{◌≡◌, ◌<◌, ◌^◌, ℕ, List, All, FitsSigned}
use Rattle.std.specs.Int.{w64}
use Rattle.mw_types.specs.declared.identity.RowName.{RowName}
use Rattle.mw_types.specs.declared.record.Record.{Record}
use Rattle.mw_types.specs.declared.record.Production.{Production}
use Rattle.mw_types.specs.declared.timer.Timer.{Timer}
use Rattle.mw_types.specs.declared.entry.Entry.{Entry}
use Rattle.mw_types.specs.declared.entry.Entry.TheVariants.{Claim, Inject, Handle, Fire, Ack, Purge}
use Rattle.mw_types.specs.Outcomes.{EffectsView, AreEffects}
use Rattle.row_parts.specs.Contents.{IsId}
use Rattle.mw_types.specs.Bounds.{IsKey}
use Rattle.row_parts.specs.Spelling.{FitsBytes}
use Rattle.trace_lines.specs.Lines.{text_of_entry}

-- a row's name: a part of 32 bits, and a key
pub record IsRowName (row : RowName) : Type 0 where
  pub part : row.part < 2 ^ 32
  pub key : IsKey row.key

-- a record: a key, a timestamp and a value of 64 bits
pub record IsRecord (item : Record) : Type 0 where
  pub key : IsKey item.key
  pub stamp : item.stamp < 2 ^ 64
  pub value : FitsSigned w64 item.value

-- a production: a key, and a value of 64 bits; its timestamp is bounded with all that a handler leaves
pub record IsProduction (p : Production) : Type 0 where
  pub key : IsKey p.key
  pub value : FitsSigned w64 p.value

-- what a handler may leave: it can be kept, its productions are productions, and its numbers have 64 bits
pub record IsOutcome (effects : EffectsView) : Type 0 where
  pub kept : AreEffects effects.state effects.timers effects.productions
  pub state : FitsBytes effects.state
  pub tags : All (λ (t : Timer). t.tag < 2 ^ 64) effects.timers
  pub productions : All IsProduction effects.productions

-- an entry within the bounds of its types
abbrev pub IsEntry : Entry → Type 0
IsEntry (Claim worker interval) = (worker < 2 ^ 32) × (interval < 2 ^ 32)
IsEntry (Inject seq part line item) = (seq < 2 ^ 64) × (part < 2 ^ 32) × (line < 2 ^ 32) × IsRecord item
IsEntry (Handle seq row id effects) = (seq < 2 ^ 64) × IsRowName row × IsId id × IsOutcome effects
IsEntry (Fire seq row timer mark effects) = (seq < 2 ^ 64) × IsRowName row
    × ((timer.tag < 2 ^ 64) × (timer.time < 2 ^ 64)) × (mark < 2 ^ 64) × IsOutcome effects
IsEntry (Ack seq row id) = (seq < 2 ^ 64) × IsRowName row × IsId id
IsEntry (Purge seq row floor) = (seq < 2 ^ 64) × IsRowName row × (floor < 2 ^ 64)

-- the line is that of some entry under this number
abbrev pub IsEntryLine : ℕ → List ℕ → Type 0
IsEntryLine n line = (entry : Entry) × IsEntry entry × (text_of_entry n entry ≡ line)
