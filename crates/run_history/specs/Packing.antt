-- How a history keeps its entries: their numbers in 32 bits, each row's short name once where that is cheap, and what
-- is longer in lists of its kind, in the order of the entries. No public clause cites this module. Own.
use Rattle.std.specs.Prelude.{ℕ, ◌≡◌, ◌<◌, ◌+◌, [], ◌∷◌, List, All, ⊤, length, slice_index_or, false, pos}
use Rattle.mw_types.specs.declared.identity.RowName.{RowName}
use Rattle.mw_types.specs.declared.record.Record.{Record}
use Rattle.mw_types.specs.declared.state.State.TheVariants.{Injector}
use Rattle.mw_types.specs.Outcomes.{EffectsView}
use Rattle.mw_types.specs.declared.entry.Entry.{Entry}
use Rattle.mw_types.specs.declared.entry.Entry.TheVariants as entries
use Rattle.run_history.specs.declared.details.Details.{Details}
use Rattle.run_history.specs.declared.details.Fired.{Fired}
use Rattle.run_history.specs.declared.details.Handled.{Handled}
use Rattle.run_history.specs.declared.packed.Packed.{Packed}
use Rattle.run_history.specs.declared.packed.Numbers.{Numbers}
use Rattle.run_history.specs.declared.packed.Packed.TheVariants.{Claim, Inject, Handle, Fire, Ack, Purge, Whole}
use Rattle.run_history.specs.Naming.{IsNumbered, Keeps, name_at}

-- ---- details

-- each detail stands where it stood
pub record KeepsDetails (old new : Details) : Type 0 where
  pub names : Keeps old.names new.names
  pub items : Keeps old.items new.items
  pub handled : Keeps old.handled new.handled
  pub fired : Keeps old.fired new.fired
  pub wholes : Keeps old.wholes new.wholes

-- ---- numbers of entries

-- the numbers are those of an entry
abbrev pub HasNumbers : List RowName → Entry → Numbers → Type 0
HasNumbers names (entries.Claim worker interval) n = ⊤
HasNumbers names (entries.Inject seq part line item) n = n.seq ≡ seq
HasNumbers names (entries.Handle seq row id effects) n =
    (n.seq ≡ seq) × (n.commit ≡ id.commit) × IsNumbered names n.row row
HasNumbers names (entries.Fire seq row timer mark effects) n = (n.seq ≡ seq) × IsNumbered names n.row row
HasNumbers names (entries.Ack seq row id) n =
    (n.seq ≡ seq) × (n.commit ≡ id.commit) × IsNumbered names n.row row
HasNumbers names (entries.Purge seq row floor) n =
    (n.seq ≡ seq) × (n.commit ≡ floor) × IsNumbered names n.row row

-- ---- how many details of each kind there are

-- how many details of each kind
pub record Counts : Type 0 where
  pub items : ℕ
  pub handled : ℕ
  pub fired : ℕ
  pub wholes : ℕ

-- no detail
abbrev pub none_yet : Counts
none_yet = record { items = 0; handled = 0; fired = 0; wholes = 0 }

-- those of some details
abbrev pub counts_of : Details → Counts
counts_of d = record {
  items = length d.items;
  handled = length d.handled;
  fired = length d.fired;
  wholes = length d.wholes;
}

-- how many there are with those of one entry more
abbrev pub with_entry : Packed → Counts → Counts
with_entry (Claim worker interval) c = c
with_entry (Inject seq part line item) c = record c { items = c.items + 1 }
with_entry (Handle seq row commit handled) c = record c { handled = c.handled + 1 }
with_entry (Fire seq row fired) c = record c { fired = c.fired + 1 }
with_entry (Ack seq row commit index) c = c
with_entry (Purge seq row floor) c = c
with_entry (Whole whole) c = record c { wholes = c.wholes + 1 }

-- an entry's detail is the next one of its kind
abbrev pub IsNext : Counts → Packed → Type 0
IsNext c (Claim worker interval) = ⊤
IsNext c (Inject seq part line item) = item ≡ c.items
IsNext c (Handle seq row commit handled) = handled ≡ c.handled
IsNext c (Fire seq row fired) = fired ≡ c.fired
IsNext c (Ack seq row commit index) = ⊤
IsNext c (Purge seq row floor) = ⊤
IsNext c (Whole whole) = whole ≡ c.wholes

-- entries whose details follow each other, from these counts on to those
abbrev pub AreNumbered : Counts → List Packed → Counts → Type 0
AreNumbered c [] end = c ≡ end
AreNumbered c (p ∷ ps) end = IsNext c p × AreNumbered (with_entry p c) ps end

-- an entry has the last details
abbrev pub IsLast : Counts → Packed → Type 0
IsLast end p = (before : Counts) × IsNext before p × (with_entry p before ≡ end)

-- ---- entries

-- an entry's name is held
abbrev pub HasName : List RowName → Packed → Type 0
HasName names (Claim worker interval) = ⊤
HasName names (Inject seq part line item) = ⊤
HasName names (Handle seq row commit handled) = row < length names
HasName names (Fire seq row fired) = row < length names
HasName names (Ack seq row commit index) = row < length names
HasName names (Purge seq row floor) = row < length names
HasName names (Whole whole) = ⊤

-- an entry's detail is held
abbrev pub HasDetail : Counts → Packed → Type 0
HasDetail c (Claim worker interval) = ⊤
HasDetail c (Inject seq part line item) = item < c.items
HasDetail c (Handle seq row commit handled) = handled < c.handled
HasDetail c (Fire seq row fired) = fired < c.fired
HasDetail c (Ack seq row commit index) = ⊤
HasDetail c (Purge seq row floor) = ⊤
HasDetail c (Whole whole) = whole < c.wholes

-- an entry whose name and detail are held
abbrev pub IsPacked : Details → Packed → Type 0
IsPacked d p = HasName d.names p × HasDetail (counts_of d) p

-- the entries that have these details
pub record ArePacked (d : Details) (ps : List Packed) : Type 0 where
  pub each : All (IsPacked d) ps
  pub numbered : AreNumbered none_yet ps (counts_of d)

-- what is said of a number under which nothing is held
abbrev pub no_item : Record
no_item = record { key = []; stamp = 0; value = pos 0; late = false }

-- what a handler leaves that does nothing
abbrev pub no_effects : EffectsView
no_effects = record { state = Injector 0; timers = []; productions = [] }

-- the detail of a handled record under a number that nothing has
abbrev pub no_handled : Handled
no_handled = record { index = 0; effects = no_effects }

-- the detail of a fired timer under such a number
abbrev pub no_fired : Fired
no_fired = record { timer = record { tag = 0; time = 0; late = false }; mark = 0; effects = no_effects }

-- the entry at a place that a history has not
abbrev pub no_entry : Entry
no_entry = entries.Claim 0 0

-- the entry that is packed
abbrev pub unpacked : Details → Packed → Entry
unpacked d (Claim worker interval) = entries.Claim worker interval
unpacked d (Inject seq part line item) = entries.Inject seq part line (slice_index_or d.items item no_item)
unpacked d (Handle seq row commit handled) = let h = slice_index_or d.handled handled no_handled in
    entries.Handle seq (name_at d.names row) (record { commit = commit; index = h.index }) h.effects
unpacked d (Fire seq row fired) = let f = slice_index_or d.fired fired no_fired in
    entries.Fire seq (name_at d.names row) f.timer f.mark f.effects
unpacked d (Ack seq row commit index) =
    entries.Ack seq (name_at d.names row) (record { commit = commit; index = index })
unpacked d (Purge seq row floor) = entries.Purge seq (name_at d.names row) floor
unpacked d (Whole whole) = slice_index_or d.wholes whole no_entry

-- details from which those of their last entry were taken
pub record IsWithout (p : Packed) (old new : Details) : Type 0 where
  pub kept : KeepsDetails new old
  pub names : new.names ≡ old.names
  pub counted : counts_of old ≡ with_entry p (counts_of new)
