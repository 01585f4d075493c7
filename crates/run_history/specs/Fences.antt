-- Which histories are fenced: each write is made under the last claim of its row's interval.
-- Akidau et al., VLDB 2013, section 6.2, where a sequencer is checked at each write, and section 7.1 for
-- the intervals. Own: a sequencer is the commit number of a claim, and what is known under a claim that
-- was overtaken.
use Rattle.std.specs.Prelude.{◌≡◌, ◌≢◌, ℕ, ◌+◌, ◌<◌, ◌==◌, not, if◌then◌else◌, Bool, false, List, [], ◌∷◌, ◌++◌, slice_get, take, drop, fold, All, Option, Some, None}
use Rattle.std.specs.Option.{option_and_then}
use Rattle.std.specs.List.{enumerate_from, position_from, take_while}
use Rattle.mw_types.specs.declared.identity.RowName.{RowName}
use Rattle.mw_types.specs.declared.entry.Entry.{Entry}
use Rattle.mw_types.specs.declared.entry.Entry.TheVariants.{Claim, Inject, Handle, Fire, Ack, Purge}
use Rattle.key_intervals.specs.declared.bounds.Bounds.{Bounds}
use Rattle.key_intervals.specs.Intervals.{covers}
use Rattle.topology.specs.Shapes.{Shape}
use Rattle.run_history.specs.Cases.{intervals_of}
use Rattle.run_history.specs.Made.{row_written}

-- a history is the beginning of another: some entries may follow it there
abbrev pub Begins : List Entry → List Entry → Type 0
Begins front history = (rest : List Entry) × (front ++ rest ≡ history)

-- the number of the interval that a row lies in, or none where its part is not there
abbrev pub interval_of : Shape → RowName → Option ℕ
interval_of shape name = position_from (λ (b : Bounds). covers b name) 0 (intervals_of shape)

-- the sequencer that an entry carries; a claim carries none
abbrev pub sequencer_of : Entry → Option ℕ
sequencer_of (Claim worker interval) = None
sequencer_of (Inject seq part line item) = Some seq
sequencer_of (Handle seq row id effects) = Some seq
sequencer_of (Fire seq row timer mark effects) = Some seq
sequencer_of (Ack seq row id) = Some seq
sequencer_of (Purge seq row floor) = Some seq

-- whether an entry is a claim of this interval
abbrev pub is_claim : ℕ → Entry → Bool
is_claim interval (Claim worker claimed) = claimed == interval
is_claim interval _ = false

-- the number of the last claim, once this entry of this number is there too
abbrev pub later_claim : ℕ → Option ℕ → ℕ × Entry → Option ℕ
later_claim interval last (number, entry) = if is_claim interval entry then Some number else last

-- the commit number of the last claim of an interval, or none where there is no claim of it
abbrev pub last_claim : ℕ → List Entry → Option ℕ
last_claim interval history = fold (later_claim interval) None (enumerate_from 0 history)

-- the claim of an interval that has this number is the last of the interval
abbrev pub IsCurrent : ℕ → ℕ → List Entry → Type 0
IsCurrent interval seq history = last_claim interval history ≡ Some seq

-- a later claim of the interval, of the number `newer`, is its last
abbrev pub IsOvertakenBy : ℕ → ℕ → ℕ → List Entry → Type 0
IsOvertakenBy newer interval seq history = (last_claim interval history ≡ Some newer) × (seq < newer)

-- an entry after these carries the number of the last claim of its row's interval; a claim may always come
abbrev pub IsUnderLastClaim : Shape → List Entry → Entry → Type 0
IsUnderLastClaim shape before entry = (name : RowName) → row_written entry ≡ Some name →
    option_and_then (λ (interval : ℕ). last_claim interval before) (interval_of shape name)
    ≡ sequencer_of entry

-- the history is fenced: each entry that is on a row carries the number of the last claim of the row's
-- interval
abbrev pub IsFenced : Shape → List Entry → Type 0
IsFenced shape history = (before : List Entry) (entry : Entry) →
    Begins (before ++ entry ∷ []) history → IsUnderLastClaim shape before entry

-- none of these entries carries this sequencer
abbrev pub CarryNot : ℕ → List Entry → Type 0
CarryNot seq entries = All (λ (entry : Entry). sequencer_of entry ≢ Some seq) entries

-- what is known under the claim of an interval that has this number: the history up to the next claim of the
-- interval, or all of it where no claim has overtaken this one
abbrev pub known : ℕ → ℕ → List Entry → List Entry
known interval seq history =
    take (seq + 1) history
    ++ take_while (λ (entry : Entry). not (is_claim interval entry)) (drop (seq + 1) history)

-- the entry of this number is a claim of the interval
abbrev pub IsClaimed : ℕ → ℕ → List Entry → Type 0
IsClaimed interval seq history = (worker : ℕ) × (slice_get history seq ≡ Some (Claim worker interval))

-- what was seen has the claim of an interval that has this number, and nothing of the rest was written
-- under it
pub record HasSeenAll (interval seq : ℕ) (seen rest : List Entry) : Type 0 where
  pub claimed : IsClaimed interval seq seen
  pub own : CarryNot seq rest

-- what was seen has all of a claim, which is the last of its interval in the whole history
pub record HasSeen (interval seq : ℕ) (seen rest : List Entry) : Type 0 where
  pub all : HasSeenAll interval seq seen rest
  pub last : IsCurrent interval seq (seen ++ rest)

-- an entry is a write under the claim of an interval that has this number: on a row of the interval, with
-- the number
pub record IsWriteUnder (shape : Shape) (interval seq : ℕ) (entry : Entry) : Type 0 where
  pub name : RowName
  pub on_row : row_written entry ≡ Some name
  pub of_interval : interval_of shape name ≡ Some interval
  pub carries : sequencer_of entry ≡ Some seq
