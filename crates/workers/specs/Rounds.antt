-- What rounds of workers that share a book leave in its history.
-- Akidau et al., VLDB 2013, section 6.2 for a claim, which makes each earlier lease of its interval stale. Own:
-- which worker claims which interval first, and how much rounds append.
use Rattle.std.specs.Prelude.{◌<◌, ◌≤◌, ◌+◌, ◌*◌, ◌%◌, ℕ, Bool, true, false, List, Option, ⊤, filter, length, map, min}
use Rattle.mw_types.specs.declared.entry.Entry.{Entry}
use Rattle.mw_types.specs.declared.entry.Entry.TheVariants as entries
use Rattle.topology.specs.Shapes.{injectors_of}
use Rattle.run_history.specs.Cases.{CaseShape, intervals_of, source_of}
use Rattle.book.specs.Claims.{IsDamagedRow}
use Rattle.book.specs.declared.desk_refusal.DeskRefusal.{DeskRefusal}
use Rattle.book.specs.declared.desk_refusal.DeskRefusal.TheVariants as refusals
use Rattle.shared_book.specs.Opening.{span}
use Rattle.workers.specs.Slices.{injected}

-- ---- claims

-- the claim of an interval with which rounds begin: its worker is the interval's number, counted around the workers
abbrev pub first_claim : ℕ → ℕ → Entry
first_claim workers interval = entries.Claim (interval % workers) interval

-- the claims with which rounds begin, one of each interval in the order of their numbers
abbrev pub first_claims : CaseShape → ℕ → List Entry
first_claims case workers = map (first_claim workers) (span 0 (length (intervals_of case.topology)))

-- whether an entry is a claim
abbrev pub is_claim : Entry → Bool
is_claim (entries.Claim worker interval) = true
is_claim _ = false

-- the claims of a history, in order
abbrev pub claims_in : List Entry → List Entry
claims_in history = filter is_claim history

-- ---- how much is appended

-- so many entries at most are appended by so many workers in so many rounds, with so many actions: each action may
-- have each interval claimed once more
abbrev pub rounds_room : ℕ → ℕ → ℕ → ℕ
rounds_room workers rounds actions = 61 * (1 + actions) + 6000 * workers * rounds

-- each injector has injected its lines, or 16 in each round
abbrev pub HasInjectedAll : CaseShape → ℕ → List Entry → Type 0
HasInjectedAll case rounds history = (part : ℕ) → part < injectors_of case.topology →
    min (length (source_of case part)) (16 * rounds) ≤ injected part history

-- ---- damage

-- where a row is said to be damaged, it is, after so many entries
abbrev pub IsDamageAt : CaseShape → Option Unit → ℕ → DeskRefusal → Type 0
IsDamageAt case told number (refusals.RowDamaged name bytes) = IsDamagedRow case told number name bytes
IsDamageAt case told number _ = ⊤
