-- Why a desk refuses.
-- Akidau et al., VLDB 2013, section 6.2: a write under an older sequencer is refused. Own: the other
-- refusals, and what shows each of them.
use Rattle.std.specs.Prelude.{◌≡◌, ◌↔◌, ◌++◌, ◌∷◌, [], ℕ, ⊤, length}
use Rattle.mw_types.specs.Causes.{Rose}
use Rattle.run_history.specs.Fences.{IsCurrent, IsOvertakenBy}
use Rattle.book.specs.Books.{LeaseView}
use Rattle.book.specs.Claims.{IsDamagedRow}
use Rattle.book.specs.Desks.{DeskView}
use Rattle.book.specs.declared.refusals.WriteRefusal.{WriteRefusal}
use Rattle.book.specs.declared.refusals.WriteRefusal.TheVariants as writes
use Rattle.book.specs.declared.refusals.ClaimRefusal.{ClaimRefusal}
use Rattle.book.specs.declared.refusals.ClaimRefusal.TheVariants as claims
use Rattle.book.specs.declared.desk_refusal.DeskRefusal.{DeskRefusal}
use Rattle.book.specs.declared.desk_refusal.DeskRefusal.TheVariants as refusals

-- a refusal that is neither for lack of memory nor since another had the turn
abbrev pub IsDecided : DeskRefusal → Type 0
IsDecided (refusals.Busy found) = ⊥
IsDecided refusals.NoMemory = ⊥
IsDecided _ = ⊤

-- the keeper's fault shows by its count, and a taken turn by what was found there
pub record HasCount (old new : DeskView) (why : DeskRefusal) : Type 0 where
  pub keeper : why ≡ refusals.KeeperFault → Rose old.faults new.faults
  pub busy : (found : ℕ) → why ≡ refusals.Busy found → new.missed ≡ old.missed ++ found ∷ []

-- no row is damaged, as far as this refusal says
abbrev pub IsNoDamage : DeskRefusal → Type 0
IsNoDamage (refusals.RowDamaged name bytes) = ⊥
IsNoDamage _ = ⊤

-- where a row is said to be damaged, it is
abbrev pub IsDamageOf : DeskView → DeskRefusal → Type 0
IsDamageOf desk (refusals.RowDamaged name bytes) =
    IsDamagedRow desk.case desk.told (length desk.seen) name bytes
IsDamageOf desk _ = ⊤

-- why a call under a lease was refused: where the history decides it is stale exactly where a later claim is
-- there, and full exactly where the history is and the lease is the last
pub record HasReason (old new : DeskView) (lease : LeaseView) (why : DeskRefusal) : Type 0 where
  pub stale : IsDecided why → (newer : ℕ) → (why ≡ refusals.Stale newer)
      ↔ IsOvertakenBy newer lease.interval lease.seq new.seen
  pub full : IsDecided why → (why ≡ refusals.HistoryFull)
      ↔ (length new.seen ≡ new.limit) × IsCurrent lease.interval lease.seq new.seen
  pub counts : HasCount old new why
  pub no_row : IsNoDamage why

-- a report is refused for another's turn or as stale, and for nothing else: it appends nothing, and takes no
-- memory
abbrev pub IsReportRefusal : DeskRefusal → Type 0
IsReportRefusal (refusals.Busy found) = ⊤
IsReportRefusal (refusals.Stale newer) = ⊤
IsReportRefusal _ = ⊥

-- why a claim was refused: where the history decides it is full exactly where the history is, it is never
-- stale, and a damaged row is damaged
pub record HasClaimReason (old new : DeskView) (why : DeskRefusal) : Type 0 where
  pub full : IsDecided why → (why ≡ refusals.HistoryFull) ↔ (length new.seen ≡ new.limit)
  pub never_stale : (newer : ℕ) → why ≡ refusals.Stale newer → ⊥
  pub counts : HasCount old new why
  pub damaged : IsDamageOf new why

-- ---- what a refusal of a book is to a desk

-- what a desk answers where its book refused a write
abbrev pub of_write : WriteRefusal → DeskRefusal
of_write (writes.Stale newer) = refusals.Stale newer
of_write writes.HistoryFull = refusals.HistoryFull
of_write writes.NoMemory = refusals.NoMemory
of_write writes.KeeperFault = refusals.KeeperFault

-- what a desk answers where its book refused a claim
abbrev pub of_claim : ClaimRefusal → DeskRefusal
of_claim claims.HistoryFull = refusals.HistoryFull
of_claim claims.KeeperFault = refusals.KeeperFault
of_claim (claims.RowDamaged name bytes) = refusals.RowDamaged name bytes
of_claim claims.NoMemory = refusals.NoMemory
