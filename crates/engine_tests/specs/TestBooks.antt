-- The books of the tests, over the example of a rise and that of an interval that is overtaken. Only tests
-- cite this module.
use Rattle.std.specs.Prelude.{◌≡◌, ℕ, zero, suc, [], take}
use Rattle.mw_types.specs.declared.state.State.TheVariants.{Count, Injector}
use Rattle.row_parts.specs.Contents.{Contents, fresh}
use Rattle.worked_examples.specs.Overtaken.{overtaken}
use Rattle.worked_examples.specs.Rising.{rise_case, rise_history, row_closed, row_counted, row_injected}
use Rattle.book.specs.Books.{BookView, LeaseView}

-- a book of the case, after so many of the entries
pub record HasRisen (count : ℕ) (book : BookView) : Type 0 where
  pub case : book.case ≡ rise_case
  pub history : book.history ≡ take count rise_history

-- the lease of the first claim of an interval
abbrev pub first_lease : ℕ → LeaseView
first_lease interval = record { interval = interval; seq = interval }

-- the row that is handed in for the next entry, after so many of them
abbrev pub row_before : ℕ → Contents
row_before (suc (suc zero)) = fresh (Injector 0)
row_before (suc (suc (suc zero))) = fresh (Count 0 [])
row_before (suc (suc (suc (suc zero)))) = row_injected
row_before (suc (suc (suc (suc (suc zero))))) = row_counted
row_before count = row_closed

-- what the entry of this number leaves of that row, where another entry follows
abbrev pub IsLeft : ℕ → Contents → Type 0
IsLeft (suc (suc zero)) row = row ≡ row_injected
IsLeft (suc (suc (suc zero))) row = row ≡ row_counted
IsLeft (suc (suc (suc (suc (suc zero))))) row = row ≡ row_closed
IsLeft count row = Unit {0}

-- ---- where a second worker claims the interval of the count

-- a book of the case, once the first line is injected and a second worker has claimed
pub record IsOvertaken (book : BookView) : Type 0 where
  pub case : book.case ≡ rise_case
  pub history : book.history ≡ overtaken

-- the lease of the second worker
abbrev pub later_lease : LeaseView
later_lease = record { interval = 1; seq = 3 }
