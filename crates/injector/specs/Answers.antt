-- How the functions that read a line answer. No public clause cites this module.
use Rattle.std.specs.Prelude.{◌≡◌, ◌≤◌, ℕ, ⊤, Result, Ok, Err}
use Rattle.mw_types.specs.declared.TheConstants.{INPUT_MAX}
use Rattle.injector.specs.declared.reading.LineKind.{LineKind}
use Rattle.injector.specs.declared.reading.LineKind.TheVariants.{Blank, Watermark, Record}
use Rattle.injector.specs.declared.refusal.LineWhy.{LineWhy}
use Rattle.injector.specs.declared.refusal.LineRefusal.{LineRefusal}
use Rattle.injector.specs.declared.refusal.LineRefusal.TheVariants.{Breaks, NoMemory}
use Rattle.injector.specs.declared.refusal.LinesRefusal.{LinesRefusal}
use Rattle.injector.specs.declared.refusal.LinesRefusal.TheVariants.{Line}
use Rattle.injector.specs.declared.refusal.LinesRefusal.TheVariants as refusals

-- the answer is the reading, unless memory ran out
abbrev pub Gives : {A : Type 0} → Result A LineRefusal → Result A LineWhy → Type 0
Gives (Ok x) reading = reading ≡ Ok x
Gives (Err (Breaks why)) reading = reading ≡ Err why
Gives (Err NoMemory) reading = ⊤

-- the refusal of a line as that of its file
abbrev pub refusal_at : ℕ → LineRefusal → LinesRefusal
refusal_at n (Breaks why) = Line n why
refusal_at n NoMemory = refusals.NoMemory

-- no timestamp of the line is above the greatest of an input
abbrev pub IsInput : LineKind → Type 0
IsInput Blank = ⊤
IsInput (Watermark stamp) = stamp ≤ INPUT_MAX
IsInput (Record key stamp value) = stamp ≤ INPUT_MAX
