-- What a reader of an event file holds between two lines. No public clause cites this module.
use Rattle.std.specs.Prelude.{◌≡◌, ◌≤◌, ◌<◌, ◌+◌, ◌^◌, ◌++◌, ℕ, ℤ, ⊤, List, All, length, Result, Ok, Err}
use Rattle.mw_types.specs.declared.TheConstants.{INPUT_MAX}
use Rattle.injector.specs.Sources.{SourceLine, Source}
use Rattle.injector.specs.EventFiles.{with_line}
use Rattle.injector.specs.declared.reading.LineKind.{LineKind}
use Rattle.injector.specs.declared.reading.LineKind.TheVariants.{Record}
use Rattle.injector.specs.declared.refusal.LineWhy.{LineWhy}
use Rattle.injector.specs.declared.refusal.LineRefusal.{LineRefusal}
use Rattle.injector.specs.declared.refusal.LineRefusal.TheVariants.{Breaks, NoMemory}
use Rattle.injector.specs.declared.refusal.LinesRefusal.{LinesRefusal}
use Rattle.injector.specs.declared.refusal.LinesRefusal.TheVariants.{Line}

-- the record lines so far, the greatest watermark line, or 0, and the room that is left
pub record Standing : Type 0 where
  pub items : Source
  pub mark : ℕ
  pub room : ℕ

-- no line stands above the greatest watermark, which is one of an input, and the room fits
pub record IsStanding (items : Source) (mark room : ℕ) : Type 0 where
  pub below : All (λ (l : SourceLine). l.stated ≤ mark) items
  pub bounded : mark ≤ INPUT_MAX
  pub few : length items + room < 2 ^ 32

-- these lines, and then what follows them
abbrev pub followed_by : Source → Result Source LinesRefusal → Result Source LinesRefusal
followed_by lines (Ok rest) = Ok (lines ++ rest)
followed_by lines (Err refusal) = Err refusal

-- the whole is refused for this line, unless memory ran out
abbrev pub RefusedAt : ℕ → LineRefusal → Result Source LinesRefusal → Type 0
RefusedAt n (Breaks why) whole = whole ≡ Err (Line n why)
RefusedAt n NoMemory whole = ⊤

-- what a record line says
abbrev pub record_line : List ℕ → ℕ → ℤ → Result LineKind LineWhy
record_line key stamp value = Ok (Record key stamp value)

-- whatever follows, the lines so far with this reading hold what the new ones hold
abbrev pub TakesIn : Standing → Result LineKind LineWhy → Standing → Type 0
TakesIn old reading new =
    (n : ℕ) (rest : ℕ → ℕ → Result Source LinesRefusal)
    → followed_by old.items (with_line n old.room old.mark reading rest)
    ≡ followed_by new.items (rest new.room new.mark)

-- whatever follows, a line with this reading is refused
abbrev pub Refuses : Standing → Result LineKind LineWhy → LineRefusal → Type 0
Refuses old reading refusal =
    (n : ℕ) (rest : ℕ → ℕ → Result Source LinesRefusal)
    → RefusedAt n refusal (with_line n old.room old.mark reading rest)
