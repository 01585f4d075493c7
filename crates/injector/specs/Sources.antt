-- What an injector reads from its file: record lines, and the watermark that the file has stated before each.
-- Akidau et al., VLDB 2013, section 5.2: injectors seed low watermarks. Own: watermark lines, and what is late.
use Rattle.std.specs.Prelude.{◌≡◌, ℕ, ◌≤◌, List, map, All, nat_lt, slice_get, Option}
use Rattle.std.specs.Option.{option_map, option_map_or}
use Rattle.std.specs.List.Sorted.{IsNonDecreasing}
use Rattle.mw_types.specs.declared.TheConstants.{INPUT_MAX, END}
use Rattle.injector.specs.declared.item.Item.{Item}

-- a record line, and the greatest watermark line before it, or 0
pub record SourceLine : Type 0 where
  pub item : Item
  pub stated : ℕ

-- a source is what one file holds: its record lines in order
abbrev pub Source : Type 0
Source = List SourceLine

-- the record of a line, counted from 0
abbrev pub item_at : Source → ℕ → Option Item
item_at source line = option_map (λ (l : SourceLine). l.item) (slice_get source line)

-- the watermark that the file states before a line, and `END` past the last
abbrev pub stated_at : Source → ℕ → ℕ
stated_at source cursor = option_map_or (λ (l : SourceLine). l.stated) (slice_get source cursor) END

-- what every source keeps: timestamps and watermarks are inputs', watermarks never fall, and late is below the watermark
pub record IsSource (source : Source) : Type 0 where
  pub stamps : All (λ (l : SourceLine). l.item.stamp ≤ INPUT_MAX) source
  pub marks : All (λ (l : SourceLine). l.stated ≤ INPUT_MAX) source
  pub rising : IsNonDecreasing (map (λ (l : SourceLine). l.stated) source)
  pub lateness : All (λ (l : SourceLine). l.item.late ≡ nat_lt l.item.stamp l.stated) source
