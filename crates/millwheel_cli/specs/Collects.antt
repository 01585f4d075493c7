-- What the mode collect writes of a text of live lines, and which text it refuses. Own.
use Rattle.std.specs.Prelude.{◌≡◌, ℕ, Bool, true, not, nat_eq, List, length, find, codes, ◌++◌, Option, Result, Ok, Err}
use Rattle.std.specs.Option.{option_map_or}
use Rattle.std.specs.Cmp.Lexicographic.{pointwise}
use Rattle.serde_json.specs.Data.{Data, object, member, no_members, number, unsigned}
use Rattle.mw_types.specs.declared.identity.RecordId.{RecordId}
use Rattle.mw_ports.specs.Shelves.{Files}
use Rattle.run_history.specs.Texts.{as_line}
use Rattle.live_outlet.specs.declared.held.Held.{Held}
use Rattle.live_outlet.specs.Collecting.{IsCollected, Telling, first_with, tellings}
use Rattle.live_outlet.specs.Covering.{ended}
use Rattle.task_runs.specs.declared.status.Status.{Status}
use Rattle.task_runs.specs.declared.status.Status.TheVariants.{CollectRefused}
use Rattle.millwheel_cli.specs.Limits.{collect_limit}
use Rattle.millwheel_cli.specs.Files.{HoldsAs}

-- ---- what is written

-- how many live lines there are, and how many other lines that are not empty
abbrev pub counts_data : ℕ → ℕ → Data
counts_data lines other = object
    (member (codes "lines") (number (unsigned lines))
    (member (codes "other") (number (unsigned other)) no_members))

-- live lines, each with its LF, and then the line that counts them and the others
abbrev pub gathered_text : List (List ℕ) → ℕ → List ℕ
gathered_text lines other = ended lines ++ as_line (counts_data (length lines) other)

-- this is written of a text of live lines: each of them once, ascending by id, and the counts
pub record IsGatheredText (bytes text : List ℕ) : Type 0 where
  pub lines : List (List ℕ)
  pub other : ℕ
  pub collected : IsCollected bytes lines other
  pub spelled : text ≡ gathered_text lines other

-- ---- which text is refused

-- a live line has not the text of the first one with its id
abbrev pub differs : List Telling → Telling → Bool
differs told one =
    option_map_or (λ (h : Held). not (pointwise nat_eq h.text one.1.text)) (first_with one.0 told) true

-- the number of the first live line with an id, where there is one
abbrev pub first_line : List Telling → RecordId → ℕ
first_line told id = option_map_or (λ (h : Held). h.line) (first_with id told) 0

-- a text of live lines as it is, or the status with which it is refused: that of its first live line that
-- differs from the first one with its id
abbrev pub collect_taken : List ℕ → Result (List ℕ) Status
collect_taken bytes = let told = tellings bytes in
    option_map_or (λ (one : Telling). Err (CollectRefused one.1.line (first_line told one.0)))
    (find (differs told) told) (Ok bytes)

-- the file of that name held a text of live lines, and this is written of it
abbrev pub HoldsLines : Option Files → List ℕ → List ℕ → Type 0
HoldsLines files name text = (bytes : List ℕ)
    × HoldsAs files name collect_limit collect_taken (Ok bytes) × IsGatheredText bytes text
