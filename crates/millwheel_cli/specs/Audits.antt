-- What the mode audit reads, what it writes of a printed history that is a lawful run's, and which one it
-- refuses. Own.
use Rattle.std.specs.Prelude.{◌≡◌, ℕ, List, length, codes, Option, Result, Ok}
use Rattle.mw_types.specs.declared.entry.Entry.{Entry}
use Rattle.mw_ports.specs.Shelves.{Files}
use Rattle.command_line.specs.declared.command.Inputs.{Inputs}
use Rattle.serde_json.specs.Data.{Data, object, member, no_members, number, unsigned}
use Rattle.topology.specs.Shapes.{Shape}
use Rattle.topology.specs.Folding.{folded}
use Rattle.run_history.specs.Cases.{CaseShape}
use Rattle.run_history.specs.Texts.{as_line}
use Rattle.trace_lines.specs.Readings.{IsRunText}
use Rattle.trace_lines.specs.Refusals.{IsFirstWrong}
use Rattle.task_runs.specs.declared.status.Status.{Status}
use Rattle.task_runs.specs.declared.status.Status.TheVariants.{AuditRefused}
use Rattle.millwheel_cli.specs.Limits.{lines_limit, trace_limit}
use Rattle.millwheel_cli.specs.Files.{HoldsAs, HoldsTopology, HoldsSources}

-- ---- what is read

-- the case is that of a topology, without its weak computations, and of event files, one an injector
pub record HoldsCase (files : Option Files) (inputs : Inputs) (case : CaseShape) : Type 0 where
  pub shape : Shape
  pub topology_read : HoldsTopology files inputs.topology (length inputs.events) shape
  pub folding : case.topology ≡ folded shape
  pub events_read : HoldsSources files 0 lines_limit inputs.events case.sources

-- the bytes of a trace are taken as they are
abbrev pub trace_taken : List ℕ → Result (List ℕ) Status
trace_taken bytes = Ok bytes

-- the file of that name held these bytes, as a trace: a printed history, with its result behind it
abbrev pub HoldsTrace : Option Files → List ℕ → List ℕ → Type 0
HoldsTrace files name bytes = HoldsAs files name trace_limit trace_taken (Ok bytes)

-- ---- what is written

-- how many entries a history has, as an object
abbrev pub entries_data : ℕ → Data
entries_data n = object (member (codes "entries") (number (unsigned n)) no_members)

-- the line that says so
abbrev pub entries_line : ℕ → List ℕ
entries_line n = as_line (entries_data n)

-- bytes are the text of a lawful run of the case, and this is written of them: how many entries the run has
pub record IsCountOf (case : CaseShape) (bytes text : List ℕ) : Type 0 where
  pub history : List Entry
  pub run : IsRunText case history bytes
  pub spelled : text ≡ entries_line (length history)

-- a trace is the text of a lawful run of the case, and this is written of it
pub record CountsTrace (files : Option Files) (trace : List ℕ) (case : CaseShape)
    (text : List ℕ) : Type 0 where
  pub bytes : List ℕ
  pub trace_read : HoldsTrace files trace bytes
  pub count : IsCountOf case bytes text

-- the files are those of a case, and of a trace of which this is written
pub record HoldsRun (files : Option Files) (inputs : Inputs) (trace text : List ℕ) : Type 0 where
  pub case : CaseShape
  pub case_read : HoldsCase files inputs case
  pub counts : CountsTrace files trace case text

-- ---- what is refused

-- bytes are the text of no lawful run of the case
abbrev pub IsOfNoRun : CaseShape → List ℕ → Type 0
IsOfNoRun case bytes = (history : List Entry) → IsRunText case history bytes → ⊥

-- the status says of bytes that they are the text of no lawful run of the case, which of their lines is the
-- first that is wrong, and why
abbrev pub SaysWrong : CaseShape → List ℕ → Status → Type 0
SaysWrong case bytes (AuditRefused line why) = IsFirstWrong case bytes line why × IsOfNoRun case bytes
SaysWrong case bytes _ = ⊥

-- the status says so of a trace
pub record IsTraceWrong (files : Option Files) (trace : List ℕ) (case : CaseShape)
    (status : Status) : Type 0 where
  pub bytes : List ℕ
  pub trace_read : HoldsTrace files trace bytes
  pub wrong : SaysWrong case bytes status

-- the files are those of a case, and of a trace of which the status says so
pub record HoldsWrong (files : Option Files) (inputs : Inputs) (trace : List ℕ)
    (status : Status) : Type 0 where
  pub case : CaseShape
  pub case_read : HoldsCase files inputs case
  pub wrong : IsTraceWrong files trace case status
