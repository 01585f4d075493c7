-- What the bytes of a topology's file and of event files are taken for, and what a call was given. Own.
use Rattle.std.specs.Prelude.{◌≡◌, ◌≤◌, ◌==◌, ℕ, ◌+◌, ◌-◌, List, [], ◌∷◌, length, if◌then◌else◌, Option, Some, IfSome, Result, Ok, Err}
use Rattle.mw_ports.specs.Shelves.{Files}
use Rattle.topology.specs.declared.refusal.TopologyRefusal.{TopologyRefusal}
use Rattle.topology.specs.FileRules.{topology_of}
use Rattle.topology.specs.Shapes.{Shape, injectors_of}
use Rattle.injector.specs.Sources.{Source}
use Rattle.injector.specs.EventFiles.{source_in}
use Rattle.injector.specs.declared.refusal.LinesRefusal.{LinesRefusal}
use Rattle.injector.specs.declared.refusal.LinesRefusal.TheVariants.{Line}
use Rattle.injector.specs.declared.refusal.LinesRefusal.TheVariants as lines
use Rattle.task_runs.specs.declared.status.Status.{Status}
use Rattle.task_runs.specs.declared.status.Status.TheVariants.{TopologyRefused, EventsRefused, FileCount, NoMemory}
use Rattle.millwheel_cli.specs.Limits.{topology_limit, events_limit}

-- ---- what bytes are taken for

-- a topology that is read is taken where it has as many injectors as there are event files
abbrev pub fed_of : ℕ → Result Shape TopologyRefusal → Result Shape Status
fed_of count (Err why) = Err (TopologyRefused why)
fed_of count (Ok shape) =
    if injectors_of shape == count then Ok shape else Err (FileCount count (injectors_of shape))

-- the topology that the bytes of a file are taken for, with so many event files, or the status with which
-- they are refused
abbrev pub topology_taken : ℕ → List ℕ → Result Shape Status
topology_taken count bytes = fed_of count (topology_of bytes)

-- a source that is read is taken; `file` is the number of the event file, from 0
abbrev pub read_of : ℕ → Result Source LinesRefusal → Result Source Status
read_of file (Err (Line line why)) = Err (EventsRefused file line why)
read_of file (Err lines.NoMemory) = Err NoMemory
read_of file (Ok source) = Ok source

-- the source that the bytes of the event file of this number are taken for, with room for so many record
-- lines, or the status with which they are refused
abbrev pub source_taken : ℕ → ℕ → List ℕ → Result Source Status
source_taken file room bytes = read_of file (source_in room bytes)

-- ---- what a call was given

-- the bytes are those of the file of that name, where a contract can see the shelf's files
abbrev pub IsContent : Option Files → List ℕ → List ℕ → Type 0
IsContent files name bytes = IfSome files (λ held. held name ≡ Some bytes)

-- the file of that name had so many bytes at most, and they are taken or refused so
pub record HoldsAs {T : Type 0} (files : Option Files) (name : List ℕ) (limit : ℕ)
    (taken : List ℕ → Result T Status) (result : Result T Status) : Type 0 where
  pub bytes : List ℕ
  pub content : IsContent files name bytes
  pub short : length bytes ≤ limit
  pub gives : taken bytes ≡ result

-- the file of that name held this topology, for so many event files
abbrev pub HoldsTopology : Option Files → List ℕ → ℕ → Shape → Type 0
HoldsTopology files name count shape = HoldsAs files name topology_limit (topology_taken count) (Ok shape)

-- the event file of that name and number held this source, with room for so many record lines
abbrev pub HoldsSource : Option Files → ℕ → ℕ → List ℕ → Source → Type 0
HoldsSource files file room name source = HoldsAs files name events_limit (source_taken file room) (Ok source)

-- the event files of these names, the first of which has this number, held these sources; `room` is how many
-- record lines there may be in all of them, and each has as much of it as those before it left
abbrev pub HoldsSources : Option Files → ℕ → ℕ → List (List ℕ) → List Source → Type 0
HoldsSources files file room [] sources = sources ≡ []
HoldsSources files file room (name ∷ names) [] = ⊥
HoldsSources files file room (name ∷ names) (source ∷ sources) =
    HoldsSource files file room name source
    × HoldsSources files (file + 1) (room - length source) names sources
