-- What a text is that was written while its run went on: each result as soon as its entry was there. Own.
use Rattle.std.specs.Prelude.{◌≡◌, ◌++◌, ℕ, nat_lt, if◌then◌else◌, Bool, true, false, List, [], ◌∷◌, length, map, drop, Option, Contains}
use Rattle.std.specs.List.{AllByRecursion}
use Rattle.std.specs.Io.KnownBytes.{append_known}
use Rattle.mw_types.specs.declared.delivery.Emission.{Emission}
use Rattle.mw_types.specs.declared.entry.Entry.{Entry}
use Rattle.mw_ports.specs.Sinks.{AppendsPrefix}
use Rattle.topology.specs.Shapes.{Shape}
use Rattle.topology.specs.Folding.{RoutesView}
use Rattle.run_history.specs.Cases.{CaseShape}
use Rattle.run_history.specs.Fences.{Begins}
use Rattle.run_history.specs.Runs.{run_of}
use Rattle.run_history.specs.Texts.{as_line, summary_data}
use Rattle.live_outlet.specs.Covering.{StandIn, ended, results_of, told_by}
use Rattle.live_outlet.specs.Outlets.{IsPumpedFrom, OutletView, emitted_by}
use Rattle.world.specs.scripts.Acts.{world_then}
use Rattle.world.specs.scripts.Worlds.{World, empty_world}
use Rattle.plans.specs.declared.step.Step.{Step}
use Rattle.plans.specs.declared.step.Step.TheVariants as steps

-- a line is that of an emission of a history's run
pub record IsResultOf (shape : Shape) (history : List Entry) (line : List ℕ) : Type 0 where
  pub emission : Emission
  pub emitted : Contains (run_of shape history).emissions emission
  pub tells : line ≡ told_by shape emission

-- each of these lines is
abbrev pub AreResultsOf : Shape → List Entry → List (List ℕ) → Type 0
AreResultsOf shape history lines = AllByRecursion (IsResultOf shape history) lines

-- the whole text of a run: lines of its emissions, of which each has its own, and then the summary line
pub record IsLiveText (shape : Shape) (history : List Entry) (text : List ℕ) : Type 0 where
  pub lines : List (List ℕ)
  pub each : AreResultsOf shape history lines
  pub all : StandIn shape lines (run_of shape history).emissions
  pub spelled : text ≡ ended lines ++ as_line (summary_data history)

-- the whole text of a run in which no result was written again: each emission's line once, in the order of
-- their ids, and then the summary line
abbrev pub IsLiveOnce : Shape → List Entry → List ℕ → Type 0
IsLiveOnce shape history text = text ≡ ended (results_of shape history) ++ as_line (summary_data history)

-- lines were written, each of an emission of the history's run and with its LF, and each emission has its own
pub record IsLiveSoFar (shape : Shape) (history : List Entry) (text grown : Option (List ℕ)) : Type 0 where
  pub lines : List (List ℕ)
  pub each : AreResultsOf shape history lines
  pub all : StandIn shape lines (run_of shape history).emissions
  pub wrote : grown ≡ append_known text (ended lines)

-- lines were written, each of an emission of the history's run and with its LF, and then a beginning of more
-- such lines
pub record IsLiveInPart (shape : Shape) (history : List Entry) (text grown : Option (List ℕ)) : Type 0 where
  pub lines : List (List ℕ)
  pub each : AreResultsOf shape history lines
  pub begun : List (List ℕ)
  pub results : AreResultsOf shape history begun
  pub part : AppendsPrefix (ended begun) (append_known text (ended lines)) grown

-- ---- the whole text of a replay

-- where an outlet stands behind a step, before the lines of that are written: the crash of a worker, and no
-- other step, takes it back to the beginning
abbrev pub place_behind : Step → ℕ → ℕ
place_behind (steps.Crash worker) place = 0
place_behind _ place = place

-- what a pump writes with an outlet at this place, the lines of all emissions but those of the entries before
-- it, and the outlet's place then
abbrev pub pumped_from : Shape → List Entry → ℕ → List (List ℕ) × ℕ
pumped_from shape history place = (
  map (told_by shape)
      (drop (length (emitted_by shape history place)) (run_of shape history).emissions),
  length history,
)

-- the same of a step, before which the history had so many entries: only an entry makes the outlet write
abbrev pub stepped_from : Shape → List Entry → ℕ → Step → ℕ → List (List ℕ) × ℕ
stepped_from shape history count step place = if nat_lt count (length history)
    then pumped_from shape history (place_behind step place) else ([], place_behind step place)

-- lines before others, and the place behind those
abbrev pub written_before : List (List ℕ) → List (List ℕ) × ℕ → List (List ℕ) × ℕ
written_before lines rest = (lines ++ rest.0, rest.1)

-- the lines that the steps of a script write in this world with an outlet at this place, and its place then
abbrev pub script_lines : CaseShape → World → ℕ → List Step → List (List ℕ) × ℕ
script_lines case world place [] = ([], place)
script_lines case world place (step ∷ steps) =
    let next = world_then case world step in
    let first = stepped_from case.topology next.history (length world.history) step place in
    written_before first.0 (script_lines case next first.1 steps)

-- the lines of a replay: those that its steps write in a new world, and those of the drain behind them
abbrev pub replay_lines : RoutesView → CaseShape → List Step → List Entry → List (List ℕ)
replay_lines routes case steps history =
    let first = script_lines case (empty_world routes case.topology) 0 steps in
    first.0 ++ (pumped_from case.topology history first.1).0

-- the whole text of a replay whose results are written at once: its lines, and then the summary line
abbrev pub replay_text : RoutesView → CaseShape → List Step → List Entry → List ℕ
replay_text routes case steps history =
    ended (replay_lines routes case steps history) ++ as_line (summary_data history)

-- ---- what no public clause cites

-- all results of a history are written; where each was written once, the lines stand in the order of their
-- ids
pub record HasResults (shape : Shape) (history : List Entry) (once : Bool)
    (text grown : Option (List ℕ)) : Type 0 where
  pub so_far : IsLiveSoFar shape history text grown
  pub in_order : once ≡ true → so_far.lines ≡ results_of shape history

-- an outlet owes no LF, and all results of a history are written; where each was written once, it is at the
-- history's end
pub record IsPumpedTo (shape : Shape) (history : List Entry) (once : Bool) (outlet : OutletView)
    (text grown : Option (List ℕ)) : Type 0 where
  pub pumped : IsPumpedFrom shape outlet history
  pub none_owed : outlet.owes ≡ false
  pub results : HasResults shape history once text grown
  pub at_end : once ≡ true → outlet.place ≡ length history

-- an outlet that had written all results of a beginning of a history has written all of the history then,
-- whatever stood in the text before them
abbrev pub PumpsOn : Shape → List Entry → OutletView → OutletView → Option (List ℕ) → Option (List ℕ) → Type 0
PumpsOn shape history old new some grown =
    (front : List Entry) (once : Bool) (text : Option (List ℕ)) → Begins front history →
    IsPumpedTo shape front once old text some → IsPumpedTo shape history once new text grown

-- so it has behind a step before which the history had so many entries
abbrev pub StepsOn : Shape → List Entry → ℕ → OutletView → OutletView → Option (List ℕ)
    → Option (List ℕ) → Type 0
StepsOn shape history count old new some grown =
    (front : List Entry) (text : Option (List ℕ)) → Begins front history → length front ≡ count →
    IsPumpedTo shape front false old text some → IsPumpedTo shape history false new text grown

-- or it was cut off
abbrev pub IsCutBehind : Shape → List Entry → OutletView → Option (List ℕ) → Option (List ℕ) → Type 0
IsCutBehind shape history old some grown =
    (front : List Entry) (text : Option (List ℕ)) → Begins front history →
    IsPumpedTo shape front false old text some → IsLiveInPart shape history text grown

-- an outlet that had written all results of one history has written all of another then
abbrev pub TurnsOn : Shape → List Entry → List Entry → OutletView → OutletView → Option (List ℕ)
    → Option (List ℕ) → Type 0
TurnsOn shape front history old new some grown = (once : Bool) (text : Option (List ℕ)) →
    IsPumpedTo shape front once old text some → IsPumpedTo shape history once new text grown

-- where all results of a beginning of a history were written, all of the history are written then
abbrev pub LivesOn : Shape → List Entry → List Entry → OutletView → Option (List ℕ) → Option (List ℕ) → Type 0
LivesOn shape front history old some grown = (once : Bool) (text : Option (List ℕ)) →
    IsPumpedTo shape front once old text some → HasResults shape history once text grown

-- lines were written, and an outlet owes no LF and is at this place
pub record WritesLines (lines : List (List ℕ) × ℕ) (outlet : OutletView)
    (some grown : Option (List ℕ)) : Type 0 where
  pub wrote : grown ≡ append_known some (ended lines.0)
  pub none_owed : outlet.owes ≡ false
  pub place : outlet.place ≡ lines.1

-- so it is where the outlet owed none before
abbrev pub GoesOnBy : List (List ℕ) × ℕ → OutletView → OutletView → Option (List ℕ) → Option (List ℕ) → Type 0
GoesOnBy lines old new some grown = old.owes ≡ false → WritesLines lines new some grown

-- lines were written of a script that was begun in one world with an outlet at this place; in another it has
-- these steps left, and their lines are all that it still writes
pub record IsWritingOn (case : CaseShape) (start : World) (from : ℕ) (all : List Step) (world : World)
    (left : List Step) (outlet : OutletView) (text grown : Option (List ℕ)) : Type 0 where
  pub lines : List (List ℕ)
  pub wrote : grown ≡ append_known text (ended lines)
  pub none_owed : outlet.owes ≡ false
  pub whole : script_lines case start from all
      ≡ written_before lines (script_lines case world outlet.place left)

-- just the lines of a replay were written
abbrev pub WritesReplay : RoutesView → CaseShape → List Step → List Entry → Option (List ℕ)
    → Option (List ℕ) → Type 0
WritesReplay routes case steps history text grown =
    grown ≡ append_known text (ended (replay_lines routes case steps history))
