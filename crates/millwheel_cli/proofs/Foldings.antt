-- What is left of a topology that was read, and the task of it.
use Rattle.std.proofs.Common.{◌≡◌, ◌≤◌, ◌∙◌, ℕ, List, Option, Result, Ok, Err, length, refl, sym, ap, subst}
use Rattle.command_line.specs.declared.command.Inputs.{Inputs}
use Rattle.command_line.specs.declared.command.Call.{Call}
use Rattle.mw_ports.specs.Shelves.{Files}
use Rattle.topology.specs.Shapes.{Shape}
use Rattle.topology.specs.Folding.{RoutesView, folded}
use Rattle.injector.specs.Sources.{Source}
use Rattle.run_history.specs.Cases.{CaseShape}
use Rattle.world.specs.scripts.WorldStates.{IsFolding}
use Rattle.task_runs.specs.declared.status.Status.{Status}
use Rattle.task_runs.specs.declared.task.Before.{Before}
use Rattle.task_runs.specs.declared.task.Task.{Task}
use Rattle.task_runs.specs.Tasks.{wanted_of}
use Rattle.millwheel_cli.specs.Limits.{topology_limit, lines_limit}
use Rattle.millwheel_cli.specs.Files.{HoldsSources, IsContent, fed_of, topology_taken}
use Rattle.millwheel_cli.specs.Loads.{load_topology}
use Rattle.millwheel_cli.specs.Tasks.{HoldsBefore, IsInputsTask}
use Rattle.millwheel_cli.specs.Inside.{HoldsLeft, IsLeftOf}
use Rattle.millwheel_cli.proofs.LoadTopology.{load_shape, topology-taken}

-- what is left of bytes is left of the file that has them
pub held_left : (files : Option Files) (name bytes slice : List ℕ) (count : ℕ) (left : Shape) (routes : RoutesView) → slice ≡ bytes
    → IsContent files name bytes → length bytes ≤ topology_limit → IsLeftOf count slice left routes
    → HoldsLeft files name count left routes
held_left files name bytes slice count left routes same content short is = record {
  shape = is.shape;
  topology_read = record {
    bytes = bytes;
    content = content;
    short = short;
    gives = subst (λ (bs : List ℕ). topology_taken count bs ≡ Ok is.shape) same is.taken;
  };
  rules = is.rules;
  folding = is.folding;
  ways = is.ways;
}

-- what is left and the ways to it are the folding of one topology
pub left_folds : (count : ℕ) (bytes : List ℕ) (left : Shape) (routes : RoutesView) → IsLeftOf count bytes left routes
    → IsFolding left routes
left_folds count bytes left routes is = record { file = is.shape; left = is.folding; ways = is.ways }

-- ---- load

-- of the topology of load all is left
load-folded : folded load_shape ≡ load_shape
load-folded = refl

-- what is taken, or else another shape
abbrev shape_or : Shape → Result Shape Status → Shape
shape_or other (Ok shape) = shape
shape_or other (Err status) = other

-- so it is what its bytes are taken for
pub load_left : (bytes : List ℕ) (left : Shape) (routes : RoutesView) → bytes ≡ load_topology → IsLeftOf 1 bytes left routes
    → topology_taken 1 load_topology ≡ Ok left
load_left bytes left routes same is =
    let taken : topology_taken 1 load_topology ≡ Ok is.shape =
    subst (λ (bs : List ℕ). topology_taken 1 bs ≡ Ok is.shape) same is.taken in
    let own : topology_taken 1 load_topology ≡ Ok load_shape = ap (fed_of 1) topology-taken in
    let stated : is.shape ≡ load_shape = ap (shape_or load_shape) (sym taken ∙ own) in
    own ∙ ap Ok (sym (is.folding ∙ ap folded stated ∙ load-folded))

-- ---- the task

-- what is read of a call's files is its task
pub inputs_task : (files : Option Files) (call : Call) (inputs : Inputs) (left : Shape) (routes : RoutesView) (before : Before)
    (sources : List Source) (task : Task) → HoldsLeft files inputs.topology (length inputs.events) left routes
    → HoldsBefore files call left routes.weaks before → HoldsSources files 0 lines_limit inputs.events sources
    → task.case ≡ record { topology = left; sources = sources } → task.routes ≡ routes → task.before ≡ before
    → task.wanted ≡ wanted_of inputs.history inputs.live → IsInputsTask files call inputs task
inputs_task files call inputs left routes before sources task held planned events case_is routes_is before_is text =
    let topology_is : task.case.topology ≡ left = ap (λ (c : CaseShape). c.topology) case_is in
    let sources_is : task.case.sources ≡ sources = ap (λ (c : CaseShape). c.sources) case_is in record {
      shape = held.shape;
      topology_read = held.topology_read;
      rules = held.rules;
      folding = topology_is ∙ held.folding;
      ways = routes_is ∙ held.ways;
      plan_read = subst (λ (b : Before). HoldsBefore files call task.case.topology task.routes.weaks b) (sym before_is)
          (subst (λ (r : RoutesView). HoldsBefore files call task.case.topology r.weaks before) (sym routes_is)
          (subst (λ (s : Shape). HoldsBefore files call s routes.weaks before) (sym topology_is) planned));
      events_read = subst (λ (ss : List Source). HoldsSources files 0 lines_limit inputs.events ss) (sym sources_is) events;
      text = text;
    }

-- its topology and its ways are the folding of one topology
pub task_folds : (files : Option Files) (call : Call) (inputs : Inputs) (task : Task) → IsInputsTask files call inputs task
    → IsFolding task.case.topology task.routes
task_folds files call inputs task is = record { file = is.shape; left = is.folding; ways = is.ways }
