-- The topology and the lines of load are taken.
use Rattle.std.proofs.Common.{◌≡◌, ◌≤◌, ℕ, Result, Ok, Err, refl, sym, subst}
use Rattle.std.specs.Prelude.{IsOk}
use Rattle.json_reading.specs.Refusals.{and_then}
use Rattle.command_line.specs.declared.command.Call.TheVariants.{Load}
use Rattle.mw_ports.specs.Shelves.{Files}
use Rattle.row_keeper.specs.Rows.{Rows}
use Rattle.topology.specs.declared.refusal.TopologyRefusal.{TopologyRefusal}
use Rattle.topology.specs.Shapes.{Shape}
use Rattle.injector.specs.Sources.{Source}
use Rattle.injector.specs.EventFiles.{source_in}
use Rattle.injector.specs.declared.refusal.LinesRefusal.{LinesRefusal}
use Rattle.task_runs.specs.declared.status.Status.{Status}
use Rattle.millwheel_cli.specs.Limits.{lines_limit}
use Rattle.millwheel_cli.specs.Files.{fed_of, read_of, source_taken}
use Rattle.millwheel_cli.specs.Loads.{load_text}
use Rattle.millwheel_cli.specs.Reasons.{load_taken, ended, ran_over, answer_for}
use Rattle.millwheel_cli.proofs.LoadTopology.{topology-taken}
use Rattle.millwheel_cli.proofs.LoadLines.{lines-taken}

-- a source that is read is taken
read_of-ok : (file : ℕ) (read : Result Source LinesRefusal) → IsOk read → IsOk (read_of file read)
read_of-ok file (Ok source) is = refl
read_of-ok file (Err why) is = absurd cc

pub load-taken : (seed lines : ℕ) → lines ≤ lines_limit → IsOk (load_taken seed lines)
load-taken seed lines few =
    subst (λ (found : Result Shape TopologyRefusal).
    IsOk (and_then (fed_of 1 found) (λ shape. source_taken 0 lines_limit (load_text seed lines)))) (sym topology-taken)
    (read_of-ok 0 (source_in lines_limit (load_text seed lines)) (lines-taken seed lines few))

-- so it ends as a run over these rows does
ended-ok : (taken : Result Source Status) (run : Status) → IsOk taken → ended taken run ≡ run
ended-ok (Ok source) run is = refl
ended-ok (Err why) run is = absurd cc

pub load-answered : (held : Files) (rows : Rows) (seed lines : ℕ) → lines ≤ lines_limit
    → answer_for held rows (Load seed lines) ≡ ran_over rows
load-answered held rows seed lines few = ended-ok (load_taken seed lines) (ran_over rows) (load-taken seed lines few)
