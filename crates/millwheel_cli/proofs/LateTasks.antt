-- A run of threads writes its text at its end.
use Rattle.std.proofs.Common.{◌≡◌, Bool, true, false, Option, refl, sym, subst, true≢false}
use Rattle.command_line.specs.Grammar.{HasSizes}
use Rattle.command_line.specs.declared.command.Call.{Call}
use Rattle.command_line.specs.declared.command.Call.TheVariants.{Solo, Replay, Run, Plain, Load, Collect, Audit}
use Rattle.mw_ports.specs.Shelves.{Files}
use Rattle.task_runs.specs.declared.task.Task.{Task}
use Rattle.task_runs.specs.declared.task.Wanted.{Wanted}
use Rattle.millwheel_cli.specs.Asked.{is_run}
use Rattle.task_runs.specs.Tasks.{is_at_once, wanted_of}
use Rattle.millwheel_cli.specs.Tasks.{IsTask}

-- where it is not asked for, it is not
late_wanted : (history live : Bool) → live ≡ false → is_at_once (wanted_of history live) ≡ false
late_wanted true true late = absurd (true≢false late)
late_wanted true false late = refl
late_wanted false true late = absurd (true≢false late)
late_wanted false false late = refl

-- a run of threads writes its text at its end
pub late_task : (files : Option Files) (call : Call) (task : Task) → HasSizes call → IsTask files call task → is_run call ≡ true
    → is_at_once task.wanted ≡ false
late_task files (Run workers rounds plan inputs) task sizes is run =
    subst (λ (w : Wanted). is_at_once w ≡ false) (sym is.text) (late_wanted inputs.history inputs.live sizes.1)
late_task files (Solo inputs) task sizes is run = absurd (true≢false (sym run))
late_task files (Replay plan inputs) task sizes is run = absurd (true≢false (sym run))
late_task files (Plain inputs) task sizes is run = absurd (true≢false (sym run))
late_task files (Load seed lines) task sizes is run = absurd (true≢false (sym run))
late_task files (Collect file) task sizes is run = absurd (true≢false (sym run))
late_task files (Audit inputs trace) task sizes is run = absurd (true≢false (sym run))
