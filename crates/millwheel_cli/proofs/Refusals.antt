-- What was refused in one step is refused in the next.
use Rattle.task_runs.specs.declared.status.Status.{Status}
use Rattle.millwheel_cli.specs.declared.refusal.Refusal.{Refusal}
use Rattle.millwheel_cli.specs.declared.refusal.Refusal.TheVariants.{NoFile, TopologyRefused, EventsRefused, PlanRefused, NoMemory, ReadFault, TooLong, FileCount, CollectRefused, AuditRefused}
use Rattle.millwheel_cli.specs.Inside.{UnlessWant}

-- what is so of each status is so of a refusal
pub unless_map : (P Q : Status → Type 0) (refusal : Refusal) → ((s : Status) → P s → Q s) → UnlessWant P refusal → UnlessWant Q refusal
unless_map P Q (NoFile name) f is = f _ is
unless_map P Q (TopologyRefused why) f is = f _ is
unless_map P Q (EventsRefused file line why) f is = f _ is
unless_map P Q (PlanRefused line) f is = f _ is
unless_map P Q NoMemory f is = tt
unless_map P Q (ReadFault name) f is = f _ is
unless_map P Q (TooLong name) f is = f _ is
unless_map P Q (FileCount files injectors) f is = f _ is
unless_map P Q (CollectRefused line first) f is = f _ is
unless_map P Q (AuditRefused line r) f is = f _ is
