use Rattle.std.proofs.Common.{take}
use Rattle.std.specs.Prelude.{All}
use Rattle.injector.specs.Sources.{IsSource}
use Rattle.history_laws.proofs.runnable.case_is_runnable.Given as goal

-- each source so far keeps the rules
abbrev pub invariant-loop-items : goal.invariant-loop-items
invariant-loop-items l = All IsSource (take l.items-index l.items-items)
