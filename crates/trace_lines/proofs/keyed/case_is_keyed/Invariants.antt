use Rattle.std.proofs.Common.{take}
use Rattle.std.specs.Prelude.{All}
use Rattle.injector.specs.Sources.{Source}
use Rattle.trace_lines.specs.Values.{HasKeyAndValue}
use Rattle.trace_lines.proofs.keyed.case_is_keyed.Given as goal

-- each line of each source so far has a key and a value
abbrev pub invariant-loop-items : goal.invariant-loop-items
invariant-loop-items l = All (λ (source : Source). All HasKeyAndValue source) (take l.items-index l.items-items)
