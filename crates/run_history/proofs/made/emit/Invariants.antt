use Rattle.std.proofs.Common.{◌≡◌, ◌++◌, map, drop}
use Rattle.std.specs.List.{enumerate_from}
use Rattle.run_history.specs.Made.{produced, emission_at}
use Rattle.run_history.proofs.made.emit.Given as goal

-- with the emissions of the productions that are left, those of all
abbrev pub invariant-loop-index : goal.invariant-loop-index
invariant-loop-index l =
    l.emissions ++ map (emission_at l.part l.commit) (enumerate_from l.index (map (produced l.late) (drop l.index l.productions)))
    ≡ l.initial.emissions ++ map (emission_at l.part l.commit) (enumerate_from 0 (map (produced l.late) l.productions))
