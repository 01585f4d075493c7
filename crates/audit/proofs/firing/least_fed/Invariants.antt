use Rattle.std.proofs.Common.{◌≡◌, ◌≤◌, ◌∷◌, map, min, drop}
use Rattle.mw_types.specs.declared.TheConstants.{END}
use Rattle.run_history.specs.Runs.{run_of}
use Rattle.run_history.specs.Watermarks.{least}
use Rattle.audit.specs.Lows.{fed_mark}
use Rattle.audit.proofs.firing.least_fed.Given as goal

-- the lesser of the mark so far and of what is left is the mark of all
abbrev pub invariant-loop-feed : goal.invariant-loop-feed
invariant-loop-feed l = (l.low ≤ END)
    × (min l.low (least (map (fed_mark l.case (run_of l.case.topology l.history) l.lows) (drop l.feed-index l.feeds)))
    ≡ least (l.oldest ∷ map (fed_mark l.case (run_of l.case.topology l.history) l.lows) l.feeds))
