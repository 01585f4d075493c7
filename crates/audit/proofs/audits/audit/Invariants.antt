use Rattle.std.proofs.Common.{◌≡◌, length}
use Rattle.audit.specs.Steps.{IsReadTo}
use Rattle.audit.proofs.audits.audit.Given as goal

-- the text has been read up to what is left, as the history that stands
abbrev pub invariant-loop-line : goal.invariant-loop-line
invariant-loop-line l = record {
  same_case : l.standing.case ≡ l.case;
  read : IsReadTo l.bytes l.rest l.standing.history;
}

abbrev pub decreases-loop-line : goal.decreases-loop-line
decreases-loop-line l = length l.rest
