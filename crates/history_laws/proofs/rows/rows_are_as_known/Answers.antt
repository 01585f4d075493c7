use Rattle.history_laws.proofs.FenceLaws.{row_in-known}
use Rattle.history_laws.proofs.CoveredLaws.{rows_covered-known}
use Rattle.run_history.proofs.Known.{known-last}
use Rattle.history_laws.proofs.rows.rows_are_as_known.Goals as goal

pub returns : goal.returns
returns c = record {
  as_known = λ shape front rest interval seq fenced seen name lies.
      row_in-known shape interval seq seen.claimed.0 front rest fenced seen.claimed.1 seen.own name lies;
  listed = λ shape front rest interval seq b rules at fenced seen.
      rows_covered-known shape interval seq seen.claimed.0 b front rest rules at fenced seen.claimed.1 seen.own;
  whole = λ history interval seq last. known-last interval seq history last;
}
