use Rattle.history_laws.proofs.FenceLaws.{row_in-seen}
use Rattle.history_laws.proofs.CoveredLaws.{rows_covered-seen}
use Rattle.history_laws.proofs.rows.rows_are_as_seen.Goals as goal

pub returns : goal.returns
returns c = record {
  as_seen = λ shape front rest interval seq fenced seen name lies. row_in-seen shape interval seq front rest fenced seen name lies;
  listed = λ shape front rest interval seq b rules at fenced seen.
      rows_covered-seen shape interval seq b front rest rules at fenced seen;
}
