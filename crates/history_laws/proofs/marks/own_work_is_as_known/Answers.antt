use Rattle.history_laws.proofs.KnownLaws.{own_work-known}
use Rattle.history_laws.proofs.marks.own_work_is_as_known.Goals as goal

pub returns : goal.returns
returns c = record {
  as_known = λ case front rest interval seq b rules at fenced seen.
      own_work-known case interval seq seen.claimed.0 b front rest rules at fenced seen.claimed.1 seen.own;
}
