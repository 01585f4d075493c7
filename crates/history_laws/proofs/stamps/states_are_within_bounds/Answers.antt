use Rattle.std.proofs.Common.{arith}
use Rattle.history_laws.proofs.IdLaws.{next-length}
use Rattle.history_laws.proofs.StateLaws.{legal-bounded}
use Rattle.history_laws.proofs.stamps.states_are_within_bounds.Goals as goal

pub returns : goal.returns
returns c = record {
  within = λ case history name runs legal few. (legal-bounded case history runs legal).states.within name
      (omega (arith, few, next-length case.topology history));
}
