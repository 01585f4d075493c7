use Rattle.run_history.proofs.Claims.{last_claim-there, last_claim-latest}
use Rattle.history_laws.proofs.claims.last_claims_are_latest.Goals as goal

pub returns : goal.returns
returns c = record {
  claim = λ history interval seq last. last_claim-there interval seq history last;
  latest = λ history interval seq worker at. last_claim-latest interval seq worker history at;
}
