use Rattle.std.proofs.Common.{◌≡◌, ℕ, ◌++◌, ◌∷◌, [], refl}
use Rattle.std.specs.Prelude.{Option, Some}
use Rattle.worked_examples.specs.First.{first_case, row_a}
use Rattle.worked_examples.specs.Overtaken.{overtaken, handled_under}
use Rattle.run_history.proofs.Fenced.{IsFenced-tested}
use Rattle.worked_examples.proofs.overtaken.an_overtaken_claim_is_stale.Goals as goal

-- the numbers of the two claims differ
apart : ◌≡◌ {A = Option ℕ} (Some 3) (Some 1) → ⊥
apart e = cc

pub returns : goal.returns
returns c = record {
  newer = refl;
  under_new = IsFenced-tested first_case.topology (overtaken ++ handled_under 3 ∷ []) refl;
  under_old = λ fenced. apart (fenced overtaken (handled_under 1) ([], refl) row_a refl);
  known_old = refl;
  known_new = refl;
}
