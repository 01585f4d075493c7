use Rattle.std.proofs.Common.{◌≡◌, ℕ, [], ◌∷◌, take, refl, arith}
use Rattle.std.specs.Prelude.{Option, Some}
use Rattle.mw_types.specs.declared.delivery.Delivery.{Delivery}
use Rattle.mw_types.specs.declared.entry.Entry.TheVariants.{Handle}
use Rattle.run_history.proofs.Fenced.{IsFenced-tested}
use Rattle.worked_examples.specs.First.{first_case, row_a, record_at, window, counts}
use Rattle.worked_examples.specs.Drained.{id_of, drained_history}
use Rattle.worked_examples.proofs.drained.drained_example.Goals as goal

-- the delivery that the entry of this number made of a record
sent : ℕ → ℕ → Delivery
sent commit stamp = record { id = id_of commit; to = row_a; item = record_at stamp }

-- each entry may follow those before it
pub returns-clause-legal : goal.returns-clause-legal
unfolding sent
returns-clause-legal c = (
  record { worker_there = omega arith; interval_there = omega arith },
  (
    record { worker_there = omega arith; interval_there = omega arith },
    (
      record { injector = refl; next_line = refl; of_line = refl },
      (
        record { delivery = sent 2 10; waits = refl; to_row = refl; does = refl },
        (
          record { pending = refl; handled = refl },
          (
            record { injector = refl; next_line = refl; of_line = refl },
            (
              record { delivery = sent 5 59; waits = refl; to_row = refl; does = refl },
              (
                record { pending = refl; handled = refl },
                (
                  record { injector = refl; next_line = refl; of_line = refl },
                  (
                    record { delivery = sent 8 60; waits = refl; to_row = refl; does = refl },
                    (
                      record { pending = refl; handled = refl },
                      (
                        record { least_timer = refl; due = omega arith; under_watermark = omega arith; does = refl },
                        (
                          record { least_timer = refl; due = omega arith; under_watermark = omega arith; does = refl },
                          (record { there = refl; rises = omega arith; finished = omega arith }, tt),
                        ),
                      ),
                    ),
                  ),
                ),
              ),
            ),
          ),
        ),
      ),
    ),
  ),
)

-- each write is under its claim
pub returns-clause-fenced : goal.returns-clause-fenced
returns-clause-fenced c = IsFenced-tested first_case.topology drained_history refl

-- no rule of the order asks for the number of a claim
pub returns-clause-stale_is_legal : goal.returns-clause-stale_is_legal
unfolding sent
returns-clause-stale_is_legal c = (
  record { worker_there = omega arith; interval_there = omega arith },
  (
    record { worker_there = omega arith; interval_there = omega arith },
    (
      record { injector = refl; next_line = refl; of_line = refl },
      (record { delivery = sent 2 10; waits = refl; to_row = refl; does = refl }, tt),
    ),
  ),
)

-- the numbers of the two claims differ
apart : ◌≡◌ {A = Option ℕ} (Some 1) (Some 0) → ⊥
apart e = cc

-- the last claim of the count's interval is entry 1
pub returns-clause-stale_is_not_fenced : goal.returns-clause-stale_is_not_fenced
returns-clause-stale_is_not_fenced c fenced =
    apart (fenced (take 3 drained_history) (Handle 0 row_a (id_of 2) (counts (window 60 1 ∷ []) 60)) ([], refl) row_a refl)
