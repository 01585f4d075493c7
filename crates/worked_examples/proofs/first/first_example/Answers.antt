use Rattle.std.proofs.Common.{ℕ, refl, arith}
use Rattle.mw_types.specs.declared.delivery.Delivery.{Delivery}
use Rattle.list_lemmas.proofs.Lists.{none_some}
use Rattle.worked_examples.specs.First.{row_a, record_at}
use Rattle.worked_examples.proofs.first.first_example.Goals as goal

-- the delivery that the entry of this number made of a record
sent : ℕ → ℕ → Delivery
sent commit stamp = record { id = record { commit = commit; index = 0 }; to = row_a; item = record_at stamp }

-- each entry may follow those before it
pub returns-clause-legal : goal.returns-clause-legal
unfolding sent
returns-clause-legal c = (
  record { injector = refl; next_line = refl; of_line = refl },
  (
    record { delivery = sent 0 10; waits = refl; to_row = refl; does = refl },
    (
      record { injector = refl; next_line = refl; of_line = refl },
      (
        record { delivery = sent 2 59; waits = refl; to_row = refl; does = refl },
        (
          record { injector = refl; next_line = refl; of_line = refl },
          (
            record { delivery = sent 4 60; waits = refl; to_row = refl; does = refl },
            (
              record { least_timer = refl; due = omega arith; under_watermark = omega arith; does = refl },
              (record { least_timer = refl; due = omega arith; under_watermark = omega arith; does = refl }, tt),
            ),
          ),
        ),
      ),
    ),
  ),
)

-- the delivery waits no more
pub returns-clause-handled_twice : goal.returns-clause-handled_twice
returns-clause-handled_twice c legal = none_some legal.1.1.0.delivery legal.1.1.0.waits
