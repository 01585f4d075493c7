use Rattle.std.proofs.Common.{ℕ, zero, suc, List, ◌++◌, false, refl, arith}
use Rattle.std.specs.Prelude.{pos}
use Rattle.mw_types.specs.declared.identity.RecordId.{RecordId}
use Rattle.mw_types.specs.declared.identity.RowName.{RowName}
use Rattle.mw_types.specs.declared.record.Record.{Record}
use Rattle.mw_types.specs.declared.delivery.Delivery.{Delivery}
use Rattle.run_history.specs.Runs.{empty_run, run_of}
use Rattle.run_history.specs.Legal.{AreLegal, AreInjected, IsLegal}
use Rattle.run_history.proofs.Fenced.{IsFenced-tested}
use Rattle.worked_examples.proofs.Joining.{AreLegal-append}
use Rattle.worked_examples.specs.First.{key_a}
use Rattle.worked_examples.specs.Drained.{id_of}
use Rattle.worked_examples.specs.Wide.{wide_shape, wide_case, wide_claims, wide_lines, wide_window, wide_acknowledged, wide_history, wide_rest, wide_whole, wide_after, count_row, spike_row, key_h, item_of, left_first, left_second, right_only, second_of}
use Rattle.worked_examples.proofs.wide.wide_example.Goals as goal

-- a delivery that was made
sent : RecordId → RowName → Record → Delivery
sent id to item = record { id = id; to = to; item = item }

-- the record of a window's total
total : List ℕ → ℕ → Record
total key end = item_of key end (pos 1) false

-- each entry may follow those before it: the five claims
claims : AreLegal wide_case empty_run wide_claims
claims = (
  record { worker_there = omega arith; interval_there = omega arith },
  (
    record { worker_there = omega arith; interval_there = omega arith },
    (
      record { worker_there = omega arith; interval_there = omega arith },
      (
        record { worker_there = omega arith; interval_there = omega arith },
        (record { worker_there = omega arith; interval_there = omega arith }, tt),
      ),
    ),
  ),
)

-- the lines
lines : AreLegal wide_case (wide_after 5) wide_lines
unfolding sent
lines = (
  record { injector = refl; next_line = refl; of_line = refl },
  (
    record { injector = refl; next_line = refl; of_line = refl },
    (
      record { delivery = sent (id_of 5) (count_row key_a) left_first; waits = refl; to_row = refl; does = refl },
      (
        record { delivery = sent (id_of 6) (count_row key_h) right_only; waits = refl; to_row = refl; does = refl },
        (
          record { injector = refl; next_line = refl; of_line = refl },
          (record { delivery = sent (id_of 9) (count_row key_a) left_second; waits = refl; to_row = refl; does = refl }, tt),
        ),
      ),
    ),
  ),
)

-- the window of a
window_of_a : AreLegal wide_case (wide_after 11) wide_window
unfolding sent total
window_of_a = (
  record { least_timer = refl; due = omega arith; under_watermark = omega arith; does = refl },
  (
    record { delivery = sent (second_of 11) (spike_row key_a) (total key_a 60); waits = refl; to_row = refl; does = refl },
    (record { delivery = sent (id_of 11) (spike_row key_a) (total key_a 60); waits = refl; to_row = refl; does = refl }, tt),
  ),
)

-- the acknowledgements and what follows them
acknowledged : AreLegal wide_case (wide_after 14) wide_acknowledged
acknowledged = (
  record { pending = refl; handled = refl },
  (
    record { pending = refl; handled = refl },
    (
      record { pending = refl; handled = refl },
      (
        record { pending = refl; handled = refl },
        (
          record { there = refl; rises = omega arith; finished = omega arith },
          (
            record { least_timer = refl; due = omega arith; under_watermark = omega arith; does = refl },
            (record { least_timer = refl; due = omega arith; under_watermark = omega arith; does = refl }, tt),
          ),
        ),
      ),
    ),
  ),
)

-- the rest
rest : AreLegal wide_case (wide_after 21) wide_rest
unfolding sent total
rest = (
  record { delivery = sent (id_of 20) (spike_row key_h) (total key_h 120); waits = refl; to_row = refl; does = refl },
  (
    record { delivery = sent (second_of 20) (spike_row key_h) (total key_h 120); waits = refl; to_row = refl; does = refl },
    (
      record { pending = refl; handled = refl },
      (
        record { pending = refl; handled = refl },
        (
          record { pending = refl; handled = refl },
          (record { least_timer = refl; due = omega arith; under_watermark = omega arith; does = refl }, tt),
        ),
      ),
    ),
  ),
)

-- one after another
legal : IsLegal wide_case wide_whole
legal =
    let from_window = AreLegal-append wide_case wide_window wide_acknowledged (wide_after 11) window_of_a acknowledged in
    let from_lines = AreLegal-append wide_case wide_lines (wide_window ++ wide_acknowledged) (wide_after 5) lines from_window in
    let history = AreLegal-append wide_case wide_claims (wide_lines ++ wide_window ++ wide_acknowledged) empty_run claims from_lines in
    AreLegal-append wide_case wide_history wide_rest empty_run history rest

-- each line is injected
injected : AreInjected wide_case (run_of wide_shape wide_whole)
injected zero less = refl
injected (suc zero) less = refl
injected (suc (suc part)) less = absurd (omega (arith, less))

pub returns : goal.returns
returns c = record {
  legal = legal;
  fenced = IsFenced-tested wide_shape wide_whole refl;
  done = record { injected = injected; handled = refl; fired = (refl, (refl, (refl, (refl, (refl, (refl, tt)))))) };
  finished = refl;
  rows = refl;
  emitted = refl;
}
