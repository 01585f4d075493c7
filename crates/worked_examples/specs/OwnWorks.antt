-- The two intervals of the first example, and what stands after some entries of its history.
use Rattle.std.specs.Prelude.{ℕ, take}
use Rattle.run_history.specs.Runs.{Run, run_of}
use Rattle.worked_examples.specs.First.{first_case}
use Rattle.worked_examples.specs.Drained.{drained_history}
use Rattle.worked_examples.specs.Rising.{whole_part}
use Rattle.run_history.specs.Marks.{own_work}

-- what stands after so many entries of the example's history
abbrev pub drained_after : ℕ → Run
drained_after entries = run_of first_case.topology (take entries drained_history)

-- the own work of the injector's interval, and that of the count's
abbrev pub own_works : Run → ℕ × ℕ
own_works run = (own_work first_case run (whole_part 0), own_work first_case run (whole_part 1))
