-- An example of an owner that was overtaken, worked by hand: a worker claims both intervals of the first
-- example, its line is injected, and another worker claims the interval of the count. The number of the first
-- claim of the interval is 1, that of the second is 3.
use Rattle.std.specs.Prelude.{ℕ, List, [], ◌∷◌}
use Rattle.mw_types.specs.declared.entry.Entry.{Entry}
use Rattle.mw_types.specs.declared.entry.Entry.TheVariants.{Claim, Inject, Handle}
use Rattle.worked_examples.specs.First.{row_a, record_at, window, counts}
use Rattle.worked_examples.specs.Drained.{id_of}

-- the history once the second worker has claimed
abbrev pub overtaken : List Entry
overtaken = Claim 0 0 ∷ Claim 0 1 ∷ Inject 0 0 0 (record_at 10) ∷ Claim 1 1 ∷ []

-- the record is handled under the claim of this number
abbrev pub handled_under : ℕ → Entry
handled_under seq = Handle seq row_a (id_of 2) (counts (window 60 1 ∷ []) 60)
