use Rattle.std.proofs.Common.{◌≡◌, ◌-◌}
use Rattle.row_parts.specs.Reading.{times_at}
use Rattle.row_parts.proofs.Times.{with_front}
use Rattle.row_parts.proofs.lists.take_times.Given as goal

abbrev pub invariant-loop : goal.invariant-loop
invariant-loop g l = with_front l.xs (times_at g.X.Spelled.reading (l.count - l.counter) l.rest)
    ≡ times_at g.X.Spelled.reading l.count l.bytes
