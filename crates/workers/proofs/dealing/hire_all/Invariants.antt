use Rattle.std.proofs.Common.{◌≡◌, ◌≤◌, ◌+◌, length}
use Rattle.std.specs.Prelude.{All, vec_capacity}
use Rattle.shared_book.specs.Opening.{span}
use Rattle.workers.specs.Crews.{AreWorkers}
use Rattle.workers.specs.Runs.{HasDealt, IsHired, passes_in}
use Rattle.workers.specs.Seats.{IsSeated}
use Rattle.workers.proofs.dealing.hire_all.Given as goal

-- so many workers have a seat
abbrev pub invariant-loop-own : goal.invariant-loop-own
invariant-loop-own g l = record {
  seated : IsSeated l.shared.table.shared.table_id l.case l.seat.place;
  seat_number : l.seat.number ≡ l.number;
  number : l.number ≡ length l.yielded;
  left : l.number + l.left ≡ length l.fn.passes.items;
  numbers : l.seat.place.me.0.numbers ≡ span l.number (l.left + 1);
  dealt : HasDealt l.initial.seat.place.me.0 l.seat.place.me.0;
  workers : AreWorkers l.shared.table.shared.table_id l.case l.crew.items;
  many : length l.crew.items ≡ l.number;
  hired : All (IsHired l.initial.seat.place.me.0) l.crew.items;
  passes : passes_in l.crew.items ≡ l.yielded;
  room : length l.fn.passes.items ≤ vec_capacity l.crew;
}
