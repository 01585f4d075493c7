use denote.RattleType.{RattleType}
use denote.Param.Send.{IsSend, sendable}
use Rattle.std.proofs.Crossing.{crosses, send}
use Rattle.row_keeper.specs.declared.keeper.Keeper.{Ghosts}
use Rattle.engine_tests.specs.contracts.tests.books.raising.Ended as Ended
use Rattle.shared_book.proofs.Sending.{seat_field_send, seat_send, shared_sync}
use Rattle.engine_tests.proofs.tests.books.raising.in_threads.Goals as goal

-- what a thread answers, where the keeper may cross
ended_send : (K : RattleType) (g : Ghosts K.Denot) → IsSend K → IsSend (Ended.the_row K g)
ended_send K g s = search (sendable, crosses, seat_field_send) depth 30

-- what a thread is given may cross to it, and what it answers back
pub join-first-requires-send-F : goal.join-first-requires-send-F
join-first-requires-send-F g c κs within =
    search (sendable, send, seat_send, seat_field_send, shared_sync) depth 30

pub join-first-requires-send-A : goal.join-first-requires-send-A
join-first-requires-send-A g c κs within = search (sendable, ended_send) depth 30
