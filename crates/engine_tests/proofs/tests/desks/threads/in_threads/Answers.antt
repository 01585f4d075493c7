use denote.Param.Send.{sendable}
use Rattle.std.proofs.Crossing.{send}
use Rattle.run_history.proofs.case.Case.TheSendSync as cases
use Rattle.shared_book.proofs.Sending.{seat_field_send, seat_send, shared_sync}
use Rattle.engine_tests.proofs.tests.desks.threads.in_threads.Goals as goal

-- what a thread is given may cross to it, and what it answers back
pub join-first-requires-send-F : goal.join-first-requires-send-F
join-first-requires-send-F g c κs within =
    search (sendable, send, seat_send, seat_field_send, shared_sync, cases.the_sync) depth 30

pub join-first-requires-send-A : goal.join-first-requires-send-A
join-first-requires-send-A g c κs within = search (sendable, seat_send) depth 30
