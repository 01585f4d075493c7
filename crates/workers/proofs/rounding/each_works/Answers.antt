use mir.Syntax.{named}
use denote.Exit.{no}
use denote.Param.{param}
use denote.Param.Send.{arg_sync, param_sync, sendable, shr_slice_sync, shr_sync}
use Rattle.std.proofs.Crossing.{sync}
use Rattle.run_history.proofs.case.Case.TheSendSync as cases
use Rattle.shared_book.specs.contracts.seats.Note as Note
use Rattle.shared_book.specs.contracts.shared_desk.NoteSeen.TheImpl as seen
use Rattle.shared_book.proofs.Sending.{note_send, shared_sync}
use Rattle.workers.proofs.Sending.{captures_sync, mailbox_sync, worker_send}
use Rattle.workers.proofs.rounding.each_works.Goals as goal

-- a worker may go to a thread
pub for_each_mut-requires-send-T : goal.for_each_mut-requires-send-T
for_each_mut-requires-send-T g c κs within = search (sendable, worker_send) depth 30

-- and threads may share all that they work with
pub for_each_mut-requires-sync-F : goal.for_each_mut-requires-sync-F
for_each_mut-requires-sync-F g c κs within =
    param_sync 2 _ (arg_sync _ no _ (captures_sync _ _ _ _ _ _ _ _
    (shr_sync _ _ _ c.type_bounds.sync-R)
    (shr_sync _ _ _ sync)
    (shr_sync _ _ _ (shared_sync _ _ _ c.type_bounds.send-K))
    (shr_sync _ _ _ cases.the_sync)
    (shr_sync _ _ _ c.type_bounds.sync-C)
    (shr_slice_sync _ _ _ (mailbox_sync (Note.the_row (param 1 g.row.K) g.K.Keeper) (param 4 g.row.J)
    (seen.ghosts (param 1 g.row.K) g.K.Keeper seen.no_dict seen.no_dict) g.J.Office
    (note_send (param 1 g.row.K) g.K.Keeper c.type_bounds.send-K)))
    (shr_sync (named 13) _ (param 3 g.row.G) c.type_bounds.sync-G)))
