-- A worker may go to a thread where its keeper may, and threads may share mailboxes.
use denote.RattleType.{RattleType}
use mir.Syntax.{Sym}
use denote.Param.Send.{IsSend, IsSync, sendable}
use denote.Param.SendFields.{as_row_sync, declared_sync}
use denote.Struct.Field.{row_field}
use denote.Struct.Tuple.{TupleAt, type_at}
use mathlib.Core.List.{[], ◌∷◌}
use Rattle.std.proofs.Crossing.{crosses}
use Rattle.row_keeper.specs.declared.keeper.Keeper as keeper
use Rattle.book.specs.declared.desk.Seen as seen
use Rattle.workers.specs.declared.office.Office as office
use Rattle.workers.specs.contracts.mailbox.Mailbox as Mailbox
use Rattle.workers.specs.contracts.passes.MailPass as MailPass
use Rattle.workers.proofs.mailbox.Mailbox.TheSendSync as boxes
use Rattle.workers.proofs.passes.MailPass.TheSendSync as passes
use Rattle.mw_types.proofs.identity.RowName.TheSendSync as names
use Rattle.mw_types.proofs.seq.Seq.TheSendSync as lists
use Rattle.node.proofs.Sending.{node_send}
use Rattle.node.proofs.outcome.NodeFault.TheSendSync as faults
use Rattle.node.specs.contracts.node.Node as Node
use Rattle.node.specs.contracts.outcome.NodeFault as NodeFault
use Rattle.shared_book.specs.contracts.seats.Note as Note
use Rattle.workers.proofs.orders.Orders.TheSendSync as orders
use Rattle.workers.specs.contracts.orders.Orders as Orders
use Rattle.shared_book.proofs.Sending.{note_send, seat_field_send}
use Rattle.workers.specs.contracts.crew.Worker as Worker
use Rattle.workers.specs.contracts.pass_list.PassList as PassList

-- a pass of a mailbox
pass_send : (N J : RattleType) (g : seen.Ghosts N.Denot) (h : office.Ghosts J.Denot) → IsSend N → IsSend (MailPass.the_row N J g h)
pass_send N J g h s = search (sendable, passes.the_send) depth 30

-- the passes of a worker
passes_send : (N J : RattleType) (g : seen.Ghosts N.Denot) (h : office.Ghosts J.Denot) → IsSend N → IsSend (PassList.the_row N J g h)
passes_send N J g h s = search (sendable, crosses, pass_send) depth 30

-- why a worker's call failed
fault_send : IsSend NodeFault.the_row
fault_send = search (sendable, faults.the_send, names.the_field_send, names.the_send, lists.the_send) depth 30

-- what a worker is asked to do
orders_send : IsSend Orders.the_row
orders_send = search (sendable, orders.the_send) depth 30

-- the worker's node
notes_send : (K : RattleType) (g : keeper.Ghosts K.Denot) (h : seen.Ghosts (Note.the_row K g).Denot) → IsSend K
    → IsSend (Node.the_row (Note.the_row K g) h)
notes_send K g h s = node_send (Note.the_row K g) h (note_send K g s)

-- a worker, where its keeper may cross
pub worker_send : (K J : RattleType) (g : keeper.Ghosts K.Denot) (h : office.Ghosts J.Denot) → IsSend K → IsSend (Worker.the_row K J g h)
worker_send K J g h s =
    search (sendable, crosses, notes_send, note_send, seat_field_send, passes_send, fault_send, orders_send) depth 30 fits 100000

-- a mailbox, where the notes of its messages may cross
pub mailbox_sync : (N J : RattleType) (g : seen.Ghosts N.Denot) (h : office.Ghosts J.Denot) → IsSend N → IsSync (Mailbox.the_row N J g h)
mailbox_sync N J g h s = search (sendable, boxes.the_sync) depth 30

-- what a closure of seven captures lends, where each may be shared
pub captures_sync : (name : Sym) (A B C D E F G : RattleType)
    → IsSync A → IsSync B → IsSync C → IsSync D → IsSync E → IsSync F → IsSync G
    → IsSync (TupleAt name (A ∷ B ∷ C ∷ D ∷ E ∷ F ∷ G ∷ []))
captures_sync name A B C D E F G a b c d e f g =
    declared_sync (type_at name (A ∷ B ∷ C ∷ D ∷ E ∷ F ∷ G ∷ [])) (
      as_row_sync (row_field A) a,
      (
        as_row_sync (row_field B) b,
        (
          as_row_sync (row_field C) c,
          (
            as_row_sync (row_field D) d,
            (as_row_sync (row_field E) e, (as_row_sync (row_field F) f, (as_row_sync (row_field G) g, tt))),
          ),
        ),
      ),
    )
