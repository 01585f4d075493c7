-- Workers may cross threads.
use denote.RattleType.{RattleType}
use denote.Param.Send.{IsSend, sendable}
use Rattle.std.proofs.Crossing.{crosses}
use Rattle.book.specs.declared.desk.Seen.{Ghosts}
use Rattle.mw_types.proofs.delivery.Delivery.TheSendSync as deliveries
use Rattle.mw_types.proofs.identity.RowName.TheSendSync as names
use Rattle.mw_types.proofs.timer.Timer.TheSendSync as timers
use Rattle.book.specs.contracts.proposal.Proposal as Proposal
use Rattle.book.proofs.Sending.{effects_send}
use Rattle.holdings.proofs.Sending.{holdings_send}
use Rattle.outbox.proofs.Sending.{outbox_send}
use Rattle.node.specs.contracts.node.Node as Node
use Rattle.node.specs.contracts.work.Work as Work

-- what is proposed, as a field
proposal_field_send : IsSend (Proposal.the_field).row
proposal_field_send = search (sendable, effects_send, deliveries.the_field_send, timers.the_field_send) depth 30 fits 100000

-- a work that is prepared
work_send : IsSend Work.the_row
work_send = search (sendable, crosses, proposal_field_send, names.the_field_send) depth 30

-- a worker, where the notes of its messages may cross
pub node_send : (N : RattleType) (g : Ghosts N.Denot) → IsSend N → IsSend (Node.the_row N g)
node_send N g s = search (sendable, crosses, holdings_send, work_send, outbox_send) depth 30
