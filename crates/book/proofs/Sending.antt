-- What an entry has may cross threads. A list that shares memory is recursive, so a search for all of it at once
-- breaks off: each type has a step of its own.
use denote.RattleType.{RattleType}
use denote.Param.Send.{IsSend, IsSync, sendable}
use Rattle.std.proofs.Crossing.{crosses}
use Rattle.mw_types.proofs.tree.Tree.TheLaws.TheKnot as knot
use Rattle.mw_types.proofs.state.Window.TheSendSync as windows
use Rattle.mw_types.proofs.state.HeldTotal.TheSendSync as totals
use Rattle.mw_types.proofs.seq.Seq.TheSendSync as lists
use Rattle.mw_types.proofs.timer.Timer.TheSendSync as timers
use Rattle.mw_types.proofs.record.Production.TheSendSync as productions
use Rattle.mw_types.specs.contracts.shared_list.SharedList as SharedList
use Rattle.mw_types.specs.contracts.state.State as State
use Rattle.mw_types.specs.contracts.effects.Effects as Effects
use Rattle.mw_types.specs.contracts.seq.Seq as Seq
use Rattle.mw_types.specs.contracts.timer.Timer as Timer
use Rattle.mw_types.specs.contracts.record.Production as Production

-- a list that shares memory, where its elements may cross and be shared
pub list_send : (X : RattleType) → IsSend X → IsSync X → IsSend (SharedList.the_row X)
list_send X s y = search (sendable, crosses, knot.crosses) depth 30

-- a list of timers
pub timers_send : IsSend (Seq.the_row Timer.the_row)
timers_send = search (lists.the_send, timers.the_send) depth 30

-- a list of productions
pub productions_send : IsSend (Seq.the_row Production.the_row)
productions_send = search (lists.the_send, productions.the_send) depth 30

-- a state, as a field
pub state_field_send : IsSend (State.the_field).row
state_field_send = search (sendable, crosses, list_send, windows.the_send, windows.the_sync, totals.the_send, totals.the_sync) depth 30

-- what a handler leaves
pub effects_send : IsSend Effects.the_row
effects_send = search (sendable, state_field_send, timers_send, productions_send) depth 30
