-- Of what a status comes.
use Rattle.std.proofs.Common.{◌≡◌, ℕ, List, Option, refl, ap, subst, arith}
use Rattle.mw_types.specs.declared.entry.Entry.{Entry}
use Rattle.mw_ports.specs.declared.sink.SinkFault.{SinkFault}
use Rattle.mw_ports.specs.declared.sink.SinkFault.TheVariants as sinks
use Rattle.topology.specs.Shapes.{Shape}
use Rattle.book.specs.declared.refusals.StartWhy.{StartWhy}
use Rattle.book.specs.declared.refusals.StartWhy.TheVariants as starts
use Rattle.node.specs.declared.outcome.NodeFault.{NodeFault}
use Rattle.node.specs.declared.outcome.NodeFault.TheVariants as faults
use Rattle.task_runs.specs.declared.live.LiveFault.{LiveFault}
use Rattle.task_runs.specs.declared.live.LiveFault.TheVariants as lives
use Rattle.task_runs.specs.declared.task.Wanted.{Wanted}
use Rattle.task_runs.specs.declared.status.Status.{Status}
use Rattle.task_runs.specs.declared.status.Status.TheVariants as status
use Rattle.task_runs.specs.Inside.{HasText, IsWritten, of_start, of_drain, of_live, of_sink}

-- a start that says so failed by its keeper
pub start_fault : (why : StartWhy) → of_start why ≡ status.KeeperFault → why ≡ starts.KeeperFault
start_fault (starts.NotEmpty name bytes) is = grind (arith, is)
start_fault starts.KeeperFault is = refl
start_fault starts.NoMemory is = grind (arith, is)

-- a drain that says so failed by its keeper
pub drain_fault : (fault : NodeFault) → of_drain fault ≡ status.KeeperFault → fault ≡ faults.KeeperFault
drain_fault faults.HistoryFull is = grind (arith, is)
drain_fault faults.KeeperFault is = refl
drain_fault (faults.RowDamaged name bytes) is = grind (arith, is)
drain_fault faults.NoMemory is = grind (arith, is)

-- a sink that says so failed
pub sink_fault : (fault : SinkFault) → of_sink fault ≡ status.SinkFault → fault ≡ sinks.Failed
sink_fault sinks.Failed is = refl
sink_fault sinks.NoMemory is = grind (arith, is)

-- no start fails by its sink
pub start_sink : (why : StartWhy) → of_start why ≡ status.SinkFault → ⊥
start_sink (starts.NotEmpty name bytes) is = grind (arith, is)
start_sink starts.KeeperFault is = grind (arith, is)
start_sink starts.NoMemory is = grind (arith, is)

-- no drain fails by its sink
pub drain_sink : (fault : NodeFault) → of_drain fault ≡ status.SinkFault → ⊥
drain_sink faults.HistoryFull is = grind (arith, is)
drain_sink faults.KeeperFault is = grind (arith, is)
drain_sink (faults.RowDamaged name bytes) is = grind (arith, is)
drain_sink faults.NoMemory is = grind (arith, is)

-- a run that was stopped so failed by its keeper
pub live_keeper : (fault : LiveFault) → of_live fault ≡ status.KeeperFault → fault ≡ lives.Run faults.KeeperFault
live_keeper (lives.Run why) is = ap lives.Run (drain_fault why is)
live_keeper (lives.Sink sinks.Failed) is = grind (arith, is)
live_keeper (lives.Sink sinks.NoMemory) is = grind (arith, is)

-- or by its sink
pub live_sink : (fault : LiveFault) → of_live fault ≡ status.SinkFault → fault ≡ lives.Sink sinks.Failed
live_sink (lives.Run why) is = absurd (drain_sink why is)
live_sink (lives.Sink why) is = ap lives.Sink (sink_fault why is)

-- no writing fails by the keeper
pub text_keeper : (wanted : Wanted) (shape : Shape) (history : List Entry) (old new : Option (List ℕ)) (s : Status)
    → HasText wanted shape history old new s → s ≡ status.KeeperFault → ⊥
text_keeper wanted shape history old new s is same = subst (λ t. HasText wanted shape history old new t) same is

-- nor does that of a text alone
pub written_keeper : (text : List ℕ) (old new : Option (List ℕ)) (s : Status) → IsWritten text old new s → s ≡ status.KeeperFault → ⊥
written_keeper text old new s is same = subst (λ t. IsWritten text old new t) same is
