-- The exit status of the program for each status. Own.
use Rattle.std.specs.Prelude.{ℕ}
use Rattle.task_runs.specs.declared.status.Status.{Status}
use Rattle.task_runs.specs.declared.status.Status.TheVariants.{Ok, Usage, NoFile, TopologyRefused, EventsRefused, PlanRefused, KeeperFault, SinkFault, NoMemory, NotEmpty, HistoryFull, RowDamaged, ReadFault, TooLong, FileCount, CollectRefused, AuditRefused}

-- the number with which the program ends
abbrev pub number_of : Status → ℕ
number_of Ok = 0
number_of Usage = 2
number_of (NoFile name) = 3
number_of (TopologyRefused why) = 4
number_of (EventsRefused file line why) = 5
number_of (PlanRefused line) = 6
number_of KeeperFault = 7
number_of SinkFault = 8
number_of NoMemory = 9
number_of (NotEmpty name bytes) = 10
number_of HistoryFull = 11
number_of (RowDamaged name bytes) = 12
number_of (ReadFault name) = 13
number_of (TooLong name) = 14
number_of (FileCount files injectors) = 15
number_of (AuditRefused line why) = 17
number_of (CollectRefused line first) = 18
