-- What the program says of each status. Own.
use Rattle.std.specs.Prelude.{ℕ, Bool, true, false, if◌then◌else◌, List, [], ◌++◌, codes, decimal}
use Rattle.topology.specs.declared.refusal.TopologyRefusal.{TopologyRefusal}
use Rattle.topology.specs.declared.refusal.TopologyRefusal.TheVariants as topologies
use Rattle.injector.specs.declared.refusal.LineWhy.{LineWhy}
use Rattle.injector.specs.declared.refusal.LineWhy.TheVariants as lines
use Rattle.trace_lines.specs.declared.refusal.AuditWhy.{AuditWhy}
use Rattle.trace_lines.specs.declared.refusal.AuditWhy.TheVariants as audits
use Rattle.task_runs.specs.declared.status.Status.{Status}
use Rattle.task_runs.specs.declared.status.Status.TheVariants.{Ok, Usage, NoFile, TopologyRefused, EventsRefused, PlanRefused, KeeperFault, SinkFault, NoMemory, NotEmpty, HistoryFull, RowDamaged, ReadFault, TooLong, FileCount, CollectRefused, AuditRefused}

-- the name of a rule of topology files
abbrev pub topology_rule : TopologyRefusal → List ℕ
topology_rule topologies.NotJson = codes "NotJson"
topology_rule topologies.BadShape = codes "BadShape"
topology_rule topologies.TooMany = codes "TooMany"
topology_rule topologies.BadName = codes "BadName"
topology_rule topologies.DoubleName = codes "DoubleName"
topology_rule topologies.DoubleStream = codes "DoubleStream"
topology_rule topologies.UnknownStream = codes "UnknownStream"
topology_rule topologies.BadNumber = codes "BadNumber"
topology_rule topologies.BadCuts = codes "BadCuts"
topology_rule topologies.BadWeak = codes "BadWeak"
topology_rule topologies.NoMemory = codes "NoMemory"

-- the name of a rule of event lines
abbrev pub line_rule : LineWhy → List ℕ
line_rule lines.NotJson = codes "NotJson"
line_rule lines.NotObject = codes "NotObject"
line_rule lines.BadKey = codes "BadKey"
line_rule lines.BadStamp = codes "BadStamp"
line_rule lines.BadValue = codes "BadValue"
line_rule lines.TooManyLines = codes "TooManyLines"

-- what is wrong with a line of a printed history
abbrev pub audit_rule : AuditWhy → List ℕ
audit_rule audits.NotALine = codes "NotALine"
audit_rule audits.Unlawful = codes "Unlawful"
audit_rule audits.NotFinished = codes "NotFinished"
audit_rule audits.BadText = codes "BadText"

-- the text of a status, which names the file, the rule or the row that it is about; there is none with Ok
abbrev pub message_of : Status → List ℕ
message_of Ok = []
message_of Usage = codes "usage: millwheel MODE ARGS"
message_of (NoFile name) = codes "no file " ++ name
message_of (TopologyRefused why) = codes "topology refused: " ++ topology_rule why
message_of (EventsRefused file line why) =
    codes "events refused: file " ++ decimal file ++ codes " line " ++ decimal line ++ codes ": "
    ++ line_rule why
message_of (PlanRefused line) = codes "plan refused: line " ++ decimal line
message_of KeeperFault = codes "the keeper failed"
message_of SinkFault = codes "the output failed"
message_of NoMemory = codes "out of memory"
message_of (NotEmpty row bytes) =
    codes "the keeper is not empty: part " ++ decimal row.part ++ codes " key " ++ row.key
message_of HistoryFull = codes "the history is full"
message_of (RowDamaged row bytes) = codes "damaged row: part " ++ decimal row.part ++ codes " key " ++ row.key
message_of (ReadFault name) = codes "can't read " ++ name
message_of (TooLong name) = codes "too long: " ++ name
message_of (FileCount files injectors) =
    decimal files ++ codes " event files for " ++ decimal injectors ++ codes " injectors"
message_of (AuditRefused line why) =
    codes "not a lawful run: line " ++ decimal line ++ codes ": " ++ audit_rule why
message_of (CollectRefused line first) =
    codes "line " ++ (decimal line ++ (codes " differs from line " ++ decimal first))

-- whether the run came to its end
abbrev pub is_ok : Status → Bool
is_ok Ok = true
is_ok _ = false

-- the line that is said of a status on standard error, and nothing with Ok
abbrev pub told_line : Status → List ℕ
told_line status = if is_ok status then [] else codes "millwheel: " ++ (message_of status ++ codes "\n")
