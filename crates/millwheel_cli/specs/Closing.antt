-- How a call ends by its words or its keeper, when the run itself is not begun or is over. Own.
use Rattle.mw_ports.specs.declared.words.WordsFault.{WordsFault}
use Rattle.mw_ports.specs.declared.words.WordsFault.TheVariants as words
use Rattle.row_keeper.specs.declared.keeper.KeeperFault.{KeeperFault}
use Rattle.row_keeper.specs.declared.keeper.KeeperFault.TheVariants as faults
use Rattle.task_runs.specs.declared.status.Status.{Status}
use Rattle.task_runs.specs.declared.status.Status.TheVariants as status

-- the status of words that were not read: they are no call, unless memory ran out
abbrev pub of_unheard : WordsFault → Status
of_unheard words.NoMemory = status.NoMemory
of_unheard words.NoText = status.Usage

-- the status of a keeper that failed
abbrev pub of_keeper : KeeperFault → Status
of_keeper faults.Failed = status.KeeperFault
of_keeper faults.NoMemory = status.NoMemory
