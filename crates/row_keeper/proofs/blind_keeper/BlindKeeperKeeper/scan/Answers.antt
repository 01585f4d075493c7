use Rattle.row_keeper.proofs.Answered.{shown_ascending}
use Rattle.row_keeper.proofs.blind_keeper.BlindKeeperKeeper.scan.Goals as goal

-- one row stands in order
pub returns-clause-ascending : goal.returns-clause-ascending
returns-clause-ascending c = shown_ascending c.args.bounds.now c.self.inside.row c.in_ok-shown.field-0 c.in_ok-shown.ensures
