use Rattle.holdings.proofs.StampLaws.{indexed-put}
use Rattle.holdings.proofs.indexed.Indexed.add.Goals as goal

-- the index is that of the rows, once the row is put
pub invariant_of-self-2 : goal.invariant_of-self-2
invariant_of-self-2 c = indexed-put c.self.inside.rows c.add.new.self c.args.name c.args.row c.changed-index.result c.self.invariant.ordered
    c.in_ok-add.ensures.added c.changed-index.ensures
