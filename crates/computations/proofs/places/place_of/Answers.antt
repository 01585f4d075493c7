use Rattle.std.proofs.Common.{rules}
use Rattle.computations.proofs.Searching.{IsBetween-all}
use Rattle.computations.proofs.places.place_of.Goals as goal

-- at first it may stand anywhere
pub place_between-requires-clause-between : goal.place_between-requires-clause-between
place_between-requires-clause-between g c =
    let all = IsBetween-all g.X.Numbered.number c.args.xs.now c.args.n c.requires in
    search rules
