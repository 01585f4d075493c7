use Rattle.std.proofs.Common.{rules}
use Rattle.std.specs.Ordering.{is_lt}
use Rattle.std.proofs.lemmas.Bool.Decides.{same_from_decides}
use Rattle.std.proofs.lemmas.Fn.{always_returns_same}
use Rattle.row_parts.specs.Reading.{ascends}
use Rattle.row_parts.proofs.Ascending.{adjacent_decides, ascends_decides}
use Rattle.row_parts.proofs.lists.ascend.Goals as goal

pub returns : goal.returns
returns g c =
    same_from_decides c.is_sorted_by.result (ascends g.X.Ranked.rank c.args.xs.now)
    (adjacent_decides g.met.X.Ranked.total c.args.xs.now c.is_sorted_by.result
    (c.is_sorted_by.ensures.cases (λ x y. is_lt (g.X.Ranked.rank x y))
    (always_returns_same _ _ _ (λ a r f' k. (search rules, search rules)))))
    (ascends_decides g.met.X.Ranked.total c.args.xs.now)
