use Rattle.std.proofs.Common.{rules}
use Rattle.std.proofs.lemmas.Fn.{always_returns_same}
use Rattle.row_parts.specs.Places.{delivery_rank}
use Rattle.row_parts.proofs.Ranks.{delivery_is_place}
use Rattle.book.proofs.settling.place_of.Goals as goal

-- the search is one in the order of the ids
pub returns : goal.returns
returns c = delivery_is_place c.args.id c.args.deliveries.now c.binary_search_by.result c.requires c.binary_search_by.ensures.bound
    (c.binary_search_by.ensures.position (delivery_rank c.args.id) (always_returns_same _ _ _ (λ a r f' k. (search rules, search rules))))
