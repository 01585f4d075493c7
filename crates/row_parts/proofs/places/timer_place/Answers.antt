use Rattle.std.proofs.Common.{rules}
use Rattle.std.proofs.lemmas.Fn.{always_returns_same}
use Rattle.row_parts.specs.Places.{timer_rank}
use Rattle.row_parts.proofs.Ranks.{timer_is_place}
use Rattle.row_parts.proofs.places.timer_place.Goals as goal

pub returns : goal.returns
returns c = timer_is_place c.args.tag c.args.time c.args.timers.now c.binary_search_by.result c.requires c.binary_search_by.ensures.bound
    (c.binary_search_by.ensures.position (timer_rank c.args.tag c.args.time)
    (always_returns_same _ _ _ (λ a r f' k. (search rules, search rules))))
