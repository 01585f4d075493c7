use Rattle.std.proofs.Common.{◌∙◌, sym, ap}
use Rattle.std.specs.Prelude.{option_copied}
use Rattle.std.specs.Ordering.{nat_cmp}
use Rattle.row_parts.proofs.Ranks.{id_is_place, id_at_end, below_is}
use Rattle.row_parts.proofs.places.id_place.Goals as goal

pub returns-in-Some : goal.returns-in-Some
returns-in-Some c = id_at_end c.args.id c.args.ids.now c.in-Some.last.now c.requires
    (sym c.last.ensures.value ∙ ap option_copied c.in-Some.is)
    (sym (below_is (nat_cmp c.in-Some.last.now.commit c.args.id.commit) (nat_cmp c.in-Some.last.now.index c.args.id.index))
    ∙ sym c.lt.ensures ∙ c.if-lt.true)

pub returns-in_default : goal.returns-in_default
returns-in_default c = id_is_place c.args.id c.args.ids.now c.binary_search.result c.requires c.binary_search.ensures.bound
    c.binary_search.ensures.position
