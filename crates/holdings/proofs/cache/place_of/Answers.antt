use Rattle.std.proofs.Common.{rules}
use Rattle.std.proofs.lemmas.Fn.{always_returns_same}
use Rattle.mw_types.specs.Orders.{row_cmp}
use Rattle.book.specs.declared.answers.NamedRow.{NamedRow}
use Rattle.holdings.proofs.CacheLaws.{is_name_place}
use Rattle.holdings.proofs.cache.place_of.Goals as goal

pub returns : goal.returns
returns c = is_name_place c.args.name.now c.args.rows.now c.binary_search_by.result c.requires c.binary_search_by.ensures.bound
    (c.binary_search_by.ensures.position (λ (r : NamedRow). row_cmp r.name c.args.name.now)
    (always_returns_same _ _ _ (λ a r f' k. (search rules, search rules))))
