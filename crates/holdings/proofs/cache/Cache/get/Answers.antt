use Rattle.std.proofs.Common.{◌∙◌, List, ap, map, sym}
use Rattle.std.specs.Map.{lookup}
use Rattle.std.specs.BTreeMap.{is_at}
use Rattle.mw_types.specs.Orders.{row_cmp}
use Rattle.mw_types.specs.declared.identity.RowName.{RowName}
use Rattle.row_parts.specs.Contents.{Contents}
use Rattle.book.specs.Claims.{named}
use Rattle.holdings.proofs.CacheLaws.{lookup-behind, lookup-merged, none-beside}
use Rattle.holdings.proofs.cache.Cache.get.Goals as goal

-- the row that was found last is beside the list, and so none of it
pub returns-in-Some : goal.returns-in-Some
returns-in-Some c =
    let name = c.args.name.now in
    let answered = c.self.inside.answered.items in
    let others = c.self.inside.others in
    sym c.in-Some.ensures
    ∙ sym (lookup-behind name (map named answered) others
    (none-beside answered others name c.in-Some.row.now c.self.invariant.apart c.in-Some.ensures))
    ∙ sym (lookup-merged name answered others)
    ∙ ap (λ (l : List (RowName × Contents)). lookup (is_at (row_cmp name)) l) c.self.view_is
