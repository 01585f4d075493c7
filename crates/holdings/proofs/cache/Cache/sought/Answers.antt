use Rattle.std.proofs.Common.{◌∙◌, ap, sym, subst, List, map}
use Rattle.std.specs.Prelude.{Some}
use Rattle.std.specs.Map.{lookup}
use Rattle.std.specs.BTreeMap.{is_at}
use Rattle.mw_types.specs.Orders.{row_cmp}
use Rattle.mw_types.specs.declared.identity.RowName.{RowName}
use Rattle.row_parts.specs.Contents.{Contents}
use Rattle.row_parts.specs.Places.{IsGap, IsHit}
use Rattle.book.specs.Claims.{named}
use Rattle.book.specs.declared.answers.NamedRow.{NamedRow}
use Rattle.holdings.proofs.CacheLaws.{lookup-behind, lookup-gap, lookup-hit, lookup-merged}
use Rattle.holdings.proofs.cache.Cache.sought.Goals as goal

-- a row of the list is found at its place
pub returns-in-Ok : goal.returns-in-Ok
returns-in-Ok c =
    let name = c.args.name.now in
    let answered = c.self.inside.answered.items in
    let others = c.self.inside.others in
    let hit : IsHit (λ (r : NamedRow). row_cmp r.name name) answered c.in-Ok.at =
    subst (λ (l : List NamedRow). IsHit (λ (r : NamedRow). row_cmp r.name name) l c.in-Ok.at) c.deref.ensures.value c.in-Ok.ensures in
    ap (λ (r : NamedRow). Some r.row) c.index.ensures
    ∙ sym (lookup-hit name answered others c.in-Ok.at c.index.result.now hit)
    ∙ sym (lookup-merged name answered others)
    ∙ ap (λ (l : List (RowName × Contents)). lookup (is_at (row_cmp name)) l) c.self.view_is

-- another row is found beside the list
pub returns-in-Err : goal.returns-in-Err
returns-in-Err c =
    let name = c.args.name.now in
    let answered = c.self.inside.answered.items in
    let others = c.self.inside.others in
    let gap : IsGap (λ (r : NamedRow). row_cmp r.name name) answered c.in-Err.field-0 =
    subst (λ (l : List NamedRow). IsGap (λ (r : NamedRow). row_cmp r.name name) l c.in-Err.field-0) c.deref.ensures.value c.in-Err.ensures in
    c.get.ensures
    ∙ sym (lookup-behind name (map named answered) others (lookup-gap name answered c.in-Err.field-0 gap))
    ∙ sym (lookup-merged name answered others)
    ∙ ap (λ (l : List (RowName × Contents)). lookup (is_at (row_cmp name)) l) c.self.view_is
