use Rattle.std.proofs.Common.{◌∙◌, List, ap, refl, subst, sym, Some}
use Rattle.std.specs.Option.{option_map}
use Rattle.std.specs.Map.{lookup}
use Rattle.std.specs.BTreeMap.{is_at}
use Rattle.mw_types.specs.Orders.{row_cmp}
use Rattle.mw_types.specs.declared.identity.RowName.{RowName}
use Rattle.row_parts.specs.Contents.{Contents}
use Rattle.book.specs.declared.answers.NamedRow.{NamedRow}
use Rattle.holdings.specs.Slots.{IsPlaceOf, row_at}
use Rattle.holdings.proofs.SlotLaws.{lookup-placed}
use Rattle.holdings.proofs.slots.Slots.tried.Goals as goal

-- what lies at a place of this name is the name's row
pub returns-then-is_at_place : goal.returns-then-is_at_place
returns-then-is_at_place c =
    let name = c.args.name.now in
    let rows = c.self.inside.rows.items in
    let test = is_at (row_cmp name) in
    let is : IsPlaceOf rows name c.get-at.result =
    subst (λ (l : List NamedRow). IsPlaceOf l name c.get-at.result) c.deref.ensures.value (c.if-is_at_place.ensures refl) in
    sym (ap (λ (l : List (RowName × Contents)). lookup test l) c.self.view_is)
    ∙ lookup-placed rows c.self.inside.places.entries test
    ∙ ap (option_map (row_at rows)) (c.self.invariant.back name c.get-at.result is)
    ∙ ap Some (sym (c.row_in.ensures ∙ ap (λ (l : List NamedRow). row_at l c.get-at.result) c.deref-then-is_at_place.ensures.value))
