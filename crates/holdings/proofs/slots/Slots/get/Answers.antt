use Rattle.std.proofs.Common.{◌<◌, ◌∙◌, ap, sym, subst, List, length, Some}
use Rattle.std.specs.Option.{option_map}
use Rattle.std.specs.Map.{lookup}
use Rattle.std.specs.BTreeMap.{is_at}
use Rattle.mw_types.specs.Orders.{row_cmp}
use Rattle.mw_types.specs.declared.identity.RowName.{RowName}
use Rattle.row_parts.specs.Contents.{Contents}
use Rattle.book.specs.declared.answers.NamedRow.{NamedRow}
use Rattle.holdings.specs.Slots.{row_at}
use Rattle.holdings.proofs.SlotLaws.{lookup-placed}
use Rattle.holdings.proofs.slots.Slots.get.Goals as goal

-- the place of a name is one of a row
pub row_in-requires : goal.row_in-requires
row_in-requires c = subst (λ (l : List NamedRow). c.in-Some.at < length l) (sym c.deref-in-Some.ensures.value)
    (c.self.invariant.there c.args.name.now c.in-Some.at (sym c.in-Some.ensures.place)).within

-- what lies at a name's place is the name's row
pub returns-in-Some : goal.returns-in-Some
returns-in-Some c =
    let test = is_at (row_cmp c.args.name.now) in
    ap Some (c.row_in.ensures ∙ ap (λ (l : List NamedRow). row_at l c.in-Some.at) c.deref-in-Some.ensures.value)
    ∙ ap (option_map (row_at c.self.inside.rows.items)) c.in-Some.ensures.place
    ∙ sym (lookup-placed c.self.inside.rows.items c.self.inside.places.entries test)
    ∙ ap (λ (l : List (RowName × Contents)). lookup test l) c.self.view_is

-- a name without a place has no row
pub returns-in-None : goal.returns-in-None
returns-in-None c =
    let test = is_at (row_cmp c.args.name.now) in
    ap (option_map (row_at c.self.inside.rows.items)) c.in-None.ensures.place
    ∙ sym (lookup-placed c.self.inside.rows.items c.self.inside.places.entries test)
    ∙ ap (λ (l : List (RowName × Contents)). lookup test l) c.self.view_is
