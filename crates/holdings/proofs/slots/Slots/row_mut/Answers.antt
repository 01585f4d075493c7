use Rattle.std.proofs.Common.{◌≡◌, ◌∙◌, ap, sym, subst, refl, List, length, arith, Some}
use Rattle.std.specs.Prelude.{IsSome}
use Rattle.std.specs.Option.{option_map}
use Rattle.std.specs.Map.{lookup}
use Rattle.std.specs.BTreeMap.{insert_entry, is_at}
use Rattle.std.proofs.lemmas.List.{get_or_default}
use Rattle.mw_types.specs.Orders.{row_cmp}
use Rattle.mw_types.specs.declared.identity.RowName.{RowName}
use Rattle.row_parts.specs.Contents.{Contents}
use Rattle.book.specs.declared.answers.NamedRow.{NamedRow}
use Rattle.holdings.specs.Slots.{IsPlaceOf, no_row, placed, row_at}
use Rattle.holdings.proofs.SlotLaws.{has_place, lookup-placed, placed-set, slots-set}
use Rattle.holdings.proofs.slots.Slots.row_mut.Goals as goal

-- a name that has a row has a place
pub unwrap-at-requires : goal.unwrap-at-requires
unwrap-at-requires c = subst IsSome (sym c.place_in.ensures.place)
    (has_place c.self.inside.rows.items c.self.inside.places.entries c.args.name.now
    (subst (λ (l : List (RowName × Contents)). IsSome (lookup (is_at (row_cmp c.args.name.now)) l)) (sym c.self.view_is) c.requires.there))

-- which is one of a row
pub index_mut-place-requires : goal.index_mut-place-requires
index_mut-place-requires c =
    let within = (c.self.invariant.there c.args.name.now c.unwrap-at.result (sym c.place_in.ensures.place ∙ c.unwrap-at.ensures)).within in
    let count = c.deref.ensures.len in
    let same = ap length c.deref.ensures.value in omega (arith, within, count, same)

-- another row at its place keeps the names
pub invariant_of-self-lent : goal.invariant_of-self-lent
invariant_of-self-lent c w =
    let rows = c.self.inside.rows.items in
    let places = c.self.inside.places.entries in
    let place = c.index_mut-place.result.now in
    let is : IsPlaceOf rows c.args.name.now c.unwrap-at.result =
    c.self.invariant.there c.args.name.now c.unwrap-at.result (sym c.place_in.ensures.place ∙ c.unwrap-at.ensures) in
    let name : place.name ≡ c.args.name.now =
    ap (λ (r : NamedRow). r.name) (c.index_mut-place.ensures.value ∙ get_or_default rows c.unwrap-at.result place no_row is.within) ∙ is.named in
    slots-set rows places c.unwrap-at.result (record place { row = w }) c.self.invariant
    (subst (λ (n : RowName). IsPlaceOf rows n c.unwrap-at.result) (sym name) is)

-- and is put among all
pub returns : goal.returns
returns c =
    let rows = c.self.inside.rows.items in
    let places = c.self.inside.places.entries in
    let test = is_at (row_cmp c.args.name.now) in
    let place = c.index_mut-place.result.now in
    let is : IsPlaceOf rows c.args.name.now c.unwrap-at.result =
    c.self.invariant.there c.args.name.now c.unwrap-at.result (sym c.place_in.ensures.place ∙ c.unwrap-at.ensures) in
    let at : place ≡ Rattle.std.specs.Prelude.slice_index_or rows c.unwrap-at.result no_row =
    c.index_mut-place.ensures.value ∙ get_or_default rows c.unwrap-at.result place no_row is.within in
    let name : place.name ≡ c.args.name.now = ap (λ (r : NamedRow). r.name) at ∙ is.named in (
      (
        refl,
        λ w. placed-set rows places c.unwrap-at.result (record place { row = w }) c.self.invariant
            (subst (λ (n : RowName). IsPlaceOf rows n c.unwrap-at.result) (sym name) is)
            ∙ ap (λ (n : RowName). insert_entry row_cmp (placed rows places) n w) name
            ∙ ap (λ (l : List (RowName × Contents)). insert_entry row_cmp l c.args.name.now w) c.self.view_is,
      ),
      record {
        lends = tt;
        row = sym (ap (λ (l : List (RowName × Contents)). lookup test l) c.self.view_is)
            ∙ lookup-placed rows places test
            ∙ ap (option_map (row_at rows)) (sym c.place_in.ensures.place ∙ c.unwrap-at.ensures)
            ∙ ap (λ (r : NamedRow). Some r.row) (sym at);
      },
    )
