use Rattle.std.proofs.Common.{◌≡◌, ◌∙◌, ◌++◌, ◌∷◌, [], ℕ, ap, sym, subst, List, length}
use Rattle.std.specs.Prelude.{None}
use Rattle.std.specs.Map.{lookup}
use Rattle.std.specs.BTreeMap.{insert_entry, is_at}
use Rattle.mw_types.specs.Orders.{row_cmp}
use Rattle.mw_types.specs.declared.identity.RowName.{RowName}
use Rattle.row_parts.specs.Contents.{Contents}
use Rattle.book.specs.declared.answers.NamedRow.{NamedRow}
use Rattle.holdings.specs.Slots.{AreSlots, placed}
use Rattle.holdings.proofs.SlotLaws.{no_place, placed-add, slots-add}
use Rattle.holdings.proofs.slots.Slots.add.Goals as goal

-- the places of the names, with one more
pub invariant_of-self : goal.invariant_of-self
invariant_of-self c =
    let rows = c.self.inside.rows.items in
    let places = c.self.inside.places.entries in
    let row : NamedRow = record { name = c.args.name; row = c.args.row } in
    let none : lookup (is_at (row_cmp c.args.name)) places ≡ None = no_place rows places c.args.name
    (ap (λ (l : List (RowName × Contents)). lookup (is_at (row_cmp c.args.name)) l) c.self.view_is ∙ c.requires.new) in
    let rows_now : c.push_reserved.new.self.items ≡ rows ++ row ∷ [] =
    c.push_reserved.ensures.items ∙ ap (λ (l : List NamedRow). l ++ row ∷ []) c.in-Ok.ensures.rows in
    let entries : c.add_place.new.places.entries ≡ insert_entry row_cmp places c.args.name (length rows) =
    c.in-Ok.ensures.places
    ∙ ap (λ (n : ℕ). insert_entry row_cmp places c.args.name n) (c.count-at.ensures ∙ ap length c.deref.ensures.value) in
    subst (λ (l : List NamedRow). AreSlots l c.add_place.new.places.entries) (sym rows_now)
    (subst (λ (es : List (RowName × ℕ)). AreSlots (rows ++ row ∷ []) es) (sym entries) (slots-add rows places row c.self.invariant none))

-- a row at a new place is put among all
pub returns-in-Ok-clause-entries : goal.returns-in-Ok-clause-entries
returns-in-Ok-clause-entries c =
    let rows = c.self.inside.rows.items in
    let places = c.self.inside.places.entries in
    let row : NamedRow = record { name = c.args.name; row = c.args.row } in
    let rows_now : c.push_reserved.new.self.items ≡ rows ++ row ∷ [] =
    c.push_reserved.ensures.items ∙ ap (λ (l : List NamedRow). l ++ row ∷ []) c.in-Ok.ensures.rows in
    let entries : c.add_place.new.places.entries ≡ insert_entry row_cmp places c.args.name (length rows) =
    c.in-Ok.ensures.places
    ∙ ap (λ (n : ℕ). insert_entry row_cmp places c.args.name n) (c.count-at.ensures ∙ ap length c.deref.ensures.value) in
    ap (λ (l : List NamedRow). placed l c.add_place.new.places.entries) rows_now
    ∙ ap (placed (rows ++ row ∷ [])) entries
    ∙ placed-add rows places row c.self.invariant
    ∙ ap (λ (l : List (RowName × Contents)). insert_entry row_cmp l c.args.name c.args.row) c.self.view_is
