use Rattle.std.proofs.Common.{◌≡◌, ◌++◌, ◌∙◌, List, ap, rules, subst, sym}
use Rattle.std.specs.Prelude.{option_map}
use Rattle.mw_types.specs.declared.delivery.Delivery.{Delivery}
use Rattle.row_parts.specs.Contents.{IsRow, without_delivery}
use Rattle.row_parts.specs.Spelling.{IsSpelledRow, spelling_of}
use Rattle.row_keeper.specs.Rows.{with_row}
use Rattle.book.proofs.Settlements.{IsRow-settled}
use Rattle.book.proofs.Stores.{settled-edit}
use Rattle.book.proofs.storing.store_settled.Goals as goal

-- the row that is left can be kept
pub edit-requires-clause-row : goal.edit-requires-clause-row
edit-requires-clause-row g c =
    let row = c.args.row.now in
    let slice : c.as_slice.result.now ≡ row.pending = search rules in
    let same : c.parted.result.0.now ++ c.parted.result.2.now ≡ without_delivery c.args.settled.id row.pending
    = c.parted.ensures.left ∙ ap (without_delivery c.args.settled.id) slice in
    subst (λ (ds : List Delivery). IsRow (record row { pending = ds; last = c.args.settled.commit })) (sym same)
    (IsRow-settled row c.args.settled (subst IsRow c.row.view_is c.row.invariant) c.requires.below)

-- its delivery is cut out of the bytes of the row
pub edit-requires-clause-held : goal.edit-requires-clause-held
edit-requires-clause-held g c =
    let row = c.args.row.now in
    let slice : c.as_slice.result.now ≡ row.pending = search rules in
    settled-edit _ c.args.name.now row c.args.settled.commit c.parted.result.0.now c.parted.result.1.now c.parted.result.2.now
    (sym slice ∙ c.parted.ensures.whole) c.requires.held

-- and that is the row that is left
pub returns-clause-stored : goal.returns-clause-stored
returns-clause-stored g c = λ done.
    let row = c.args.row.now in
    let slice : c.as_slice.result.now ≡ row.pending = search rules in
    let same : c.parted.result.0.now ++ c.parted.result.2.now ≡ without_delivery c.args.settled.id row.pending
    = c.parted.ensures.left ∙ ap (without_delivery c.args.settled.id) slice in
    subst (λ (ds : List Delivery). g.K.Keeper.rows c.edit.new.keeper ≡ option_map (with_row c.args.name.now (spelling_of
    (record row { pending = ds; last = c.args.settled.commit }))) (g.K.Keeper.rows c.args.keeper.now)) same (c.edit.ensures.stored done)

pub returns-clause-own : goal.returns-clause-own
returns-clause-own g c = λ done.
    let row = c.args.row.now in
    let slice : c.as_slice.result.now ≡ row.pending = search rules in
    let same : c.parted.result.0.now ++ c.parted.result.2.now ≡ without_delivery c.args.settled.id row.pending
    = c.parted.ensures.left ∙ ap (without_delivery c.args.settled.id) slice in
    subst (λ (ds : List Delivery). IsSpelledRow (record row { pending = ds; last = c.args.settled.commit })) same
    (c.edit.ensures.own done)
