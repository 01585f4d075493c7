use Rattle.std.proofs.Common.{◌≡◌, ◌+◌, ◌++◌, ◌∙◌, ap, ap₂, drop, length, refl, sym, take}
use Rattle.std.proofs.Math.Seq.{drop-append_seam, take-append_seam}
use Rattle.record_codec.specs.Edits.{deliveries_spelling}
use Rattle.book.specs.Storing.{head_of, row_of_pieces}
use Rattle.book.proofs.Stores.{edit-stored}
use Rattle.book.proofs.storing.edit.Goals as goal

-- what is put is the row's head and its new deliveries
pub returns-in-Ok-clause-stored : goal.returns-in-Ok-clause-stored
returns-in-Ok-clause-stored g c = λ done.
    let p = c.args.pieces.now in
    let left = row_of_pieces c.args.last p.front.now p.new.now p.behind.now c.args.row.now in
    let new = deliveries_spelling p.new.now in
    let bytes = c.as_slice.result.now in
    let whole : bytes ≡ head_of left ++ new =
    ◌∙◌ {c = head_of left ++ new} c.as_slice.ensures.elements c.in-Ok.ensures.spelled in
    let long : c.in-Ok.head ≡ length (head_of left) = c.in-Ok.ensures.head in
    let head : take c.in-Ok.head bytes ≡ head_of left = ap₂ take long whole ∙ take-append_seam (head_of left) new in
    let rest : drop c.in-Ok.head bytes ≡ new = ap₂ drop long whole ∙ drop-append_seam (head_of left) new in
    edit-stored c.args.name.now left p.front.now p.gone.now p.new.now p.behind.now _ _ (take c.in-Ok.head bytes)
    (drop c.in-Ok.head bytes) (c.in-Ok.head + length (deliveries_spelling p.front.now))
    (length (deliveries_spelling p.gone.now)) refl c.requires.held (c.edit_behind-done.ensures.there done) head
    (ap (λ n. n + length (deliveries_spelling p.front.now)) (long ∙ sym (ap length head))) refl rest
    (c.edit_behind-done.ensures.edited done)
