use Rattle.std.proofs.Common.{◌≡◌, ◌++◌, ◌∙◌, [], ap, rules}
use Rattle.std.specs.Prelude.{option_map}
use Rattle.row_parts.specs.Contents.{Contents}
use Rattle.row_parts.specs.Spelling.{spelling_of}
use Rattle.row_keeper.specs.Rows.{with_row}
use Rattle.book.proofs.storing.store_grown.Goals as goal

-- those in front and those behind are all of the row
pub returns-clause-stored : goal.returns-clause-stored
returns-clause-stored g c = λ done.
    let row = c.args.row.now in
    let all : c.split_at.result.0.now ++ (c.split_at.result.1.now ++ []) ≡ row.pending = search rules in
    let last : c.row.inside.last ≡ row.last = ap (λ (r : Contents). r.last) c.row.view_is in
    c.edit.ensures.stored done ∙ (λ i. option_map (with_row c.args.name.now (spelling_of (record row { pending = all i; last = last i })))
    (g.K.Keeper.rows c.args.keeper.now))
