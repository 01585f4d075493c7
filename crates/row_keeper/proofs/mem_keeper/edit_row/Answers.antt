use Rattle.std.proofs.Common.{◌∙◌, ap, sym}
use Rattle.std.specs.BTreeMap.{is_at}
use Rattle.std.specs.Map.{set_value}
use Rattle.std.proofs.lemmas.Map.Steps.{set_value_same}
use Rattle.std.proofs.lemmas.Result.{on_ok_weaker, on_err_weaker}
use Rattle.mw_types.specs.Orders.{row_cmp}
use Rattle.row_keeper.specs.Rows.{edited}
use Rattle.row_keeper.proofs.Edited.{with_edit-there}
use Rattle.row_keeper.proofs.Overwritten.{row_put}
use Rattle.row_keeper.proofs.mem_keeper.edit_row.Goals as goal

-- the row's bytes are the edited ones
pub returns-in-Some-clause-edited : goal.returns-in-Some-clause-edited
returns-in-Some-clause-edited c =
    let rows = c.args.rows.now.entries in
    let name = c.args.name.now in
    let was = c.in-Some.held.now in
    let there = sym c.in-Some.ensures.value in
    let over = (c.get_mut.follows.holds c.edit_held.new.held).0 in
    on_ok_weaker c.edit_held.result
    (λ done. over ∙ ap (set_value (is_at (row_cmp name)) rows) done
    ∙ row_put rows name was (edited c.args.head.now c.args.at c.args.gone c.args.put.now was) c.get_mut.ensures.ordered there
    ∙ sym (with_edit-there name c.args.head.now was c.args.put.now c.args.at c.args.gone rows there))
    c.edit_held.ensures.edited

-- or those that it had
pub returns-in-Some-clause-unchanged : goal.returns-in-Some-clause-unchanged
returns-in-Some-clause-unchanged c =
    let rows = c.args.rows.now.entries in
    let name = c.args.name.now in
    let over = (c.get_mut.follows.holds c.edit_held.new.held).0 in
    on_err_weaker c.edit_held.result
    (λ kept. over ∙ ap (set_value (is_at (row_cmp name)) rows) kept
    ∙ set_value_same (is_at (row_cmp name)) rows c.in-Some.held.now (sym c.in-Some.ensures.value))
    c.edit_held.ensures.unchanged
