use Rattle.std.proofs.Common.{◌∙◌, ap, sym}
use Rattle.std.specs.BTreeMap.{is_at}
use Rattle.std.specs.Map.{set_value}
use Rattle.std.proofs.lemmas.Map.Steps.{set_value_same}
use Rattle.std.proofs.lemmas.Result.{on_ok_weaker, on_err_weaker}
use Rattle.mw_types.specs.Orders.{row_cmp}
use Rattle.row_keeper.proofs.Overwritten.{row_put}
use Rattle.row_keeper.proofs.mem_keeper.keep.Goals as goal

-- the row's bytes are the new ones
pub returns-in-Some-clause-held : goal.returns-in-Some-clause-held
returns-in-Some-clause-held c =
    let rows = c.args.rows.now.entries in
    let name = c.args.name.now in
    let over = (c.get_mut.follows.holds c.put_over.new.held).0 in
    on_ok_weaker c.put_over.result
    (λ put. over ∙ ap (set_value (is_at (row_cmp name)) rows) put
    ∙ row_put rows name c.in-Some.held.now c.args.bytes.now c.get_mut.ensures.ordered (sym c.in-Some.ensures.value))
    c.put_over.ensures.put

-- or those that it had
pub returns-in-Some-clause-unchanged : goal.returns-in-Some-clause-unchanged
returns-in-Some-clause-unchanged c =
    let rows = c.args.rows.now.entries in
    let name = c.args.name.now in
    let over = (c.get_mut.follows.holds c.put_over.new.held).0 in
    on_err_weaker c.put_over.result
    (λ kept. over ∙ ap (set_value (is_at (row_cmp name)) rows) kept
    ∙ set_value_same (is_at (row_cmp name)) rows c.in-Some.held.now (sym c.in-Some.ensures.value))
    c.put_over.ensures.unchanged
