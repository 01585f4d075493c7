use Rattle.std.proofs.Common.{subst, sym}
use Rattle.std.specs.Prelude.{Ok, option_copied}
use Rattle.mw_types.specs.Orders.{row_cmp}
use Rattle.history_laws.proofs.RowSteps.{same_row}
use Rattle.holdings.specs.Dues.{due_name, due_of, due_order}
use Rattle.holdings.specs.Indexes.{IsIndexOf}
use Rattle.holdings.specs.Seens.{own_name, seen_of}
use Rattle.holdings.proofs.DueLaws.{due_placed, due_tie}
use Rattle.holdings.proofs.KeyLaws.{keys-there}
use Rattle.holdings.proofs.SeenLaws.{seen_placed}
use Rattle.holdings.proofs.StampLaws.{index-put, index-there, stamp-held}
use Rattle.holdings.proofs.index.changed.Goals as goal

-- the stamp of the row that was there is kept
pub put-requires-clause-held : goal.put-requires-clause-held
put-requires-clause-held c =
    let index : IsIndexOf c.args.rows.now c.deref_mut.result.now = subst (IsIndexOf c.args.rows.now) (sym c.deref_mut.ensures.value)
    (index-there c.args.rows.now c.args.index c.in-Some.index c.in-Some.is c.requires.index) in
    stamp-held c.args.rows.now c.args.name.now (option_copied c.get.result) c.deref_mut.result.now.work index.work c.get.ensures

-- and so is its first timer
pub put-requires-clause-due : goal.put-requires-clause-due
put-requires-clause-due c =
    let index : IsIndexOf c.args.rows.now c.deref_mut.result.now = subst (IsIndexOf c.args.rows.now) (sym c.deref_mut.ensures.value)
    (index-there c.args.rows.now c.args.index c.in-Some.index c.in-Some.is c.requires.index) in
    keys-there due_order due_name due_of due_placed due_tie c.args.rows.now c.args.name.now (option_copied c.get.result)
    c.deref_mut.result.now.dues.entries index.dues c.get.ensures

-- and its name, where it had seen ids
pub put-requires-clause-named : goal.put-requires-clause-named
put-requires-clause-named c =
    let index : IsIndexOf c.args.rows.now c.deref_mut.result.now = subst (IsIndexOf c.args.rows.now) (sym c.deref_mut.ensures.value)
    (index-there c.args.rows.now c.args.index c.in-Some.index c.in-Some.is c.requires.index) in
    keys-there row_cmp own_name seen_of seen_placed same_row c.args.rows.now c.args.name.now (option_copied c.get.result)
    c.deref_mut.result.now.seen.entries index.seen c.get.ensures

-- the index is that of the rows, once the row is put
pub returns-in-Ok : goal.returns-in-Ok
returns-in-Ok c =
    let index : IsIndexOf c.args.rows.now c.deref_mut.result.now = subst (IsIndexOf c.args.rows.now) (sym c.deref_mut.ensures.value)
    (index-there c.args.rows.now c.args.index c.in-Some.index c.in-Some.is c.requires.index) in
    index-put c.args.rows.now c.args.name.now c.args.row.now (option_copied c.get.result) c.deref_mut.result.now (Ok c.put.new.self)
    c.requires.ordered index c.get.ensures c.in-Ok.ensures.work c.in-Ok.ensures.dues c.in-Ok.ensures.seen
