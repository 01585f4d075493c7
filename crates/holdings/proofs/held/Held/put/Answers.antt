use Rattle.std.proofs.Common.{◌≡◌, ◌∙◌, ap, List, subst, sym}
use Rattle.std.specs.Prelude.{IfErr, Some}
use Rattle.std.specs.Option.{is_some}
use Rattle.std.specs.List.Sorted.{IsStrictlySortedBy}
use Rattle.std.specs.Map.{keys_of}
use Rattle.std.specs.BTreeMap.{insert_entry}
use Rattle.mw_types.specs.Orders.{row_cmp}
use Rattle.mw_types.specs.declared.identity.RowName.{RowName}
use Rattle.row_parts.specs.Contents.{Contents}
use Rattle.run_history.specs.Runs.{cached, row_in}
use Rattle.book.specs.Answers.{answer_of}
use Rattle.book.specs.Books.{LeaseView}
use Rattle.book.specs.DeskReasons.{HasReason}
use Rattle.book.specs.Desking.{IsRowKnown, MayAsk}
use Rattle.book.specs.Writings.{HasPut, MayPut}
use Rattle.holdings.specs.Holding.{HeldView}
use Rattle.holdings.proofs.HeldRows.{found-put}
use Rattle.holdings.proofs.HeldSteps.{so-there}
use Rattle.holdings.proofs.PutRows.{IsRewritten-put, WasNoted-put, held-refused}
use Rattle.holdings.proofs.held.Held.put.Goals as goal

-- the row that is lent is the one that is known
pub put-written-requires : goal.put-written-requires
put-written-requires g c =
    let desk = g.D.Desk.view c.args.desk.now in
    let lease : c.self.inside.lease ≡ c.args.self.now.lease = ap (λ (h : HeldView). h.lease) c.self.view_is in
    let was : row_in (cached c.args.self.now.rows) c.args.name.now ≡ Some c.row_mut-row.result.now =
    ap (λ (l : List (RowName × Contents)). row_in (cached l) c.args.name.now)
    (sym (c.note-index.ensures.same ∙ ap (λ (h : HeldView). h.rows) c.self.view_is)) ∙ c.row_mut-row.ensures.row in record {
      lease = subst (λ (l : LeaseView). MayAsk desk l c.args.name.now) (sym lease) c.requires.lease;
      row = subst (λ (l : LeaseView). IsRowKnown desk l c.args.name.now c.row_mut-row.result.now) (sym lease)
          (so-there (IsRowKnown desk c.args.self.now.lease c.args.name.now) (row_in (cached c.args.self.now.rows) c.args.name.now)
          c.row_mut-row.result.now was c.requires.row);
      may = so-there (λ (r : Contents). MayPut desk c.args.name.now r c.args.writing)
          (row_in (cached c.args.self.now.rows) c.args.name.now) c.row_mut-row.result.now was c.requires.may;
    }

-- the row is still cached, and was noted
pub reindex-requires : goal.reindex-requires
reindex-requires g c = record {
  there = ap is_some (found-put c.note-index.new.self c.args.name.now c.put-written.new.row);
  noted = WasNoted-put c.args.name.now c.self.inside.rows c.note-index.new.self c.put-written.new.row c.note-index.result.0 c.note-index.result.1
      c.note-index.ensures.same c.note-index.ensures.noted;
}

-- a row that was written is held
pub returns-clause-put : goal.returns-clause-put
returns-clause-put g c =
    let old = g.D.Desk.view c.args.desk.now in
    let new = g.D.Desk.view c.put-written.new.self in
    let rows : c.note-index.new.self ≡ c.args.self.now.rows = c.note-index.ensures.same ∙ ap (λ (h : HeldView). h.rows) c.self.view_is in
    IsRewritten-put c.args.self.now c.args.name.now c.row_mut-row.result.now c.put-written.new.row c.self.inside.lease c.reindex.new.self
    c.put-written.result (ap (λ (h : HeldView). h.lease) c.self.view_is)
    (ap (λ (l : List (RowName × Contents)). row_in (cached l) c.args.name.now) (sym rows) ∙ c.row_mut-row.ensures.row)
    (c.reindex.ensures.same ∙ ap (λ (l : List (RowName × Contents)). insert_entry row_cmp l c.args.name.now c.put-written.new.row) rows)
    (λ (lease : LeaseView) (row left : Contents) commit. HasPut old new lease c.args.name.now c.args.writing row (answer_of commit left))
    c.put-written.ensures.put

-- a refusal leaves what is held
pub returns-clause-kept : goal.returns-clause-kept
returns-clause-kept g c =
    let rows : c.note-index.new.self ≡ c.args.self.now.rows = c.note-index.ensures.same ∙ ap (λ (h : HeldView). h.rows) c.self.view_is in
    held-refused c.args.self.now c.args.name.now c.row_mut-row.result.now c.put-written.new.row c.self.inside.lease c.reindex.new.self
    c.put-written.result (ap (λ (h : HeldView). h.lease) c.self.view_is)
    (ap (λ (l : List (RowName × Contents)). row_in (cached l) c.args.name.now) (sym rows) ∙ c.row_mut-row.ensures.row)
    (c.reindex.ensures.same ∙ ap (λ (l : List (RowName × Contents)). insert_entry row_cmp l c.args.name.now c.put-written.new.row) rows)
    (subst (λ (h : HeldView). IsStrictlySortedBy row_cmp (keys_of h.rows)) c.self.view_is c.note-index.ensures.noted.ordered)
    c.put-written.ensures.row

-- the reason is by the lease that is held
pub returns-clause-reason : goal.returns-clause-reason
returns-clause-reason g c = subst (λ (l : LeaseView). IfErr c.put-written.result
    (HasReason (g.D.Desk.view c.args.desk.now) (g.D.Desk.view c.put-written.new.self) l))
    (ap (λ (h : HeldView). h.lease) c.self.view_is) c.put-written.ensures.reason
