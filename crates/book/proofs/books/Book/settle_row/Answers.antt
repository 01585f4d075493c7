use Rattle.std.proofs.Common.{◌++◌, ◌∷◌, ◌∙◌, [], ap, length, refl, subst, sym}
use Rattle.mw_types.specs.declared.entry.Entry.TheVariants.{Ack}
use Rattle.row_parts.specs.Contents.{IsId}
use Rattle.run_history.specs.Runs.{written_row}
use Rattle.book.specs.Answers.{answer_of}
use Rattle.book.specs.Appending.{IsNext}
use Rattle.book.specs.Books.{core_of}
use Rattle.book.specs.declared.settling.Settled.{Settled}
use Rattle.book.proofs.LineLaws.{found-id}
use Rattle.book.proofs.SeenRows.{IsNext-settled, IsWritten-next, row-was}
use Rattle.book.proofs.Settlements.{settled-work}
use Rattle.book.proofs.books.Book.settle_row.Goals as goal

-- the entry may come next
pub append_left-requires-clause-next : goal.append_left-requires-clause-next
append_left-requires-clause-next g c =
    let book = c.args.self.now in
    let entry = Ack c.args.lease.now.seq c.args.name.now c.args.id in
    let left = written_row c.args.commit entry [] c.args.row.now in
    let is : IsId c.args.id = found-id c.args.id c.args.row.now.pending c.sound.ensures.pending.each c.requires.id.pending in
    subst (λ n. IsNext book.case (core_of book) c.args.name.now (Ack n c.args.name.now c.args.id) left) (sym c.seq.ensures)
    (IsNext-settled book c.args.lease.now c.args.front c.args.name.now c.args.row.now left c.args.id
    c.requires.admitted.lawful c.requires.lease c.requires.row c.requires.id c.requires.admitted.last c.requires.admitted.room is
    (ap (λ n. written_row n entry [] c.args.row.now) c.requires.admitted.number))

-- the row that was handed in was the history's
pub append_left-requires-clause-was : goal.append_left-requires-clause-was
append_left-requires-clause-was g c =
    row-was c.args.self.now c.args.lease.now c.args.front c.args.name.now c.args.row.now c.requires.admitted.lawful
    c.requires.lease c.requires.row c.requires.admitted.last

-- one delivery less is pending
pub append_left-requires-clause-left : goal.append_left-requires-clause-left
append_left-requires-clause-left g c =
    let book = c.args.self.now in
    let settled : Settled = record { id = c.args.id; commit = c.args.commit } in (
      c.args.row.now,
      (
        row-was book c.args.lease.now c.args.front c.args.name.now c.args.row.now c.requires.admitted.lawful
            c.requires.lease c.requires.row c.requires.admitted.last,
        c.work_less-left.ensures
            ∙ settled-work book.case c.args.name.now c.args.row.now settled book.work c.sound.ensures.pending c.requires.id.pending,
      ),
    )

-- what was appended is the entry
pub returns-in-Ok-clause-written : goal.returns-in-Ok-clause-written
returns-in-Ok-clause-written g c =
    let book = c.args.self.now in
    let entry = Ack c.args.lease.now.seq c.args.name.now c.args.id in
    let left = written_row (length book.history) entry [] c.args.row.now in
    let is : IsId c.args.id = found-id c.args.id c.args.row.now.pending c.sound.ensures.pending.each c.requires.id.pending in
    let number = ap (λ n. written_row n entry [] c.args.row.now) c.requires.admitted.number in
    IsWritten-next book c.append_left.new.self c.args.lease.now c.args.name.now entry left
    (answer_of c.in-Ok.commit c.take_settled.new.row)
    (IsNext-settled book c.args.lease.now c.args.front c.args.name.now c.args.row.now left c.args.id
    c.requires.admitted.lawful c.requires.lease c.requires.row c.requires.id c.requires.admitted.last c.requires.admitted.room is refl)
    c.requires.admitted.last
    (c.in-Ok.ensures.appended ∙ ap (λ n. book.history ++ Ack n c.args.name.now c.args.id ∷ []) c.seq.ensures)
    c.in-Ok.ensures.commit
    (c.take_settled.ensures ∙ number)
