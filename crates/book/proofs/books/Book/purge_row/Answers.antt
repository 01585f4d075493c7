use Rattle.std.proofs.Common.{◌≡◌, ◌∙◌, [], ap, arith, length, refl, subst, sym}
use Rattle.std.proofs.lemmas.Result.{on_ok_weaker}
use Rattle.mw_types.specs.declared.entry.Entry.TheVariants.{Purge}
use Rattle.run_history.specs.Finished.{work_in}
use Rattle.run_history.specs.Runs.{written_row}
use Rattle.book.specs.Appending.{IsNext}
use Rattle.book.specs.Books.{core_of}
use Rattle.book.proofs.SeenRows.{IsNext-purged, IsWritten-result, row-was}
use Rattle.book.proofs.books.Book.purge_row.Goals as goal

-- the entry may come next
pub append_left-done-requires-clause-next : goal.append_left-done-requires-clause-next
append_left-done-requires-clause-next g c =
    let book = c.args.self.now in
    let entry = Purge c.args.lease.now.seq c.args.name.now c.args.floor in
    let left = c.forget.new.row in
    subst (λ n. IsNext book.case (core_of book) c.args.name.now (Purge n c.args.name.now c.args.floor) left) (sym c.seq.ensures)
    (IsNext-purged book c.args.lease.now c.args.front c.args.name.now c.args.row.now left c.args.floor
    c.requires.admitted.lawful c.requires.lease c.requires.row c.requires.floor c.requires.admitted.last c.requires.admitted.room
    (c.in-Ok.ensures.left ∙ ap (λ n. written_row n entry [] c.args.row.now) c.requires.admitted.number))

-- as much work is left as before
pub append_left-done-requires-clause-left : goal.append_left-done-requires-clause-left
append_left-done-requires-clause-left g c =
    let book = c.args.self.now in
    let same : work_in book.case c.args.name.now c.forget.new.row ≡ work_in book.case c.args.name.now c.args.row.now
    = ap (work_in book.case c.args.name.now) c.in-Ok.ensures.left in (
      c.args.row.now,
      (
        row-was book c.args.lease.now c.args.front c.args.name.now c.args.row.now c.requires.admitted.lawful
            c.requires.lease c.requires.row c.requires.admitted.last,
        omega (arith, c.work_now-left.ensures, same),
      ),
    )

-- what was appended is the entry
pub returns-clause-written : goal.returns-clause-written
returns-clause-written g c =
    let book = c.args.self.now in
    let entry = Purge c.args.lease.now.seq c.args.name.now c.args.floor in
    let left = written_row (length book.history) entry [] c.args.row.now in
    let leaves : c.forget.new.row ≡ left
    = c.in-Ok.ensures.left ∙ ap (λ n. written_row n entry [] c.args.row.now) c.requires.admitted.number in
    IsWritten-result book c.append_left-done.new.self c.args.lease.now c.args.name.now entry (Purge c.seq.result c.args.name.now c.args.floor)
    left c.keep_or_put_back.new.row c.append_left-done.result
    (IsNext-purged book c.args.lease.now c.args.front c.args.name.now c.args.row.now left c.args.floor
    c.requires.admitted.lawful c.requires.lease c.requires.row c.requires.floor c.requires.admitted.last c.requires.admitted.room refl)
    c.requires.admitted.last (ap (λ n. Purge n c.args.name.now c.args.floor) c.seq.ensures)
    c.append_left-done.ensures.appended c.append_left-done.ensures.commit
    (on_ok_weaker c.append_left-done.result (λ same. same ∙ leaves) c.keep_or_put_back.ensures.kept)
