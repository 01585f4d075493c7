use Rattle.std.proofs.Common.{◌-◌, ◌+◌, ap, ◌∙◌}
use Rattle.run_history.specs.Finished.{work_in}
use Rattle.book.proofs.books.Book.append_row.Goals as goal

-- so much work is left after the row of the history
pub append_left-requires-clause-left : goal.append_left-requires-clause-left
append_left-requires-clause-left g c =
    let book = c.args.self.now in (
      c.requires.was.0,
      (
        c.requires.was.1.0,
        c.in-Ok.ensures ∙ ap (λ gone. (book.work + work_in book.case c.args.name.now c.args.row.now) - gone) c.requires.was.1.1,
      ),
    )
