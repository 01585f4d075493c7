use Rattle.std.proofs.Common.{◌∙◌, ap, subst, sym, ◌≡◌}
use Rattle.row_parts.specs.Spelling.{spelling_of}
use Rattle.row_keeper.specs.Rows.{with_row}
use Rattle.run_history.specs.Runs.{Run, run_of, row_of}
use Rattle.run_history.proofs.RunLaws.{run_of-push}
use Rattle.run_history.specs.Stored.{stored_rows}
use Rattle.history_laws.proofs.LowLaws.{rows-in_order}
use Rattle.history_laws.proofs.StoredLaws.{stored_rows-followed, stored_rows-kept, stored_rows-at, stored_rows-in_order}
use Rattle.history_laws.proofs.stored.one_row_is_stored_anew.Goals as goal

pub returns : goal.returns
returns c = record {
  written = λ shape history entry name written.
      subst (λ (r : Run). stored_rows r ≡ with_row name (spelling_of (row_of shape r name)) (stored_rows (run_of shape history)))
      (sym (run_of-push shape history entry))
      (stored_rows-followed shape (run_of shape history) entry name written);
  claimed = λ shape history entry none. ap stored_rows (run_of-push shape history entry)
      ∙ stored_rows-kept shape (run_of shape history) entry none;
  at_name = λ shape history name. stored_rows-at (run_of shape history) name;
  in_order = λ shape history. stored_rows-in_order (run_of shape history) (rows-in_order shape history);
}
