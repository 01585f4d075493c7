-- What a keeper of rows has to hold after a history. Own.
use Rattle.std.specs.Prelude.{ℕ, List, map}
use Rattle.mw_types.specs.declared.identity.RowName.{RowName}
use Rattle.row_parts.specs.Contents.{Contents}
use Rattle.row_parts.specs.Spelling.{spelling_of}
use Rattle.run_history.specs.Runs.{Run}

-- each row that an entry is on, with its bytes, in the order of the names
abbrev pub stored_rows : Run → List (RowName × List ℕ)
stored_rows run = map (λ (r : RowName × Contents). (r.0, spelling_of r.1)) run.rows
