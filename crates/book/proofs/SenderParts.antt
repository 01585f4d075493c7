-- Whoever sent an id that is pending is a row of a part that is there.
use Rattle.std.proofs.Common.{◌≡◌, ◌<◌, Bool, true, false, cond, List, [], ◌∷◌, fold, refl, sym, subst}
use Rattle.std.specs.Prelude.{All, IfSome, None, Option, Some, unwrap_or}
use Rattle.std.specs.Option.{is_some, option_map_or}
use Rattle.std.specs.BTreeMap.{insert_entry, is_at}
use Rattle.std.specs.List.{AllByRecursion}
use Rattle.std.specs.Map.{lookup}
use Rattle.std.proofs.lemmas.List.Elements.{recursion_from_All}
use Rattle.mw_types.specs.declared.identity.RecordId.{RecordId}
use Rattle.mw_types.specs.declared.identity.RowName.{RowName}
use Rattle.mw_types.specs.declared.entry.Entry.{Entry}
use Rattle.mw_types.specs.Orders.{row_cmp}
use Rattle.topology.specs.Shapes.{Shape, parts_of}
use Rattle.row_parts.specs.Contents.{Contents, fresh, found_delivery}
use Rattle.run_history.specs.Cases.{fresh_of}
use Rattle.run_history.specs.Made.{row_written}
use Rattle.run_history.specs.Printing.{IsOnPart}
use Rattle.run_history.specs.Runs.{Run, empty_run, followed, row_in, run_of}
use Rattle.history_laws.proofs.RowSteps.{made_row, same_row}
use Rattle.book.specs.Senders.{AreSenders, IsPendingIn, sender_of}
use Rattle.book.proofs.Keeping.{each-put}

-- a row is of a part that is there
abbrev IsRowThere : Shape → RowName × Contents → Type 0
IsRowThere shape r = r.0.part < parts_of shape

-- where each entry is on a part that is there, so is each row
rows-there : (shape : Shape) (run : Run) (entries : List Entry) → AllByRecursion (IsRowThere shape) run.rows
    → AllByRecursion (IsOnPart shape) entries → AllByRecursion (IsRowThere shape) (fold (followed shape) run entries).rows
rows-there shape run [] each parts = each
rows-there shape run (entry ∷ entries) each parts =
    rows-there shape (followed shape run entry) entries (by_row (row_written entry) parts.0) parts.1
  where
    by_row : (w : Option RowName) → IfSome w (λ (row : RowName). row.part < parts_of shape)
        → AllByRecursion (IsRowThere shape)
        (option_map_or (λ (n : RowName). insert_entry row_cmp run.rows n (made_row shape run entry n)) w run.rows)
    by_row None part = each
    by_row (Some row) part = each-put (IsRowThere shape) run.rows row (made_row shape run entry row) each part

-- a row that is found is one of the rows
found-there : (shape : Shape) (rows : List (RowName × Contents)) (name : RowName) → AllByRecursion (IsRowThere shape) rows
    → is_some (lookup (is_at (row_cmp name)) rows) ≡ true → name.part < parts_of shape
found-there shape [] name each found = absurd (cc)
found-there shape (r ∷ rows) name each found = by_case (found-there shape rows name each.1) (is_at (row_cmp name) r.0) refl found
  where
    by_case : (is_some (lookup (is_at (row_cmp name)) rows) ≡ true → name.part < parts_of shape) → (b : Bool)
        → is_at (row_cmp name) r.0 ≡ b → is_some (cond b (Some r.1) (lookup (is_at (row_cmp name)) rows)) ≡ true
        → name.part < parts_of shape
    by_case rest true same there = subst (λ (n : RowName). n.part < parts_of shape) (sym (same_row name r.0 same)) each.0
    by_case rest false apart there = rest there

-- what is pending in a row was sent by a row of a part that is there
pending-there : (shape : Shape) (history : List Entry) (id : RecordId) (name : RowName) → All (IsOnPart shape) history
    → IsPendingIn shape (run_of shape history) id name → name.part < parts_of shape
pending-there shape history id name parts pending =
    found-there shape (run_of shape history).rows name
    (rows-there shape empty_run history tt (recursion_from_All (IsOnPart shape) history parts))
    (by_row (row_in (run_of shape history) name) pending)
  where
    by_row : (o : Option Contents) → is_some (found_delivery id (unwrap_or o (fresh (fresh_of shape name.part))).pending) ≡ true
        → is_some o ≡ true
    by_row None found = found
    by_row (Some row) found = refl

-- the same of what is known of senders, as a caller of a book sees it
pub part-found : {N : Type 0} (shape : Shape) (history : List Entry) (sent : List (RecordId × RowName)) (found : Option (RecordId × N))
    (named : N → RowName) → All (IsOnPart shape) history → AreSenders shape (run_of shape history) sent
    → IfSome found (λ p. sender_of sent p.0 ≡ Some (named p.1)) → IfSome found (λ p. (named p.1).part < parts_of shape)
part-found shape history sent None named parts are sender = tt
part-found shape history sent (Some p) named parts are sender =
    pending-there shape history p.0 (named p.1) parts ((are p.0 (named p.1)).0 sender)
