-- What a lying keeper shows of an interval, by the rows that it has.
use Rattle.std.proofs.Common.{◌≡◌, ◌∙◌, List, ℕ, map, filter, true, ap, sym}
use Rattle.std.specs.List.{All}
use Rattle.list_lemmas.proofs.Filters.{filter-map}
use Rattle.mw_types.specs.declared.identity.RowName.{RowName}
use Rattle.key_intervals.specs.declared.bounds.Bounds.{Bounds}
use Rattle.key_intervals.specs.Intervals.{covers, rows_covered}
use Rattle.row_keeper.specs.Rows.{AreInOrder, entry_of}
use Rattle.row_keeper.specs.declared.keeper.KeptRow.{KeptRow}
use Rattle.row_keeper.proofs.Answered.{found_covered, found_ascending}

-- the rows that an interval has of a keeper's are, by name and bytes, those that it has of theirs
shown_within : (b : Bounds) (rows found : List KeptRow) → found ≡ filter (λ (row : KeptRow). covers b row.name) rows
    → map entry_of found ≡ rows_covered b (map entry_of rows)
shown_within b rows found e =
    ap (map entry_of) e ∙ sym (filter-map (λ (row : RowName × List ℕ). covers b row.0) entry_of rows)

-- they lie in the interval
pub lying_covered : (b : Bounds) (rows found : List KeptRow) → found ≡ filter (λ (row : KeptRow). covers b row.name) rows
    → All (λ (row : KeptRow). covers b row.name ≡ true) found
lying_covered b rows found e = found_covered b found (map entry_of rows) (shown_within b rows found e)

-- they stand in order, as all that the keeper has do
pub lying_ascending : (b : Bounds) (rows found : List KeptRow) → AreInOrder (map entry_of rows)
    → found ≡ filter (λ (row : KeptRow). covers b row.name) rows → AreInOrder (map entry_of found)
lying_ascending b rows found o e = found_ascending b found (map entry_of rows) o (shown_within b rows found e)
