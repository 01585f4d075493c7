-- The own work of an interval that is held is that of what is known under its lease.
use Rattle.std.proofs.Common.{◌≡◌, ℕ, true, cond, List, [], ◌∷◌, ◌++◌, refl, sym, ◌∙◌, ap, arith}
use Rattle.std.specs.Prelude.{min, Some, IfSome, slice_get}
use Rattle.std.specs.List.{flat_map}
use Rattle.list_lemmas.proofs.Told.{if-same}
use Rattle.mw_types.specs.declared.identity.RowName.{RowName}
use Rattle.key_intervals.specs.declared.bounds.Bounds.{Bounds}
use Rattle.key_intervals.specs.Intervals.{covers}
use Rattle.topology.specs.Rules.{IsTopology}
use Rattle.row_parts.specs.Contents.{Contents}
use Rattle.run_history.specs.Cases.{CaseShape, intervals_of, is_injector}
use Rattle.run_history.specs.Fences.{interval_of, known}
use Rattle.run_history.specs.Marks.{own_work, row_marks, stated_marks}
use Rattle.run_history.specs.Runs.{cached, run_of}
use Rattle.run_history.specs.Watermarks.{least, source_mark}
use Rattle.run_history.proofs.IntervalLaws.{are-intervals, has-interval_of, interval_of-has}
use Rattle.list_lemmas.proofs.Lists.{some_same}
use Rattle.history_laws.proofs.LowLaws.{least-end, rows-in_order}
use Rattle.history_laws.proofs.KnownLaws.{has-own_row}
use Rattle.book.specs.Desks.{DeskView}
use Rattle.holdings.specs.Holding.{HeldView, IsHeld}
use Rattle.holdings.proofs.HeldRows.{AreKnown}
use Rattle.holdings.proofs.WorkLaws.{covered-all, least-append, own_work-cached}

-- ---- by the rows that are cached

-- the oldest work of rows, and what an injector's file states
pub own-stated : (case : CaseShape) (rows : List (RowName × Contents)) (part oldest stated : ℕ) → is_injector case.topology part ≡ true
    → oldest ≡ least (flat_map (λ (r : RowName × Contents). row_marks r.1) rows) → stated ≡ source_mark case (cached rows) part
    → min oldest stated ≡ least (flat_map (λ (r : RowName × Contents). row_marks r.1) rows ++ stated_marks case (cached rows) part)
own-stated case rows part oldest stated is work mark =
    let marks = flat_map (λ (r : RowName × Contents). row_marks r.1) rows in
    let whole = least-append marks (source_mark case (cached rows) part ∷ []) in
    let end = least-end marks in
    let same : least (marks ++ stated_marks case (cached rows) part) ≡ least (marks ++ source_mark case (cached rows) part ∷ []) =
    ap (λ b. least (marks ++ cond b (source_mark case (cached rows) part ∷ []) [])) is in
    omega (arith, whole, end, same, work, mark)

module _ (case : CaseShape) (desk : DeskView) (interval : ℕ) (held : HeldView) (bounds : Bounds) (fits : IsHeld case desk interval held)
    (at : slice_get (intervals_of case.topology) interval ≡ Some bounds) where
  -- a row that lies in the interval of the lease is covered
  covered-held : (name : RowName) → interval_of case.topology name ≡ Some held.lease.interval → covers bounds name ≡ true
  covered-held name lies =
      let has = interval_of-has case.topology interval name (lies ∙ ap Some fits.of_interval) in
      ap (λ (b : Bounds). covers b name) (some_same bounds has.0 (sym at ∙ has.1)) ∙ has.2

  -- the own work by all rows that are cached is that of the interval
  pub own_work-held : (own : ℕ)
      → own ≡ least (flat_map (λ (r : RowName × Contents). row_marks r.1) held.rows ++ stated_marks case (cached held.rows) bounds.part)
      → own ≡ own_work case (cached held.rows) bounds
  own_work-held own is = is
      ∙ ap (λ (rows : List (RowName × Contents)). least (flat_map (λ (r : RowName × Contents). row_marks r.1) rows
      ++ stated_marks case (cached held.rows) bounds.part))
      (sym (covered-all bounds held.rows fits.rows.ordered (λ name there. covered-held name (fits.rows.within name there))))

  -- and that of what is known under the lease, where that is told
  pub own_work-known : IsTopology case.topology → (own : ℕ) → own ≡ own_work case (cached held.rows) bounds
      → IfSome desk.told (λ _. own ≡ own_work case (run_of case.topology (known held.lease.interval held.lease.seq desk.seen)) bounds)
  own_work-known rules own is =
      let seen = known held.lease.interval held.lease.seq desk.seen in
      if-same desk.told desk.told (AreKnown case desk.seen held) (own ≡ own_work case (run_of case.topology seen) bounds) refl
      (λ each. is ∙ own_work-cached case held.rows (run_of case.topology seen) bounds (record { sorted = fits.rows.ordered })
      (rows-in_order case.topology seen)
      (λ name has. each name (has-interval_of case.topology interval name (are-intervals case.topology rules) (bounds, at, has)
      ∙ ap Some (sym fits.of_interval)))
      (has-own_row case.topology interval bounds at))
      fits.rows.known
