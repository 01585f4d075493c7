-- What is held fits its desk after a claim.
use Rattle.std.proofs.Common.{◌≡◌, ◌≢◌, ℕ, true, false, cond, List, [], ◌∷◌, ◌++◌, length, map, refl, sym, ◌∙◌, ap, subst, length-append, append_assoc}
use Rattle.std.specs.Prelude.{IsSome, Option, Some, slice_get, unwrap_or}
use Rattle.std.specs.List.{AllByRecursion}
use Rattle.std.specs.List.Sorted.{IsStrictlySortedBy}
use Rattle.std.specs.Map.{keys_of, lookup}
use Rattle.std.specs.BTreeMap.{is_at}
use Rattle.std.proofs.lemmas.Bool.{eq-eqb}
use Rattle.std.proofs.lemmas.List.Elements.{All-append, All-from_recursion, recursion_from_All}
use Rattle.std.proofs.lemmas.Map.Entries.{lookup-filter-keys}
use Rattle.list_lemmas.proofs.Told.{if-same}
use Rattle.mw_types.specs.Orders.{row_cmp}
use Rattle.mw_types.specs.declared.identity.RowName.{RowName}
use Rattle.mw_types.specs.declared.entry.Entry.{Entry}
use Rattle.mw_types.specs.declared.entry.Entry.TheVariants.{Claim}
use Rattle.key_intervals.specs.declared.bounds.Bounds.{Bounds}
use Rattle.key_intervals.specs.Intervals.{covers, rows_covered}
use Rattle.topology.specs.Rules.{IsTopology}
use Rattle.row_parts.specs.Contents.{Contents, fresh}
use Rattle.run_history.specs.Cases.{CaseShape, fresh_of, intervals_of}
use Rattle.run_history.specs.Runs.{Run, row_in, row_of, run_of}
use Rattle.run_history.specs.Fences.{IsFenced, interval_of, known, last_claim, sequencer_of}
use Rattle.run_history.specs.Fits.{fits}
use Rattle.run_history.proofs.Claims.{last_claim-push}
use Rattle.run_history.proofs.Fitting.{fits-fresh, fits-later}
use Rattle.run_history.proofs.IntervalLaws.{are-intervals, has-interval_of, interval_of-has}
use Rattle.run_history.proofs.Known.{known-last}
use Rattle.list_lemmas.proofs.Lists.{none_some, some_same}
use Rattle.run_history.proofs.RunLaws.{run_of-push}
use Rattle.history_laws.proofs.RowSteps.{row_in-elsewhere, same_row}
use Rattle.book.specs.Books.{LeaseView}
use Rattle.book.specs.Claims.{AreRowsOf, named}
use Rattle.book.specs.Desking.{HasClaimed}
use Rattle.book.specs.Desks.{DeskView, IsSound}
use Rattle.book.specs.declared.answers.Claimed.{Claimed}
use Rattle.book.specs.declared.answers.NamedRow.{NamedRow}
use Rattle.holdings.specs.Holding.{AreAllHeld, AreRowsHeld, HeldView, KeepsOthers, held_at, row_held}
use Rattle.holdings.proofs.HeldRows.{AreKnown, AreRowsHeld-more}
use Rattle.holdings.proofs.HeldSteps.{AreAllHeld-here}

-- what holds of each row that was answered, and of a fresh one, holds of the one that is found under a name
found-each : (P : RowName → Contents → Type 0) (name : RowName) (d : Contents) (rows : List NamedRow)
    → AllByRecursion (λ (r : NamedRow). P r.name r.row) rows → P name d
    → P name (unwrap_or (lookup (is_at (row_cmp name)) (map named rows)) d)
found-each P name d [] each none = none
found-each P name d (r ∷ rows) each none =
    elim (is_at (row_cmp name) r.name) as (λ b. is_at (row_cmp name) r.name ≡ b
    → P name (unwrap_or (cond b (Some r.row) (lookup (is_at (row_cmp name)) (map named rows))) d)) [
      | true ↦ λ tie. subst (λ (n : RowName). P n r.row) (sym (same_row name r.name tie)) each.0
      | false ↦ λ tie. found-each P name d rows each.1 none
    ] refl

-- a name under which a row is found is that of a row for which this holds
found-name : (P : RowName → Type 0) (name : RowName) (rows : List NamedRow) → AllByRecursion (λ (r : NamedRow). P r.name) rows
    → IsSome (lookup (is_at (row_cmp name)) (map named rows)) → P name
found-name P name [] each some = absurd (let f : false ≡ true = some in cc)
found-name P name (r ∷ rows) each some =
    elim (is_at (row_cmp name) r.name) as (λ b. is_at (row_cmp name) r.name ≡ b
    → IsSome (cond b (Some r.row) (lookup (is_at (row_cmp name)) (map named rows))) → P name) [
      | true ↦ λ tie there. subst P (sym (same_row name r.name tie)) each.0
      | false ↦ λ tie there. found-name P name rows each.1 there
    ] refl some

-- the names of rows with their names
pub names-named : (rows : List NamedRow) → keys_of (map named rows) ≡ map (λ (r : NamedRow). r.name) rows
names-named [] = refl
names-named (r ∷ rows) = ap (λ (l : List RowName). r.name ∷ l) (names-named rows)

-- what a claim answered
abbrev pub claimed_view : Claimed → HeldView
claimed_view answer = record { lease = answer.lease; rows = map named answer.rows }

module _ (case : CaseShape) (old new : DeskView) (worker interval : ℕ) (bounds : Bounds) (answer : Claimed)
    (same : old.case ≡ case) (sound : IsSound old) (now : IsSound new) (at : slice_get (intervals_of case.topology) interval ≡ Some bounds)
    (claimed : HasClaimed old new worker interval answer) where
  -- the interval of the lease
  lease_interval : answer.lease.interval ≡ interval
  lease_interval = ap (λ (l : LeaseView). l.interval) claimed.lease

  -- the rows are those that were answered, of this case
  rows_of : AreRowsOf case old.told claimed.before interval answer.rows
  rows_of = subst (λ (c : CaseShape). AreRowsOf c old.told claimed.before interval answer.rows) same claimed.rows

  -- a row lies in the interval where the bounds have it
  lies_covered : (name : RowName) → covers bounds name ≡ true → interval_of case.topology name ≡ Some interval
  lies_covered name has = has-interval_of case.topology interval name
      (are-intervals case.topology (subst (λ (c : CaseShape). IsTopology c.topology) (claimed.moved.case ∙ same) now.runnable.topology))
      (bounds, at, has)

  -- and the bounds have it where it lies there
  covered_lies : (name : RowName) → interval_of case.topology name ≡ Some interval → covers bounds name ≡ true
  covered_lies name lies =
      let has = interval_of-has case.topology interval name lies in
      ap (λ (b : Bounds). covers b name) (some_same bounds has.0 (sym at ∙ has.1)) ∙ has.2

  -- the whole history is known under the new lease
  whole : known answer.lease.interval answer.lease.seq new.seen ≡ new.seen
  whole = ap (λ (l : LeaseView). known l.interval l.seq new.seen) claimed.lease
      ∙ known-last interval (length claimed.before) new.seen
      (ap (last_claim interval) claimed.appended ∙ last_claim-push interval claimed.before (Claim worker interval)
      ∙ ap (λ b. cond b (Some (length claimed.before)) (last_claim interval claimed.before)) (eq-eqb interval interval refl))

  -- a row of the interval is found where it lies
  found_there : (name : RowName) → interval_of case.topology name ≡ Some interval
      → map named answer.rows ≡ rows_covered bounds (run_of case.topology claimed.before).rows
      → row_held case.topology (claimed_view answer) name ≡ row_of case.topology (run_of case.topology new.seen) name
  found_there name lies all =
      let run = run_of case.topology claimed.before in
      ap (λ (o : Option Contents). unwrap_or o (fresh (fresh_of case.topology name.part)))
      (ap (lookup (is_at (row_cmp name))) all
      ∙ lookup-filter-keys (is_at (row_cmp name)) (covers bounds) true
      (λ k tie. ap (covers bounds) (sym (same_row name k tie)) ∙ covered_lies name lies) run.rows
      ∙ sym (row_in-elsewhere case.topology run (Claim worker interval) name (λ e. none_some name e))
      ∙ sym (ap (λ (r : Run). row_in r name) (run_of-push case.topology claimed.before (Claim worker interval))))
      ∙ ap (λ (h : List Entry). row_of case.topology (run_of case.topology h) name) (sym claimed.appended)

  -- what was answered is right
  pub AreRowsHeld-claimed : AreRowsHeld case new (claimed_view answer)
  AreRowsHeld-claimed = record {
    known = if-same old.told new.told ((b : Bounds) → slice_get (intervals_of case.topology) interval ≡ Some b
        → map named answer.rows ≡ rows_covered b (run_of case.topology claimed.before).rows)
        (AreKnown case new.seen (claimed_view answer)) claimed.moved.told
        (λ all name lies. found_there name (lies ∙ ap Some lease_interval) (all bounds at)
        ∙ ap (λ (h : List Entry). row_of case.topology (run_of case.topology h) name) (sym whole))
        rows_of.all;
    fit = λ name lies part. subst (λ n. fits case n name (row_held case.topology (claimed_view answer) name) ≡ true)
        (sym (ap length claimed.appended ∙ length-append claimed.before (Claim worker interval ∷ [])))
        (fits-later case (length claimed.before) name (row_held case.topology (claimed_view answer) name)
        (found-each (λ n r. fits case (length claimed.before) n r ≡ true) name (fresh (fresh_of case.topology name.part)) answer.rows
        (recursion_from_All (λ (r : NamedRow). fits case (length claimed.before) r.name r.row ≡ true) answer.rows rows_of.fit)
        (fits-fresh case (length claimed.before) name part)));
    within = λ name there. lies_covered name
        (found-name (λ n. covers bounds n ≡ true) name answer.rows
        (recursion_from_All (λ (r : NamedRow). covers bounds r.name ≡ true) answer.rows (rows_of.covered bounds at)) there)
        ∙ ap Some (sym lease_interval);
    ordered = subst (IsStrictlySortedBy row_cmp) (sym (names-named answer.rows)) rows_of.ascending;
  }

  -- rows of another interval stay right
  AreRowsHeld-beside_claim : (held : HeldView) → old.leases held.lease ≡ true → AreRowsHeld case old held → AreRowsHeld case new held
  AreRowsHeld-beside_claim held may are =
      AreRowsHeld-more case old new held (claimed.moved.others ++ Claim worker interval ∷ [])
      (subst (λ (c : CaseShape). IsFenced c.topology new.seen) (claimed.moved.case ∙ same) now.fenced) (sound.claimed held.lease may)
      (claimed.appended ∙ ap (λ (h : List Entry). h ++ Claim worker interval ∷ []) claimed.moved.more
      ∙ append_assoc old.seen claimed.moved.others (Claim worker interval ∷ []))
      (All-append (λ (e : Entry). sequencer_of e ≢ Some held.lease.seq) claimed.moved.others (Claim worker interval ∷ [])
      (claimed.moved.foreign held.lease may)
      (All-from_recursion (λ (e : Entry). sequencer_of e ≢ Some held.lease.seq) (Claim worker interval ∷ [])
      ((λ e. none_some held.lease.seq e), tt)))
      claimed.moved.told are

  -- all that is held fits, with what was answered in its place
  pub AreAllHeld-claimed : (all after : List (Option HeldView)) → held_at after interval ≡ Some (claimed_view answer)
      → KeepsOthers interval all after → AreAllHeld case old all → AreAllHeld case new after
  AreAllHeld-claimed all after here others are = AreAllHeld-here case new after interval (claimed_view answer) here
      (record { of_interval = lease_interval; may_use = claimed.may_use; rows = AreRowsHeld-claimed })
      (λ j held apart is.
      let before = are.each j held (sym (others j apart) ∙ is) in record {
        of_interval = before.of_interval;
        may_use = claimed.moved.leases held.lease before.may_use;
        rows = AreRowsHeld-beside_claim held before.may_use before.rows;
      })
