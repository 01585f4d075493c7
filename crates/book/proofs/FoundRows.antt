-- What a keeper whose rows a contract can see has of an interval: the bytes of the rows of the history there.
use Rattle.std.proofs.Common.{◌≡◌, ◌<◌, ◌≤◌, ◌+◌, ℕ, zero, suc, true, List, [], ◌∷◌, ◌++◌, length, map, take, drop, refl, sym, ◌∙◌, ap, subst, arith, get_or}
use Rattle.std.specs.Prelude.{◌≢◌, Some, Result, Ok, Err, IfOk, IfErr, IsErrOf, MatchResult, IfSome, slice_get}
use Rattle.std.specs.List.{AllByRecursion}
use Rattle.std.specs.List.Sorted.{IsStrictlySortedBy}
use Rattle.std.specs.Map.{keys_of}
use Rattle.std.proofs.lemmas.List.{take_more, take_all, map-append, length-map}
use Rattle.std.proofs.lemmas.List.Elements.{All-from_recursion, recursion_from_All}
use Rattle.std.proofs.lemmas.Option.{slice_get_within, get_or_from_slice_get}
use Rattle.list_lemmas.proofs.Places.{slice_get-some, each-at}
use Rattle.mw_types.specs.Orders.{row_cmp}
use Rattle.mw_types.specs.declared.identity.RowName.{RowName}
use Rattle.mw_types.specs.declared.entry.Entry.{Entry}
use Rattle.key_intervals.specs.declared.bounds.Bounds.{Bounds}
use Rattle.key_intervals.specs.Intervals.{covers, rows_covered}
use Rattle.row_parts.specs.Contents.{Contents}
use Rattle.row_parts.specs.Spelling.{spelling_of}
use Rattle.row_keeper.specs.Rows.{Rows, AreInOrder, entry_of}
use Rattle.row_keeper.specs.declared.keeper.KeptRow.{KeptRow}
use Rattle.run_history.specs.Cases.{CaseShape, intervals_of}
use Rattle.run_history.specs.Runs.{run_of}
use Rattle.run_history.proofs.CaseIntervals.{length-intervals}
use Rattle.topology.specs.Rules.{interval_count}
use Rattle.list_lemmas.proofs.Lists.{each-filter}
use Rattle.history_laws.proofs.StoredLaws.{rows_covered-stored}
use Rattle.book.specs.Books.{BookView, core_of}
use Rattle.run_history.specs.Fits.{fits}
use Rattle.book.specs.Lawful.{IsKeepable, HoldsRowsOf, IsLawful}
use Rattle.book.specs.Claims.{AreRowsOf, AreWithin, IsDamaged, IsFirstDamage, IsFoundWithin, IsRead, bytes_named, named, spelled}
use Rattle.book.specs.declared.answers.NamedRow.{NamedRow}
use Rattle.book.specs.declared.refusals.ClaimRefusal.{ClaimRefusal}
use Rattle.book.specs.declared.refusals.ClaimRefusal.TheVariants as refusals
use Rattle.book.proofs.SeenRows.{told-both, told-then}

-- what is found is the spelling of the rows of the history
pub found-spelled : (case : CaseShape) (history : List Entry) (interval : ℕ) (found : List KeptRow) (held : Rows) → HoldsRowsOf case history held
    → IsFoundWithin case interval found held → (bounds : Bounds) → slice_get (intervals_of case.topology) interval ≡ Some bounds
    → map entry_of found ≡ map spelled (rows_covered bounds (run_of case.topology history).rows)
found-spelled case history interval found held is within bounds at =
    within bounds at ∙ ap (rows_covered bounds) is.stored ∙ rows_covered-stored (run_of case.topology history) bounds

-- each of which can be kept
pub found-kept : (case : CaseShape) (history : List Entry) (held : Rows) (bounds : Bounds) → HoldsRowsOf case history held
    → AllByRecursion (IsKeepable case (length history)) (rows_covered bounds (run_of case.topology history).rows)
found-kept case history held bounds is =
    each-filter (IsKeepable case (length history)) (λ (r : RowName × Contents). covers bounds r.0) (run_of case.topology history).rows is.kept

-- what stands at one place of two lists that spell the same
pub spelled-at : (found : List KeptRow) (rows : List (RowName × Contents)) (i : ℕ) (kept : KeptRow) → map entry_of found ≡ map spelled rows
    → get_or found i kept ≡ kept → i < length found → (r : RowName × Contents) × ((slice_get rows i ≡ Some r) × (entry_of kept ≡ spelled r))
spelled-at [] rows i kept same at within = absurd (omega (arith, within))
spelled-at (k ∷ ks) [] i kept same at within = absurd cc
spelled-at (k ∷ ks) (r ∷ rs) zero kept same at within =
    (r, (refl, sym (ap entry_of at) ∙ ap (λ (l : List (RowName × List ℕ)). get_or l 0 (entry_of k)) same))
spelled-at (k ∷ ks) (r ∷ rs) (suc i) kept same at within = spelled-at ks rs i kept (ap (drop 1) same) at (omega (arith, within))

-- a row's name and bytes stand where the row does
entry-at : (found : List KeptRow) (i : ℕ) (kept : KeptRow) → i < length found → kept ≡ get_or found i kept
    → entry_of kept ≡ get_or (map entry_of found) i (entry_of kept)
entry-at [] i kept within at = absurd (omega (arith, within))
entry-at (k ∷ ks) zero kept within at = ap entry_of at
entry-at (k ∷ ks) (suc i) kept within at = entry-at ks i kept (omega (arith, within)) at

-- what the bytes of one place are, where all are those of rows that can be kept
kept-at : (case : CaseShape) (number : ℕ) (found : List KeptRow) (rows : List (RowName × Contents)) (i : ℕ) (kept : KeptRow)
    → AllByRecursion (IsKeepable case number) rows → map entry_of found ≡ map spelled rows → i < length found → kept ≡ get_or found i kept
    → (row : Contents) × ((slice_get rows i ≡ Some (kept.name, row)) × ((kept.bytes ≡ spelling_of row) × IsKeepable case number
    (kept.name, row)))
kept-at case number found rows i kept each same within at =
    let there = spelled-at found rows i kept same (sym at) within in
    let r = there.0 in
    let name : kept.name ≡ r.0 = ap (λ (p : RowName × List ℕ). p.0) there.1.1 in (
      r.1,
      (
        there.1.0 ∙ ap (λ (n : RowName). Some (n, r.1)) (sym name),
        (
          ap (λ (p : RowName × List ℕ). p.1) there.1.1,
          subst (λ (n : RowName). IsKeepable case number (n, r.1)) (sym name) (each-at (IsKeepable case number) rows i r each there.1.0),
        ),
      ),
    )

-- what holds of each of a list and of one more holds of each
each-push : {X : Type 0} (P : X → Type 0) (xs : List X) (x : X) → AllByRecursion P xs → P x → AllByRecursion P (xs ++ x ∷ [])
each-push P [] x each one = (one, tt)
each-push P (y ∷ ys) x each one = (each.0, each-push P ys x each.1 one)

-- one more row is read
pub IsRead-more : (case : CaseShape) (number : ℕ) (found : List KeptRow) (done new : List NamedRow) (i : ℕ) (kept : KeptRow) (r : NamedRow)
    → IsRead case number found done i → i < length found → kept ≡ get_or found i kept → IsKeepable case number (named r)
    → bytes_named r ≡ entry_of kept
    → ((row : Contents) → IsKeepable case number (kept.name, row) → kept.bytes ≡ spelling_of row → named r ≡ (kept.name, row))
    → new ≡ done ++ r ∷ [] → IsRead case number found new (i + 1)
IsRead-more case number found done new i kept r read within at fit bytes only appended =
    let names : map named new ≡ map named done ++ named r ∷ [] = ap (map named) appended ∙ map-append named done (r ∷ []) in record {
      kept = subst (AllByRecursion (IsKeepable case number)) (sym names)
          (each-push (IsKeepable case number) (map named done) (named r) read.kept fit);
      bytes = ap (map bytes_named) appended ∙ map-append bytes_named done (r ∷ [])
          ∙ ap (λ l. l ++ bytes_named r ∷ []) read.bytes
          ∙ ap (λ e. take i (map entry_of found) ++ e ∷ []) (bytes ∙ entry-at found i kept within at)
          ∙ sym (take_more (map entry_of found) i (entry_of kept) (omega (arith, within, length-map found entry_of)));
      only = λ rows each same.
          let there = kept-at case number found rows i kept each same within at in
          let row = there.0 in
          names
          ∙ ap (λ l. l ++ named r ∷ []) (read.only rows each same)
          ∙ ap (λ p. take i rows ++ p ∷ []) (only row there.1.1.1 there.1.1.0
          ∙ sym (get_or_from_slice_get rows i (kept.name, row) (kept.name, row) there.1.0))
          ∙ sym (take_more rows i (kept.name, row) (slice_get_within rows i (kept.name, row) there.1.0));
    }

-- all rows are read
pub IsRead-all : (case : CaseShape) (number : ℕ) (found : List KeptRow) (done : List NamedRow) (i : ℕ) → IsRead case number found done i
    → length found ≤ i
    → (rows : List (RowName × Contents)) → AllByRecursion (IsKeepable case number) rows → map entry_of found ≡ map spelled rows
    → map named done ≡ rows
IsRead-all case number found done i read past rows each same =
    let long : length rows ≤ i = omega (arith, past, sym (length-map rows spelled) ∙ sym (ap length same) ∙ length-map found entry_of) in
    read.only rows each same ∙ take_all i rows long

-- the bytes of all rows that were read are those that were found
pub spelled-all : (case : CaseShape) (number : ℕ) (found : List KeptRow) (done : List NamedRow) (i : ℕ) → IsRead case number found done i
    → length found ≤ i → map bytes_named done ≡ map entry_of found
spelled-all case number found done i read past =
    read.bytes ∙ take_all i (map entry_of found) (omega (arith, past, length-map found entry_of))

-- a list is what stands before one of its places, what stands there, and what stands after it
split-at : {X : Type 0} (xs : List X) (i : ℕ) (x : X) → i < length xs → x ≡ get_or xs i x → xs ≡ take i xs ++ x ∷ drop (suc i) xs
split-at [] i x within at = absurd (omega (arith, within))
split-at (y ∷ ys) zero x within at = ap (λ z. z ∷ ys) (sym at)
split-at (y ∷ ys) (suc i) x within at = ap (λ l. y ∷ l) (split-at ys i x (omega (arith, within)) at)

-- a row that is not read is the first that is damaged
pub first-at : (case : CaseShape) (number : ℕ) (found : List KeptRow) (done : List NamedRow) (i : ℕ) (kept : KeptRow) (why : ClaimRefusal)
    → IsRead case number found done i → i < length found → kept ≡ get_or found i kept
    → (why ≢ refusals.NoMemory → why ≡ refusals.RowDamaged kept.name kept.bytes) → IsFirstDamage case number (map entry_of found) why
first-at case number found done i kept refusals.HistoryFull read within at this = tt
first-at case number found done i kept refusals.KeeperFault read within at this = tt
first-at case number found done i kept refusals.NoMemory read within at this = tt
first-at case number found done i kept (refusals.RowDamaged name bytes) read within at this =
    let same : refusals.RowDamaged name bytes ≡ refusals.RowDamaged kept.name kept.bytes = this (λ none. absurd cc) in
    let entry : entry_of kept ≡ (name, bytes) = sym (ap (damage_of (entry_of kept)) same) in record {
      before = map named done;
      after = drop (suc i) (map entry_of found);
      kept = read.kept;
      there = split-at (map entry_of found) i (entry_of kept) (omega (arith, within, length-map found entry_of))
          (entry-at found i kept within at)
          ∙ ap (λ l. l ++ entry_of kept ∷ drop (suc i) (map entry_of found)) (sym read.bytes ∙ spelled-twice done)
          ∙ ap (λ e. map spelled (map named done) ++ e ∷ drop (suc i) (map entry_of found)) entry;
    }
  where
    damage_of : RowName × List ℕ → ClaimRefusal → RowName × List ℕ
    damage_of other (refusals.RowDamaged name bytes) = (name, bytes)
    damage_of other refusals.HistoryFull = other
    damage_of other refusals.KeeperFault = other
    damage_of other refusals.NoMemory = other

    spelled-twice : (rows : List NamedRow) → map bytes_named rows ≡ map spelled (map named rows)
    spelled-twice [] = refl
    spelled-twice (r ∷ rs) = ap (λ l. bytes_named r ∷ l) (spelled-twice rs)

-- a row that is not read, where the bytes are those of rows that can be kept, is not for want of a row
pub refused-at : (case : CaseShape) (number : ℕ) (found : List KeptRow) (i : ℕ) (kept : KeptRow) (why : ClaimRefusal) → i < length found
    → kept ≡ get_or found i kept
    → ((row : Contents) → IsKeepable case number (kept.name, row) → kept.bytes ≡ spelling_of row → why ≡ refusals.NoMemory)
    → (rows : List (RowName × Contents)) → AllByRecursion (IsKeepable case number) rows → map entry_of found ≡ map spelled rows
    → why ≡ refusals.NoMemory
refused-at case number found i kept why within at only rows each same =
    let there = kept-at case number found rows i kept each same within at in only there.0 there.1.1.1 there.1.1.0

-- ---- what a claim answers

-- rows that can be kept fit their names
kept-fit : (case : CaseShape) (number : ℕ) (rows : List NamedRow) → AllByRecursion (IsKeepable case number) (map named rows)
    → AllByRecursion (λ (r : NamedRow). fits case number r.name r.row ≡ true) rows
kept-fit case number [] kept = tt
kept-fit case number (r ∷ rs) kept = (kept.0.fit, kept-fit case number rs kept.1)

-- the names of rows stand in the order of their bytes
names-of : (rows : List NamedRow) → keys_of (map bytes_named rows) ≡ map (λ (r : NamedRow). r.name) rows
names-of [] = refl
names-of (r ∷ rs) = ap (λ (l : List RowName). r.name ∷ l) (names-of rs)

-- rows lie where what was found does
covered-rows : (b : Bounds) (found : List KeptRow) (rows : List NamedRow) → map bytes_named rows ≡ map entry_of found
    → AllByRecursion (λ (k : KeptRow). covers b k.name ≡ true) found → AllByRecursion (λ (r : NamedRow). covers b r.name ≡ true) rows
covered-rows b found [] same each = tt
covered-rows b [] (r ∷ rs) same each = absurd cc
covered-rows b (k ∷ ks) (r ∷ rs) same each =
    let name : r.name ≡ k.name = ap (λ (l : List (RowName × List ℕ)). (get_or l 0 (entry_of k)).0) same in
    (ap (covers b) name ∙ each.0, covered-rows b ks rs (ap (drop 1) same) each.1)

-- the rows that were read are those of the interval
pub AreRowsOf-read : (book : BookView) (interval : ℕ) (found : List KeptRow) (rows : List NamedRow) → IsLawful book.case (core_of book)
    → IfSome book.rows (IsFoundWithin book.case interval found) → AreWithin book.case interval found → AreInOrder (map entry_of found)
    → AllByRecursion (IsKeepable book.case (length book.history)) (map named rows) → map bytes_named rows ≡ map entry_of found
    → ((all : List (RowName × Contents)) → AllByRecursion (IsKeepable book.case (length book.history)) all
    → map entry_of found ≡ map spelled all → map named rows ≡ all)
    → AreRowsOf book.case book.rows book.history interval rows
AreRowsOf-read book interval found rows lawful within covered order kept bytes only = record {
  fit = All-from_recursion (λ (r : NamedRow). fits book.case (length book.history) r.name r.row ≡ true) rows
      (kept-fit book.case (length book.history) rows kept);
  covered = λ bounds at. All-from_recursion (λ (r : NamedRow). covers bounds r.name ≡ true) rows
      (covered-rows bounds found rows bytes (recursion_from_All (λ (k : KeptRow). covers bounds k.name ≡ true) found (covered bounds at)));
  ascending = subst (IsStrictlySortedBy row_cmp) (ap keys_of (sym bytes) ∙ names-of rows) order;
  all = told-then book.rows (λ held. HoldsRowsOf book.case book.history held × IsFoundWithin book.case interval found held) _
      (told-both book.rows (HoldsRowsOf book.case book.history) (IsFoundWithin book.case interval found) lawful.held within)
      (λ held p bounds at. only (rows_covered bounds (run_of book.case.topology book.history).rows)
      (found-kept book.case book.history held bounds p.0)
      (found-spelled book.case book.history interval found held p.0 p.1 bounds at));
}

-- a row is damaged only where the keeper does not tell
pub IsDamaged-read : (book : BookView) (interval : ℕ) (found : List KeptRow) (why : ClaimRefusal) → IsLawful book.case (core_of book)
    → interval < interval_count book.case.topology → IfSome book.rows (IsFoundWithin book.case interval found)
    → ((all : List (RowName × Contents)) → AllByRecursion (IsKeepable book.case (length book.history)) all
    → map entry_of found ≡ map spelled all → why ≡ refusals.NoMemory)
    → ((name : RowName) (bytes : List ℕ) → why ≡ refusals.RowDamaged name bytes → (row : Contents)
    → IsKeepable book.case (length book.history) (name, row) → bytes ≢ spelling_of row)
    → IsDamaged book.case book.rows (length book.history) why
IsDamaged-read book interval found refusals.HistoryFull lawful there within only damaged = tt
IsDamaged-read book interval found refusals.KeeperFault lawful there within only damaged = tt
IsDamaged-read book interval found refusals.NoMemory lawful there within only damaged = tt
IsDamaged-read book interval found (refusals.RowDamaged name bytes) lawful there within only damaged = record {
  no_row = damaged name bytes refl;
  untold = told-then book.rows (λ held. HoldsRowsOf book.case book.history held × IsFoundWithin book.case interval found held) _
      (told-both book.rows (HoldsRowsOf book.case book.history) (IsFoundWithin book.case interval found) lawful.held within)
      (λ held p.
      let bounds = slice_get-some (intervals_of book.case.topology) interval (omega (arith, there, length-intervals book.case.topology)) in
      let none : refusals.RowDamaged name bytes ≡ refusals.NoMemory = only
      (rows_covered bounds.0 (run_of book.case.topology book.history).rows)
      (found-kept book.case book.history held bounds.0 p.0)
      (found-spelled book.case book.history interval found held p.0 p.1 bounds.0 bounds.1) in
      absurd (cc));
}

-- the rows that reading answers, in words of the book
pub AreRowsOf-result : (book : BookView) (interval : ℕ) (found shown : List KeptRow) (case : CaseShape) (number : ℕ)
    (result : Result (List NamedRow) ClaimRefusal)
    → IsLawful book.case (core_of book) → IfSome book.rows (IsFoundWithin book.case interval found)
    → AreWithin book.case interval found → AreInOrder (map entry_of found)
    → case ≡ book.case → number ≡ length book.history → shown ≡ found
    → IfOk result (λ rows. AllByRecursion (IsKeepable case number) (map named rows))
    → IfOk result (λ rows. map bytes_named rows ≡ map entry_of shown)
    → ((all : List (RowName × Contents)) → AllByRecursion (IsKeepable case number) all → map entry_of shown ≡ map spelled all
    → MatchResult result (λ rows. map named rows ≡ all) (λ why. why ≡ refusals.NoMemory))
    → IfOk result (AreRowsOf book.case book.rows book.history interval)
AreRowsOf-result book interval found shown case number (Err why) lawful within covered order same_case same_number same_found kept bytes
    only = tt
AreRowsOf-result book interval found shown case number (Ok rows) lawful within covered order same_case same_number same_found kept bytes
    only =
    AreRowsOf-read book interval found rows lawful within covered order
    (subst (λ (p : CaseShape × ℕ). AllByRecursion (IsKeepable p.0 p.1) (map named rows)) (λ i. (same_case i, same_number i)) kept)
    (bytes ∙ ap (map entry_of) same_found)
    (λ all each same. only all
    (subst (λ (p : CaseShape × ℕ). AllByRecursion (IsKeepable p.0 p.1) all) (λ i. (sym same_case i, sym same_number i)) each)
    (ap (map entry_of) same_found ∙ same))

-- what reading refuses, in words of the book
pub IsDamaged-result : (book : BookView) (interval : ℕ) (found shown : List KeptRow) (case : CaseShape) (number : ℕ)
    (result : Result (List NamedRow) ClaimRefusal)
    → IsLawful book.case (core_of book) → interval < interval_count book.case.topology
    → IfSome book.rows (IsFoundWithin book.case interval found)
    → case ≡ book.case → number ≡ length book.history → shown ≡ found
    → ((all : List (RowName × Contents)) → AllByRecursion (IsKeepable case number) all → map entry_of shown ≡ map spelled all
    → MatchResult result (λ rows. map named rows ≡ all) (λ why. why ≡ refusals.NoMemory))
    → ((name : RowName) (bytes : List ℕ) → IsErrOf result (refusals.RowDamaged name bytes) → (row : Contents)
    → IsKeepable case number (name, row) → bytes ≢ spelling_of row)
    → IfErr result (IsDamaged book.case book.rows (length book.history))
IsDamaged-result book interval found shown case number (Ok rows) lawful there within same_case same_number same_found only damaged = tt
IsDamaged-result book interval found shown case number (Err why) lawful there within same_case same_number same_found only damaged =
    IsDamaged-read book interval found why lawful there within
    (λ all each same. only all
    (subst (λ (p : CaseShape × ℕ). AllByRecursion (IsKeepable p.0 p.1) all) (λ i. (sym same_case i, sym same_number i)) each)
    (ap (map entry_of) same_found ∙ same))
    (λ name bytes is row kept. damaged name bytes (ap Err is) row
    (subst (λ (p : CaseShape × ℕ). IsKeepable p.0 p.1 (name, row)) (λ i. (sym same_case i, sym same_number i)) kept))
