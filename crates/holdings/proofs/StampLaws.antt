-- The stamps of rows, one a row that has work: they are changed with one row, and the least of them is the oldest work.
use Rattle.std.proofs.Common.{◌≡◌, ◌≢◌, ◌<◌, ◌≤◌, ◌+◌, ◌-◌, ℕ, zero, suc, List, [], ◌∷◌, length, map, refl, sym, ◌∙◌, ap, subst, arith, inl, inr, sum_by}
use Rattle.std.specs.Prelude.{Box, Contains, Err, IfOk, IfSome, None, Ok, Option, Result, Some, unwrap_or}
use Rattle.std.specs.Option.{option_and_then, option_map}
use Rattle.std.specs.Result.{result_ok}
use Rattle.std.specs.List.{flat_map}
use Rattle.std.specs.List.Sorted.{IsPermutation, IsStrictlySortedBy}
use Rattle.std.specs.Map.{keys_of, lookup, values_of}
use Rattle.std.specs.BTreeMap.{insert_entry, is_at}
use Rattle.std.proofs.lemmas.List.Sorted.{sum_by-IsPermutation}
use Rattle.std.proofs.lemmas.List.Sums.{sum_by-cons}
use Rattle.std.proofs.lemmas.Map.Entries.{sum_by-insert_entry, sum_by-remove_entry}
use Rattle.mw_types.specs.declared.TheConstants.{END}
use Rattle.mw_types.specs.declared.identity.RowName.{RowName}
use Rattle.mw_types.specs.declared.memory.NoMemory.{NoMemory}
use Rattle.mw_types.specs.Orders.{row_cmp}
use Rattle.mw_types.proofs.OrderLaws.{row_cmp-total}
use Rattle.history_laws.proofs.RowSteps.{same_row}
use Rattle.row_parts.specs.Contents.{Contents}
use Rattle.run_history.specs.Marks.{row_marks}
use Rattle.run_history.specs.Runs.{cached, row_in}
use Rattle.run_history.specs.Watermarks.{least}
use Rattle.run_history.proofs.Lookups.{sorted-insert_entry}
use Rattle.history_laws.proofs.LowLaws.{least-end}
use Rattle.book.specs.Claims.{named}
use Rattle.book.specs.declared.answers.NamedRow.{NamedRow}
use Rattle.holdings.specs.Caching.{AreOrdered, merged}
use Rattle.holdings.specs.Dues.{due_name, due_of, due_order}
use Rattle.holdings.specs.Keyed.{HasRekeyed}
use Rattle.holdings.specs.Indexes.{AreLeft, AreStamps, HasRestamped, HasStamped, HasUnstamped, IsIndexOf, IsIndexed, work_of}
use Rattle.holdings.specs.Seens.{own_name, seen_of}
use Rattle.holdings.specs.declared.index.Index.{Index}
use Rattle.holdings.proofs.CacheLaws.{lookup-behind, lookup-merged, merged-ordered}
use Rattle.holdings.proofs.DueLaws.{due_placed, due_tie}
use Rattle.holdings.proofs.KeyLaws.{keys-put}
use Rattle.holdings.proofs.HeldPlaces.{number_or_not}
use Rattle.holdings.proofs.SeenLaws.{seen_placed}
use Rattle.holdings.proofs.WorkLaws.{before-none, least-flat_map}

-- ---- lists of which all sums are the same

-- how far each is below a mark, added up, is nothing where the mark is at most the least
none-below : (mark : ℕ) (xs : List ℕ) → mark ≤ least xs → sum_by (λ x. mark - x) xs ≡ 0
none-below mark [] under = refl
none-below mark (x ∷ xs) under =
    let rest = none-below mark xs (omega (arith, under)) in
    let whole = sum_by-cons (λ y. mark - y) x xs in
    omega (arith, rest, whole, under)

-- and where it is nothing, the mark is at most the least
least-bound : (mark : ℕ) (xs : List ℕ) → mark ≤ END → sum_by (λ x. mark - x) xs ≡ 0 → mark ≤ least xs
least-bound mark [] end none = end
least-bound mark (x ∷ xs) end none =
    let whole = sum_by-cons (λ y. mark - y) x xs in
    let rest = least-bound mark xs end (omega (arith, whole, none)) in
    omega (arith, rest, whole, none)

-- lists of which all sums are the same, where the end counts nothing, have the same least
pub least-sums : (xs ys : List ℕ) → ((weigh : ℕ → ℕ) → weigh END ≡ 0 → sum_by weigh xs ≡ sum_by weigh ys) → least xs ≡ least ys
least-sums xs ys same =
    let end_one : least xs - END ≡ 0 = let e = least-end xs in omega (arith, e) in
    let end_two : least ys - END ≡ 0 = let e = least-end ys in omega (arith, e) in
    let one = least-bound (least xs) ys (least-end xs)
    (sym (same (λ x. least xs - x) end_one) ∙ none-below (least xs) xs (omega arith)) in
    let two = least-bound (least ys) xs (least-end ys)
    (same (λ x. least ys - x) end_two ∙ none-below (least ys) ys (omega arith)) in
    omega (arith, one, two)

-- 1 for a number, and 0 for each other
abbrev count_one : ℕ → ℕ → ℕ
count_one s x = 1 - ((x - s) + (s - x))

-- another number counts nothing
not_one : (s x : ℕ) → x ≢ s → count_one s x ≡ 0
not_one s x other = omega (arith, other)

-- a number that is counted is there
counted-there : (s : ℕ) (xs : List ℕ) → 1 ≤ sum_by (count_one s) xs → Contains xs s
counted-there s [] some = absurd (omega (arith, some))
counted-there s (x ∷ xs) some = elim (number_or_not s x) [
  | inl same ↦ (zero, (let w : zero < length (x ∷ xs) = omega arith in w), same)
  | inr other ↦
      let whole = sum_by-cons (count_one s) x xs in
      let apart : count_one s x ≡ 0 = not_one s x other in
      let rest = counted-there s xs (omega (arith, some, whole, apart)) in
      (suc rest.0, (let w : suc rest.0 < length (x ∷ xs) = omega (arith, rest.1) in w), rest.2)
]

-- ---- the stamps of rows

-- a weight of a row, if there is one, by its oldest work
weight-work : (weigh : ℕ → ℕ) (before : Option Contents)
    → unwrap_or (option_map weigh (option_map work_of before)) 0
    ≡ unwrap_or (option_map (λ (row : Contents). weigh (work_of row)) before) 0
weight-work weigh None = refl
weight-work weigh (Some row) = refl

-- the stamps stay those of the rows once a row is put, with its stamp in the place of the one before
pub stamps-put : (rows : List (RowName × Contents)) (name : RowName) (row : Contents) (old new : List ℕ)
    → IsStrictlySortedBy row_cmp (keys_of rows) → AreStamps rows old
    → HasRestamped (option_map work_of (row_in (cached rows) name)) (work_of row) old new → AreStamps (insert_entry row_cmp rows name row) new
stamps-put rows name row old new ordered are has = record {
  sums = λ weigh end.
      let put = sum_by-insert_entry (λ (r : Contents). weigh (work_of r)) row_cmp-total rows name row ordered in
      let was = weight-work weigh (lookup (is_at (row_cmp name)) rows) in
      let before = are.sums weigh end in
      let more = has.sums weigh end in
      omega (arith, put, was, before, more);
}

-- the stamp of a row that is cached and has work is there
pub stamp-there : (rows : List (RowName × Contents)) (name : RowName) (row : Contents) (stamps : List ℕ) → AreStamps rows stamps
    → row_in (cached rows) name ≡ Some row → END ≢ work_of row → Contains stamps (work_of row)
stamp-there rows name row stamps are found some =
    let weigh = λ (r : Contents). count_one (work_of row) (work_of r) in
    let all = are.sums (count_one (work_of row)) (not_one (work_of row) END some) in
    let parts = sum_by-remove_entry weigh (is_at (row_cmp name)) rows in
    let one : unwrap_or (option_map weigh (lookup (is_at (row_cmp name)) rows)) 0 ≡ 1 =
    ap (λ (o : Option Contents). unwrap_or (option_map weigh o) 0) found ∙ omega arith in
    counted-there (work_of row) stamps (omega (arith, all, parts, one))

-- sums over the values of rows, and over what is made of the rows
sum-values : (g : Contents → ℕ) (weigh : ℕ → ℕ) (rows : List (RowName × Contents))
    → sum_by (λ (row : Contents). weigh (g row)) (values_of rows) ≡ sum_by weigh (map (λ (r : RowName × Contents). g r.1) rows)
sum-values g weigh [] = refl
sum-values g weigh (r ∷ rows) = sum_by-cons (λ (row : Contents). weigh (g row)) r.1 (values_of rows)
    ∙ ap (λ n. weigh (g r.1) + n) (sum-values g weigh rows)
    ∙ sym (sum_by-cons weigh (g r.1) (map (λ (x : RowName × Contents). g x.1) rows))

-- the least stamp is the oldest work of all rows
pub least-stamps : (rows : List (RowName × Contents)) (stamps : List ℕ) → AreStamps rows stamps
    → least stamps ≡ least (flat_map (λ (r : RowName × Contents). row_marks r.1) rows)
least-stamps rows stamps are =
    least-sums stamps (map (λ (r : RowName × Contents). work_of r.1) rows) (λ weigh end. are.sums weigh end ∙ sum-values work_of weigh rows)
    ∙ sym (least-flat_map (λ (r : RowName × Contents). row_marks r.1) rows)

-- ---- one stamp

-- one stamp more, by what the stamps say
pub restamped-new : (after : ℕ) (old new : List ℕ) → IsPermutation (after ∷ old) new → HasRestamped None after old new
restamped-new after old new added = record {
  sums = λ weigh end.
      let more = sum_by-IsPermutation weigh (after ∷ old) new added in
      let first = sum_by-cons weigh after old in
      omega (arith, more, first);
}

-- one stamp less, by what the stamps say
pub unstamped-gone : (stamp : ℕ) (old new : List ℕ) → IsPermutation old (stamp ∷ new) → HasUnstamped stamp old new
unstamped-gone stamp old new removed = record {
  sums = λ weigh end.
      let less = sum_by-IsPermutation weigh old (stamp ∷ new) removed in
      let last = sum_by-cons weigh stamp new in
      omega (arith, less, last);
}

-- one stamp less, then one more
pub restamped-both : (before after : ℕ) (old mid new : List ℕ) → HasUnstamped before old mid → HasRestamped None after mid new
    → HasRestamped (Some before) after old new
restamped-both before after old mid new removed added = record {
  sums = λ weigh end.
      let less = removed.sums weigh end in
      let more = added.sums weigh end in
      omega (arith, less, more);
}

-- ---- the stamps of all rows, made anew

-- the sum over merged rows is that over both lists
sum-merged : (weigh : Contents → ℕ) (answered : List NamedRow) (others : List (RowName × Contents)) → AreOrdered answered others
    → sum_by weigh (values_of (merged answered others)) ≡ sum_by weigh (values_of (map named answered)) + sum_by weigh (values_of others)
unfolding IsStrictlySortedBy
sum-merged weigh [] others are = omega arith
sum-merged weigh (r ∷ answered) others are =
    let rest = sum-merged weigh answered others (record {
      answered_ordered = are.answered_ordered.1;
      others_ordered = are.others_ordered;
      apart = are.apart.1;
    }) in
    let put = sum_by-insert_entry weigh row_cmp-total (merged answered others) r.name r.row (merged-ordered answered others are.others_ordered) in
    let none : unwrap_or (option_map weigh (lookup (is_at (row_cmp r.name)) (merged answered others))) 0 ≡ 0 =
    ap (λ (o : Option Contents). unwrap_or (option_map weigh o) 0)
    (lookup-merged r.name answered others
    ∙ lookup-behind r.name (map named answered) others (before-none r.name answered are.answered_ordered.0) ∙ are.apart.0) in
    let first = sum_by-cons weigh r.row (values_of (map named answered)) in
    omega (arith, rest, put, none, first)

-- no stamps, then one for each row of a list, then one for each beside it
pub stamps-merged : (answered : List NamedRow) (others : List (RowName × Contents)) (start mid stamps : List ℕ) → AreOrdered answered others
    → start ≡ [] → HasStamped (map named answered) start mid → HasStamped others mid stamps → AreStamps (merged answered others) stamps
stamps-merged answered others start mid stamps are none one two = record {
  sums = λ weigh end.
      let whole = sum-merged (λ (row : Contents). weigh (work_of row)) answered others are in
      let first = one.sums weigh end in
      let second = two.sums weigh end in
      let nothing : sum_by weigh start ≡ 0 = ap (sum_by weigh) none in
      omega (arith, whole, first, second, nothing);
}

-- no row is left
pub left-none : (left all : List (RowName × Contents)) (now start : List ℕ) → left ≡ [] → AreLeft left all now start → HasStamped all start now
left-none left all now start none are = record {
  sums = λ weigh end.
      let whole = are.sums weigh end in
      let nothing : sum_by (λ (row : Contents). weigh (work_of row)) (values_of left) ≡ 0 =
      ap (λ (l : List (RowName × Contents)). sum_by (λ (row : Contents). weigh (work_of row)) (values_of l)) none in
      omega (arith, whole, nothing);
}

-- ---- the index

-- the stamp of a row that was there is kept
pub stamp-held : (rows : List (RowName × Contents)) (name : RowName) (before : Option Contents) (stamps : List ℕ) → AreStamps rows stamps
    → before ≡ row_in (cached rows) name → IfSome before (λ row. END ≢ work_of row → Contains stamps (work_of row))
stamp-held rows name None stamps are is = tt
stamp-held rows name (Some row) stamps are is = stamp-there rows name row stamps are (sym is)

-- the index is that of the rows once a row is put, where there was memory for it
pub index-put : (rows : List (RowName × Contents)) (name : RowName) (row : Contents) (before : Option Contents) (old : Index)
    (result : Result Index NoMemory) → IsStrictlySortedBy row_cmp (keys_of rows) → IsIndexOf rows old
    → before ≡ row_in (cached rows) name
    → IfOk result (λ new. HasRestamped (option_map work_of before) (work_of row) old.work new.work)
    → IfOk result (λ new. HasRekeyed due_order (option_and_then (due_of name) before) (due_of name row) old.dues.entries new.dues.entries)
    → IfOk result (λ new. HasRekeyed row_cmp (option_and_then (seen_of name) before) (seen_of name row) old.seen.entries new.seen.entries)
    → IfSome (result_ok result) (IsIndexOf (insert_entry row_cmp rows name row))
index-put rows name row before old (Ok new) ordered are is has keyed rekeyed = record {
  work = stamps-put rows name row old.work new.work ordered are.work
      (subst (λ (o : Option Contents). HasRestamped (option_map work_of o) (work_of row) old.work new.work) is has);
  dues = keys-put due_order due_name due_of due_placed due_tie rows name row old.dues.entries new.dues.entries are.dues
      (subst (λ (o : Option Contents). HasRekeyed due_order (option_and_then (due_of name) o) (due_of name row) old.dues.entries new.dues.entries)
      is keyed);
  seen = keys-put row_cmp own_name seen_of seen_placed same_row rows name row old.seen.entries new.seen.entries are.seen
      (subst (λ (o : Option Contents). HasRekeyed row_cmp (option_and_then (seen_of name) o) (seen_of name row) old.seen.entries new.seen.entries)
      is rekeyed);
}
index-put rows name row before old (Err want) ordered are is has keyed rekeyed = tt

-- rows and index after a row is put
pub indexed-put : {A : Type 0} (rows after : List (RowName × Contents)) (name : RowName) (row : Contents) (index : Option (Box Index A))
    → IsStrictlySortedBy row_cmp (keys_of rows) → after ≡ insert_entry row_cmp rows name row
    → IfSome index (λ (b : Box Index A). IsIndexOf (insert_entry row_cmp rows name row) b.value) → IsIndexed after index
indexed-put rows after name row index ordered is kept = subst (λ (l : List (RowName × Contents)). IsIndexed l index) (sym is) (record {
  ordered = sorted-insert_entry row_cmp-total rows name row ordered;
  kept = kept;
})

-- an index that is there is that of the rows
pub index-there : {A : Type 0} (rows : List (RowName × Contents)) (o : Option (Box Index A)) (b : Box Index A) → o ≡ Some b
    → IfSome o (λ (i : Box Index A). IsIndexOf rows i.value) → IsIndexOf rows b.value
index-there {A} rows o b is kept = subst (λ (p : Option (Box Index A)). IfSome p (λ (i : Box Index A). IsIndexOf rows i.value)) is kept
