-- The floor of a run is at most each commit number that is pending, and never falls.
use Rattle.std.proofs.Common.{◌≡◌, ℕ, suc, ◌≤◌, List, [], ◌∷◌, ◌++◌, map, fold, refl, sym, ◌∙◌, subst, arith, inl, inr}
use Rattle.std.specs.Prelude.{min, ◌⊎◌, Contains, Option, Some, None}
use Rattle.std.proofs.lemmas.Bool.{cases_lt}
use Rattle.std.specs.Option.{option_map_or}
use Rattle.std.specs.List.{AllByRecursion, flat_map}
use Rattle.std.specs.BTreeMap.{insert_entry, is_at}
use Rattle.std.proofs.lemmas.List.Sums.{fold-append}
use Rattle.mw_types.specs.declared.identity.RowName.{RowName}
use Rattle.mw_types.specs.declared.delivery.Delivery.{Delivery}
use Rattle.mw_types.specs.declared.entry.Entry.{Entry}
use Rattle.mw_types.specs.declared.entry.Entry.TheVariants.{Inject, Handle, Fire, Ack}
use Rattle.mw_types.specs.Orders.{row_cmp}
use Rattle.topology.specs.Shapes.{Shape}
use Rattle.row_parts.specs.Contents.{Contents, fresh}
use Rattle.run_history.specs.Cases.{fresh_of}
use Rattle.run_history.specs.Made.{row_written, deliveries_of}
use Rattle.run_history.specs.Runs.{Run, run_of, row_of, changed, row_after, followed, empty_run}
use Rattle.run_history.specs.Legal.{floor_of}
use Rattle.run_history.proofs.Lookups.{each-insert_entry}
use Rattle.list_lemmas.proofs.Lists.{each-append, each-filter, each-flat_map, flat_map-each, found_of_each}
use Rattle.history_laws.proofs.Made.{each_of_commit}

-- the least of some numbers and a bound is at most the bound
pub fold_min-bound : (n : ℕ) (ms : List ℕ) → fold min n ms ≤ n
fold_min-bound n [] = omega arith
fold_min-bound n (m ∷ ms) = omega (arith, fold_min-bound (min n m) ms)

-- and at most each of the numbers
fold_min-each : (n : ℕ) (ms : List ℕ) → AllByRecursion (λ m. fold min n ms ≤ m) ms
fold_min-each n [] = tt
fold_min-each n (m ∷ ms) = (omega (arith, fold_min-bound (min n m) ms), fold_min-each (min n m) ms)

-- what is at most the bound and each of the numbers is at most the least of them
fold_min-least : (x n : ℕ) (ms : List ℕ) → x ≤ n → AllByRecursion (λ m. x ≤ m) ms → x ≤ fold min n ms
fold_min-least x n [] bound each = bound
fold_min-least x n (m ∷ ms) bound each = fold_min-least x (min n m) ms (let first = each.0 in omega (arith, bound, first)) each.1

-- each of these deliveries has at least this commit number
abbrev pub CommitsFrom : ℕ → List Delivery → Type 0
CommitsFrom x = AllByRecursion (λ (d : Delivery). x ≤ d.id.commit)

-- nothing that is pending has a lesser commit number, and neither has the next entry
pub record IsFloorBelow (x : ℕ) (run : Run) : Type 0 where
  pub next : x ≤ run.next
  pub pending : AllByRecursion (λ (r : RowName × Contents). CommitsFrom x r.1.pending) run.rows

-- the commit numbers of deliveries, as numbers
commits_from : (x : ℕ) (ds : List Delivery) → CommitsFrom x ds → AllByRecursion (λ m. x ≤ m) (map (λ (d : Delivery). d.id.commit) ds)
commits_from x [] each = tt
commits_from x (d ∷ ds) each = (each.0, commits_from x ds each.1)

-- and back
from_commits : (x : ℕ) (ds : List Delivery) → AllByRecursion (λ m. x ≤ m) (map (λ (d : Delivery). d.id.commit) ds) → CommitsFrom x ds
from_commits x [] each = tt
from_commits x (d ∷ ds) each = (each.0, from_commits x ds each.1)

-- the commit numbers of what is pending
abbrev commits_of : Run → List ℕ
commits_of run = map (λ (d : Delivery). d.id.commit) (flat_map (λ (r : RowName × Contents). r.1.pending) run.rows)

-- a bound of all that is pending and of the next number is a bound of the floor
pub floor_of-bound : (x : ℕ) (run : Run) → IsFloorBelow x run → x ≤ floor_of run
floor_of-bound x run below = fold_min-least x run.next (commits_of run) below.next
    (commits_from x (flat_map (λ (r : RowName × Contents). r.1.pending) run.rows)
    (each-flat_map (λ (d : Delivery). x ≤ d.id.commit) (λ (r : RowName × Contents). r.1.pending) run.rows below.pending))

-- the floor is at most the next number, and at most each commit number that is pending
pub floor_of-below : (run : Run) → IsFloorBelow (floor_of run) run
floor_of-below run = record {
  next = fold_min-bound run.next (commits_of run);
  pending = flat_map-each (λ (d : Delivery). floor_of run ≤ d.id.commit) (λ (r : RowName × Contents). r.1.pending) run.rows
      (from_commits (floor_of run) (flat_map (λ (r : RowName × Contents). r.1.pending) run.rows)
      (fold_min-each run.next (commits_of run)));
}

-- deliveries of an entry have at least each number up to the entry's
sent_from : (x n : ℕ) (ds : List Delivery) → x ≤ n → AllByRecursion (λ (d : Delivery). d.id.commit ≡ n) ds → CommitsFrom x ds
sent_from x n [] below each = tt
sent_from x n (d ∷ ds) below each = (let is = each.0 in omega (arith, below, is), sent_from x n ds below each.1)

-- what one entry leaves pending in its row keeps a bound that the row kept, and that the entry's number keeps
changed-from : (x n : ℕ) (entry : Entry) (sent : List Delivery) (row : Contents) → x ≤ n
    → AllByRecursion (λ (d : Delivery). d.id.commit ≡ n) sent → CommitsFrom x row.pending → CommitsFrom x (changed entry sent row).pending
changed-from x n (Inject seq part line item) sent row below new old =
    each-append (λ (d : Delivery). x ≤ d.id.commit) row.pending sent old (sent_from x n sent below new)
changed-from x n (Handle seq name id effects) sent row below new old =
    each-append (λ (d : Delivery). x ≤ d.id.commit) row.pending sent old (sent_from x n sent below new)
changed-from x n (Fire seq name timer mark effects) sent row below new old =
    each-append (λ (d : Delivery). x ≤ d.id.commit) row.pending sent old (sent_from x n sent below new)
changed-from x n (Ack seq name id) sent row below new old = each-filter (λ (d : Delivery). x ≤ d.id.commit) _ row.pending old
changed-from x n _ sent row below new old = old

-- one more entry keeps each bound of the floor
pub IsFloorBelow-followed : (shape : Shape) (run : Run) (entry : Entry) (x : ℕ) → IsFloorBelow x run
    → IsFloorBelow x (followed shape run entry)
IsFloorBelow-followed shape run entry x below = record {
  next = let before = below.next in omega (arith, before);
  pending = by_row (row_written entry);
}
  where
    sent : List Delivery
    sent = deliveries_of shape run.made run.next entry

    by_row : (written : Option RowName) → AllByRecursion (λ (r : RowName × Contents). CommitsFrom x r.1.pending)
        (option_map_or (λ (name : RowName). insert_entry row_cmp run.rows name (row_after shape run entry sent name)) written run.rows)
    by_row None = below.pending
    by_row (Some name) = each-insert_entry row_cmp (λ (r : Contents). CommitsFrom x r.pending) run.rows name
        (row_after shape run entry sent name) below.pending
        (changed-from x run.next entry sent (row_of shape run name) below.next (each_of_commit shape run.made run.next entry)
        (found_of_each (λ (r : Contents). CommitsFrom x r.pending) (is_at (row_cmp name)) run.rows
        (fresh (fresh_of shape name.part)) below.pending tt))

-- one more entry does not lower the floor
pub floor_of-followed : (shape : Shape) (run : Run) (entry : Entry) → floor_of run ≤ floor_of (followed shape run entry)
floor_of-followed shape run entry = floor_of-bound (floor_of run) (followed shape run entry)
    (IsFloorBelow-followed shape run entry (floor_of run) (floor_of-below run))

-- more entries keep each bound of the floor
IsFloorBelow-fold : (shape : Shape) (entries : List Entry) (run : Run) (x : ℕ) → IsFloorBelow x run
    → IsFloorBelow x (fold (followed shape) run entries)
IsFloorBelow-fold shape [] run x below = below
IsFloorBelow-fold shape (e ∷ es) run x below = IsFloorBelow-fold shape es (followed shape run e) x
    (IsFloorBelow-followed shape run e x below)

-- the floor never falls
pub floor_of-rises : (shape : Shape) (front rest : List Entry) → floor_of (run_of shape front) ≤ floor_of (run_of shape (front ++ rest))
floor_of-rises shape front rest =
    subst (λ (run : Run). floor_of (run_of shape front) ≤ floor_of run) (sym (fold-append (followed shape) empty_run front rest))
    (floor_of-bound (floor_of (run_of shape front)) _
    (IsFloorBelow-fold shape rest (run_of shape front) (floor_of (run_of shape front)) (floor_of-below (run_of shape front))))

-- what is pending in the row of a name is at or above the floor
pub row_of-above : (shape : Shape) (run : Run) (name : RowName) → CommitsFrom (floor_of run) (row_of shape run name).pending
row_of-above shape run name = found_of_each (λ (r : Contents). CommitsFrom (floor_of run) r.pending) (is_at (row_cmp name)) run.rows
    (fresh (fresh_of shape name.part))
    (floor_of-below run).pending tt

-- the least of some numbers and a bound is the bound, or one of the numbers
fold_min-reached : (n : ℕ) (ms : List ℕ) → (fold min n ms ≡ n) ⊎ Contains ms (fold min n ms)
fold_min-reached n [] = inl refl
fold_min-reached n (m ∷ ms) = by_case (fold_min-reached (min n m) ms)
  where
    by_less : (min n m ≡ n) ⊎ (min n m ≡ m)
    by_less = elim (cases_lt n m) [ inl less ↦ inl (omega (arith, less)) | inr le ↦ inr (omega (arith, le)) ]

    head : fold min (min n m) ms ≡ min n m → (min n m ≡ n) ⊎ (min n m ≡ m)
        → (fold min (min n m) ms ≡ n) ⊎ Contains (m ∷ ms) (fold min (min n m) ms)
    head same (inl one) = inl (same ∙ one)
    head same (inr other) = inr (0, omega arith, sym (same ∙ other))

    by_case : (fold min (min n m) ms ≡ min n m) ⊎ Contains ms (fold min (min n m) ms)
        → (fold min (min n m) ms ≡ n) ⊎ Contains (m ∷ ms) (fold min (min n m) ms)
    by_case (inl same) = head same by_less
    by_case (inr has) = inr (suc has.0, omega (arith, has.1), has.2)

-- the floor is the next number, or is the number of something that is pending
pub floor_of-reached : (run : Run) → (floor_of run ≡ run.next) ⊎ Contains
    (map (λ (d : Delivery). d.id.commit) (flat_map (λ (r : RowName × Contents). r.1.pending) run.rows)) (floor_of run)
floor_of-reached run = fold_min-reached run.next (commits_of run)
