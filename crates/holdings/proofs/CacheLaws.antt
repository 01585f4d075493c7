-- The rows that are cached, by their names.
use Rattle.std.proofs.Common.{◌≡◌, ◌<◌, ℕ, zero, suc, true, false, cond, List, [], ◌∷◌, ◌++◌, length, map, take, drop, get_or, refl, sym, ◌∙◌, ap, subst, arith, Result}
use Rattle.std.specs.Prelude.{Some, None, slice_set}
use Rattle.std.specs.List.{AllByRecursion}
use Rattle.std.specs.List.Sorted.{IsStrictlySortedBy, IsBinarySearchResult, IsSearchInRange}
use Rattle.std.specs.Map.{lookup, keys_of}
use Rattle.std.specs.BTreeMap.{insert_entry, is_at}
use Rattle.std.specs.Ordering.{is_eq, on, ordering_reverse}
use Rattle.std.specs.Cmp.{tied_itself}
use Rattle.std.specs.declared.cmp.Ordering.{Ordering}
use Rattle.std.specs.declared.cmp.Ordering.TheVariants.{Less, Equal, Greater}
use Rattle.std.proofs.lemmas.Bool.{both_ways}
use Rattle.std.proofs.lemmas.List.{take-append-drop}
use Rattle.std.proofs.lemmas.List.Elements.{recursion_from_All}
use Rattle.mw_types.specs.Orders.{row_cmp}
use Rattle.mw_types.specs.declared.identity.RowName.{RowName}
use Rattle.mw_types.proofs.OrderLaws.{row_cmp-total}
use Rattle.row_parts.specs.Contents.{Contents}
use Rattle.row_parts.specs.Places.{IsGap, IsHit, IsHitOrGap}
use Rattle.row_parts.proofs.PlaceLemmas.{is_place}
use Rattle.list_lemmas.proofs.Lists.{each-append, each-weaker, none_some}
use Rattle.run_history.proofs.Lookups.{lookup-insert_entry, same_entries, shadowed, sorted-insert_entry, swapped}
use Rattle.history_laws.proofs.RowSteps.{same_row}
use Rattle.book.specs.Claims.{named}
use Rattle.book.specs.declared.answers.NamedRow.{NamedRow}
use Rattle.holdings.specs.Caching.{merged}

-- ---- names

-- a name that ties with another is it
pub tied_row : (a b : RowName) → row_cmp a b ≡ Equal → a ≡ b
tied_row a b tie = same_row a b (ap is_eq tie)

-- names that tie with one name tie
pub apart-tied : (q a b : RowName) → (a ≡ b → ⊥) → is_at (row_cmp q) a ≡ true → is_at (row_cmp q) b ≡ false
apart-tied q a b apart one = elim (is_at (row_cmp q) b) as (λ x. is_at (row_cmp q) b ≡ x → x ≡ false) [
  | true ↦ λ other. absurd (apart (sym (same_row q a one) ∙ same_row q b other))
  | false ↦ λ _. refl
] refl

-- names in order are rows in order of their names
ordered_on : (rows : List NamedRow) → IsStrictlySortedBy row_cmp (map (λ (r : NamedRow). r.name) rows)
    → IsStrictlySortedBy (on (λ (r : NamedRow). r.name) row_cmp) rows
unfolding IsStrictlySortedBy
ordered_on [] ordered = tt
ordered_on (r ∷ rows) ordered = (each rows ordered.0, ordered_on rows ordered.1)
  where
    each : (others : List NamedRow) → AllByRecursion (λ (n : RowName). row_cmp r.name n ≡ Less) (map (λ (x : NamedRow). x.name) others)
        → AllByRecursion (λ (x : NamedRow). on (λ (y : NamedRow). y.name) row_cmp r x ≡ Less) others
    each [] all = tt
    each (x ∷ others) all = (all.0, each others all.1)

-- what a search by halves answers of a name
pub is_name_place : (name : RowName) (rows : List NamedRow) (found : Result ℕ ℕ)
    → IsStrictlySortedBy row_cmp (map (λ (r : NamedRow). r.name) rows) → IsSearchInRange found (length rows)
    → IsBinarySearchResult (λ (r : NamedRow). row_cmp r.name name) rows found
    → IsHitOrGap (λ (r : NamedRow). row_cmp r.name name) rows found
is_name_place name rows found ordered within at =
    is_place (λ (r : NamedRow). r.name) row_cmp-total name rows found (ordered_on rows ordered) within at

-- ---- look-ups among merged rows

-- a look-up finds a row of the list first
pub lookup-merged : (name : RowName) (answered : List NamedRow) (others : List (RowName × Contents))
    → lookup (is_at (row_cmp name)) (merged answered others) ≡ lookup (is_at (row_cmp name)) (map named answered ++ others)
lookup-merged name [] others = refl
lookup-merged name (r ∷ answered) others =
    lookup-insert_entry row_cmp-total (merged answered others) r.name r.row name
    ∙ ap (cond (is_at (row_cmp name) r.name) (Some r.row)) (lookup-merged name answered others)

-- the merged rows stand in order of their names
pub merged-ordered : (answered : List NamedRow) (others : List (RowName × Contents)) → IsStrictlySortedBy row_cmp (keys_of others)
    → IsStrictlySortedBy row_cmp (keys_of (merged answered others))
merged-ordered [] others ordered = ordered
merged-ordered (r ∷ answered) others ordered =
    sorted-insert_entry row_cmp-total (merged answered others) r.name r.row (merged-ordered answered others ordered)

-- a list that stands in order is as it is, where nothing is beside it
pub merged-none : (answered : List NamedRow) → IsStrictlySortedBy row_cmp (map (λ (r : NamedRow). r.name) answered)
    → merged answered [] ≡ map named answered
unfolding IsStrictlySortedBy
merged-none [] ordered = refl
merged-none (r ∷ answered) ordered =
    ap (λ (l : List (RowName × Contents)). insert_entry row_cmp l r.name r.row) (merged-none answered ordered.1) ∙ first answered ordered.0
  where
    first : (others : List NamedRow) → AllByRecursion (λ (n : RowName). row_cmp r.name n ≡ Less) (map (λ (x : NamedRow). x.name) others)
        → insert_entry row_cmp (map named others) r.name r.row ≡ named r ∷ map named others
    first [] all = refl
    first (x ∷ others) all = rw all.0 refl

-- where nothing is found in a list with more behind, nothing is found in the list
pub none-front : (name : RowName) (xs ys : List (RowName × Contents)) → lookup (is_at (row_cmp name)) (xs ++ ys) ≡ None
    → lookup (is_at (row_cmp name)) xs ≡ None
none-front name [] ys none = refl
none-front name (x ∷ xs) ys none =
    elim (is_at (row_cmp name) x.0) as (λ b. cond b (Some x.1) (lookup (is_at (row_cmp name)) (xs ++ ys)) ≡ None
    → cond b (Some x.1) (lookup (is_at (row_cmp name)) xs) ≡ None) [
      | true ↦ λ some. absurd (none_some x.1 (sym some))
      | false ↦ λ rest. none-front name xs ys rest
    ] none

-- where nothing is found in a list, what is behind it is found
pub lookup-behind : (name : RowName) (xs ys : List (RowName × Contents)) → lookup (is_at (row_cmp name)) xs ≡ None
    → lookup (is_at (row_cmp name)) (xs ++ ys) ≡ lookup (is_at (row_cmp name)) ys
lookup-behind name [] ys none = refl
lookup-behind name (x ∷ xs) ys none =
    elim (is_at (row_cmp name) x.0) as (λ b. cond b (Some x.1) (lookup (is_at (row_cmp name)) xs) ≡ None
    → cond b (Some x.1) (lookup (is_at (row_cmp name)) (xs ++ ys)) ≡ lookup (is_at (row_cmp name)) ys) [
      | true ↦ λ some. absurd (none_some x.1 (sym some))
      | false ↦ λ rest. lookup-behind name xs ys rest
    ] none

-- ---- a row beside the list

-- a row that is put behind rows of other names
lookup-put_behind : (q name : RowName) (row : Contents) (xs es : List (RowName × Contents)) → lookup (is_at (row_cmp name)) xs ≡ None
    → lookup (is_at (row_cmp q)) (xs ++ insert_entry row_cmp es name row)
    ≡ cond (is_at (row_cmp q) name) (Some row) (lookup (is_at (row_cmp q)) (xs ++ es))
lookup-put_behind q name row [] es none = lookup-insert_entry row_cmp-total es name row q
lookup-put_behind q name row (x ∷ xs) es none =
    elim (is_at (row_cmp name) x.0) as (λ b. is_at (row_cmp name) x.0 ≡ b → cond b (Some x.1) (lookup (is_at (row_cmp name)) xs) ≡ None
    → lookup (is_at (row_cmp q)) (x ∷ xs ++ insert_entry row_cmp es name row)
    ≡ cond (is_at (row_cmp q) name) (Some row) (lookup (is_at (row_cmp q)) (x ∷ xs ++ es))) [
      | true ↦ λ _ some. absurd (none_some x.1 (sym some))
      | false ↦ λ other rest.
          ap (cond (is_at (row_cmp q) x.0) (Some x.1)) (lookup-put_behind q name row xs es rest)
          ∙ swapped (is_at (row_cmp q) x.0) (is_at (row_cmp q) name) (Some x.1) (Some row) (lookup (is_at (row_cmp q)) (xs ++ es))
          (apart-tied q x.0 name (λ same. both_ways (is_at (row_cmp name) x.0) other (itself same)))
    ] refl none
  where
    itself : x.0 ≡ name → is_at (row_cmp name) x.0 ≡ true
    itself same = subst (λ (n : RowName). is_at (row_cmp name) n ≡ true) (sym same)
        (ap is_eq (tied_itself row_cmp-total name))

-- a row beside the list, of a name that the list has not, is put among all
pub merged-insert : (answered : List NamedRow) (others : List (RowName × Contents)) (name : RowName) (row : Contents)
    → IsStrictlySortedBy row_cmp (keys_of others) → lookup (is_at (row_cmp name)) (map named answered) ≡ None
    → merged answered (insert_entry row_cmp others name row) ≡ insert_entry row_cmp (merged answered others) name row
merged-insert answered others name row ordered none =
    same_entries row_cmp-total tied_row (merged answered (insert_entry row_cmp others name row))
    (insert_entry row_cmp (merged answered others) name row)
    (merged-ordered answered (insert_entry row_cmp others name row) (sorted-insert_entry row_cmp-total others name row ordered))
    (sorted-insert_entry row_cmp-total (merged answered others) name row (merged-ordered answered others ordered))
    (λ q. lookup-merged q answered (insert_entry row_cmp others name row)
    ∙ lookup-put_behind q name row (map named answered) others none
    ∙ ap (cond (is_at (row_cmp q) name) (Some row)) (sym (lookup-merged q answered others))
    ∙ sym (lookup-insert_entry row_cmp-total (merged answered others) name row q))

-- ---- a row of the list

-- no row of a list is of a name that would stand in a gap of it
pub lookup-gap : (name : RowName) (rows : List NamedRow) (at : ℕ) → IsGap (λ (r : NamedRow). row_cmp r.name name) rows at
    → lookup (is_at (row_cmp name)) (map named rows) ≡ None
lookup-gap name rows at gap =
    none rows (subst (AllByRecursion (λ (r : NamedRow). is_at (row_cmp name) r.name ≡ false)) (take-append-drop at rows)
    (each-append (λ (r : NamedRow). is_at (row_cmp name) r.name ≡ false) (take at rows) (drop at rows)
    (each-weaker (λ (r : NamedRow). row_cmp r.name name ≡ Less) (λ (r : NamedRow). is_at (row_cmp name) r.name ≡ false)
    (λ r below. ap is_eq (row_cmp-total.antisymm name r.name ∙ ap ordering_reverse below)) (take at rows)
    (recursion_from_All (λ (r : NamedRow). row_cmp r.name name ≡ Less) (take at rows) gap.before))
    (each-weaker (λ (r : NamedRow). row_cmp r.name name ≡ Greater) (λ (r : NamedRow). is_at (row_cmp name) r.name ≡ false)
    (λ r above. ap is_eq (row_cmp-total.antisymm name r.name ∙ ap ordering_reverse above)) (drop at rows)
    (recursion_from_All (λ (r : NamedRow). row_cmp r.name name ≡ Greater) (drop at rows) gap.behind))))
  where
    none : (xs : List NamedRow) → AllByRecursion (λ (r : NamedRow). is_at (row_cmp name) r.name ≡ false) xs
        → lookup (is_at (row_cmp name)) (map named xs) ≡ None
    none [] each = refl
    none (x ∷ xs) each = ap (λ b. cond b (Some x.row) (lookup (is_at (row_cmp name)) (map named xs))) each.0 ∙ none xs each.1

-- at its place a row is found
pub lookup-hit : (name : RowName) (rows : List NamedRow) (others : List (RowName × Contents)) (at : ℕ) (d : NamedRow)
    → IsHit (λ (r : NamedRow). row_cmp r.name name) rows at
    → lookup (is_at (row_cmp name)) (map named rows ++ others) ≡ Some (get_or rows at d).row
lookup-hit name rows others at d hit =
    found rows at hit.within (recursion_from_All (λ (r : NamedRow). row_cmp r.name name ≡ Less) (take at rows) hit.before) (hit.here d)
  where
    found : (xs : List NamedRow) (i : ℕ) → i < length xs → AllByRecursion (λ (r : NamedRow). row_cmp r.name name ≡ Less) (take i xs)
        → row_cmp (get_or xs i d).name name ≡ Equal → lookup (is_at (row_cmp name)) (map named xs ++ others) ≡ Some (get_or xs i d).row
    found [] i within before here = absurd (omega (arith, within))
    found (x ∷ xs) zero within before here =
        ap (λ o. cond (is_eq o) (Some x.row) (lookup (is_at (row_cmp name)) (map named xs ++ others)))
        (row_cmp-total.antisymm name x.name ∙ ap ordering_reverse here)
    found (x ∷ xs) (suc i) within before here =
        ap (λ o. cond (is_eq o) (Some x.row) (lookup (is_at (row_cmp name)) (map named xs ++ others)))
        (row_cmp-total.antisymm name x.name ∙ ap ordering_reverse before.0)
        ∙ found xs i (omega (arith, within)) before.1 here

-- another row at a place of a list, seen at each name
lookup-set : (name : RowName) (row : Contents) (others : List (RowName × Contents)) (d : NamedRow) (q : RowName) (xs : List NamedRow) (i : ℕ)
    → i < length xs → AllByRecursion (λ (r : NamedRow). row_cmp r.name name ≡ Less) (take i xs) → row_cmp (get_or xs i d).name name ≡ Equal
    → lookup (is_at (row_cmp q)) (map named (slice_set xs i (record (get_or xs i d) { row = row })) ++ others)
    ≡ cond (is_at (row_cmp q) name) (Some row) (lookup (is_at (row_cmp q)) (map named xs ++ others))
lookup-set name row others d q [] i within before here = absurd (omega (arith, within))
lookup-set name row others d q (x ∷ xs) zero within before here =
    let same : x.name ≡ name = tied_row x.name name here in
    let rest = lookup (is_at (row_cmp q)) (map named xs ++ others) in
    ap (λ (n : RowName). cond (is_at (row_cmp q) n) (Some row) rest) same
    ∙ shadowed (is_at (row_cmp q) name) (Some row) (Some x.row) rest
    ∙ ap (λ (n : RowName). cond (is_at (row_cmp q) name) (Some row) (cond (is_at (row_cmp q) n) (Some x.row) rest)) (sym same)
lookup-set name row others d q (x ∷ xs) (suc i) within before here =
    ap (cond (is_at (row_cmp q) x.name) (Some x.row)) (lookup-set name row others d q xs i (omega (arith, within)) before.1 here)
    ∙ swapped (is_at (row_cmp q) x.name) (is_at (row_cmp q) name) (Some x.row) (Some row) (lookup (is_at (row_cmp q)) (map named xs ++ others))
    (λ tie. ap is_eq (subst (λ (n : RowName). row_cmp n name ≡ Less) (sym (same_row q x.name tie)) before.0))

-- another row at the place of its name is put among all
pub merged-set : (answered : List NamedRow) (others : List (RowName × Contents)) (name : RowName) (row : Contents) (at : ℕ) (d : NamedRow)
    → IsStrictlySortedBy row_cmp (keys_of others) → IsHit (λ (r : NamedRow). row_cmp r.name name) answered at
    → merged (slice_set answered at (record (get_or answered at d) { row = row })) others ≡ insert_entry row_cmp (merged answered others) name row
merged-set answered others name row at d ordered hit =
    let after = slice_set answered at (record (get_or answered at d) { row = row }) in
    same_entries row_cmp-total tied_row (merged after others) (insert_entry row_cmp (merged answered others) name row)
    (merged-ordered after others ordered)
    (sorted-insert_entry row_cmp-total (merged answered others) name row (merged-ordered answered others ordered))
    (λ q. lookup-merged q after others
    ∙ lookup-set name row others d q answered at hit.within
    (recursion_from_All (λ (r : NamedRow). row_cmp r.name name ≡ Less) (take at answered) hit.before) (hit.here d)
    ∙ ap (cond (is_at (row_cmp q) name) (Some row)) (sym (lookup-merged q answered others))
    ∙ sym (lookup-insert_entry row_cmp-total (merged answered others) name row q))

-- another row at a place keeps the names
pub names-set : (rows : List NamedRow) (at : ℕ) (row : Contents) (d : NamedRow) → at < length rows
    → map (λ (r : NamedRow). r.name) (slice_set rows at (record (get_or rows at d) { row = row })) ≡ map (λ (r : NamedRow). r.name) rows
names-set [] at row d within = absurd (omega (arith, within))
names-set (r ∷ rows) zero row d within = refl
names-set (r ∷ rows) (suc at) row d within = ap (λ (l : List RowName). r.name ∷ l) (names-set rows at row d (omega (arith, within)))

-- ---- no name has a row in the list and beside it

-- each row of a list in which a name is not found has another name
none-each : (name : RowName) (answered : List NamedRow) → lookup (is_at (row_cmp name)) (map named answered) ≡ None
    → AllByRecursion (λ (r : NamedRow). is_at (row_cmp name) r.name ≡ false) answered
none-each name [] none = tt
none-each name (r ∷ answered) none =
    elim (is_at (row_cmp name) r.name) as (λ b. is_at (row_cmp name) r.name ≡ b
    → cond b (Some r.row) (lookup (is_at (row_cmp name)) (map named answered)) ≡ None
    → AllByRecursion (λ (x : NamedRow). is_at (row_cmp name) x.name ≡ false) (r ∷ answered)) [
      | true ↦ λ _ some. absurd (none_some r.row (sym some))
      | false ↦ λ other rest. (other, none-each name answered rest)
    ] refl none

-- two names tie in either order
turned : (a b : RowName) → is_at (row_cmp a) b ≡ is_at (row_cmp b) a
turned a b = ap is_eq (row_cmp-total.antisymm a b) ∙ reversed (row_cmp b a)
  where
    reversed : (o : Ordering) → is_eq (ordering_reverse o) ≡ is_eq o
    reversed Less = refl
    reversed Equal = refl
    reversed Greater = refl

-- a row beside the list whose name is not in the list
pub apart-add : (answered : List NamedRow) (others : List (RowName × Contents)) (name : RowName) (row : Contents)
    → lookup (is_at (row_cmp name)) (map named answered) ≡ None
    → AllByRecursion (λ (r : NamedRow). lookup (is_at (row_cmp r.name)) others ≡ None) answered
    → AllByRecursion (λ (r : NamedRow). lookup (is_at (row_cmp r.name)) (insert_entry row_cmp others name row) ≡ None) answered
apart-add answered others name row none apart = both answered (none-each name answered none) apart
  where
    both : (xs : List NamedRow) → AllByRecursion (λ (r : NamedRow). is_at (row_cmp name) r.name ≡ false) xs
        → AllByRecursion (λ (r : NamedRow). lookup (is_at (row_cmp r.name)) others ≡ None) xs
        → AllByRecursion (λ (r : NamedRow). lookup (is_at (row_cmp r.name)) (insert_entry row_cmp others name row) ≡ None) xs
    both [] other each = tt
    both (x ∷ xs) other each = (
      lookup-insert_entry row_cmp-total others name row x.name
          ∙ ap (λ b. cond b (Some row) (lookup (is_at (row_cmp x.name)) others)) (turned x.name name ∙ other.0) ∙ each.0,
      both xs other.1 each.1,
    )

-- what holds of each name of a list holds where another row stands at a place
pub names-each_set : (P : RowName → Type 0) (rows : List NamedRow) (at : ℕ) (row : Contents) (d : NamedRow) → at < length rows
    → AllByRecursion (λ (r : NamedRow). P r.name) rows
    → AllByRecursion (λ (r : NamedRow). P r.name) (slice_set rows at (record (get_or rows at d) { row = row }))
names-each_set P [] at row d within each = absurd (omega (arith, within))
names-each_set P (r ∷ rows) zero row d within each = each
names-each_set P (r ∷ rows) (suc at) row d within each = (each.0, names-each_set P rows at row d (omega (arith, within)) each.1)

-- what is beside a list is none of it
pub none-beside : (answered : List NamedRow) (others : List (RowName × Contents)) (name : RowName) (row : Contents)
    → AllByRecursion (λ (r : NamedRow). lookup (is_at (row_cmp r.name)) others ≡ None) answered
    → lookup (is_at (row_cmp name)) others ≡ Some row → lookup (is_at (row_cmp name)) (map named answered) ≡ None
none-beside [] others name row apart found = refl
none-beside (r ∷ answered) others name row apart found =
    elim (is_at (row_cmp name) r.name) as (λ b. is_at (row_cmp name) r.name ≡ b
    → cond b (Some r.row) (lookup (is_at (row_cmp name)) (map named answered)) ≡ None) [
      | true ↦ λ tie. absurd (none_some row (sym apart.0 ∙ ap (λ (n : RowName). lookup (is_at (row_cmp n)) others) (sym (same_row name r.name tie)) ∙ found))
      | false ↦ λ _. none-beside answered others name row apart.1 found
    ] refl
