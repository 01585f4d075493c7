-- Keys that are made of rows, one of a row or none: they are changed with one row, and made anew.
use Rattle.std.proofs.Common.{◌≡◌, Bool, true, false, cond, not, ◌&&◌, ◌||◌, List, [], ◌∷◌, ◌++◌, map, refl, sym, ◌∙◌, ap, true≢false}
use Rattle.std.specs.Prelude.{None, Option, Some}
use Rattle.std.specs.Option.{is_some, option_and_then}
use Rattle.std.specs.Cmp.{IsTotalOrder, tied_itself}
use Rattle.std.specs.List.{AllByRecursion}
use Rattle.std.specs.List.Sorted.{IsStrictlySortedBy}
use Rattle.std.specs.Map.{keys_of, lookup, remove_entry}
use Rattle.std.specs.BTreeMap.{insert_entry, is_at}
use Rattle.std.specs.Ordering.{is_eq, ordering_reverse}
use Rattle.std.proofs.lemmas.Cmp.{eq_by_cmp_equiv}
use Rattle.std.proofs.lemmas.Map.{lookup-none, lookup-remove_entry}
use Rattle.std.proofs.lemmas.Map.Entries.{none_below_head}
use Rattle.std.proofs.lemmas.Map.Keys.{IsDistinct-from_sorted, sorted_head, sorted_tail}
use Rattle.std.specs.declared.cmp.Ordering.{Ordering}
use Rattle.std.specs.declared.cmp.Ordering.TheVariants.{Less, Equal, Greater}
use Rattle.mw_types.specs.Orders.{row_cmp}
use Rattle.mw_types.specs.declared.identity.RowName.{RowName}
use Rattle.mw_types.proofs.OrderLaws.{row_cmp-total}
use Rattle.row_parts.specs.Contents.{Contents}
use Rattle.run_history.specs.Runs.{cached, row_in}
use Rattle.run_history.proofs.Lookups.{lookup-insert_entry}
use Rattle.history_laws.proofs.RowSteps.{same_row}
use Rattle.book.specs.Claims.{named}
use Rattle.book.specs.declared.answers.NamedRow.{NamedRow}
use Rattle.holdings.specs.Caching.{AreOrdered, merged}
use Rattle.holdings.specs.Keyed.{AreKeys, AreKeysLeft, HasKeyed, HasRekeyed, IsThere, has_any, has_key, ties}
use Rattle.holdings.proofs.CacheLaws.{lookup-behind, lookup-merged}
use Rattle.holdings.proofs.WorkLaws.{before-none}

module _ {K : Type 0} (cmp : K → K → Ordering) (place : K → RowName) (key : RowName → Contents → Option K)
    (placed : (n : RowName) (row : Contents) (k : K) → key n row ≡ Some k → place k ≡ n)
    (same : (a b : K) → is_at (cmp a) b ≡ true → a ≡ b) where
  -- a key of a row that ties with another is of the same row
  tied-place : (n : RowName) (row : Contents) (k : K) (found : Option K) → key n row ≡ found → ties cmp k found ≡ true → place k ≡ n
  tied-place n row k None is tie = absurd (true≢false (sym tie))
  tied-place n row k (Some j) is tie = ap place (same k j tie) ∙ placed n row j is

  -- a key of a row of another name does not tie
  apart-place : (n : RowName) (row : Contents) (k : K) → is_at (row_cmp (place k)) n ≡ false → ties cmp k (key n row) ≡ false
  apart-place n row k apart = elim (ties cmp k (key n row)) as (λ b. ties cmp k (key n row) ≡ b → b ≡ false) [
    | true ↦ λ tie. sym (ap is_eq (tied_itself row_cmp-total n)) ∙ ap (λ m. is_at (row_cmp m) n) (sym (tied-place n row k (key n row) refl tie)) ∙ apart
    | false ↦ λ _. refl
  ] refl

  -- so does the key of a row, if there is one
  apart-before : (n : RowName) (before : Option Contents) (k : K) → is_at (row_cmp (place k)) n ≡ false
      → ties cmp k (option_and_then (key n) before) ≡ false
  apart-before n None k apart = refl
  apart-before n (Some row) k apart = apart-place n row k apart

  -- a key is taken away and put, or neither
  either : (a b : Bool) → (a || (not b && b)) ≡ a
  either true b = refl
  either false true = refl
  either false false = refl

  -- the key of a row that is there, if there is one
  has-before : (k : K) (before : Option Contents) (n : RowName) → has_key cmp key k n before ≡ ties cmp k (option_and_then (key n) before)
  has-before k None n = refl
  has-before k (Some row) n = refl

  -- the keys stay those of the rows once a row is put, with its key in the place of the one before
  pub keys-put : (rows : List (RowName × Contents)) (name : RowName) (row : Contents) (old new : List (K × Unit {0}))
      → AreKeys cmp place key rows old
      → HasRekeyed cmp (option_and_then (key name) (row_in (cached rows) name)) (key name row) old new
      → AreKeys cmp place key (insert_entry row_cmp rows name row) new
  keys-put rows name row old new are has = record {
    ordered = has.ordered;
    each = λ k. has.each k
        ∙ elim (is_at (row_cmp (place k)) name) as (λ b. is_at (row_cmp (place k)) name ≡ b
        → (ties cmp k (key name row) || (not (ties cmp k (option_and_then (key name) (row_in (cached rows) name))) && is_some (lookup (is_at (cmp k)) old)))
        ≡ has_key cmp key k (place k) (cond b (Some row) (row_in (cached rows) (place k)))) [
          | true ↦ λ tie. here k (same_row (place k) name tie)
          | false ↦ λ apart. there k apart
        ] refl
        ∙ sym (ap (has_key cmp key k (place k)) (lookup-insert_entry row_cmp-total rows name row (place k)));
  }
    where
      -- a key of the row's name
      here : (k : K) → place k ≡ name
          → (ties cmp k (key name row) || (not (ties cmp k (option_and_then (key name) (row_in (cached rows) name))) && is_some (lookup (is_at (cmp k)) old)))
          ≡ has_key cmp key k (place k) (Some row)
      here k at =
          let was : is_some (lookup (is_at (cmp k)) old) ≡ ties cmp k (option_and_then (key name) (row_in (cached rows) name)) =
          are.each k ∙ ap (λ n. has_key cmp key k n (row_in (cached rows) n)) at ∙ has-before k (row_in (cached rows) name) name in
          ap (λ b. ties cmp k (key name row) || (not (ties cmp k (option_and_then (key name) (row_in (cached rows) name))) && b)) was
          ∙ either (ties cmp k (key name row)) (ties cmp k (option_and_then (key name) (row_in (cached rows) name)))
          ∙ ap (λ n. ties cmp k (key n row)) (sym at)

      -- a key of another name
      there : (k : K) → is_at (row_cmp (place k)) name ≡ false
          → (ties cmp k (key name row) || (not (ties cmp k (option_and_then (key name) (row_in (cached rows) name))) && is_some (lookup (is_at (cmp k)) old)))
          ≡ has_key cmp key k (place k) (row_in (cached rows) (place k))
      there k apart =
          ap (λ b. b || (not (ties cmp k (option_and_then (key name) (row_in (cached rows) name))) && is_some (lookup (is_at (cmp k)) old)))
          (apart-place name row k apart)
          ∙ ap (λ b. not b && is_some (lookup (is_at (cmp k)) old)) (apart-before name (row_in (cached rows) name) k apart)
          ∙ are.each k

  -- the key of the row that is there, if there is one, is among the keys
  pub keys-there : (rows : List (RowName × Contents)) (name : RowName) (before : Option Contents) (keys : List (K × Unit {0}))
      → AreKeys cmp place key rows keys → before ≡ row_in (cached rows) name → IsThere cmp (option_and_then (key name) before) keys
  keys-there rows name before keys are is = record {
    there = λ k tie.
        are.each k ∙ ap (λ n. has_key cmp key k n (row_in (cached rows) n)) (at before k tie)
        ∙ ap (has_key cmp key k name) (sym is) ∙ has-before k before name ∙ tie;
  }
    where
      -- a key that ties with it is of the row's name
      at : (before : Option Contents) (k : K) → ties cmp k (option_and_then (key name) before) ≡ true → place k ≡ name
      at None k tie = absurd (true≢false (sym tie))
      at (Some row) k tie = tied-place name row k (key name row) refl tie

-- ---- one key

module _ {K : Type 0} (cmp : K → K → Ordering) (total : IsTotalOrder cmp) (same : (a b : K) → is_at (cmp a) b ≡ true → a ≡ b) where
  -- two keys tie in either order
  turned : (a b : K) → is_at (cmp a) b ≡ is_at (cmp b) a
  turned a b = ap is_eq (total.antisymm a b) ∙ reversed (cmp b a)
    where
      reversed : (o : Ordering) → is_eq (ordering_reverse o) ≡ is_eq o
      reversed Less = refl
      reversed Equal = refl
      reversed Greater = refl

  -- a key that is put
  pub rekeyed-put : (j : K) (old new : List (K × Unit {0})) → IsStrictlySortedBy cmp (keys_of new) → new ≡ insert_entry cmp old j tt
      → HasRekeyed cmp None (Some j) old new
  rekeyed-put j old new ordered is = record {
    ordered = ordered;
    each = λ k. ap (λ (es : List (K × Unit {0})). is_some (lookup (is_at (cmp k)) es)) is
        ∙ ap is_some (lookup-insert_entry total old j tt k) ∙ either_way (is_at (cmp k) j) (lookup (is_at (cmp k)) old);
  }
    where
      either_way : (b : Bool) (o : Option (Unit {0})) → is_some (cond b (Some tt) o) ≡ (b || is_some o)
      either_way true o = refl
      either_way false o = refl

  -- a key that is taken away
  pub rekeyed-gone : (j : K) (old new : List (K × Unit {0})) → IsStrictlySortedBy cmp (keys_of old) → IsStrictlySortedBy cmp (keys_of new)
      → new ≡ remove_entry (is_at (cmp j)) old → HasRekeyed cmp (Some j) None old new
  rekeyed-gone j old new before ordered is = record {
    ordered = ordered;
    each = λ k. ap (λ (es : List (K × Unit {0})). is_some (lookup (is_at (cmp k)) es)) is
        ∙ ap is_some (lookup-remove_entry (eq_by_cmp_equiv total) (is_at (cmp j))
        (λ x y tie. ap (λ z. is_at (cmp z) y) (same j x tie)) k old (IsDistinct-from_sorted cmp (keys_of old) before))
        ∙ ap (λ b. is_some (cond b None (lookup (is_at (cmp k)) old))) (turned j k)
        ∙ either_way (is_at (cmp k) j) (lookup (is_at (cmp k)) old);
  }
    where
      either_way : (b : Bool) (o : Option (Unit {0})) → is_some (cond b None o) ≡ (not b && is_some o)
      either_way true o = refl
      either_way false o = refl

-- a key is taken away and put again, which changes nothing where it was there
pub rekeyed-same : {K : Type 0} (cmp : K → K → Ordering) (key : Option K) (old : List (K × Unit {0})) → IsStrictlySortedBy cmp (keys_of old)
    → IsThere cmp key old → HasRekeyed cmp key key old old
rekeyed-same cmp key old ordered is = record {
  ordered = ordered;
  each = λ k. by_tie (ties cmp k key) (is_some (lookup (is_at (cmp k)) old)) (is.there k);
}
  where
    by_tie : (t s : Bool) → (t ≡ true → s ≡ true) → s ≡ (t || (not t && s))
    by_tie true s there = there refl
    by_tie false s there = refl

-- one key is taken away, then one is put
pub rekeyed-both : {K : Type 0} (cmp : K → K → Ordering) (before after : Option K) (old mid new : List (K × Unit {0}))
    → HasRekeyed cmp before None old mid → HasRekeyed cmp None after mid new → HasRekeyed cmp before after old new
rekeyed-both cmp before after old mid new one two = record {
  ordered = two.ordered;
  each = λ k. two.each k ∙ ap (λ b. ties cmp k after || b) (one.each k);
}

-- ---- all keys, made anew

module _ {K : Type 0} (cmp : K → K → Ordering) (key : RowName → Contents → Option K) where
  -- all rows are left
  pub keys_left-all : (rows : List (RowName × Contents)) (start : List (K × Unit {0})) → IsStrictlySortedBy cmp (keys_of start)
      → AreKeysLeft cmp key rows rows start start
  keys_left-all rows start ordered = record { ordered = ordered; each = λ k. refl }

  -- one row is past
  pub keys_left-one : (row : RowName × Contents) (left all : List (RowName × Contents)) (now new start : List (K × Unit {0}))
      → HasRekeyed cmp None (key row.0 row.1) now new → AreKeysLeft cmp key (row ∷ left) all now start → AreKeysLeft cmp key left all new start
  keys_left-one row left all now new start has are = record {
    ordered = has.ordered;
    each = λ k. ap (λ b. has_any cmp key k left || b) (has.each k)
        ∙ moved (has_any cmp key k left) (ties cmp k (key row.0 row.1)) (is_some (lookup (is_at (cmp k)) now)) ∙ are.each k;
  }
    where
      moved : (a b c : Bool) → (a || (b || c)) ≡ ((b || a) || c)
      moved true true c = refl
      moved true false c = refl
      moved false true c = refl
      moved false false c = refl

  -- no row is left
  pub keys_left-none : (left all : List (RowName × Contents)) (now start : List (K × Unit {0})) → left ≡ [] → AreKeysLeft cmp key left all now start
      → HasKeyed cmp key all start now
  keys_left-none left all now start none are = record {
    ordered = are.ordered;
    each = λ k. ap (λ (l : List (RowName × Contents)). has_any cmp key k l || is_some (lookup (is_at (cmp k)) now)) (sym none) ∙ are.each k;
  }

-- no name stands twice
abbrev IsApart : List (RowName × Contents) → Type 0
IsApart [] = Unit {0}
IsApart (e ∷ es) = (lookup (is_at (row_cmp e.0)) es ≡ None) × IsApart es

-- where rows stand in order, no name stands twice
apart-sorted : (es : List (RowName × Contents)) → IsStrictlySortedBy row_cmp (keys_of es) → IsApart es
apart-sorted [] ordered = tt
apart-sorted (e ∷ es) ordered = (above es (sorted_head row_cmp e.0 (keys_of es) ordered), apart-sorted es (sorted_tail row_cmp e.0 (keys_of es) ordered))
  where
    above : (fs : List (RowName × Contents)) → AllByRecursion (λ (n : RowName). row_cmp e.0 n ≡ Less) (keys_of fs)
        → lookup (is_at (row_cmp e.0)) fs ≡ None
    above [] each = refl
    above (f ∷ fs) each = ap (λ o. cond (is_eq o) (Some f.1) (lookup (is_at (row_cmp e.0)) fs)) each.0 ∙ above fs each.1

-- nor in a list that a claim answered, with the rows beside it behind it
apart-all : (answered : List NamedRow) (others : List (RowName × Contents)) → AreOrdered answered others → IsApart (map named answered ++ others)
unfolding IsStrictlySortedBy
apart-all [] others are = apart-sorted others are.others_ordered
apart-all (r ∷ answered) others are = (
  lookup-behind r.name (map named answered) others (before-none r.name answered are.answered_ordered.0) ∙ are.apart.0,
  apart-all answered others (record {
    answered_ordered = are.answered_ordered.1;
    others_ordered = are.others_ordered;
    apart = are.apart.1;
  }),
)

module _ {K : Type 0} (cmp : K → K → Ordering) (place : K → RowName) (key : RowName → Contents → Option K)
    (placed : (n : RowName) (row : Contents) (k : K) → key n row ≡ Some k → place k ≡ n)
    (same : (a b : K) → is_at (cmp a) b ≡ true → a ≡ b) where
  -- a key that any row has is that of the row of its name
  any-found : (k : K) (es : List (RowName × Contents)) → IsApart es
      → has_any cmp key k es ≡ has_key cmp key k (place k) (lookup (is_at (row_cmp (place k))) es)
  any-found k [] apart = refl
  any-found k (e ∷ es) apart =
      elim (is_at (row_cmp (place k)) e.0) as (λ b. is_at (row_cmp (place k)) e.0 ≡ b
      → (ties cmp k (key e.0 e.1) || has_any cmp key k es)
      ≡ has_key cmp key k (place k) (cond b (Some e.1) (lookup (is_at (row_cmp (place k))) es))) [
        | true ↦ λ tie.
            let at : place k ≡ e.0 = same_row (place k) e.0 tie in
            ap (λ b. ties cmp k (key e.0 e.1) || b) (any-found k es apart.1
            ∙ ap (has_key cmp key k (place k)) (ap (λ n. lookup (is_at (row_cmp n)) es) at ∙ apart.0))
            ∙ alone (ties cmp k (key e.0 e.1)) ∙ ap (λ n. ties cmp k (key n e.1)) (sym at)
        | false ↦ λ other. ap (λ b. b || has_any cmp key k es) (apart-place cmp place key placed same e.0 e.1 k other) ∙ any-found k es apart.1
      ] refl
    where
      alone : (b : Bool) → (b || false) ≡ b
      alone true = refl
      alone false = refl

  -- no keys, then those of a list, then those beside it
  pub keys-merged : (answered : List NamedRow) (others : List (RowName × Contents)) (start mid keys : List (K × Unit {0}))
      → AreOrdered answered others → start ≡ [] → HasKeyed cmp key (map named answered) start mid → HasKeyed cmp key others mid keys
      → AreKeys cmp place key (merged answered others) keys
  keys-merged answered others start mid keys are none one two = record {
    ordered = two.ordered;
    each = λ k. two.each k ∙ ap (λ b. has_any cmp key k others || b) (one.each k
        ∙ ap (λ (es : List (K × Unit {0})). has_any cmp key k (map named answered) || is_some (lookup (is_at (cmp k)) es)) none)
        ∙ joined k (map named answered)
        ∙ any-found k (map named answered ++ others) (apart-all answered others are)
        ∙ ap (has_key cmp key k (place k)) (sym (lookup-merged (place k) answered others));
  }
    where
      by_both : (a b c : Bool) → (a || (b || c)) ≡ (b || (a || c))
      by_both true true c = refl
      by_both true false c = refl
      by_both false b c = refl

      nothing : (b : Bool) → (b || false) ≡ b
      nothing true = refl
      nothing false = refl

      behind : (a b c : Bool) → (a || (b || c)) ≡ ((a || b) || c)
      behind true b c = refl
      behind false b c = refl

      joined : (k : K) (xs : List (RowName × Contents)) → (has_any cmp key k others || (has_any cmp key k xs || false)) ≡ has_any cmp key k (xs ++ others)
      joined k [] = nothing (has_any cmp key k others)
      joined k (x ∷ xs) =
          ap (λ b. has_any cmp key k others || b) (sym (behind (ties cmp k (key x.0 x.1)) (has_any cmp key k xs) false))
          ∙ by_both (has_any cmp key k others) (ties cmp k (key x.0 x.1)) (has_any cmp key k xs || false)
          ∙ ap (λ b. ties cmp k (key x.0 x.1) || b) (joined k xs)

-- ---- the first key

module _ {K : Type 0} (cmp : K → K → Ordering) (total : IsTotalOrder cmp) where
  -- a key that is found is not before the first
  pub first-least : (e : K × Unit {0}) (es : List (K × Unit {0})) (k : K) → IsStrictlySortedBy cmp (keys_of (e ∷ es))
      → is_some (lookup (is_at (cmp k)) (e ∷ es)) ≡ true → cmp k e.0 ≡ Less → ⊥
  first-least e es k ordered there less =
      true≢false (sym there ∙ ap is_some (lookup-none (is_at (cmp k)) (e ∷ es) (none_below_head total k e es ordered less)))

  -- the first key is found
  pub first-there : (e : K × Unit {0}) (es : List (K × Unit {0})) → is_some (lookup (is_at (cmp e.0)) (e ∷ es)) ≡ true
  first-there e es = ap (λ o. is_some (cond (is_eq o) (Some e.1) (lookup (is_at (cmp e.0)) es))) (tied_itself total e.0)
