-- The first that is picked of rows, gone through one after another.
use Rattle.std.proofs.Common.{◌≡◌, true, false, cond, List, [], ◌∷◌, ◌++◌, map, fold, refl, sym, ◌∙◌, ap, subst}
use Rattle.std.specs.Prelude.{IfSome, None, Option, Some}
use Rattle.std.specs.Cmp.{IsTotalOrder, tied_itself}
use Rattle.std.specs.List.{AllByRecursion}
use Rattle.std.specs.List.Sorted.{IsStrictlySortedBy}
use Rattle.std.specs.Map.{lookup}
use Rattle.std.specs.BTreeMap.{is_at}
use Rattle.std.specs.Ordering.{is_lt}
use Rattle.std.specs.declared.cmp.Ordering.{Ordering}
use Rattle.std.specs.declared.cmp.Ordering.TheVariants.{Less, Equal, Greater}
use Rattle.std.proofs.lemmas.List.Sums.{fold-append}
use Rattle.mw_types.specs.Orders.{row_cmp}
use Rattle.mw_types.specs.declared.identity.RowName.{RowName}
use Rattle.mw_types.proofs.OrderLaws.{row_cmp-total}
use Rattle.row_parts.specs.Contents.{Contents}
use Rattle.list_lemmas.proofs.Lists.{each-append, each-weaker, none_some, some_same}
use Rattle.run_history.proofs.Lookups.{each_found}
use Rattle.history_laws.proofs.RowSteps.{same_row}
use Rattle.book.specs.Claims.{named}
use Rattle.book.specs.declared.answers.NamedRow.{NamedRow}
use Rattle.holdings.specs.Caching.{AreOrdered, merged}
use Rattle.holdings.specs.Firsts.{HasPicked, IsFirstOf, earlier, earlier_of}
use Rattle.holdings.proofs.CacheLaws.{lookup-behind, lookup-merged}
use Rattle.holdings.proofs.ClaimSteps.{names-named}

-- what is picked is the first so far, or is not before it
abbrev IsPast : {X : Type 0} → (RowName × X → RowName × X → Ordering) → Option (RowName × X) → RowName × X → Type 0
IsPast {X} cmp best other = (b : RowName × X) × (best ≡ Some b) × (cmp other b ≡ Less → ⊥)

-- what is picked of a row is past
abbrev IsRowPast : {X : Type 0} → (Contents → Option X) → (RowName × X → RowName × X → Ordering) → Option (RowName × X) → RowName → Contents
    → Type 0
IsRowPast {X} pick cmp best name row = (x : X) → pick row ≡ Some x → IsPast cmp best (name, x)

-- what is found beside the list is not found in it
not-both : (q : RowName) (v : Contents) (answered : List NamedRow) (others : List (RowName × Contents))
    → AllByRecursion (λ (r : NamedRow). lookup (is_at (row_cmp r.name)) others ≡ None) answered
    → lookup (is_at (row_cmp q)) others ≡ Some v → lookup (is_at (row_cmp q)) (map named answered) ≡ None
not-both q v [] others apart found = refl
not-both q v (r ∷ answered) others apart found =
    elim (is_at (row_cmp q) r.name) as (λ b. is_at (row_cmp q) r.name ≡ b
    → cond b (Some r.row) (lookup (is_at (row_cmp q)) (map named answered)) ≡ None) [
      | true ↦ λ tie. absurd (none_some v (sym apart.0 ∙ ap (λ (n : RowName). lookup (is_at (row_cmp n)) others) (sym (same_row q r.name tie)) ∙ found))
      | false ↦ λ _. not-both q v answered others apart.1 found
    ] refl

-- what is found in a list is found with more behind it
found-front : (q : RowName) (v : Contents) (xs ys : List (RowName × Contents)) → lookup (is_at (row_cmp q)) xs ≡ Some v
    → lookup (is_at (row_cmp q)) (xs ++ ys) ≡ Some v
found-front q v [] ys found = absurd (none_some v found)
found-front q v (x ∷ xs) ys found =
    elim (is_at (row_cmp q) x.0) as (λ b. cond b (Some x.1) (lookup (is_at (row_cmp q)) xs) ≡ Some v
    → cond b (Some x.1) (lookup (is_at (row_cmp q)) (xs ++ ys)) ≡ Some v) [
      | true ↦ λ here. here
      | false ↦ λ rest. found-front q v xs ys rest
    ] found

-- each row of a list and beside it is found among the merged rows
pub each-merged : (answered : List NamedRow) (others : List (RowName × Contents)) → AreOrdered answered others
    → AllByRecursion (λ (e : RowName × Contents). lookup (is_at (row_cmp e.0)) (merged answered others) ≡ Some e.1)
    (map named answered ++ others)
each-merged answered others are = each-append (λ (e : RowName × Contents). lookup (is_at (row_cmp e.0)) (merged answered others) ≡ Some e.1)
    (map named answered) others
    (each-weaker (λ (e : RowName × Contents). lookup (is_at (row_cmp e.0)) (map named answered) ≡ Some e.1)
    (λ (e : RowName × Contents). lookup (is_at (row_cmp e.0)) (merged answered others) ≡ Some e.1)
    (λ e found. lookup-merged e.0 answered others ∙ found-front e.0 e.1 (map named answered) others found) (map named answered)
    (each_found row_cmp-total (map named answered)
    (subst (IsStrictlySortedBy row_cmp) (sym (names-named answered)) are.answered_ordered)))
    (each-weaker (λ (e : RowName × Contents). lookup (is_at (row_cmp e.0)) others ≡ Some e.1)
    (λ (e : RowName × Contents). lookup (is_at (row_cmp e.0)) (merged answered others) ≡ Some e.1)
    (λ e found. lookup-merged e.0 answered others
    ∙ lookup-behind e.0 (map named answered) others (not-both e.0 e.1 answered others are.apart found) ∙ found) others
    (each_found row_cmp-total others are.others_ordered))

module _ {X : Type 0} (pick : Contents → Option X) (cmp : RowName × X → RowName × X → Ordering) (total : IsTotalOrder cmp) where
  -- nothing is before itself
  not-itself : (b : RowName × X) → cmp b b ≡ Less → ⊥
  not-itself b less = let e : Less ≡ Equal = sym less ∙ tied_itself total b in cc

  -- what is picked is past, once the one that is before is taken
  past-new : (best : Option (RowName × X)) (name : RowName) (x : X) → IsPast cmp (earlier_of cmp best name (Some x)) (name, x)
  past-new None name x = ((name, x), refl, not-itself (name, x))
  past-new (Some b) name x =
      elim (is_lt (cmp (name, x) b)) as (λ c. is_lt (cmp (name, x) b) ≡ c
      → IsPast cmp (cond c (Some (name, x)) (Some b)) (name, x)) [
        | true ↦ λ _. ((name, x), refl, not-itself (name, x))
        | false ↦ λ not. (b, refl, λ less. (let e : true ≡ false = sym (ap is_lt less) ∙ not in cc))
      ] refl

  -- what is past stays so
  past-kept : (best : Option (RowName × X)) (name : RowName) (found : Option X) (other : RowName × X) → IsPast cmp best other
      → IsPast cmp (earlier_of cmp best name found) other
  past-kept best name None other past = past
  past-kept None name (Some x) other past = absurd (none_some past.0 past.1)
  past-kept (Some b) name (Some x) other past =
      elim (is_lt (cmp (name, x) b)) as (λ c. is_lt (cmp (name, x) b) ≡ c
      → IsPast cmp (cond c (Some (name, x)) (Some b)) other) [
        | true ↦ λ before. (
          (name, x),
          refl,
          λ less.
              past.2 (subst (λ (x : RowName × X). cmp other x ≡ Less) (some_same b past.0 past.1)
              (total.trans other (name, x) b less (is_less (cmp (name, x) b) before))),
        )
        | false ↦ λ _. past
      ] refl
    where
      is_less : (o : Ordering) → is_lt o ≡ true → o ≡ Less
      is_less Less e = refl
      is_less Equal e = absurd cc
      is_less Greater e = absurd cc

  -- and so through more rows
  past-all : (es : List (RowName × Contents)) (best : Option (RowName × X)) (other : RowName × X) → IsPast cmp best other
      → IsPast cmp (fold (earlier pick cmp) best es) other
  past-all [] best other past = past
  past-all (e ∷ es) best other past = past-all es (earlier pick cmp best e) other (past-kept best e.0 (pick e.1) other past)

  -- what is picked of all rows that were gone through is past
  all-past : (es : List (RowName × Contents)) (best : Option (RowName × X))
      → AllByRecursion (λ (e : RowName × Contents). IsRowPast pick cmp (fold (earlier pick cmp) best es) e.0 e.1) es
  all-past [] best = tt
  all-past (e ∷ es) best = (
    (λ x first. past-all es (earlier pick cmp best e) (e.0, x)
        (subst (λ (o : Option X). IsPast cmp (earlier_of cmp best e.0 o) (e.0, x)) (sym first) (past-new best e.0 x))),
    all-past es (earlier pick cmp best e),
  )

  -- a row that is found is one that was gone through
  found-past : (best : Option (RowName × X)) (name : RowName) (row : Contents) (es : List (RowName × Contents))
      → AllByRecursion (λ (e : RowName × Contents). IsRowPast pick cmp best e.0 e.1) es → lookup (is_at (row_cmp name)) es ≡ Some row
      → IsRowPast pick cmp best name row
  found-past best name row [] each found = absurd (none_some row found)
  found-past best name row (e ∷ es) each found =
      elim (is_at (row_cmp name) e.0) as (λ b. is_at (row_cmp name) e.0 ≡ b → cond b (Some e.1) (lookup (is_at (row_cmp name)) es) ≡ Some row
      → IsRowPast pick cmp best name row) [
        | true ↦ λ tie here. subst (λ (r : Contents). IsRowPast pick cmp best name r) (some_same e.1 row here)
            (subst (λ (n : RowName). IsRowPast pick cmp best n e.1) (sym (same_row name e.0 tie)) each.0)
        | false ↦ λ tie rest. found-past best name row es each.1 rest
      ] refl found

  -- what holds of each that is picked holds of the one that is before
  step-holds : (P : RowName × X → Type 0) (best : Option (RowName × X)) (name : RowName) (found : Option X) → IfSome best P
      → ((x : X) → found ≡ Some x → P (name, x)) → IfSome (earlier_of cmp best name found) P
  step-holds P best name None start each = start
  step-holds P None name (Some x) start each = each x refl
  step-holds P (Some b) name (Some x) start each =
      elim (is_lt (cmp (name, x) b)) as (λ c. IfSome (cond c (Some (name, x)) (Some b)) P) [
        | true ↦ each x refl
        | false ↦ start
      ]

  -- and so through more rows
  all-holds : (P : RowName × X → Type 0) (es : List (RowName × Contents)) (best : Option (RowName × X)) → IfSome best P
      → AllByRecursion (λ (e : RowName × Contents). (x : X) → pick e.1 ≡ Some x → P (e.0, x)) es
      → IfSome (fold (earlier pick cmp) best es) P
  all-holds P [] best start each = start
  all-holds P (e ∷ es) best start each =
      all-holds P es (earlier pick cmp best e) (step-holds P best e.0 (pick e.1) start each.0) each.1

  module _ (answered : List NamedRow) (others : List (RowName × Contents)) (are : AreOrdered answered others) where
    -- what was found is the first of all rows
    first-seen : (best : Option (RowName × X))
        → IfSome best (λ b. HasPicked pick (merged answered others) b)
        → AllByRecursion (λ (e : RowName × Contents). IsRowPast pick cmp best e.0 e.1) (map named answered ++ others)
        → IsFirstOf pick cmp (merged answered others) best
    first-seen None has each = λ other first.
        let past = found-past None other.0 first.row (map named answered ++ others) each (sym (lookup-merged other.0 answered others) ∙ first.there)
        other.1 first.picked in absurd (none_some past.0 past.1)
    first-seen (Some b) has each = record {
      has = has;
      least = λ other first less.
          let past = found-past (Some b) other.0 first.row (map named answered ++ others) each
          (sym (lookup-merged other.0 answered others) ∙ first.there) other.1 first.picked in
          past.2 (subst (λ (y : RowName × X). cmp other y ≡ Less) (some_same b past.0 past.1) less);
    }

    -- the first of all rows, gone through one after another
    pub first-merged : (best : Option (RowName × X)) → best ≡ fold (earlier pick cmp) (fold (earlier pick cmp) None (map named answered)) others
        → IsFirstOf pick cmp (merged answered others) best
    first-merged best is =
        let whole : best ≡ fold (earlier pick cmp) None (map named answered ++ others) = is ∙ sym (fold-append (earlier pick cmp) None (map named answered) others) in
        subst (IsFirstOf pick cmp (merged answered others)) (sym whole)
        (first-seen (fold (earlier pick cmp) None (map named answered ++ others))
        (all-holds (λ (b : RowName × X). HasPicked pick (merged answered others) b) (map named answered ++ others) None tt
        (each-weaker (λ (e : RowName × Contents). lookup (is_at (row_cmp e.0)) (merged answered others) ≡ Some e.1)
        (λ (e : RowName × Contents). (x : X) → pick e.1 ≡ Some x → HasPicked pick (merged answered others) (e.0, x))
        (λ e found x picked. record { row = e.1; there = found; picked = picked }) (map named answered ++ others) (each-merged answered others are)))
        (all-past (map named answered ++ others) None))
