-- What one more entry does to the rows of a run: the row that it is on is changed, and no other.
use Rattle.std.proofs.Common.{◌≡◌, ℕ, ◌+◌, ◌<◌, true, false, cond, List, ◌++◌, refl, sym, ◌∙◌, ap, subst, arith, inl, inr}
use Rattle.std.specs.Prelude.{Option, Some, None, unwrap_or, ◌⊎◌}
use Rattle.std.specs.Option.{option_map_or}
use Rattle.std.specs.List.{AllByRecursion}
use Rattle.std.specs.List.Sorted.{IsStrictlySortedBy}
use Rattle.std.specs.Ordering.{is_eq, ordering_then}
use Rattle.std.specs.Cmp.{tied_itself}
use Rattle.std.proofs.lemmas.Bool.{both_ways}
use Rattle.std.specs.declared.cmp.Ordering.{Ordering}
use Rattle.std.specs.declared.cmp.Ordering.TheVariants.{Less, Equal, Greater}
use Rattle.std.specs.BTreeMap.{is_at, insert_entry}
use Rattle.std.specs.Map.{lookup}
use Rattle.std.proofs.lemmas.Map.Lookups.{exact_unsigned, exact_bytes}
use Rattle.std.proofs.lemmas.List.Kept.{IsStrictlySortedBy-filter}
use Rattle.list_lemmas.proofs.Tests.{equal_from_test}
use Rattle.mw_types.specs.declared.identity.RowName.{RowName}
use Rattle.mw_types.specs.declared.delivery.Delivery.{Delivery}
use Rattle.mw_types.specs.declared.entry.Entry.{Entry}
use Rattle.mw_types.specs.declared.entry.Entry.TheVariants.{Claim, Inject, Handle, Fire, Ack, Purge}
use Rattle.mw_types.specs.Orders.{row_cmp}
use Rattle.mw_types.proofs.OrderLaws.{row_cmp-total}
use Rattle.topology.specs.Shapes.{Shape}
use Rattle.row_parts.specs.Contents.{Contents, fresh, delivery_cmp}
use Rattle.run_history.specs.Cases.{fresh_of}
use Rattle.run_history.specs.Made.{row_written, deliveries_of}
use Rattle.run_history.specs.Runs.{Run, run_of, row_in, row_of, row_after, followed, changed, empty_run}
use Rattle.run_history.proofs.Lookups.{lookup-insert_entry, each-insert_entry}
use Rattle.list_lemmas.proofs.Lists.{none_some, some_same, each-weaker, each-filter, found_of_each, sorted-append}
use Rattle.history_laws.proofs.Along.{along_any}
use Rattle.history_laws.proofs.Made.{each_of_commit}
use Rattle.history_laws.proofs.IdLaws.{across, below_next, made-ascend}

-- two parts that are equal together are equal each
pub both_Equal : (a b : Ordering) → ordering_then a b ≡ Equal → (a ≡ Equal) × (b ≡ Equal)
both_Equal Less b e = absurd (cc)
both_Equal Equal b e = (refl, e)
both_Equal Greater b e = absurd (cc)

-- rows that tie are the same
pub same_row : (a b : RowName) → is_at (row_cmp a) b ≡ true → a ≡ b
same_row a b tie =
    let k = both_Equal _ _ (equal_from_test (row_cmp a b) tie) in
    let p = exact_unsigned a.part b.part k.0 in
    let q = exact_bytes a.key b.key k.1 in
    λ i. record { part = p i; key = q i }

-- what an entry makes of the row that it is on
abbrev pub made_row : Shape → Run → Entry → RowName → Contents
made_row shape run entry name = row_after shape run entry (deliveries_of shape run.made run.next entry) name

-- a row is changed by an entry on it, or stays as it was
abbrev pub RowStep : Shape → Run → Entry → RowName → Type 0
RowStep shape run entry row =
    ((row_written entry ≡ Some row) × (row_in (followed shape run entry) row ≡ Some (made_row shape run entry row)))
    ⊎ (row_in (followed shape run entry) row ≡ row_in run row)

-- each row is changed by an entry on it, or stays as it was
pub row_step : (shape : Shape) (run : Run) (entry : Entry) (row : RowName) → RowStep shape run entry row
row_step shape run entry row = elim (row_written entry) as (λ w. row_written entry ≡ w → RowStep shape run entry row) [
  | None ↦ λ e. inr (found e)
  | Some name ↦ λ e. elim (is_at (row_cmp row) name) as (λ b. is_at (row_cmp row) name ≡ b → RowStep shape run entry row) [
    | true ↦ λ tie. let same : row ≡ name = same_row row name tie in
        inl (
          e ∙ ap Some (sym same),
          found e ∙ put name ∙ ap (λ b. cond b (Some (made_row shape run entry name)) (row_in run row)) tie
              ∙ ap (λ (n : RowName). Some (made_row shape run entry n)) (sym same),
        )
    | false ↦ λ tie. inr (found e ∙ put name ∙ ap (λ b. cond b (Some (made_row shape run entry name)) (row_in run row)) tie)
  ] refl
] refl
  where
    found : {w : Option RowName} → row_written entry ≡ w → row_in (followed shape run entry) row ≡ lookup (is_at (row_cmp row))
        (option_map_or (λ (n : RowName). insert_entry row_cmp run.rows n (made_row shape run entry n)) w run.rows)
    found e = ap (λ w. lookup (is_at (row_cmp row))
        (option_map_or (λ (n : RowName). insert_entry row_cmp run.rows n (made_row shape run entry n)) w run.rows)) e

    put : (name : RowName) → lookup (is_at (row_cmp row)) (insert_entry row_cmp run.rows name (made_row shape run entry name))
        ≡ cond (is_at (row_cmp row) name) (Some (made_row shape run entry name)) (row_in run row)
    put name = lookup-insert_entry row_cmp-total run.rows name (made_row shape run entry name) row

-- an entry is on a row, or is not
pub on_row_or_not : (entry : Entry) (name : RowName) → (row_written entry ≡ Some name) ⊎ (row_written entry ≡ Some name → ⊥)
on_row_or_not entry name = elim (row_written entry) as (λ w. (w ≡ Some name) ⊎ (w ≡ Some name → ⊥)) [
  | None ↦ inr (λ e. none_some name e)
  | Some row ↦ elim (is_at (row_cmp name) row) as (λ b. is_at (row_cmp name) row ≡ b
      → (Some row ≡ Some name) ⊎ (Some row ≡ Some name → ⊥)) [
        | true ↦ λ tie. inl (ap Some (sym (same_row name row tie)))
        | false ↦ λ apart. inr (λ e. both_ways (is_at (row_cmp name) row) apart
            (subst (λ (r : RowName). is_at (row_cmp name) r ≡ true) (sym (some_same row name e)) (ap is_eq (tied_itself row_cmp-total name))))
      ] refl
]

-- a row that an entry is not on is found as it was
pub row_in-elsewhere : (shape : Shape) (run : Run) (entry : Entry) (row : RowName) → (row_written entry ≡ Some row → ⊥)
    → row_in (followed shape run entry) row ≡ row_in run row
row_in-elsewhere shape run entry row apart = elim (row_step shape run entry row) [
  | inl here ↦ absurd (apart here.0)
  | inr same ↦ same
]

-- a fact of a row, there or fresh, still holds where it does of the row that an entry is on
pub row_of-step : (shape : Shape) (run : Run) (entry : Entry) (row : RowName) (P : Contents → Type 0) → P (row_of shape run row)
    → (row_written entry ≡ Some row → P (made_row shape run entry row)) → P (row_of shape (followed shape run entry) row)
row_of-step shape run entry row P before after = elim (row_step shape run entry row) [
  | inl here ↦ subst (λ o. P (unwrap_or o (fresh (fresh_of shape row.part)))) (sym here.1) (after here.0)
  | inr same ↦ subst (λ o. P (unwrap_or o (fresh (fresh_of shape row.part)))) (sym same) before
]

-- the row that an entry is on is the one that it made
pub row_of-here : (shape : Shape) (run : Run) (entry : Entry) (row : RowName) → row_written entry ≡ Some row
    → row_of shape (followed shape run entry) row ≡ made_row shape run entry row
row_of-here shape run entry row written = ap (λ o. unwrap_or o (fresh (fresh_of shape row.part))) (found (row_step shape run entry row))
  where
    found : RowStep shape run entry row → row_in (followed shape run entry) row ≡ Some (made_row shape run entry row)
    found (inl here) = here.1
    found (inr same) = ap (λ w. lookup (is_at (row_cmp row))
        (option_map_or (λ (n : RowName). insert_entry row_cmp run.rows n (made_row shape run entry n)) w run.rows)) written
        ∙ lookup-insert_entry row_cmp-total run.rows row (made_row shape run entry row) row
        ∙ ap (λ b. cond b (Some (made_row shape run entry row)) (row_in run row)) (tie row)
      where
        tie : (r : RowName) → is_at (row_cmp r) r ≡ true
        tie r = ap is_eq (tied_itself row_cmp-total r)

-- what holds of each row still does, where it does of the row that an entry is on
pub each_row-followed : (shape : Shape) (run : Run) (entry : Entry) (P Q : Contents → Type 0)
    → AllByRecursion (λ (r : RowName × Contents). P r.1) run.rows → ((c : Contents) → P c → Q c)
    → ((name : RowName) → row_written entry ≡ Some name → Q (made_row shape run entry name))
    → AllByRecursion (λ (r : RowName × Contents). Q r.1) (followed shape run entry).rows
each_row-followed shape run entry P Q each weaker here = by_row (row_written entry) here
  where
    old : AllByRecursion (λ (r : RowName × Contents). Q r.1) run.rows
    old = each-weaker (λ (r : RowName × Contents). P r.1) (λ (r : RowName × Contents). Q r.1) (λ r p. weaker r.1 p) run.rows each

    by_row : (w : Option RowName) → ((name : RowName) → w ≡ Some name → Q (made_row shape run entry name))
        → AllByRecursion (λ (r : RowName × Contents). Q r.1)
        (option_map_or (λ (n : RowName). insert_entry row_cmp run.rows n (made_row shape run entry n)) w run.rows)
    by_row None after = old
    by_row (Some name) after = each-insert_entry row_cmp Q run.rows name (made_row shape run entry name) old (after name refl)

-- what holds of each row, and of a fresh one, holds of the row of each name
pub row_of-each : (shape : Shape) (run : Run) (name : RowName) (P : Contents → Type 0)
    → AllByRecursion (λ (r : RowName × Contents). P r.1) run.rows → P (fresh (fresh_of shape name.part)) → P (row_of shape run name)
row_of-each shape run name P each new = found_of_each P (is_at (row_cmp name)) run.rows (fresh (fresh_of shape name.part)) each new

-- ---- what is pending in a row

-- what is pending in a row ascends by id, and has numbers below this one
pub record IsPendingInOrder (n : ℕ) (row : Contents) : Type 0 where
  pub below : AllByRecursion (λ (d : Delivery). d.id.commit < n) row.pending
  pub ascending : IsStrictlySortedBy delivery_cmp row.pending

-- a greater bound
later_bound : (n : ℕ) (row : Contents) → IsPendingInOrder n row → IsPendingInOrder (n + 1) row
later_bound n row order = record {
  below = each-weaker (λ (d : Delivery). d.id.commit < n) (λ (d : Delivery). d.id.commit < n + 1)
      (λ d less. omega (arith, less)) row.pending order.below;
  ascending = order.ascending;
}

-- what is pending stays in order with what an entry made
sent_in_order : (n : ℕ) (row after : Contents) (sent : List Delivery) → IsPendingInOrder n row
    → AllByRecursion (λ (d : Delivery). d.id.commit ≡ n) sent → IsStrictlySortedBy delivery_cmp sent
    → after.pending ≡ row.pending ++ sent → IsPendingInOrder (n + 1) after
sent_in_order n row after sent order new sorted is = record {
  below = subst (λ (l : List Delivery). AllByRecursion (λ (d : Delivery). d.id.commit < n + 1) l) (sym is)
      (below_next n row.pending sent order.below new);
  ascending = subst (IsStrictlySortedBy delivery_cmp) (sym is)
      (sorted-append delivery_cmp row.pending sent order.ascending sorted (across n row.pending sent order.below new));
}

-- what an entry leaves pending in its row is in order
changed-in_order : (n : ℕ) (entry : Entry) (sent : List Delivery) (row : Contents) → IsPendingInOrder n row
    → AllByRecursion (λ (d : Delivery). d.id.commit ≡ n) sent → IsStrictlySortedBy delivery_cmp sent
    → IsPendingInOrder (n + 1) (changed entry sent row)
changed-in_order n (Claim worker interval) sent row order new sorted = later_bound n row order
changed-in_order n (Inject seq part line item) sent row order new sorted = sent_in_order n row _ sent order new sorted refl
changed-in_order n (Handle seq name id effects) sent row order new sorted = sent_in_order n row _ sent order new sorted refl
changed-in_order n (Fire seq name timer mark effects) sent row order new sorted = sent_in_order n row _ sent order new sorted refl
changed-in_order n (Ack seq name id) sent row order new sorted = record {
  below = each-filter (λ (d : Delivery). d.id.commit < n + 1) _ row.pending (later_bound n row order).below;
  ascending = IsStrictlySortedBy-filter delivery_cmp _ row.pending order.ascending;
}
changed-in_order n (Purge seq name floor) sent row order new sorted =
    let later = later_bound n row order in record { below = later.below; ascending = later.ascending }

-- what is pending is in order in each row
pub record ArePendingInOrder (run : Run) : Type 0 where
  pub each : AllByRecursion (λ (r : RowName × Contents). IsPendingInOrder run.next r.1) run.rows

-- nothing is pending in a fresh row
pub fresh_in_order : (shape : Shape) (part n : ℕ) → IsPendingInOrder n (fresh (fresh_of shape part))
unfolding IsStrictlySortedBy
fresh_in_order shape part n = record { below = tt; ascending = tt }

-- what is pending in the row of a name is in order
pub row_of-in_order : (shape : Shape) (run : Run) (name : RowName) → ArePendingInOrder run
    → IsPendingInOrder run.next (row_of shape run name)
row_of-in_order shape run name order = row_of-each shape run name (IsPendingInOrder run.next) order.each
    (fresh_in_order shape name.part run.next)

-- one more entry keeps what is pending in order
pub ArePendingInOrder-followed : (shape : Shape) (run : Run) (entry : Entry) → ArePendingInOrder run
    → ArePendingInOrder (followed shape run entry)
ArePendingInOrder-followed shape run entry order = record {
  each = each_row-followed shape run entry (IsPendingInOrder run.next) (IsPendingInOrder (run.next + 1)) order.each
      (later_bound run.next) here;
}
  where
    here : (name : RowName) → row_written entry ≡ Some name → IsPendingInOrder (run.next + 1) (made_row shape run entry name)
    here name written =
        let after = changed-in_order run.next entry (deliveries_of shape run.made run.next entry) (row_of shape run name)
        (row_of-in_order shape run name order)
        (each_of_commit shape run.made run.next entry)
        (made-ascend shape run.made run.next entry) in record { below = after.below; ascending = after.ascending }

-- what is pending is in order after each history
pub pending-in_order : (shape : Shape) (history : List Entry) → ArePendingInOrder (run_of shape history)
pending-in_order shape history = along_any shape ArePendingInOrder (ArePendingInOrder-followed shape) history empty_run
    (record { each = tt })

-- a row that an entry is not on, there or fresh, is as it was
pub row_of-elsewhere : (shape : Shape) (run : Run) (entry : Entry) (row : RowName) → (row_written entry ≡ Some row → ⊥)
    → row_of shape (followed shape run entry) row ≡ row_of shape run row
row_of-elsewhere shape run entry row apart = ap (λ o. unwrap_or o (fresh (fresh_of shape row.part)))
    (row_in-elsewhere shape run entry row apart)
