-- What a row is once an id is settled, and how much work is left then.
use Rattle.std.proofs.Common.{◌≡◌, ◌<◌, ◌+◌, ◌-◌, ◌^◌, ℕ, List, [], ◌∷◌, Bool, true, false, true≢false, length, refl, sym, ap, arith}
use Rattle.std.specs.Prelude.{IsSome, Some, filter, if◌then◌else◌, not}
use Rattle.std.specs.declared.cmp.Ordering.TheVariants.{Less}
use Rattle.std.specs.List.{AllByRecursion}
use Rattle.std.specs.List.Sorted.{IsStrictlySortedBy}
use Rattle.std.proofs.lemmas.List.Elements.{All-filter}
use Rattle.std.proofs.lemmas.List.Kept.{IsStrictlySortedBy-filter}
use Rattle.std.proofs.lemmas.Map.Keys.{sorted_head}
use Rattle.list_lemmas.proofs.Lists.{each-weaker, filter-all, length-filter}
use Rattle.mw_types.specs.declared.delivery.Delivery.{Delivery}
use Rattle.mw_types.specs.declared.identity.RecordId.{RecordId}
use Rattle.mw_types.specs.declared.identity.RowName.{RowName}
use Rattle.row_parts.specs.Contents.{ArePending, Contents, IsDelivery, IsRow, delivery_cmp, found_delivery, same_id, without_delivery}
use Rattle.run_history.specs.Cases.{CaseShape}
use Rattle.run_history.specs.Finished.{work_in}
use Rattle.history_laws.proofs.IdLaws.{passes_once}
use Rattle.book.specs.Appending.{left_row}
use Rattle.book.specs.declared.settling.Settled.{Settled}

-- deliveries but for one are deliveries in order
pub ArePending-without : (id : RecordId) (ds : List Delivery) → ArePending ds → ArePending (without_delivery id ds)
ArePending-without id ds are =
    let keep : Delivery → Bool = λ d. not (same_id d.id id) in record {
      ascending = IsStrictlySortedBy-filter delivery_cmp keep ds are.ascending;
      each = All-filter keep IsDelivery ds are.each;
      few = omega (arith, length-filter keep ds, are.few);
    }

-- one of them has the id
without-length : (id : RecordId) (ds : List Delivery) → IsStrictlySortedBy delivery_cmp ds → IsSome (found_delivery id ds)
    → length (without_delivery id ds) + 1 ≡ length ds
unfolding IsStrictlySortedBy
without-length id [] sorted there = absurd (true≢false (sym there))
without-length id (d ∷ ds) sorted there =
    let keep : Delivery → Bool = λ x. not (same_id x.id id) in
    elim (same_id d.id id) as (λ t. same_id d.id id ≡ t → IsSome (if t then Some d else found_delivery id ds)
    → length (if not t then d ∷ filter keep ds else filter keep ds) + 1 ≡ length (d ∷ ds)) [
      | true ↦ λ same _.
          let apart : AllByRecursion (λ x. keep x ≡ true) ds =
          each-weaker (λ x. delivery_cmp d x ≡ Less) (λ x. keep x ≡ true)
          (λ x less. ap not (passes_once id d x less same)) ds (sorted_head delivery_cmp d ds sorted) in
          omega (arith, ap length (filter-all keep ds apart))
      | false ↦ λ _ at. omega (arith, without-length id ds sorted.1 at)
    ] refl there

-- so much work is left once a row waits for one less
pub settled-work : (case : CaseShape) (name : RowName) (row : Contents) (settled : Settled) (work : ℕ) → ArePending row.pending
    → IsSome (found_delivery settled.id row.pending)
    → work - 1 ≡ (work + work_in case name (left_row (Some settled) row)) - work_in case name row
settled-work case name row settled work are there = omega (arith, without-length settled.id row.pending are.ascending there)

-- the row that is left can be kept
pub IsRow-settled : (row : Contents) (settled : Settled) → IsRow row → settled.commit < 2 ^ 32 → IsRow (left_row (Some settled) row)
IsRow-settled row settled is below = record {
  state = is.state;
  timers = is.timers;
  pending = ArePending-without settled.id row.pending is.pending;
  seen = is.seen;
  floor = is.floor;
  last = below;
}
