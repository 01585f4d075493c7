-- The orders of timers, ids and deliveries as ranks.
use Rattle.std.proofs.Common.{◌≡◌, ℕ, List, length, ◌<◌, ◌-◌, true, false, refl, arith}
use Rattle.std.specs.Prelude.{Result, Some, slice_get}
use Rattle.std.specs.declared.cmp.Ordering.{Ordering}
use Rattle.std.proofs.lemmas.Option.{get_or_from_slice_get, slice_get_within}
use Rattle.std.specs.Ordering.{is_eq, is_lt, is_some_and, ordering_then, partial_ordering_then}
use Rattle.std.specs.List.Sorted.{IsStrictlySortedBy, IsBinarySearchResult, IsSearchInRange}
use Rattle.std.proofs.lemmas.Bool.Decides.{nat_tests}
use Rattle.mw_types.specs.declared.identity.RecordId.{RecordId}
use Rattle.mw_types.specs.declared.delivery.Delivery.{Delivery}
use Rattle.mw_types.specs.declared.timer.Timer.{Timer}
use Rattle.mw_types.specs.Orders.{id_cmp, timer_cmp}
use Rattle.mw_types.proofs.OrderLaws.{id_cmp-total}
use Rattle.row_parts.specs.Orders.{timer_cmp-total}
use Rattle.row_parts.specs.Contents.{is_timer, same_id, delivery_cmp}
use Rattle.row_parts.specs.Places.{IsGap, timer_rank, id_rank, delivery_rank, IsHitOrGap}
use Rattle.row_parts.proofs.PlaceLemmas.{is_place, gap_at_end}
use Rattle.std.specs.declared.cmp.Ordering.TheVariants.{Less, Equal, Greater}
use Rattle.list_lemmas.proofs.Tests.{less_from_test}

-- a timer is the one that is wanted where its rank is equal
pub is_timer-rank : (tag time : ℕ) (t : Timer) → is_timer tag time t ≡ is_eq (timer_rank tag time t)
is_timer-rank tag time t = grind (arith, nat_tests)

-- ids are the same where their rank is equal
pub same_id-rank : (id x : RecordId) → same_id id x ≡ is_eq (id_rank id x)
same_id-rank id x = grind (arith, nat_tests)

-- a delivery is the one that is wanted where its rank is equal
pub delivery-rank : (id : RecordId) (d : Delivery) → same_id d.id id ≡ is_eq (delivery_rank id d)
delivery-rank id d = grind (arith, nat_tests)

-- the timer that a tag and a time tell
probe : ℕ → ℕ → Timer
probe tag time = record { tag = tag; time = time; late = false }

-- a binary search for a timer
pub timer_is_place : (tag time : ℕ) (timers : List Timer) (found : Result ℕ ℕ) → IsStrictlySortedBy timer_cmp timers
    → IsSearchInRange found (length timers)
    → IsBinarySearchResult (timer_rank tag time) timers found → IsHitOrGap (timer_rank tag time) timers found
unfolding probe
timer_is_place tag time timers found sorted within at = is_place (λ (t : Timer). t) timer_cmp-total
    (probe tag time) timers found sorted within at

-- a binary search for an id
pub id_is_place : (id : RecordId) (ids : List RecordId) (found : Result ℕ ℕ) → IsStrictlySortedBy id_cmp ids
    → IsSearchInRange found (length ids)
    → IsBinarySearchResult (id_rank id) ids found → IsHitOrGap (id_rank id) ids found
id_is_place id ids found sorted within at = is_place (λ (x : RecordId). x) id_cmp-total id ids found sorted within at

-- `<` of ids is their order
pub below_is : (r q : Ordering) → is_some_and is_lt (partial_ordering_then (Some r) (Some q)) ≡ is_lt (ordering_then r q)
below_is Less q = refl
below_is Equal q = refl
below_is Greater q = refl

-- an id above the last one stands at the end
pub id_at_end : (id : RecordId) (ids : List RecordId) (last : RecordId) → IsStrictlySortedBy id_cmp ids
    → slice_get ids (length ids - 1) ≡ Some last → is_lt (id_cmp last id) ≡ true → IsGap (id_rank id) ids (length ids)
id_at_end id ids last sorted at_end below =
    let within : length ids - 1 < length ids = slice_get_within ids (length ids - 1) last at_end in
    gap_at_end (λ (x : RecordId). x) id_cmp-total id ids last sorted (omega arith)
    (get_or_from_slice_get ids (length ids - 1) last last at_end) (less_from_test (id_cmp last id) below)

-- a binary search for a delivery
pub delivery_is_place : (id : RecordId) (ds : List Delivery) (found : Result ℕ ℕ) → IsStrictlySortedBy delivery_cmp ds
    → IsSearchInRange found (length ds)
    → IsBinarySearchResult (delivery_rank id) ds found → IsHitOrGap (delivery_rank id) ds found
delivery_is_place id ds found sorted within at = is_place (λ (d : Delivery). d.id) id_cmp-total id ds found sorted within at
