-- What a row stays under each change of its lists.
use Rattle.std.proofs.Common.{◌≡◌, ℕ, List, [], ◌∷◌, ◌++◌, length, get_or, set, ◌+◌, ◌<◌, ◌≤◌, ◌^◌, Bool, true, false, ◌||◌, Some, refl, sym, ap, subst, ◌∙◌, arith}
use Rattle.std.specs.Prelude.{All, if◌then◌else◌, filter, insert, remove, not, nat_le, Result, Ok, Err, is_ok}
use Rattle.std.specs.List.{list_any}
use Rattle.std.specs.Option.{is_some}
use Rattle.std.specs.List.Sorted.{IsStrictlySortedBy}
use Rattle.std.specs.declared.cmp.Ordering.TheVariants.{Less}
use Rattle.std.proofs.lemmas.Bool.{leb-true}
use Rattle.std.proofs.lemmas.List.{length-set, length_push, set-get_or}
use Rattle.std.proofs.lemmas.List.Edits.{length-insert}
use Rattle.std.proofs.lemmas.List.Elements.{All-from_recursion, recursion_from_All, All-filter, All-push, All-weaker, filter_passes}
use Rattle.std.proofs.lemmas.List.Kept.{IsStrictlySortedBy-filter}
use Rattle.list_lemmas.proofs.Lists.{length-filter}
use Rattle.mw_types.specs.declared.TheConstants.{MAX_STAMP}
use Rattle.mw_types.specs.declared.state.State.{State}
use Rattle.mw_types.specs.declared.timer.Timer.{Timer}
use Rattle.mw_types.specs.declared.identity.RecordId.{RecordId}
use Rattle.mw_types.specs.declared.delivery.Delivery.{Delivery}
use Rattle.mw_types.specs.Bounds.{IsWithin}
use Rattle.mw_types.specs.Orders.{id_cmp, timer_cmp}
use Rattle.mw_types.proofs.OrderLaws.{id_cmp-total}
use Rattle.row_parts.specs.Contents.{fresh, IsRow, AreTimers, AreSeen, ArePending, IsId, IsDelivery, set_again, with_timer, without_timer, is_timer, with_id, same_id, ids_from, delivery_cmp, without_delivery, found_delivery}
use Rattle.row_parts.specs.Places.{IsHit, IsGap, timer_rank, id_rank, delivery_rank, IsHitOrGap}
use Rattle.row_parts.proofs.PlaceLemmas.{put_in-hit, put_in-gap, sorted-put_in, All-put_in, sorted-push, filter-hit, filter-gap}
use Rattle.row_parts.specs.Orders.{timer_cmp-total}
use Rattle.row_parts.proofs.Ranks.{is_timer-rank, same_id-rank, delivery-rank}

-- a fresh row can be kept
pub IsRow-fresh : (state : State) → IsWithin state → IsRow (fresh state)
unfolding IsStrictlySortedBy
IsRow-fresh state within = record {
  state = within;
  timers = record { ascending = tt; times = λ i d h. absurd (omega arith); few = omega arith };
  pending = record { ascending = tt; each = λ i d h. absurd (omega arith); few = omega arith };
  seen = record { ascending = tt; each = λ i d h. absurd (omega arith); kept = λ i d h. absurd (omega arith); few = omega arith };
  floor = omega arith;
  last = omega arith;
}

-- ---- timers

timers_with : (t : Timer) (xs : List Timer) → AreTimers xs → t.time ≤ MAX_STAMP → length (with_timer t xs) < 2 ^ 32
    → AreTimers (with_timer t xs)
timers_with t xs are time few = record {
  ascending = sorted-put_in timer_cmp-total set_again (λ x new old. refl) (λ new old x. refl) t xs are.ascending;
  times = All-from_recursion (λ (u : Timer). u.time ≤ MAX_STAMP) (with_timer t xs)
      (All-put_in (λ (u : Timer). u.time ≤ MAX_STAMP) timer_cmp set_again t time (λ u h. h) xs
      (recursion_from_All (λ (u : Timer). u.time ≤ MAX_STAMP) xs are.times));
  few = few;
}

-- a timer that is set again
pub timers_set : (t d made : Timer) (xs slice new : List Timer) (at : ℕ) → slice ≡ xs → AreTimers xs → t.time ≤ MAX_STAMP
    → IsHit (timer_rank t.tag t.time) slice at
    → made ≡ set_again t (get_or slice at d) → new ≡ set xs at made → (new ≡ with_timer t xs) × AreTimers new
timers_set t d made xs slice new at same are time hit joined written =
    let hit' : IsHit (timer_rank t.tag t.time) xs at = subst (λ l. IsHit (timer_rank t.tag t.time) l at) same hit in
    let made' : made ≡ set_again t (get_or xs at d) = subst (λ l. made ≡ set_again t (get_or l at d)) same joined in
    let whole : with_timer t xs ≡ set xs at made = put_in-hit timer_cmp-total set_again t xs at d hit'
    ∙ ap (λ (u : Timer). set xs at u) (sym made') in
    let is : new ≡ with_timer t xs = written ∙ sym whole in
    let few : length (with_timer t xs) < 2 ^ 32 = rw (whole, length-set xs at made) are.few in
    (is, subst AreTimers (sym is) (timers_with t xs are time few))

-- a timer that is set for the first time
pub timers_inserted : (t : Timer) (xs slice new : List Timer) (at : ℕ) → slice ≡ xs → AreTimers xs → t.time ≤ MAX_STAMP
    → IsGap (timer_rank t.tag t.time) slice at
    → length xs + 1 < 2 ^ 32 → new ≡ insert xs at t → (new ≡ with_timer t xs) × AreTimers new
timers_inserted t xs slice new at same are time gap room written =
    let gap' : IsGap (timer_rank t.tag t.time) xs at = subst (λ l. IsGap (timer_rank t.tag t.time) l at) same gap in
    let whole : with_timer t xs ≡ insert xs at t = put_in-gap timer_cmp-total set_again t xs at gap' in
    let made : new ≡ with_timer t xs = written ∙ sym whole in
    let few : length (with_timer t xs) < 2 ^ 32 = rw (whole, length-insert xs at t gap'.within) room in
    (made, subst AreTimers (sym made) (timers_with t xs are time few))

timers_filtered : (p : Timer → Bool) (xs : List Timer) → AreTimers xs → AreTimers (filter p xs)
timers_filtered p xs are = record {
  ascending = IsStrictlySortedBy-filter timer_cmp p xs are.ascending;
  times = All-filter p (λ (u : Timer). u.time ≤ MAX_STAMP) xs are.times;
  few = omega (arith, length-filter p xs, are.few);
}

-- a timer that is taken away
pub timers_removed : (tag time : ℕ) (xs slice new : List Timer) (at : ℕ) → slice ≡ xs → AreTimers xs
    → IsHit (timer_rank tag time) slice at → new ≡ remove xs at
    → (true ≡ list_any (is_timer tag time) xs) × (new ≡ without_timer tag time xs) × AreTimers new
timers_removed tag time xs slice new at same are hit written =
    let hit' : IsHit (timer_rank tag time) xs at = subst (λ l. IsHit (timer_rank tag time) l at) same hit in
    let both = filter-hit (timer_rank tag time) (is_timer tag time) (is_timer-rank tag time) xs at
    (record { tag = tag; time = time; late = false }) hit' in
    let made : new ≡ without_timer tag time xs = written ∙ sym both.0 in
    (sym both.1, made, subst AreTimers (sym made) (timers_filtered (λ t. not (is_timer tag time t)) xs are))

-- a timer that is not there
pub timers_kept : (tag time : ℕ) (xs slice : List Timer) (at : ℕ) → slice ≡ xs → IsGap (timer_rank tag time) slice at
    → (false ≡ list_any (is_timer tag time) xs) × (xs ≡ without_timer tag time xs)
timers_kept tag time xs slice at same gap =
    let both = filter-gap (timer_rank tag time) (is_timer tag time) (is_timer-rank tag time) xs at
    (subst (λ l. IsGap (timer_rank tag time) l at) same gap) in
    (sym both.1, sym both.0)

-- ---- handled ids

-- whether an id is among those that were handled
pub has_id : (id : RecordId) (ids : List RecordId) (found : Result ℕ ℕ) → IsHitOrGap (id_rank id) ids found
    → is_ok found ≡ list_any (same_id id) ids
has_id id ids (Ok at) hit = sym (filter-hit (id_rank id) (same_id id) (same_id-rank id) ids at id hit).1
has_id id ids (Err at) gap = sym (filter-gap (id_rank id) (same_id id) (same_id-rank id) ids at gap).1

-- an id that is there already
pub id_kept : (id : RecordId) (ids slice : List RecordId) (at : ℕ) → slice ≡ ids → IsHit (id_rank id) slice at → ids ≡ with_id id ids
id_kept id ids slice at same hit =
    let hit' : IsHit (id_rank id) ids at = subst (λ l. IsHit (id_rank id) l at) same hit in
    sym (put_in-hit id_cmp-total (λ new old. old) id ids at id hit' ∙ set-get_or ids at id)

-- an id that is added
pub id_inserted : (floor : ℕ) (id : RecordId) (ids slice new : List RecordId) (at : ℕ) → slice ≡ ids → AreSeen floor ids → IsId id
    → floor ≤ id.commit → IsGap (id_rank id) slice at
    → length ids + 1 < 2 ^ 32 → new ≡ insert ids at id → (new ≡ with_id id ids) × AreSeen floor new
id_inserted floor id ids slice new at same are is_id above gap room written =
    let gap' : IsGap (id_rank id) ids at = subst (λ l. IsGap (id_rank id) l at) same gap in
    let whole : with_id id ids ≡ insert ids at id = put_in-gap id_cmp-total (λ new old. old) id ids at gap' in
    let made : new ≡ with_id id ids = written ∙ sym whole in (
      made,
      subst (AreSeen floor) (sym made) (record {
        ascending = sorted-put_in id_cmp-total (λ new old. old) (λ x new old. refl) (λ new old x. refl) id ids are.ascending;
        each = All-from_recursion IsId (with_id id ids)
            (All-put_in IsId id_cmp (λ new old. old) id is_id (λ u h. h) ids (recursion_from_All IsId ids are.each));
        kept = All-from_recursion (λ (x : RecordId). floor ≤ x.commit) (with_id id ids)
            (All-put_in (λ (x : RecordId). floor ≤ x.commit) id_cmp (λ new old. old) id above (λ u h. h) ids
            (recursion_from_All (λ (x : RecordId). floor ≤ x.commit) ids are.kept));
        few = rw (whole, length-insert ids at id gap'.within) room;
      }),
    )

-- the ids from a floor on
pub seen_from : (old floor : ℕ) (ids : List RecordId) → AreSeen old ids → AreSeen floor (ids_from floor ids)
seen_from old floor ids are =
    let p : RecordId → Bool = λ id. nat_le floor id.commit in
    record {
      ascending = IsStrictlySortedBy-filter id_cmp p ids are.ascending;
      each = All-filter p IsId ids are.each;
      kept = All-weaker (λ (id : RecordId). p id ≡ true) (λ (id : RecordId). floor ≤ id.commit) (λ id h. leb-true floor id.commit h)
          (filter p ids) (filter_passes p ids);
      few = omega (arith, length-filter p ids, are.few);
    }

-- ---- deliveries

-- a delivery that is appended
pub delivery_appended : (d : Delivery) (ds new : List Delivery) → ArePending ds → IsDelivery d → All (λ x. delivery_cmp x d ≡ Less) ds
    → length ds + 1 < 2 ^ 32 → new ≡ ds ++ d ∷ [] → ArePending new
delivery_appended d ds new are is above room written = subst ArePending (sym written) (record {
  ascending = sorted-push delivery_cmp d ds are.ascending (recursion_from_All (λ x. delivery_cmp x d ≡ Less) ds above);
  each = All-push IsDelivery ds d are.each is;
  few = rw (length_push ds d) room;
})

-- a delivery that is taken away
pub delivery_removed : (id : RecordId) (d : Delivery) (ds slice new : List Delivery) (at : ℕ) → slice ≡ ds → ArePending ds
    → IsHit (delivery_rank id) slice at → new ≡ remove ds at
    → (true ≡ list_any (λ (x : Delivery). same_id x.id id) ds) × (new ≡ without_delivery id ds) × ArePending new
delivery_removed id d ds slice new at same are hit written =
    let test : Delivery → Bool = λ x. same_id x.id id in
    let both = filter-hit (delivery_rank id) test (delivery-rank id) ds at d (subst (λ l. IsHit (delivery_rank id) l at) same hit) in
    let made : new ≡ without_delivery id ds = written ∙ sym both.0 in (
      sym both.1,
      made,
      subst ArePending (sym made) (record {
        ascending = IsStrictlySortedBy-filter delivery_cmp (λ x. not (test x)) ds are.ascending;
        each = All-filter (λ x. not (test x)) IsDelivery ds are.each;
        few = omega (arith, length-filter (λ x. not (test x)) ds, are.few);
      }),
    )

-- a delivery that is not there
pub delivery_kept : (id : RecordId) (ds slice : List Delivery) (at : ℕ) → slice ≡ ds → IsGap (delivery_rank id) slice at
    → (false ≡ list_any (λ (x : Delivery). same_id x.id id) ds) × (ds ≡ without_delivery id ds)
delivery_kept id ds slice at same gap =
    let test : Delivery → Bool = λ x. same_id x.id id in
    let both = filter-gap (delivery_rank id) test (delivery-rank id) ds at (subst (λ l. IsGap (delivery_rank id) l at) same gap) in
    (sym both.1, sym both.0)

-- one is found where it is there
pub found_delivery-any : (id : RecordId) (ds : List Delivery)
    → is_some (found_delivery id ds) ≡ list_any (λ (d : Delivery). same_id d.id id) ds
found_delivery-any id [] = refl
found_delivery-any id (d ∷ ds) = elim (same_id d.id id) as (λ b. is_some (if b then Some d else found_delivery id ds)
    ≡ (b || list_any (λ (e : Delivery). same_id e.id id) ds)) [ true ↦ refl | false ↦ found_delivery-any id ds ]

-- whether a delivery is there
pub has_delivery : (id : RecordId) (ds : List Delivery) (found : Result ℕ ℕ) → IsHitOrGap (delivery_rank id) ds found
    → is_ok found ≡ is_some (found_delivery id ds)
has_delivery id ds found at = any id ds found at ∙ sym (found_delivery-any id ds)
  where
    any : (id : RecordId) (ds : List Delivery) (found : Result ℕ ℕ) → IsHitOrGap (delivery_rank id) ds found
        → is_ok found ≡ list_any (λ (d : Delivery). same_id d.id id) ds
    any id [] (Ok at) hit = absurd (omega (arith, hit.within))
    any id (d ∷ ds) (Ok at) hit = sym
        (filter-hit (delivery_rank id) (λ (x : Delivery). same_id x.id id) (delivery-rank id) (d ∷ ds) at d hit).1
    any id ds (Err at) gap = sym
        (filter-gap (delivery_rank id) (λ (x : Delivery). same_id x.id id) (delivery-rank id) ds at gap).1
