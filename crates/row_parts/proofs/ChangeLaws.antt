-- A change of a row, and what takes it back.
use Rattle.std.proofs.Common.{◌≡◌, ◌≤◌, ◌<◌, ◌+◌, ◌^◌, ◌∙◌, ◌++◌, ◌∷◌, [], ℕ, List, length, Bool, true, false, ◌||◌, refl, ap, arith, subst, sym, length-append, get_or, set, take, ◌&&◌}
use Rattle.std.specs.Prelude.{All, IfSome, None, Option, Some, not}
use Rattle.std.specs.List.{list_any}
use Rattle.std.specs.Ordering.{match_ordering}
use Rattle.std.specs.List.Sorted.{IsStrictlySortedBy}
use Rattle.std.specs.declared.cmp.Ordering.TheVariants.{Less, Equal, Greater}
use Rattle.std.proofs.Math.Seq.{take-append_seam}
use Rattle.std.proofs.lemmas.Bool.Decides.{nat_tests}
use Rattle.std.proofs.lemmas.List.{set-get_or, take_all, take_more}
use Rattle.std.proofs.lemmas.List.Elements.{All-append, All-push}
use Rattle.mw_types.specs.declared.TheConstants.{MAX_STAMP}
use Rattle.mw_types.specs.declared.delivery.Delivery.{Delivery}
use Rattle.mw_types.specs.declared.timer.Timer.{Timer}
use Rattle.mw_types.specs.declared.identity.RecordId.{RecordId}
use Rattle.mw_types.specs.Orders.{id_cmp}
use Rattle.row_parts.specs.Changes.{grown, shrunk, without_ids}
use Rattle.row_parts.specs.Contents.{ArePending, Contents, IsDelivery, IsId, delivery_cmp, is_finished, same_id, set_again, with_id, with_timer}
use Rattle.mw_types.specs.Bounds.{IsKey}
use Rattle.row_parts.specs.Orders.{timer_cmp-total}
use Rattle.row_parts.specs.Places.{IsHit, timer_rank}
use Rattle.row_parts.proofs.PlaceLemmas.{put_in-hit}

left_false : (a b : Bool) → a || b ≡ false → a ≡ false
left_false false b none = refl
left_false true b none = none

right_false : (a b : Bool) → a || b ≡ false → b ≡ false
right_false false b none = none
right_false true b none = absurd cc

same_self : (id : RecordId) → same_id id id ≡ true
same_self id = grind (arith, nat_tests)

-- an id that is not there is not taken away
pub id_absent : (id : RecordId) (ids : List RecordId) → list_any (same_id id) ids ≡ false → without_ids (Some id) ids ≡ ids
id_absent id [] none = refl
id_absent id (x ∷ xs) none =
    let rest = list_any (same_id id) xs in
    rw (left_false (same_id id x) rest none) (ap (λ (l : List RecordId). x ∷ l) (id_absent id xs (right_false (same_id id x) rest none)))

-- an id that was added is taken away again
pub id_back : (id : RecordId) (ids : List RecordId) → list_any (same_id id) ids ≡ false → without_ids (Some id) (with_id id ids) ≡ ids
id_back id [] none = rw (same_self id) refl
id_back id (x ∷ xs) none =
    let rest = list_any (same_id id) xs in
    elim (id_cmp id x) as (λ r. without_ids (Some id) (match_ordering r (id ∷ x ∷ xs) (x ∷ xs) (x ∷ with_id id xs)) ≡ x ∷ xs) [
      | Less ↦ rw (same_self id) (id_absent id (x ∷ xs) none)
      | Equal ↦ id_absent id (x ∷ xs) none
      | Greater ↦ rw (left_false (same_id id x) rest none)
          (ap (λ (l : List RecordId). x ∷ l) (id_back id xs (right_false (same_id id x) rest none)))
    ]

-- what a row grew by is taken away again
pub shrunk-grown : (id : Option RecordId) (sent : List Delivery) (row : Contents) → IfSome id (λ id. is_finished id row ≡ false)
    → shrunk id (length row.pending) (grown id sent row) ≡ row
shrunk-grown None sent row new = ap (λ (l : List Delivery). record row { pending = l }) (take-append_seam row.pending sent)
shrunk-grown (Some id) sent row new =
    ap (λ (l : List Delivery). record row { pending = l; seen = without_ids (Some id) (with_id id row.seen) })
    (take-append_seam row.pending sent)
    ∙ ap (λ (l : List RecordId). record row { seen = l }) (id_back id row.seen (right_false _ _ new))

-- both keys of a delivery are keys
abbrev pub HasKeys : Delivery → Type 0
HasKeys d = IsKey d.to.key × IsKey d.item.key

-- the keys of one more delivery
pub keys_more : (ds : List Delivery) (i : ℕ) (d : Delivery) → i < length ds → d ≡ get_or ds i d → All HasKeys (take i ds) → HasKeys d
    → All HasKeys (take (i + 1) ds)
keys_more ds i d within read so_far has =
    subst (All HasKeys) (sym (take_more ds i d within ∙ ap (λ (x : Delivery). take i ds ++ x ∷ []) (sym read)))
    (All-push HasKeys (take i ds) d so_far has)

-- the keys of all deliveries
pub keys_all : (ds : List Delivery) (i : ℕ) → length ds ≤ i → All HasKeys (take i ds) → All HasKeys ds
keys_all ds i end = subst (All HasKeys) (take_all i ds end)

-- deliveries that are appended
pub deliveries_appended : (ds more new : List Delivery) → ArePending ds → All HasKeys more
    → All (λ (d : Delivery). IsId d.id) more → All (λ (d : Delivery). d.item.stamp ≤ MAX_STAMP) more
    → IsStrictlySortedBy delivery_cmp (ds ++ more) → length ds + length more < 2 ^ 32 → new ≡ ds ++ more → ArePending new
deliveries_appended ds more new are keys ids stamps sorted room written = subst ArePending (sym written) (record {
  ascending = sorted;
  each = All-append IsDelivery ds more are.each
      (λ i d h. record { id = ids i d h; to = (keys i d h).0; key = (keys i d h).1; stamp = stamps i d h });
  few = rw (length-append ds more) room;
})

-- what a timer stays that is set again
pub again_same : (new old : Timer) → new.late || not old.late ≡ true → set_again new old ≡ old
again_same new old is = ap (λ (b : Bool). record { tag = old.tag; time = old.time; late = b }) (by new.late old.late is)
  where
    by : (a b : Bool) → a || not b ≡ true → a && b ≡ b
    by true b is = refl
    by false false is = refl
    by false true is = is

-- to set it again changes nothing
pub timers_stay : (t d : Timer) (xs : List Timer) (at : ℕ) → IsHit (timer_rank t.tag t.time) xs at
    → set_again t (get_or xs at d) ≡ get_or xs at d → with_timer t xs ≡ xs
timers_stay t d xs at hit same =
    put_in-hit timer_cmp-total set_again t xs at d hit ∙ ap (λ (u : Timer). set xs at u) same ∙ set-get_or xs at d
