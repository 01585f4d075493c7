-- What messages have to pass is on their ways, however they come into flight and leave it.
use Rattle.std.proofs.Common.{◌≡◌, ◌∙◌, ◌+◌, ◌-◌, ◌≤◌, ◌++◌, ◌∷◌, ℕ, zero, suc, List, [], length, length-append, drop, inl, inr, refl, sym, ap, subst, arith}
use Rattle.std.specs.Prelude.{Option, None, Some, All, IfSome, if◌then◌else◌, map, slice_get, slice_set, unwrap_or}
use Rattle.std.proofs.lemmas.Bool.{le-ltb, lt-ltb}
use Rattle.std.proofs.lemmas.List.{append-nil, drop_all}
use Rattle.std.proofs.lemmas.List.Elements.{All-weaker}
use Rattle.std.proofs.lemmas.Simd.{map-map}
use Rattle.std.proofs.Math.Seq.{drop-append_seam}
use Rattle.list_lemmas.proofs.Lists.{none_some}
use Rattle.topology.specs.Folding.{RoutesView}
use Rattle.topology.specs.Shapes.{parts_of}
use Rattle.book.specs.Books.{BookView}
use Rattle.book.specs.OwnDesks.{own_view}
use Rattle.outbox.specs.Messages.{IsOutgoing}
use Rattle.outbox.specs.declared.outgoing.Outgoing.{Outgoing}
use Rattle.outbox.specs.declared.outgoing.Outgoing.TheVariants as outgoing
use Rattle.world.specs.scripts.Relaying.{AreRouted, IsRouted, copied_left, sent_left, way_length}
use Rattle.world.specs.scripts.Standing.{AreOnWay, IsFlying}
use Rattle.world.specs.scripts.WorkerCalls.{HasCopied, HasSent}
use Rattle.world.specs.scripts.Worlds.{in_flight, relays_on}

-- ---- the numbers beside the messages

-- each message has one
pub on_way-sized : (routes : RoutesView) (flight : List (Option Outgoing)) (left : List ℕ) → AreOnWay routes flight left
    → length left ≡ length flight
on_way-sized routes [] [] on = refl
on_way-sized routes [] (n ∷ left) on = absurd on
on_way-sized routes (place ∷ flight) [] on = absurd on
on_way-sized routes (place ∷ flight) (n ∷ left) on = ap suc (on_way-sized routes flight left on.1)

-- that of a message is on its way
pub on_way-at : (routes : RoutesView) (flight : List (Option Outgoing)) (left : List ℕ) (message : ℕ) (m : Outgoing)
    → AreOnWay routes flight left → in_flight flight message ≡ Some m
    → unwrap_or (slice_get left message) 0 ≤ length (relays_on routes m)
on_way-at routes [] left message m on there = absurd (none_some m there)
on_way-at routes (place ∷ flight) [] message m on there = absurd on
on_way-at routes (place ∷ flight) (n ∷ left) zero m on there =
    subst (λ (o : Option Outgoing). IfSome o (λ (k : Outgoing). n ≤ length (relays_on routes k))) there on.0
on_way-at routes (place ∷ flight) (n ∷ left) (suc message) m on there = on_way-at routes flight left message m on.1 there

-- ---- messages that come

-- one more, which has at most its way to go
pub on_way-put : (routes : RoutesView) (flight : List (Option Outgoing)) (left : List ℕ) (m : Outgoing) (n : ℕ)
    → AreOnWay routes flight left → n ≤ length (relays_on routes m) → AreOnWay routes (flight ++ Some m ∷ []) (left ++ n ∷ [])
on_way-put routes [] [] m n on within = (within, tt)
on_way-put routes [] (l ∷ left) m n on within = absurd on
on_way-put routes (place ∷ flight) [] m n on within = absurd on
on_way-put routes (place ∷ flight) (l ∷ left) m n on within = (on.0, on_way-put routes flight left m n on.1 within)

-- some, each of which has its whole way to go
on_way-more : (routes : RoutesView) (flight : List (Option Outgoing)) (left : List ℕ) (sent : List Outgoing)
    → AreOnWay routes flight left
    → AreOnWay routes (flight ++ map Some sent) (left ++ map (λ (m : Outgoing). length (relays_on routes m)) sent)
on_way-more routes [] [] [] on = tt
on_way-more routes [] [] (m ∷ sent) on = (omega arith, on_way-more routes [] [] sent on)
on_way-more routes [] (l ∷ left) sent on = absurd on
on_way-more routes (place ∷ flight) [] sent on = absurd on
on_way-more routes (place ∷ flight) (l ∷ left) sent on = (on.0, on_way-more routes flight left sent on.1)

-- so it is noted of those
pub sent_left-more : (routes : RoutesView) (flight : List (Option Outgoing)) (left : List ℕ) (sent : List Outgoing)
    → length left ≡ length flight
    → sent_left routes (flight ++ map Some sent) left ≡ left ++ map (λ (m : Outgoing). length (relays_on routes m)) sent
sent_left-more routes flight left sent sized =
    ap (λ n. left ++ map (way_length routes) (drop n (flight ++ map Some sent))) sized
    ∙ ap (λ places. left ++ map (way_length routes) places) (drop-append_seam flight (map Some sent))
    ∙ ap (λ ns. left ++ ns) (map-map (way_length routes) Some sent)

-- nothing is noted where nothing came
pub sent_left-none : (routes : RoutesView) (flight : List (Option Outgoing)) (left : List ℕ) → length left ≡ length flight
    → sent_left routes flight left ≡ left
sent_left-none routes flight left sized =
    ap (λ places. left ++ map (way_length routes) places) (drop_all (length left) flight (omega (arith, sized))) ∙ append-nil left

-- what was sent has its way to go
pub on_way-sent : (routes : RoutesView) (most : ℕ) (flight after : List (Option Outgoing)) (left : List ℕ)
    → AreOnWay routes flight left → HasSent most flight after → AreOnWay routes after (sent_left routes after left)
on_way-sent routes most flight after left on sent =
    subst (λ f. AreOnWay routes f (sent_left routes f left)) (sym sent.behind)
    (subst (AreOnWay routes (flight ++ map Some sent.sent))
    (sym (sent_left-more routes flight left sent.sent (on_way-sized routes flight left on)))
    (on_way-more routes flight left sent.sent on))

-- ---- copies

-- no number is noted where no copy came
pub copied_left-none : (message count : ℕ) (left : List ℕ) → length left ≡ count → copied_left message count left ≡ left
copied_left-none message count left sized =
    ap (λ b. if b then left ++ unwrap_or (slice_get left message) 0 ∷ [] else left) (le-ltb (length left) count (omega (arith, sized)))

-- that of the original is noted where one did
pub copied_left-one : (message count : ℕ) (left : List ℕ) → count ≡ length left + 1
    → copied_left message count left ≡ left ++ unwrap_or (slice_get left message) 0 ∷ []
copied_left-one message count left more =
    ap (λ b. if b then left ++ unwrap_or (slice_get left message) 0 ∷ [] else left) (lt-ltb (length left) count (omega (arith, more)))

-- a copy has as far to go as its original
pub on_way-copied : (routes : RoutesView) (message : ℕ) (flight after : List (Option Outgoing)) (left : List ℕ)
    → AreOnWay routes flight left → HasCopied message flight after
    → AreOnWay routes after (copied_left message (length after) left)
on_way-copied routes message flight after left on (inl same) =
    subst (λ f. AreOnWay routes f (copied_left message (length f) left)) (sym same)
    (subst (AreOnWay routes flight)
    (sym (copied_left-none message (length flight) left (on_way-sized routes flight left on))) on)
on_way-copied routes message flight after left on (inr (copied, there, behind)) =
    subst (λ f. AreOnWay routes f (copied_left message (length f) left)) (sym behind)
    (subst (AreOnWay routes (flight ++ Some copied ∷ []))
    (sym (copied_left-one message (length (flight ++ Some copied ∷ [])) left
    (length-append flight (Some copied ∷ []) ∙ ap (λ n. n + 1) (sym (on_way-sized routes flight left on)))))
    (on_way-put routes flight left copied (unwrap_or (slice_get left message) 0) on (on_way-at routes flight left message copied on there)))

-- ---- messages that leave

-- one is gone
pub on_way-gone : (routes : RoutesView) (flight : List (Option Outgoing)) (left : List ℕ) (message : ℕ)
    → AreOnWay routes flight left → AreOnWay routes (slice_set flight message None) left
on_way-gone routes [] left message on = on
on_way-gone routes (place ∷ flight) [] message on = absurd on
on_way-gone routes (place ∷ flight) (n ∷ left) zero on = (tt, on.1)
on_way-gone routes (place ∷ flight) (n ∷ left) (suc message) on = (on.0, on_way-gone routes flight left message on.1)

-- one passes a relay
pub on_way-passed : (routes : RoutesView) (flight : List (Option Outgoing)) (left : List ℕ) (message : ℕ) (m : Outgoing)
    → AreOnWay routes flight left → in_flight flight message ≡ Some m
    → AreOnWay routes (slice_set flight message None ++ Some m ∷ []) (left ++ (unwrap_or (slice_get left message) 0 - 1) ∷ [])
on_way-passed routes flight left message m on there =
    let within = on_way-at routes flight left message m on there in
    on_way-put routes (slice_set flight message None) left m (unwrap_or (slice_get left message) 0 - 1)
    (on_way-gone routes flight left message on) (omega (arith, within))

-- ---- the routes of what is in flight

-- a message that may have been sent has a route, where each part has
pub routed-outgoing : (routes : RoutesView) (book : BookView) (m : Outgoing)
    → length routes.by_part ≡ parts_of book.case.topology → IsOutgoing book.case (own_view book) m → IsRouted routes m
routed-outgoing routes book (outgoing.Deliver delivery sender) all is = let from = is.addressed.from in omega (arith, all, from)
routed-outgoing routes book (outgoing.Ack to id) all is = let from = is.addressed in omega (arith, all, from)

-- so has all that is in flight
pub routed-flying : (routes : RoutesView) (book : BookView) (flight : List (Option Outgoing))
    → length routes.by_part ≡ parts_of book.case.topology → All (IsFlying book) flight → AreRouted routes flight
routed-flying routes book flight all each = All-weaker (IsFlying book) (λ (place : Option Outgoing). IfSome place (IsRouted routes))
    by_place flight each
  where
    by_place : (place : Option Outgoing) → IsFlying book place → IfSome place (IsRouted routes)
    by_place None is = tt
    by_place (Some m) is = routed-outgoing routes book m all is
