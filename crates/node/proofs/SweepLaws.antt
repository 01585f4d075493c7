-- What is pending in rows that are held, gathered and sent again each once, in the order of the ids.
use Rattle.std.proofs.Common.{◌≡◌, ◌∙◌, ◌<◌, ◌+◌, ℕ, true, List, [], ◌∷◌, ◌++◌, length, map, refl, sym, ap, subst, arith, inl, inr}
use Rattle.std.specs.Prelude.{All, Contains, IfSome, IsSome, Option, Some, None, nat_lt, slice_get, unwrap_or}
use Rattle.std.specs.Cmp.{IsTotalOrder, on_total, then_total, tied_itself}
use Rattle.std.specs.List.{AllByRecursion, list_all}
use Rattle.std.specs.List.Sorted.{IsPermutation, IsStrictlySortedBy}
use Rattle.std.specs.Ordering.{is_eq, ordering_then}
use Rattle.std.specs.declared.cmp.Ordering.{Ordering}
use Rattle.std.specs.declared.cmp.Ordering.TheVariants.{Less, Equal, Greater}
use Rattle.std.proofs.lemmas.Bool.{cases_eq}
use Rattle.std.proofs.lemmas.List.{append-nil}
use Rattle.std.proofs.lemmas.List.Elements.{All-append, All-contains, All-contains_itself, All-filter, All-from_recursion, All-map, All-weaker, Contains-append_left, Contains-append_right, recursion_from_All}
use Rattle.std.proofs.lemmas.List.Sorted.{Contains-permutation, IsPermutation-sym}
use Rattle.std.proofs.lemmas.List.Sums.{AllPass-from_list_all}
use Rattle.std.proofs.lemmas.Option.{slice_get_within}
use Rattle.list_lemmas.proofs.Tests.{equal_from_test, both_true}
use Rattle.mw_types.specs.Orders.{id_cmp, row_cmp}
use Rattle.mw_types.specs.declared.delivery.Delivery.{Delivery}
use Rattle.mw_types.specs.declared.entry.Entry.{Entry}
use Rattle.mw_types.specs.declared.identity.RecordId.{RecordId}
use Rattle.mw_types.specs.declared.identity.RowName.{RowName}
use Rattle.mw_types.proofs.OrderLaws.{id_cmp-total, row_cmp-total}
use Rattle.topology.specs.Shapes.{Shape, parts_of}
use Rattle.row_parts.specs.Contents.{ArePending, Contents, IsDelivery, delivery_cmp, fresh, found_delivery}
use Rattle.run_history.specs.Cases.{CaseShape, fresh_of, intervals_of}
use Rattle.run_history.specs.Fences.{interval_of, known}
use Rattle.run_history.specs.Fits.{is_sent_before, suits_part}
use Rattle.run_history.specs.Made.{row_written}
use Rattle.run_history.specs.Runs.{cached, row_in, row_of, run_of}
use Rattle.run_history.proofs.IntervalLaws.{interval_of-has}
use Rattle.run_history.proofs.Known.{known-begins}
use Rattle.list_lemmas.proofs.Lists.{some_same}
use Rattle.history_laws.specs.Ids.{IsMadeOn}
use Rattle.history_laws.proofs.IdLaws.{each_found_delivery}
use Rattle.history_laws.proofs.RowSteps.{both_Equal, same_row}
use Rattle.history_laws.proofs.SeenLaws.{found-more}
use Rattle.history_laws.proofs.SenderLaws.{IsMadeOn-more, pending-on}
use Rattle.history_laws.proofs.SentLaws.{pending-made, row_of-made}
use Rattle.history_laws.proofs.FinishedLaws.{same_from_tie}
use Rattle.watermark.proofs.Parts.{part_within}
use Rattle.book.specs.Desks.{DeskView}
use Rattle.book.proofs.SeenRows.{told-then}
use Rattle.holdings.specs.Holding.{AreAllHeld, HeldView, held_at, row_held}
use Rattle.holdings.specs.Pendings.{ArePendingAmong, IsPendingAmong}
use Rattle.holdings.specs.declared.pending.Sent.{Sent}
use Rattle.node.specs.Answers.{IsPendingHeld, IsSwept, IsSweptOlder, again_cmp, older_than}
use Rattle.node.specs.FireSteps.{AreAllWithin}
use Rattle.node.specs.Fits.{Fits}
use Rattle.outbox.specs.Messages.{IsDeliverable, IsOutgoing, IsSentFrom, sent_again}
use Rattle.node.specs.PurgeSteps.{AreRowsWithin}
use Rattle.node.specs.SweepSteps.{AreAgain, AreFoundBelow, HasFoundAt, IsFoundAt, IsOnceOf, IsPendingAt, IsVouched}
use Rattle.node.specs.Workers.{NodeView}
use Rattle.node.proofs.FireLaws.{lies-part}
use Rattle.outbox.proofs.SendLaws.{goes-there}

-- ---- gathering

-- what is pending in what is held of an interval
pub found-held : (all : List (Option HeldView)) (interval : ℕ) (held : HeldView) (before after sent : List Sent)
    → held_at all interval ≡ Some held → after ≡ before ++ sent → ArePendingAmong held.rows sent → All (IsVouched held) sent
    → HasFoundAt all interval before after
found-held all interval held before after sent there appended are vouched = record {
  found = sent;
  appended = appended;
  each = λ i d inside. record {
    at = record { held = held; there = there; pending = are.each i d inside };
    vouched = vouched i d inside;
  };
  every = λ one p. are.all one (subst (λ (h : HeldView). IsPendingAmong h.rows one) (some_same p.held held (sym p.there ∙ there)) p.pending);
}

-- nothing is pending in what is not held
pub found-unheld : (all : List (Option HeldView)) (interval : ℕ) (before : List Sent) → held_at all interval ≡ None
    → HasFoundAt all interval before before
found-unheld all interval before none = record {
  found = [];
  appended = sym (append-nil before);
  each = All-from_recursion (IsFoundAt all interval) [] tt;
  every = λ one p. absurd (let e : Some p.held ≡ None = sym p.there ∙ none in cc);
}

-- nothing is pending in no interval
pub found-none : (all : List (Option HeldView)) → AreFoundBelow all 0 []
found-none all = record {
  each = All-from_recursion (λ (s : Sent). (i : ℕ) × IsFoundAt all i s) [] tt;
  every = λ i s early p. absurd (omega (arith, early));
}

-- what is pending in the first intervals, and in one more
pub found-next : (all : List (Option HeldView)) (count : ℕ) (before after : List Sent) → AreFoundBelow all count before
    → HasFoundAt all count before after → AreFoundBelow all (count + 1) after
found-next all count before after below more = subst (AreFoundBelow all (count + 1)) (sym more.appended) (record {
  each = All-append IsOne before more.found below.each
      (All-weaker (IsFoundAt all count) IsOne (λ s is. (count, is)) more.found more.each);
  every = λ i s early p. elim (cases_eq i count) [
    | inl same ↦ Contains-append_right before more.found s (more.every s (subst (λ n. IsPendingAt all n s) same p))
    | inr other ↦ Contains-append_left before more.found s (below.every i s (omega (arith, early, other)) p)
  ];
})
  where
    IsOne : Sent → Type 0
    IsOne s = (i : ℕ) × IsFoundAt all i s

-- ---- each once

-- records that are sent again are in a total order
pub again_cmp-total : IsTotalOrder again_cmp
again_cmp-total = then_total (on_total (λ (s : Sent). s.delivery.id) id_cmp-total) (on_total (λ (s : Sent). s.sender) row_cmp-total)

-- of deliveries that stand by their ids one has an id
one-pending : (ds : List Delivery) (d e : Delivery) → IsStrictlySortedBy delivery_cmp ds → Contains ds d → Contains ds e → d.id ≡ e.id
    → d ≡ e
one-pending ds d e up one other same =
    let each = All-from_recursion (λ (f : Delivery). found_delivery f.id ds ≡ Some f) ds (each_found_delivery ds up) in
    some_same d e (sym (All-contains (λ (f : Delivery). found_delivery f.id ds ≡ Some f) ds d each one)
    ∙ ap (λ (i : RecordId). found_delivery i ds) same ∙ All-contains (λ (f : Delivery). found_delivery f.id ds ≡ Some f) ds e each other)

-- the row of a record that is pending lies in the interval
pub lies-at : (shape : Shape) (all : List (Option HeldView)) (i : ℕ) (s : Sent) → AreAllWithin shape all → IsPendingAt all i s
    → interval_of shape s.sender ≡ Some i
lies-at shape all i s within is = subst (AreRowsWithin shape i) is.there (within i) s.sender (subst IsSome (sym is.pending.there) refl)

-- what is pending in the row can be kept
kept-at : (all : List (Option HeldView)) (i : ℕ) (s : Sent) (is : IsFoundAt all i s) → ArePending is.at.pending.row.pending
kept-at all i s is = subst (λ (o : Option Contents). IfSome o (λ (row : Contents). ArePending row.pending)) is.at.pending.there is.vouched

-- two records that are pending and tie are one
tied-same : (shape : Shape) (all : List (Option HeldView)) (i j : ℕ) (s t : Sent) → AreAllWithin shape all → IsFoundAt all i s
    → IsFoundAt all j t → is_eq (again_cmp s t) ≡ true → s ≡ t
tied-same shape all i j s t within one other tie =
    let k = both_Equal _ _ (equal_from_test (again_cmp s t) tie) in
    let ids = same_from_tie s.delivery.id t.delivery.id k.0 in
    let senders = same_row s.sender t.sender (ap is_eq k.1) in
    let intervals : i ≡ j = some_same i j (sym (lies-at shape all i s within one.at) ∙ ap (interval_of shape) senders
    ∙ lies-at shape all j t within other.at) in
    let held : one.at.held ≡ other.at.held = some_same one.at.held other.at.held (sym one.at.there ∙ ap (held_at all) intervals
    ∙ other.at.there) in
    let row : one.at.pending.row ≡ other.at.pending.row = some_same one.at.pending.row other.at.pending.row (sym one.at.pending.there
    ∙ ap (λ (h : HeldView). row_in (cached h.rows) s.sender) held ∙ ap (row_in (cached other.at.held.rows)) senders
    ∙ other.at.pending.there) in
    let deliveries : s.delivery ≡ t.delivery = one-pending other.at.pending.row.pending s.delivery t.delivery
    (kept-at all j t other).ascending (subst (λ (r : Contents). Contains r.pending s.delivery) row one.at.pending.pending)
    other.at.pending.pending ids in
    λ n. record { sender = senders n; delivery = deliveries n }

-- what was gathered, in order and each once, is sent again
pub again-found : (shape : Shape) (all : List (Option HeldView)) (found mid again : List Sent) → AreAllWithin shape all
    → AreFoundBelow all (length (intervals_of shape)) found → IsPermutation found mid → IsOnceOf mid again
    → IsStrictlySortedBy again_cmp again → AreAgain all again
again-found shape all found mid again within are moved once up = record {
  sweep = record { order = up; each = λ s. (held s, there s) };
  each = each;
}
  where
    IsOne : Sent → Type 0
    IsOne s = (i : ℕ) × IsFoundAt all i s

    back : (s : Sent) → Contains again s → Contains found s
    back s has = Contains-permutation mid found s (IsPermutation-sym found mid moved) (once.each s has)

    one_of : (s : Sent) → Contains again s → IsOne s
    one_of s has = All-contains IsOne found s are.each (back s has)

    each : All IsOne again
    each = All-weaker (Contains again) IsOne one_of again (All-contains_itself again)

    held : (s : Sent) → Contains again s → IsPendingHeld all s
    held s has = let one = one_of s has in record {
      interval = one.0;
      held = one.1.at.held;
      there = one.1.at.there;
      pending = one.1.at.pending;
    }

    early : (i : ℕ) (s : Sent) → IsPendingAt all i s → i < length (intervals_of shape)
    early i s is = let has = interval_of-has shape i s.sender (lies-at shape all i s within is) in
        slice_get_within (intervals_of shape) i has.0 has.1

    there : (s : Sent) → IsPendingHeld all s → Contains again s
    there s is =
        let at : IsPendingAt all is.interval s = record { held = is.held; there = is.there; pending = is.pending } in
        let first = are.every is.interval s (early is.interval s at) at in
        let kept = once.every s (Contains-permutation found mid s moved first) in
        let has : Contains again kept.1 = (kept.0, kept.2, kept.3) in
        let one = All-contains IsOne found s are.each first in
        let other = one_of kept.1 has in
        subst (Contains again) (sym (tied-same shape all one.0 other.0 s kept.1 within one.1 other.1 kept.4)) has

-- ---- what is sent again

-- a record that is pending was made by an entry on its sender's row, where that is told
pub sent-so : (case : CaseShape) (desk : DeskView) (all : List (Option HeldView)) (i : ℕ) (s : Sent) → AreAllHeld case desk all
    → IsPendingAt all i s → IfSome desk.told (λ _. IsSentFrom case desk.seen s.sender s.delivery)
sent-so case desk all i s fit is =
    let shape = case.topology in
    let d = s.delivery in
    let here = fit.each i is.held is.there in
    let lease = is.held.lease in
    let lies = here.rows.within s.sender (subst IsSome (sym is.pending.there) refl) in
    let begins = known-begins lease.interval lease.seq desk.seen in
    let front = known lease.interval lease.seq desk.seen in
    let row = row_of shape (run_of shape front) s.sender in
    told-then desk.told
    (λ _. (name : RowName) → interval_of shape name ≡ Some lease.interval → row_held shape is.held name ≡ row_of shape (run_of shape front) name)
    (λ _. IsSentFrom case desk.seen s.sender d) here.rows.known (λ x rows.
    let same : is.pending.row ≡ row = sym (ap (λ (o : Option Contents). unwrap_or o (fresh (fresh_of shape s.sender.part)))
    is.pending.there) ∙ rows s.sender lies in
    let has = subst (λ (r : Contents). Contains r.pending d) same is.pending.pending in
    let made = All-contains (λ (e : Delivery). found_delivery e.id (run_of shape front).made ≡ Some e) row.pending d
    (All-from_recursion (λ (e : Delivery). found_delivery e.id (run_of shape front).made ≡ Some e) row.pending
    (row_of-made shape (run_of shape front) s.sender (pending-made shape front))) has in
    let on = All-contains (IsMadeOn front s.sender) row.pending d
    (All-from_recursion (IsMadeOn front s.sender) row.pending ((pending-on shape front).each s.sender)) has in record {
      made = subst (λ (h : List Entry). found_delivery d.id (run_of shape h).made ≡ Some d) begins.1
          (found-more shape front begins.0 d.id d made);
      on_sender = subst (λ (h : List Entry). IsMadeOn h s.sender d) begins.1 (IsMadeOn-more front s.sender d begins.0 on);
    })

-- a record that is pending and can be kept is addressed
pub sent-addressed : (case : CaseShape) (desk : DeskView) (all : List (Option HeldView)) (i : ℕ) (s : Sent) → AreAllHeld case desk all
    → IsFoundAt all i s → IsDeliverable case.topology s.delivery s.sender
sent-addressed case desk all i s fit is =
    let shape = case.topology in
    let d = s.delivery in
    let row = is.at.pending.row in
    let here = fit.each i is.at.held is.at.there in
    let lies = here.rows.within s.sender (subst IsSome (sym is.at.pending.there) refl) in
    let has = interval_of-has shape is.at.held.lease.interval s.sender lies in
    let from : s.sender.part < parts_of shape = subst (λ n. n < parts_of shape)
    (lies-part shape is.at.held.lease.interval s.sender has.0 lies has.1)
    (part_within shape is.at.held.lease.interval has.0 has.1) in
    let same : row_held shape is.at.held s.sender ≡ row =
    ap (λ (o : Option Contents). unwrap_or o (fresh (fresh_of shape s.sender.part))) is.at.pending.there in
    let suits = both_true (suits_part case s.sender.part (row_held shape is.at.held s.sender)) _ (here.rows.fit s.sender lies from) in
    let before = subst (λ (r : Contents). list_all (is_sent_before shape (length desk.seen)) r.pending ≡ true)
    same suits.1 in
    let goes = All-contains (λ (e : Delivery). is_sent_before shape (length desk.seen) e ≡ true) row.pending d
    (AllPass-from_list_all (is_sent_before shape (length desk.seen)) row.pending before) is.at.pending.pending in
    let kept = All-contains IsDelivery row.pending d (kept-at all i s is).each is.at.pending.pending in
    record { id = kept.id; stamp = kept.stamp; to = goes-there shape (length desk.seen) d goes; from = from }

-- each message of a sweep may be sent
again-outgoing : (case : CaseShape) (desk : DeskView) (all : List (Option HeldView)) (again : List Sent) → AreAllHeld case desk all
    → All (λ (s : Sent). (i : ℕ) × IsFoundAt all i s) again → All (IsOutgoing case desk) (map sent_again again)
again-outgoing case desk all again fit each = All-map (IsOutgoing case desk) sent_again again
    (All-weaker (λ (s : Sent). (i : ℕ) × IsFoundAt all i s) (λ (s : Sent). IsOutgoing case desk (sent_again s)) (λ s is. record {
      so = sent-so case desk all is.0 s fit is.1.at;
      addressed = sent-addressed case desk all is.0 s fit is.1;
    }) again each)

-- a node that sends again some of what is pending fits
pub Fits-again : (case : CaseShape) (desk : DeskView) (node : NodeView) (again : List Sent)
    → All (λ (s : Sent). (i : ℕ) × IsFoundAt node.held i s) again → Fits case desk node
    → Fits case desk (record node { outbox = node.outbox ++ map sent_again again })
Fits-again case desk node again each fits = record {
  of_case = fits.of_case;
  held = fits.held;
  work = fits.work;
  outbox = All-append (IsOutgoing case desk) node.outbox (map sent_again again) fits.outbox
      (again-outgoing case desk node.held again fits.held each);
}

-- and one that sends only what is older
pub Fits-older : (case : CaseShape) (desk : DeskView) (node : NodeView) (number : ℕ) (again : List Sent) → AreAgain node.held again
    → Fits case desk node → Fits case desk (record node { outbox = node.outbox ++ map sent_again (older_than number again) })
Fits-older case desk node number again are fits = Fits-again case desk node (older_than number again)
    (All-filter (λ (s : Sent). nat_lt s.delivery.id.commit number) (λ (s : Sent). (i : ℕ) × IsFoundAt node.held i s) again are.each) fits

-- a node that sends again what is pending fits
pub Fits-swept : (case : CaseShape) (desk : DeskView) (node : NodeView) (again : List Sent) → AreAgain node.held again
    → Fits case desk node → Fits case desk (record node { outbox = node.outbox ++ map sent_again again })
Fits-swept case desk node again are fits = Fits-again case desk node again are.each fits

-- ---- by their ids

-- of two records that were made on the rows of their senders the one that is before has the id that is before
below-one : (seen : List Entry) (s t : Sent) → IsMadeOn seen s.sender s.delivery → IsMadeOn seen t.sender t.delivery
    → again_cmp s t ≡ Less → id_cmp s.delivery.id t.delivery.id ≡ Less
below-one seen s t on also less = by_order (id_cmp s.delivery.id t.delivery.id) refl
  where
    by_order : (o : Ordering) → id_cmp s.delivery.id t.delivery.id ≡ o → id_cmp s.delivery.id t.delivery.id ≡ Less
    by_order Less is = is
    by_order Greater is =
        absurd (let e : Greater ≡ Less = sym (ap (λ o. ordering_then o (row_cmp s.sender t.sender)) is) ∙ less in cc)
    by_order Equal is =
        let ids = same_from_tie s.delivery.id t.delivery.id is in
        let entries : on.entry ≡ also.entry = some_same on.entry also.entry (sym on.numbered
        ∙ ap (λ (i : RecordId). slice_get seen i.commit) ids ∙ also.numbered) in
        let senders : s.sender ≡ t.sender = some_same s.sender t.sender (sym on.on_row ∙ ap row_written entries ∙ also.on_row) in
        let tie : row_cmp s.sender t.sender ≡ Equal = ap (row_cmp s.sender) (sym senders) ∙ tied_itself row_cmp-total s.sender in
        absurd (let e : Equal ≡ Less = sym (ap (λ o. ordering_then o (row_cmp s.sender t.sender)) is ∙ tie) ∙ less in cc)

-- and so of several
below-each : (seen : List Entry) (s : Sent) (ts : List Sent) → IsMadeOn seen s.sender s.delivery
    → AllByRecursion (λ (t : Sent). IsMadeOn seen t.sender t.delivery) ts → AllByRecursion (λ (t : Sent). again_cmp s t ≡ Less) ts
    → AllByRecursion (λ (i : RecordId). id_cmp s.delivery.id i ≡ Less) (map (λ (t : Sent). t.delivery.id) ts)
below-each seen s [] on also less = tt
below-each seen s (t ∷ ts) on also less =
    (below-one seen s t on also.0 less.0, below-each seen s ts on also.1 less.1)

-- records that were made on the rows of their senders stand by their ids alone
pub by-ids : (seen : List Entry) (again : List Sent) → AllByRecursion (λ (s : Sent). IsMadeOn seen s.sender s.delivery) again
    → IsStrictlySortedBy again_cmp again → IsStrictlySortedBy id_cmp (map (λ (s : Sent). s.delivery.id) again)
unfolding IsStrictlySortedBy
by-ids seen [] on up = tt
by-ids seen (s ∷ ss) on up = (below-each seen s ss on.0 on.1 up.0, by-ids seen ss on.1 up.1)

-- those of a sweep, where that is told
pub told-ids : (case : CaseShape) (desk : DeskView) (all : List (Option HeldView)) (again : List Sent) → AreAllHeld case desk all
    → AreAgain all again → IfSome desk.told (λ _. IsStrictlySortedBy id_cmp (map (λ (s : Sent). s.delivery.id) again))
told-ids case desk all again fit are = by_told desk.told
    (λ s is. sent-so case desk all is.0 s fit is.1.at)
  where
    by_told : {X : Type 0} (o : Option X)
        → ((s : Sent) → (i : ℕ) × IsFoundAt all i s → IfSome o (λ _. IsSentFrom case desk.seen s.sender s.delivery))
        → IfSome o (λ _. IsStrictlySortedBy id_cmp (map (λ (s : Sent). s.delivery.id) again))
    by_told None so = tt
    by_told (Some x) so = by-ids desk.seen again (recursion_from_All (λ (s : Sent). IsMadeOn desk.seen s.sender s.delivery) again
        (All-weaker (λ (s : Sent). (i : ℕ) × IsFoundAt all i s) (λ (s : Sent). IsMadeOn desk.seen s.sender s.delivery)
        (λ s is. (so s is).on_sender) again are.each)) are.sweep.order

-- what a sweep answers
pub answers-swept : (case : CaseShape) (desk : DeskView) (node : NodeView) (again : List Sent) (count : ℕ) → AreAgain node.held again
    → count ≡ length again → Fits case desk node
    → IsSwept desk node (record node { outbox = node.outbox ++ map sent_again again }) count
answers-swept case desk node again count are number fits = record {
  again = again;
  sweep = are.sweep;
  number = number;
  left = refl;
  told = told-ids case desk node.held again fits.held are;
}

-- what a sweep of what is older answers
pub answers-older : (node : NodeView) (number : ℕ) (again : List Sent) (count : ℕ) → AreAgain node.held again
    → count ≡ length (older_than number again)
    → IsSweptOlder node (record node { outbox = node.outbox ++ map sent_again (older_than number again) }) count
answers-older node number again count are many = record {
  again = again;
  sweep = are.sweep;
  before = number;
  number = many;
  left = refl;
}
