-- The example with all six kinds of entry is the drain of its case.
use Rattle.std.proofs.Common.{◌≡◌, ℕ, zero, suc, true, false, List, [], ◌∷◌, ◌++◌, ◌≢◌, take, refl, sym, ap, subst, arith, inr}
use Rattle.std.specs.Prelude.{Some, Contains}
use Rattle.std.specs.Cmp.{tied_itself, nat_cmp_total}
use Rattle.std.specs.Ordering.{is_gt, nat_cmp, ordering_then}
use Rattle.mw_types.specs.declared.timer.Timer.{Timer}
use Rattle.mw_types.specs.declared.entry.Entry.{Entry}
use Rattle.mw_types.specs.declared.entry.Entry.TheVariants.{Claim, Inject, Handle, Fire, Ack, Purge}
use Rattle.row_parts.specs.Contents.{found_delivery}
use Rattle.run_history.specs.Runs.{Run, run_of, row_of}
use Rattle.run_history.specs.Watermarks.{cursor_of, low_watermark}
use Rattle.run_history.specs.Finished.{all_pending, is_handled, injectors_left}
use Rattle.worked_examples.specs.First.{first_case, row_a, record_at, window, counts, closes, end_of}
use Rattle.worked_examples.specs.Drained.{drained_history, injector_row, id_of}
use Rattle.book.specs.Senders.{IsPendingIn}
use Rattle.world.specs.drains.Drains.{is_full, IsDue, HasClaimedAll, HasAcknowledged, HasFired, IsNextAck, IsNextHandle, IsNextFire, IsNextInject, IsLastPurge, IsNextEntry, IsDraining, IsDrained}
use Rattle.world.proofs.drains.Tried.{is_alone, alone-least, is_none_due, none-due, is_due_alone, due-alone, alone-first, seen-alone, none-seen}
use Rattle.world.proofs.WholeDrains.{draining-first, draining-push}

-- the first so many entries
abbrev before : ℕ → List Entry
before n = take n drained_history

-- what stands after them
abbrev after : ℕ → Run
after n = run_of first_case.topology (before n)

-- nothing is unacknowledged
acknowledged : (n : ℕ) → HasClaimedAll first_case 0 (before n) → all_pending (after n) ≡ [] → HasAcknowledged first_case 0 (before n)
acknowledged n claimed none = record { claimed = claimed; none_pending = none }

-- nor is a timer due
fired : (n : ℕ) → HasClaimedAll first_case 0 (before n) → all_pending (after n) ≡ [] → is_none_due first_case (after n) ≡ true
    → HasFired first_case 0 (before n)
fired n claimed none quiet = record { earlier = acknowledged n claimed none; none_due = none-due first_case (after n) quiet }

-- a line is next
injects : (n : ℕ) → HasClaimedAll first_case 0 (before n) → all_pending (after n) ≡ [] → is_none_due first_case (after n) ≡ true
    → injectors_left first_case (after n) ≡ 0 ∷ [] → IsNextInject first_case 0 (before n) 0
injects n claimed none quiet left = record {
  earlier = fired n claimed none quiet;
  left = subst (λ l. Contains l 0) (sym left) (0, omega arith, refl);
  least = λ other has. by_place other (subst (λ l. Contains l other) left has);
}
  where
    lines : ℕ → ℕ
    lines = cursor_of first_case (after n)

    by_place : (other : ℕ) → Contains (0 ∷ []) other → is_gt (ordering_then (nat_cmp (lines 0) (lines other)) (nat_cmp 0 other)) ≡ false
    by_place other (zero, within, is) =
        subst (λ o. is_gt (ordering_then (nat_cmp (lines 0) (lines o)) (nat_cmp 0 o)) ≡ false) is
        (subst (λ c. is_gt (ordering_then c (nat_cmp 0 0)) ≡ false) (sym (tied_itself nat_cmp_total (lines 0))) refl)
    by_place other (suc k, within, is) = absurd (omega (arith, within))

-- a record is next
handles : (n commit stamp : ℕ) → HasClaimedAll first_case 0 (before n) → is_alone (after n) (id_of commit) ≡ true
    → IsPendingIn first_case.topology (after n) (id_of commit) injector_row
    → found_delivery (id_of commit) (row_of first_case.topology (after n) injector_row).pending
    ≡ Some (record { id = id_of commit; to = row_a; item = record_at stamp })
    → is_handled (id_of commit) (before n) ≡ false
    → is_full (after n) (row_of first_case.topology (after n) row_a) ≡ false → IsNextHandle first_case 0 (before n) row_a (id_of commit)
handles n commit stamp claimed alone pending found new room = record {
  waits = record {
    earlier = claimed;
    sender = injector_row;
    least = alone-least first_case.topology (after n) (id_of commit) injector_row alone pending;
    delivery = record { id = id_of commit; to = row_a; item = record_at stamp };
    sent = found;
    to_row = refl;
    unhandled = new;
  };
  room = room;
}

-- an acknowledgement is next
acks : (n commit : ℕ) → HasClaimedAll first_case 0 (before n) → is_alone (after n) (id_of commit) ≡ true
    → IsPendingIn first_case.topology (after n) (id_of commit) injector_row → is_handled (id_of commit) (before n) ≡ true
    → IsNextAck first_case 0 (before n) injector_row (id_of commit)
acks n commit claimed alone pending done = record {
  earlier = claimed;
  least = alone-least first_case.topology (after n) (id_of commit) injector_row alone pending;
  handled = done;
}

-- a timer is next
fires : (n : ℕ) (timer : Timer) (mark : ℕ) → HasClaimedAll first_case 0 (before n) → all_pending (after n) ≡ []
    → IsDue first_case (after n) row_a timer → is_due_alone first_case (after n) row_a timer ≡ true
    → mark ≡ low_watermark first_case (after n) 1 → IsNextFire first_case 0 (before n) row_a timer mark
fires n timer mark claimed none due alone exact = record {
  earlier = acknowledged n claimed none;
  due = due;
  first = λ other another is. let one = due-alone first_case (after n) row_a timer alone other another is in
      let part = ap (λ r. r.part) one.0 in omega (arith, part);
  least = λ other another is of. let one = due-alone first_case (after n) row_a timer alone other another is in
      alone-first row_a other timer another one.0 one.1;
  exact = exact;
}

-- one entry more
push : (n : ℕ) (entry : Entry) → IsDraining first_case 0 (before n) → IsNextEntry first_case 0 (before n) entry
    → IsDraining first_case 0 (before n ++ entry ∷ [])
push n entry draining step = draining-push first_case 0 (before n) entry draining step

-- the claims
after-claims : IsDraining first_case 0 (before 2)
after-claims =
    push 1 (Claim 0 1)
    (push 0 (Claim 0 0) (draining-first first_case []) (record { first_worker = refl; there = omega arith; next = refl }))
    (record { first_worker = refl; there = omega arith; next = refl })

-- the first line
after-first : IsDraining first_case 0 (before 5)
after-first =
    push 4 (Ack 0 injector_row (id_of 2))
    (push 3 (Handle 1 row_a (id_of 2) (counts (window 60 1 ∷ []) 60))
    (push 2 (Inject 0 0 0 (record_at 10)) after-claims (injects 2 (omega arith) refl refl refl))
    (handles 3 2 10 (omega arith) refl refl refl refl refl))
    (acks 4 2 (omega arith) refl refl refl)

-- the second
after-second : IsDraining first_case 0 (before 8)
after-second =
    push 7 (Ack 0 injector_row (id_of 5))
    (push 6 (Handle 1 row_a (id_of 5) (counts (window 60 2 ∷ []) 60))
    (push 5 (Inject 0 0 1 (record_at 59)) after-first (injects 5 (omega arith) refl refl refl))
    (handles 6 5 59 (omega arith) refl refl refl refl refl))
    (acks 7 5 (omega arith) refl refl refl)

-- the third
after-third : IsDraining first_case 0 (before 11)
after-third =
    push 10 (Ack 0 injector_row (id_of 8))
    (push 9 (Handle 1 row_a (id_of 8) (counts (window 60 2 ∷ window 120 1 ∷ []) 120))
    (push 8 (Inject 0 0 2 (record_at 60)) after-second (injects 8 (omega arith) refl refl refl))
    (handles 9 8 60 (omega arith) refl refl refl refl refl))
    (acks 10 8 (omega arith) refl refl refl)

-- the timers, which are due once the file is at its end
after-timers : IsDraining first_case 0 (before 13)
after-timers =
    push 12 (Fire 1 row_a (end_of 120) 120 (closes [] 120 1))
    (push 11 (Fire 1 row_a (end_of 60) 60 (closes (window 120 1 ∷ []) 60 2)) after-third
    (fires 11 (end_of 60) 60 (omega arith) refl (record { set = (0, omega arith, refl); due = omega arith }) refl refl))
    (fires 12 (end_of 120) 120 (omega arith) refl (record { set = (0, omega arith, refl); due = omega arith }) refl refl)

-- the last purge
last-purge : IsLastPurge first_case 0 (before 13) row_a 13
last-purge = record {
  earlier = record { earlier = fired 13 (omega arith) refl refl; none_left = refl };
  has = some;
  least = λ other has. seen-alone first_case.topology (after 13) row_a other refl has;
  to_floor = refl;
}
  where
    some : (row_of first_case.topology (after 13) row_a).seen ≢ []
    some e = cc

-- the example is drained
pub example-drained : IsDrained first_case 0 drained_history
example-drained = record {
  draining = push 13 (Purge 1 row_a 13) after-timers (inr last-purge);
  ended = record {
    earlier = record { earlier = fired 14 (omega arith) refl refl; none_left = refl };
    none_seen = none-seen first_case.topology (after 14) refl;
  };
}
