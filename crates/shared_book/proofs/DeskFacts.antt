-- What a desk keeps of its seat, and what always holds of it.
use Rattle.std.proofs.Common.{◌≡◌, ◌≢◌, ◌∙◌, ◌<◌, ◌≤◌, ℕ, suc, true, List, [], length, take, refl, sym, ap, subst, ⊎_elim, arith}
use Rattle.std.specs.Prelude.{IfSome, IsSome, None, Option, Some, drop, get_or, slice_get, slice_set}
use Rattle.std.specs.Option.{option_map}
use Rattle.std.proofs.lemmas.List.{append-nil, length-take-le, take-append-drop}
use Rattle.std.proofs.lemmas.List.Elements.{All-nil}
use Rattle.atomic_table.specs.Seated.{TableId}
use Rattle.mw_types.specs.declared.entry.Entry.{Entry}
use Rattle.run_history.specs.Cases.{CaseShape, intervals_of}
use Rattle.run_history.specs.Fences.{IsFenced, known, sequencer_of}
use Rattle.run_history.specs.Marks.{own_work}
use Rattle.run_history.specs.Runs.{run_of}
use Rattle.run_history.proofs.CaseIntervals.{length-intervals}
use Rattle.run_history.proofs.Claims.{last_claim-there}
use Rattle.run_history.proofs.Known.{known-last}
use Rattle.history_laws.proofs.KnownLaws.{own_work-known}
use Rattle.key_intervals.specs.declared.bounds.Bounds.{Bounds}
use Rattle.watermark.specs.Marks.{mark_of}
use Rattle.run_history.specs.Inputs.{IsRunnable}
use Rattle.book.specs.Books.{LeaseView}
use Rattle.book.specs.Conditions.{IsOwnWork}
use Rattle.book.specs.Desks.{HasLooked, IsSound, KeepsMarks, Sight}
use Rattle.book.specs.OwnDesks.{is_claimed}
use Rattle.book.proofs.Numbers.{own-stays}
use Rattle.book.proofs.OwnLaws.{claimed-is_claimed, is_claimed-claimed}
use Rattle.shared_book.specs.declared.views.Basis.{Basis}
use Rattle.shared_book.specs.declared.views.Settled.{Settled}
use Rattle.shared_book.specs.declared.views.View.{View}
use Rattle.shared_book.specs.FenceLaw.{AreClaimed}
use Rattle.shared_book.specs.MarkSteps.{IsOwnSettled, released}
use Rattle.shared_book.specs.Places.{place_of, with_mark_loaded}
use Rattle.shared_book.specs.SharedDesks.{HasKept, is_held, shared_view, sight_of, table_numbers}
use Rattle.shared_book.specs.Steps.{HasSeenLawful, HasSeenSettled, SeatView}
use Rattle.shared_book.specs.Turns.{HasMetForeign, HasTurn}
use Rattle.shared_book.proofs.Appending.{lawful_legal}
use Rattle.shared_book.proofs.Held.{held-in}
use Rattle.shared_book.proofs.Moves.{off}
use Rattle.shared_book.proofs.LawSteps.{floor-few}
use Rattle.shared_book.proofs.Filling.{mark-front, rise-front}
use Rattle.shared_book.proofs.Histories.{carry-not}
use Rattle.shared_book.proofs.Places.{mark-set, mark-set_here}

-- ---- what a desk keeps

-- the claim of each lease that is held stands in what was seen
held-claimed : (front : List Entry) (leases : List LeaseView) → AreClaimed front leases → (lease : LeaseView)
    → is_held leases lease ≡ true → is_claimed front lease ≡ true
held-claimed front leases claimed lease held = claimed-is_claimed front lease (claimed lease (held-in leases lease held))

-- a desk keeps what a look tells of its seat
pub kept-look : (v : View) → HasSeenLawful v → HasKept v
kept-look v seen = record {
  fenced = seen.fenced;
  legal = seen.legal;
  few = seen.few;
  limit = seen.limit;
  claimed = held-claimed v.front v.leases seen.claimed;
  low = seen.floor;
}

-- it keeps what a turn tells, once the turn is given back
pub kept-turn : (w : SeatView) → HasTurn w → HasKept (released w.0)
kept-turn w turn = record {
  fenced = subst (IsFenced v.basis.case.topology) turn.core.whole turn.core.lawful.fenced;
  legal = lawful_legal v.basis v.front turn.book turn.core.lawful turn.core.whole turn.core.told;
  few = let few = turn.core.lawful.few in let same : length turn.book.history ≡ length v.front = ap length turn.core.whole in
      let limit = turn.core.limit in omega (arith, few, same, limit);
  limit = let most = turn.core.lawful.limit in let limit = turn.core.limit in omega (arith, most, limit);
  claimed = held-claimed v.front v.leases turn.claimed;
  low = let most = floor-few v.basis.case v.front in let few = turn.core.lawful.few in let limit = turn.core.lawful.limit in
      let same : length turn.book.history ≡ length v.front = ap length turn.core.whole in omega (arith, most, few, limit, same);
}
  where
    v : View
    v = w.0

-- what always holds of a desk
pub sound : (v : View) → length v.marks ≡ 61 → IsRunnable v.basis.case → HasKept v → IsSound (shared_view v)
sound v long runs kept = record {
  runnable = runs;
  limit = kept.limit;
  few = kept.few;
  fenced = kept.fenced;
  legal = kept.legal;
  claimed = λ lease held. is_claimed-claimed v.front lease (kept.claimed lease held);
  marks = let few = runs.topology.few_intervals in let all = length-intervals v.basis.case.topology in
      length-take-le (length (intervals_of v.basis.case.topology)) v.marks (omega (arith, long, few, all));
  floor = kept.low;
  own_floor = λ alone. absurd (off alone);
}

-- ---- a note

-- two tables of the same numbers are one
pub one-table : (one other : TableId) → table_numbers one ≡ table_numbers other → one ≡ other
one-table one other same = λ i. record {
  words = number 0 (same i);
  slots = number 1 (same i);
  views_name = number 2 (same i);
  atom = number 3 (same i);
  block = number 4 (same i);
  offset = number 5 (same i);
  slot_names = rest 6 (same i);
}
  where
    rest : ℕ → List ℕ → List ℕ
    rest n l = drop n l

    number : ℕ → List ℕ → ℕ
    number n l = get_or l n 0

-- a note tells where its seat is told, since both are of one book
pub tells : (w v : View) → w.basis ≡ v.basis → IsSome v.basis.told → IsSome (sight_of w)
tells w v same told = by_told w.basis.told (subst (λ (b : Basis). IsSome b.told) (sym same) told)
  where
    sight : Unit {0} → Sight
    sight = λ _. record { case = w.basis.case; seen = w.front }

    by_told : (o : Option (Unit {0})) → IsSome o → IsSome (option_map sight o)
    by_told None is = is
    by_told (Some x) is = is

-- a desk that met a note has seen more, and nothing of it under its leases
pub looked-met : (v m : View) → v.floor ≤ m.floor → m.basis ≡ v.basis → m.leases ≡ v.leases → m.own ≡ v.own → m.faults ≡ v.faults
    → HasMetForeign v m → HasLooked (shared_view v) (shared_view m)
looked-met v m floor basis leases own faults foreign = record {
  case = ap (λ (b : Basis). b.case) basis;
  limit = ap (λ (b : Basis). b.limit) basis;
  told = ap (λ (b : Basis). b.told) basis;
  alone = refl;
  others = foreign.others;
  more = sym foreign.goes_on;
  foreign = λ lease held. (foreign.seen_all lease (held-in v.leases lease held)).own;
  none = λ alone. absurd (off alone);
  own = own ∙ own-stays v.own m.front;
  leases = λ lease held. subst (λ (l : List LeaseView). is_held l lease ≡ true) (sym leases) held;
  floor = floor;
  faults = omega (arith, faults);
}

-- a desk whose seat loaded something has seen no more
pub looked-loaded : (v : View) (marks loads : List ℕ) (floor floor_loads : ℕ) → v.floor ≤ floor
    → HasLooked (shared_view v) (shared_view (record v { marks = marks; loads = loads; floor = floor; floor_loads = floor_loads }))
looked-loaded v marks loads floor floor_loads rises = record {
  case = refl;
  limit = refl;
  told = refl;
  alone = refl;
  others = [];
  more = sym (append-nil v.front);
  foreign = λ lease held. All-nil (λ (e : Entry). sequencer_of e ≢ Some lease.seq);
  none = λ alone. refl;
  own = own-stays v.own v.front;
  leases = λ lease held. held;
  floor = rises;
  faults = omega arith;
}

-- nor has one that is read
pub looked-still : (v : View) → HasLooked (shared_view v) (shared_view v)
looked-still v = looked-loaded v v.marks v.loads v.floor v.floor_loads (omega arith)

-- no mark falls where one was loaded that is not below
pub marks-loaded : (v : View) (i mark : ℕ) → mark_of v.marks i ≤ mark
    → KeepsMarks (shared_view v) (shared_view (with_mark_loaded v i mark))
marks-loaded v i mark rises = record {
  rise = rise-front (length (intervals_of v.basis.case.topology)) v.marks (slice_set v.marks i mark) (λ j. ⊎_elim
      (λ x. let here = ap (mark_of v.marks) x.0 in let is = x.1 in omega (arith, here, is, rises))
      (λ x. omega (arith, x))
      (mark-set v.marks i j mark));
  same = λ alone. absurd (off alone);
}

-- the mark that was loaded is known
pub mark-loaded : (v : View) (i mark : ℕ) → i < length v.marks → i < length (intervals_of v.basis.case.topology)
    → mark ≡ mark_of (shared_view (with_mark_loaded v i mark)).marks i
mark-loaded v i mark within there =
    sym (mark-front (length (intervals_of v.basis.case.topology)) i (slice_set v.marks i mark) there
    ∙ mark-set_here v.marks i mark within)

-- own work that is known under a lease is that by its settled rows
pub own-settled : (v : View) (lease : LeaseView) (own : ℕ) → IsRunnable v.basis.case → HasSeenLawful v → HasSeenSettled v
    → IsOwnWork v.basis.case v.basis.told v.front lease own → IsOwnSettled v lease own
own-settled v lease own runs lawful settled is = by_told v.basis.told is
  where
    place : Settled
    place = place_of v.settled lease.interval

    case : CaseShape
    case = v.basis.case

    known_is : (bounds : Bounds) → slice_get (intervals_of case.topology) lease.interval ≡ Some bounds → place.claim ≡ suc lease.seq
        → own_work case (run_of case.topology (known lease.interval lease.seq v.front)) bounds
        ≡ own_work case (run_of case.topology (take place.base v.front)) bounds
    known_is bounds at claim =
        let seen = settled lease.interval in
        let split = take-append-drop place.base v.front in
        let last = seen.last lease.seq claim in
        let there = last_claim-there lease.interval lease.seq (take place.base v.front) last in
        ap (λ (h : List Entry). own_work case (run_of case.topology (known lease.interval lease.seq h)) bounds) (sym split)
        ∙ own_work-known case lease.interval lease.seq there.0 bounds (take place.base v.front) (drop place.base v.front) runs.topology at
        (subst (IsFenced case.topology) (sym split) lawful.fenced) there.1
        (carry-not v.front lease.seq place.base (seen.quiet lease.seq claim))
        ∙ ap (λ (h : List Entry). own_work case (run_of case.topology h) bounds)
        (known-last lease.interval lease.seq (take place.base v.front) last)

    by_told : (told : Option (Unit {0})) → IsOwnWork case told v.front lease own
        → IfSome told (λ _. (bounds : Bounds) → slice_get (intervals_of case.topology) lease.interval ≡ Some bounds
        → place.claim ≡ suc lease.seq → own ≡ own_work case (run_of case.topology (take place.base v.front)) bounds)
    by_told None work = tt
    by_told (Some x) work = λ bounds at claim. work bounds at ∙ known_is bounds at claim
