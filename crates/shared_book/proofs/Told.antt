-- From what a step tells to what the calls say.
use Rattle.std.proofs.Common.{◌≡◌, ℕ, zero, suc, ◌+◌, ◌%◌, ◌^◌, ◌<◌, ◌≤◌, List, [], ◌∷◌, ◌++◌, length, Some, None, Bool, true, false, refl, sym, ap, ◌∙◌, subst, ⊎_elim, arith, eqb, ne_eqb}
use Rattle.std.specs.Prelude.{MatchBool, max}
use mathlib.Core.Option.{none}
use prog.Atomic.{either}
use Rattle.atomic_table.specs.Table.{Allows, step}
use Rattle.mw_types.specs.Causes.{Rose}
use Rattle.mw_types.specs.declared.entry.Entry.{Entry}
use Rattle.run_history.specs.Legal.{floor_of}
use Rattle.run_history.specs.Runs.{run_of, row_in}
use Rattle.run_history.specs.Fences.{Begins, IsFenced, HasSeenAll, known}
use Rattle.history_laws.proofs.FenceLaws.{row_in-known}
use Rattle.book.specs.Books.{CoreView, LeaseView}
use Rattle.book.specs.Lawful.{IsLawful}
use Rattle.book.specs.OwnDesks.{telling}
use Rattle.shared_book.specs.declared.views.View.{View}
use Rattle.shared_book.specs.declared.shared.Key.{Key}
use Rattle.shared_book.specs.Lists.{IsIn}
use Rattle.shared_book.specs.FenceLaw.{Slot, IsCore, AreClaimed}
use Rattle.shared_book.specs.Joins.{first_of, others_of}
use Rattle.shared_book.specs.MarkSteps.{LoadsFloor, LoadsMark, MayRaise, RaisesFloor, RaisesMark}
use Rattle.shared_book.specs.Opening.{SharedLaw}
use Rattle.shared_book.specs.Places.{PLACES, with_floor_loaded}
use Rattle.shared_book.specs.Steps.{SeatView, HasFound, HasSeenSettled, Takes, Appends, GivesBack, Faults, Looks, IsTold, IsNext, faults_in, grown, history_in, faulted, holding, missing, lease_in}
use Rattle.shared_book.specs.Turns.{HasTaken, HasTurn, IsGrown}
use Rattle.shared_book.proofs.Lists.{drop_front, in_append}
use Rattle.shared_book.proofs.Histories.{begins_more, claim_kept, seen_all, seq_of_lease}
use Rattle.shared_book.proofs.Allowing.{loads_floor, loads_mark, raises_floor, raises_mark}
use Rattle.shared_book.proofs.Moves.{takes_turn}
use Rattle.shared_book.proofs.SeatArrays.{HasArrays, arrays-moved, arrays-same}
use Rattle.shared_book.proofs.Staying.{settled-longer}
use Rattle.shared_book.proofs.Appending.{appends_one, gives_turn, faults_one, looks_on, news_claimed}
use Rattle.shared_book.proofs.Starting.{lift}

-- ---- what a seat may do

-- a list whose first is told begins with it
pub first_number : (l : List ℕ) (n : ℕ) → first_of l ≡ n ∷ [] → (ns : List ℕ) × (l ≡ n ∷ ns)
first_number [] n e = absurd (empty n e)
  where
    empty : (n : ℕ) → [] ≡ n ∷ [] → ⊥
    empty n e = let h : 0 ≡ 1 = ap length e in omega (arith, h)
first_number (x ∷ xs) n e = (xs, ap (λ k. head k ∷ xs) e)
  where
    head : List ℕ → ℕ
    head [] = 0
    head (y ∷ ys) = y

-- a list whose first and second are told begins with them
pub two_numbers : (l : List ℕ) (n m : ℕ) → first_of l ≡ n ∷ [] → first_of (others_of l) ≡ m ∷ []
    → (ms : List ℕ) × (l ≡ n ∷ m ∷ ms)
two_numbers l n m e f =
    let a = first_number l n e in
    let g : first_of a.0 ≡ m ∷ [] = ap (λ (k : List ℕ). first_of (others_of k)) (sym a.1) ∙ f in
    let b = first_number a.0 m g in (b.0, a.1 ∙ ap (λ k. n ∷ k) b.1)

-- to take the turn
pub may_take : (key : Key) (slots id number : ℕ) (v : View) (l : List (ℕ × Slot)) → first_of v.numbers ≡ number ∷ []
    → v.turn ≡ false → v.live ≡ true → l ≡ []
    → Allows (SharedLaw key) slots id (v, l) 1 (λ k. either (eqb k 0) (number + 1) k) (Takes (step slots 1 0 (number + 1) none) (v, l))
may_take key slots id number v l num quiet live e =
    let n = first_number v.numbers number num in
    subst (λ (m : List (ℕ × Slot)). Allows (SharedLaw key) slots id (v, m) 1 (λ k. either (eqb k 0) (number + 1) k)
    (Takes (step slots 1 0 (number + 1) none) (v, m))) (sym e)
    (lift key slots id v [] 1 (λ k. either (eqb k 0) (number + 1) k) (Takes (step slots 1 0 (number + 1) none) (v, [])) live
    (λ basis. takes_turn basis slots id number n.0 v n.1 quiet live))

-- to append
pub may_append : (key : Key) (slots id : ℕ) (me : SeatView) (v : View) (b : CoreView) → me ≡ (v, (0, Some b) ∷ [])
    → v.turn ≡ true → v.live ≡ true → IsNext v b.history → length b.history < 2 ^ 64
    → IsLawful v.basis.case b → b.limit ≡ v.basis.limit → telling b.rows ≡ v.basis.told
    → Allows (SharedLaw key) slots id me 0 (λ n. (n + 1) % 2 ^ 64) (Appends (step slots 0 1 0 none) me)
may_append key slots id me v b e turn live next room lawful limit told =
    subst (λ (m : SeatView). Allows (SharedLaw key) slots id m 0 (λ n. (n + 1) % 2 ^ 64) (Appends (step slots 0 1 0 none) m)) (sym e)
    (lift key slots id v ((0, Some b) ∷ []) 0 (λ n. (n + 1) % 2 ^ 64) (Appends (step slots 0 1 0 none) (v, (0, Some b) ∷ [])) live
    (λ basis. appends_one basis slots id v b next.0 turn live next.2 next.1 room lawful limit told))

-- to note a fault
pub may_fault : (key : Key) (slots id : ℕ) (me : SeatView) (v : View) (b : CoreView) → me ≡ (v, (0, Some b) ∷ [])
    → v.turn ≡ true → v.live ≡ true → v.count ≤ b.faults → Rose v.count b.faults
    → Allows (SharedLaw key) slots id me 0 (λ n. n) (Faults (step slots 0 0 0 none) me)
may_fault key slots id me v b e turn live more rose =
    subst (λ (m : SeatView). Allows (SharedLaw key) slots id m 0 (λ n. n) (Faults (step slots 0 0 0 none) m)) (sym e)
    (lift key slots id v ((0, Some b) ∷ []) 0 (λ n. n) (Faults (step slots 0 0 0 none) (v, (0, Some b) ∷ [])) live
    (λ basis. faults_one basis slots id v b turn more rose))

-- to give the turn back
pub may_give : (key : Key) (slots id : ℕ) (v : View) (l : List (ℕ × Slot)) (b : CoreView) → l ≡ (0, Some b) ∷ []
    → v.turn ≡ true → v.live ≡ true → IsCore v.basis v.front v.count b → 0 < slots
    → Allows (SharedLaw key) slots id (v, l) 1 (λ _. 0) (λ _. GivesBack (step slots 1 0 0 none) (v, l) 0)
may_give key slots id v l b e turn live core room =
    subst (λ (m : List (ℕ × Slot)). Allows (SharedLaw key) slots id (v, m) 1 (λ _. 0) (λ _. GivesBack (step slots 1 0 0 none) (v, m) 0)) (sym e)
    (lift key slots id v ((0, Some b) ∷ []) 1 (λ _. 0) (λ _. GivesBack (step slots 1 0 0 none) (v, (0, Some b) ∷ []) 0) live
    (λ basis. gives_turn basis slots id v b turn live core room))

-- to look
pub may_look : (key : Key) (slots id : ℕ) (me : SeatView) → me.0.live ≡ true
    → Allows (SharedLaw key) slots id me 0 (λ n. n) (Looks (step slots 0 0 0 none) me)
may_look key slots id me live =
    lift key slots id me.0 me.1 0 (λ n. n) (Looks (step slots 0 0 0 none) me) live (λ basis. looks_on basis slots id me.0 me.1 live)

-- to load a mark
pub may_load_mark : (key : Key) (slots id i : ℕ) (me : SeatView) → me.0.live ≡ true
    → Allows (SharedLaw key) slots id me (i + 3) (λ n. n) (LoadsMark (step slots (i + 3) 0 0 none) me)
may_load_mark key slots id i me live =
    lift key slots id me.0 me.1 (i + 3) (λ n. n) (LoadsMark (step slots (i + 3) 0 0 none) me) live
    (λ basis. loads_mark basis slots id i me.0 me.1 live)

-- to raise one
pub may_raise_mark : (key : Key) (slots id i x : ℕ) (me : SeatView) (lease : LeaseView) → me.0.live ≡ true
    → lease.interval ≡ i → i < PLACES → MayRaise me.0 lease x
    → Allows (SharedLaw key) slots id me (i + 3) (λ n. max n x) (RaisesMark (step slots (i + 3) x 0 none) me)
may_raise_mark key slots id i x me lease live same there may =
    lift key slots id me.0 me.1 (i + 3) (λ n. max n x) (RaisesMark (step slots (i + 3) x 0 none) me) live
    (λ basis. raises_mark basis slots id me.0 me.1 lease i x live same there may)

-- to load the floor
pub may_load_floor : (key : Key) (slots id : ℕ) (me : SeatView) → me.0.live ≡ true
    → Allows (SharedLaw key) slots id me 2 (λ n. n) (LoadsFloor (step slots 2 0 0 none) me)
may_load_floor key slots id me live =
    lift key slots id me.0 me.1 2 (λ n. n) (LoadsFloor (step slots 2 0 0 none) me) live
    (λ basis. loads_floor basis slots id me.0 me.1 live)

-- to raise it
pub may_raise_floor : (key : Key) (slots id x : ℕ) (me : SeatView) → me.0.live ≡ true → me.0.turn ≡ true
    → x ≡ floor_of (run_of me.0.basis.case.topology me.0.front)
    → Allows (SharedLaw key) slots id me 2 (λ n. max n x) (RaisesFloor (step slots 2 x 0 none) me)
may_raise_floor key slots id x me live turn floor =
    lift key slots id me.0 me.1 2 (λ n. max n x) (RaisesFloor (step slots 2 x 0 none) me) live
    (λ basis. raises_floor basis slots id me.0 me.1 x live turn floor)

-- ---- what a seat knows of a turn that it took

-- what the seat found, as a call tells it
taken_of : (v : View) (b : CoreView) → HasFound v b → HasTaken v (holding v b)
taken_of v b found = record {
  book = b;
  view = refl;
  others = found.begins.0;
  goes_on = found.begins.1;
  seen_all = λ l p. all l p;
  rows = λ l name p lies.
      ap (λ (h : List Entry). row_in (run_of v.basis.case.topology (known l.interval l.seq h)) name) (sym found.begins.1)
      ∙ row_in-known v.basis.case.topology l.interval l.seq (all l p).claimed.0 v.front found.begins.0
      (subst (IsFenced v.basis.case.topology) (sym found.begins.1) found.core.lawful.fenced)
      (all l p).claimed.1 (all l p).own name lies;
  marks = found.marks;
  floor = found.floor;
}
  where
    all : (l : LeaseView) → IsIn l v.leases → HasSeenAll l.interval l.seq v.front found.begins.0
    all l p = seen_all v.front b.history l.interval l.seq found.begins (found.claimed l p)
        (found.seen_own l.seq (seq_of_lease l v.leases p))

-- the step took the turn where it found 0
pub took_turn : (found : ℕ) (v w : SeatView) → v.1 ≡ [] → IsTold v found w → found ≡ 0
    → HasTurn w × HasTaken v.0 w.0 × (w.0.basis ≡ v.0.basis) × (w.0.live ≡ v.0.live) × (w.0.numbers ≡ v.0.numbers)
took_turn found v w empty told nought =
    let t : IsTold v 0 w = subst (λ (n : ℕ). IsTold v n w) nought told in
    let b = t.0 in
    let is : w ≡ (holding v.0 b, (0, Some b) ∷ []) =
    t.1 ∙ ap (λ (l : List (ℕ × Slot)). (holding v.0 b, (0, Some b) ∷ l)) empty in
    subst (λ (m : SeatView). HasTurn m × HasTaken v.0 m.0 × (m.0.basis ≡ v.0.basis) × (m.0.live ≡ v.0.live) × (m.0.numbers ≡ v.0.numbers)) (sym is) (
      record {
        turn = refl;
        book = b;
        places = refl;
        core = t.2.core;
        claimed = λ l p. claim_kept v.0.front b.history l.interval l.seq t.2.begins (t.2.claimed l p);
      },
      taken_of v.0 b t.2,
      refl,
      refl,
      refl,
    )

-- else it noted what it found
pub missed_turn : (found : ℕ) (v w : SeatView) → IsTold v found w → (found ≡ 0 → ⊥) → w ≡ (missing v.0 found, v.1)
missed_turn found v w told ne =
    subst (λ (b : Bool). MatchBool b
    ((b : CoreView) × (w ≡ (holding v.0 b, (0, Some b) ∷ v.1)) × HasFound v.0 b)
    (w ≡ (missing v.0 found, v.1))) (ne_eqb found 0 ne) told

-- ---- a seat with the turn, after a call

-- the book of a place, or else this one
abbrev core_of : Slot → CoreView → CoreView
core_of None d = d
core_of (Some b) d = b

-- what the first place has, or else this
abbrev slot_or : List (ℕ × Slot) → Slot → Slot
slot_or [] d = d
slot_or (x ∷ xs) d = x.1

-- the leases of a view that appended stand in what was seen
grown_claimed : (v : View) (e : Entry) → AreClaimed v.front v.leases
    → AreClaimed (v.front ++ e ∷ []) ((grown v (v.front ++ e ∷ [])).leases)
grown_claimed v e h =
    subst (λ (d : List Entry). AreClaimed (v.front ++ e ∷ []) (v.leases ++ lease_in d (length v.front))) (sym (drop_front v.front (e ∷ [])))
    (λ l p. ⊎_elim
    (λ q. claim_kept v.front (v.front ++ e ∷ []) l.interval l.seq (begins_more v.front e) (h l q))
    (λ q. news_claimed v e l q)
    (in_append l v.leases (lease_in (e ∷ []) (length v.front)) p))

-- the turn goes on where nothing was appended
pub turn_same : (v : View) (b : CoreView) → v.turn ≡ true → IsCore v.basis v.front v.count b → AreClaimed v.front v.leases
    → HasTurn (v, (0, Some b) ∷ [])
turn_same v b t core claimed = record { turn = t; book = b; places = refl; core = core; claimed = claimed }

-- and where a fault was noted
pub turn_faulted : (v : View) (b : CoreView) → v.turn ≡ true → IsCore v.basis v.front v.count b → AreClaimed v.front v.leases
    → HasTurn (faulted v b.faults, (0, Some b) ∷ [])
turn_faulted v b t core claimed = record {
  turn = t;
  book = b;
  places = refl;
  core = record { whole = core.whole; enough = omega arith; lawful = core.lawful; limit = core.limit; told = core.told };
  claimed = claimed;
}

-- and where an entry was appended
pub turn_grown : (v : View) (b : CoreView) → v.turn ≡ true → IsGrown v b → HasTurn (grown v b.history, (0, Some b) ∷ [])
turn_grown v b t g = record {
  turn = t;
  book = b;
  places = refl;
  core = record { whole = refl; enough = g.enough; lawful = g.lawful; limit = g.limit; told = g.told };
  claimed = subst (λ (h : List Entry). AreClaimed h ((grown v h).leases)) (sym g.next.1) (grown_claimed v g.next.0 g.claimed);
}

-- what the step leaves as it was, whether it took the turn or not
pub told_same : (found : ℕ) (v w : SeatView) → v.1 ≡ [] → IsTold v found w
    → (w.0.basis ≡ v.0.basis) × (w.0.live ≡ v.0.live) × (w.0.numbers ≡ v.0.numbers)
told_same zero v w empty told = let t = took_turn 0 v w empty told refl in (t.2, t.3, t.4)
told_same (suc n) v w empty told =
    let e = missed_turn (suc n) v w told (λ z. omega (arith, z)) in
    (ap (λ (m : SeatView). m.0.basis) e, ap (λ (m : SeatView). m.0.live) e, ap (λ (m : SeatView). m.0.numbers) e)

-- a seat with the turn after its entry was appended
pub turn_appended : (old home new : SeatView) (b : CoreView) → home ≡ (old.0, (0, Some b) ∷ [])
    → new ≡ (grown home.0 (history_in home.1), home.1) → old.0.turn ≡ true → IsGrown old.0 b → HasTurn new
turn_appended old home new b was is t g =
    subst HasTurn (sym (is ∙ ap (λ (m : SeatView). (grown m.0 (history_in m.1), m.1)) was)) (turn_grown old.0 b t g)

-- a seat with the turn after a fault was noted
pub turn_noted : (old home new : SeatView) (b : CoreView) → home ≡ (old.0, (0, Some b) ∷ [])
    → new ≡ (faulted home.0 (faults_in home.1), home.1) → old.0.turn ≡ true → IsCore old.0.basis old.0.front old.0.count b
    → AreClaimed old.0.front old.0.leases → HasTurn new
turn_noted old home new b was is t core claimed =
    subst HasTurn (sym (is ∙ ap (λ (m : SeatView). (faulted m.0 (faults_in m.1), m.1)) was)) (turn_faulted old.0 b t core claimed)

-- a seat with the turn once the book is back as it was
pub turn_back : (old new : SeatView) (b : CoreView) → new ≡ (old.0, (0, Some b) ∷ []) → old.0.turn ≡ true
    → IsCore old.0.basis old.0.front old.0.count b → AreClaimed old.0.front old.0.leases → HasTurn new
turn_back old new b is t core claimed = subst HasTurn (sym is) (turn_same old.0 b t core claimed)

-- a seat with the turn once the book that was taken out is back
pub turn_home : (old out new : SeatView) (a b : CoreView) → out ≡ (old.0, (0, None) ∷ []) → new ≡ (out.0, (0, Some b) ∷ [])
    → b ≡ a → old.0.turn ≡ true → IsCore old.0.basis old.0.front old.0.count a → AreClaimed old.0.front old.0.leases → HasTurn new
turn_home old out new a b was is same t core claimed =
    turn_back old new b (is ∙ ap (λ (m : SeatView). (m.0, (0, Some b) ∷ [])) was) t
    (subst (λ (x : CoreView). IsCore old.0.basis old.0.front old.0.count x) (sym same) core) claimed

-- the turn goes on where the floor was raised
pub turn_floor : (old new : SeatView) (floor : ℕ) → new ≡ (with_floor_loaded old.0 floor, old.1) → HasTurn old → HasTurn new
turn_floor old new floor is t = subst HasTurn (sym is) (record {
  turn = t.turn;
  book = t.book;
  places = t.places;
  core = t.core;
  claimed = t.claimed;
})

-- what a try tells of a seat that looked before, it tells of the seat as it was
pub told_seen : (found : ℕ) (v seen w : SeatView) → seen ≡ v → IsTold seen found w → IsTold v found w
told_seen found v seen w same = subst (λ (m : SeatView). IsTold m found w) same

-- a try for the turn leaves what the seat's arrays have
pub told_arrays : (found : ℕ) (v w : SeatView) (settled : Bool) (marks claims inputs : List ℕ) → v.1 ≡ [] → HasSeenSettled v.0 → IsTold v found w
    → HasArrays v.0 settled marks claims inputs → HasArrays w.0 settled marks claims inputs
told_arrays zero v w settled marks claims inputs empty seen told has =
    let e : w.0 ≡ holding v.0 told.0 = ap (λ (m : SeatView). m.0) told.1 in
    arrays-moved v.0 w.0 settled marks claims inputs (ap (λ (u : View). u.basis) e) (ap (λ (u : View). u.marks) e)
    (ap (λ (u : View). u.settled) e) (ap (λ (u : View). u.leases) e)
    (settled-longer v.0 w.0.front marks claims inputs has.claimed seen
    (subst (Begins v.0.front) (sym (ap (λ (u : View). u.front) e)) told.2.begins)) has
told_arrays (suc n) v w settled marks claims inputs empty seen told has =
    let e : w.0 ≡ missing v.0 (suc n) = ap (λ (m : SeatView). m.0) (missed_turn (suc n) v w told (λ z. omega (arith, z))) in
    arrays-same v.0 w.0 settled marks claims inputs (ap (λ (u : View). u.basis) e) (ap (λ (u : View). u.marks) e)
    (ap (λ (u : View). u.settled) e) (ap (λ (u : View). u.leases) e) (ap (λ (u : View). u.front) e) has
