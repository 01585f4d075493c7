-- A seat may load and raise the words of marks and of the floor: each such step keeps the fence law and the law of marks.
use Rattle.std.proofs.Common.{◌≡◌, ◌∙◌, ℕ, zero, suc, ◌+◌, ◌-◌, ◌<◌, ◌≤◌, ◌==◌, Bool, true, false, cond, List, [], ◌∷◌, length, take, refl, sym, ap, subst, arith}
use Rattle.std.specs.Prelude.{max, Some, IfSome, slice_get, slice_index, slice_set}
use Rattle.std.proofs.lemmas.List.{length-set, take-append-le}
use Rattle.std.proofs.lemmas.Option.{unwrap_or-slice_get}
use mathlib.Core.Option.{some, none}
use lib.ListN.{get_elem?}
use Rattle.atomic_table.specs.Table.{State, keeps, step, Allows}
use Rattle.mw_types.specs.declared.entry.Entry.{Entry}
use Rattle.key_intervals.specs.declared.bounds.Bounds.{Bounds}
use Rattle.run_history.specs.Cases.{intervals_of}
use Rattle.run_history.specs.Runs.{run_of}
use Rattle.run_history.specs.Legal.{floor_of}
use Rattle.run_history.specs.Fences.{Begins}
use Rattle.run_history.specs.Marks.{own_work}
use Rattle.watermark.specs.Marks.{mark_of}
use Rattle.book.specs.Books.{LeaseView}
use Rattle.book.specs.Marks.{IsSafeAt}
use Rattle.book.proofs.SeenRows.{told-both, told-then}
use Rattle.shared_book.specs.declared.views.Basis.{Basis}
use Rattle.shared_book.specs.declared.views.Settled.{Settled}
use Rattle.shared_book.specs.declared.views.View.{View}
use Rattle.shared_book.specs.Lists.{IsIn}
use Rattle.shared_book.specs.FenceLaw.{AreApart, FenceLaw, Fits, IsQuiet, Slot}
use Rattle.shared_book.specs.Places.{PLACES, place_of, with_mark_loaded, with_floor_loaded}
use Rattle.shared_book.specs.MarksLaw.{IsSettled, IsVouched, MarksLaw}
use Rattle.shared_book.specs.MarkSteps.{LoadsMark, LoadsFloor, MayRaise, RaisesMark, RaisesFloor}
use Rattle.shared_book.proofs.LawSteps.{mark_loaded, mark_raised, floor_loaded, floor_raised}
use Rattle.shared_book.proofs.Moves.{apart_sym, off}
use Rattle.shared_book.proofs.Quiet.{quiet-moved}
use Rattle.shared_book.proofs.ViewLists.{everywhere_set, pairwise_set, somewhere_set}
use Rattle.shared_book.proofs.Vouching.{vouched-safe}

-- ---- the words of marks

-- the word of a mark is behind the first three
pub word-mark : (ws marks : List ℕ) (a b c i : ℕ) → ws ≡ a ∷ b ∷ c ∷ marks → slice_index ws (i + 3) ≡ mark_of marks i
word-mark ws marks a b c i is =
    let third : i + 3 ≡ suc (suc (suc i)) = omega arith in
    ap (λ (l : List ℕ). slice_index l (i + 3)) is ∙ ap (slice_index (a ∷ b ∷ c ∷ marks)) third ∙ sym (unwrap_or-slice_get marks i 0)

-- and is set there
set-mark : (ws marks : List ℕ) (a b c i x : ℕ) → ws ≡ a ∷ b ∷ c ∷ marks
    → slice_set ws (i + 3) x ≡ a ∷ b ∷ c ∷ slice_set marks i x
set-mark ws marks a b c i x is =
    let third : i + 3 ≡ suc (suc (suc i)) = omega arith in
    ap (λ (l : List ℕ). slice_set l (i + 3) x) is ∙ ap (λ k. slice_set (a ∷ b ∷ c ∷ marks) k x) third

-- a mark that is set to what it is
set-same : (marks : List ℕ) (i : ℕ) → slice_set marks i (mark_of marks i) ≡ marks
set-same [] i = refl
set-same (m ∷ ms) zero = refl
set-same (m ∷ ms) (suc i) = ap (λ l. m ∷ l) (set-same ms i)

-- ---- views

-- a view that loaded something
abbrev marked : View → List ℕ → List ℕ → ℕ → ℕ → View
marked v marks loads floor floor_loads = record v {
  marks = marks;
  loads = loads;
  floor = floor;
  floor_loads = floor_loads;
}

-- fits where it did
fits_marked : (basis : Basis) (h : List Entry) (turn count : ℕ) (v : View) (marks loads : List ℕ) (floor floor_loads : ℕ)
    → v.live ≡ true → Fits basis h turn count v → Fits basis h turn count (marked v marks loads floor floor_loads)
fits_marked basis h turn count v marks loads floor floor_loads live f = record {
  same = f.same;
  gone = λ e. absurd (off (sym e ∙ live));
  begins = f.begins;
  reaches = f.reaches;
  met = f.met;
  met_same = f.met_same;
  holds = f.holds;
  claimed = f.claimed;
  once = f.once;
  seen_own = f.seen_own;
  written = f.written;
  own = f.own;
  own_ascend = f.own_ascend;
  numbers = f.numbers;
  numbers_ascend = f.numbers_ascend;
  only_looks = f.only_looks;
  failed = f.failed;
}

-- where one view loaded something, and words behind the second changed, the fence law stands if that of marks does
view_marked : (basis : Basis) (s : State Slot View) (f : FenceLaw basis s) (id : ℕ) (v : View) (marks loads : List ℕ)
    (floor floor_loads : ℕ) → get_elem? s.views id ≡ some v → v.live ≡ true → (words new : List ℕ) (low : ℕ)
    → words ≡ length f.history ∷ f.turn ∷ low ∷ new → length new ≡ PLACES
    → MarksLaw basis f.history low new (slice_set s.views id (marked v marks loads floor floor_loads))
    → FenceLaw basis (record {
      words = words;
      homes = s.homes;
      views = slice_set s.views id (marked v marks loads floor floor_loads);
    })
view_marked basis s f id v marks loads floor floor_loads at live words new low are long law =
    let w = marked v marks loads floor floor_loads in
    record {
      history = f.history;
      turn = f.turn;
      count = f.count;
      floor = low;
      marks = new;
      words = are;
      places = long;
      holder = λ z. somewhere_set (λ x. x.turn ≡ true) s.views id v w at (λ y. y) (f.holder z);
      home = f.home;
      out = f.out;
      fenced = f.fenced;
      legal = f.legal;
      few = f.few;
      limit = f.limit;
      started = f.started;
      counted = f.counted;
      views = everywhere_set (Fits basis f.history f.turn f.count) s.views id w
          (fits_marked basis f.history f.turn f.count v marks loads floor floor_loads live (f.views id v at)) (λ i u o e. f.views i u e);
      apart = pairwise_set AreApart s.views id w f.apart
          (λ i u o e. let a = f.apart id i v u at e (λ x. o (sym x)) in
          let n : AreApart w u = record { turn = a.turn; leases = a.leases; own = a.own; numbers = a.numbers } in
          (n, apart_sym w u n));
      owned = λ k p q. somewhere_set (λ x. IsIn k x.own) s.views id v w at (λ y. y) (f.owned k p q);
      numbered = λ n p. somewhere_set (λ x. IsIn n x.numbers) s.views id v w at (λ y. y) (f.numbered n p);
      law = law;
      quiet = everywhere_set (IsQuiet f.history) s.views id w (quiet-moved f.history v w refl refl (λ x. x) (f.quiet id v at))
          (λ i u o e. f.quiet i u e);
    }

-- ---- loads

-- any seat may load a mark
pub loads_mark : (basis : Basis) (slots id i : ℕ) (v : View) (l : List (ℕ × Slot)) → v.live ≡ true
    → Allows (FenceLaw basis) slots id (v, l) (i + 3) (λ n. n) (LoadsMark (step slots (i + 3) 0 0 none) (v, l))
loads_mark basis slots id i v l live s f homes at small =
    let n = slice_index s.words (i + 3) in
    let is : n ≡ mark_of f.marks i = word-mark s.words f.marks (length f.history) f.turn f.floor i f.words in
    let less : i + 3 - 3 ≡ i = omega arith in
    let w = with_mark_loaded v i n in
    let was = (f.law.loaded id v at).each i in (
      w,
      keeps,
      tt,
      view_marked basis s f id v w.marks w.loads v.floor v.floor_loads at live (slice_set s.words (i + 3) n) f.marks f.floor
          (set-mark s.words f.marks (length f.history) f.turn f.floor i n f.words
          ∙ ap (λ (m : List ℕ). length f.history ∷ f.turn ∷ f.floor ∷ m) (ap (slice_set f.marks i) is ∙ set-same f.marks i))
          f.places
          (subst (λ (k : ℕ). MarksLaw basis f.history f.floor f.marks (slice_set s.views id (with_mark_loaded v i k))) (sym is)
          (mark_loaded basis f.history f.floor f.marks s.views id v i at f.law)),
      (
        omega arith,
        refl,
        subst (λ k. mark_of v.marks k ≤ n) (sym less) (omega (arith, was, is)),
        ap (λ k. (with_mark_loaded v k n, l)) (sym less),
      ),
    )

-- any seat may load the floor
pub loads_floor : (basis : Basis) (slots id : ℕ) (v : View) (l : List (ℕ × Slot)) → v.live ≡ true
    → Allows (FenceLaw basis) slots id (v, l) 2 (λ n. n) (LoadsFloor (step slots 2 0 0 none) (v, l))
loads_floor basis slots id v l live s f homes at small =
    let n = slice_index s.words 2 in
    let is : n ≡ f.floor = ap (λ (w : List ℕ). slice_index w 2) f.words in
    let was = (f.law.loaded id v at).low in (
      with_floor_loaded v n,
      keeps,
      tt,
      view_marked basis s f id v v.marks v.loads n (suc v.floor_loads) at live (slice_set s.words 2 n) f.marks f.floor
          (ap (λ (w : List ℕ). slice_set w 2 n) f.words ∙ ap (λ (k : ℕ). length f.history ∷ f.turn ∷ k ∷ f.marks) is)
          f.places
          (subst (λ (k : ℕ). MarksLaw basis f.history f.floor f.marks (slice_set s.views id (with_floor_loaded v k))) (sym is)
          (floor_loaded basis f.history f.floor f.marks s.views id v at f.law)),
      (refl, refl, omega (arith, was, is), refl),
    )

-- ---- raises

-- what a lease may vouch for is at most the input mark of its interval
input-place : (place : Settled) (seq x : ℕ) (b : Bool) → x ≤ cond b place.input 0 → x ≤ place.input
input-place place seq x true le = le
input-place place seq x false le = omega (arith, le)

-- what a lease may vouch for is a safe mark of its interval, whoever has claimed it since
pub may-safe : (basis : Basis) (h : List Entry) (v : View) (lease : LeaseView) (x : ℕ) → v.basis ≡ basis → Begins v.front h
    → IsSettled basis h v.front lease.interval (place_of v.settled lease.interval) → MayRaise v lease x
    → IfSome basis.told (λ _. IsSafeAt basis.case (run_of basis.case.topology h) lease.interval x)
may-safe basis h v lease x same begins settled may =
    told-then basis.told
    (λ _. ((b : Bounds) → slice_get (intervals_of basis.case.topology) lease.interval ≡ Some b → IsVouched basis.case h b place)
    × ((b : Bounds) → slice_get (intervals_of basis.case.topology) lease.interval ≡ Some b
    → x ≤ own_work basis.case (run_of basis.case.topology (take place.base v.front)) b)) _
    (told-both basis.told
    (λ _. (b : Bounds) → slice_get (intervals_of basis.case.topology) lease.interval ≡ Some b → IsVouched basis.case h b place) _
    settled.vouched own)
    (λ _ p b there. vouched-safe basis.case h b place x (p.0 b there)
    (subst (λ (f : List Entry). x ≤ own_work basis.case (run_of basis.case.topology f) b) seen (p.1 b there))
    (input-place place (suc lease.seq) x (place.claim == suc lease.seq) may.input))
  where
    place : Settled
    place = place_of v.settled lease.interval

    own : IfSome basis.told (λ _. (b : Bounds) → slice_get (intervals_of basis.case.topology) lease.interval ≡ Some b
        → x ≤ own_work basis.case (run_of basis.case.topology (take place.base v.front)) b)
    own = subst (λ (z : Basis). IfSome z.told (λ _. (b : Bounds) → slice_get (intervals_of z.case.topology) lease.interval ≡ Some b
        → x ≤ own_work z.case (run_of z.case.topology (take place.base v.front)) b)) same may.own

    seen : take place.base v.front ≡ take place.base h
    seen = sym (take-append-le place.base v.front begins.0 settled.within) ∙ ap (take place.base) begins.1

-- a seat may raise the mark of a lease's interval, to what the lease may vouch for
pub raises_mark : (basis : Basis) (slots id : ℕ) (v : View) (l : List (ℕ × Slot)) (lease : LeaseView) (i x : ℕ) → v.live ≡ true
    → lease.interval ≡ i → i < PLACES → MayRaise v lease x
    → Allows (FenceLaw basis) slots id (v, l) (i + 3) (λ n. max n x) (RaisesMark (step slots (i + 3) x 0 none) (v, l))
raises_mark basis slots id v l lease i x live same there may s f homes at small =
    let n = slice_index s.words (i + 3) in
    let is : n ≡ mark_of f.marks i = word-mark s.words f.marks (length f.history) f.turn f.floor i f.words in
    let less : i + 3 - 3 ≡ i = omega arith in
    let fit = f.views id v at in
    let long = f.places in
    let w = with_mark_loaded v i (max n x) in
    let was = (f.law.loaded id v at).each i in (
      w,
      keeps,
      tt,
      view_marked basis s f id v w.marks w.loads v.floor v.floor_loads at live (slice_set s.words (i + 3) (max n x))
          (slice_set f.marks i (max n x)) f.floor
          (set-mark s.words f.marks (length f.history) f.turn f.floor i (max n x) f.words)
          (length-set f.marks i (max n x) ∙ f.places)
          (subst (λ (k : ℕ). MarksLaw basis f.history f.floor (slice_set f.marks i (max k x))
          (slice_set s.views id (with_mark_loaded v i (max k x)))) (sym is)
          (mark_raised basis f.history f.floor f.marks s.views id v i x at (omega (arith, there, long))
          (subst (λ k. IfSome basis.told (λ _. IsSafeAt basis.case (run_of basis.case.topology f.history) k x)) same
          (may-safe basis f.history v lease x (fit.same live) fit.begins (f.law.settled id v at lease.interval) may)) f.law)),
      (
        omega arith,
        subst (λ k. mark_of v.marks k ≤ n) (sym less) (omega (arith, was, is)),
        (lease, same ∙ sym less, may),
        ap (λ k. (with_mark_loaded v k (max n x), l)) (sym less),
      ),
    )

-- the seat with the turn may raise the floor to that of the history
pub raises_floor : (basis : Basis) (slots id : ℕ) (v : View) (l : List (ℕ × Slot)) (x : ℕ) → v.live ≡ true → v.turn ≡ true
    → x ≡ floor_of (run_of v.basis.case.topology v.front)
    → Allows (FenceLaw basis) slots id (v, l) 2 (λ n. max n x) (RaisesFloor (step slots 2 x 0 none) (v, l))
raises_floor basis slots id v l x live turn floor s f homes at small =
    let n = slice_index s.words 2 in
    let is : n ≡ f.floor = ap (λ (w : List ℕ). slice_index w 2) f.words in
    let fit = f.views id v at in
    let mine = fit.holds turn in
    let whole : x ≡ floor_of (run_of basis.case.topology f.history) =
    floor ∙ (λ i. floor_of (run_of (fit.same live i).case.topology (mine.4 i))) in
    let most = f.law.under_floor in
    let top : max n x ≡ x = omega (arith, is, whole, most) in (
      with_floor_loaded v x,
      keeps,
      tt,
      view_marked basis s f id v v.marks v.loads x (suc v.floor_loads) at live (slice_set s.words 2 (max n x)) f.marks x
          (ap (λ (w : List ℕ). slice_set w 2 (max n x)) f.words ∙ ap (λ (k : ℕ). length f.history ∷ f.turn ∷ k ∷ f.marks) top)
          f.places
          (floor_raised basis f.history f.floor f.marks s.views id v x at whole f.law),
      (refl, floor, omega (arith, is, whole, most), refl),
    )
