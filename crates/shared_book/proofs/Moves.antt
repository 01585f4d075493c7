-- Taking the turn, or missing it, keeps the fence law.
use Rattle.std.proofs.Common.{◌≡◌, ◌≢◌, ℕ, zero, suc, ◌+◌, ◌≤◌, List, [], ◌∷◌, length, Some, true, false, true≢false, refl, sym, ap, ◌∙◌, subst, arith, eqb, ne_eqb}
use Rattle.std.specs.Prelude.{IfSome, slice_index, slice_set}
use mathlib.Core.Option.{Option, some, none, some-ne-none}
use prog.Atomic.{either}
use lib.ListN.{get_elem?}
use Rattle.atomic_table.specs.Table.{State, Act, keeps, takes, stepped, step, Allows, Valid, carried_after}
use Rattle.mw_types.specs.Causes.{Rose}
use Rattle.mw_types.specs.declared.entry.Entry.{Entry}
use Rattle.run_history.specs.Fences.{Begins}
use Rattle.run_history.specs.Legal.{floor_of}
use Rattle.run_history.specs.Runs.{run_of}
use Rattle.book.specs.Marks.{AreSafe}
use Rattle.run_history.proofs.Beginnings.{Begins-itself, Begins-trans, Begins-length}
use Rattle.shared_book.specs.declared.views.Basis.{Basis}
use Rattle.shared_book.specs.declared.views.View.{View}
use Rattle.shared_book.specs.Lists.{IsIn}
use Rattle.shared_book.specs.FenceLaw.{Slot, FenceLaw, Fits, AreApart, IsCore, AreClaimed, HasSeenOwn, HasWrittenAll, IsQuiet}
use Rattle.shared_book.specs.Steps.{IsTry, Takes, holding, missing}
use Rattle.shared_book.proofs.ViewLists.{everywhere_set, pairwise_set, somewhere_set, somewhere_here}
use Rattle.shared_book.proofs.Histories.{claim_kept, all_below}
use Rattle.shared_book.proofs.LawSteps.{loaded-safe, marks_moved}
use Rattle.shared_book.proofs.Quiet.{quiet-moved}

-- no is not yes
pub off : false ≡ true → ⊥
off e = true≢false (sym e)

-- a count that rose has risen where it goes on
pub rose_on : (a b c : ℕ) → Rose a b → b ≤ c → Rose a c
rose_on a b c rose le = omega (arith, rose, le)

-- at most what is at most this
pub le_on : (a b c : ℕ) → a ≤ b → b ≤ c → a ≤ c
le_on a b c p q = omega (arith, p, q)

-- two views that are apart are apart the other way round
pub apart_sym : (v w : View) → AreApart v w → AreApart w v
apart_sym v w a = record {
  turn = λ x y. a.turn y x;
  leases = λ s x y. a.leases s y x;
  own = λ k x y. a.own k y x;
  numbers = λ n x y. a.numbers n y x;
}

-- a view without the turn still fits where the history goes on and the count does not fall
pub fits_on : (basis : Basis) (h k : List Entry) (turn count turn' count' : ℕ) (u : View) → Fits basis h turn count u
    → (u.turn ≡ true → ⊥) → Begins h k → count ≤ count' → HasSeenOwn k u → HasWrittenAll k u → Fits basis k turn' count' u
fits_on basis h k turn count turn' count' u f quiet grows more seen_own written = record {
  same = f.same;
  gone = f.gone;
  begins = Begins-trans u.front h k f.begins grows;
  reaches = f.reaches;
  met = f.met;
  met_same = f.met_same;
  holds = λ r. absurd (quiet r);
  claimed = f.claimed;
  once = f.once;
  seen_own = seen_own;
  written = written;
  own = f.own;
  own_ascend = f.own_ascend;
  numbers = f.numbers;
  numbers_ascend = f.numbers_ascend;
  only_looks = f.only_looks;
  failed = λ p. rose_on basis.count count count' (f.failed p) more;
}

-- no other view has the turn
pub alone : (basis : Basis) (s : State Slot View) (f : FenceLaw basis s) (id : ℕ) (v : View) → get_elem? s.views id ≡ some v
    → v.turn ≡ true → (i : ℕ) (u : View) → i ≢ id → get_elem? s.views i ≡ some u → u.turn ≡ true → ⊥
alone basis s f id v at t i u o e r = (f.apart id i v u at e (λ x. o (sym x))).turn t r

-- the first place has what it was set to
place_set : (homes : List (Option Slot)) (x y : Option Slot) → get_elem? homes 0 ≡ some x
    → get_elem? (slice_set homes 0 y) 0 ≡ some y
place_set [] x y e = absurd (some-ne-none x (sym e))
place_set (h ∷ homes) x y e = refl

-- a try for the turn is the step that it is said to be
tries : (slots number : ℕ) (ns : List ℕ) (v : View) → v.numbers ≡ number ∷ ns → IsTry (step slots 1 0 (number + 1) none) v
tries slots number ns v num = let next : number + 1 ≡ suc number = omega arith in
    record { word = refl; from = refl; least = number; others = ns; numbers = num; to = next }

-- what has to be shown of a step that takes the turn, or misses it, where it found this number
abbrev Taken : Basis → ℕ → ℕ → ℕ → View → State Slot View → ℕ → Type 0
Taken basis slots id number v s n =
    (w : View) × (a : Act Slot) × Valid s.homes [] a
    × FenceLaw basis (stepped s 1 (either (eqb n 0) (number + 1) n) id [] w a)
    × Takes (step slots 1 0 (number + 1) none) (v, []) n (w, carried_after [] a)

-- a word that is set to what it is
same_words : (ws others : List ℕ) (a t : ℕ) → ws ≡ a ∷ t ∷ others → slice_set ws 1 t ≡ a ∷ t ∷ others
same_words ws others a t e = ap (λ l. slice_set l 1 t) e

-- the turn is taken where the word is 0
took : (basis : Basis) (slots id number : ℕ) (ns : List ℕ) (v : View) → v.numbers ≡ number ∷ ns → v.turn ≡ false
    → v.live ≡ true → (s : State Slot View) → (f : FenceLaw basis s) → get_elem? s.views id ≡ some v → f.turn ≡ 0
    → Taken basis slots id number v s 0
took basis slots id number ns v num quiet live s f at is =
    let h = f.history in
    let home = f.home is in
    let b = home.0 in
    let core = home.2 in
    let w = holding v b in
    let fit = f.views id v at in
    let base : v.basis ≡ basis = fit.same live in
    let reach : Begins v.front b.history = subst (Begins v.front) (sym core.whole) fit.begins in
    let longer = Begins-length v.front b.history reach in
    let claimed : AreClaimed b.history v.leases =
    λ l p. claim_kept v.front b.history l.interval l.seq reach (fit.claimed l p) in
    let low = loaded-safe basis h f.floor f.marks s.views id v at f.law in
    let free : (i : ℕ) (u : View) → get_elem? s.views i ≡ some u → u.turn ≡ true → ⊥ =
    λ i u e r. let k = (f.views i u e).holds r in omega (arith, k.3, is) in (
      w,
      takes 0 (Some b),
      home.1,
      record {
        history = h;
        turn = number + 1;
        count = b.faults;
        floor = f.floor;
        marks = f.marks;
        words = ap (λ l. slice_set l 1 (number + 1)) f.words;
        places = f.places;
        holder = λ z. somewhere_here (λ x. x.turn ≡ true) s.views id v w at refl;
        home = λ z. absurd (omega arith);
        out = λ z. place_set s.homes (some (Some b)) none home.1;
        fenced = f.fenced;
        legal = f.legal;
        few = f.few;
        limit = f.limit;
        started = f.started;
        counted = le_on basis.count f.count b.faults f.counted core.enough;
        views = everywhere_set (Fits basis h (number + 1) b.faults) s.views id w
            (record {
              same = fit.same;
              gone = λ e. absurd (off (sym e ∙ live));
              begins = subst (λ l. Begins l h) (sym core.whole) (Begins-itself h);
              reaches = λ x. let o = fit.reaches x in omega (arith, o, longer);
              met = Begins-trans v.met v.front b.history fit.met reach;
              met_same = fit.met_same;
              holds = λ r. (number, ns, num, omega arith, core.whole, refl);
              claimed = claimed;
              once = fit.once;
              seen_own = λ q p. all_below h b.history q core.whole;
              written = fit.written;
              own = λ k p. let o = fit.own k p in (o.0, omega (arith, o.1, longer));
              own_ascend = fit.own_ascend;
              numbers = fit.numbers;
              numbers_ascend = fit.numbers_ascend;
              only_looks = λ e. absurd (some-ne-none number
                  (sym (ap (λ (l : List ℕ). get_elem? l 0) (sym e ∙ num))));
              failed = λ p. rose_on basis.count f.count b.faults (fit.failed p) core.enough;
            })
            (λ i u o e. fits_on basis h h f.turn f.count (number + 1) b.faults u (f.views i u e) (free i u e)
            (Begins-itself h) core.enough (f.views i u e).seen_own (f.views i u e).written);
        apart = pairwise_set AreApart s.views id w f.apart
            (λ i u o e. let a = f.apart id i v u at e (λ x. o (sym x)) in
            let n : AreApart w u = record {
              turn = λ x y. free i u e y;
              leases = a.leases;
              own = a.own;
              numbers = a.numbers;
            } in (n, apart_sym w u n));
        owned = λ k p q. somewhere_set (λ x. IsIn k x.own) s.views id v w at (λ y. y) (f.owned k p q);
        numbered = λ n p. somewhere_set (λ x. IsIn n x.numbers) s.views id v w at (λ y. y) (f.numbered n p);
        law = marks_moved basis h f.floor f.marks s.views id v w at reach refl refl refl f.law;
        quiet = everywhere_set (IsQuiet h) s.views id w (quiet-moved h v w refl refl (λ x. refl) (f.quiet id v at)) (λ i u o e. f.quiet i u e);
      },
      (
        tries slots number ns v num,
        (
          b,
          refl,
          record {
            begins = reach;
            claimed = fit.claimed;
            seen_own = subst (λ l. HasSeenOwn l v) (sym core.whole) fit.seen_own;
            core = subst (λ (y : Basis). IsCore y b.history b.faults b) (sym base)
                (record { whole = refl; enough = omega arith; lawful = core.lawful; limit = core.limit; told = core.told });
            marks = subst (λ (z : Basis × List Entry). IfSome z.0.told
                (λ _. AreSafe z.0.case (run_of z.0.case.topology z.1) v.marks))
                (λ i. (sym base i, sym core.whole i)) low.0;
            floor = subst (λ (z : Basis × List Entry). v.floor ≤ floor_of (run_of z.0.case.topology z.1))
                (λ i. (sym base i, sym core.whole i)) low.1;
          },
        ),
      ),
    )

-- the turn is missed where another has it, or else it is taken
taken : (basis : Basis) (slots id number : ℕ) (ns : List ℕ) (v : View) → v.numbers ≡ number ∷ ns → v.turn ≡ false
    → v.live ≡ true → (s : State Slot View) → (f : FenceLaw basis s) → get_elem? s.views id ≡ some v
    → (t : ℕ) → f.turn ≡ t → Taken basis slots id number v s t
taken basis slots id number ns v num quiet live s f at zero is = took basis slots id number ns v num quiet live s f at is
taken basis slots id number ns v num quiet live s f at (suc m) is =
    let ne : eqb (suc m) 0 ≡ false = ne_eqb (suc m) 0 (λ e. omega arith) in
    let w = missing v (suc m) in
    let fit = f.views id v at in
    rw ne (
      w,
      keeps,
      tt,
      record {
        history = f.history;
        turn = f.turn;
        count = f.count;
        floor = f.floor;
        marks = f.marks;
        words = subst (λ (k : ℕ). slice_set s.words 1 k ≡ length f.history ∷ f.turn ∷ f.floor ∷ f.marks) is
            (same_words s.words (f.floor ∷ f.marks) (length f.history) f.turn f.words);
        places = f.places;
        holder = λ z. somewhere_set (λ x. x.turn ≡ true) s.views id v w at (λ y. y) (f.holder z);
        home = f.home;
        out = f.out;
        fenced = f.fenced;
        legal = f.legal;
        few = f.few;
        limit = f.limit;
        started = f.started;
        counted = f.counted;
        views = everywhere_set (Fits basis f.history f.turn f.count) s.views id w
            (record {
              same = fit.same;
              gone = λ e. absurd (off (sym e ∙ live));
              begins = fit.begins;
              reaches = fit.reaches;
              met = fit.met;
              met_same = fit.met_same;
              holds = fit.holds;
              claimed = fit.claimed;
              once = fit.once;
              seen_own = fit.seen_own;
              written = fit.written;
              own = fit.own;
              own_ascend = fit.own_ascend;
              numbers = fit.numbers;
              numbers_ascend = fit.numbers_ascend;
              only_looks = fit.only_looks;
              failed = fit.failed;
            })
            (λ i u o e. f.views i u e);
        apart = pairwise_set AreApart s.views id w f.apart
            (λ i u o e. let a = f.apart id i v u at e (λ x. o (sym x)) in
            let n : AreApart w u = record { turn = a.turn; leases = a.leases; own = a.own; numbers = a.numbers } in
            (n, apart_sym w u n));
        owned = λ k p q. somewhere_set (λ x. IsIn k x.own) s.views id v w at (λ y. y) (f.owned k p q);
        numbered = λ n p. somewhere_set (λ x. IsIn n x.numbers) s.views id v w at (λ y. y) (f.numbered n p);
        law = marks_moved basis f.history f.floor f.marks s.views id v w at (Begins-itself v.front) refl refl refl f.law;
        quiet = everywhere_set (IsQuiet f.history) s.views id w (quiet-moved f.history v w refl refl (λ x. x) (f.quiet id v at))
            (λ i u o e. f.quiet i u e);
      },
      (tries slots number ns v num, refl),
    )

-- a seat without the turn may try to take it
pub takes_turn : (basis : Basis) (slots id number : ℕ) (ns : List ℕ) (v : View) → v.numbers ≡ number ∷ ns
    → v.turn ≡ false → v.live ≡ true
    → Allows (FenceLaw basis) slots id (v, []) 1 (λ n. either (eqb n 0) (number + 1) n)
    (Takes (step slots 1 0 (number + 1) none) (v, []))
takes_turn basis slots id number ns v num quiet live s f homes at small =
    let e : slice_index s.words 1 ≡ f.turn = ap (λ l. slice_index l 1) f.words in
    subst (λ (n : ℕ). Taken basis slots id number v s n) (sym e)
    (taken basis slots id number ns v num quiet live s f at f.turn refl)
