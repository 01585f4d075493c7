-- How the rule begins, and from the fence law to the rule.
use Rattle.std.proofs.Common.{inl, inr, ◌≡◌, ◌⊎◌, ℕ, zero, suc, ◌+◌, ◌<◌, ◌≤◌, List, [], ◌∷◌, length, Some, None, Bool, true, false, true≢false, refl, sym, ap, ◌∙◌, subst, ⊎_elim, arith}
use Rattle.std.specs.Prelude.{slice_index, slice_set}
use mathlib.Core.Option.{some, none, some-ne-none, some-injective}
use lib.ListN.{get_elem?}
use Rattle.atomic_table.specs.Table.{State, Me, takes, gives, step, Allows, Splits, Joins, rest, opening}
use Rattle.atomic_table.proofs.Lists.{set_here}
use Rattle.run_history.specs.Cases.{CaseShape}
use Rattle.run_history.proofs.Beginnings.{Begins-itself}
use Rattle.book.specs.Books.{CoreView}
use Rattle.book.specs.Lawful.{IsLawful}
use Rattle.shared_book.specs.declared.views.Basis.{Basis}
use Rattle.shared_book.specs.declared.views.View.{View}
use Rattle.shared_book.specs.declared.shared.Key.{Key}
use Rattle.shared_book.specs.Lists.{IsIn, Ascends}
use Rattle.shared_book.specs.FenceLaw.{Slot, FenceLaw, Fits, IsQuiet}
use Rattle.shared_book.specs.Steps.{SeatView}
use Rattle.shared_book.specs.Joins.{first_of}
use Rattle.shared_book.specs.Opening.{AreRight, blank, span, newborn, IsUnborn, SharedLaw, Fetches, Opens}
use Rattle.shared_book.specs.Places.{PLACES}
use Rattle.shared_book.proofs.Moves.{off}
use Rattle.shared_book.proofs.Appending.{lawful_legal}
use Rattle.shared_book.proofs.LawSteps.{bare-new, marks_begin}
use Rattle.shared_book.proofs.Places.{place-nothing}
use Rattle.shared_book.proofs.Quiet.{quiet-bare}

-- ---- from the fence law to the rule

-- where there is one view, a view that stands somewhere is that one
one_view : (u v : View) (id : ℕ) → get_elem? (u ∷ []) id ≡ some v → (id ≡ 0) × (u ≡ v)
one_view u v zero e = (refl, some-injective u v e)
one_view u v (suc id) e = absurd (some-ne-none v (sym e))

-- before the book is in the table no view is one of a book
pub unborn_view : (key : Key) (s : State Slot View) (u : IsUnborn key s) (id : ℕ) (v : View) → get_elem? s.views id ≡ some v
    → v.live ≡ true → ⊥
unborn_view key s u id v at live = off (ap (λ (x : View). x.live)
    (one_view (blank key.case.now key.seats u.out) v id (ap (λ l. get_elem? l id) (sym u.views) ∙ at)).1 ∙ live)

-- a step of a seat of a book that keeps the fence law keeps the rule
pub lift : (key : Key) (slots id : ℕ) (v : View) (l : List (ℕ × Slot)) (i : ℕ) (g : ℕ → ℕ) (then : ℕ → Me Slot View → Type 0)
    → v.live ≡ true → ((basis : Basis) → Allows (FenceLaw basis) slots id (v, l) i g then)
    → Allows (SharedLaw key) slots id (v, l) i g then
lift key slots id v l i g then live h s r homes at small = ⊎_elim
    (λ u. absurd (unborn_view key s u id v at live))
    (λ x. let a = h x.0 s x.1 homes at small in (a.0, a.1, a.2, inr (x.0, a.3), a.4))
    r

-- so does a split
pub lift_split : (key : Key) (id : ℕ) (v left right : View) → v.live ≡ true
    → ((basis : Basis) → Splits {S = Slot} (FenceLaw basis) id v left right) → Splits {S = Slot} (SharedLaw key) id v left right
lift_split key id v left right live h s r at = ⊎_elim
    (λ u. absurd (unborn_view key s u id v at live))
    (λ x. inr (x.0, h x.0 s x.1 at))
    r

-- and a join
pub lift_join : (key : Key) (id : ℕ) (v : View) (other : ℕ) (w both spent : View) → v.live ≡ true
    → ((basis : Basis) → Joins {S = Slot} (FenceLaw basis) id v other w both spent)
    → Joins {S = Slot} (SharedLaw key) id v other w both spent
lift_join key id v other w both spent live h s r at apart there = ⊎_elim
    (λ u. absurd (unborn_view key s u id v at live))
    (λ x. inr (x.0, h x.0 s x.1 at apart there))
    r

-- ---- the table is empty, and its place is taken

-- a blank view stands only before the book is in the table
no_blank : (basis : Basis) (s : State Slot View) (f : FenceLaw basis s) (case : CaseShape) (seats id : ℕ) (t : Bool)
    → get_elem? s.views id ≡ some (blank case seats t) → ⊥
no_blank basis s f case seats id t at = some-ne-none 0
    (sym (ap (λ (x : View). get_elem? x.numbers 0) (sym ((f.views id (blank case seats t) at).gone refl))))

-- the rule holds of the empty table
pub starts : (key : Key) → SharedLaw key (opening (0 ∷ 0 ∷ key.floor ∷ key.marks) (None ∷ []) (blank key.case.now key.seats false))
starts key = inl (record { words = (0, refl); out = false; views = refl; home = λ e. refl })

-- the first seat may take the place
pub fetches : (key : Key) (slots id : ℕ)
    → Allows (SharedLaw key) slots id (blank key.case.now key.seats false, []) 0 (λ n. n)
    (Fetches (step slots 0 0 0 none) (blank key.case.now key.seats false, []))
fetches key slots id s r homes at small = ⊎_elim
    (λ u.
    let here = one_view (blank key.case.now key.seats u.out) (blank key.case.now key.seats false) id
    (ap (λ l. get_elem? l id) (sym u.views) ∙ at) in
    let inside : u.out ≡ false = ap (λ (x : View). x.turn) here.1 in (
      blank key.case.now key.seats true,
      takes 0 None,
      u.home inside,
      inl (record {
        words = (
          u.words.0,
          subst (λ (l : List ℕ). slice_set s.words 0 (slice_index l 0) ≡ u.words.0 ∷ 0 ∷ key.floor ∷ key.marks) (sym u.words.1)
              (ap (λ l. slice_set l 0 u.words.0) u.words.1),
        );
        out = true;
        views = ap (λ l. slice_set l id (blank key.case.now key.seats true)) u.views
            ∙ ap (λ k. slice_set (blank key.case.now key.seats u.out ∷ []) k (blank key.case.now key.seats true)) here.0;
        home = λ e. absurd (true≢false e);
      }),
      refl,
    ))
    (λ x. absurd (no_blank x.0 s x.1 key.case.now key.seats id false at))
    r

-- ---- the place is given back with the book

-- what is in a span of numbers
span_in : (a n k : ℕ) → IsIn k (span a n) → (a ≤ k) × (k < a + n)
span_in a zero k p = absurd p
span_in a (suc n) k p = ⊎_elim
    (λ e. (omega (arith, e), omega (arith, e)))
    (λ q. let b = span_in (suc a) n k q in (omega (arith, b.0), omega (arith, b.1)))
    p

-- and back
in_span : (a n k : ℕ) → a ≤ k → k < a + n → IsIn k (span a n)
in_span a zero k p q = absurd (omega (arith, p, q))
in_span a (suc n) k p q = ⊎_elim (λ e. inl e) (λ l. inr (in_span (suc a) n k l (omega (arith, q)))) (at_or a k p)
  where
    at_or : (a k : ℕ) → a ≤ k → (k ≡ a) ⊎ (suc a ≤ k)
    at_or zero zero h = inl refl
    at_or zero (suc k) h = inr (omega arith)
    at_or (suc a) zero h = absurd (omega (arith, h))
    at_or (suc a) (suc k) h = ⊎_elim (λ e. inl (ap suc e)) (λ l. inr (omega (arith, l))) (at_or a k (omega (arith, h)))

-- a span ascends
span_ascends : (a n : ℕ) → Ascends (span a n)
span_ascends a zero = tt
span_ascends a (suc n) = ((λ y p. let b = (span_in (suc a) n y p).0 in omega (arith, b)), span_ascends (suc a) n)

-- the first of a span
pub span_first : (from count : ℕ) → 0 < count → first_of (span from count) ≡ from ∷ []
span_first from zero more = absurd (omega (arith, more))
span_first from (suc count) more = refl

-- the fence law holds once the book is in the table
newborn_law : (v : View) (b : CoreView) (homes : List (mathlib.Core.Option.Option Slot)) (floor : ℕ) (marks : List ℕ)
    → 0 < v.basis.seats → IsLawful v.basis.case b → AreRight v.basis.case floor marks b
    → get_elem? homes 0 ≡ some (some (Some b))
    → FenceLaw ((newborn v b).basis) (record {
      words = length b.history ∷ 0 ∷ floor ∷ marks;
      homes = homes;
      views = newborn v b ∷ [];
    })
newborn_law v b homes floor marks some_seat lawful right home =
    let n = v.basis.seats in
    let basis = (newborn v b).basis in
    record {
      history = b.history;
      turn = 0;
      count = b.faults;
      floor = floor;
      marks = marks;
      words = refl;
      places = right.places;
      holder = λ z. absurd (omega (arith, z));
      home = λ z. (b, home, record { whole = refl; enough = omega arith; lawful = lawful; limit = refl; told = refl });
      out = λ z. absurd (omega (arith, z));
      fenced = lawful.fenced;
      legal = lawful_legal basis b.history b lawful refl refl;
      few = lawful.few;
      limit = lawful.limit;
      started = omega arith;
      counted = omega arith;
      views = λ i u e. let here = one_view (newborn v b) u i e in subst (Fits basis b.history 0 b.faults) here.1 (record {
        same = λ e. refl;
        gone = λ e. absurd (true≢false e);
        begins = Begins-itself b.history;
        reaches = λ e. omega arith;
        met = (b.history, refl);
        met_same = λ e. refl;
        holds = λ e. absurd (off e);
        claimed = λ l p. absurd p;
        once = tt;
        seen_own = λ q p. absurd p;
        written = λ q p. absurd p;
        own = λ k p. absurd p;
        own_ascend = tt;
        numbers = λ k p. let c = (span_in 0 n k p).1 in omega (arith, c);
        numbers_ascend = span_ascends 0 n;
        only_looks = λ e. absurd (subst (IsIn 0) e (in_span 0 n 0 (omega arith) (omega (arith, some_seat))));
        failed = λ p. absurd (omega (arith, p));
      });
      apart = λ i j u x e f o. absurd (o ((one_view (newborn v b) u i e).0 ∙ sym (one_view (newborn v b) x j f).0));
      owned = λ k p q. absurd (omega (arith, p, q));
      numbered = λ k p. (0, newborn v b, refl, in_span 0 n k (omega arith) (omega (arith, p)));
      law = marks_begin basis b.history floor marks (newborn v b) right.under_floor right.safe (bare-new (newborn v b) PLACES refl refl refl);
      quiet = λ i u e. subst (IsQuiet b.history) (one_view (newborn v b) u i e).1
          (quiet-bare b.history (newborn v b) (place-nothing PLACES));
    }

-- the first seat may give the place back with the book
pub opens : (key : Key) (slots id : ℕ) (b : CoreView) (m : ℕ) → m ≡ length b.history → 0 < key.seats → 0 < slots
    → IsLawful key.case.now b → AreRight key.case.now key.floor key.marks b
    → Allows (SharedLaw key) slots id (blank key.case.now key.seats true, (0, Some b) ∷ []) 0 (λ _. m)
    (λ _. Opens (step slots 0 m 0 none) (blank key.case.now key.seats true, (0, Some b) ∷ []) m)
opens key slots id b m long some_seat room lawful right s r homes at small = ⊎_elim
    (λ u.
    let v = blank key.case.now key.seats true in
    let here = one_view (blank key.case.now key.seats u.out) v id (ap (λ l. get_elem? l id) (sym u.views) ∙ at) in
    let placed = slice_set s.homes 0 (some (Some b)) in
    let P : List ℕ × List View → Type 0 =
    λ z. FenceLaw ((newborn v b).basis) (record { words = z.0; homes = placed; views = z.1 }) in
    let ws : length b.history ∷ 0 ∷ key.floor ∷ key.marks ≡ slice_set s.words 0 m =
    ap (λ (k : ℕ). k ∷ 0 ∷ key.floor ∷ key.marks) (sym long) ∙ sym (ap (λ l. slice_set l 0 m) u.words.1) in
    let vs : newborn v b ∷ [] ≡ slice_set s.views id (newborn v b) =
    sym (ap (λ l. slice_set l id (newborn v b)) u.views
    ∙ ap (λ k. slice_set (blank key.case.now key.seats u.out ∷ []) k (newborn v b)) here.0) in (
      newborn v b,
      gives,
      tt,
      inr (
        (newborn v b).basis,
        subst P (λ i. (ws i, vs i))
            (newborn_law v b placed key.floor key.marks some_seat lawful right (set_here s.homes 0 (some (Some b)) (omega (arith, homes, room)))),
      ),
      refl,
    ))
    (λ x. absurd (no_blank x.0 s x.1 key.case.now key.seats id true at))
    r

-- ---- the same, of what the calls know

-- a blank view by what the table was told
blank_of : (key : Key) (case : CaseShape) (seats : ℕ) (t : Bool) → key.case.now ≡ case → key.seats ≡ seats
    → blank case seats t ≡ blank key.case.now key.seats t
blank_of key case seats t p q = λ i. blank (sym p i) (sym q i) t

-- the first seat may take the place
pub may_fetch : (key : Key) (slots id : ℕ) (me : SeatView) (case : CaseShape) (seats : ℕ) → key.case.now ≡ case → key.seats ≡ seats
    → me ≡ (blank case seats false, [])
    → Allows (SharedLaw key) slots id me 0 (λ n. n) (Fetches (step slots 0 0 0 none) me)
may_fetch key slots id me case seats p q e =
    subst (λ (m : SeatView). Allows (SharedLaw key) slots id m 0 (λ n. n) (Fetches (step slots 0 0 0 none) m))
    (sym (e ∙ ap (λ (v : View). (v, [])) (blank_of key case seats false p q))) (fetches key slots id)

-- the first seat may give the place back
pub may_open : (key : Key) (slots id : ℕ) (me at : SeatView) (b : CoreView) (m : ℕ) (case : CaseShape) (seats : ℕ)
    → key.case.now ≡ case → key.seats ≡ seats → at ≡ (blank case seats true, (0, None) ∷ [])
    → me ≡ (at.0, (0, Some b) ∷ rest at.1) → m ≡ length b.history → 0 < seats → 0 < slots → IsLawful case b
    → AreRight case key.floor key.marks b
    → Allows (SharedLaw key) slots id me 0 (λ _. m) (λ _. Opens (step slots 0 m 0 none) me m)
may_open key slots id me at b m case seats p q was e long some_seat room lawful right =
    let is : me ≡ (blank key.case.now key.seats true, (0, Some b) ∷ []) =
    e ∙ ap (λ (x : SeatView). (x.0, (0, Some b) ∷ rest x.1)) was
    ∙ ap (λ (v : View). (v, (0, Some b) ∷ [])) (blank_of key case seats true p q) in
    subst (λ (x : SeatView). Allows (SharedLaw key) slots id x 0 (λ _. m) (λ _. Opens (step slots 0 m 0 none) x m)) (sym is)
    (opens key slots id b m long (omega (arith, q, some_seat)) room (subst (λ (z : CaseShape). IsLawful z b) (sym p) lawful)
    (subst (λ (z : CaseShape). AreRight z key.floor key.marks b) (sym p) right))

-- the place was taken
pub fetched : (me at : SeatView) (case : CaseShape) (seats : ℕ) → at ≡ (record me.0 { turn = true }, (0, None) ∷ [])
    → me ≡ (blank case seats false, []) → at ≡ (blank case seats true, (0, None) ∷ [])
fetched me at case seats e b = e ∙ ap (λ (m : SeatView). (record m.0 { turn = true }, (0, None) ∷ [])) b
