-- Each kind of step keeps the law of marks. A step changes one view; `v` is what it was, and `w` what it becomes.
use Rattle.std.proofs.Common.{◌≡◌, ◌∙◌, ℕ, ◌+◌, ◌<◌, ◌≤◌, List, [], ◌∷◌, ◌++◌, length, refl, sym, ap, subst, ⊎_elim, arith}
use Rattle.std.specs.Prelude.{max, Some, IfSome, replicate, slice_get, slice_set}
use mathlib.Core.Option.{some, some-ne-none}
use lib.ListN.{get_elem?}
use Rattle.mw_types.specs.declared.entry.Entry.{Entry}
use Rattle.mw_types.specs.declared.entry.Entry.TheVariants.{Claim, Inject, Handle, Fire, Ack, Purge}
use Rattle.topology.specs.Shapes.{Shape}
use Rattle.run_history.specs.Cases.{CaseShape, intervals_of}
use Rattle.run_history.specs.Runs.{Run, run_of}
use Rattle.run_history.specs.Legal.{IsLegal, floor_of}
use Rattle.run_history.specs.Fences.{Begins}
use Rattle.run_history.specs.Inputs.{IsRunnable}
use Rattle.run_history.specs.Marks.{IsSafe}
use Rattle.run_history.proofs.Beginnings.{Begins-itself, Begins-trans}
use Rattle.history_laws.proofs.FloorLaws.{floor_of-below, floor_of-rises}
use Rattle.history_laws.proofs.IdLaws.{next-length}
use Rattle.history_laws.proofs.MarkLaws.{IsSafe-stays}
use Rattle.history_laws.proofs.ReportLaws.{IsSafe-greater}
use Rattle.watermark.specs.Marks.{mark_of}
use Rattle.book.specs.Marks.{AreSafe, IsSafeAt}
use Rattle.book.proofs.SeenRows.{told-both, told-then}
use Rattle.shared_book.specs.declared.views.Basis.{Basis}
use Rattle.shared_book.specs.declared.views.Settled.{Settled}
use Rattle.shared_book.specs.declared.views.View.{View}
use Rattle.shared_book.specs.Lists.{Everywhere}
use Rattle.shared_book.specs.Places.{nothing, place_of, claimed_now, settled_by, place_after, places_after, newest, greatest, with_mark_loaded, with_floor_loaded}
use Rattle.shared_book.specs.MarksLaw.{IsSettled, HasSettled, HasLoaded, MarksLaw}
use Rattle.shared_book.proofs.ViewLists.{everywhere_set, everywhere_snoc, everywhere_joined}
use Rattle.shared_book.proofs.Places.{place-set, place-none, place-nothing, mark-none, mark-zero, place-after, place-newest, mark-greatest, mark-set, mark-set_here}
use Rattle.shared_book.proofs.Vouching.{AreSafe-lower, settled-stays, settled-on, settled-nothing, settled-claimed, settled-after}

-- what is settled of an interval, said of what is there
settled-at : (basis : Basis) (history front : List Entry) (i : ℕ) (p q : Settled) → q ≡ p → IsSettled basis history front i p
    → IsSettled basis history front i q
settled-at basis history front i p q same = subst (IsSettled basis history front i) (sym same)

-- ---- steps that neither load nor settle: a turn is taken or missed, a fault is noted, a look

pub marks_moved : (basis : Basis) (h : List Entry) (floor : ℕ) (marks : List ℕ) (views : List View) (id : ℕ) (v w : View)
    → get_elem? views id ≡ some v → Begins v.front w.front → w.settled ≡ v.settled → w.marks ≡ v.marks → w.floor ≡ v.floor
    → MarksLaw basis h floor marks views → MarksLaw basis h floor marks (slice_set views id w)
marks_moved basis h floor marks views id v w at begins settled loaded low law = record {
  under_floor = law.under_floor;
  safe = law.safe;
  loaded = everywhere_set (HasLoaded floor marks) views id w
      (let was = law.loaded id v at in record {
        each = λ i. subst (λ (l : List ℕ). mark_of l i ≤ mark_of marks i) (sym loaded) (was.each i);
        low = let most = was.low in omega (arith, most, low);
      })
      (λ i u o e. law.loaded i u e);
  settled = everywhere_set (HasSettled basis h) views id w
      (λ i. settled-at basis h w.front i (place_of v.settled i) (place_of w.settled i) (ap (λ (l : List Settled). place_of l i) settled)
      (settled-on basis h v.front w.front i (place_of v.settled i) begins (law.settled id v at i)))
      (λ i u o e. law.settled i u e);
}

-- ---- an entry is appended

-- what is settled by an entry
settled_by-each : (basis : Basis) (h : List Entry) (e : Entry) (places : List Settled) (i : ℕ)
    → IsSettled basis (h ++ e ∷ []) (h ++ e ∷ []) i (place_of places i)
    → IsSettled basis (h ++ e ∷ []) (h ++ e ∷ []) i (place_of (settled_by e (length h) places) i)
settled_by-each basis h (Claim worker interval) places i was = ⊎_elim
    (λ x. subst (λ n. IsSettled basis (h ++ Claim worker interval ∷ []) (h ++ Claim worker interval ∷ []) n
    (place_of (settled_by (Claim worker interval) (length h) places) i)) (sym x.0)
    (settled-at basis (h ++ Claim worker interval ∷ []) (h ++ Claim worker interval ∷ []) interval (claimed_now (length h))
    (place_of (settled_by (Claim worker interval) (length h) places) i) x.1 (settled-claimed basis h worker interval)))
    (λ x. settled-at basis (h ++ Claim worker interval ∷ []) (h ++ Claim worker interval ∷ []) i (place_of places i)
    (place_of (settled_by (Claim worker interval) (length h) places) i) x was)
    (place-set places interval i (claimed_now (length h)))
settled_by-each basis h (Inject q part line item) places i was = was
settled_by-each basis h (Handle q row id effects) places i was = was
settled_by-each basis h (Fire q row timer mark effects) places i was = was
settled_by-each basis h (Ack q row id) places i was = was
settled_by-each basis h (Purge q row floor) places i was = was

pub marks_appended : (basis : Basis) (h : List Entry) (e : Entry) (floor : ℕ) (marks : List ℕ) (views : List View) (id : ℕ) (v w : View)
    → IsRunnable basis.case → IfSome basis.told (λ _. IsLegal basis.case (h ++ e ∷ []))
    → Everywhere views (λ u. Begins u.front h)
    → get_elem? views id ≡ some v → w.front ≡ h ++ e ∷ [] → w.settled ≡ settled_by e (length h) v.settled → w.marks ≡ v.marks
    → w.floor ≡ v.floor
    → MarksLaw basis h floor marks views → MarksLaw basis (h ++ e ∷ []) floor marks (slice_set views id w)
marks_appended basis h e floor marks views id v w runs legal begins at front settled loaded low law = record {
  under_floor = let rises = floor_of-rises basis.case.topology h (e ∷ []) in let most = law.under_floor in omega (arith, rises, most);
  safe = told-then basis.told (λ _. IsLegal basis.case (h ++ e ∷ []) × AreSafe basis.case (run_of basis.case.topology h) marks) _
      (told-both basis.told (λ _. IsLegal basis.case (h ++ e ∷ [])) _ legal law.safe)
      (λ _ p i bounds there. IsSafe-stays basis.case h (e ∷ []) i bounds (mark_of marks i) runs p.0 there (p.1 i bounds there));
  loaded = everywhere_set (HasLoaded floor marks) views id w
      (let was = law.loaded id v at in record {
        each = λ i. subst (λ (l : List ℕ). mark_of l i ≤ mark_of marks i) (sym loaded) (was.each i);
        low = let most = was.low in omega (arith, most, low);
      })
      (λ i u o g. law.loaded i u g);
  settled = everywhere_set (HasSettled basis (h ++ e ∷ [])) views id w
      (λ i. subst (λ (p : List Entry × List Settled). IsSettled basis (h ++ e ∷ []) p.0 i (place_of p.1 i))
      (λ k. (sym front k, sym settled k))
      (settled_by-each basis h e v.settled i
      (settled-on basis (h ++ e ∷ []) v.front (h ++ e ∷ []) i (place_of v.settled i)
      (Begins-trans v.front h (h ++ e ∷ []) (begins id v at) (e ∷ [], refl))
      (settled-stays basis h (e ∷ []) v.front i (place_of v.settled i) runs legal (begins id v at) (law.settled id v at i)))))
      (λ i u o g k. settled-stays basis h (e ∷ []) u.front k (place_of u.settled k) runs legal (begins i u g) (law.settled i u g k));
}

-- ---- the turn is given back, and what the seat knows is settled

pub marks_released : (basis : Basis) (h : List Entry) (floor : ℕ) (marks : List ℕ) (views : List View) (id : ℕ) (v w : View)
    → IsRunnable basis.case → get_elem? views id ≡ some v → v.front ≡ h → w.front ≡ v.front
    → w.settled ≡ places_after basis.case.topology v.front v.marks 0 v.settled → w.marks ≡ v.marks → w.floor ≡ v.floor
    → MarksLaw basis h floor marks views → MarksLaw basis h floor marks (slice_set views id w)
marks_released basis h floor marks views id v w runs at whole front settled loaded low law = record {
  under_floor = law.under_floor;
  safe = law.safe;
  loaded = everywhere_set (HasLoaded floor marks) views id w
      (let was = law.loaded id v at in record {
        each = λ i. subst (λ (l : List ℕ). mark_of l i ≤ mark_of marks i) (sym loaded) (was.each i);
        low = let most = was.low in omega (arith, most, low);
      })
      (λ i u o g. law.loaded i u g);
  settled = everywhere_set (HasSettled basis h) views id w
      (λ i. subst (λ (f : List Entry). IsSettled basis h f i (place_of w.settled i)) (sym (front ∙ whole))
      (settled-at basis h h i (place_of (places_after shape h v.marks 0 v.settled) i) (place_of w.settled i)
      (ap (λ (l : List Settled). place_of l i) settled ∙ ap (λ (f : List Entry). place_of (places_after shape f v.marks 0 v.settled) i) whole)
      (mine i)))
      (λ i u o g. law.settled i u g);
}
  where
    shape : Shape
    shape = basis.case.topology

    before : (i : ℕ) → IsSettled basis h h i (place_of v.settled i)
    before i = subst (λ (f : List Entry). IsSettled basis h f i (place_of v.settled i)) whole (law.settled id v at i)

    safe : IfSome basis.told (λ _. AreSafe basis.case (run_of shape h) v.marks)
    safe = told-then basis.told (λ _. AreSafe basis.case (run_of shape h) marks) _ law.safe
        (λ _ each. AreSafe-lower basis.case (run_of shape h) v.marks marks (law.loaded id v at).each each)

    mine : (i : ℕ) → IsSettled basis h h i (place_of (places_after shape h v.marks 0 v.settled) i)
    mine i = ⊎_elim
        (λ x. let same : 0 + i ≡ i = omega arith in
        settled-at basis h h i (place_after shape h v.marks i (place_of v.settled i))
        (place_of (places_after shape h v.marks 0 v.settled) i)
        (x ∙ ap (λ n. place_after shape h v.marks n (place_of v.settled i)) same)
        (settled-after basis h v.marks i (place_of v.settled i) runs safe (before i)))
        (λ x. settled-at basis h h i nothing (place_of (places_after shape h v.marks 0 v.settled) i) x (settled-nothing basis h h i))
        (place-after shape h v.marks 0 v.settled i)

-- ---- splits and joins

-- a view that has settled and loaded nothing, as that of a note, of a new seat or of a seat that is spent
pub record IsBare (v : View) : Type 0 where
  pub settled : (i : ℕ) → place_of v.settled i ≡ nothing
  pub marks : (i : ℕ) → mark_of v.marks i ≡ 0
  pub floor : v.floor ≡ 0

-- as it is with no places
pub bare-empty : (v : View) → v.settled ≡ [] → v.marks ≡ [] → v.floor ≡ 0 → IsBare v
bare-empty v settled marks floor = record {
  settled = λ i. ap (λ (l : List Settled). place_of l i) settled ∙ place-none i;
  marks = λ i. ap (λ (l : List ℕ). mark_of l i) marks ∙ mark-none i;
  floor = floor;
}

-- and with nothing in each
pub bare-new : (v : View) (n : ℕ) → v.settled ≡ replicate n nothing → v.marks ≡ replicate n 0 → v.floor ≡ 0 → IsBare v
bare-new v n settled marks floor = record {
  settled = λ i. ap (λ (l : List Settled). place_of l i) settled ∙ place-nothing n i;
  marks = λ i. ap (λ (l : List ℕ). mark_of l i) marks ∙ mark-zero n i;
  floor = floor;
}

bare-loaded : (floor : ℕ) (marks : List ℕ) (v : View) → IsBare v → HasLoaded floor marks v
bare-loaded floor marks v bare = record {
  each = λ i. let none = bare.marks i in omega (arith, none);
  low = let none = bare.floor in omega (arith, none);
}

bare-settled : (basis : Basis) (h : List Entry) (v : View) → IsBare v → HasSettled basis h v
bare-settled basis h v bare i =
    settled-at basis h v.front i nothing (place_of v.settled i) (bare.settled i) (settled-nothing basis h v.front i)

pub marks_split : (basis : Basis) (h : List Entry) (floor : ℕ) (marks : List ℕ) (views : List View) (id : ℕ) (v w note : View)
    → get_elem? views id ≡ some v → w.front ≡ v.front → w.settled ≡ v.settled → w.marks ≡ v.marks → w.floor ≡ v.floor → IsBare note
    → MarksLaw basis h floor marks views → MarksLaw basis h floor marks (slice_set views id w ++ note ∷ [])
marks_split basis h floor marks views id v w note at front settled loaded low bare law = record {
  under_floor = law.under_floor;
  safe = law.safe;
  loaded = everywhere_snoc (HasLoaded floor marks) (slice_set views id w) note moved.loaded (bare-loaded floor marks note bare);
  settled = everywhere_snoc (HasSettled basis h) (slice_set views id w) note moved.settled (bare-settled basis h note bare);
}
  where
    moved : MarksLaw basis h floor marks (slice_set views id w)
    moved = marks_moved basis h floor marks views id v w at (subst (Begins v.front) (sym front) (Begins-itself v.front)) settled loaded low law

pub marks_joined : (basis : Basis) (h : List Entry) (floor : ℕ) (marks : List ℕ) (views : List View) (id other : ℕ)
    (v w both spent : View)
    → get_elem? views id ≡ some v → get_elem? views other ≡ some w → Begins v.front both.front → Begins w.front both.front
    → both.settled ≡ newest v.settled w.settled → both.marks ≡ greatest v.marks w.marks → both.floor ≡ max v.floor w.floor → IsBare spent
    → MarksLaw basis h floor marks views → MarksLaw basis h floor marks (slice_set (slice_set views id both) other spent)
marks_joined basis h floor marks views id other v w both spent at there left right settled loaded low bare law = record {
  under_floor = law.under_floor;
  safe = law.safe;
  loaded = everywhere_joined (HasLoaded floor marks) views id other both spent
      (let one = law.loaded id v at in let two = law.loaded other w there in record {
        each = λ i. let is = ap (λ (l : List ℕ). mark_of l i) loaded ∙ mark-greatest v.marks w.marks i in
            let a = one.each i in let b = two.each i in omega (arith, is, a, b);
        low = let a = one.low in let b = two.low in omega (arith, low, a, b);
      })
      (bare-loaded floor marks spent bare) law.loaded;
  settled = everywhere_joined (HasSettled basis h) views id other both spent
      (λ i. settled-at basis h both.front i (place_of (newest v.settled w.settled) i) (place_of both.settled i)
      (ap (λ (l : List Settled). place_of l i) settled)
      (⊎_elim
      (λ x. settled-at basis h both.front i (place_of v.settled i) (place_of (newest v.settled w.settled) i) x
      (settled-on basis h v.front both.front i (place_of v.settled i) left (law.settled id v at i)))
      (λ x. settled-at basis h both.front i (place_of w.settled i) (place_of (newest v.settled w.settled) i) x
      (settled-on basis h w.front both.front i (place_of w.settled i) right (law.settled other w there i)))
      (place-newest v.settled w.settled i)))
      (bare-settled basis h spent bare) law.settled;
}

-- ---- a mark is loaded

pub mark_loaded : (basis : Basis) (h : List Entry) (floor : ℕ) (marks : List ℕ) (views : List View) (id : ℕ) (v : View) (i : ℕ)
    → get_elem? views id ≡ some v
    → MarksLaw basis h floor marks views → MarksLaw basis h floor marks (slice_set views id (with_mark_loaded v i (mark_of marks i)))
mark_loaded basis h floor marks views id v i at law = record {
  under_floor = law.under_floor;
  safe = law.safe;
  loaded = everywhere_set (HasLoaded floor marks) views id (with_mark_loaded v i (mark_of marks i))
      (let was = law.loaded id v at in record {
        each = λ j. ⊎_elim
            (λ x. let here = ap (mark_of marks) x.0 in let is = x.1 in omega (arith, here, is))
            (λ x. let before = was.each j in omega (arith, x, before))
            (mark-set v.marks i j (mark_of marks i));
        low = was.low;
      })
      (λ k u o e. law.loaded k u e);
  settled = everywhere_set (HasSettled basis h) views id (with_mark_loaded v i (mark_of marks i)) (law.settled id v at)
      (λ k u o e. law.settled k u e);
}

-- ---- a mark is raised

-- a mark that is safe may be raised to: all marks stay safe, and no mark falls
pub mark_raised : (basis : Basis) (h : List Entry) (floor : ℕ) (marks : List ℕ) (views : List View) (id : ℕ) (v : View) (i x : ℕ)
    → get_elem? views id ≡ some v → i < length marks → IfSome basis.told (λ _. IsSafeAt basis.case (run_of basis.case.topology h) i x)
    → MarksLaw basis h floor marks views
    → MarksLaw basis h floor (slice_set marks i (max (mark_of marks i) x))
    (slice_set views id (with_mark_loaded v i (max (mark_of marks i) x)))
mark_raised basis h floor marks views id v i x at within may law = record {
  under_floor = law.under_floor;
  safe = told-then basis.told (λ _. AreSafe basis.case run marks × IsSafeAt basis.case run i x) _
      (told-both basis.told (λ _. AreSafe basis.case run marks) _ law.safe may)
      (λ _ p j bounds there. ⊎_elim
      (λ y. subst (IsSafe basis.case run bounds) (sym y.1)
      (IsSafe-greater basis.case run bounds (mark_of marks i) x
      (p.0 i bounds (subst (λ n. slice_get (intervals_of basis.case.topology) n ≡ Some bounds) y.0 there))
      (p.1 bounds (subst (λ n. slice_get (intervals_of basis.case.topology) n ≡ Some bounds) y.0 there))))
      (λ y. subst (IsSafe basis.case run bounds) (sym y) (p.0 j bounds there))
      (mark-set marks i j new));
  loaded = everywhere_set (HasLoaded floor raised) views id w
      (let was = law.loaded id v at in record {
        each = λ j. ⊎_elim
            (λ y. let here = ap (mark_of raised) y.0 in let is = y.1 in let top = mark-set_here marks i new within in
            omega (arith, here, is, top))
            (λ y. let before = was.each j in let up = rises j in omega (arith, y, before, up))
            (mark-set v.marks i j new);
        low = was.low;
      })
      (λ k u o e. let was = law.loaded k u e in record {
        each = λ j. let before = was.each j in let up = rises j in omega (arith, before, up);
        low = was.low;
      });
  settled = everywhere_set (HasSettled basis h) views id w (law.settled id v at) (λ k u o e. law.settled k u e);
}
  where
    run : Run
    run = run_of basis.case.topology h

    new : ℕ
    new = max (mark_of marks i) x

    raised : List ℕ
    raised = slice_set marks i new

    w : View
    w = with_mark_loaded v i new

    rises : (j : ℕ) → mark_of marks j ≤ mark_of raised j
    rises j = ⊎_elim
        (λ y. let here = ap (mark_of marks) y.0 in let is = y.1 in omega (arith, here, is))
        (λ y. omega (arith, y))
        (mark-set marks i j new)

-- ---- the floor is loaded

pub floor_loaded : (basis : Basis) (h : List Entry) (floor : ℕ) (marks : List ℕ) (views : List View) (id : ℕ) (v : View)
    → get_elem? views id ≡ some v
    → MarksLaw basis h floor marks views → MarksLaw basis h floor marks (slice_set views id (with_floor_loaded v floor))
floor_loaded basis h floor marks views id v at law = record {
  under_floor = law.under_floor;
  safe = law.safe;
  loaded = everywhere_set (HasLoaded floor marks) views id (with_floor_loaded v floor)
      (record { each = (law.loaded id v at).each; low = omega arith })
      (λ k u o e. law.loaded k u e);
  settled = everywhere_set (HasSettled basis h) views id (with_floor_loaded v floor) (law.settled id v at)
      (λ k u o e. law.settled k u e);
}

-- ---- the floor is raised

-- to that of the history, which is not below it
pub floor_raised : (basis : Basis) (h : List Entry) (floor : ℕ) (marks : List ℕ) (views : List View) (id : ℕ) (v : View) (new : ℕ)
    → get_elem? views id ≡ some v → new ≡ floor_of (run_of basis.case.topology h)
    → MarksLaw basis h floor marks views → MarksLaw basis h new marks (slice_set views id (with_floor_loaded v new))
floor_raised basis h floor marks views id v new at is law = record {
  under_floor = omega (arith, is);
  safe = law.safe;
  loaded = everywhere_set (HasLoaded new marks) views id (with_floor_loaded v new)
      (record { each = (law.loaded id v at).each; low = omega arith })
      (λ k u o e. let was = law.loaded k u e in record {
        each = was.each;
        low = let low = was.low in let most = law.under_floor in omega (arith, low, most, is);
      });
  settled = everywhere_set (HasSettled basis h) views id (with_floor_loaded v new) (law.settled id v at)
      (λ k u o e. law.settled k u e);
}

-- ---- the begin

-- safe marks and a floor that is not above the history's begin the law, over seats that have loaded and settled nothing
pub marks_begin : (basis : Basis) (h : List Entry) (floor : ℕ) (marks : List ℕ) (v : View)
    → floor ≤ floor_of (run_of basis.case.topology h) → IfSome basis.told (λ _. AreSafe basis.case (run_of basis.case.topology h) marks)
    → IsBare v → MarksLaw basis h floor marks (v ∷ [])
marks_begin basis h floor marks v low safe bare = record {
  under_floor = low;
  safe = safe;
  loaded = everywhere_snoc (HasLoaded floor marks) [] v (λ i u e. absurd (nobody i u e)) (bare-loaded floor marks v bare);
  settled = everywhere_snoc (HasSettled basis h) [] v (λ i u e. absurd (nobody i u e)) (bare-settled basis h v bare);
}
  where
    nobody : (i : ℕ) (u : View) → get_elem? [] i ≡ some u → ⊥
    nobody i u e = some-ne-none u (sym e)

-- ---- what a seat may rely on, at every later step

-- the floor of a history is at most the number of its entries
pub floor-few : (case : CaseShape) (history : List Entry) → floor_of (run_of case.topology history) ≤ length history
floor-few case history =
    let below = (floor_of-below (run_of case.topology history)).next in
    let number = next-length case.topology history in omega (arith, below, number)

-- the marks that a seat has loaded are safe, and its floor is at most the history's
pub loaded-safe : (basis : Basis) (h : List Entry) (floor : ℕ) (marks : List ℕ) (views : List View) (id : ℕ) (v : View)
    → get_elem? views id ≡ some v → MarksLaw basis h floor marks views
    → IfSome basis.told (λ _. AreSafe basis.case (run_of basis.case.topology h) v.marks)
    × (v.floor ≤ floor_of (run_of basis.case.topology h))
loaded-safe basis h floor marks views id v at law = (
  told-then basis.told (λ _. AreSafe basis.case (run_of basis.case.topology h) marks) _ law.safe
      (λ _ each. AreSafe-lower basis.case (run_of basis.case.topology h) v.marks marks (law.loaded id v at).each each),
  let low = (law.loaded id v at).low in let most = law.under_floor in omega (arith, low, most),
)
