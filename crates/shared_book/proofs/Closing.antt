-- What a close hands back: the seat with all numbers, and no turn, has seen all, and the book is at home.
use Rattle.std.proofs.Common.{◌≡◌, ℕ, zero, suc, ◌<◌, ◌≤◌, List, [], length, Some, None, true, false, refl, sym, ap, ◌∙◌, subst, ⊎_elim, arith}
use Rattle.std.specs.Prelude.{IfSome, Option, take}
use Rattle.std.proofs.lemmas.List.{length-take-le}
use mathlib.Core.Option.{some, some-injective}
use mathlib.Core.Logic.{dite}
use native.Mathlib.Decide.{ℕ_discrete, dec_le}
use lib.ListN.{get_elem?}
use Rattle.atomic_table.specs.Table.{State, Final, Seen}
use Rattle.mw_types.specs.Causes.{Rose}
use Rattle.mw_types.specs.declared.entry.Entry.{Entry}
use Rattle.topology.specs.Rules.{interval_count}
use Rattle.run_history.specs.Cases.{intervals_of}
use Rattle.run_history.specs.Runs.{run_of}
use Rattle.run_history.proofs.CaseIntervals.{length-intervals}
use Rattle.book.specs.Books.{CoreView}
use Rattle.book.specs.Lawful.{IsLawful}
use Rattle.book.specs.Marks.{AreSafe}
use Rattle.book.proofs.DeskLaws.{if-telling}
use Rattle.book.proofs.PutMarks.{IsLawful-marked}
use Rattle.book.proofs.SeenRows.{told-then}
use Rattle.shared_book.specs.declared.views.Basis.{Basis}
use Rattle.shared_book.specs.declared.views.View.{View}
use Rattle.shared_book.specs.declared.shared.Key.{Key}
use Rattle.shared_book.specs.Lists.{IsIn, Ascends}
use Rattle.shared_book.specs.FenceLaw.{Slot, FenceLaw, IsCore}
use Rattle.shared_book.specs.Steps.{SeatView}
use Rattle.shared_book.specs.Opening.{SharedLaw}
use Rattle.shared_book.specs.Turns.{HasReloaded, IsClosed}
use Rattle.shared_book.proofs.Lists.{no_members}
use Rattle.shared_book.proofs.Moves.{off, rose_on}
use Rattle.shared_book.proofs.Fronts.{is_whole}
use Rattle.shared_book.proofs.Starting.{unborn_view}
use Rattle.shared_book.proofs.Filling.{mark-front, mark-front_le}
use Rattle.shared_book.proofs.LawSteps.{loaded-safe}
use Rattle.shared_book.proofs.Vouching.{AreSafe-lower}

-- a number that is not above 0 is 0
zero_or : (n : ℕ) → (0 < n → ⊥) → n ≡ 0
zero_or zero h = refl
zero_or (suc n) h = absurd (h (omega arith))

-- what is not above is at most
not_past : (a b : ℕ) → (a < b → ⊥) → b ≤ a
not_past a b h = by_order (dec_le b a)
  where
    by_order : Dec (b ≤ a) → b ≤ a
    by_order (yes l) = l
    by_order (no l) = absurd (h (omega (arith, l)))

-- what the table has, by the law
record Closes (basis : Basis) (s : State Slot View) (v : View) : Type 0 where
  pub core : CoreView
  pub home : get_elem? s.homes 0 ≡ some (some (Some core))
  pub is : IsCore basis v.front basis.count core
  pub all_own : (k : ℕ) → basis.begin ≤ k → k < length v.front → IsIn k v.own
  pub own_only : (k : ℕ) → IsIn k v.own → (basis.begin ≤ k) × (k < length v.front)
  pub own_ascend : Ascends v.own
  pub failed : 0 < v.faults → Rose basis.count core.faults
  pub safe : IfSome basis.told (λ _. AreSafe basis.case (run_of basis.case.topology v.front) v.marks)

-- a view other than that with all numbers has none
bare : (basis : Basis) (s : State Slot View) (f : FenceLaw basis s) (id : ℕ) (v : View) → get_elem? s.views id ≡ some v
    → ((n : ℕ) → n < basis.seats → IsIn n v.numbers)
    → (i : ℕ) (u : View) → ((i ≡ id) → ⊥) → get_elem? s.views i ≡ some u → u.numbers ≡ []
bare basis s f id v at all i u o e =
    no_members u.numbers (λ n p. (f.apart i id u v e at o).numbers n p (all n ((f.views i u e).numbers n p)))

-- a view that stands where this one does is this one
same_view : (s : State Slot View) (id i : ℕ) (v u : View) → get_elem? s.views id ≡ some v → get_elem? s.views i ≡ some u → i ≡ id → u ≡ v
same_view s id i v u at e is = some-injective u v (sym e ∙ ap (get_elem? s.views) is ∙ at)

-- no seat has the turn
at_rest : (basis : Basis) (s : State Slot View) (f : FenceLaw basis s) (id : ℕ) (v : View) → get_elem? s.views id ≡ some v
    → v.turn ≡ false → ((n : ℕ) → n < basis.seats → IsIn n v.numbers) → f.turn ≡ 0
at_rest basis s f id v at quiet all = zero_or f.turn (λ z. let x = f.holder z in
    dite (ℕ_discrete x.0 id)
    (λ e. off (sym quiet ∙ ap (λ (y : View). y.turn) (sym (same_view s id x.0 v x.1 at x.2 e)) ∙ x.3))
    (λ o. off (sym ((f.views x.0 x.1 x.2).only_looks (bare basis s f id v at all x.0 x.1 o x.2)).0 ∙ x.3)))

-- the seat has each entry since the start as its own
own_all : (basis : Basis) (s : State Slot View) (f : FenceLaw basis s) (id : ℕ) (v : View) → get_elem? s.views id ≡ some v
    → ((n : ℕ) → n < basis.seats → IsIn n v.numbers)
    → (k : ℕ) → basis.begin ≤ k → k < length f.history → IsIn k v.own
own_all basis s f id v at all k p q = let x = f.owned k p q in
    dite (ℕ_discrete x.0 id)
    (λ e. subst (λ (y : View). IsIn k y.own) (same_view s id x.0 v x.1 at x.2 e) x.3)
    (λ o. absurd (subst (IsIn k) ((f.views x.0 x.1 x.2).only_looks (bare basis s f id v at all x.0 x.1 o x.2)).2 x.3))

-- the seat with all numbers closes the book
closes : (basis : Basis) (s : State Slot View) (f : FenceLaw basis s) (id : ℕ) (v : View) → get_elem? s.views id ≡ some v
    → v.turn ≡ false → v.live ≡ true → ((n : ℕ) → n < basis.seats → IsIn n v.numbers) → Closes basis s v
closes basis s f id v at quiet live all =
    let fit = f.views id v at in
    let home = f.home (at_rest basis s f id v at quiet all) in
    let mine = own_all basis s f id v at all in
    let reach = fit.reaches live in
    let far : length f.history ≤ length v.front = not_past (length v.front) (length f.history)
    (λ h. let o = (fit.own (length v.front) (mine (length v.front) reach h)).1 in omega (arith, o)) in
    let whole : v.front ≡ f.history = is_whole v.front f.history fit.begins far in
    let core = home.2 in
    let enough : basis.count ≤ home.0.faults = omega (arith, f.counted, core.enough) in
    record {
      core = home.0;
      home = home.1;
      is = record {
        whole = core.whole ∙ sym whole;
        enough = enough;
        lawful = core.lawful;
        limit = core.limit;
        told = core.told;
      };
      all_own = λ k p q. mine k p (subst (λ l. k < length l) whole q);
      own_only = fit.own;
      own_ascend = fit.own_ascend;
      failed = λ p. rose_on basis.count f.count home.0.faults (fit.failed p) core.enough;
      safe = subst (λ (h : List Entry). IfSome basis.told (λ _. AreSafe basis.case (run_of basis.case.topology h) v.marks)) (sym whole)
          (loaded-safe basis f.history f.floor f.marks s.views id v at f.law).0;
    }

-- the marks of as many intervals as there are
abbrev given : View → List ℕ
given v = take (length (intervals_of v.basis.case.topology)) v.marks

-- what a close of the table gives: the book of its place, and that it may take the marks of the seat
pub record HasClosed (v : View) (core : CoreView) : Type 0 where
  pub lawful : IsLawful v.basis.case core
  pub safe : IfSome core.rows (λ _. AreSafe v.basis.case (run_of v.basis.case.topology core.history) v.marks)
  pub closed : IsClosed v (record core { marks = given v })

-- some marks are safe where all are
given-safe : (v : View) (core : CoreView)
    → IfSome core.rows (λ _. AreSafe v.basis.case (run_of v.basis.case.topology core.history) v.marks)
    → IfSome core.rows (λ _. AreSafe v.basis.case (run_of v.basis.case.topology core.history) (given v))
given-safe v core safe = told-then core.rows _ _ safe
    (λ _ each. AreSafe-lower v.basis.case (run_of v.basis.case.topology core.history) (given v) v.marks
    (λ k. mark-front_le (length (intervals_of v.basis.case.topology)) k v.marks) each)

-- the same, said by the seat's own constants
closed_of : (v : View) (basis : Basis) (s : State Slot View) → v.basis ≡ basis → length v.marks ≡ 61 → (c : Closes basis s v)
    → HasClosed v c.core
closed_of v basis s e long c = record {
  lawful = core.lawful;
  safe = safe;
  closed = record {
    core = record {
      whole = core.whole;
      enough = core.enough;
      lawful = IsLawful-marked v.basis.case c.core (given v) core.lawful
          (length-take-le (length (intervals_of v.basis.case.topology)) v.marks (omega (arith, few, long, count)))
          (given-safe v c.core safe);
      limit = core.limit;
      told = core.told;
    };
    all_own = λ k p q. c.all_own k (omega (arith, p, ap (λ (z : Basis). z.begin) e)) q;
    own_only = λ k p. let o = c.own_only k p in (omega (arith, o.0, ap (λ (z : Basis). z.begin) e), o.1);
    own_ascend = c.own_ascend;
    failed = λ p. subst (λ (z : Basis). Rose z.count c.core.faults) (sym e) (c.failed p);
    marks = λ k below. let here = mark-front (length (intervals_of v.basis.case.topology)) k v.marks below in omega (arith, here);
  };
}
  where
    core : IsCore v.basis v.front v.basis.count c.core
    core = subst (λ (z : Basis). IsCore z v.front z.count c.core) (sym e) c.is

    few : interval_count v.basis.case.topology ≤ 61
    few = core.lawful.runnable.topology.few_intervals

    count : length (intervals_of v.basis.case.topology) ≡ interval_count v.basis.case.topology
    count = length-intervals v.basis.case.topology

    safe : IfSome c.core.rows (λ _. AreSafe v.basis.case (run_of v.basis.case.topology c.core.history) v.marks)
    safe = if-telling c.core.rows _ (subst (λ (t : Option Unit × Basis × List Entry).
        IfSome t.0 (λ _. AreSafe t.1.case (run_of t.1.case.topology t.2) v.marks))
        (λ i. ((ap (λ (z : Basis). z.told) (sym e) ∙ sym core.told) i, sym e i, sym core.whole i)) c.safe)

-- what a close of the table gives by the rule
pub closing : (key : Key) (id : ℕ) (v : View) (words : List ℕ) (places : List Slot)
    → Final (Seen (SharedLaw key) id v) words places → v.turn ≡ false → v.live ≡ true
    → ((n : ℕ) → n < v.basis.seats → IsIn n v.numbers) → length v.marks ≡ 61
    → (r : Slot) → get_elem? places 0 ≡ some r → (b : CoreView) × (r ≡ Some b) × HasClosed v b
closing key id v words places final quiet live all long r at =
    let s = final.0 in
    let seen = final.1 in
    ⊎_elim
    (λ u. absurd (unborn_view key s u id v seen.1 live))
    (λ x.
    let e : v.basis ≡ x.0 = (x.1.views id v seen.1).same live in
    let c = closes x.0 s x.1 id v seen.1 quiet live
    (λ n h. all n (omega (arith, h, ap (λ (z : Basis). z.seats) e))) in
    (c.core, some-injective r (Some c.core) (sym at ∙ final.4 0 (Some c.core) c.home), closed_of v x.0 s e long c))
    seen.0

-- whether a place has a book
abbrev IsFull : Slot → Type 0
IsFull None = ⊥
IsFull (Some b) = Unit {0}

-- an empty place has none
pub not_empty : (b : CoreView) → None ≡ Some b → ⊥
not_empty b e = subst IsFull (sym e) tt

-- the book of a place, or else this one
abbrev core_of : CoreView → Slot → CoreView
core_of d None = d
core_of d (Some b) = b

-- what is said of a book is said of one that is the same
pub same_closed : (v : View) (b c : CoreView) → Some b ≡ Some c → HasClosed v b → HasClosed v c
same_closed v b c e h = subst (HasClosed v) (ap (core_of b) e) h

-- the book that took the marks of the seat back, which it had loaded anew, is closed as the seat was
pub closed_book : (old new : SeatView) (b : CoreView) → HasReloaded old new → IsClosed new.0 b → IsClosed old.0 b
closed_book old new b reloaded closed = record {
  core = parts.core;
  all_own = parts.all_own;
  own_only = parts.own_only;
  own_ascend = parts.own_ascend;
  failed = parts.failed;
  marks = λ k below. let rises = reloaded.rises k in let most = parts.marks k below in omega (arith, rises, most);
}
  where
    parts : IsClosed (record old.0 { marks = new.0.marks; loads = new.0.loads }) b
    parts = subst (λ (m : SeatView). IsClosed m.0 b) reloaded.view closed
