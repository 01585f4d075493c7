-- Splits and joins keep the fence law.
use Rattle.std.proofs.Common.{inl, inr, ◌≡◌, ◌⊎◌, ℕ, zero, suc, ◌+◌, ◌-◌, ◌<◌, List, [], ◌∷◌, ◌++◌, drop, length, true, false, refl, sym, ap, ◌∙◌, subst, ⊎_elim, arith, append-nil}
use Rattle.std.specs.Prelude.{slice_set}
use mathlib.Core.Option.{some, some-ne-none}
use lib.ListN.{get_elem?}
use Rattle.atomic_table.specs.Table.{State, Splits, Joins}
use Rattle.atomic_table.proofs.Lists.{at_set}
use Rattle.mw_types.specs.declared.entry.Entry.{Entry}
use Rattle.run_history.specs.Fences.{Begins}
use Rattle.run_history.proofs.Beginnings.{Begins-length}
use Rattle.shared_book.specs.declared.views.Basis.{Basis}
use Rattle.shared_book.specs.declared.views.View.{View}
use Rattle.shared_book.specs.Lists.{IsIn, Ascends, AreDistinct}
use Rattle.shared_book.specs.FenceLaw.{Slot, FenceLaw, Fits, AreApart, IsQuiet, sequencers}
use Rattle.shared_book.specs.Places.{PLACES, greatest, newest}
use Rattle.shared_book.specs.Joins.{note_of, first_of, others_of, stays, leaves, longer, merged, joined, spent}
use Rattle.shared_book.proofs.Lists.{in_append, distinct_append, no_members}
use Rattle.shared_book.proofs.ViewLists.{everywhere_set, pairwise_set, everywhere_snoc, pairwise_snoc, somewhere_split, somewhere_joined, everywhere_joined, pairwise_joined}
use Rattle.shared_book.proofs.Histories.{claim_kept}
use Rattle.shared_book.proofs.Moves.{off, apart_sym}
use Rattle.shared_book.proofs.Appending.{sequencers_append}
use Rattle.shared_book.proofs.Merging.{in_merged, merged_left, merged_right, merged_ascends}
use Rattle.shared_book.proofs.Places.{greatest-none, newest-none, place-none}
use Rattle.shared_book.proofs.Quiet.{quiet-bare, quiet-joined, quiet-moved}
use Rattle.shared_book.proofs.Fronts.{is_longer}
use Rattle.shared_book.proofs.LawSteps.{IsBare, bare-empty, bare-new, marks_joined, marks_split}

-- ---- splits

-- a view is cut in two
split_law : (basis : Basis) (s : State Slot View) (f : FenceLaw basis s) (id : ℕ) (v left right : View)
    → get_elem? s.views id ≡ some v
    → Fits basis f.history f.turn f.count left → Fits basis f.history f.turn f.count right → AreApart left right
    → ((u : View) → AreApart v u → AreApart left u × AreApart right u)
    → (v.turn ≡ true → left.turn ≡ true) → ((k : ℕ) → IsIn k v.own → IsIn k left.own)
    → ((n : ℕ) → IsIn n v.numbers → IsIn n left.numbers ⊎ IsIn n right.numbers)
    → left.front ≡ v.front → left.leases ≡ v.leases → left.settled ≡ v.settled → left.marks ≡ v.marks → left.floor ≡ v.floor → IsBare right
    → FenceLaw basis (record { words = s.words; homes = s.homes; views = slice_set s.views id left ++ right ∷ [] })
split_law basis s f id v left right at fl fr lr others turn own numbers front leases settled loaded low bare = record {
  history = f.history;
  turn = f.turn;
  count = f.count;
  floor = f.floor;
  marks = f.marks;
  words = f.words;
  places = f.places;
  holder = λ z. somewhere_split (λ x. x.turn ≡ true) s.views id v left right at (λ t. inl (turn t)) (f.holder z);
  home = f.home;
  out = f.out;
  fenced = f.fenced;
  legal = f.legal;
  few = f.few;
  limit = f.limit;
  started = f.started;
  counted = f.counted;
  views = everywhere_snoc (Fits basis f.history f.turn f.count) (slice_set s.views id left) right
      (everywhere_set (Fits basis f.history f.turn f.count) s.views id left fl (λ i u o e. f.views i u e)) fr;
  apart = pairwise_snoc AreApart (slice_set s.views id left) right
      (pairwise_set AreApart s.views id left f.apart
      (λ i u o e. let a = (others u (f.apart id i v u at e (λ x. o (sym x)))).0 in (a, apart_sym left u a)))
      (everywhere_set (λ u. AreApart right u × AreApart u right) s.views id left (apart_sym left right lr, lr)
      (λ i u o e. let a = (others u (f.apart id i v u at e (λ x. o (sym x)))).1 in (a, apart_sym right u a)));
  owned = λ k p q. somewhere_split (λ x. IsIn k x.own) s.views id v left right at (λ m. inl (own k m)) (f.owned k p q);
  numbered = λ n p. somewhere_split (λ x. IsIn n x.numbers) s.views id v left right at (numbers n) (f.numbered n p);
  law = marks_split basis f.history f.floor f.marks s.views id v left right at front settled loaded low bare f.law;
  quiet = everywhere_snoc (IsQuiet f.history) (slice_set s.views id left) right
      (everywhere_set (IsQuiet f.history) s.views id left (quiet-moved f.history v left settled leases turn (f.quiet id v at))
      (λ i u o e. f.quiet i u e)) (quiet-bare f.history right bare.settled);
}

-- a view without turn, leases and own entries shares nothing but perhaps numbers
nothing : (v u : View) → v.turn ≡ false → v.leases ≡ [] → v.own ≡ [] → ((n : ℕ) → IsIn n v.numbers → IsIn n u.numbers → ⊥)
    → AreApart v u
nothing v u t l o n = record {
  turn = λ x y. absurd (off (sym t ∙ x));
  leases = λ s x y. subst (λ z. IsIn s (sequencers z)) l x;
  own = λ k x y. subst (IsIn k) o x;
  numbers = n;
}

-- a note may be split off
pub note_splits : (basis : Basis) (id : ℕ) (v : View) → Splits {S = Slot} (FenceLaw basis) id v v (note_of v)
note_splits basis id v s f at =
    let fit = f.views id v at in
    split_law basis s f id v v (note_of v) at fit
    (record {
      same = fit.same;
      gone = λ e. ap note_of (fit.gone e);
      begins = fit.begins;
      reaches = fit.reaches;
      met = (v.front, refl);
      met_same = fit.same;
      holds = λ e. absurd (off e);
      claimed = λ l p. absurd p;
      once = tt;
      seen_own = λ q p. absurd p;
      written = λ q p. absurd p;
      own = λ k p. absurd p;
      own_ascend = tt;
      numbers = λ n p. absurd p;
      numbers_ascend = tt;
      only_looks = λ e. (refl, refl, refl);
      failed = λ p. absurd (omega (arith, p));
    })
    (apart_sym (note_of v) v (nothing (note_of v) v refl refl refl (λ n p q. p)))
    (λ u a. (a, nothing (note_of v) u refl refl refl (λ n p q. p)))
    (λ t. t) (λ k p. p) (λ n p. inl p) refl refl refl refl refl (bare-empty (note_of v) refl refl refl)

-- a seat with two numbers or more, and no turn, may give the first to a new seat
pub seat_splits : (basis : Basis) (id n m : ℕ) (ms : List ℕ) (v : View) → v.numbers ≡ n ∷ m ∷ ms → v.turn ≡ false
    → Splits {S = Slot} (FenceLaw basis) id v (stays v) (leaves v)
seat_splits basis id n m ms v is quiet s f at =
    let fit = f.views id v at in
    let rise : Ascends (n ∷ m ∷ ms) = subst Ascends is fit.numbers_ascend in
    let one : first_of v.numbers ≡ n ∷ [] = ap first_of is in
    let two : others_of v.numbers ≡ m ∷ ms = ap others_of is in
    let first : (k : ℕ) → IsIn k (first_of v.numbers) → IsIn k v.numbers =
    λ k p. ⊎_elim (λ e. subst (IsIn k) (sym is) (inl e)) (λ e. absurd e) (subst (IsIn k) one p) in
    let others : (k : ℕ) → IsIn k (others_of v.numbers) → IsIn k v.numbers =
    λ k p. subst (IsIn k) (sym is) (inr (subst (IsIn k) two p)) in
    let distinct : (k : ℕ) → IsIn k (others_of v.numbers) → IsIn k (first_of v.numbers) → ⊥ = λ k p q.
    ⊎_elim (λ e. let l = rise.0 k (subst (IsIn k) two p) in omega (arith, l, e)) (λ e. e) (subst (IsIn k) one q) in
    split_law basis s f id v (stays v) (leaves v) at
    (record {
      same = fit.same;
      gone = λ e. absurd (some-ne-none n
          (sym (ap (λ (l : List ℕ). get_elem? l 0) (sym (ap (λ (x : View). x.numbers) (fit.gone e)) ∙ is))));
      begins = fit.begins;
      reaches = fit.reaches;
      met = fit.met;
      met_same = fit.met_same;
      holds = λ e. absurd (off (sym quiet ∙ e));
      claimed = fit.claimed;
      once = fit.once;
      seen_own = fit.seen_own;
      written = fit.written;
      own = fit.own;
      own_ascend = fit.own_ascend;
      numbers = λ k p. fit.numbers k (others k p);
      numbers_ascend = subst Ascends (sym two) rise.1;
      only_looks = λ e. absurd (some-ne-none m (sym (ap (λ (l : List ℕ). get_elem? l 0) (sym e ∙ two))));
      failed = fit.failed;
    })
    (record {
      same = fit.same;
      gone = λ e. absurd (some-ne-none n
          (sym (ap (λ (l : List ℕ). get_elem? l 0) (sym (ap (λ (x : View). x.numbers) (fit.gone e)) ∙ is))));
      begins = fit.begins;
      reaches = fit.reaches;
      met = (v.front, refl);
      met_same = fit.same;
      holds = λ e. absurd (off e);
      claimed = λ l p. absurd p;
      once = tt;
      seen_own = λ q p. absurd p;
      written = λ q p. absurd p;
      own = λ k p. absurd p;
      own_ascend = tt;
      numbers = λ k p. fit.numbers k (first k p);
      numbers_ascend = subst Ascends (sym one) ((λ y p. absurd p), tt);
      only_looks = λ e. absurd (some-ne-none n (sym (ap (λ (l : List ℕ). get_elem? l 0) (sym e ∙ one))));
      failed = λ p. absurd (omega (arith, p));
    })
    (apart_sym (leaves v) (stays v) (nothing (leaves v) (stays v) refl refl refl (λ k p q. distinct k q p)))
    (λ u a. (
      record { turn = a.turn; leases = a.leases; own = a.own; numbers = λ k p q. a.numbers k (others k p) q },
      nothing (leaves v) u refl refl refl (λ k p q. a.numbers k (first k p) q),
    ))
    (λ t. t)
    (λ k p. p)
    (λ k p. ⊎_elim (λ e. inr (subst (IsIn k) (sym one) (inl e))) (λ q. inl (subst (IsIn k) (sym two) q)) (subst (IsIn k) is p))
    refl refl refl refl refl (bare-new (leaves v) PLACES refl refl refl)

-- ---- joins

-- one of two counts is not 0 where the greater is not
some_fault : (x y : ℕ) → 0 < x + (y - x) → (0 < x) ⊎ (0 < y)
some_fault zero y h = inr (omega (arith, h))
some_fault (suc x) y h = inl (omega arith)

-- the view of a seat that took in another fits
joined_fits : (basis : Basis) (s : State Slot View) (f : FenceLaw basis s) (v w : View)
    → Fits basis f.history f.turn f.count v → Fits basis f.history f.turn f.count w → AreApart v w
    → v.live ≡ true → v.turn ≡ false → w.live ≡ true → Fits basis f.history f.turn f.count (joined v w)
joined_fits basis s f v w fv fw a live quiet joins =
    let far = is_longer v.front w.front f.history fv.begins fw.begins in
    let p_len = Begins-length v.front (longer v.front w.front) far.left in
    let q_len = Begins-length w.front (longer v.front w.front) far.right in
    let in_either : (q : ℕ) → IsIn q (sequencers (v.leases ++ w.leases)) → IsIn q (sequencers v.leases) ⊎ IsIn q (sequencers w.leases) =
    λ q p. in_append q (sequencers v.leases) (sequencers w.leases) (subst (IsIn q) (sequencers_append v.leases w.leases) p) in
    record {
      same = fv.same;
      gone = λ e. absurd (off (sym e ∙ live));
      begins = far.whole;
      reaches = λ x. let o = fv.reaches x in omega (arith, o, p_len);
      met = far.right;
      met_same = λ _. fw.same joins;
      holds = λ e. absurd (off (sym quiet ∙ e));
      claimed = λ l p. ⊎_elim
          (λ q. claim_kept v.front (longer v.front w.front) l.interval l.seq far.left (fv.claimed l q))
          (λ q. claim_kept w.front (longer v.front w.front) l.interval l.seq far.right (fw.claimed l q))
          (in_append l v.leases w.leases p);
      once = subst AreDistinct (sym (sequencers_append v.leases w.leases))
          (distinct_append (sequencers v.leases) (sequencers w.leases) fv.once fw.once a.leases);
      seen_own = λ q p j e there carries. ⊎_elim
          (λ y. let b = fv.seen_own q y j e there carries in omega (arith, b, p_len))
          (λ y. let b = fw.seen_own q y j e there carries in omega (arith, b, q_len))
          (in_either q p);
      written = λ q p k x there carries. ⊎_elim
          (λ y. merged_left k v.own w.own (fv.written q y k x there carries))
          (λ y. merged_right k v.own w.own (fw.written q y k x there carries))
          (in_either q p);
      own = λ k p. ⊎_elim
          (λ y. let b = fv.own k y in (b.0, omega (arith, b.1, p_len)))
          (λ y. let b = fw.own k y in (b.0, omega (arith, b.1, q_len)))
          (in_merged k v.own w.own p);
      own_ascend = merged_ascends v.own w.own fv.own_ascend fw.own_ascend a.own;
      numbers = λ n p. ⊎_elim (λ y. fv.numbers n y) (λ y. fw.numbers n y) (in_merged n v.numbers w.numbers p);
      numbers_ascend = merged_ascends v.numbers w.numbers fv.numbers_ascend fw.numbers_ascend a.numbers;
      only_looks = λ e.
          let x = fv.only_looks (no_members v.numbers (λ k p. subst (IsIn k) e (merged_left k v.numbers w.numbers p))) in
          let y = fw.only_looks (no_members w.numbers (λ k p. subst (IsIn k) e (merged_right k v.numbers w.numbers p))) in
          (x.0, (λ i. x.1 i ++ y.1 i), (λ i. merged (x.2 i) (y.2 i)));
      failed = λ p. ⊎_elim (λ q. fv.failed q) (λ q. fw.failed q) (some_fault v.faults w.faults p);
    }

-- a spent view fits
spent_fits : (basis : Basis) (s : State Slot View) (f : FenceLaw basis s) → Fits basis f.history f.turn f.count spent
spent_fits basis s f = record {
  same = λ e. absurd (off e);
  gone = λ e. refl;
  begins = (f.history, refl);
  reaches = λ e. absurd (off e);
  met = ([], refl);
  met_same = λ e. absurd (off e);
  holds = λ e. absurd (off e);
  claimed = λ l p. absurd p;
  once = tt;
  seen_own = λ q p. absurd p;
  written = λ q p. absurd p;
  own = λ k p. absurd p;
  own_ascend = tt;
  numbers = λ k p. absurd p;
  numbers_ascend = tt;
  only_looks = λ e. (refl, refl, refl);
  failed = λ p. absurd (omega (arith, p));
}

-- the view of a seat that took in another shares nothing with a third
joined_apart : (v w u : View) → AreApart v u → AreApart w u → AreApart (joined v w) u
joined_apart v w u b c = record {
  turn = b.turn;
  leases = λ q p r. ⊎_elim (λ y. b.leases q y r) (λ y. c.leases q y r)
      (in_append q (sequencers v.leases) (sequencers w.leases) (subst (IsIn q) (sequencers_append v.leases w.leases) p));
  own = λ k p r. ⊎_elim (λ y. b.own k y r) (λ y. c.own k y r) (in_merged k v.own w.own p);
  numbers = λ k p r. ⊎_elim (λ y. b.numbers k y r) (λ y. c.numbers k y r) (in_merged k v.numbers w.numbers p);
}

-- a seat without the turn may take in another, or a note
pub seats_join : (basis : Basis) (id : ℕ) (v : View) (other : ℕ) (w : View) → v.live ≡ true → v.turn ≡ false → w.turn ≡ false
    → w.live ≡ true
    → Joins {S = Slot} (FenceLaw basis) id v other w (joined v w) spent
seats_join basis id v other w live quiet still joins s f at apart there' =
    let there : get_elem? s.views other ≡ some w =
    ⊎_elim (λ q. absurd (apart q.0)) (λ q. q.1) (at_set s.views id other (joined v w) w there') in
    let fv = f.views id v at in
    let fw = f.views other w there in
    let a = f.apart id other v w at there (λ e. apart (sym e)) in
    record {
      history = f.history;
      turn = f.turn;
      count = f.count;
      floor = f.floor;
      marks = f.marks;
      words = f.words;
      places = f.places;
      holder = λ z. somewhere_joined (λ x. x.turn ≡ true) s.views id other v w (joined v w) spent at there apart
          (λ t. t) (λ t. absurd (off (sym still ∙ t))) (f.holder z);
      home = f.home;
      out = f.out;
      fenced = f.fenced;
      legal = f.legal;
      few = f.few;
      limit = f.limit;
      started = f.started;
      counted = f.counted;
      views = everywhere_joined (Fits basis f.history f.turn f.count) s.views id other (joined v w) spent
          (joined_fits basis s f v w fv fw a live quiet joins) (spent_fits basis s f) f.views;
      apart = pairwise_joined AreApart s.views id other (joined v w) spent apart_sym f.apart
          (λ i u o n e. joined_apart v w u (f.apart id i v u at e (λ x. o (sym x))) (f.apart other i w u there e (λ x. n (sym x))))
          (λ u. nothing spent u refl refl refl (λ n p q. p));
      owned = λ k p q. somewhere_joined (λ x. IsIn k x.own) s.views id other v w (joined v w) spent at there apart
          (merged_left k v.own w.own) (merged_right k v.own w.own) (f.owned k p q);
      numbered = λ n p. somewhere_joined (λ x. IsIn n x.numbers) s.views id other v w (joined v w) spent at there apart
          (merged_left n v.numbers w.numbers) (merged_right n v.numbers w.numbers) (f.numbered n p);
      law = let far = is_longer v.front w.front f.history fv.begins fw.begins in
          marks_joined basis f.history f.floor f.marks s.views id other v w (joined v w) spent at there far.left far.right refl refl refl
          (bare-empty spent refl refl refl) f.law;
      quiet = everywhere_joined (IsQuiet f.history) s.views id other (joined v w) spent
          (quiet-joined f.history v w (joined v w) refl refl (λ t. off (sym quiet ∙ t)) (λ t. off (sym still ∙ t)) (f.quiet id v at)
          (f.quiet other w there))
          (quiet-bare f.history spent (λ i. place-none i)) f.quiet;
    }

-- what the seat had seen begins what it has seen then
pub joined-seen : (v w m : View) → m ≡ joined v w → Begins v.front m.front
joined-seen v w m is = (drop (length v.front) w.front, sym (ap (λ (s : View). s.front) is))

-- and so does what the other had seen, once the seat has looked
pub joined-met : (other v w j m : View) → w ≡ other → j ≡ joined v w → m ≡ j → Begins j.met j.front → Begins other.front m.front
joined-met other v w j m same is looked met =
    subst (λ (p : List Entry × List Entry). Begins p.0 p.1)
    (λ i. ((ap (λ (s : View). s.met) is ∙ ap (λ (s : View). s.front) same) i, (sym looked i).front)) met

-- ---- a note is taken in

-- a seat that took in a note has as many numbers as before
pub met_numbers : (v w : View) → w ≡ note_of w → (joined v w).numbers ≡ v.numbers
met_numbers v w bare = ap (λ (x : View). merged v.numbers x.numbers) bare

-- and the entries that it had
pub met_own : (v w : View) → w ≡ note_of w → (joined v w).own ≡ v.own
met_own v w bare = ap (λ (x : View). merged v.own x.own) bare

-- and its leases
pub met_leases : (v w : View) → w ≡ note_of w → (joined v w).leases ≡ v.leases
met_leases v w bare = ap (λ (x : View). v.leases ++ x.leases) bare ∙ append-nil v.leases

-- and its count of faults
pub met_faults : (v w : View) → w ≡ note_of w → (joined v w).faults ≡ v.faults
met_faults v w bare = ap (λ (x : View). v.faults + (x.faults - v.faults)) bare ∙ none_more v.faults
  where
    none_more : (n : ℕ) → n + (0 - n) ≡ n
    none_more n = omega arith

-- a note of a note is a note
pub note_bare : (v w : View) → w ≡ note_of v → w ≡ note_of w
note_bare v w e = e ∙ sym (ap note_of e)

-- and what it had loaded and settled
pub met_marks : (v w : View) → w ≡ note_of w → (joined v w).marks ≡ v.marks
met_marks v w bare = ap (λ (x : View). greatest v.marks x.marks) bare ∙ greatest-none v.marks

pub met_settled : (v w : View) → w ≡ note_of w → (joined v w).settled ≡ v.settled
met_settled v w bare = ap (λ (x : View). newest v.settled x.settled) bare ∙ newest-none v.settled
