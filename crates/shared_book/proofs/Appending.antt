-- The steps of a seat with the turn keep the fence law: to append, to give the turn back, and to note a fault. So
-- does a look, which any seat may take.
use Rattle.std.proofs.Common.{inl, inr, ◌≡◌, ◌≢◌, ◌⊎◌, ℕ, ◌+◌, ◌%◌, ◌^◌, ◌<◌, ◌≤◌, List, [], ◌∷◌, ◌++◌, length, Option, Some, true, refl, sym, ap, ◌∙◌, subst, ⊎_elim, arith, length-append}
use Rattle.std.specs.Prelude.{slice_index, slice_set, slice_get, IfSome}
use Rattle.std.proofs.lemmas.Option.{slice_get_within}
use mathlib.Core.Option.{some, none}
use mathlib.Core.Logic.{dite}
use native.Mathlib.Decide.{ℕ_discrete}
use lib.ListN.{get_elem?}
use Rattle.atomic_table.specs.Table.{State, keeps, gives, step, Allows}
use Rattle.atomic_table.proofs.Lists.{set_here, set_again}
use Rattle.mw_types.specs.Causes.{Rose}
use Rattle.mw_types.proofs.CauseLaws.{Rose-before}
use Rattle.mw_types.specs.declared.entry.Entry.{Entry}
use Rattle.mw_types.specs.declared.entry.Entry.TheVariants.{Claim, Inject, Handle, Fire, Ack, Purge}
use Rattle.topology.specs.Shapes.{Shape}
use Rattle.run_history.specs.Inputs.{IsRunnable}
use Rattle.run_history.specs.Legal.{IsLegal}
use Rattle.run_history.specs.Fences.{Begins, IsFenced, sequencer_of}
use Rattle.run_history.proofs.Beginnings.{Begins-itself, Begins-trans, Begins-length, Begins-at, slice_get-last}
use Rattle.run_history.proofs.Fenced.{IsFenced-begins}
use Rattle.book.specs.Books.{CoreView, LeaseView}
use Rattle.book.specs.Lawful.{IsLawful, HoldsRowsOf}
use Rattle.book.specs.OwnDesks.{telling}
use Rattle.book.proofs.DeskLaws.{telling-if}
use Rattle.book.proofs.SeenRows.{told-then}
use Rattle.shared_book.specs.declared.views.Basis.{Basis}
use Rattle.shared_book.specs.declared.views.View.{View}
use Rattle.shared_book.specs.Lists.{IsIn, AreDistinct}
use Rattle.shared_book.specs.MarksLaw.{MarksLaw}
use Rattle.shared_book.specs.Places.{places_after, settled_by, settled_in}
use Rattle.shared_book.specs.FenceLaw.{Slot, FenceLaw, Fits, AreApart, IsCore, AreClaimed, CarriesBelow, IsQuiet, sequencers}
use Rattle.shared_book.specs.Steps.{Appends, GivesBack, Faults, Looks, IsOwnEntry, lease_in, grown, idle, faulted}
use Rattle.shared_book.proofs.Lists.{in_append, in_left, in_right, ascends_push, distinct_append, drop_front}
use Rattle.shared_book.proofs.ViewLists.{everywhere_set, pairwise_set, somewhere_set, somewhere_here}
use Rattle.shared_book.proofs.Histories.{begins_more, claim_kept, claim_within, entry_at_end, all_below, below_push, carried_below, legal_begins}
use Rattle.shared_book.proofs.LawSteps.{floor-few, loaded-safe, marks_appended, marks_moved, marks_released}
use Rattle.shared_book.proofs.Quiet.{quiet-grown, quiet-moved, quiet-released, quiet-stays}
use Rattle.shared_book.proofs.Moves.{off, apart_sym, fits_on, alone}

-- ---- leases and their sequencers

-- the sequencers of two lists of leases
pub sequencers_append : (a b : List LeaseView) → sequencers (a ++ b) ≡ sequencers a ++ sequencers b
sequencers_append [] b = refl
sequencers_append (x ∷ a) b = ap (λ l. x.seq ∷ l) (sequencers_append a b)

-- a sequencer is that of a lease
pub lease_with : (s : ℕ) (ls : List LeaseView) → IsIn s (sequencers ls) → (l : LeaseView) × IsIn l ls × (l.seq ≡ s)
lease_with s [] p = absurd p
lease_with s (x ∷ xs) p = ⊎_elim (λ e. (x, inl refl, sym e)) (λ q. let r = lease_with s xs q in (r.0, inr r.1, r.2)) p

-- a lease's sequencer is below the length of what was seen
pub seq_below : (front : List Entry) (ls : List LeaseView) (s : ℕ) → AreClaimed front ls → IsIn s (sequencers ls) → s < length front
seq_below front ls s h p =
    let l = lease_with s ls p in
    subst (λ (z : ℕ). z < length front) l.2 (claim_within front l.0.interval l.0.seq (h l.0 l.1))

-- ---- what an entry adds to the leases

-- the leases that an entry gives
abbrev news : View → Entry → List LeaseView
news v e = lease_in (e ∷ []) (length v.front)

-- a lease that an entry gives has the entry's number
new_seq : (v : View) (e : Entry) (s : ℕ) → IsIn s (sequencers (news v e)) → s ≡ length v.front
new_seq v (Claim w i) s p = ⊎_elim (λ x. x) (λ x. absurd x) p
new_seq v (Inject q part line item) s p = absurd p
new_seq v (Handle q row id effects) s p = absurd p
new_seq v (Fire q row timer mark effects) s p = absurd p
new_seq v (Ack q row id) s p = absurd p
new_seq v (Purge q row floor) s p = absurd p

-- an entry gives at most one lease
news_distinct : (v : View) (e : Entry) → AreDistinct (sequencers (news v e))
news_distinct v (Claim w i) = ((λ x. x), tt)
news_distinct v (Inject q part line item) = tt
news_distinct v (Handle q row id effects) = tt
news_distinct v (Fire q row timer mark effects) = tt
news_distinct v (Ack q row id) = tt
news_distinct v (Purge q row floor) = tt

-- the lease that an entry gives is claimed by it
pub news_claimed : (v : View) (e : Entry) → AreClaimed (v.front ++ e ∷ []) (news v e)
news_claimed v (Claim w i) l p = ⊎_elim
    (λ x. (
      w,
      ap (λ (y : LeaseView). slice_get (v.front ++ Claim w i ∷ []) y.seq) x
          ∙ slice_get-last v.front (Claim w i) ∙ ap (λ (y : LeaseView). Some (Claim w y.interval)) (sym x),
    ))
    (λ x. absurd x)
    p
news_claimed v (Inject q part line item) l p = absurd p
news_claimed v (Handle q row id effects) l p = absurd p
news_claimed v (Fire q row timer mark effects) l p = absurd p
news_claimed v (Ack q row id) l p = absurd p
news_claimed v (Purge q row floor) l p = absurd p

-- ---- an entry is appended

-- the view of a seat after its entry
abbrev pub after : View → Entry → View
after v e = record v {
  front = v.front ++ e ∷ [];
  own = v.own ++ length v.front ∷ [];
  leases = v.leases ++ news v e;
  settled = settled_by e (length v.front) v.settled;
}

-- what the step tells is this view
pub grown_after : (v : View) (e : Entry) → grown v (v.front ++ e ∷ []) ≡ after v e
grown_after v e = ap (λ (l : List Entry). record v {
  front = v.front ++ e ∷ [];
  own = v.own ++ length v.front ∷ [];
  leases = v.leases ++ lease_in l (length v.front);
  settled = settled_in l (length v.front) v.settled;
}) (drop_front v.front (e ∷ []))

-- a number below one more is below, or is the last
below_or : (k a b c : ℕ) → k < c → c ≡ b + 1 → b ≡ a → (k < a) ⊎ (k ≡ b)
below_or k a b c p q r = dite (ℕ_discrete k b) (λ e. inr e) (λ n. inl (omega (arith, p, q, r, n)))

-- what a lawful book says of its history, where told
pub lawful_legal : (basis : Basis) (h : List Entry) (b : CoreView) → IsLawful basis.case b → b.history ≡ h
    → telling b.rows ≡ basis.told → IfSome basis.told (λ _. IsLegal basis.case h)
lawful_legal basis h b lawful same told =
    subst (λ (l : List Entry). IfSome basis.told (λ _. IsLegal basis.case l)) same
    (subst (λ (o : Option Unit). IfSome o (λ _. IsLegal basis.case b.history)) told
    (telling-if b.rows _ (told-then b.rows (HoldsRowsOf basis.case b.history) _ lawful.held (λ r held. held.legal))))

-- each entry under a lease of the seat that appends is its own: the new entry is, and nothing carries the number
-- of a lease that it gives
all_written : (shape : Shape) (v : View) (e : Entry) (q : ℕ) → IsFenced shape v.front
    → (IsIn q (sequencers v.leases) → (k : ℕ) (x : Entry) → slice_get v.front k ≡ Some x → sequencer_of x ≡ Some q → IsIn k v.own)
    → IsIn q (sequencers v.leases) ⊎ IsIn q (sequencers (news v e))
    → (k : ℕ) (x : Entry) → slice_get (v.front ++ e ∷ []) k ≡ Some x → sequencer_of x ≡ Some q → IsIn k (v.own ++ length v.front ∷ [])
all_written shape v e q fenced before p k x there carries = ⊎_elim
    (λ y. in_left k v.own (length v.front ∷ []) (⊎_elim
    (λ r. before r k x y carries)
    (λ r. let is = new_seq v e q r in
    let below = carried_below shape v.front k q x fenced y carries in
    let within = slice_get_within v.front k x y in absurd (omega (arith, is, below, within))) p))
    (λ y. in_right k v.own (length v.front ∷ []) (inl y.0))
    (entry_at_end v.front e x k there)

-- the view of the seat that appends
grown_fits : (basis : Basis) (s : State Slot View) (f : FenceLaw basis s) (id : ℕ) (v : View) (e : Entry)
    → get_elem? s.views id ≡ some v → v.turn ≡ true → v.live ≡ true
    → Fits basis (v.front ++ e ∷ []) f.turn f.count (after v e)
grown_fits basis s f id v e at turn live =
    let fit = f.views id v at in
    let mine = fit.holds turn in
    let whole : v.front ≡ f.history = mine.4 in
    let h' = v.front ++ e ∷ [] in
    let more : length h' ≡ length v.front + 1 = length-append v.front (e ∷ []) in
    let len : length v.front ≡ length f.history = ap length whole in
    record {
      same = fit.same;
      gone = λ e. absurd (off (sym e ∙ live));
      begins = Begins-itself h';
      reaches = λ x. let o = fit.reaches x in omega (arith, o, more);
      met = Begins-trans v.met v.front h' fit.met (begins_more v.front e);
      met_same = fit.met_same;
      holds = λ r. (mine.0, mine.1, mine.2, mine.3, refl, mine.5);
      claimed = λ l p. ⊎_elim
          (λ q. claim_kept v.front h' l.interval l.seq (begins_more v.front e) (fit.claimed l q))
          (λ q. news_claimed v e l q) (in_append l v.leases (news v e) p);
      once = subst AreDistinct (sym (sequencers_append v.leases (news v e)))
          (distinct_append (sequencers v.leases) (sequencers (news v e)) fit.once (news_distinct v e)
          (λ x p q. let b = seq_below v.front v.leases x fit.claimed p in let c = new_seq v e x q in omega (arith, b, c)));
      seen_own = λ q p. all_below h' h' q refl;
      written = λ q p. all_written basis.case.topology v e q (subst (IsFenced basis.case.topology) (sym whole) f.fenced)
          (λ r k x there carries. fit.written q r k x (subst (λ l. slice_get l k ≡ Some x) whole there) carries)
          (in_append q (sequencers v.leases) (sequencers (news v e))
          (subst (IsIn q) (sequencers_append v.leases (news v e)) p));
      own = λ k p. ⊎_elim (λ q. let o = fit.own k q in (o.0, omega (arith, o.1, more)))
          (λ q. ⊎_elim (λ x. (omega (arith, x, f.started, len), omega (arith, x, more))) (λ x. absurd x) q)
          (in_append k v.own (length v.front ∷ []) p);
      own_ascend = ascends_push v.own (length v.front) fit.own_ascend (λ x p. (fit.own x p).1);
      numbers = fit.numbers;
      numbers_ascend = fit.numbers_ascend;
      only_looks = λ z. absurd (off (sym (fit.only_looks z).0 ∙ turn));
      failed = fit.failed;
    }

-- the seat that appends shares nothing with another
grown_apart : (basis : Basis) (s : State Slot View) (f : FenceLaw basis s) (id : ℕ) (v : View) (e : Entry)
    → get_elem? s.views id ≡ some v → v.turn ≡ true
    → (i : ℕ) (u : View) → i ≢ id → get_elem? s.views i ≡ some u → AreApart (after v e) u
grown_apart basis s f id v e at turn i u o g =
    let whole : v.front ≡ f.history = ((f.views id v at).holds turn).4 in
    let len : length v.front ≡ length f.history = ap length whole in
    let a = f.apart id i v u at g (λ x. o (sym x)) in
    let fu = f.views i u g in
    let short = Begins-length u.front f.history fu.begins in
    let there : (q : ℕ) → IsIn q (sequencers (v.leases ++ news v e)) → IsIn q (sequencers v.leases) ⊎ (q ≡ length v.front) = λ q p.
    ⊎_elim (λ y. inl y) (λ y. inr (new_seq v e q y))
    (in_append q (sequencers v.leases) (sequencers (news v e)) (subst (IsIn q) (sequencers_append v.leases (news v e)) p)) in
    record {
      turn = a.turn;
      leases = λ q p r. ⊎_elim (λ y. a.leases q y r)
          (λ y. let b = seq_below u.front u.leases q fu.claimed r in omega (arith, b, y, short, len)) (there q p);
      own = λ k p r. ⊎_elim (λ y. a.own k y r)
          (λ y. ⊎_elim (λ z. let b = (fu.own k r).1 in omega (arith, b, z, short, len)) (λ z. z) y)
          (in_append k v.own (length v.front ∷ []) p);
      numbers = a.numbers;
    }

-- the law of marks, once the entry is appended
law_appended : (basis : Basis) (s : State Slot View) (f : FenceLaw basis s) (id : ℕ) (v w : View) (e : Entry)
    → get_elem? s.views id ≡ some v → v.front ≡ f.history → IsRunnable basis.case
    → IfSome basis.told (λ _. IsLegal basis.case (v.front ++ e ∷ []))
    → w.front ≡ v.front ++ e ∷ [] → w.settled ≡ settled_by e (length f.history) v.settled → w.marks ≡ v.marks → w.floor ≡ v.floor
    → MarksLaw basis (v.front ++ e ∷ []) f.floor f.marks (slice_set s.views id w)
law_appended basis s f id v w e at whole runs legal front settled marks floor =
    subst (λ (h : List Entry). MarksLaw basis (h ++ e ∷ []) f.floor f.marks (slice_set s.views id w)) (sym whole)
    (marks_appended basis f.history e f.floor f.marks s.views id v w runs
    (subst (λ (h : List Entry). IfSome basis.told (λ _. IsLegal basis.case (h ++ e ∷ []))) whole legal)
    (λ i u g. (f.views i u g).begins) at (front ∙ ap (λ (h : List Entry). h ++ e ∷ []) whole) settled marks floor f.law)

-- the law, once the entry is appended
appended : (basis : Basis) (s : State Slot View) (f : FenceLaw basis s) (id : ℕ) (v : View) (b : CoreView) (e : Entry)
    → get_elem? s.views id ≡ some v → v.turn ≡ true → v.live ≡ true → IsOwnEntry v e
    → b.history ≡ v.front ++ e ∷ [] → IsLawful v.basis.case b → b.limit ≡ v.basis.limit → telling b.rows ≡ v.basis.told
    → FenceLaw basis (record {
      words = slice_set s.words 0 (length (v.front ++ e ∷ []));
      homes = s.homes;
      views = slice_set s.views id (after v e);
    })
appended basis s f id v b e at turn live may longer lawful limit told =
    let fit = f.views id v at in
    let mine = fit.holds turn in
    let base : v.basis ≡ basis = fit.same live in
    let whole : v.front ≡ f.history = mine.4 in
    let h' = v.front ++ e ∷ [] in
    let w = after v e in
    let more : length h' ≡ length v.front + 1 = length-append v.front (e ∷ []) in
    let len : length v.front ≡ length f.history = ap length whole in
    let grows : Begins f.history h' = subst (λ l. Begins l h') whole (begins_more v.front e) in
    let free = alone basis s f id v at turn in
    let lawful' : IsLawful basis.case b = subst (λ (z : Basis). IsLawful z.case b) base lawful in
    let room : length b.history ≤ b.limit = lawful'.few in
    let legal : IfSome basis.told (λ _. IsLegal basis.case h') =
    lawful_legal basis h' b lawful' longer (told ∙ ap (λ (z : Basis). z.told) base) in
    record {
      history = h';
      turn = f.turn;
      count = f.count;
      floor = f.floor;
      marks = f.marks;
      words = ap (λ l. slice_set l 0 (length h')) f.words;
      places = f.places;
      holder = λ z. somewhere_here (λ x. x.turn ≡ true) s.views id v w at turn;
      home = λ z. absurd (omega (arith, mine.3, z));
      out = f.out;
      fenced = subst (IsFenced basis.case.topology) longer lawful'.fenced;
      legal = legal;
      few = omega (arith, room, limit, ap length longer, ap (λ (z : Basis). z.limit) base);
      limit = f.limit;
      started = omega (arith, f.started, more, len);
      counted = f.counted;
      views = everywhere_set (Fits basis h' f.turn f.count) s.views id w (grown_fits basis s f id v e at turn live)
          (λ i u o g. let fu = f.views i u g in
          let a = f.apart id i v u at g (λ x. o (sym x)) in
          fits_on basis f.history h' f.turn f.count f.turn f.count u fu (free i u o g) grows (omega arith)
          (λ q p. below_push v.front e q (length u.front)
          (subst (λ l. CarriesBelow l q (length u.front)) (sym whole) (fu.seen_own q p))
          (λ carries. a.leases q (may q carries) p))
          (λ q p k x there carries. ⊎_elim
          (λ y. fu.written q p k x (subst (λ l. slice_get l k ≡ Some x) whole y) carries)
          (λ y. absurd (a.leases q (may q (ap sequencer_of y.1 ∙ carries)) p))
          (entry_at_end v.front e x k there)));
      apart = pairwise_set AreApart s.views id w f.apart
          (λ i u o g. let n = grown_apart basis s f id v e at turn i u o g in (n, apart_sym w u n));
      owned = λ k p q. ⊎_elim
          (λ y. somewhere_set (λ x. IsIn k x.own) s.views id v w at (λ z. in_left k v.own (length v.front ∷ []) z) (f.owned k p y))
          (λ y. somewhere_here (λ x. IsIn k x.own) s.views id v w at (in_right k v.own (length v.front ∷ []) (inl y)))
          (below_or k (length f.history) (length v.front) (length h') q more len);
      numbered = λ n p. somewhere_set (λ x. IsIn n x.numbers) s.views id v w at (λ y. y) (f.numbered n p);
      law = law_appended basis s f id v w e at whole lawful'.runnable legal refl
          (ap (λ (l : List Entry). settled_by e (length l) v.settled) whole) refl refl;
      quiet = everywhere_set (IsQuiet h') s.views id w
          (quiet-grown basis.case.topology v.front e v w (subst (IsFenced basis.case.topology) longer lawful'.fenced) fit.claimed refl refl turn
          (subst (λ (l : List Entry). IsQuiet l v) (sym whole) (f.quiet id v at)))
          (λ i u o g. quiet-stays v.front e u (free i u o g)
          (λ q p carries. (f.apart id i v u at g (λ x. o (sym x))).leases q (may q carries) p)
          (subst (λ (l : List Entry). IsQuiet l u) (sym whole) (f.quiet i u g)));
    }

-- a small number is its own remainder
rem_small : (n : ℕ) → n < 2 ^ 64 → n % 2 ^ 64 ≡ n
rem_small n h = omega arith

-- a seat with the turn may append the entry that the book in its place has more
pub appends_one : (basis : Basis) (slots id : ℕ) (v : View) (b : CoreView) (e : Entry) → v.turn ≡ true → v.live ≡ true
    → IsOwnEntry v e → b.history ≡ v.front ++ e ∷ [] → length b.history < 2 ^ 64
    → IsLawful v.basis.case b → b.limit ≡ v.basis.limit → telling b.rows ≡ v.basis.told
    → Allows (FenceLaw basis) slots id (v, (0, Some b) ∷ []) 0 (λ n. (n + 1) % 2 ^ 64)
    (Appends (step slots 0 1 0 none) (v, (0, Some b) ∷ []))
appends_one basis slots id v b e turn live may longer below lawful limit told s f homes at small =
    let mine = ((f.views id v at).holds turn).4 in
    let found : slice_index s.words 0 ≡ length f.history = ap (λ l. slice_index l 0) f.words in
    let front : length v.front ≡ length f.history = ap length mine in
    let more : length (v.front ++ e ∷ []) ≡ length v.front + 1 = length-append v.front (e ∷ []) in
    let is : after v e ≡ grown v b.history = sym (ap (grown v) longer ∙ grown_after v e) in
    let below' : length (v.front ++ e ∷ []) < 2 ^ 64 = subst (λ (l : List Entry). length l < 2 ^ 64) longer below in
    let next : (slice_index s.words 0 + 1) % 2 ^ 64 ≡ length (v.front ++ e ∷ []) =
    ap (λ n. (n + 1) % 2 ^ 64) (found ∙ sym front) ∙ ap (λ n. n % 2 ^ 64) (sym more)
    ∙ rem_small (length (v.front ++ e ∷ [])) below' in (
      after v e,
      keeps,
      tt,
      subst (λ (n : ℕ). FenceLaw basis (record {
        words = slice_set s.words 0 n;
        homes = s.homes;
        views = slice_set s.views id (after v e);
      })) (sym next) (appended basis s f id v b e at turn live may longer lawful limit told),
      ((refl, refl, refl), found ∙ sym front, λ i. (is i, (0, Some b) ∷ [])),
    )

-- ---- the turn is given back

-- a seat with the turn may give it back, and the book with it
pub gives_turn : (basis : Basis) (slots id : ℕ) (v : View) (b : CoreView) → v.turn ≡ true → v.live ≡ true
    → IsCore v.basis v.front v.count b → 0 < slots
    → Allows (FenceLaw basis) slots id (v, (0, Some b) ∷ []) 1 (λ _. 0) (λ _. GivesBack (step slots 1 0 0 none) (v, (0, Some b) ∷ []) 0)
gives_turn basis slots id v b turn live core room s f homes at small =
    let fit = f.views id v at in
    let mine = fit.holds turn in
    let w = idle v in
    let free = alone basis s f id v at turn in (
      w,
      gives,
      tt,
      record {
        history = f.history;
        turn = 0;
        count = f.count;
        floor = f.floor;
        marks = f.marks;
        words = ap (λ l. slice_set l 1 0) f.words;
        places = f.places;
        holder = λ z. absurd (omega arith);
        home = λ _. (
          b,
          set_here s.homes 0 (some (Some b)) (omega (arith, homes)),
          subst (λ (z : Basis × List Entry × ℕ). IsCore z.0 z.1 z.2 b) (λ i. (fit.same live i, mine.4 i, mine.5 i)) core,
        );
        out = λ z. absurd (omega (arith, z));
        fenced = f.fenced;
        legal = f.legal;
        few = f.few;
        limit = f.limit;
        started = f.started;
        counted = f.counted;
        views = everywhere_set (Fits basis f.history 0 f.count) s.views id w
            (record {
              same = fit.same;
              gone = λ e. absurd (off (sym e ∙ live));
              begins = fit.begins;
              reaches = fit.reaches;
              met = fit.met;
              met_same = fit.met_same;
              holds = λ r. absurd (off r);
              claimed = fit.claimed;
              once = fit.once;
              seen_own = fit.seen_own;
              written = fit.written;
              own = fit.own;
              own_ascend = fit.own_ascend;
              numbers = fit.numbers;
              numbers_ascend = fit.numbers_ascend;
              only_looks = λ e. let n = fit.only_looks e in (refl, n.1, n.2);
              failed = fit.failed;
            })
            (λ i u o e. fits_on basis f.history f.history f.turn f.count 0 f.count u (f.views i u e) (free i u o e)
            (Begins-itself f.history) (omega arith) (f.views i u e).seen_own (f.views i u e).written);
        apart = pairwise_set AreApart s.views id w f.apart
            (λ i u o e. let a = f.apart id i v u at e (λ x. o (sym x)) in
            let n : AreApart w u = record {
              turn = λ x y. free i u o e y;
              leases = a.leases;
              own = a.own;
              numbers = a.numbers;
            } in (n, apart_sym w u n));
        owned = λ k p q. somewhere_set (λ x. IsIn k x.own) s.views id v w at (λ y. y) (f.owned k p q);
        numbered = λ n p. somewhere_set (λ x. IsIn n x.numbers) s.views id v w at (λ y. y) (f.numbered n p);
        law = marks_released basis f.history f.floor f.marks s.views id v w
            (subst (λ (z : Basis). IsRunnable z.case) (fit.same live) core.lawful.runnable) at mine.4 refl
            (ap (λ (z : Basis). places_after z.case.topology v.front v.marks 0 v.settled) (fit.same live)) refl refl f.law;
        quiet = everywhere_set (IsQuiet f.history) s.views id w
            (quiet-released v.basis.case.topology f.history v w v.marks
            (ap (λ (l : List Entry). places_after v.basis.case.topology l v.marks 0 v.settled) mine.4) refl (f.quiet id v at))
            (λ i u o e. f.quiet i u e);
      },
      ((refl, refl, refl), refl),
    )

-- ---- a fault is noted

-- a word that is set to what it is
pub same_first : (basis : Basis) (s : State Slot View) (f : FenceLaw basis s)
    → slice_set s.words 0 (slice_index s.words 0) ≡ length f.history ∷ f.turn ∷ f.floor ∷ f.marks
same_first basis s f =
    subst (λ (l : List ℕ). slice_set s.words 0 (slice_index l 0) ≡ length f.history ∷ f.turn ∷ f.floor ∷ f.marks) (sym f.words)
    (ap (λ l. slice_set l 0 (length f.history)) f.words)

-- a seat with the turn may note that the keeper of the book in its place failed
pub faults_one : (basis : Basis) (slots id : ℕ) (v : View) (b : CoreView) → v.turn ≡ true → v.count ≤ b.faults → Rose v.count b.faults
    → Allows (FenceLaw basis) slots id (v, (0, Some b) ∷ []) 0 (λ n. n) (Faults (step slots 0 0 0 none) (v, (0, Some b) ∷ []))
faults_one basis slots id v b turn more rose s f homes at small =
    let fit = f.views id v at in
    let mine = fit.holds turn in
    let w = faulted v b.faults in
    let free = alone basis s f id v at turn in
    let up : f.count ≤ b.faults = omega (arith, mine.5, more) in
    let low : basis.count ≤ v.count = omega (arith, mine.5, f.counted) in (
      w,
      keeps,
      tt,
      record {
        history = f.history;
        turn = f.turn;
        count = b.faults;
        floor = f.floor;
        marks = f.marks;
        words = same_first basis s f;
        places = f.places;
        holder = λ z. somewhere_here (λ x. x.turn ≡ true) s.views id v w at turn;
        home = λ z. absurd (omega (arith, mine.3, z));
        out = f.out;
        fenced = f.fenced;
        legal = f.legal;
        few = f.few;
        limit = f.limit;
        started = f.started;
        counted = omega (arith, f.counted, up);
        views = everywhere_set (Fits basis f.history f.turn b.faults) s.views id w
            (record {
              same = fit.same;
              gone = λ e. absurd (off (sym (ap (λ (x : View). x.turn) (fit.gone e)) ∙ turn));
              begins = fit.begins;
              reaches = fit.reaches;
              met = fit.met;
              met_same = fit.met_same;
              holds = λ r. (mine.0, mine.1, mine.2, mine.3, mine.4, refl);
              claimed = fit.claimed;
              once = fit.once;
              seen_own = fit.seen_own;
              written = fit.written;
              own = fit.own;
              own_ascend = fit.own_ascend;
              numbers = fit.numbers;
              numbers_ascend = fit.numbers_ascend;
              only_looks = fit.only_looks;
              failed = λ p. Rose-before basis.count v.count b.faults low rose;
            })
            (λ i u o e. fits_on basis f.history f.history f.turn f.count f.turn b.faults u (f.views i u e) (free i u o e)
            (Begins-itself f.history) up (f.views i u e).seen_own (f.views i u e).written);
        apart = pairwise_set AreApart s.views id w f.apart
            (λ i u o e. let a = f.apart id i v u at e (λ x. o (sym x)) in
            let n : AreApart w u = record { turn = a.turn; leases = a.leases; own = a.own; numbers = a.numbers } in
            (n, apart_sym w u n));
        owned = λ k p q. somewhere_set (λ x. IsIn k x.own) s.views id v w at (λ y. y) (f.owned k p q);
        numbered = λ n p. somewhere_set (λ x. IsIn n x.numbers) s.views id v w at (λ y. y) (f.numbered n p);
        law = marks_moved basis f.history f.floor f.marks s.views id v w at (Begins-itself v.front) refl refl refl f.law;
        quiet = everywhere_set (IsQuiet f.history) s.views id w (quiet-moved f.history v w refl refl (λ x. x) (f.quiet id v at))
            (λ i u o e. f.quiet i u e);
      },
      ((refl, refl, refl), refl),
    )

-- ---- a look

-- a word that is set to what it is leaves the table as it was
still : (basis : Basis) (s : State Slot View) (f : FenceLaw basis s) (id : ℕ) (v : View) → get_elem? s.views id ≡ some v
    → FenceLaw basis (record {
      words = slice_set s.words 0 (slice_index s.words 0);
      homes = s.homes;
      views = slice_set s.views id v;
    })
still basis s f id v at =
    subst (λ (z : List ℕ × List View). FenceLaw basis (record { words = z.0; homes = s.homes; views = z.1 }))
    (λ i. ((f.words ∙ sym (same_first basis s f)) i, sym (set_again s.views id v at) i)) f

-- any seat of a book may look at what it has seen
pub looks_on : (basis : Basis) (slots id : ℕ) (v : View) (l : List (ℕ × Slot)) → v.live ≡ true
    → Allows (FenceLaw basis) slots id (v, l) 0 (λ n. n) (Looks (step slots 0 0 0 none) (v, l))
looks_on basis slots id v l live s f homes at small =
    let fit = f.views id v at in
    let base : basis ≡ v.basis = sym (fit.same live) in
    let short = Begins-length v.front f.history fit.begins in (
      v,
      keeps,
      tt,
      still basis s f id v at,
      (
        (refl, refl, refl),
        refl,
        record {
          fenced = subst (λ (z : Basis). IsFenced z.case.topology v.front) base
              (IsFenced-begins basis.case.topology v.front f.history fit.begins f.fenced);
          legal = subst (λ (z : Basis). IfSome z.told (λ _. IsLegal z.case v.front)) base
              (told-then basis.told (λ _. IsLegal basis.case f.history) (λ _. IsLegal basis.case v.front) f.legal
              (λ _ legal. legal_begins basis.case v.front f.history fit.begins legal));
          few = omega (arith, short, f.few, ap (λ (z : Basis). z.limit) base);
          limit = omega (arith, f.limit, ap (λ (z : Basis). z.limit) base);
          claimed = fit.claimed;
          ascend = fit.numbers_ascend;
          floor = let low = (loaded-safe basis f.history f.floor f.marks s.views id v at f.law).1 in
              let most = floor-few basis.case f.history in omega (arith, low, most, f.few, f.limit);
        },
        fit.met,
        record {
          own = λ k p. (fit.own k p).1;
          written = λ q p k x there carries. fit.written q p k x (Begins-at v.front f.history k x fit.begins there) carries;
        },
        fit.met_same live ∙ base,
        λ idle i. let settled = f.law.settled id v at i in record {
          within = settled.within;
          last = settled.last;
          quiet = λ seq is at' entry there carries. ⊎_elim
              (λ below. below at' entry (Begins-at v.front f.history at' entry fit.begins there) carries)
              (λ x. absurd (off (sym idle ∙ x.0)))
              ((f.quiet id v at i).quiet seq is);
        },
      ),
    )
