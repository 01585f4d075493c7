-- Nothing was written under a lease since it was settled, but in the turn that goes on: each kind of step keeps this.
use Rattle.std.proofs.Common.{inl, inr, ◌≡◌, ◌≢◌, ◌⊎◌, ◌∙◌, ℕ, zero, suc, ◌+◌, ◌==◌, Bool, true, false, true≢false, cond, List, [], ◌∷◌, ◌++◌, length, Option, Some, None, refl, sym, ap, subst, ⊎_elim, arith, eq-eqb, ne_eqb, length-append}
use Rattle.std.specs.Prelude.{slice_set}
use Rattle.std.specs.Option.{option_and_then, option_map_or}
use Rattle.std.proofs.lemmas.List.{append-nil}
use Rattle.std.proofs.lemmas.Option.{slice_get_within}
use mathlib.Core.Logic.{dite}
use native.Mathlib.Decide.{ℕ_discrete}
use Rattle.mw_types.specs.declared.entry.Entry.{Entry}
use Rattle.mw_types.specs.declared.entry.Entry.TheVariants.{Claim, Inject, Handle, Fire, Ack, Purge}
use Rattle.mw_types.specs.declared.identity.RowName.{RowName}
use Rattle.topology.specs.Shapes.{Shape}
use Rattle.run_history.specs.Made.{row_written}
use Rattle.run_history.specs.Fences.{IsClaimed, IsCurrent, IsFenced, interval_of, last_claim, sequencer_of}
use Rattle.run_history.specs.Watermarks.{least}
use Rattle.watermark.specs.Marks.{feeding_marks}
use Rattle.run_history.proofs.Beginnings.{Begins-itself}
use Rattle.run_history.proofs.Claims.{last_claim-push, last_claim-there}
use Rattle.list_lemmas.proofs.Lists.{none_some, some_same}
use Rattle.book.specs.Books.{LeaseView}
use Rattle.shared_book.specs.declared.views.Settled.{Settled}
use Rattle.shared_book.specs.declared.views.View.{View}
use Rattle.shared_book.specs.FenceLaw.{AreClaimed, IsQuiet, IsQuietPlace, sequencers}
use Rattle.shared_book.specs.Lists.{IsIn}
use Rattle.shared_book.specs.Places.{claimed_now, newest, nothing, place_of, place_after, places_after, settled_by, is_last}
use Rattle.shared_book.specs.Steps.{lease_in}
use Rattle.shared_book.proofs.Histories.{all_below, below_push, last_claim-carried, on_row, seq_of_lease}
use Rattle.shared_book.proofs.Lists.{in_left, in_right}
use Rattle.shared_book.proofs.Places.{place-after, place-newest, place-none}

-- said of what is there
quiet-at : (h : List Entry) (v : View) (i : ℕ) (p q : Settled) → q ≡ p → IsQuietPlace h v i p → IsQuietPlace h v i q
quiet-at h v i p q same = subst (IsQuietPlace h v i) (sym same)

-- nothing is quiet
pub quiet-nothing : (h : List Entry) (v : View) (i : ℕ) → IsQuietPlace h v i nothing
quiet-nothing h v i = record {
  held = λ seq is. absurd (omega (arith, is));
  quiet = λ seq is. absurd (omega (arith, is));
}

-- ---- steps that neither append nor settle

pub quiet-moved : (h : List Entry) (v w : View) → w.settled ≡ v.settled → w.leases ≡ v.leases → (v.turn ≡ true → w.turn ≡ true)
    → IsQuiet h v → IsQuiet h w
quiet-moved h v w settled leases turn quiet i =
    quiet-at h w i (place_of v.settled i) (place_of w.settled i) (ap (λ (l : List Settled). place_of l i) settled) (record {
      held = λ seq is. subst (IsIn (record { interval = i; seq = seq })) (sym leases) ((quiet i).held seq is);
      quiet = λ seq is. ⊎_elim (λ x. inl x) (λ x. inr (turn x.0, x.1)) ((quiet i).quiet seq is);
    })

-- a view without places
pub quiet-bare : (h : List Entry) (v : View) → ((i : ℕ) → place_of v.settled i ≡ nothing) → IsQuiet h v
quiet-bare h v bare i = quiet-at h v i nothing (place_of v.settled i) (bare i) (quiet-nothing h v i)

-- ---- an entry is appended

-- the lease of an entry that carries its sequencer is the last of its interval
carried-last : (shape : Shape) (h : List Entry) (e : Entry) (i seq : ℕ) → IsFenced shape (h ++ e ∷ []) → IsClaimed i seq h
    → sequencer_of e ≡ Some seq → IsCurrent i seq h
carried-last shape h e i seq fenced claimed carries =
    by_interval (interval_of shape on.0) (fenced h e (Begins-itself (h ++ e ∷ [])) on.0 on.1 ∙ carries)
  where
    on : (name : RowName) × (row_written e ≡ Some name)
    on = on_row e seq carries

    interval_in : Entry → ℕ
    interval_in (Claim worker interval) = interval
    interval_in _ = 0

    by_interval : (o : Option ℕ) → option_and_then (λ (j : ℕ). last_claim j h) o ≡ Some seq → IsCurrent i seq h
    by_interval None is = absurd (none_some seq is)
    by_interval (Some j) is =
        let there = last_claim-there j seq h is in
        let same : j ≡ i = ap interval_in (some_same (Claim there.0 j) (Claim claimed.0 i) (sym there.1 ∙ claimed.1)) in
        subst (λ k. IsCurrent k seq h) same is

-- of a seat without the turn, where no lease of it is the entry's
pub quiet-stays : (h : List Entry) (e : Entry) (u : View) → (u.turn ≡ true → ⊥)
    → ((seq : ℕ) → IsIn seq (sequencers u.leases) → sequencer_of e ≡ Some seq → ⊥) → IsQuiet h u → IsQuiet (h ++ e ∷ []) u
quiet-stays h e u idle foreign quiet i = record {
  held = (quiet i).held;
  quiet = λ seq is. ⊎_elim
      (λ below. inl (below_push h e seq (place_of u.settled i).base below
      (λ carries. foreign seq (seq_of_lease (record { interval = i; seq = seq }) u.leases ((quiet i).held seq is)) carries)))
      (λ x. absurd (idle x.0))
      ((quiet i).quiet seq is);
}

-- one place of the seat that appends an entry which carries a sequencer
quiet-own : (shape : Shape) (h : List Entry) (e : Entry) (q : ℕ) (v w : View) (i : ℕ) (place : Settled) → IsFenced shape (h ++ e ∷ [])
    → sequencer_of e ≡ Some q → AreClaimed h v.leases → w.leases ≡ v.leases → w.turn ≡ true
    → IsQuietPlace h v i place → IsQuietPlace (h ++ e ∷ []) w i place
quiet-own shape h e q v w i place fenced carries claimed leases turn quiet = record {
  held = λ seq is. subst (IsIn (record { interval = i; seq = seq })) (sym leases) (quiet.held seq is);
  quiet = λ seq is. ⊎_elim
      (λ below. dite (ℕ_discrete q seq)
      (λ same. inr (
        turn,
        last_claim-carried i q h e carries
            ∙ carried-last shape h e i seq fenced (claimed (record { interval = i; seq = seq }) (quiet.held seq is)) (carries ∙ ap Some same),
      ))
      (λ other. inl (below_push h e seq place.base below (λ bears. other (some_same q seq (sym carries ∙ bears))))))
      (λ x. inr (turn, last_claim-carried i q h e carries ∙ x.1))
      (quiet.quiet seq is);
}

-- one place of the seat that claims another interval
quiet-other : (h : List Entry) (worker interval : ℕ) (v w : View) (i : ℕ) (place : Settled) → i ≢ interval
    → ((l : LeaseView) → IsIn l v.leases → IsIn l w.leases) → w.turn ≡ true
    → IsQuietPlace h v i place → IsQuietPlace (h ++ Claim worker interval ∷ []) w i place
quiet-other h worker interval v w i place apart leases turn quiet = record {
  held = λ seq is. leases (record { interval = i; seq = seq }) (quiet.held seq is);
  quiet = λ seq is. ⊎_elim
      (λ below. inl (below_push h (Claim worker interval) seq place.base below (λ bears. none_some seq bears)))
      (λ x. inr (
        turn,
        last_claim-push i h (Claim worker interval)
            ∙ ap (λ b. cond b (Some (length h)) (last_claim i h)) (ne_eqb interval i (λ e. apart (sym e))) ∙ x.1,
      ))
      (quiet.quiet seq is);
}

-- the place of a lease that was just claimed
quiet-claimed : (h : List Entry) (worker interval : ℕ) (w : View) → IsIn (record { interval = interval; seq = length h }) w.leases
    → IsQuietPlace (h ++ Claim worker interval ∷ []) w interval (claimed_now (length h))
quiet-claimed h worker interval w held = record {
  held = λ seq is. let same : length h ≡ seq = omega (arith, is) in
      subst (λ n. IsIn (record { interval = interval; seq = n }) w.leases) same held;
  quiet = λ seq is. inl (λ at entry there carries.
      let within = slice_get_within (h ++ Claim worker interval ∷ []) at entry there in
      let long : length (h ++ Claim worker interval ∷ []) ≡ length h + 1 = length-append h (Claim worker interval ∷ []) in
      omega (arith, within, long));
}

-- after one is set, another is as it was
place-else : (places : List Settled) (at i : ℕ) (p : Settled) → i ≢ at → place_of (slice_set places at p) i ≡ place_of places i
place-else [] at i p apart = refl
place-else (x ∷ xs) zero zero p apart = absurd (apart refl)
place-else (x ∷ xs) zero (suc i) p apart = refl
place-else (x ∷ xs) (suc at) zero p apart = refl
place-else (x ∷ xs) (suc at) (suc i) p apart = place-else xs at i p (λ e. apart (ap suc e))

-- and the one is that, or nothing
place-here : (places : List Settled) (at : ℕ) (p : Settled)
    → (place_of (slice_set places at p) at ≡ p) ⊎ (place_of (slice_set places at p) at ≡ nothing)
place-here [] at p = inr (place-none at)
place-here (x ∷ xs) zero p = inl refl
place-here (x ∷ xs) (suc at) p = place-here xs at p

-- of the seat that appends an entry that carries a sequencer
quiet-kept : (shape : Shape) (h : List Entry) (e : Entry) (q : ℕ) (v w : View) → IsFenced shape (h ++ e ∷ []) → sequencer_of e ≡ Some q
    → AreClaimed h v.leases → w.settled ≡ v.settled → w.leases ≡ v.leases → w.turn ≡ true → IsQuiet h v → IsQuiet (h ++ e ∷ []) w
quiet-kept shape h e q v w fenced carries claimed settled leases turn quiet i =
    quiet-at (h ++ e ∷ []) w i (place_of v.settled i) (place_of w.settled i) (ap (λ (l : List Settled). place_of l i) settled)
    (quiet-own shape h e q v w i (place_of v.settled i) fenced carries claimed leases turn (quiet i))

-- of the seat that appends
pub quiet-grown : (shape : Shape) (h : List Entry) (e : Entry) (v w : View) → IsFenced shape (h ++ e ∷ []) → AreClaimed h v.leases
    → w.settled ≡ settled_by e (length h) v.settled → w.leases ≡ v.leases ++ lease_in (e ∷ []) (length h) → w.turn ≡ true
    → IsQuiet h v → IsQuiet (h ++ e ∷ []) w
quiet-grown shape h (Claim worker interval) v w fenced claimed settled leases turn quiet i =
    quiet-at h' w i (place_of (slice_set v.settled interval now) i) (place_of w.settled i) (ap (λ (l : List Settled). place_of l i) settled)
    (dite (ℕ_discrete i interval)
    (λ same. subst (λ k. IsQuietPlace h' w k (place_of (slice_set v.settled interval now) k)) (sym same)
    (⊎_elim
    (λ is. quiet-at h' w interval now (place_of (slice_set v.settled interval now) interval) is
    (quiet-claimed h worker interval w (subst (IsIn gives) (sym leases) (in_right gives v.leases (gives ∷ []) (inl refl)))))
    (λ is. quiet-at h' w interval nothing (place_of (slice_set v.settled interval now) interval) is (quiet-nothing h' w interval))
    (place-here v.settled interval now)))
    (λ apart. quiet-at h' w i (place_of v.settled i) (place_of (slice_set v.settled interval now) i)
    (place-else v.settled interval i now apart)
    (quiet-other h worker interval v w i (place_of v.settled i) apart
    (λ l held. subst (IsIn l) (sym leases) (in_left l v.leases (gives ∷ []) held)) turn (quiet i))))
  where
    h' : List Entry
    h' = h ++ Claim worker interval ∷ []

    now : Settled
    now = claimed_now (length h)

    gives : LeaseView
    gives = record { interval = interval; seq = length h }
quiet-grown shape h (Inject q part line item) v w fenced claimed settled leases turn quiet i =
    quiet-kept shape h (Inject q part line item) q v w fenced refl claimed settled (leases ∙ append-nil v.leases) turn quiet i
quiet-grown shape h (Handle q row id effects) v w fenced claimed settled leases turn quiet i =
    quiet-kept shape h (Handle q row id effects) q v w fenced refl claimed settled (leases ∙ append-nil v.leases) turn quiet i
quiet-grown shape h (Fire q row timer mark effects) v w fenced claimed settled leases turn quiet i =
    quiet-kept shape h (Fire q row timer mark effects) q v w fenced refl claimed settled (leases ∙ append-nil v.leases) turn quiet i
quiet-grown shape h (Ack q row id) v w fenced claimed settled leases turn quiet i =
    quiet-kept shape h (Ack q row id) q v w fenced refl claimed settled (leases ∙ append-nil v.leases) turn quiet i
quiet-grown shape h (Purge q row floor) v w fenced claimed settled leases turn quiet i =
    quiet-kept shape h (Purge q row floor) q v w fenced refl claimed settled (leases ∙ append-nil v.leases) turn quiet i

-- ---- the turn is given back

pub quiet-released : (shape : Shape) (h : List Entry) (v w : View) (marks : List ℕ) → w.settled ≡ places_after shape h marks 0 v.settled
    → w.leases ≡ v.leases → IsQuiet h v → IsQuiet h w
quiet-released shape h v w marks settled leases quiet i =
    quiet-at h w i (place_of (places_after shape h marks 0 v.settled) i) (place_of w.settled i)
    (ap (λ (l : List Settled). place_of l i) settled)
    (⊎_elim
    (λ x. let same : 0 + i ≡ i = omega arith in
    quiet-at h w i (place_after shape h marks i (place_of v.settled i)) (place_of (places_after shape h marks 0 v.settled) i)
    (x ∙ ap (λ n. place_after shape h marks n (place_of v.settled i)) same)
    (by_test (is_last i (place_of v.settled i).claim h) refl))
    (λ x. quiet-at h w i nothing (place_of (places_after shape h marks 0 v.settled) i) x (quiet-nothing h w i))
    (place-after shape h marks 0 v.settled i))
  where
    place : Settled
    place = place_of v.settled i

    anew : Settled
    anew = record { claim = place.claim; base = length h; input = least (feeding_marks shape i marks) }

    tests : (seq : ℕ) → place.claim ≡ suc seq → IsCurrent i seq h → is_last i place.claim h ≡ true
    tests seq is last = ap (λ (o : Option ℕ). option_map_or (λ (s : ℕ). suc s == place.claim) o false) last ∙ eq-eqb (suc seq) place.claim (sym is)

    by_test : (b : Bool) → is_last i place.claim h ≡ b → IsQuietPlace h w i (cond b anew place)
    by_test true passes = record {
      held = λ seq is. subst (IsIn (record { interval = i; seq = seq })) (sym leases) ((quiet i).held seq is);
      quiet = λ seq is. inl (all_below h h seq refl);
    }
    by_test false fails = record {
      held = λ seq is. subst (IsIn (record { interval = i; seq = seq })) (sym leases) ((quiet i).held seq is);
      quiet = λ seq is. ⊎_elim (λ below. inl below) (λ x. absurd (true≢false (sym (tests seq is x.1) ∙ fails))) ((quiet i).quiet seq is);
    }

-- ---- a join of two that have no turn

pub quiet-joined : (h : List Entry) (v w both : View) → both.settled ≡ newest v.settled w.settled → both.leases ≡ v.leases ++ w.leases
    → (v.turn ≡ true → ⊥) → (w.turn ≡ true → ⊥) → IsQuiet h v → IsQuiet h w → IsQuiet h both
quiet-joined h v w both settled leases idle other_idle quiet other_quiet i =
    quiet-at h both i (place_of (newest v.settled w.settled) i) (place_of both.settled i) (ap (λ (l : List Settled). place_of l i) settled)
    (⊎_elim
    (λ x. quiet-at h both i (place_of v.settled i) (place_of (newest v.settled w.settled) i) x (record {
      held = λ seq is. subst (IsIn (record { interval = i; seq = seq })) (sym leases)
          (in_left (record { interval = i; seq = seq }) v.leases w.leases ((quiet i).held seq is));
      quiet = λ seq is. ⊎_elim (λ below. inl below) (λ y. absurd (idle y.0)) ((quiet i).quiet seq is);
    }))
    (λ x. quiet-at h both i (place_of w.settled i) (place_of (newest v.settled w.settled) i) x (record {
      held = λ seq is. subst (IsIn (record { interval = i; seq = seq })) (sym leases)
          (in_right (record { interval = i; seq = seq }) v.leases w.leases ((other_quiet i).held seq is));
      quiet = λ seq is. ⊎_elim (λ below. inl below) (λ y. absurd (other_idle y.0)) ((other_quiet i).quiet seq is);
    }))
    (place-newest v.settled w.settled i))
