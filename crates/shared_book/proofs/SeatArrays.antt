-- What a seat keeps in its arrays is what its view has, where a call leaves that as it was.
use Rattle.std.proofs.Common.{◌≡◌, ◌∙◌, ℕ, suc, ◌<◌, Bool, true, false, true≢false, List, [], ◌∷◌, ◌++◌, length, map, sym, ap, subst, ⊎_elim}
use Rattle.std.specs.Prelude.{slice_set}
use Rattle.std.proofs.lemmas.List.{length-map, length-set}
use Rattle.mw_types.specs.declared.entry.Entry.{Entry}
use Rattle.book.specs.Books.{LeaseView}
use Rattle.run_history.specs.Cases.{intervals_of}
use Rattle.shared_book.specs.declared.views.Basis.{Basis}
use Rattle.shared_book.specs.declared.views.Settled.{Settled}
use Rattle.shared_book.specs.declared.views.View.{View}
use Rattle.shared_book.specs.Places.{AreThere, HasAllPlaces, PLACES, claimed_now, claims_of, inputs_of, with_mark_loaded}
use Rattle.shared_book.specs.Settling.{AreSettled}
use Rattle.shared_book.proofs.Arrays.{map-set_place}
use Rattle.shared_book.proofs.Lists.{in_append}

-- arrays that are those of a view, and whether the input marks are settled
pub record HasArrays (v : View) (settled : Bool) (marks claims inputs : List ℕ) : Type 0 where
  pub loaded : marks ≡ v.marks
  pub claimed : claims ≡ claims_of v
  pub fed : inputs ≡ inputs_of v
  pub long : HasAllPlaces v
  pub there : AreThere v.basis.case.topology v.leases
  pub current : settled ≡ true → AreSettled v.basis.case.topology v.front marks claims inputs

-- they stay so where nothing was loaded, settled or claimed, and what is settled is so by what is seen now
pub arrays-moved : (v w : View) (settled : Bool) (marks claims inputs : List ℕ) → w.basis ≡ v.basis → w.marks ≡ v.marks → w.settled ≡ v.settled
    → w.leases ≡ v.leases
    → (AreSettled v.basis.case.topology v.front marks claims inputs → AreSettled v.basis.case.topology w.front marks claims inputs)
    → HasArrays v settled marks claims inputs → HasArrays w settled marks claims inputs
arrays-moved v w settled marks claims inputs basis loaded places leases moved has = record {
  loaded = has.loaded ∙ sym loaded;
  claimed = has.claimed ∙ sym (ap (map (λ (p : Settled). p.claim)) places);
  fed = has.fed ∙ sym (ap (map (λ (p : Settled). p.input)) places);
  long = record { marks = ap length loaded ∙ has.long.marks; settled = ap length places ∙ has.long.settled };
  there = subst (λ (z : Basis × List LeaseView). AreThere z.0.case.topology z.1) (λ i. (sym basis i, sym leases i)) has.there;
  current = λ is. subst (λ (b : Basis). AreSettled b.case.topology w.front marks claims inputs) (sym basis) (moved (has.current is));
}

-- or where no more was seen
pub arrays-same : (v w : View) (settled : Bool) (marks claims inputs : List ℕ) → w.basis ≡ v.basis → w.marks ≡ v.marks → w.settled ≡ v.settled
    → w.leases ≡ v.leases → w.front ≡ v.front → HasArrays v settled marks claims inputs → HasArrays w settled marks claims inputs
arrays-same v w settled marks claims inputs basis loaded places leases front =
    arrays-moved v w settled marks claims inputs basis loaded places leases
    (subst (λ (h : List Entry). AreSettled v.basis.case.topology h marks claims inputs) (sym front))

-- where a lease was claimed, its place is as the claim makes it
pub arrays-claimed : (v w : View) (settled : Bool) (marks claims inputs : List ℕ) (interval seq : ℕ) → w.basis ≡ v.basis → w.marks ≡ v.marks
    → w.settled ≡ slice_set v.settled interval (claimed_now seq)
    → w.leases ≡ v.leases ++ record { interval = interval; seq = seq } ∷ [] → interval < PLACES
    → interval < length (intervals_of v.basis.case.topology)
    → HasArrays v settled marks claims inputs → HasArrays w false marks (slice_set claims interval (suc seq)) (slice_set inputs interval 0)
arrays-claimed v w settled marks claims inputs interval seq basis loaded places leases within here has = record {
  loaded = has.loaded ∙ sym loaded;
  claimed = ap (λ (l : List ℕ). slice_set l interval (suc seq)) has.claimed
      ∙ sym (map-set_place (λ (p : Settled). p.claim) v.settled interval (claimed_now seq))
      ∙ sym (ap (map (λ (p : Settled). p.claim)) places);
  fed = ap (λ (l : List ℕ). slice_set l interval 0) has.fed
      ∙ sym (map-set_place (λ (p : Settled). p.input) v.settled interval (claimed_now seq))
      ∙ sym (ap (map (λ (p : Settled). p.input)) places);
  long = record {
    marks = ap length loaded ∙ has.long.marks;
    settled = ap length places ∙ length-set v.settled interval (claimed_now seq) ∙ has.long.settled;
  };
  there = subst (λ (z : Basis × List LeaseView). AreThere z.0.case.topology z.1) (λ i. (sym basis i, sym leases i))
      (λ lease held. ⊎_elim (has.there lease)
      (⊎_elim (λ is. subst (λ (l : LeaseView). (l.interval < PLACES) × (l.interval < length (intervals_of v.basis.case.topology))) (sym is)
      (within, here)) (λ none. absurd none))
      (in_append lease v.leases (record { interval = interval; seq = seq } ∷ []) held));
  current = λ is. absurd (true≢false (sym is));
}

-- as many claims as places
pub claims-long : (v : View) (settled : Bool) (marks claims inputs : List ℕ) → HasArrays v settled marks claims inputs → length claims ≡ 61
claims-long v settled marks claims inputs has =
    ap length has.claimed ∙ length-map v.settled (λ (p : Settled). p.claim) ∙ has.long.settled

-- and as many input marks
pub inputs-long : (v : View) (settled : Bool) (marks claims inputs : List ℕ) → HasArrays v settled marks claims inputs → length inputs ≡ 61
inputs-long v settled marks claims inputs has =
    ap length has.fed ∙ length-map v.settled (λ (p : Settled). p.input) ∙ has.long.settled

-- and as many marks
pub marks-long : (v : View) (settled : Bool) (marks claims inputs : List ℕ) → HasArrays v settled marks claims inputs → length marks ≡ 61
marks-long v settled marks claims inputs has = ap length has.loaded ∙ has.long.marks

-- where a mark was loaded, it is as it was loaded, and what was settled stays so where the marks are the same
pub arrays-marked : (v w : View) (was settled : Bool) (marks claims inputs : List ℕ) (interval mark : ℕ) (new : List ℕ)
    → w ≡ with_mark_loaded v interval mark → new ≡ slice_set marks interval mark → (settled ≡ true → new ≡ marks) → (settled ≡ true → was ≡ true)
    → HasArrays v was marks claims inputs → HasArrays w settled new claims inputs
arrays-marked v w was settled marks claims inputs interval mark new is set same stays has = record {
  loaded = set ∙ ap (λ (l : List ℕ). slice_set l interval mark) has.loaded ∙ sym (ap (λ (u : View). u.marks) is);
  claimed = has.claimed ∙ sym (ap claims_of is);
  fed = has.fed ∙ sym (ap inputs_of is);
  long = record {
    marks = ap (λ (u : View). length u.marks) is ∙ length-set v.marks interval mark ∙ has.long.marks;
    settled = ap (λ (u : View). length u.settled) is ∙ has.long.settled;
  };
  there = subst (λ (u : View). AreThere u.basis.case.topology u.leases) (sym is) has.there;
  current = λ yes. subst (λ (z : View × List ℕ). AreSettled z.0.basis.case.topology z.0.front z.1 claims inputs)
      (λ i. (sym is i, sym (same yes) i)) (has.current (stays yes));
}
