-- The arrays of a seat that took in another are those of its view.
use Rattle.std.proofs.Common.{◌≡◌, ◌∙◌, ℕ, Bool, false, true≢false, List, cond, drop, length, map, refl, sym, ap, subst, ⊎_elim}
use Rattle.std.specs.Prelude.{max, nat_lt, slice_index}
use Rattle.run_history.specs.Cases.{CaseShape}
use Rattle.shared_book.specs.declared.views.Settled.{Settled}
use Rattle.shared_book.specs.declared.views.View.{View}
use Rattle.shared_book.specs.Joins.{joined, note_of}
use Rattle.shared_book.specs.Places.{AreThere, greatest}
use Rattle.shared_book.specs.Settling.{IsFilledTo}
use Rattle.shared_book.specs.Steps.{HasSeenSettled}
use Rattle.shared_book.proofs.Filling.{array-greatest, array-newest, length-greatest, length-newest}
use Rattle.shared_book.proofs.Joining.{met_leases, met_marks, met_settled}
use Rattle.shared_book.proofs.Lists.{in_append}
use Rattle.shared_book.proofs.SeatArrays.{HasArrays, arrays-moved, claims-long, inputs-long, marks-long}
use Rattle.shared_book.proofs.Staying.{settled-longer}

-- of each two marks the greater, and of each two leases of an interval the newer
pub arrays-joined : (v w m : View) (settled other_settled : Bool) (marks claims inputs other_marks other_claims other_inputs new_marks new_claims new_inputs : List ℕ)
    → m ≡ joined v w → w.basis.case ≡ v.basis.case → HasArrays v settled marks claims inputs → HasArrays w other_settled other_marks other_claims other_inputs
    → IsFilledTo (λ k. max (slice_index marks k) (slice_index other_marks k)) marks 61 new_marks
    → IsFilledTo (λ k. cond (nat_lt (slice_index claims k) (slice_index other_claims k)) (slice_index other_claims k)
    (slice_index claims k)) claims 61 new_claims
    → IsFilledTo (λ k. cond (nat_lt (slice_index claims k) (slice_index other_claims k)) (slice_index other_inputs k)
    (slice_index inputs k)) inputs 61 new_inputs
    → HasArrays m false new_marks new_claims new_inputs
arrays-joined v w m settled other_settled marks claims inputs other_marks other_claims other_inputs new_marks new_claims new_inputs is case has other_has
    greater newer fed = record {
      loaded = array-greatest marks other_marks new_marks 61 a b greater
          ∙ (λ i. greatest (has.loaded i) (other_has.loaded i)) ∙ sym (ap (λ (u : View). u.marks) is);
      claimed = array-newest (λ (p : Settled). p.claim) refl v.settled w.settled claims other_claims claims other_claims new_claims 61
          has.claimed other_has.claimed has.claimed other_has.claimed d e newer
          ∙ sym (ap (λ (u : View). map (λ (p : Settled). p.claim) u.settled) is);
      fed = array-newest (λ (p : Settled). p.input) refl v.settled w.settled claims other_claims inputs other_inputs new_inputs 61
          has.claimed other_has.claimed has.fed other_has.fed f h fed
          ∙ sym (ap (λ (u : View). map (λ (p : Settled). p.input) u.settled) is);
      long = record {
        marks = ap (λ (u : View). length u.marks) is ∙ length-greatest v.marks w.marks (has.long.marks ∙ sym other_has.long.marks) ∙ has.long.marks;
        settled = ap (λ (u : View). length u.settled) is
            ∙ length-newest v.settled w.settled (has.long.settled ∙ sym other_has.long.settled) ∙ has.long.settled;
      };
      there = subst (λ (u : View). AreThere u.basis.case.topology u.leases) (sym is) (λ lease held. ⊎_elim (has.there lease)
          (subst (λ (k : CaseShape). AreThere k.topology w.leases) case other_has.there lease)
          (in_append lease v.leases w.leases held));
      current = λ yes. absurd (true≢false (sym yes));
    }
  where
    a : length marks ≡ 61
    a = marks-long v settled marks claims inputs has

    b : length other_marks ≡ 61
    b = marks-long w other_settled other_marks other_claims other_inputs other_has

    d : length claims ≡ 61
    d = claims-long v settled marks claims inputs has

    e : length other_claims ≡ 61
    e = claims-long w other_settled other_marks other_claims other_inputs other_has

    f : length inputs ≡ 61
    f = inputs-long v settled marks claims inputs has

    h : length other_inputs ≡ 61
    h = inputs-long w other_settled other_marks other_claims other_inputs other_has

-- a note leaves them as they were
pub arrays-met : (v w m : View) (settled : Bool) (marks claims inputs : List ℕ) → w ≡ note_of w → m ≡ joined v w → HasSeenSettled v → HasArrays v settled marks claims inputs
    → HasArrays m settled marks claims inputs
arrays-met v w m settled marks claims inputs bare is seen has = arrays-moved v m settled marks claims inputs (ap (λ (u : View). u.basis) is)
    (ap (λ (u : View). u.marks) is ∙ met_marks v w bare) (ap (λ (u : View). u.settled) is ∙ met_settled v w bare)
    (ap (λ (u : View). u.leases) is ∙ met_leases v w bare)
    (settled-longer v m.front marks claims inputs has.claimed seen
    (drop (length v.front) w.front, sym (ap (λ (u : View). u.front) is))) has
