-- Input marks that are settled stay so while no loaded mark changes and nothing is claimed: as more of the history is
-- seen, none of a seat's claims comes to be the last of its interval.
use Rattle.std.proofs.Common.{◌≡◌, ◌∙◌, ℕ, zero, suc, ◌<◌, ◌≤◌, ◌==◌, Bool, true, false, true≢false, cond, List, [], ◌∷◌, ◌++◌, length, take, refl, sym, ap, subst, arith, eq-eqb}
use Rattle.std.specs.Prelude.{None, Option, Some, slice_index}
use Rattle.std.specs.Option.{option_map_or}
use Rattle.std.proofs.lemmas.Bool.{eqb-true}
use Rattle.std.proofs.lemmas.List.{length-take}
use Rattle.mw_types.specs.declared.entry.Entry.{Entry}
use Rattle.topology.specs.Shapes.{Shape}
use Rattle.run_history.specs.Fences.{Begins, last_claim, sequencer_of}
use Rattle.run_history.specs.Watermarks.{least}
use Rattle.run_history.proofs.Claims.{last_claim-front, last_claim-within}
use Rattle.watermark.specs.Marks.{feeding_marks}
use Rattle.shared_book.specs.declared.views.Settled.{Settled}
use Rattle.shared_book.specs.declared.views.View.{View}
use Rattle.shared_book.specs.Places.{PLACES, claims_of, is_last, place_of}
use Rattle.shared_book.specs.Settling.{AreSettled, AreSettledTo}
use Rattle.shared_book.specs.Steps.{HasSeenSettled, IsSettledSeen}
use Rattle.shared_book.proofs.Arrays.{array-place}
use Rattle.shared_book.proofs.Histories.{last_claim-carried}

-- ---- as more is seen

-- where no claim comes to be the last, what is settled stays so
settled-where : (shape : Shape) (old new : List Entry) (loaded claims inputs : List ℕ)
    → ((k : ℕ) → is_last k (slice_index claims k) new ≡ true → is_last k (slice_index claims k) old ≡ true)
    → AreSettled shape old loaded claims inputs → AreSettled shape new loaded claims inputs
settled-where shape old new loaded claims inputs before has k there =
    by_test (is_last k (slice_index claims k) new) (is_last k (slice_index claims k) old) (before k) (has k there)
  where
    fed : ℕ
    fed = least (feeding_marks shape k loaded)

    by_test : (now was : Bool) → (now ≡ true → was ≡ true) → cond was fed (slice_index inputs k) ≡ slice_index inputs k
        → cond now fed (slice_index inputs k) ≡ slice_index inputs k
    by_test false was before is = refl
    by_test true true before is = is
    by_test true false before is = absurd (true≢false (sym (before refl)))

-- the number of a claim that is the last
last-number : (o : Option ℕ) (claim : ℕ) → option_map_or (λ (seq : ℕ). suc seq == claim) o false ≡ true
    → (seq : ℕ) × (o ≡ Some seq) × (suc seq ≡ claim)
last-number None claim passes = absurd (true≢false (sym passes))
last-number (Some seq) claim passes = (seq, refl, eqb-true (suc seq) claim passes)

-- a claim that a beginning has, and that is the last of the history, is the last of the beginning
last-before : (k claim : ℕ) (front history : List Entry) → Begins front history → claim ≤ length front → is_last k claim history ≡ true
    → is_last k claim front ≡ true
last-before k claim front history begins within passes =
    let last = last-number (last_claim k history) claim passes in
    let below : last.0 < length front = let is = last.2 in omega (arith, is, within) in
    ap (λ o. option_map_or (λ (seq : ℕ). suc seq == claim) o false)
    (last_claim-front k last.0 front begins.0 (ap (last_claim k) begins.1 ∙ last.1) below)
    ∙ eq-eqb (suc last.0) claim last.2

-- what a seat settled, it had seen claimed
claim-seen : (v : View) (k : ℕ) (place : Settled) → IsSettledSeen v k place → place.claim ≤ length v.front
claim-seen v k place seen = by_claim place.claim refl
  where
    by_claim : (claim : ℕ) → place.claim ≡ claim → claim ≤ length v.front
    by_claim zero is = omega arith
    by_claim (suc seq) is =
        let below = last_claim-within k seq (take place.base v.front) (seen.last seq is) in
        let few = length-take place.base v.front in
        omega (arith, below, few)

-- so as a seat without the turn comes to see more, what is settled stays so
pub settled-longer : (v : View) (history : List Entry) (loaded claims inputs : List ℕ) → claims ≡ claims_of v → HasSeenSettled v
    → Begins v.front history → AreSettled v.basis.case.topology v.front loaded claims inputs
    → AreSettled v.basis.case.topology history loaded claims inputs
settled-longer v history loaded claims inputs claimed seen begins =
    settled-where v.basis.case.topology v.front history loaded claims inputs
    (λ k. last-before k (slice_index claims k) v.front history begins
    (subst (λ (claim : ℕ). claim ≤ length v.front) (sym (array-place (λ (p : Settled). p.claim) refl claims v.settled k claimed))
    (claim-seen v k (place_of v.settled k) (seen k))))

-- and as an entry is appended that is no claim
pub settled-carried : (shape : Shape) (front : List Entry) (entry : Entry) (seq : ℕ) (loaded claims inputs : List ℕ)
    → sequencer_of entry ≡ Some seq → AreSettled shape front loaded claims inputs
    → AreSettled shape (front ++ entry ∷ []) loaded claims inputs
settled-carried shape front entry seq loaded claims inputs carries =
    settled-where shape front (front ++ entry ∷ []) loaded claims inputs
    (λ k passes. sym (ap (λ o. option_map_or (λ (seq : ℕ). suc seq == slice_index claims k) o false) (last_claim-carried k seq front entry carries)) ∙ passes)

-- ---- a release

-- what was settled anew is settled
pub settled-anew : (shape : Shape) (history : List Entry) (loaded claims old new : List ℕ)
    → AreSettledTo shape history loaded claims old PLACES new → AreSettled shape history loaded claims new
settled-anew shape history loaded claims old new so k there =
    by_test (is_last k (slice_index claims k) history) (so.done k there)
  where
    fed : ℕ
    fed = least (feeding_marks shape k loaded)

    by_test : (b : Bool) → slice_index new k ≡ cond b fed (slice_index old k) → cond b fed (slice_index new k) ≡ slice_index new k
    by_test true is = sym is
    by_test false is = refl

-- and what is settled is so anew, as it is
pub settled-kept : (shape : Shape) (history : List Entry) (loaded claims inputs : List ℕ) → AreSettled shape history loaded claims inputs
    → AreSettledTo shape history loaded claims inputs PLACES inputs
settled-kept shape history loaded claims inputs has = record {
  long = refl;
  done = λ k below. sym (has k below);
  rest = λ k past. refl;
}
