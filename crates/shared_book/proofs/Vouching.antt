-- What is settled stays vouched for as others append, what a release settles is vouched for, and what is vouched for is a
-- safe mark.
use Rattle.std.proofs.Common.{◌≡◌, ◌∙◌, ℕ, suc, ◌+◌, ◌<◌, ◌≤◌, ◌==◌, Bool, true, false, cond, true≢false, List, [], ◌∷◌, ◌++◌, length, take, refl, sym, ap, subst, arith, length-append}
use Rattle.std.specs.Prelude.{min, Option, Some, None, IfSome, get_or, slice_get}
use Rattle.std.specs.Option.{option_map_or}
use Rattle.std.proofs.lemmas.Bool.{eq-eqb, eqb-true}
use Rattle.std.proofs.lemmas.List.{take-append-le}
use Rattle.std.proofs.Math.Seq.{take-length}
use Rattle.std.proofs.lemmas.List.Elements.{All-from_recursion}
use Rattle.mw_types.specs.declared.entry.Entry.{Entry}
use Rattle.mw_types.specs.declared.entry.Entry.TheVariants.{Claim}
use Rattle.key_intervals.specs.declared.bounds.Bounds.{Bounds}
use Rattle.topology.specs.Shapes.{parts_of, feeds_of}
use Rattle.run_history.specs.Cases.{CaseShape, intervals_of}
use Rattle.run_history.specs.Runs.{Run, run_of}
use Rattle.run_history.specs.Legal.{IsLegal}
use Rattle.run_history.specs.Fences.{Begins, IsCurrent, last_claim}
use Rattle.run_history.specs.Inputs.{IsRunnable}
use Rattle.run_history.specs.Watermarks.{least}
use Rattle.run_history.specs.Marks.{own_work, IsSafe}
use Rattle.run_history.proofs.Beginnings.{Begins-length}
use Rattle.run_history.proofs.Claims.{last_claim-push}
use Rattle.history_laws.proofs.LowLaws.{rows-in_order}
use Rattle.history_laws.proofs.MarkLaws.{IsSafe-stays, work_above-rises, feeds-there, interval-there}
use Rattle.watermark.specs.Marks.{mark_of, feeding_marks}
use Rattle.book.specs.Marks.{AreSafe}
use Rattle.list_lemmas.proofs.Told.{if-anyway}
use Rattle.book.proofs.SeenRows.{told-both, told-then}
use Rattle.shared_book.specs.declared.views.Basis.{Basis}
use Rattle.shared_book.specs.declared.views.Settled.{Settled}
use Rattle.shared_book.specs.Places.{nothing, claimed_now, is_last, place_after}
use Rattle.shared_book.specs.MarksLaw.{IsVouched, IsSettled}
use Rattle.shared_book.proofs.Feeding.{inputs-under_work}

-- ---- safe marks

-- a mark below a safe one is safe
pub IsSafe-lower : (case : CaseShape) (run : Run) (b : Bounds) (x y : ℕ) → x ≤ y → IsSafe case run b y → IsSafe case run b x
IsSafe-lower case run b x y le safe = record {
  own = let own = safe.own in omega (arith, le, own);
  inputs = λ k d less. let input = safe.inputs k d less in omega (arith, le, input);
}

-- marks below safe ones are safe
pub AreSafe-lower : (case : CaseShape) (run : Run) (low marks : List ℕ) → ((interval : ℕ) → mark_of low interval ≤ mark_of marks interval)
    → AreSafe case run marks → AreSafe case run low
AreSafe-lower case run low marks under safe interval bounds at =
    IsSafe-lower case run bounds (mark_of low interval) (mark_of marks interval) (under interval) (safe interval bounds at)

-- what is at most the own work as it was settled, and at most the input mark, is a safe mark
pub vouched-safe : (case : CaseShape) (history : List Entry) (b : Bounds) (place : Settled) (x : ℕ) → IsVouched case history b place
    → x ≤ own_work case (run_of case.topology (take place.base history)) b → x ≤ place.input
    → IsSafe case (run_of case.topology history) b x
vouched-safe case history b place x vouched own input = record {
  own = let whole = vouched.own in omega (arith, whole, own, input);
  inputs = λ k d less. let whole = vouched.inputs k d less in omega (arith, whole, input);
}

-- ---- as others append

-- what is vouched for stays so as a legal history goes on
vouched-stays : (case : CaseShape) (history rest : List Entry) (i : ℕ) (b : Bounds) (place : Settled) → IsRunnable case
    → IsLegal case (history ++ rest) → place.base ≤ length history → slice_get (intervals_of case.topology) i ≡ Some b
    → IsVouched case history b place → IsVouched case (history ++ rest) b place
vouched-stays case history rest i b place runs legal within at vouched = record {
  own = subst (λ (h : List Entry). min (own_work case (run_of case.topology h) b) place.input
      ≤ own_work case (run_of case.topology (history ++ rest)) b) (sym (take-append-le place.base history rest within))
      (IsSafe-stays case history rest i b x runs legal at safe).own;
  inputs = λ k d less.
      let there : get_or feeds k d < parts_of case.topology =
      All-from_recursion (λ f. f < parts_of case.topology) feeds
      (feeds-there case b.part runs.topology (interval-there case.topology i b at)) k d less in
      let rises = work_above-rises case history rest (get_or feeds k d) runs legal there in
      let before = vouched.inputs k d less in omega (arith, rises, before);
}
  where
    feeds : List ℕ
    feeds = feeds_of case.topology b.part

    x : ℕ
    x = min (own_work case (run_of case.topology (take place.base history)) b) place.input

    safe : IsSafe case (run_of case.topology history) b x
    safe = vouched-safe case history b place x vouched (omega arith) (omega arith)

-- what is settled stays so as others append
pub settled-stays : (basis : Basis) (history rest front : List Entry) (i : ℕ) (place : Settled) → IsRunnable basis.case
    → IfSome basis.told (λ _. IsLegal basis.case (history ++ rest)) → Begins front history
    → IsSettled basis history front i place → IsSettled basis (history ++ rest) front i place
settled-stays basis history rest front i place runs legal begins settled = record {
  within = settled.within;
  last = settled.last;
  vouched = told-then basis.told
      (λ _. IsLegal basis.case (history ++ rest) × ((bounds : Bounds) → slice_get (intervals_of basis.case.topology) i ≡ Some bounds
      → IsVouched basis.case history bounds place)) _
      (told-both basis.told (λ _. IsLegal basis.case (history ++ rest)) _ legal settled.vouched)
      (λ _ p bounds at.
      let within = settled.within in let short = Begins-length front history begins in
      vouched-stays basis.case history rest i bounds place runs p.0 (omega (arith, within, short)) at (p.1 bounds at));
}

-- and as its seat sees more
pub settled-on : (basis : Basis) (history front more : List Entry) (i : ℕ) (place : Settled) → Begins front more
    → IsSettled basis history front i place → IsSettled basis history more i place
settled-on basis history front more i place begins settled = record {
  within = let within = settled.within in let short = Begins-length front more begins in omega (arith, within, short);
  last = λ seq is. subst (IsCurrent i seq)
      (sym (take-append-le place.base front begins.0 settled.within) ∙ ap (take place.base) begins.1) (settled.last seq is);
  vouched = settled.vouched;
}

-- ---- what comes to be settled

-- where the input mark is 0 nothing has to be vouched for
vouched-zero : (case : CaseShape) (history : List Entry) (b : Bounds) (place : Settled) → place.input ≡ 0 → IsVouched case history b place
vouched-zero case history b place none = record {
  own = omega (arith, none);
  inputs = λ k d less. omega (arith, none);
}

-- nothing
pub settled-nothing : (basis : Basis) (history front : List Entry) (i : ℕ) → IsSettled basis history front i nothing
settled-nothing basis history front i = record {
  within = omega arith;
  last = λ seq is. absurd (omega (arith, is));
  vouched = if-anyway basis.told _ (λ bounds at. vouched-zero basis.case history bounds nothing refl);
}

-- a new claim of an interval is the last, and nothing is to be raised under it yet
pub settled-claimed : (basis : Basis) (history : List Entry) (worker i : ℕ)
    → IsSettled basis (history ++ Claim worker i ∷ []) (history ++ Claim worker i ∷ []) i (claimed_now (length history))
settled-claimed basis history worker i = record {
  within = omega (arith, long);
  last = λ seq is.
      let same : length history ≡ seq = omega (arith, is) in
      subst (λ n. last_claim i n ≡ Some seq) (sym all) (last_claim-push i history (Claim worker i)
      ∙ ap (λ b. cond b (Some (length history)) (last_claim i history)) (eq-eqb i i refl) ∙ ap Some same);
  vouched = if-anyway basis.told _ (λ bounds at. vouched-zero basis.case whole bounds (claimed_now (length history)) refl);
}
  where
    whole : List Entry
    whole = history ++ Claim worker i ∷ []

    long : length whole ≡ length history + 1
    long = length-append history (Claim worker i ∷ [])

    all : take (suc (length history)) whole ≡ whole
    all = let same : suc (length history) ≡ length whole = omega (arith, long) in
        ap (λ n. take n whole) same ∙ take-length whole

-- where the test passes, the last claim is 1 less
is_last-seq : (o : Option ℕ) (claim seq : ℕ) → option_map_or (λ (s : ℕ). suc s == claim) o false ≡ true → claim ≡ suc seq → o ≡ Some seq
is_last-seq None claim seq passes is = absurd (true≢false (sym passes))
is_last-seq (Some s) claim seq passes is =
    let same : suc s ≡ claim = eqb-true (suc s) claim passes in ap Some (omega (arith, same, is))

-- what a release of a seat that has seen all makes of an interval is settled: where its lease is the last, nothing was
-- written since, and its input mark is the least of marks that are safe
pub settled-after : (basis : Basis) (history : List Entry) (loaded : List ℕ) (i : ℕ) (place : Settled) → IsRunnable basis.case
    → IfSome basis.told (λ _. AreSafe basis.case (run_of basis.case.topology history) loaded)
    → IsSettled basis history history i place
    → IsSettled basis history history i (place_after basis.case.topology history loaded i place)
settled-after basis history loaded i place runs safe settled = by_test (is_last i place.claim history) refl
  where
    anew : Settled
    anew = record { claim = place.claim; base = length history; input = least (feeding_marks basis.case.topology i loaded) }

    by_test : (b : Bool) → is_last i place.claim history ≡ b → IsSettled basis history history i (cond b anew place)
    by_test false _ = settled
    by_test true passes = record {
      within = omega arith;
      last = λ seq is. subst (λ h. last_claim i h ≡ Some seq) (sym (take-length history))
          (is_last-seq (last_claim i history) place.claim seq passes is);
      vouched = told-then basis.told (λ _. AreSafe basis.case (run_of basis.case.topology history) loaded) _ safe
          (λ _ each bounds at. record {
            own = subst (λ (h : List Entry). min (own_work basis.case (run_of basis.case.topology h) bounds) anew.input
                ≤ own_work basis.case (run_of basis.case.topology history) bounds) (sym (take-length history)) (omega arith);
            inputs = inputs-under_work basis.case (run_of basis.case.topology history) loaded i bounds runs
                (rows-in_order basis.case.topology history) each at;
          });
    }
