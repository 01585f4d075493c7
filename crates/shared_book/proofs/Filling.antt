-- Input marks that are settled one after the other are those of what a release settles.
use Rattle.std.proofs.Common.{◌≡◌, ◌∙◌, ℕ, zero, suc, ◌+◌, ◌<◌, ◌≤◌, ◌==◌, Bool, true, false, true≢false, cond, List, [], ◌∷◌, ◌++◌, drop, length, map, replicate, take, get_or, refl, sym, ap, arith}
use Rattle.std.specs.Prelude.{max, nat_lt, unwrap_or, None, Option, Some, slice_get, slice_index, slice_set}
use Rattle.std.specs.List.{cons_option, list_any}
use Rattle.std.specs.Option.{option_map_or}
use Rattle.std.proofs.lemmas.Bool.{eqb-true}
use Rattle.std.proofs.lemmas.Grind.{same_number_lists}
use Rattle.std.proofs.lemmas.Option.{slice_get_past}
use Rattle.std.proofs.lemmas.List.{length-take, length-map, length-set, get_or-set_same, get_or-set_other}
use mathlib.Core.Logic.{dite}
use native.Mathlib.Decide.{ℕ_discrete, dec_lt}
use Rattle.mw_types.specs.declared.entry.Entry.{Entry}
use Rattle.key_intervals.specs.declared.bounds.Bounds.{Bounds}
use Rattle.topology.specs.Shapes.{Shape, feeds_of}
use Rattle.run_history.specs.Cases.{intervals_of}
use Rattle.run_history.specs.Fences.{last_claim}
use Rattle.run_history.specs.Watermarks.{least}
use Rattle.watermark.specs.Marks.{feeding_marks, mark_of, numbers_in}
use Rattle.shared_book.specs.declared.views.Settled.{Settled}
use Rattle.shared_book.specs.Places.{greatest, newer, newest, nothing, place_of, place_after, places_after, is_last}
use Rattle.shared_book.specs.Settling.{AreSettledTo, IsFilledTo, input_after}
use Rattle.shared_book.proofs.Arrays.{index-mapped, array-place}
use Rattle.shared_book.proofs.Places.{mark-none, mark-zero, place-none}

-- ---- numbers that are set one after the other

-- before the first
pub filled-none : (made : ℕ → ℕ) (old : List ℕ) → IsFilledTo made old 0 old
filled-none made old = record {
  long = refl;
  done = λ k below. absurd (omega (arith, below));
  rest = λ k past. refl;
}

-- one more
pub filled-next : (made : ℕ → ℕ) (old new : List ℕ) (at x : ℕ) → at < length old → x ≡ made at → IsFilledTo made old at new
    → IsFilledTo made old (at + 1) (slice_set new at x)
filled-next made old new at x within is so = record {
  long = length-set new at x ∙ so.long;
  done = λ k below. dite (ℕ_discrete k at)
      (λ same. ap (λ j. slice_index (slice_set new at x) j) same
      ∙ get_or-set_same new at x 0 (let long = so.long in omega (arith, within, long)) ∙ is ∙ ap made (sym same))
      (λ differs. get_or-set_other new at k x 0 differs ∙ so.done k (omega (arith, below, differs)));
  rest = λ k past. get_or-set_other new at k x 0 (λ same. absurd (omega (arith, past, same))) ∙ so.rest k (omega (arith, past));
}

-- all of them
pub filled-all : (made : ℕ → ℕ) (old new : List ℕ) (n : ℕ) (all : List ℕ) → IsFilledTo made old n new → length old ≡ n
    → length all ≡ n → ((k : ℕ) → k < n → slice_index all k ≡ made k) → new ≡ all
filled-all made old new n all so long as_long each = same_number_lists new all (so.long ∙ long ∙ sym as_long)
    (λ k below. let same = so.long in let within : k < n = omega (arith, below, same, long) in so.done k within ∙ sym (each k within))

-- ---- a release

-- there are as many places after a release
pub length-after : (shape : Shape) (history : List Entry) (loaded : List ℕ) (from : ℕ) (places : List Settled)
    → length (places_after shape history loaded from places) ≡ length places
length-after shape history loaded from [] = refl
length-after shape history loaded from (p ∷ ps) = ap suc (length-after shape history loaded (suc from) ps)

-- and each that is there is what the release makes of it
after-here : (shape : Shape) (history : List Entry) (loaded : List ℕ) (from : ℕ) (places : List Settled) (k : ℕ) → k < length places
    → place_of (places_after shape history loaded from places) k ≡ place_after shape history loaded (from + k) (place_of places k)
after-here shape history loaded from [] k below = absurd (omega (arith, below))
after-here shape history loaded from (p ∷ ps) zero below =
    let same : from + 0 ≡ from = omega arith in ap (λ n. place_after shape history loaded n p) (sym same)
after-here shape history loaded from (p ∷ ps) (suc k) below =
    let next : suc from + k ≡ from + suc k = omega arith in
    after-here shape history loaded (suc from) ps k (omega (arith, below)) ∙ ap (λ n. place_after shape history loaded n (place_of ps k)) next

-- its input mark
input-of_place : (shape : Shape) (history : List Entry) (loaded : List ℕ) (k : ℕ) (p : Settled)
    → (place_after shape history loaded k p).input ≡ input_after shape history loaded k p.claim p.input
input-of_place shape history loaded k p = by_test (is_last k p.claim history)
  where
    least_of : ℕ
    least_of = least (feeding_marks shape k loaded)

    anew : Settled
    anew = record { claim = p.claim; base = length history; input = least_of }

    by_test : (b : Bool) → (cond b anew p).input ≡ cond b least_of p.input
    by_test true = refl
    by_test false = refl

-- and its claim is what it was
claim-of_place : (shape : Shape) (history : List Entry) (loaded : List ℕ) (k : ℕ) (p : Settled)
    → (place_after shape history loaded k p).claim ≡ p.claim
claim-of_place shape history loaded k p = by_test (is_last k p.claim history)
  where
    anew : Settled
    anew = record {
      claim = p.claim;
      base = length history;
      input = least (feeding_marks shape k loaded);
    }

    by_test : (b : Bool) → (cond b anew p).claim ≡ p.claim
    by_test true = refl
    by_test false = refl

-- a release leaves each claim
pub claims-stay : (shape : Shape) (history : List Entry) (loaded : List ℕ) (from : ℕ) (places : List Settled)
    → map (λ (p : Settled). p.claim) (places_after shape history loaded from places) ≡ map (λ (p : Settled). p.claim) places
claims-stay shape history loaded from [] = refl
claims-stay shape history loaded from (p ∷ ps) =
    λ i. claim-of_place shape history loaded from p i ∷ claims-stay shape history loaded (suc from) ps i

-- once all are settled, the array has the input marks of what the release settles
pub inputs-settled : (shape : Shape) (history : List Entry) (loaded claims old new : List ℕ) (n : ℕ) (places : List Settled)
    → AreSettledTo shape history loaded claims old n new → length old ≡ n
    → claims ≡ map (λ (p : Settled). p.claim) places → old ≡ map (λ (p : Settled). p.input) places
    → new ≡ map (λ (p : Settled). p.input) (places_after shape history loaded 0 places)
inputs-settled shape history loaded claims old new n places so long is fed =
    filled-all (λ k. input_after shape history loaded k (slice_index claims k) (slice_index old k)) old new n (map input_of after) so long
    (length-map after input_of ∙ length-after shape history loaded 0 places ∙ all)
    (λ k below.
    index-mapped input_of refl after k ∙ ap input_of (here k (omega (arith, below, all)))
    ∙ input-of_place shape history loaded k (place_of places k)
    ∙ (λ i. input_after shape history loaded k (sym (array-place claim_of refl claims places k is) i)
    (sym (array-place input_of refl old places k fed) i)))
  where
    claim_of : Settled → ℕ
    claim_of p = p.claim

    input_of : Settled → ℕ
    input_of p = p.input

    after : List Settled
    after = places_after shape history loaded 0 places

    all : length places ≡ n
    all = sym (length-map places input_of) ∙ sym (ap length fed) ∙ long

    here : (k : ℕ) → k < length places → place_of after k ≡ place_after shape history loaded k (place_of places k)
    here k within =
        let same : 0 + k ≡ k = omega arith in
        after-here shape history loaded 0 places k within
        ∙ ap (λ m. place_after shape history loaded m (place_of places k)) same

-- without a claim none is the last, and the input mark is what it was
pub input-unclaimed : (shape : Shape) (history : List Entry) (loaded : List ℕ) (k claim input : ℕ) → claim ≡ 0
    → input ≡ input_after shape history loaded k claim input
input-unclaimed shape history loaded k claim input none = by_last (last_claim k history)
  where
    fed : ℕ
    fed = least (feeding_marks shape k loaded)

    by_test : (seq : ℕ) (b : Bool) → (suc seq == claim) ≡ b → input ≡ cond b fed input
    by_test seq true same = let is = eqb-true (suc seq) claim same in absurd (omega (arith, is, none))
    by_test seq false other = refl

    by_last : (o : Option ℕ) → input ≡ cond (option_map_or (λ (seq : ℕ). suc seq == claim) o false) fed input
    by_last None = refl
    by_last (Some seq) = by_test seq (suc seq == claim) refl

-- ---- a join

-- there are as many
pub length-greatest : (xs ys : List ℕ) → length xs ≡ length ys → length (greatest xs ys) ≡ length xs
length-greatest [] ys same = sym same
length-greatest (x ∷ xs) [] same = refl
length-greatest (x ∷ xs) (y ∷ ys) same = ap suc (length-greatest xs ys (omega (arith, same)))

-- each is the greater
index-greatest : (xs ys : List ℕ) (k : ℕ) → length xs ≡ length ys
    → get_or (greatest xs ys) k 0 ≡ max (get_or xs k 0) (get_or ys k 0)
index-greatest [] [] zero same = refl
index-greatest [] [] (suc k) same = refl
index-greatest [] (y ∷ ys) k same = absurd (omega (arith, same))
index-greatest (x ∷ xs) [] k same = absurd (omega (arith, same))
index-greatest (x ∷ xs) (y ∷ ys) zero same = refl
index-greatest (x ∷ xs) (y ∷ ys) (suc k) same = index-greatest xs ys k (omega (arith, same))

-- of each two numbers the greater is in the array
pub array-greatest : (one other new : List ℕ) (n : ℕ) → length one ≡ n → length other ≡ n
    → IsFilledTo (λ k. max (slice_index one k) (slice_index other k)) one n new → new ≡ greatest one other
array-greatest one other new n long as_long so =
    let same : length one ≡ length other = omega (arith, long, as_long) in
    filled-all (λ k. max (slice_index one k) (slice_index other k)) one new n (greatest one other) so long
    (length-greatest one other same ∙ long) (λ k below. index-greatest one other k same)

-- there are as many
pub length-newest : (ps qs : List Settled) → length ps ≡ length qs → length (newest ps qs) ≡ length ps
length-newest [] qs same = sym same
length-newest (p ∷ ps) [] same = refl
length-newest (p ∷ ps) (q ∷ qs) same = ap suc (length-newest ps qs (omega (arith, same)))

-- a number of the newer of two is that of the one or of the other
of-newer : (f : Settled → ℕ) (p q : Settled) → f (newer p q) ≡ cond (nat_lt p.claim q.claim) (f q) (f p)
of-newer f p q = by_test (nat_lt p.claim q.claim)
  where
    by_test : (b : Bool) → f (cond b q p) ≡ cond b (f q) (f p)
    by_test true = refl
    by_test false = refl

-- each place is the newer
place-newer : (ps qs : List Settled) (k : ℕ) → length ps ≡ length qs → place_of (newest ps qs) k ≡ newer (place_of ps k) (place_of qs k)
place-newer [] [] k same = place-none k ∙ ap (λ p. newer p p) (sym (place-none k))
place-newer [] (q ∷ qs) k same = absurd (omega (arith, same))
place-newer (p ∷ ps) [] k same = absurd (omega (arith, same))
place-newer (p ∷ ps) (q ∷ qs) zero same = refl
place-newer (p ∷ ps) (q ∷ qs) (suc k) same = place-newer ps qs k (omega (arith, same))

-- of each two places a number of the newer is in the array
pub array-newest : (f : Settled → ℕ) → f nothing ≡ 0 → (ps qs : List Settled) (claims other_claims one other new : List ℕ) (n : ℕ)
    → claims ≡ map (λ (p : Settled). p.claim) ps → other_claims ≡ map (λ (p : Settled). p.claim) qs
    → one ≡ map f ps → other ≡ map f qs → length one ≡ n → length other ≡ n
    → IsFilledTo (λ k. cond (nat_lt (slice_index claims k) (slice_index other_claims k)) (slice_index other k) (slice_index one k)) one n new
    → new ≡ map f (newest ps qs)
array-newest f none ps qs claims other_claims one other new n is other_is has other_has long as_long so =
    filled-all (λ k. cond (nat_lt (slice_index claims k) (slice_index other_claims k)) (slice_index other k) (slice_index one k)) one new n
    (map f (newest ps qs)) so long (length-map (newest ps qs) f ∙ length-newest ps qs same ∙ all)
    (λ k below. index-mapped f none (newest ps qs) k ∙ ap f (place-newer ps qs k same) ∙ of-newer f (place_of ps k) (place_of qs k)
    ∙ (λ i. cond (nat_lt (sym (array-place (λ p. p.claim) refl claims ps k is) i) (sym (array-place (λ p. p.claim) refl other_claims qs k other_is) i))
    (sym (array-place f none other qs k other_has) i) (sym (array-place f none one ps k has) i)))
  where
    all : length ps ≡ n
    all = sym (length-map ps f) ∙ sym (ap length has) ∙ long

    as_all : length qs ≡ n
    as_all = sym (length-map qs f) ∙ sym (ap length other_has) ∙ as_long

    same : length ps ≡ length qs
    same = omega (arith, all, as_all)

-- ---- the marks that feed an interval

-- where the last claim is 1 less than a number, there is one
pub last-some : (o : Option ℕ) (claim : ℕ) → option_map_or (λ (seq : ℕ). suc seq == claim) o false ≡ true → (seq : ℕ) × (o ≡ Some seq)
last-some None claim passes = absurd (true≢false (sym passes))
last-some (Some seq) claim passes = (seq, refl)

-- a mark of the first so many is the one there
pub mark-front : (n k : ℕ) (marks : List ℕ) → k < n → mark_of (take n marks) k ≡ mark_of marks k
mark-front zero k marks below = absurd (omega (arith, below))
mark-front (suc n) k [] below = refl
mark-front (suc n) zero (m ∷ ms) below = refl
mark-front (suc n) (suc k) (m ∷ ms) below = mark-front n k ms (omega (arith, below))

-- and none is above what it was
pub mark-front_le : (n k : ℕ) (marks : List ℕ) → mark_of (take n marks) k ≤ mark_of marks k
mark-front_le zero k marks = let none = mark-none k in omega (arith, none)
mark-front_le (suc n) k [] = omega arith
mark-front_le (suc n) zero (m ∷ ms) = omega arith
mark-front_le (suc n) (suc k) (m ∷ ms) = mark-front_le n k ms

-- of an interval that is not there the mark is 0
mark-past : (marks : List ℕ) (k : ℕ) → length marks ≤ k → mark_of marks k ≡ 0
mark-past marks k past = ap (λ o. unwrap_or o 0) (slice_get_past marks k past)

-- where no mark falls, none of the first so many does
pub rise-front : (n : ℕ) (old new : List ℕ) → ((k : ℕ) → mark_of old k ≤ mark_of new k)
    → (k : ℕ) → mark_of (take n old) k ≤ mark_of (take n new) k
rise-front n old new rises k = dite (dec_lt k n)
    (λ below. let one = mark-front n k old below in let two = mark-front n k new below in let rise = rises k in omega (arith, one, two, rise))
    (λ past. let few = length-take n old in let none = mark-past (take n old) k (omega (arith, few, past)) in omega (arith, none))

-- the marks of some intervals are among the first so many
numbers-front : (parts : List ℕ) (from n : ℕ) (all : List Bounds) (marks : List ℕ) → from + length all ≤ n
    → map (mark_of (take n marks)) (numbers_in parts from all) ≡ map (mark_of marks) (numbers_in parts from all)
numbers-front parts from n [] marks room = refl
numbers-front parts from n (b ∷ bs) marks room =
    by_test (list_any (λ part. part == b.part) parts) (numbers-front parts (from + 1) n bs marks (omega (arith, room)))
  where
    by_test : (t : Bool)
        → map (mark_of (take n marks)) (numbers_in parts (from + 1) bs) ≡ map (mark_of marks) (numbers_in parts (from + 1) bs)
        → map (mark_of (take n marks)) (cons_option (cond t (Some from) None) (numbers_in parts (from + 1) bs))
        ≡ map (mark_of marks) (cons_option (cond t (Some from) None) (numbers_in parts (from + 1) bs))
    by_test true later = λ i. mark-front n from marks (omega (arith, room)) i ∷ later i
    by_test false later = later

-- so the marks that feed an interval are those of as many as there are intervals
pub feeding-front : (shape : Shape) (interval n : ℕ) (marks : List ℕ) → n ≡ length (intervals_of shape)
    → feeding_marks shape interval (take n marks) ≡ feeding_marks shape interval marks
feeding-front shape interval n marks all = by_place (slice_get (intervals_of shape) interval)
  where
    numbers : Option Bounds → List ℕ
    numbers o = option_map_or (λ (b : Bounds). numbers_in (feeds_of shape b.part) 0 (intervals_of shape)) o []

    by_place : (o : Option Bounds) → map (mark_of (take n marks)) (numbers o) ≡ map (mark_of marks) (numbers o)
    by_place None = refl
    by_place (Some b) = numbers-front (feeds_of shape b.part) 0 n (intervals_of shape) marks (omega (arith, all))

-- ---- marks with 0 behind them

mark-behind : (n k i : ℕ) → mark_of (drop k (replicate n 0)) i ≡ 0
mark-behind n zero i = mark-zero n i
mark-behind zero (suc k) i = mark-none i
mark-behind (suc n) (suc k) i = mark-behind n k i

mark-before : (xs ys : List ℕ) (i : ℕ) → ((j : ℕ) → mark_of ys j ≡ 0) → mark_of (xs ++ ys) i ≡ mark_of xs i
mark-before [] ys i none = none i ∙ sym (mark-none i)
mark-before (x ∷ xs) ys zero none = refl
mark-before (x ∷ xs) ys (suc i) none = mark-before xs ys i none

-- they are as they were
pub mark-widened : (given : List ℕ) (n k i : ℕ) → mark_of (given ++ drop k (replicate n 0)) i ≡ mark_of given i
mark-widened given n k i = mark-before given (drop k (replicate n 0)) i (mark-behind n k)
