-- The feeds of a part ascend.
use Rattle.std.proofs.Common.{◌≡◌, ℕ, ◌+◌, ◌≤◌, Bool, true, false, cond, Some, None, List, [], ◌∷◌, arith}
use Rattle.std.specs.List.{AllByRecursion, cons_option}
use Rattle.std.specs.List.Sorted.{IsStrictlySortedBy}
use Rattle.std.specs.Ordering.{nat_cmp}
use Rattle.std.specs.declared.cmp.Ordering.TheVariants.{Less}
use Rattle.std.proofs.lemmas.Bool.Decides.{nat_tests}
use Rattle.topology.specs.Shapes.{Shape, feeds_of, streams_of, reads_of}
use Rattle.topology.specs.Folding.{are_reading}
use Rattle.topology.specs.Kept.{numbers_from}

-- numbers above n are not below it
all_at_least : (n : ℕ) (ms : List ℕ) → AllByRecursion (λ m. nat_cmp n m ≡ Less) ms → AllByRecursion (λ m. n ≤ m) ms
all_at_least n [] h = tt
all_at_least n (m ∷ ms) h = (grind (arith, nat_tests, h.0), all_at_least n ms h.1)

-- numbers from n + 1 on are above n
all_above : (n : ℕ) (ms : List ℕ) → AllByRecursion (λ m. n + 1 ≤ m) ms → AllByRecursion (λ m. nat_cmp n m ≡ Less) ms
all_above n [] h = tt
all_above n (m ∷ ms) h = (grind (arith, nat_tests, h.0), all_above n ms h.1)

-- the number of one more stream, where it passes, stands before those of the next
least_step : (b : Bool) (n : ℕ) (ms : List ℕ) → AllByRecursion (λ m. n ≤ m) ms → AllByRecursion (λ m. n ≤ m) (cons_option (cond b (Some n) None) ms)
least_step true n ms h = (omega arith, h)
least_step false n ms h = h

-- the numbers of streams from n on are at least n
least : (test : List ℕ → Bool) (n : ℕ) (xs : List (List ℕ)) → AllByRecursion (λ m. n ≤ m) (numbers_from test n xs)
least test n [] = tt
least test n (x ∷ xs) = least_step (test x) n _ (all_at_least n _ (all_above n _ (least test (n + 1) xs)))

-- and one more keeps them ascending
ascending_step : (b : Bool) (n : ℕ) (ms : List ℕ) → AllByRecursion (λ m. nat_cmp n m ≡ Less) ms → IsStrictlySortedBy nat_cmp ms
    → IsStrictlySortedBy nat_cmp (cons_option (cond b (Some n) None) ms)
unfolding IsStrictlySortedBy
ascending_step true n ms h s = (h, s)
ascending_step false n ms h s = s

ascending : (test : List ℕ → Bool) (n : ℕ) (xs : List (List ℕ)) → IsStrictlySortedBy nat_cmp (numbers_from test n xs)
unfolding IsStrictlySortedBy
ascending test n [] = tt
ascending test n (x ∷ xs) = ascending_step (test x) n _ (all_above n _ (least test (n + 1) xs)) (ascending test (n + 1) xs)

-- each part that feeds another stands once, in order
pub feeds_of-ascending : (shape : Shape) (part : ℕ) → IsStrictlySortedBy nat_cmp (feeds_of shape part)
feeds_of-ascending shape part = ascending (are_reading (reads_of shape part)) 0 (streams_of shape)
