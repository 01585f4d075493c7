-- The seats of the tests: their numbers, and what a desk leaves of them.
use Rattle.std.proofs.Common.{inl, inr, true, false, ◌≡◌, ℕ, zero, suc, ◌+◌, ◌<◌, ◌≤◌, List, [], ◌∷◌, Bool, if◌then◌else◌}
use Rattle.std.proofs.Common.{refl, sym, ap, ap₂, ◌∙◌, subst, arith}
use Rattle.std.specs.Prelude.{nat_le}
use Rattle.std.proofs.lemmas.Bool.{leb-false}
use mathlib.Core.Logic.{dite}
use native.Mathlib.Decide.{ℕ_discrete}
use Rattle.atomic_table.specs.Seated.{TableId}
use Rattle.atomic_table.specs.declared.shared.Seat.{Seat}
use Rattle.run_history.specs.Cases.{CaseShape}
use Rattle.book.specs.Desks.{Home}
use Rattle.shared_book.specs.declared.views.View.{View}
use Rattle.shared_book.specs.FenceLaw.{Slot}
use Rattle.shared_book.specs.Joins.{first_of, merged, others_of, placed}
use Rattle.shared_book.specs.Lists.{IsIn}
use Rattle.shared_book.specs.Opening.{span}
use Rattle.shared_book.specs.SharedDesks.{shared_home}
use Rattle.shared_book.specs.Steps.{SeatView}
use Rattle.shared_book.proofs.DeskFacts.{one-table}
use Rattle.engine_tests.specs.TestSeats.{IsAtRest}

-- each number of a span is in it
pub in_span : (from count n : ℕ) → from ≤ n → n < from + count → IsIn n (span from count)
in_span from zero n low high = absurd (omega (arith, low, high))
in_span from (suc count) n low high = dite (ℕ_discrete n from) (λ e. inl e)
    (λ other. inr (in_span (suc from) count n (omega (arith, low, other)) (omega (arith, high))))

-- who has the numbers of all seats has each
pub all_seats : (numbers : List ℕ) (seats count : ℕ) → numbers ≡ span 0 count → seats ≡ count → (n : ℕ) → n < seats → IsIn n numbers
all_seats numbers seats count is same n few =
    subst (IsIn n) (sym is) (in_span 0 count n (omega arith) (omega (arith, few, same)))

-- the second of a span's numbers is one more than the first
pub next_number : (numbers : List ℕ) (n m left : ℕ) → numbers ≡ span n (left + 1) → first_of numbers ≡ m ∷ [] → 0 < left
    → first_of (others_of numbers) ≡ (m + 1) ∷ []
next_number numbers n m zero is first some = absurd (omega (arith, some))
next_number numbers n m (suc left) is first some =
    let two : suc left + 1 ≡ suc (suc left) = omega arith in
    let all : numbers ≡ n ∷ suc n ∷ span (suc (suc n)) left = is ∙ ap (span n) two in
    let same : n ∷ [] ≡ m ∷ [] = sym (ap first_of all) ∙ first in
    let next : suc n ≡ m + 1 = let at = ap (λ (l : List ℕ). head l) same in omega (arith, at) in
    ap (λ (l : List ℕ). first_of (others_of l)) all ∙ ap (λ k. k ∷ []) next
  where
    head : List ℕ → ℕ
    head [] = 0
    head (x ∷ xs) = x

-- a number below a span's first is put in front of it
pub put_below : (numbers one : List ℕ) (n m left : ℕ) → numbers ≡ span m left → one ≡ n ∷ [] → m ≡ suc n
    → merged numbers one ≡ span n (suc left)
put_below numbers one n m left is first next =
    ap₂ merged is first ∙ (below left ∙ ap (λ (k : ℕ). n ∷ span k left) next)
  where
    kept : (b : Bool) (xs : List ℕ) → nat_le n m ≡ b → (if b then n ∷ m ∷ xs else m ∷ placed n xs) ≡ n ∷ m ∷ xs
    kept true xs e = refl
    kept false xs e = let l = leb-false n m e in absurd (omega (arith, l, next))

    below : (count : ℕ) → placed n (span m count) ≡ n ∷ span m count
    below zero = refl
    below (suc count) = kept (nat_le n m) (span (suc m) count) refl

-- ---- what a desk leaves of a seat

abbrev head : List ℕ → ℕ
head [] = 0
head (x ∷ xs) = x

abbrev tail : List ℕ → List ℕ
tail [] = []
tail (x ∷ xs) = xs

-- a seat with the same view at this table is at rest as well
pub rest_moved : (id : TableId) (shape : CaseShape) (seats : ℕ) (numbers : List ℕ) (old new : Seat Slot View)
    → IsAtRest id shape seats numbers old → new.me ≡ old.me → new.table_id ≡ id → IsAtRest id shape seats numbers new
rest_moved id shape seats numbers old new rest same table = record {
  here = record {
    table = table;
    live = ap (λ (m : SeatView). m.0.live) same ∙ rest.here.live;
    case = ap (λ (m : SeatView). m.0.basis.case) same ∙ rest.here.case;
  };
  idle = record {
    turn = ap (λ (m : SeatView). m.0.turn) same ∙ rest.idle.turn;
    places = ap (λ (m : SeatView). m.1) same ∙ rest.idle.places;
  };
  of_seats = ap (λ (m : SeatView). m.0.basis.seats) same ∙ rest.of_seats;
  has_numbers = ap (λ (m : SeatView). m.0.numbers) same ∙ rest.has_numbers;
}

-- a desk that keeps its place leaves its seat at rest
pub rest_behind : (id : TableId) (shape : CaseShape) (seats : ℕ) (numbers : List ℕ) (old new : Seat Slot View)
    → IsAtRest id shape seats numbers old → shared_home new ≡ shared_home old
    → new.me.0.basis.case ≡ old.me.0.basis.case → new.me.0.live ≡ true → new.me.0.turn ≡ false → new.me.1 ≡ []
    → IsAtRest id shape seats numbers new
rest_behind id shape seats numbers old new rest home case live turn places =
    let same = ap (λ (h : Home). h.seats) home in record {
      here = record {
        table = one-table new.table_id old.table_id (ap (λ (h : Home). h.book) home) ∙ rest.here.table;
        live = live;
        case = case ∙ rest.here.case;
      };
      idle = record { turn = turn; places = places };
      of_seats = ap head same ∙ rest.of_seats;
      has_numbers = ap tail same ∙ rest.has_numbers;
    }
