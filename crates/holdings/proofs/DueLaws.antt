-- The first timers of rows, in the order in which they are due.
use Rattle.std.proofs.Common.{◌≡◌, ◌<◌, ℕ, Bool, true, false, List, [], ◌∷◌, length, refl, sym, ◌∙◌, ap, subst, arith, true≢false}
use Rattle.std.specs.Bool.{beq}
use Rattle.std.specs.Prelude.{◌&&◌, ◌==◌, None, Option, Some, slice_get}
use Rattle.std.specs.Option.{is_some, option_map}
use Rattle.std.specs.Cmp.{IsTotalOrder, bool_cmp_total, on_total, then_total, tied_itself}
use Rattle.std.specs.Map.{lookup}
use Rattle.std.specs.BTreeMap.{is_at}
use Rattle.std.specs.Ordering.{bool_cmp, is_eq, nat_cmp, ordering_then}
use Rattle.std.specs.declared.cmp.Ordering.{Ordering}
use Rattle.std.specs.declared.cmp.Ordering.TheVariants.{Less, Equal, Greater}
use Rattle.std.proofs.lemmas.Bool.Decides.{nat_tests}
use Rattle.std.proofs.lemmas.Cmp.{nat_cmp_total}
use Rattle.list_lemmas.proofs.Tests.{both_true}
use Rattle.mw_types.specs.Orders.{row_cmp, timer_cmp}
use Rattle.mw_types.specs.declared.identity.RowName.{RowName}
use Rattle.mw_types.specs.declared.timer.Timer.{Timer}
use Rattle.mw_types.proofs.OrderLaws.{row_cmp-total}
use Rattle.row_parts.specs.Contents.{Contents}
use Rattle.run_history.specs.Runs.{cached, row_in}
use Rattle.list_lemmas.proofs.Lists.{none_some, some_same}
use Rattle.history_laws.proofs.RowSteps.{same_row}
use Rattle.holdings.specs.Dues.{AreDues, due_at, due_name, due_of, due_order, is_same_due, timer_at}
use Rattle.holdings.specs.Firsts.{HasPicked}
use Rattle.holdings.specs.Keyed.{has_key, ties}
use Rattle.holdings.specs.Timers.{IsFirstTimer, timer_of}
use Rattle.holdings.specs.declared.due.Due.{Due}
use Rattle.holdings.proofs.KeyLaws.{first-least, first-there}

-- timers of rows are in a total order
pub due_order-total : IsTotalOrder due_order
due_order-total = then_total
    (then_total (on_total (λ (d : Due). d.at.time) nat_cmp_total) (on_total (λ (d : Due). d.at.tag) nat_cmp_total))
    (then_total (on_total (λ (d : Due). d.name) row_cmp-total) (on_total (λ (d : Due). d.late) bool_cmp_total))

-- two orders, one after the other, tie where both do
then-equal : (o p : Ordering) → is_eq (ordering_then o p) ≡ true → (is_eq o ≡ true) × (is_eq p ≡ true)
then-equal Less p tie = absurd (true≢false (sym tie))
then-equal Equal p tie = (refl, tie)
then-equal Greater p tie = absurd (true≢false (sym tie))

-- what is before by two orders is so by a third after them
then-less : (o p q : Ordering) → ordering_then o p ≡ Less → ordering_then o (ordering_then p q) ≡ Less
then-less Less p q less = refl
then-less Equal p q less = ap (λ r. ordering_then r q) less
then-less Greater p q less = less

-- numbers that compare as equal are the same
same_number : (x y : ℕ) → is_eq (nat_cmp x y) ≡ true → x ≡ y
same_number x y h = grind (arith, nat_tests, h)

-- two flags that compare as equal are the same
same_flag : (x y : Bool) → is_eq (bool_cmp x y) ≡ true → x ≡ y
same_flag false false tie = refl
same_flag false true tie = absurd (true≢false (sym tie))
same_flag true false tie = absurd (true≢false (sym tie))
same_flag true true tie = refl

-- two flags that are equal are the same
equal_flag : (x y : Bool) → beq x y ≡ true → x ≡ y
equal_flag false false is = refl
equal_flag false true is = absurd (true≢false (sym is))
equal_flag true false is = absurd (true≢false (sym is))
equal_flag true true is = refl

-- timers of one row that are the same are the same to the order
pub same_due : (name : RowName) (before after : Option Timer) → is_same_due before after ≡ true
    → option_map (due_at name) before ≡ option_map (due_at name) after
same_due name None None is = refl
same_due name None (Some b) is = absurd (true≢false (sym is))
same_due name (Some a) None is = absurd (true≢false (sym is))
same_due name (Some a) (Some b) is =
    let both = both_true ((a.time == b.time) && (a.tag == b.tag)) (beq a.late b.late) is in
    let place = both.0 in
    let time : a.time ≡ b.time = grind (arith, nat_tests, place) in
    let tag : a.tag ≡ b.tag = grind (arith, nat_tests, place) in
    let late : a.late ≡ b.late = equal_flag a.late b.late both.1 in
    λ i. Some (due_at name (record { time = time i; tag = tag i; late = late i }))

-- timers of rows that tie are the same
pub due_tie : (a b : Due) → is_at (due_order a) b ≡ true → a ≡ b
due_tie a b tie =
    let moment = ordering_then (nat_cmp a.at.time b.at.time) (nat_cmp a.at.tag b.at.tag) in
    let both = then-equal moment (ordering_then (row_cmp a.name b.name) (bool_cmp a.late b.late)) tie in
    let parts = then-equal (nat_cmp a.at.time b.at.time) (nat_cmp a.at.tag b.at.tag) both.0 in
    let rest = then-equal (row_cmp a.name b.name) (bool_cmp a.late b.late) both.1 in
    let time : a.at.time ≡ b.at.time = same_number a.at.time b.at.time parts.0 in
    let tag : a.at.tag ≡ b.at.tag = same_number a.at.tag b.at.tag parts.1 in
    let name : a.name ≡ b.name = same_row a.name b.name rest.0 in
    let late : a.late ≡ b.late = same_flag a.late b.late rest.1 in
    λ i. record { at = record { time = time i; tag = tag i }; name = name i; late = late i }

-- a first timer has the name of its row
pub due_placed : (n : RowName) (row : Contents) (k : Due) → due_of n row ≡ Some k → due_name k ≡ n
due_placed n row k is = by_timer (timer_of row) is
  where
    by_timer : (o : Option Timer) → option_map (due_at n) o ≡ Some k → due_name k ≡ n
    by_timer None e = absurd (none_some k e)
    by_timer (Some t) e = ap due_name (sym (some_same (due_at n t) k e))

module _ (rows : List (RowName × Contents)) where
  -- the first timer of a row is among them
  picked-there : (es : List (Due × Unit {0})) → AreDues rows es → (other : RowName × Timer) → HasPicked timer_of rows other
      → is_some (lookup (is_at (due_order (due_at other.0 other.1))) es) ≡ true
  picked-there es are other picked = are.each (due_at other.0 other.1)
      ∙ ap (has_key due_order due_of (due_at other.0 other.1) other.0) picked.there
      ∙ ap (λ (o : Option Timer). ties due_order (due_at other.0 other.1) (option_map (due_at other.0) o)) picked.picked
      ∙ ap is_eq (tied_itself due_order-total (due_at other.0 other.1))

  -- where none is there, no row has a timer
  pub first-none : (es : List (Due × Unit {0})) → AreDues rows es → (0 < length es → ⊥) → IsFirstTimer rows None
  first-none [] are none = λ other picked. true≢false (sym (picked-there [] are other picked))
  first-none (e ∷ es) are none = absurd (none (omega arith))

  -- the first is the first timer of all rows
  pub first-due : (e : Due × Unit {0}) (es : List (Due × Unit {0})) → AreDues rows es → slice_get es 0 ≡ Some e
      → IsFirstTimer rows (Some (timer_at e.0))
  first-due e [] are at = absurd (none_some e at)
  first-due e (x ∷ es) are at = subst (λ (y : Due × Unit {0}). IsFirstTimer rows (Some (timer_at y.0)))
      (some_same x e at) (by_row (row_in (cached rows) x.0.name) refl)
    where
      by_timer : (row : Contents) (o : Option Timer) → row_in (cached rows) x.0.name ≡ Some row → timer_of row ≡ o
          → has_key due_order due_of x.0 x.0.name (row_in (cached rows) x.0.name) ≡ true → IsFirstTimer rows (Some (timer_at x.0))
      by_timer row None found is has = absurd (true≢false (sym has ∙ ap (has_key due_order due_of x.0 x.0.name) found ∙ none is))
        where
          none : timer_of row ≡ None → has_key due_order due_of x.0 x.0.name (Some row) ≡ false
          none e = rw e refl
      by_timer row (Some t) found is has =
          let same : x.0 ≡ due_at x.0.name t = due_tie x.0 (due_at x.0.name t) (sym (some is) ∙ sym (ap (has_key due_order due_of x.0 x.0.name) found) ∙ has) in record {
            has = record { row = row; there = found; picked = is ∙ ap (λ (d : Due). Some (timer_at d).timer) (sym same) };
            least = λ other picked less. first-least due_order due_order-total x es (due_at other.0 other.1) are.ordered
                (picked-there (x ∷ es) are other picked)
                (then-less (timer_cmp other.1 (timer_at x.0).timer) (row_cmp other.0 x.0.name) (bool_cmp other.1.late x.0.late) less);
          }
        where
          some : timer_of row ≡ Some t → has_key due_order due_of x.0 x.0.name (Some row) ≡ is_at (due_order x.0) (due_at x.0.name t)
          some e = rw e refl

      by_row : (o : Option Contents) → row_in (cached rows) x.0.name ≡ o → IsFirstTimer rows (Some (timer_at x.0))
      by_row None none = absurd (true≢false
          (sym (first-there due_order due_order-total x es) ∙ are.each x.0 ∙ ap (has_key due_order due_of x.0 x.0.name) none))
      by_row (Some row) found = by_timer row (timer_of row) found refl (sym (are.each x.0) ∙ first-there due_order due_order-total x es)
