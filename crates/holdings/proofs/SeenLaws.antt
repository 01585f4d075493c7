-- The names of the rows that have seen ids: they are changed with one row, and the first that may forget ids is among them.
use Rattle.std.proofs.Common.{◌≡◌, ℕ, Bool, true, false, cond, ◌&&◌, List, [], ◌∷◌, length, refl, sym, ◌∙◌, ap, arith, true≢false}
use Rattle.std.specs.Prelude.{None, Option, Some, max, nat_le, nat_lt}
use Rattle.std.specs.Option.{is_some, option_and_then}
use Rattle.std.specs.Cmp.{tied_itself}
use Rattle.std.specs.Map.{keys_of, lookup}
use Rattle.std.specs.BTreeMap.{is_at}
use Rattle.std.specs.Ordering.{is_eq}
use Rattle.std.proofs.lemmas.Bool.Decides.{nat_tests}
use Rattle.std.proofs.lemmas.Map.Keys.{sorted_tail}
use Rattle.mw_types.specs.Orders.{row_cmp}
use Rattle.mw_types.specs.declared.identity.RowName.{RowName}
use Rattle.mw_types.proofs.OrderLaws.{row_cmp-total}
use Rattle.row_parts.specs.Contents.{Contents}
use Rattle.run_history.specs.Runs.{cached, row_in}
use Rattle.list_lemmas.proofs.Lists.{none_some, some_same}
use Rattle.history_laws.proofs.RowSteps.{same_row}
use Rattle.holdings.specs.Keyed.{has_key, ties}
use Rattle.holdings.specs.Purges.{IsFirstToPurge, forgets}
use Rattle.holdings.specs.Seens.{AreSeen, AreSeenLeft, own_name, seen_of}
use Rattle.holdings.proofs.KeyLaws.{first-least}

-- a name of a row that has seen ids is the row's
pub seen_placed : (n : RowName) (row : Contents) (k : RowName) → seen_of n row ≡ Some k → own_name k ≡ n
seen_placed n row k is = by_test (nat_lt 0 (length row.seen)) is
  where
    by_test : (b : Bool) → cond b (Some n) None ≡ Some k → k ≡ n
    by_test true e = sym (some_same n k e)
    by_test false e = absurd (none_some k e)

-- a row that may forget ids has some
has-some : (floor least : ℕ) (row : Contents) → forgets floor least row ≡ Some (tt {0}) → nat_lt 0 (length row.seen) ≡ true
has-some floor least row is = by_test (nat_lt row.floor floor) (nat_le (max 1 least) (length row.seen)) refl is
  where
    by_test : (a b : Bool) → nat_le (max 1 least) (length row.seen) ≡ b → cond (a && b) (Some (tt {0})) None ≡ Some (tt {0})
        → nat_lt 0 (length row.seen) ≡ true
    by_test true true e i = grind (arith, nat_tests, e)
    by_test true false e i = absurd (none_some (tt {0}) i)
    by_test false b e i = absurd (none_some (tt {0}) i)

module _ (floor least : ℕ) (rows : List (RowName × Contents)) where
  -- all names are left
  pub seen_left-all : (names : List (RowName × Unit {0})) → AreSeen rows names → AreSeenLeft floor least rows names
  seen_left-all names are = record {
    ordered = are.ordered;
    each = λ other picked. are.each other.0 ∙ ap (has_key row_cmp seen_of other.0 other.0) picked.there
        ∙ ap (λ b. ties row_cmp other.0 (cond b (Some other.0) None)) (has-some floor least picked.row picked.picked)
        ∙ ap is_eq (tied_itself row_cmp-total other.0);
  }

  -- a name whose row may not forget ids is past
  pub seen_left-one : (e : RowName × Unit {0}) (left : List (RowName × Unit {0})) → AreSeenLeft floor least rows (e ∷ left)
      → is_some (option_and_then (forgets floor least) (row_in (cached rows) e.0)) ≡ false → AreSeenLeft floor least rows left
  seen_left-one e left are not = record {
    ordered = sorted_tail row_cmp e.0 (keys_of left) are.ordered;
    each = λ other picked. elim (is_at (row_cmp other.0) e.0) as (λ b. is_at (row_cmp other.0) e.0 ≡ b
        → is_some (cond b (Some e.1) (lookup (is_at (row_cmp other.0)) left)) ≡ true
        → is_some (lookup (is_at (row_cmp other.0)) left) ≡ true) [
          | true ↦ λ tie _. absurd (true≢false (
              sym (ap (λ o. is_some (option_and_then (forgets floor least) o)) picked.there ∙ ap is_some picked.picked)
              ∙ ap (λ n. is_some (option_and_then (forgets floor least) (row_in (cached rows) n))) (same_row other.0 e.0 tie) ∙ not))
          | false ↦ λ _ found. found
        ] refl (are.each other picked);
  }

  -- a name whose row may forget ids is the first, where none before it is left
  pub seen_left-first : (e : RowName × Unit {0}) (left : List (RowName × Unit {0})) → AreSeenLeft floor least rows (e ∷ left)
      → is_some (option_and_then (forgets floor least) (row_in (cached rows) e.0)) ≡ true → IsFirstToPurge floor least rows (Some e.0)
  seen_left-first e left are may = by_row (row_in (cached rows) e.0) refl may
    where
      by_row : (o : Option Contents) → row_in (cached rows) e.0 ≡ o → is_some (option_and_then (forgets floor least) o) ≡ true
          → IsFirstToPurge floor least rows (Some e.0)
      by_row None found m = absurd (true≢false (sym m))
      by_row (Some row) found m = record {
        has = record { row = row; there = found; picked = picks (forgets floor least row) m };
        least = λ other picked less. first-least row_cmp row_cmp-total e left other.0 are.ordered (are.each other picked) less;
      }
        where
          picks : (o : Option (Unit {0})) → is_some o ≡ true → o ≡ Some (tt {0})
          picks None n = absurd (true≢false (sym n))
          picks (Some _) n = refl

  -- where no name is left, no row may forget ids
  pub seen_left-none : (left : List (RowName × Unit {0})) → left ≡ [] → AreSeenLeft floor least rows left → IsFirstToPurge floor least rows None
  seen_left-none left none are other picked = true≢false (sym (are.each other picked)
      ∙ ap (λ (l : List (RowName × Unit {0})). is_some (lookup (is_at (row_cmp other.0)) l)) none)
