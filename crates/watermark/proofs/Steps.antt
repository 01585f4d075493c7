-- One step of a loop over the intervals, where the invariant speaks of those that are left.
use Rattle.std.proofs.Common.{◌≡◌, ◌∙◌, ℕ, zero, suc, ◌+◌, ◌≤◌, ◌==◌, min, Bool, true, false, cond, Some, None, slice_get, List, [], ◌∷◌, ◌++◌, drop, sym, ap, arith, append_assoc, true≢false, is_none, unwrap_or, map}
use Rattle.std.specs.List.{list_any, cons_option}
use Rattle.mw_types.specs.declared.TheConstants.{END}
use Rattle.key_intervals.specs.declared.bounds.Bounds.{Bounds}
use Rattle.run_history.specs.Watermarks.{least}
use Rattle.watermark.specs.Marks.{mark_of, numbers_in, marks_in}

-- what is left begins with the element that comes next
left_from : {X : Type 0} (xs : List X) (i : ℕ) (x : X) → slice_get xs i ≡ Some x → drop i xs ≡ x ∷ drop (i + 1) xs
left_from [] i x at = absurd (true≢false (ap is_none at))
left_from (y ∷ ys) zero x at = ap (λ o. unwrap_or o y ∷ ys) at
left_from (y ∷ ys) (suc i) x at =
    let next : suc (i + 1) ≡ suc i + 1 = omega arith in
    left_from ys i x at ∙ ap (λ k. x ∷ drop k (y ∷ ys)) next

-- the numbers from the next on, by whether its interval is of one of the parts
numbers_step : (parts : List ℕ) (xs : List Bounds) (i : ℕ) (b : Bounds) (test : Bool) → slice_get xs i ≡ Some b
    → test ≡ list_any (λ p. p == b.part) parts
    → numbers_in parts i (drop i xs) ≡ cons_option (cond test (Some i) None) (numbers_in parts (i + 1) (drop (i + 1) xs))
numbers_step parts xs i b test at is =
    ap (numbers_in parts i) (left_from xs i b at)
    ∙ ap (λ t. cons_option (cond t (Some i) None) (numbers_in parts (i + 1) (drop (i + 1) xs))) (sym is)

-- an interval of one of the parts adds its number
pub numbers_step_yes : (parts : List ℕ) (xs : List Bounds) (i : ℕ) (b : Bounds) (found all : List ℕ) → slice_get xs i ≡ Some b
    → true ≡ list_any (λ p. p == b.part) parts → found ++ numbers_in parts i (drop i xs) ≡ all
    → (found ++ i ∷ []) ++ numbers_in parts (i + 1) (drop (i + 1) xs) ≡ all
numbers_step_yes parts xs i b found all at is left =
    append_assoc found _ _ ∙ sym (ap (λ l. found ++ l) (numbers_step parts xs i b true at is)) ∙ left

-- another adds nothing
pub numbers_step_no : (parts : List ℕ) (xs : List Bounds) (i : ℕ) (b : Bounds) (found all : List ℕ) → slice_get xs i ≡ Some b
    → false ≡ list_any (λ p. p == b.part) parts → found ++ numbers_in parts i (drop i xs) ≡ all
    → found ++ numbers_in parts (i + 1) (drop (i + 1) xs) ≡ all
numbers_step_no parts xs i b found all at is left =
    sym (ap (λ l. found ++ l) (numbers_step parts xs i b false at is)) ∙ left

-- the marks from the next on, by whether its interval is of the part
marks_step : (part : ℕ) (xs : List Bounds) (marks : List ℕ) (i : ℕ) (b : Bounds) (mark : ℕ) (test : Bool) → slice_get xs i ≡ Some b
    → slice_get marks i ≡ Some mark → test ≡ (b.part == part)
    → marks_in (drop i xs) part (drop i marks) ≡ cons_option (cond test (Some mark) None)
    (marks_in (drop (i + 1) xs) part (drop (i + 1) marks))
marks_step part xs marks i b mark test at read is =
    ap (λ l. marks_in l part (drop i marks)) (left_from xs i b at)
    ∙ ap (marks_in (b ∷ drop (i + 1) xs) part) (left_from marks i mark read)
    ∙ ap (λ t. cons_option (cond t (Some mark) None) (marks_in (drop (i + 1) xs) part (drop (i + 1) marks))) (sym is)

-- the least of marks is at most the end
pub least-end : (marks : List ℕ) → least marks ≤ END
least-end [] = omega arith
least-end (m ∷ ms) = omega (arith, least-end ms)

-- a mark is with the marks that are left the least of all, and at most the end
pub record IsSoFar (xs : List Bounds) (part : ℕ) (marks : List ℕ) (low i : ℕ) : Type 0 where
  pub with_left : min low (least (marks_in (drop i xs) part (drop i marks))) ≡ least (marks_in xs part marks)
  pub end : low ≤ END

-- the end is before the first interval
pub so_far_none : (xs : List Bounds) (part : ℕ) (marks : List ℕ) → IsSoFar xs part marks END 0
so_far_none xs part marks =
    let most = least-end (marks_in xs part marks) in record {
      with_left = omega (arith, most);
      end = omega arith;
    }

-- the mark of an interval of the part counts
pub so_far_yes : (xs : List Bounds) (part : ℕ) (marks : List ℕ) (i : ℕ) (b : Bounds) (mark low new : ℕ) → slice_get xs i ≡ Some b
    → slice_get marks i ≡ Some mark → true ≡ (b.part == part) → new ≡ min low mark
    → IsSoFar xs part marks low i → IsSoFar xs part marks new (i + 1)
so_far_yes xs part marks i b mark low new at read is less before =
    let later = least (marks_in (drop (i + 1) xs) part (drop (i + 1) marks)) in
    let both : min new later ≡ min low (min mark later) = omega (arith, less) in record {
      with_left = both ∙ sym (ap (λ l. min low (least l)) (marks_step part xs marks i b mark true at read is)) ∙ before.with_left;
      end = omega (arith, less, before.end);
    }

-- another does not
pub so_far_no : (xs : List Bounds) (part : ℕ) (marks : List ℕ) (i : ℕ) (b : Bounds) (mark low new : ℕ) → slice_get xs i ≡ Some b
    → slice_get marks i ≡ Some mark → false ≡ (b.part == part) → new ≡ low
    → IsSoFar xs part marks low i → IsSoFar xs part marks new (i + 1)
so_far_no xs part marks i b mark low new at read is same before = record {
  with_left = ap (λ n. min n (least (marks_in (drop (i + 1) xs) part (drop (i + 1) marks)))) same
      ∙ sym (ap (λ l. min low (least l)) (marks_step part xs marks i b mark false at read is)) ∙ before.with_left;
  end = omega (arith, same, before.end);
}

-- a mark is with the marks of those that are left the least of the marks of the parts' intervals, and at most the end
pub record IsSoFarAmong (parts : List ℕ) (xs : List Bounds) (marks : List ℕ) (low i : ℕ) : Type 0 where
  pub with_left : min low (least (map (mark_of marks) (numbers_in parts i (drop i xs)))) ≡ least
      (map (mark_of marks) (numbers_in parts 0 xs))
  pub end : low ≤ END

-- the end is before the first interval
pub among_none : (parts : List ℕ) (xs : List Bounds) (marks : List ℕ) → IsSoFarAmong parts xs marks END 0
among_none parts xs marks =
    let most = least-end (map (mark_of marks) (numbers_in parts 0 xs)) in record {
      with_left = omega (arith, most);
      end = omega arith;
    }

-- the mark of an interval of one of the parts counts
pub among_yes : (parts : List ℕ) (xs : List Bounds) (marks : List ℕ) (i : ℕ) (b : Bounds) (mark low new : ℕ) → slice_get xs i ≡ Some b
    → slice_get marks i ≡ Some mark → true ≡ list_any (λ p. p == b.part) parts → new ≡ min low mark
    → IsSoFarAmong parts xs marks low i → IsSoFarAmong parts xs marks new (i + 1)
among_yes parts xs marks i b mark low new at read is less before =
    let later = least (map (mark_of marks) (numbers_in parts (i + 1) (drop (i + 1) xs))) in
    let same : mark_of marks i ≡ mark = ap (λ o. unwrap_or o 0) read in
    let both : min new later ≡ min low (min (mark_of marks i) later) = omega (arith, less, same) in record {
      with_left = both ∙ sym (ap (λ l. min low (least (map (mark_of marks) l))) (numbers_step parts xs i b true at is)) ∙ before.with_left;
      end = omega (arith, less, before.end);
    }

-- another does not
pub among_no : (parts : List ℕ) (xs : List Bounds) (marks : List ℕ) (i : ℕ) (b : Bounds) (low new : ℕ) → slice_get xs i ≡ Some b
    → false ≡ list_any (λ p. p == b.part) parts → new ≡ low
    → IsSoFarAmong parts xs marks low i → IsSoFarAmong parts xs marks new (i + 1)
among_no parts xs marks i b low new at is same before = record {
  with_left = ap (λ n. min n (least (map (mark_of marks) (numbers_in parts (i + 1) (drop (i + 1) xs))))) same
      ∙ sym (ap (λ l. min low (least (map (mark_of marks) l))) (numbers_step parts xs i b false at is)) ∙ before.with_left;
  end = omega (arith, same, before.end);
}
