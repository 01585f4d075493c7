-- Rows at places of their own.
use Rattle.std.proofs.Common.{◌≡◌, ◌≢◌, ◌<◌, ℕ, zero, suc, Bool, true, false, cond, List, [], ◌∷◌, ◌++◌, length, get_or, refl, sym, ◌∙◌, ap, subst, arith}
use Rattle.std.specs.Prelude.{Some, None, Option, IsSome, slice_set}
use Rattle.std.specs.Option.{option_map}
use Rattle.std.specs.List.Sorted.{IsStrictlySortedBy}
use Rattle.std.specs.Map.{lookup, keys_of}
use Rattle.std.specs.BTreeMap.{insert_entry, is_at}
use Rattle.std.specs.Ordering.{is_eq}
use Rattle.std.specs.Cmp.{tied_itself}
use Rattle.std.proofs.lemmas.Bool.{both_ways}
use Rattle.std.proofs.lemmas.List.{length-append, get_or_append_left, get_or_push, get_or-set_other, get_or-set_same, length-set}
use Rattle.std.proofs.lemmas.Map.Made.{keys_of-map_values, lookup-map_values}
use Rattle.mw_types.specs.Orders.{row_cmp}
use Rattle.mw_types.specs.declared.identity.RowName.{RowName}
use Rattle.mw_types.proofs.OrderLaws.{row_cmp-total}
use Rattle.list_lemmas.proofs.Lists.{each-weaker, none_some, some_same}
use Rattle.run_history.proofs.Lookups.{each_found, lookup-insert_entry, same_entries, sorted-insert_entry}
use Rattle.history_laws.proofs.RowSteps.{same_row}
use Rattle.book.specs.declared.answers.NamedRow.{NamedRow}
use Rattle.holdings.specs.Slots.{AreSlots, AreWithin, IsPlaceOf, no_row, placed, row_at}
use Rattle.holdings.proofs.CacheLaws.{tied_row}

-- a look-up among rows finds what lies at the place
pub lookup-placed : (rows : List NamedRow) (places : List (RowName × ℕ)) (test : RowName → Bool)
    → lookup test (placed rows places) ≡ option_map (row_at rows) (lookup test places)
lookup-placed rows places test = lookup-map_values (row_at rows) test places

-- the rows stand in order of their names
pub placed-ordered : (rows : List NamedRow) (places : List (RowName × ℕ)) → IsStrictlySortedBy row_cmp (keys_of places)
    → IsStrictlySortedBy row_cmp (keys_of (placed rows places))
placed-ordered rows places ordered = subst (IsStrictlySortedBy row_cmp) (sym (keys_of-map_values (row_at rows) places)) ordered

-- each place is one of a row
pub each-within : (rows : List NamedRow) (places : List (RowName × ℕ)) → AreSlots rows places
    → AreWithin rows places
each-within rows places slots = record {
  each =
      each-weaker (λ (p : RowName × ℕ). lookup (is_at (row_cmp p.0)) places ≡ Some p.1) (λ (p : RowName × ℕ). p.1 < length rows)
      (λ p found. (slots.there p.0 p.1 found).within) places (each_found row_cmp-total places slots.ordered);
}

-- a name of which no row is there has no place
pub no_place : (rows : List NamedRow) (places : List (RowName × ℕ)) (name : RowName)
    → lookup (is_at (row_cmp name)) (placed rows places) ≡ None → lookup (is_at (row_cmp name)) places ≡ None
no_place rows places name none = from (lookup (is_at (row_cmp name)) places) (sym (lookup-placed rows places (is_at (row_cmp name))) ∙ none)
  where
    from : (o : Option ℕ) → option_map (row_at rows) o ≡ None → o ≡ None
    from None e = refl
    from (Some at) e = absurd (none_some (row_at rows at) (sym e))

-- a name of which a row is there has a place
pub has_place : (rows : List NamedRow) (places : List (RowName × ℕ)) (name : RowName)
    → IsSome (lookup (is_at (row_cmp name)) (placed rows places)) → IsSome (lookup (is_at (row_cmp name)) places)
has_place rows places name there =
    from (lookup (is_at (row_cmp name)) places) (subst IsSome (lookup-placed rows places (is_at (row_cmp name))) there)
  where
    from : (o : Option ℕ) → IsSome (option_map (row_at rows) o) → IsSome o
    from None some = some
    from (Some at) some = refl

-- ---- one more row

-- what is looked up among places that have one more
placed_more : (rows : List NamedRow) (places : List (RowName × ℕ)) (r : NamedRow) (q : RowName) → AreSlots rows places
    → lookup (is_at (row_cmp q)) (placed (rows ++ r ∷ []) (insert_entry row_cmp places r.name (length rows)))
    ≡ cond (is_at (row_cmp q) r.name) (Some r.row) (lookup (is_at (row_cmp q)) (placed rows places))
placed_more rows places r q slots =
    lookup-placed (rows ++ r ∷ []) (insert_entry row_cmp places r.name (length rows)) (is_at (row_cmp q))
    ∙ ap (option_map (row_at (rows ++ r ∷ []))) (lookup-insert_entry row_cmp-total places r.name (length rows) q)
    ∙ chosen (is_at (row_cmp q) r.name) (lookup (is_at (row_cmp q)) places) (λ at e. (slots.there q at e).within)
    ∙ ap (cond (is_at (row_cmp q) r.name) (Some r.row)) (sym (lookup-placed rows places (is_at (row_cmp q))))
  where
    chosen : (b : Bool) (o : Option ℕ) → ((at : ℕ) → o ≡ Some at → at < length rows)
        → option_map (row_at (rows ++ r ∷ [])) (cond b (Some (length rows)) o) ≡ cond b (Some r.row) (option_map (row_at rows) o)
    chosen true o within = ap (λ (x : NamedRow). Some x.row) (get_or_push rows r no_row (length rows) refl)
    chosen false None within = refl
    chosen false (Some at) within = ap (λ (x : NamedRow). Some x.row) (get_or_append_left rows (r ∷ []) no_row at (within at refl))

-- a row that comes at a new place is put among all
pub placed-add : (rows : List NamedRow) (places : List (RowName × ℕ)) (r : NamedRow) → AreSlots rows places
    → placed (rows ++ r ∷ []) (insert_entry row_cmp places r.name (length rows)) ≡ insert_entry row_cmp (placed rows places) r.name r.row
placed-add rows places r slots =
    same_entries row_cmp-total tied_row (placed (rows ++ r ∷ []) (insert_entry row_cmp places r.name (length rows)))
    (insert_entry row_cmp (placed rows places) r.name r.row)
    (placed-ordered (rows ++ r ∷ []) (insert_entry row_cmp places r.name (length rows))
    (sorted-insert_entry row_cmp-total places r.name (length rows) slots.ordered))
    (sorted-insert_entry row_cmp-total (placed rows places) r.name r.row (placed-ordered rows places slots.ordered))
    (λ q. placed_more rows places r q slots ∙ sym (lookup-insert_entry row_cmp-total (placed rows places) r.name r.row q))

-- what comes after a row at the end is told by its place
at_push : {P : Type 0} (rows : List NamedRow) (r : NamedRow) (at : ℕ) → at < length (rows ++ r ∷ [])
    → (at < length rows → P) → (at ≡ length rows → P) → P
at_push {P} [] r zero within here end = end refl
at_push {P} [] r (suc at) within here end = absurd (omega (arith, within))
at_push {P} (x ∷ rows) r zero within here end = here (omega (arith))
at_push {P} (x ∷ rows) r (suc at) within here end =
    at_push rows r at (omega (arith, within)) (λ old. here (omega (arith, old))) (λ last. end (ap suc last))

-- a name that is another's is looked for at none of its own
apart : (q name : RowName) (places : List (RowName × ℕ)) (at : ℕ) → lookup (is_at (row_cmp name)) places ≡ None
    → lookup (is_at (row_cmp q)) places ≡ Some at → is_at (row_cmp q) name ≡ false
apart q name places at none found =
    elim (is_at (row_cmp q) name) as (λ b. is_at (row_cmp q) name ≡ b → b ≡ false) [
      | true ↦ λ e. absurd (none_some at (sym none ∙ ap (λ (n : RowName). lookup (is_at (row_cmp n)) places) (sym (same_row q name e)) ∙ found))
      | false ↦ λ e. refl
    ] refl

-- a row that comes at a new place has it
pub slots-add : (rows : List NamedRow) (places : List (RowName × ℕ)) (r : NamedRow) → AreSlots rows places
    → lookup (is_at (row_cmp r.name)) places ≡ None → AreSlots (rows ++ r ∷ []) (insert_entry row_cmp places r.name (length rows))
slots-add rows places r slots none = record {
  ordered = sorted-insert_entry row_cmp-total places r.name (length rows) slots.ordered;
  there = λ q at found. there q at (is_at (row_cmp q) r.name) refl (sym (lookup-insert_entry row_cmp-total places r.name (length rows) q) ∙ found);
  back = λ q at is. lookup-insert_entry row_cmp-total places r.name (length rows) q ∙ back q at is;
}
  where
    end : IsPlaceOf (rows ++ r ∷ []) r.name (length rows)
    end = record {
      within = let count = length-append rows (r ∷ []) in omega (arith, count);
      named = ap (λ (x : NamedRow). x.name) (get_or_push rows r no_row (length rows) refl);
    }

    there : (q : RowName) (at : ℕ) (b : Bool) → is_at (row_cmp q) r.name ≡ b
        → cond b (Some (length rows)) (lookup (is_at (row_cmp q)) places) ≡ Some at → IsPlaceOf (rows ++ r ∷ []) q at
    there q at true tie found = subst (λ (n : RowName). IsPlaceOf (rows ++ r ∷ []) n at) (sym (same_row q r.name tie))
        (subst (IsPlaceOf (rows ++ r ∷ []) r.name) (some_same (length rows) at found) end)
    there q at false tie found =
        let was = slots.there q at found in
        let count = length-append rows (r ∷ []) in
        let old = was.within in record {
          within = omega (arith, count, old);
          named = ap (λ (x : NamedRow). x.name) (get_or_append_left rows (r ∷ []) no_row at old) ∙ was.named;
        }

    back : (q : RowName) (at : ℕ) → IsPlaceOf (rows ++ r ∷ []) q at
        → cond (is_at (row_cmp q) r.name) (Some (length rows)) (lookup (is_at (row_cmp q)) places) ≡ Some at
    back q at is = at_push rows r at is.within
        (λ old. let found = slots.back q at (record {
          within = old;
          named = ap (λ (x : NamedRow). x.name) (sym (get_or_append_left rows (r ∷ []) no_row at old)) ∙ is.named;
        }) in ap (λ b. cond b (Some (length rows)) (lookup (is_at (row_cmp q)) places)) (apart q r.name places at none found) ∙ found)
        (λ last. let same : r.name ≡ q = ap (λ (x : NamedRow). x.name) (sym (get_or_push rows r no_row at (sym last))) ∙ is.named in
        ap (λ b. cond b (Some (length rows)) (lookup (is_at (row_cmp q)) places))
        (subst (λ (n : RowName). is_at (row_cmp q) n ≡ true) (sym same) (ap is_eq (tied_itself row_cmp-total q))) ∙ ap (λ n. Some n) (sym last))

-- ---- another row at a place

-- the names at the places stay where a row of the same name comes
named-set : (rows : List NamedRow) (at i : ℕ) (r : NamedRow) → at < length rows → r.name ≡ (get_or rows at no_row).name
    → (get_or (slice_set rows at r) i no_row).name ≡ (get_or rows i no_row).name
named-set [] at i r within same = absurd (omega (arith, within))
named-set (x ∷ rows) zero zero r within same = same
named-set (x ∷ rows) zero (suc i) r within same = refl
named-set (x ∷ rows) (suc at) zero r within same = refl
named-set (x ∷ rows) (suc at) (suc i) r within same = named-set rows at i r (omega (arith, within)) same

-- each name keeps its place where a row of the same name comes there
pub slots-set : (rows : List NamedRow) (places : List (RowName × ℕ)) (at : ℕ) (r : NamedRow) → AreSlots rows places → IsPlaceOf rows r.name at
    → AreSlots (slice_set rows at r) places
slots-set rows places at r slots is = record {
  ordered = slots.ordered;
  there = λ q i found. let was = slots.there q i found in let count = length-set rows at r in let old = was.within in record {
    within = omega (arith, count, old);
    named = named-set rows at i r is.within (sym is.named) ∙ was.named;
  };
  back = λ q i now. let count = length-set rows at r in let new = now.within in slots.back q i (record {
    within = omega (arith, count, new);
    named = sym (named-set rows at i r is.within (sym is.named)) ∙ now.named;
  });
}

-- what is looked up where another row comes at the place of its name
placed_set : (rows : List NamedRow) (places : List (RowName × ℕ)) (at : ℕ) (r : NamedRow) (q : RowName) → AreSlots rows places
    → IsPlaceOf rows r.name at → lookup (is_at (row_cmp q)) (placed (slice_set rows at r) places)
    ≡ cond (is_at (row_cmp q) r.name) (Some r.row) (lookup (is_at (row_cmp q)) (placed rows places))
placed_set rows places at r q slots is =
    lookup-placed (slice_set rows at r) places (is_at (row_cmp q))
    ∙ chosen (is_at (row_cmp q) r.name) refl (lookup (is_at (row_cmp q)) places) refl
    ∙ ap (cond (is_at (row_cmp q) r.name) (Some r.row)) (sym (lookup-placed rows places (is_at (row_cmp q))))
  where
    -- the place of a name is its own
    other : (i : ℕ) → is_at (row_cmp q) r.name ≡ false → lookup (is_at (row_cmp q)) places ≡ Some i → i ≢ at
    other i differs found same = both_ways (is_at (row_cmp q) r.name) differs
        (subst (λ (n : RowName). is_at (row_cmp q) n ≡ true)
        (sym (slots.there q i found).named ∙ ap (λ (k : ℕ). (get_or rows k no_row).name) same ∙ is.named)
        (ap is_eq (tied_itself row_cmp-total q)))

    chosen : (b : Bool) → is_at (row_cmp q) r.name ≡ b → (o : Option ℕ) → lookup (is_at (row_cmp q)) places ≡ o
        → option_map (row_at (slice_set rows at r)) o ≡ cond b (Some r.row) (option_map (row_at rows) o)
    chosen true tie o found =
        ap (option_map (row_at (slice_set rows at r))) (sym found
        ∙ ap (λ (n : RowName). lookup (is_at (row_cmp n)) places) (same_row q r.name tie) ∙ slots.back r.name at is)
        ∙ ap (λ (x : NamedRow). Some x.row) (get_or-set_same rows at r no_row is.within)
    chosen false differs None found = refl
    chosen false differs (Some i) found =
        ap (λ (x : NamedRow). Some x.row) (get_or-set_other rows at i r no_row (other i differs found))

-- another row at the place of its name is put among all
pub placed-set : (rows : List NamedRow) (places : List (RowName × ℕ)) (at : ℕ) (r : NamedRow) → AreSlots rows places → IsPlaceOf rows r.name at
    → placed (slice_set rows at r) places ≡ insert_entry row_cmp (placed rows places) r.name r.row
placed-set rows places at r slots is =
    same_entries row_cmp-total tied_row (placed (slice_set rows at r) places) (insert_entry row_cmp (placed rows places) r.name r.row)
    (placed-ordered (slice_set rows at r) places slots.ordered)
    (sorted-insert_entry row_cmp-total (placed rows places) r.name r.row (placed-ordered rows places slots.ordered))
    (λ q. placed_set rows places at r q slots is ∙ sym (lookup-insert_entry row_cmp-total (placed rows places) r.name r.row q))
