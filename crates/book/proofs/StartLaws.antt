-- A book in which nothing has happened.
use Rattle.std.proofs.Common.{◌≡◌, ◌<◌, ◌+◌, ℕ, List, [], ◌∷◌, length, take, refl, sym, ◌∙◌, ap, subst, get_or}
use Rattle.std.specs.Prelude.{Option, Some, None, IfSome, All, slice_get, option_map}
use Rattle.std.proofs.lemmas.List.{take_more}
use Rattle.std.proofs.lemmas.List.Elements.{All-append, All-from_recursion}
use Rattle.row_keeper.specs.Rows.{Rows, entry_of}
use Rattle.row_keeper.specs.declared.keeper.KeptRow.{KeptRow}
use Rattle.list_lemmas.proofs.Lists.{none_some}

-- what holds of the first of a list, and of the next
pub All-more : {X : Type 0} (P : X → Type 0) (xs : List X) (i : ℕ) (d : X) → i < length xs → All P (take i xs)
    → P (get_or xs i d) → All P (take (i + 1) xs)
All-more P xs i d within done next =
    subst (All P) (sym (take_more xs i d within)) (All-append P (take i xs) (get_or xs i d ∷ []) done
    (All-from_recursion P (get_or xs i d ∷ []) (next, tt)))

-- a keeper whose first row is none has no row, where a contract can see its rows
pub first-none : (old new : Option Rows) (found : Option KeptRow) → new ≡ old → found ≡ None
    → IfSome old (λ held. option_map entry_of found ≡ slice_get held 0) → IfSome new (λ rows. rows ≡ [])
first-none old new found same none first = subst (λ o. IfSome o (λ rows. rows ≡ [])) (sym same) (by_told old first)
  where
    by_rows : (rows : Rows) → None ≡ slice_get rows 0 → rows ≡ []
    by_rows [] is = refl
    by_rows (r ∷ rs) is = absurd (none_some r is)

    by_told : (o : Option Rows) → IfSome o (λ held. option_map entry_of found ≡ slice_get held 0) → IfSome o (λ rows. rows ≡ [])
    by_told None told = tt
    by_told (Some rows) told = by_rows rows (sym (ap (option_map entry_of) none) ∙ told)
