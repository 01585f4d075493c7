-- The commit numbers of what a desk appended.
use Rattle.std.proofs.Common.{◌≡◌, ◌∙◌, ◌+◌, ◌++◌, ◌∷◌, ℕ, suc, List, [], length, drop, refl, sym, ap, arith, append-nil}
use Rattle.std.proofs.lemmas.List.{drop_all}
use Rattle.mw_types.specs.declared.entry.Entry.{Entry}
use Rattle.book.specs.Desks.{numbers_from}

-- what follows a beginning has the numbers from the beginning's length on
pub numbers_from-append : (at : ℕ) (before more : List Entry)
    → numbers_from at (before ++ more) ≡ numbers_from at before ++ numbers_from (at + length before) more
numbers_from-append at [] more = ap (λ n. numbers_from n more) (omega arith)
numbers_from-append at (entry ∷ before) more =
    ap (λ l. at ∷ l) (numbers_from-append (suc at) before more
    ∙ ap (λ n. numbers_from (suc at) before ++ numbers_from n more) (omega arith))

-- what is left behind a beginning
pub drop-front : (before more : List Entry) → drop (length before) (before ++ more) ≡ more
drop-front [] more = refl
drop-front (entry ∷ before) more = drop-front before more

-- who saw so much and no more appended nothing
pub numbers_from-none : (at : ℕ) (seen : List Entry) → numbers_from at (drop (length seen) seen) ≡ []
numbers_from-none at seen = ap (numbers_from at) (drop_all (length seen) seen (omega arith))

-- one entry behind what was there has that length as its number
pub numbers_from-one : (before seen : List Entry) (entry : Entry) → seen ≡ before ++ entry ∷ []
    → numbers_from (length before) (drop (length before) seen) ≡ length before ∷ []
numbers_from-one before seen entry appended =
    ap (λ l. numbers_from (length before) (drop (length before) l)) appended
    ∙ ap (numbers_from (length before)) (drop-front before (entry ∷ []))

-- who saw so much and no more has the numbers that it had
pub own-stays : (own : List ℕ) (seen : List Entry) → own ≡ own ++ numbers_from (length seen) (drop (length seen) seen)
own-stays own seen = sym (ap (λ l. own ++ l) (numbers_from-none (length seen) seen) ∙ append-nil own)
