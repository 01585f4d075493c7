-- Fenced histories, their beginnings, and how they go on.
use Rattle.std.proofs.Common.{◌≡◌, ℕ, Bool, true, false, List, [], ◌∷◌, ◌++◌, take, refl, sym, ◌∙◌, ap, subst, arith, append_assoc, length-append, inl, inr, ◌==◌, ◌&&◌}
use Rattle.std.specs.Prelude.{⊤, Option, Some, None, ◌⊎◌, slice_get}
use Rattle.std.proofs.lemmas.Bool.{eqb-true}
use Rattle.std.specs.Cmp.{first_so, second_so}
use Rattle.std.specs.Option.{option_and_then, option_map_or}
use Rattle.std.proofs.lemmas.List.{append-nil}
use Rattle.mw_types.specs.declared.identity.RowName.{RowName}
use Rattle.mw_types.specs.declared.entry.Entry.{Entry}
use Rattle.mw_types.specs.declared.entry.Entry.TheVariants.{Claim}
use Rattle.topology.specs.Shapes.{Shape}
use Rattle.run_history.specs.Made.{row_written}
use Rattle.run_history.specs.Fences.{Begins, interval_of, sequencer_of, last_claim, IsUnderLastClaim, IsFenced}
use Rattle.list_lemmas.proofs.Lists.{some_same, none_some}
use Rattle.run_history.proofs.Beginnings.{Begins-trans, Begins-length, Begins-push, push_same, Begins-take}

-- a beginning of a fenced history is fenced
pub IsFenced-begins : (shape : Shape) (front history : List Entry) → Begins front history → IsFenced shape history → IsFenced shape front
IsFenced-begins shape front history begins fenced before entry inside = fenced before entry
    (Begins-trans (before ++ entry ∷ []) front history inside begins)

-- the empty history is fenced
pub IsFenced-empty : (shape : Shape) → IsFenced shape []
IsFenced-empty shape before entry begins = absurd (omega
    (arith, length-append before (entry ∷ []), Begins-length (before ++ entry ∷ []) [] begins))

-- a fenced history stays fenced with an entry under the last claim of its row's interval
pub IsFenced-push : (shape : Shape) (history : List Entry) (entry : Entry) → IsFenced shape history → IsUnderLastClaim shape history entry
    → IsFenced shape (history ++ entry ∷ [])
IsFenced-push shape history entry fenced under before e begins = by_case (Begins-push (before ++ e ∷ []) history entry begins)
  where
    by_case : (before ++ e ∷ [] ≡ history ++ entry ∷ []) ⊎ Begins (before ++ e ∷ []) history → IsUnderLastClaim shape before e
    by_case (inl same) =
        let parts = push_same before history e entry same in
        subst (λ (b : List Entry). IsUnderLastClaim shape b e) (sym parts.0) (subst (IsUnderLastClaim shape history) (sym parts.1) under)
    by_case (inr inside) = fenced before e inside

-- a claim is on no row
pub claim-under : (shape : Shape) (history : List Entry) (worker interval : ℕ) → IsUnderLastClaim shape history (Claim worker interval)
claim-under shape history worker interval name written = absurd (none_some name written)

-- an entry with the last claim's number, on a row of the interval
pub entry-under : (shape : Shape) (history : List Entry) (entry : Entry) (name : RowName) (interval s : ℕ) → row_written entry ≡ Some name
    → interval_of shape name ≡ Some interval → last_claim interval history ≡ Some s → sequencer_of entry ≡ Some s
    → IsUnderLastClaim shape history entry
entry-under shape history entry name interval s written lies last carries other here =
    let same : name ≡ other = some_same name other (sym written ∙ here) in
    ap (λ (n : RowName). option_and_then (λ (i : ℕ). last_claim i history) (interval_of shape n)) (sym same)
    ∙ ap (option_and_then (λ (i : ℕ). last_claim i history)) lies ∙ last ∙ sym carries

-- an entry on a row of the interval, in a fenced history, carries the last claim's number
pub carried : (shape : Shape) (before : List Entry) (entry : Entry) (name : RowName) (interval s : ℕ) → IsUnderLastClaim shape before entry
    → row_written entry ≡ Some name → interval_of shape name ≡ Some interval → last_claim interval before ≡ Some s
    → sequencer_of entry ≡ Some s
carried shape before entry name interval s under written lies last =
    sym (under name written) ∙ ap (option_and_then (λ (i : ℕ). last_claim i before)) lies ∙ last

-- each of these entries is under the last claim of its row's interval, after those before it
abbrev pub AreUnder : Shape → List Entry → List Entry → Type 0
AreUnder shape before [] = ⊤
AreUnder shape before (entry ∷ entries) = IsUnderLastClaim shape before entry × AreUnder shape (before ++ entry ∷ []) entries

-- a fenced history stays fenced with several entries under the last claims of their rows' intervals
pub IsFenced-all : (shape : Shape) (entries before : List Entry) → IsFenced shape before → AreUnder shape before entries
    → IsFenced shape (before ++ entries)
IsFenced-all shape [] before fenced under = subst (IsFenced shape) (sym (append-nil before)) fenced
IsFenced-all shape (e ∷ es) before fenced under =
    subst (IsFenced shape) (append_assoc before (e ∷ []) es)
    (IsFenced-all shape es (before ++ e ∷ []) (IsFenced-push shape before e fenced under.0) under.1)

-- whether two numbers that may be none are the same
abbrev same_number : Option ℕ → Option ℕ → Bool
same_number None None = true
same_number None (Some b) = false
same_number (Some a) None = false
same_number (Some a) (Some b) = a == b

-- numbers that a test finds the same are the same
same_number-true : (o p : Option ℕ) → same_number o p ≡ true → o ≡ p
same_number-true None None e = refl
same_number-true None (Some b) e = cc
same_number-true (Some a) None e = cc
same_number-true (Some a) (Some b) e = ap Some (eqb-true a b e)

-- whether each of these entries is under the last claim of its row's interval, after those before it
abbrev pub are_under : Shape → List Entry → List Entry → Bool
are_under shape before [] = true
are_under shape before (entry ∷ entries) =
    option_map_or (λ (name : RowName). same_number (option_and_then (λ (i : ℕ). last_claim i before) (interval_of shape name))
    (sequencer_of entry)) (row_written entry) true
    && are_under shape (before ++ entry ∷ []) entries

-- entries that the test finds under their claims are
AreUnder-tested : (shape : Shape) (before entries : List Entry) → are_under shape before entries ≡ true → AreUnder shape before entries
AreUnder-tested shape before [] e = tt
AreUnder-tested shape before (entry ∷ entries) e = (
  (λ name written. same_number-true _ _ (here name (row_written entry) written (first_so _ _ e))),
  AreUnder-tested shape (before ++ entry ∷ []) entries (second_so _ _ e),
)
  where
    here : (name : RowName) (w : Option RowName) → w ≡ Some name
        → option_map_or (λ (n : RowName). same_number (option_and_then (λ (i : ℕ). last_claim i before) (interval_of shape n))
        (sequencer_of entry)) w true ≡ true
        → same_number (option_and_then (λ (i : ℕ). last_claim i before) (interval_of shape name)) (sequencer_of entry) ≡ true
    here name w is passes = sym (ap (λ o. option_map_or
        (λ (n : RowName). same_number (option_and_then (λ (i : ℕ). last_claim i before) (interval_of shape n))
        (sequencer_of entry)) o true) is) ∙ passes

-- a history of which the test finds each entry under its claim is fenced
pub IsFenced-tested : (shape : Shape) (history : List Entry) → are_under shape [] history ≡ true → IsFenced shape history
IsFenced-tested shape history e = IsFenced-all shape history [] (IsFenced-empty shape) (AreUnder-tested shape [] history e)

-- each entry of a fenced history, by its number, is under the last claim of its row's interval
pub IsFenced-at : (shape : Shape) (history : List Entry) (n : ℕ) (entry : Entry) → IsFenced shape history → slice_get history n ≡ Some entry
    → IsUnderLastClaim shape (take n history) entry
IsFenced-at shape history n entry fenced at = fenced (take n history) entry (Begins-take history n entry at)
