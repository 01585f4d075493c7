-- A drain grows by its next entries, and two histories that are drained from one beginning on are the same.
use Rattle.std.proofs.Common.{◌≡◌, ◌⊎◌, inl, inr, ℕ, ◌≤◌, List, [], ◌∷◌, ◌++◌, length, refl, sym, ◌∙◌, ap, subst, arith, append_assoc}
use Rattle.std.proofs.lemmas.List.{append-nil, length_push}
use Rattle.mw_types.specs.declared.entry.Entry.{Entry}
use Rattle.run_history.specs.Cases.{CaseShape}
use Rattle.run_history.specs.Runs.{empty_run}
use Rattle.run_history.specs.Fences.{Begins}
use Rattle.run_history.proofs.Beginnings.{Begins-length, Begins-push, push_same}
use Rattle.history_laws.specs.Writes.{IsLegalAndFenced}
use Rattle.history_laws.proofs.Along.{AreLegal-apart}
use Rattle.world.specs.drains.Drains.{HasEnded, IsNextEntry, IsDraining, IsDrained}
use Rattle.world.proofs.drains.OneStep.{Follows, one_step, ended-none}

-- ---- growing

-- a history drains from its own length on, as nothing comes after it
pub draining-first : (case : CaseShape) (history : List Entry) → IsDraining case (length history) history
draining-first case history before entry begins after =
    let short = Begins-length (before ++ entry ∷ []) history begins in
    let longer = length_push before entry in absurd (omega (arith, short, longer, after))

-- a history that drains does so with the next entry too
pub draining-push : (case : CaseShape) (from : ℕ) (history : List Entry) (entry : Entry) → IsDraining case from history
    → IsNextEntry case from history entry → IsDraining case from (history ++ entry ∷ [])
draining-push case from history entry draining step before other begins after =
    by_case (Begins-push (before ++ other ∷ []) history entry begins)
  where
    by_case : (before ++ other ∷ [] ≡ history ++ entry ∷ []) ⊎ Begins (before ++ other ∷ []) history → IsNextEntry case from before other
    by_case (inl whole) =
        let same = push_same before history other entry whole in
        subst (λ h. IsNextEntry case from h other) (sym same.0) (subst (IsNextEntry case from history) (sym same.1) step)
    by_case (inr begins) = draining before other begins after

-- ---- one list

-- the entries before the rest are a beginning of all
next-begins : (done : List Entry) (entry : Entry) (rest : List Entry) → Begins (done ++ entry ∷ []) (done ++ entry ∷ rest)
next-begins done entry rest = (rest, append_assoc done (entry ∷ []) rest)

-- the next entry of a legal and fenced history follows those before it
next-follows : (case : CaseShape) (done : List Entry) (entry : Entry) (rest : List Entry) → IsLegalAndFenced case (done ++ entry ∷ rest)
    → Follows case done entry
next-follows case done entry rest lawful = record {
  may = (AreLegal-apart case done (entry ∷ rest) empty_run lawful.legal).1.0;
  under = lawful.fenced done entry (next-begins done entry rest);
}

-- the next entry of a drained history is the next of a drain
next-step : (case : CaseShape) (from : ℕ) (done : List Entry) (entry : Entry) (rest : List Entry) → from ≤ length done
    → IsDrained case from (done ++ entry ∷ rest) → IsNextEntry case from done entry
next-step case from done entry rest after drained = drained.draining done entry (next-begins done entry rest) after

-- a history that is drained does not go on
ended-rest : (case : CaseShape) (from : ℕ) (done : List Entry) (entry : Entry) (rest : List Entry) → from ≤ length done
    → IsDrained case from (done ++ []) → IsDrained case from (done ++ entry ∷ rest) → ⊥
ended-rest case from done entry rest after one other =
    ended-none case from done entry (subst (HasEnded case from) (append-nil done) one.ended)
    (next-step case from done entry rest after other)

-- two ways on from one beginning, each of which is drained, are the same
pub one_rest : (case : CaseShape) (from : ℕ) (done one other : List Entry) → from ≤ length done
    → IsDrained case from (done ++ one) → IsLegalAndFenced case (done ++ one)
    → IsDrained case from (done ++ other) → IsLegalAndFenced case (done ++ other) → one ≡ other
one_rest case from done [] [] after x f y g = refl
one_rest case from done [] (b ∷ bs) after x f y g = absurd (ended-rest case from done b bs after x y)
one_rest case from done (a ∷ more) [] after x f y g = absurd (ended-rest case from done a more after y x)
one_rest case from done (a ∷ more) (b ∷ bs) after x f y g =
    let same : a ≡ b = one_step case from done a b (next-step case from done a more after x) (next-step case from done b bs after y)
    (next-follows case done a more f) (next-follows case done b bs g) in
    let one : done ++ a ∷ more ≡ (done ++ a ∷ []) ++ more = sym (append_assoc done (a ∷ []) more) in
    let other : done ++ b ∷ bs ≡ (done ++ a ∷ []) ++ bs = (λ i. done ++ sym same i ∷ bs) ∙ sym (append_assoc done (a ∷ []) bs) in
    let longer = length_push done a in
    let rest = one_rest case from (done ++ a ∷ []) more bs (omega (arith, longer, after))
    (subst (IsDrained case from) one x) (subst (IsLegalAndFenced case) one f)
    (subst (IsDrained case from) other y) (subst (IsLegalAndFenced case) other g) in
    λ i. same i ∷ rest i

-- a way on that goes as a drain does begins one that is drained
one_begins : (case : CaseShape) (from : ℕ) (done one whole : List Entry) → from ≤ length done
    → IsDraining case from (done ++ one) → IsLegalAndFenced case (done ++ one)
    → IsDrained case from (done ++ whole) → IsLegalAndFenced case (done ++ whole) → Begins one whole
one_begins case from done [] whole after x f y g = (whole, refl)
one_begins case from done (a ∷ more) [] after x f y g =
    absurd (ended-none case from done a (subst (HasEnded case from) (append-nil done) y.ended)
    (x done a (next-begins done a more) after))
one_begins case from done (a ∷ more) (b ∷ bs) after x f y g =
    let same : a ≡ b = one_step case from done a b (x done a (next-begins done a more) after) (next-step case from done b bs after y)
    (next-follows case done a more f) (next-follows case done b bs g) in
    let one : done ++ a ∷ more ≡ (done ++ a ∷ []) ++ more = sym (append_assoc done (a ∷ []) more) in
    let other : done ++ b ∷ bs ≡ (done ++ a ∷ []) ++ bs = (λ i. done ++ sym same i ∷ bs) ∙ sym (append_assoc done (a ∷ []) bs) in
    let longer = length_push done a in
    let rest : Begins more bs = one_begins case from (done ++ a ∷ []) more bs (omega (arith, longer, after))
    (subst (IsDraining case from) one x) (subst (IsLegalAndFenced case) one f)
    (subst (IsDrained case from) other y) (subst (IsLegalAndFenced case) other g) in
    (rest.0, λ i. same i ∷ rest.1 i)

-- so a history that goes on as a drain does begins the one that is drained from the same beginning on
pub drained-begun : (case : CaseShape) (front one whole : List Entry)
    → IsDraining case (length front) (front ++ one) → IsLegalAndFenced case (front ++ one)
    → IsDrained case (length front) (front ++ whole) → IsLegalAndFenced case (front ++ whole) → Begins (front ++ one) (front ++ whole)
drained-begun case front one whole x f y g =
    let rest = one_begins case (length front) front one whole (omega arith) x f y g in
    (rest.0, append_assoc front one rest.0 ∙ ap (λ l. front ++ l) rest.1)
