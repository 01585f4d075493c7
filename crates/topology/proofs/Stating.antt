-- One step of a loop that reads the items of an array.
use Rattle.std.proofs.Common.{◌≡◌, ℕ, ◌+◌, ◌<◌, List, [], ◌∷◌, ◌++◌, length, get_or, drop, sym, ◌∙◌, ap, append_assoc, refl, Option, Some, None}
use Rattle.std.proofs.lemmas.List.{at_drop_more}
use Rattle.serde_json.specs.Data.{Data}
use Rattle.serde_json.specs.View.{view, items_view}
use Rattle.serde_json.specs.declared.value.Value.{Value}
use Rattle.topology.specs.Grammar.{and_then, each_of}
use Rattle.topology.specs.Answers.{followed_by}

-- one element stands behind those before it, or in front of those after it
followed_by-cons : {X : Type 0} (found : List X) (x : X) (rest : Option (List X))
    → followed_by found (and_then rest (λ xs. Some (x ∷ xs))) ≡ followed_by (found ++ x ∷ []) rest
followed_by-cons found x None = refl
followed_by-cons found x (Some xs) = ap Some (sym (append_assoc found (x ∷ []) xs))

-- what one more item states is appended
pub each_of-step : {X : Type 0} (form : Data → Option X) (values : List Value) (i : ℕ) (value : Value) (x : X) (found after : List X)
    (all : Option (List X)) → i < length values → value ≡ get_or values i value → form (view value) ≡ Some x
    → after ≡ found ++ x ∷ [] → all ≡ followed_by found (each_of form (items_view (drop i values)))
    → all ≡ followed_by after (each_of form (items_view (drop (i + 1) values)))
each_of-step form values i value x found after all within is stated pushed so_far =
    let rest = each_of form (items_view (drop (i + 1) values)) in
    so_far
    ∙ at_drop_more (λ l. followed_by found (each_of form (items_view l))) values i value within
    ∙ ap (λ v. followed_by found (each_of form (items_view (v ∷ drop (i + 1) values)))) (sym is)
    ∙ rw stated (followed_by-cons found x rest)
    ∙ ap (λ l. followed_by l rest) (sym pushed)
