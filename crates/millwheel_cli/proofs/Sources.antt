-- Event files that are read one after the other.
use Rattle.std.proofs.Common.{◌≡◌, ◌≤◌, ◌+◌, ◌-◌, ◌++◌, ℕ, List, [], ◌∷◌, length, Option, sym, subst, inl, inr}
use Rattle.std.proofs.lemmas.List.{append_assoc}
use Rattle.mw_ports.specs.Shelves.{Files}
use Rattle.injector.specs.Sources.{Source}
use Rattle.task_runs.specs.declared.status.Status.{Status}
use Rattle.millwheel_cli.specs.declared.refusal.Refusal.{Refusal}
use Rattle.millwheel_cli.specs.Limits.{events_limit, lines_limit}
use Rattle.millwheel_cli.specs.Files.{HoldsSource, HoldsSources, source_taken}
use Rattle.millwheel_cli.specs.Reasons.{ShelfSeen, IsFileRefused, IsSourceRefused}
use Rattle.millwheel_cli.specs.Inside.{UnlessWant}
use Rattle.millwheel_cli.proofs.Refusals.{unless_map}
use Rattle.millwheel_cli.proofs.Reasons.{seen_of, file_over}

-- one more file is taken
pub taken_next : (files : Option Files) (file room : ℕ) (names left more : List (List ℕ)) (name : List ℕ) (source : Source)
    (sources : List Source) → left ≡ name ∷ more
    → ((rest : List Source) → HoldsSources files file room left rest → HoldsSources files 0 lines_limit names (sources ++ rest))
    → HoldsSource files file room name source
    → (rest : List Source) → HoldsSources files (file + 1) (room - length source) more rest
    → HoldsSources files 0 lines_limit names ((sources ++ source ∷ []) ++ rest)
taken_next files file room names left more name source sources same before holds rest after =
    subst (HoldsSources files 0 lines_limit names) (sym (append_assoc sources (source ∷ []) rest))
    (before (source ∷ rest) (subst (λ ns. HoldsSources files file room ns (source ∷ rest)) (sym same) (holds, after)))

-- a file behind one that is taken is refused
pub refused_next : (seen : ShelfSeen) (file room : ℕ) (names left more : List (List ℕ)) (name : List ℕ) (source : Source) (s : Status)
    → left ≡ name ∷ more
    → (IsSourceRefused seen file room left s → IsSourceRefused seen 0 lines_limit names s)
    → HoldsSource seen.files file room name source
    → IsSourceRefused seen (file + 1) (room - length source) more s → IsSourceRefused seen 0 lines_limit names s
refused_next seen file room names left more name source s same before holds after =
    before (subst (λ ns. IsSourceRefused seen file room ns s) (sym same) (inr (source, holds, after)))

-- the next file is refused
pub refused_here : (files later : Option Files) (f0 f1 f2 l0 l1 l2 file room : ℕ) (names left more : List (List ℕ)) (name : List ℕ)
    (refusal : Refusal) → later ≡ files → f0 ≤ f1 → l0 ≤ l1 → left ≡ name ∷ more
    → ((s : Status) → IsSourceRefused (seen_of files f0 f2 l0 l2) file room left s
    → IsSourceRefused (seen_of files f0 f2 l0 l2) 0 lines_limit names s)
    → UnlessWant (IsFileRefused (seen_of later f1 f2 l1 l2) name events_limit (source_taken file room)) refusal
    → UnlessWant (IsSourceRefused (seen_of files f0 f2 l0 l2) 0 lines_limit names) refusal
refused_here files later f0 f1 f2 l0 l1 l2 file room names left more name refusal unchanged f l same before is =
    unless_map (IsFileRefused (seen_of later f1 f2 l1 l2) name events_limit (source_taken file room))
    (IsSourceRefused (seen_of files f0 f2 l0 l2) 0 lines_limit names) refusal
    (λ s why. before s (subst (λ ns. IsSourceRefused (seen_of files f0 f2 l0 l2) file room ns s) (sym same)
    (inl (file_over files f0 f1 f2 l0 l1 l2 name events_limit (source_taken file room) s f l
    (subst (λ (fs : Option Files). IsFileRefused (seen_of fs f1 f2 l1 l2) name events_limit (source_taken file room) s)
    unchanged why))))) is
