-- What the lines of a text say, where some of them were read.
use Rattle.std.proofs.Common.{◌≡◌, ◌≢◌, ◌∙◌, List, ap}
use Rattle.std.specs.Prelude.{Result, Err}
use Rattle.mw_types.specs.declared.refusal.PlanRefusal.{PlanRefusal}
use Rattle.mw_types.specs.declared.refusal.PlanRefusal.TheVariants.{NoMemory}
use Rattle.text_lines.specs.Progress.{followed_by}

-- a refusal of what is left is one of the whole
pub refused_behind :
    {X : Type 0} (said : List X) (whole rest : Result (List X) PlanRefusal) (refusal : PlanRefusal)
    → whole ≡ followed_by said rest
    → (refusal ≢ NoMemory → rest ≡ Err refusal)
    → (refusal ≢ NoMemory → whole ≡ Err refusal)
refused_behind said whole rest refusal same refused = λ other. same ∙ ap (followed_by said) (refused other)
