-- Workers that come to see what others have seen.
use Rattle.std.proofs.Common.{◌≡◌, ◌<◌, ℕ, List, length, refl, sym, subst}
use Rattle.std.specs.Prelude.{slice_index_or, slice_set}
use Rattle.std.proofs.lemmas.Grind.{get_or-set_at}
use Rattle.row_keeper.specs.declared.keeper.Keeper.{Ghosts}
use Rattle.run_history.specs.Fences.{Begins}
use Rattle.run_history.proofs.Beginnings.{Begins-trans}
use Rattle.workers.specs.Crews.{HasDone, HasTold, desk_of}
use Rattle.workers.specs.declared.crew.Worker.{Worker}
use Rattle.workers.proofs.Doing.{is-there, stepped-begins}

-- a worker that has seen what another had, in its place
pub told-set : {K J : Type 0} {g : Ghosts K} (old mid : List (Worker K J g)) (from to : ℕ) (was now : Worker K J g) → from < length old
    → was ≡ slice_index_or old from was → to < length mid → Begins (desk_of was).seen (desk_of now).seen
    → HasTold from to old (slice_set mid to now)
told-set {K} {J} {g} old mid from to was now below is within begins d e =
    subst (λ (w : Worker K J g). Begins (desk_of w).seen (desk_of (slice_index_or (slice_set mid to now) to e)).seen)
    (sym (is-there old from was d below is))
    (subst (λ (w : Worker K J g). Begins (desk_of was).seen (desk_of w).seen) (sym (get_or-set_at mid to to now e refl within)) begins)

-- who was told has seen it still
pub told-more : {K J : Type 0} {g : Ghosts K} (most from to : ℕ) (old mid new : List (Worker K J g)) → to < length mid → HasDone most mid new
    → HasTold from to old mid → HasTold from to old new
told-more most from to old mid new within done told d e =
    Begins-trans (desk_of (slice_index_or old from d)).seen (desk_of (slice_index_or mid to e)).seen (desk_of (slice_index_or new to e)).seen
    (told d e) (stepped-begins (slice_index_or mid to e) (slice_index_or new to e) (done.each to e within))

-- who is told what one has seen is told what that one had seen before
pub told-after : {K J : Type 0} {g : Ghosts K} (most from to : ℕ) (old mid new : List (Worker K J g)) → from < length old → HasDone most old mid
    → HasTold from to mid new → HasTold from to old new
told-after most from to old mid new below done told d e =
    Begins-trans (desk_of (slice_index_or old from d)).seen (desk_of (slice_index_or mid from d)).seen (desk_of (slice_index_or new to e)).seen
    (stepped-begins (slice_index_or old from d) (slice_index_or mid from d) (done.each from d below)) (told d e)
