-- Workers that keep what they hold and their seats, and are not to stall.
use Rattle.std.proofs.Common.{◌≡◌, ◌<◌, ℕ, false, List, length, refl}
use Rattle.std.specs.Prelude.{slice_index_or, slice_set}
use Rattle.row_keeper.specs.declared.keeper.Keeper.{Ghosts}
use Rattle.workers.specs.Crews.{AreCalm, StayCalm, desk_of}
use Rattle.workers.specs.declared.crew.Worker.{Worker}
use Rattle.workers.proofs.Doing.{all-set, keeps-set, keeps-then}
use Rattle.workers.proofs.Sitting.{desk-same}

-- nothing was done
pub calm-not : {K J : Type 0} {g : Ghosts K} (crew : List (Worker K J g)) → AreCalm crew → StayCalm crew crew
calm-not crew calm = (calm, record { node = λ at d below. refl; desk = λ at d below. refl })

-- and again
pub calm-then : {K J : Type 0} {g : Ghosts K} (old mid new : List (Worker K J g)) → length mid ≡ length old → StayCalm old mid
    → StayCalm mid new → StayCalm old new
calm-then {K} {J} {g} old mid new long one two = (
  two.0,
  record {
    node = keeps-then (λ (w : Worker K J g). w.node) old mid new long one.1.node two.1.node;
    desk = keeps-then (λ (w : Worker K J g). desk_of w) old mid new long one.1.desk two.1.desk;
  },
)

-- a worker at its seat, with its node, is told not to stall
pub calm-set : {K J : Type 0} {g : Ghosts K} (crew : List (Worker K J g)) (at : ℕ) (was now : Worker K J g) → at < length crew
    → was ≡ slice_index_or crew at was → now.seat ≡ was.seat → now.node ≡ was.node → now.orders.stall ≡ false → AreCalm crew
    → StayCalm crew (slice_set crew at now)
calm-set {K} {J} {g} crew at was now below is seat node stall calm = (
  all-set (λ (w : Worker K J g). w.orders.stall ≡ false) crew at now below calm stall,
  record {
    node = keeps-set (λ (w : Worker K J g). w.node) crew at was now below is node;
    desk = keeps-set (λ (w : Worker K J g). desk_of w) crew at was now below is (desk-same was now seat);
  },
)
