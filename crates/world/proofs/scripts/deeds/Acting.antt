-- When a worker of a scripted world is about to act, and when it has acted as the script does.
use Rattle.std.proofs.Common.{◌≡◌, ℕ, refl, ap}
use Rattle.std.specs.Prelude.{IsSome, None, Option, Some, slice_get, slice_set, unwrap_or}
use Rattle.run_history.specs.Cases.{CaseShape}
use Rattle.book.specs.Books.{BookView, core_of}
use Rattle.book.specs.Lawful.{IsLawful}
use Rattle.book.specs.OwnDesks.{own_view, telling}
use Rattle.node.specs.Fits.{Fits}
use Rattle.node.specs.Workers.{NodeView, idle, worker_at}
use Rattle.node.specs.declared.outcome.Outcome.{Outcome}
use Rattle.world.specs.scripts.Acts.{act, without_message}
use Rattle.world.specs.scripts.Worlds.{World, worker_of}
use Rattle.plans.specs.declared.step.Step.{Step}
use Rattle.plans.specs.declared.step.Step.TheVariants as steps

-- a worker of a scripted world is about to act over a book that its desk has to itself, which tells
pub record IsActing (case : CaseShape) (old : BookView) (world : World) (number : ℕ) (was : NodeView) : Type 0 where
  pub of_case : old.case ≡ case
  pub told : IsSome old.rows
  pub lawful : IsLawful case (core_of old)
  pub history : world.history ≡ old.history
  pub marks : world.marks ≡ old.marks
  pub there : slice_get world.workers number ≡ Some (worker_at was)
  pub of_number : was.number ≡ number
  pub fits : Fits case (own_view old) was

-- the worker acted as the scripted one does
abbrev pub Acts : CaseShape → BookView → World → ℕ → NodeView → Step → Outcome → Type 0
Acts case new world number node step outcome = (
  outcome,
  record world {
    history = new.history;
    marks = new.marks;
    workers = slice_set world.workers number (worker_at node);
  },
) ≡ act case world step

-- and, with a message gone
abbrev pub ActsWithout : CaseShape → BookView → World → ℕ → NodeView → ℕ → Outcome → Type 0
ActsWithout case new world number node message outcome = (
  outcome,
  record world {
    history = new.history;
    marks = new.marks;
    workers = slice_set world.workers number (worker_at node);
    flight = without_message message world.flight;
  },
) ≡ act case world (steps.Take number message)

-- the worker of this number is the one that acts
pub acting-worker : (case : CaseShape) (old : BookView) (world : World) (number : ℕ) (was : NodeView)
    → IsActing case old world number was → worker_of world number ≡ worker_at was
acting-worker case old world number was acting = ap (λ o. unwrap_or o idle) acting.there

-- what a desk that is alone tells it tells
pub tells : {X : Type 0} (o : Option X) → IsSome o → telling o ≡ Some tt
tells None some = absurd (cc)
tells (Some x) some = refl
