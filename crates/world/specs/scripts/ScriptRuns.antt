-- How far a script has been run. No public clause cites this module.
use Rattle.std.specs.Prelude.{◌≡◌, ◌≤◌, List, IsSome}
use Rattle.std.specs.Option.{is_some}
use Rattle.run_history.specs.Fences.{Begins}
use Rattle.world.specs.scripts.Acts.{world_after}
use Rattle.plans.specs.declared.step.Step.{Step}
use Rattle.world.specs.scripts.WorldStates.{WorldState, world_of}

-- a script was begun in one world, and in another it has these steps left: where told they lead to where the
-- whole does
pub record IsRunning (start world : WorldState) (left all : List Step) : Type 0 where
  pub case : world.book.case ≡ start.book.case
  pub routes : world.routes ≡ start.routes
  pub limit : world.book.limit ≡ start.book.limit
  pub tells : is_some world.book.rows ≡ is_some start.book.rows
  pub faults : start.book.faults ≤ world.book.faults
  pub grown : Begins start.book.history world.book.history
  pub script : IsSome start.book.rows → world_after start.book.case (world_of world) left
      ≡ world_after start.book.case (world_of start) all
