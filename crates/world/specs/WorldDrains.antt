-- When a drain of a world is under way. Own.
use Rattle.std.specs.Prelude.{◌≡◌, [], ℕ, List, All, Some, length, map, replicate, slice_get}
use Rattle.run_history.specs.Cases.{CaseShape}
use Rattle.book.specs.Desks.{DeskView}
use Rattle.node.specs.Fits.{Fits}
use Rattle.node.specs.Workers.{NodeView, idle, worker_at}
use Rattle.world.specs.drains.DrainTurns.{DrainView, IsUnderWay}
use Rattle.world.specs.scripts.WorldStates.{WorldState}

-- so many new workers, by their numbers
pub record AreNew (count : ℕ) (nodes : List NodeView) : Type 0 where
  pub all : length nodes ≡ count
  pub numbered : (number : ℕ) (node : NodeView) → slice_get nodes number ≡ Some node → node.number ≡ number
  pub have_nothing : map worker_at nodes ≡ replicate count idle
  pub fit : (case : CaseShape) (desk : DeskView) → desk.case ≡ case → All (Fits case desk) nodes

-- a drain of a world's book is under way: its workers have nothing, no message is in flight, its relays hold
-- nothing, and all that came since the drain was begun are its own turns
pub record HasDrain (world : WorldState) (drain : DrainView) : Type 0 where
  pub under_way : IsUnderWay world.book drain
  pub idle : AreNew 16 world.nodes
  pub none : world.flight ≡ []
  pub none_left : world.left ≡ []
  pub forgot : world.relays ≡ replicate world.routes.weaks []
