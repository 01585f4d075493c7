-- A worker whose desk looks.
use Rattle.std.proofs.Common.{refl}
use Rattle.run_history.specs.Cases.{CaseShape}
use Rattle.book.specs.Desks.{DeskView, HasLooked, IsSound}
use Rattle.node.specs.Fits.{Fits}
use Rattle.node.specs.Workers.{NodeView}
use Rattle.node.proofs.FitLaws.{Fits-beside}
use Rattle.workers.specs.Serving.{HasServed}
use Rattle.workers.proofs.Serving.{served-looked}

-- a worker that fits its desk still does where the desk has looked, and did nothing
pub served-beside : (case : CaseShape) (old new : DeskView) (node : NodeView) → IsSound old → IsSound new → HasLooked old new
    → Fits case old node → HasServed case 0 old new node node
served-beside case old new node was is looked fits = served-looked case old new node node
    (Fits-beside case old new node was is (record {
      case = looked.case;
      told = looked.told;
      rest = looked.others;
      more = looked.more;
      foreign = λ interval held at. looked.foreign held.lease (fits.held.each interval held at).may_use;
      leases = λ interval held at. looked.leases held.lease (fits.held.each interval held at).may_use;
    }) fits) refl looked refl
