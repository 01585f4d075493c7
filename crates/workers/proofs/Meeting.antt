-- A worker whose desk met a note.
use Rattle.run_history.specs.Cases.{CaseShape}
use Rattle.book.specs.Desks.{DeskView, HasLooked}
use Rattle.holdings.specs.Holding.{HasSeenOthers}
use Rattle.node.specs.Fits.{Fits}
use Rattle.node.specs.Workers.{NodeView}

-- what a look shows was written by others
pub others-looked : (case : CaseShape) (old new : DeskView) (node : NodeView) → HasLooked old new → Fits case old node
    → HasSeenOthers old new node.held
others-looked case old new node looked fits = record {
  case = looked.case;
  told = looked.told;
  rest = looked.others;
  more = looked.more;
  foreign = λ interval held is. looked.foreign held.lease (fits.held.each interval held is).may_use;
  leases = λ interval held is. looked.leases held.lease (fits.held.each interval held is).may_use;
}
