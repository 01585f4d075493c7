-- What a report answers, and what it leaves of a node.
use Rattle.std.proofs.Common.{◌≡◌, ℕ, refl, sym, ap, subst}
use Rattle.std.specs.Prelude.{IfErr, IfOk, IfSome, IsSome, Option, Some, None}
use Rattle.run_history.specs.Cases.{CaseShape}
use Rattle.book.specs.DeskReasons.{HasReason}
use Rattle.book.specs.Desks.{DeskView, HasLooked}
use Rattle.book.specs.declared.desk_refusal.DeskRefusal.{DeskRefusal}
use Rattle.book.specs.declared.desk_refusal.DeskRefusal.TheVariants as refusals
use Rattle.holdings.specs.Holding.{HeldView, held_at}
use Rattle.node.specs.Answers.{AnswersReport, AnswersReportOf, FailsReport}
use Rattle.node.specs.Fits.{Fits}
use Rattle.node.specs.Steps.{HasYielded, answered}
use Rattle.node.specs.Workers.{NodeView, worker_at}
use Rattle.outbox.specs.Reports.{IsReportOf, IsUnreported}
use Rattle.node.specs.declared.outcome.NodeFault.TheVariants as faults
use Rattle.node.specs.declared.outcome.Outcome.TheVariants as outcomes
use Rattle.node.proofs.FitLaws.{fails-refused, looked_not, worker-let_go}

-- the own work was reported, of what is held
pub marked : (case : CaseShape) (old new : DeskView) (was : NodeView) (interval mark : ℕ) (here : Option HeldView)
    → Fits case old was → held_at was.held interval ≡ here → IsSome here → HasLooked old new
    → IfSome here (λ held. IsReportOf case old new interval held mark) → AnswersReport case old new here was was (outcomes.Marked mark)
marked case old new was interval mark None fits at there looked is = absurd cc
marked case old new was interval mark (Some held) fits at there looked is = record {
  idle = record { looked = looked; kept = refl };
  report = subst (λ (n : ℕ). IsReportOf case old new n held mark) (sym (fits.held.each interval held at).of_interval) is;
}

-- what a report answers that was refused
pub answers-unreported : (case : CaseShape) (old new : DeskView) (held : HeldView) (was node : NodeView) (why : DeskRefusal)
    → HasLooked old new → HasReason old new held.lease why → HasYielded case.topology held.lease.interval why was node
    → IfOk (answered why) (AnswersReportOf case old new held was node)
answers-unreported case old new held was node (refusals.Busy found) looked reason left = record {
  idle = record { looked = looked; kept = ap worker_at left };
  refused = record { asked = old; looked = looked_not old; reason = reason };
}
answers-unreported case old new held was node (refusals.Stale newer) looked reason left = record {
  looked = looked;
  claim = (reason.stale tt newer).0 refl;
  left = worker-let_go case.topology held.lease.interval was node left;
}
answers-unreported case old new held was node refusals.HistoryFull looked reason left = tt
answers-unreported case old new held was node refusals.KeeperFault looked reason left = tt
answers-unreported case old new held was node (refusals.RowDamaged name bytes) looked reason left = tt
answers-unreported case old new held was node refusals.NoMemory looked reason left = tt

-- and so by what is held
pub unreported-at : (case : CaseShape) (old new : DeskView) (was node : NodeView) (interval : ℕ) (here : Option HeldView) (why : DeskRefusal)
    → Fits case old was → held_at was.held interval ≡ here → IsSome here → HasLooked old new
    → IfSome here (λ held. HasReason old new held.lease why) → HasYielded case.topology interval why was node
    → IfOk (answered why) (AnswersReport case old new here was node)
unreported-at case old new was node interval None why fits at there looked reason left = absurd cc
unreported-at case old new was node interval (Some held) why fits at there looked reason left =
    answers-unreported case old new held was node why looked reason
    (subst (λ (n : ℕ). HasYielded case.topology n why was node) (sym (fits.held.each interval held at).of_interval) left)

-- the reason, by what is held
pub reason-held : (old new : DeskView) (here : Option HeldView) (why : DeskRefusal) → IsSome here
    → IfSome here (λ held. HasReason old new held.lease why) → IfErr (answered why) (FailsReport old new here)
reason-held old new None why there reason = absurd cc
reason-held old new (Some held) why there reason = fails-refused old new held.lease why reason

-- a report that was refused fails for lack of memory alone
pub memory-alone : (why : DeskRefusal) → IsUnreported why → IfErr (answered why) (λ fault. fault ≡ faults.NoMemory)
memory-alone (refusals.Busy found) only = tt
memory-alone (refusals.Stale newer) only = tt
memory-alone refusals.HistoryFull only = absurd only
memory-alone refusals.KeeperFault only = absurd only
memory-alone (refusals.RowDamaged name bytes) only = absurd only
memory-alone refusals.NoMemory only = refl
