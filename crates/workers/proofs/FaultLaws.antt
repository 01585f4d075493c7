-- Why a call of a worker fails that claims nothing.
use Rattle.std.proofs.Common.{◌≡◌, ℕ, sym, ap, subst, ⊎_elim}
use Rattle.std.specs.Prelude.{Option, Some, None}
use Rattle.mw_types.proofs.CauseLaws.{Rose-before}
use Rattle.book.specs.Books.{LeaseView}
use Rattle.book.specs.Desks.{DeskView}
use Rattle.book.specs.DeskReasons.{IsDecided}
use Rattle.topology.specs.Shapes.{Shape}
use Rattle.run_history.specs.Cases.{CaseShape}
use Rattle.node.specs.Answers.{FailsAsked, FailsFire, FailsPurge, FailsSome, IsRefused, refusal_of}
use Rattle.node.specs.Workers.{NodeView}
use Rattle.node.specs.Asking.{MayAskFire, MayAskPurge, Request}
use Rattle.node.specs.declared.outcome.NodeFault.{NodeFault}
use Rattle.node.specs.declared.outcome.NodeFault.TheVariants as faults
use Rattle.workers.specs.Slices.{IsSliceFault}

-- memory ran out
pub fault-memory : (old new : DeskView) (why : NodeFault) → why ≡ faults.NoMemory → IsSliceFault old new why
fault-memory old new why is = subst (IsSliceFault old new) (sym is) (record {
  keeper = λ other. absurd (keeper-not other);
  full = λ other. absurd (full-not other);
  no_row = tt;
})
  where
    keeper-not : faults.NoMemory ≡ faults.KeeperFault → ⊥
    keeper-not e = cc

    full-not : faults.NoMemory ≡ faults.HistoryFull → ⊥
    full-not e = cc

-- the desk refused
pub fault-refused : (old new : DeskView) (lease : LeaseView) (why : NodeFault) → IsRefused old new lease (refusal_of why)
    → IsSliceFault old new why
fault-refused old new lease why refused = record {
  keeper = λ is. Rose-before old.faults refused.asked.faults new.faults refused.looked.faults
      (refused.reason.counts.keeper (ap refusal_of is));
  full = λ is. ((refused.reason.full (decided is)).0 (ap refusal_of is)).0;
  no_row = refused.reason.no_row;
}
  where
    decided : why ≡ faults.HistoryFull → IsDecided (refusal_of why)
    decided is = subst (λ w. IsDecided (refusal_of w)) (sym is) tt

-- what is asked for failed, if something was
pub fault-asked : (old new : DeskView) (asked : Option Request) (why : NodeFault) → FailsAsked old new asked why → IsSliceFault old new why
fault-asked old new None why fails = fault-memory old new why fails
fault-asked old new (Some asked) why fails = fault-refused old new asked.lease why fails

-- something for which a worker may ask failed
pub fault-some : (old new : DeskView) (MayAsk : Request → Type 0) (why : NodeFault) → FailsSome old new MayAsk why
    → IsSliceFault old new why
fault-some old new MayAsk why fails = ⊎_elim
    (λ memory. fault-memory old new why memory)
    (λ (asked : (a : Request) × MayAsk a × IsRefused old new a.lease (refusal_of why)). fault-refused old new asked.0.lease why asked.2)
    fails

-- no timer fired
pub fault-fire : (case : CaseShape) (old new : DeskView) (part : ℕ) (was : NodeView) (why : NodeFault)
    → FailsFire case old new part was why → IsSliceFault old new why
fault-fire case old new part was why fails = fault-some old new (MayAskFire case was part fails.mark) why fails.fails

-- no row forgot ids
pub fault-purge : (shape : Shape) (old new : DeskView) (interval many : ℕ) (was : NodeView) (why : NodeFault)
    → FailsPurge shape old new interval many was why → IsSliceFault old new why
fault-purge shape old new interval many was why fails =
    fault-some old new (MayAskPurge shape was interval many fails.floor) why fails.fails
