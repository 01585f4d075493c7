-- What a node answers where its desk refused a call on what it holds of an interval.
use Rattle.std.proofs.Common.{◌≡◌, ◌∙◌, ℕ, List, sym, ap, subst, inr}
use Rattle.std.specs.Prelude.{IfErr, IfOk, IfSome, Option, Some, Result, Ok, Err}
use Rattle.run_history.specs.Cases.{CaseShape}
use Rattle.book.specs.Books.{LeaseView}
use Rattle.book.specs.DeskReasons.{HasReason}
use Rattle.book.specs.Desks.{DeskView, HasLooked}
use Rattle.book.specs.declared.desk_refusal.DeskRefusal.{DeskRefusal}
use Rattle.holdings.specs.Holding.{HeldView, IsRefusedOf, held_at}
use Rattle.node.specs.Answers.{AnswersWrite, FailsAsked, FailsSome, HasKept}
use Rattle.node.specs.Asking.{Request}
use Rattle.node.specs.Fits.{Fits}
use Rattle.node.specs.Steps.{HasYielded, answered}
use Rattle.node.specs.Workers.{NodeView, worker_at}
use Rattle.node.specs.declared.outcome.NodeFault.{NodeFault}
use Rattle.node.specs.declared.outcome.Outcome.{Outcome}
use Rattle.node.proofs.FitLaws.{answers-refused, fails-refused}

-- the reason, by what is held
pub reason-at : (old new : DeskView) (all : List (Option HeldView)) (interval : ℕ) (held : HeldView) (why : DeskRefusal)
    → held_at all interval ≡ Some held → IsRefusedOf old new all interval why → HasReason old new held.lease why
reason-at old new all interval held why at reason =
    subst (λ (o : Option HeldView). IfSome o (λ (h : HeldView). HasReason old new h.lease why)) at reason

-- what a call answers that was refused
pub refused-held : (case : CaseShape) (old new : DeskView) (was mid node : NodeView) (interval : ℕ) (held : HeldView) (asked : Request)
    (why : DeskRefusal) → Fits case old was → held_at was.held interval ≡ Some held → asked.lease ≡ held.lease → HasLooked old new
    → IsRefusedOf old new was.held interval why → HasKept was mid → HasYielded case.topology interval why mid node
    → IfOk (answered why) (AnswersWrite case.topology old new asked (worker_at was) was node)
refused-held case old new was mid node interval held asked why fits at lease looked reason kept left =
    let i : interval ≡ asked.lease.interval = sym (ap (λ (l : LeaseView). l.interval) lease ∙
    (fits.held.each interval held at).of_interval) in
    answers-refused case.topology old new asked (worker_at was) was mid node why looked
    (subst (λ (l : LeaseView). HasReason old new l why) (sym lease) (reason-at old new was.held interval held why at reason)) kept
    (subst (λ (n : ℕ). HasYielded case.topology n why mid node) i left)

-- why a call failed that asked for an entry
pub fails-at : (old new : DeskView) (all : List (Option HeldView)) (interval : ℕ) (held : HeldView) (asked : Request) (why : DeskRefusal)
    → held_at all interval ≡ Some held → asked.lease ≡ held.lease → IsRefusedOf old new all interval why
    → IfErr (answered why) (FailsAsked old new (Some asked))
fails-at old new all interval held asked why at lease reason =
    fails-refused old new asked.lease why (subst (λ (l : LeaseView). HasReason old new l why) (sym lease)
    (reason-at old new all interval held why at reason))

-- it was one for which the node may ask
pub fails-some : (old new : DeskView) (MayAsk : Request → Type 0) (asked : Request) (result : Result Outcome NodeFault) → MayAsk asked
    → IfErr result (FailsAsked old new (Some asked)) → IfErr result (FailsSome old new MayAsk)
fails-some old new MayAsk asked (Ok outcome) may is = tt
fails-some old new MayAsk asked (Err fault) may is = inr (asked, may, is)
