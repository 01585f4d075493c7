-- What a worker's calls did is added up.
use Rattle.std.proofs.Common.{◌≡◌, ◌∙◌, ◌≤◌, ◌+◌, ℕ, refl, ap, subst, arith, inl}
use Rattle.std.specs.Prelude.{IfErr, IfOk, Result, Ok, Err}
use Rattle.mw_types.proofs.CauseLaws.{Rose-before}
use Rattle.run_history.specs.Cases.{CaseShape}
use Rattle.book.specs.Desks.{DeskView, HasLooked}
use Rattle.node.specs.Answers.{HasKept}
use Rattle.node.specs.Fits.{Fits}
use Rattle.node.specs.Workers.{NodeView, Worker, leases_of}
use Rattle.node.specs.declared.outcome.NodeFault.{NodeFault}
use Rattle.node.specs.declared.outcome.Outcome.{Outcome}
use Rattle.node.specs.declared.outcome.Outcome.TheVariants as outcomes
use Rattle.workers.specs.Serving.{HasServed, HasServedLines, IsBusy, appended, entries_of, lines_each}
use Rattle.workers.specs.Slices.{HasWorked, IsSliceFault}
use Rattle.workers.proofs.FewLines.{few-idle, few-looked, few-not, few-then, few-within}
use Rattle.workers.proofs.Leases.{leases-both, leases-same}
use Rattle.workers.proofs.Working.{worked-less, worked-looked, worked-not, worked-then}

-- ---- calls

-- nothing was done
pub served-not : {case : CaseShape} {desk : DeskView} {node : NodeView} → Fits case desk node → HasServed case 0 desk desk node node
served-not {case} {desk} {node} fits = record {
  fits = fits;
  number = refl;
  worked = worked-not desk;
  kept = λ interval seq is. inl is;
  few = few-not case desk node;
}

-- a desk was looked at, and the leases are the same
pub served-looked : (case : CaseShape) (old new : DeskView) (was node : NodeView) → Fits case new node → node.number ≡ was.number
    → HasLooked old new → leases_of node.held ≡ leases_of was.held → HasServed case 0 old new was node
served-looked case old new was node fits number looked same = record {
  fits = fits;
  number = number;
  worked = worked-looked old new looked;
  kept = leases-same new.seen was node same;
  few = few-looked case old new was looked;
}

-- a desk was looked at, and the worker is as it was
pub served-kept : (case : CaseShape) (old new : DeskView) (was node : NodeView) → Fits case new node → node.number ≡ was.number
    → HasLooked old new → HasKept was node → HasServed case 0 old new was node
served-kept case old new was node fits number looked kept =
    served-looked case old new was node fits number looked (ap (λ (w : Worker). w.leases) kept)

-- at most so many is at most more
pub served-within : {case : CaseShape} {old new : DeskView} {was node : NodeView} {f : ℕ → ℕ} (g : ℕ → ℕ) (m n : ℕ) → m ≤ n
    → ((part : ℕ) → f part ≤ g part) → HasServedLines case m f old new was node → HasServedLines case n g old new was node
served-within {case} {old} {new} {was} {node} {f} g m n less fewer served = record {
  fits = served.fits;
  number = served.number;
  worked = worked-less m n old new less served.worked;
  kept = served.kept;
  few = few-within case old new was f g m n less fewer served.few;
}

-- so it is of entries alone
pub served-less : {case : CaseShape} {old new : DeskView} {was node : NodeView} {f : ℕ → ℕ} (m n : ℕ) → m ≤ n
    → HasServedLines case m f old new was node → HasServedLines case n f old new was node
served-less {f = f} m n less served = served-within f m n less (λ part. omega arith) served

-- and of lines alone
pub served-more : {case : CaseShape} {old new : DeskView} {was node : NodeView} {m : ℕ} (g : ℕ → ℕ)
    → HasServed case m old new was node → HasServedLines case m g old new was node
served-more {m = m} g served = served-within g m m (omega arith) (λ part. omega arith) served

-- who appended nothing injected nothing
pub served-idle : {case : CaseShape} {old new : DeskView} {was node : NodeView} {f : ℕ → ℕ} (m : ℕ) → m ≡ 0
    → HasServedLines case m f old new was node → HasServed case 0 old new was node
served-idle {case} {old} {new} {was} {node} {f} m none served = record {
  fits = served.fits;
  number = served.number;
  worked = worked-less m 0 old new (omega (arith, none)) served.worked;
  kept = served.kept;
  few = few-idle case old new was f m none served.few;
}

-- calls after calls
pub served-lines : {case : CaseShape} {old mid new : DeskView} {was between node : NodeView} {f g : ℕ → ℕ} (h : ℕ → ℕ) (m n k : ℕ)
    → m + n ≤ k → ((part : ℕ) → f part + g part ≤ h part) → HasServedLines case m f old mid was between
    → HasServedLines case n g mid new between node → HasServedLines case k h old new was node
served-lines {case} {old} {mid} {new} {was} {between} {node} {f} {g} h m n k less fewer one two = record {
  fits = two.fits;
  number = two.number ∙ one.number;
  worked = worked-then m n k old mid new less one.worked two.worked;
  kept = leases-both mid.seen two.worked.rest new.seen was between node two.worked.more one.kept two.kept;
  few = few-then case old mid new was between f g h m n k less fewer one.fits one.worked two.worked one.kept one.few two.few;
}

-- and so calls that inject no line
pub served-then : {case : CaseShape} {old mid new : DeskView} {was between node : NodeView} (m n k : ℕ) → m + n ≤ k
    → HasServed case m old mid was between → HasServed case n mid new between node → HasServed case k old new was node
served-then m n k less one two = served-lines (lines_each 0) m n k less (λ part. omega arith) one two

-- ---- a call that is tried until nobody else has the turn

-- who was turned away appended nothing
entries-busy : (answer : Result Outcome NodeFault) → IsBusy answer → appended answer ≡ 0
entries-busy (Ok (outcomes.Busy found)) busy = refl
entries-busy _ busy = absurd busy

-- a call appends at most one entry
pub entries-few : (outcome : Outcome) → entries_of outcome ≤ 1
entries-few (outcomes.Committed commit) = omega arith
entries-few _ = omega arith

-- also where it may fail
pub appended-few : (answer : Result Outcome NodeFault) → appended answer ≤ 1
appended-few (Ok outcome) = entries-few outcome
appended-few (Err why) = omega arith

-- a try that was turned away
pub tried-again : {case : CaseShape} {old mid new : DeskView} {was between node : NodeView} {f : ℕ → ℕ} (answer : Result Outcome NodeFault)
    → HasServed case 0 old mid was between → HasServedLines case (appended answer) f mid new between node → IsBusy answer
    → HasServed case 0 old new was node
tried-again answer one two busy =
    served-then 0 0 0 (omega arith) one (served-idle (appended answer) (entries-busy answer busy) two)

-- the last try
pub tried-last : {case : CaseShape} {old mid new : DeskView} {was between node : NodeView} (answer : Result Outcome NodeFault)
    → HasServed case 0 old mid was between → HasServed case (appended answer) mid new between node
    → HasServed case 1 old new was node
tried-last answer one two =
    served-then 0 (appended answer) 1 (let few = appended-few answer in omega (arith, few)) one two

-- what the last try answers tells of all
pub tried-answered : {case : CaseShape} {old mid new : DeskView} {was between node : NodeView} (f : ℕ → ℕ)
    (answer : Result Outcome NodeFault) → HasServed case 0 old mid was between
    → HasServedLines case (appended answer) f mid new between node
    → IfOk answer (λ outcome. HasServedLines case (entries_of outcome) f old new was node)
tried-answered f (Ok outcome) one two =
    served-lines f 0 (entries_of outcome) (entries_of outcome) (omega arith) (λ part. omega arith) one two
tried-answered f (Err why) one two = tt

-- a call that found nothing to do appended nothing
pub served-nothing : {case : CaseShape} {old new : DeskView} {was node : NodeView} (outcome : Outcome) → outcome ≡ outcomes.Nothing
    → HasServed case (entries_of outcome) old new was node → HasServed case 0 old new was node
served-nothing {case} {old} {new} {was} {node} outcome is served =
    subst (λ (o : Outcome). HasServed case (entries_of o) old new was node) is served

-- ---- faults

-- a fault behind what was done before
pub fault-after : {old mid new : DeskView} {m : ℕ} {why : NodeFault} → HasWorked m old mid → IsSliceFault mid new why
    → IsSliceFault old new why
fault-after {old = old} {mid = mid} {new = new} worked fault = record {
  keeper = λ is. Rose-before old.faults mid.faults new.faults worked.faults (fault.keeper is);
  full = fault.full;
  no_row = fault.no_row;
}

-- and so each fault
pub faults-after : {T : Type 0} {old mid : DeskView} {m : ℕ} (new : DeskView) (result : Result T NodeFault) → HasWorked m old mid
    → IfErr result (IsSliceFault mid new) → IfErr result (IsSliceFault old new)
faults-after new (Ok x) worked fault = tt
faults-after new (Err why) worked fault = fault-after worked fault
