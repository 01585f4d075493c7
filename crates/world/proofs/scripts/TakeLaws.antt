-- When a worker leaves a message in flight, and what it does with one that it takes.
use Rattle.std.proofs.Common.{◌≡◌, ◌∙◌, ℕ, Bool, true, false, refl, sym, ap, subst}
use Rattle.std.specs.Prelude.{Option, None, Some, IsSome, IfSome, if◌then◌else◌}
use Rattle.std.specs.Option.{is_some, option_and_then, option_map, option_map_or}
use Rattle.list_lemmas.proofs.Told.{if-there}
use Rattle.mw_types.specs.declared.delivery.Delivery.{Delivery}
use Rattle.mw_types.specs.declared.identity.RowName.{RowName}
use Rattle.topology.specs.Shapes.{Shape}
use Rattle.run_history.specs.Cases.{CaseShape}
use Rattle.run_history.specs.Fences.{interval_of}
use Rattle.book.specs.Books.{BookView, LeaseView, core_of}
use Rattle.book.specs.Desks.{DeskView, HasLooked, KeepsMarks}
use Rattle.book.specs.Lawful.{IsLawful}
use Rattle.book.specs.OwnDesks.{own_view}
use Rattle.book.specs.declared.proposal.Proposal.{Proposal}
use Rattle.book.specs.declared.proposal.Proposal.TheVariants as proposals
use Rattle.holdings.specs.Holding.{HeldView, held_at, held_on}
use Rattle.node.specs.Answers.{AnswersAckOf, taken_from}
use Rattle.node.specs.Fits.{Fits, IsWork}
use Rattle.node.specs.Received.{IsAck}
use Rattle.node.specs.Workers.{IsHandle, NodeView, WorkView, Worker, sending_of, worker_at}
use Rattle.node.specs.declared.outcome.Outcome.{Outcome}
use Rattle.node.specs.declared.outcome.Outcome.TheVariants as outcomes
use Rattle.outbox.specs.declared.outgoing.Outgoing.{Outgoing}
use Rattle.outbox.specs.declared.outgoing.Outgoing.TheVariants as outgoing
use Rattle.world.specs.scripts.Acts.{must_wait}
use Rattle.world.specs.scripts.Worlds.{lease_of, lease_on, row_of_message}
use Rattle.world.specs.scripts.Standing.{FitsOwn}
use Rattle.world.specs.scripts.WorkerCalls.{IsReady, TakesOn, answered_in_place}
use Rattle.world.proofs.scripts.ActsOnLaws.{acting}
use Rattle.world.proofs.drains.TurnLaws.{free-of}
use Rattle.world.proofs.scripts.deeds.Takes.{ack-acts, prepare-acts}

-- ---- what is prepared

-- what a worker that fits has prepared is a record that was handled
pub ready-of : (case : CaseShape) (desk : DeskView) (node : NodeView) → Fits case desk node → IsReady node
ready-of case desk node fits = by_work node.prepared fits.work
  where
    by_proposal : (sender : RowName) (p : Proposal) → IsWork case desk node.held (record { sender = sender; proposal = p })
        → IsHandle p
    by_proposal sender (proposals.Inject line) is = absurd is
    by_proposal sender (proposals.Handle delivery effects) is = tt
    by_proposal sender (proposals.Fire timer mark effects) is = absurd is

    by_work : (o : Option WorkView) → IfSome o (IsWork case desk node.held) → IfSome o (λ (work : WorkView). IsHandle work.proposal)
    by_work None is = tt
    by_work (Some work) is = by_proposal work.sender work.proposal is

-- ---- the leases

-- the lease of what is held
lease-held-at : (node : NodeView) (interval : ℕ)
    → is_some (lease_of (worker_at node) interval) ≡ is_some (held_at node.held interval)
lease-held-at node interval = by_place (held_at node.held interval)
  where
    by_place : (o : Option HeldView) → is_some (option_map (λ (seq : ℕ). let lease : LeaseView = record { interval = interval; seq = seq } in lease)
        (option_map (λ (held : HeldView). held.lease.seq) o)) ≡ is_some o
    by_place None = refl
    by_place (Some held) = refl

-- a worker has the lease of a row exactly where it holds the row's interval
pub lease-held-on : (shape : Shape) (node : NodeView) (name : RowName)
    → is_some (lease_on shape (worker_at node) name) ≡ is_some (held_on shape node.held name)
lease-held-on shape node name = by_interval (interval_of shape name)
  where
    by_interval : (o : Option ℕ) → is_some (option_and_then (lease_of (worker_at node)) o) ≡ is_some (option_and_then (held_at node.held) o)
    by_interval None = refl
    by_interval (Some interval) = lease-held-at node interval

-- ---- what is left

-- what a worker answers that leaves a message, by two tests
pub left-tests : Bool → Bool → Option Outcome
left-tests true has = Some outcomes.Nothing
left-tests false true = None
left-tests false false = Some outcomes.NotMine

-- it answers so
pub left-is : (shape : Shape) (worker : Worker) (taken : Outgoing)
    → answered_in_place shape worker taken ≡ left-tests (must_wait worker taken) (is_some (lease_on shape worker (row_of_message taken)))
unfolding left-tests
left-is shape worker taken = by_tests (must_wait worker taken) (lease_on shape worker (row_of_message taken))
  where
    by_tests : (b : Bool) (o : Option LeaseView)
        → (if b then Some outcomes.Nothing else option_map_or (λ (lease : LeaseView). None) o (Some outcomes.NotMine))
        ≡ left-tests b (is_some o)
    by_tests true o = refl
    by_tests false None = refl
    by_tests false (Some lease) = refl

-- a message that is not left does not have to wait, and its row is held
pub left-none : (shape : Shape) (node : NodeView) (taken : Outgoing) → answered_in_place shape (worker_at node) taken ≡ None
    → (must_wait (worker_at node) taken ≡ false) × IsSome (held_on shape node.held (row_of_message taken))
unfolding left-tests
left-none shape node taken none =
    let tests = by_tests (must_wait (worker_at node) taken) (is_some (lease_on shape (worker_at node) (row_of_message taken)))
    (sym (left-is shape (worker_at node) taken) ∙ none) in
    (tests.0, sym (lease-held-on shape node (row_of_message taken)) ∙ tests.1)
  where
    by_tests : (b has : Bool) → left-tests b has ≡ None → (b ≡ false) × (has ≡ true)
    by_tests true has e = absurd cc
    by_tests false true e = (refl, refl)
    by_tests false false e = absurd cc

-- ---- what is taken

-- nothing is there where no test finds it
none-of : {X : Type 0} (o : Option X) → is_some o ≡ false → o ≡ None
none-of None e = refl
none-of (Some x) e = absurd cc

-- a record is taken as the script takes it
pub handle-on : (case : CaseShape) (old new : BookView) (was node : NodeView) (delivery : Delivery) (sender : RowName)
    (outcome : Outcome) → case ≡ old.case → IsLawful old.case (core_of old) → KeepsMarks (own_view old) (own_view new)
    → FitsOwn old was → answered_in_place old.case.topology (worker_at was) (outgoing.Deliver delivery sender) ≡ None
    → HasLooked (own_view old) (own_view new)
    → (outcome, worker_at node) ≡ taken_from case.topology was (outgoing.Deliver delivery sender)
    → (number : ℕ) → TakesOn number (outgoing.Deliver delivery sender) old was new node outcome
handle-on case old new was node delivery sender outcome same lawful marks fits left looked is number =
    if-there old.rows (λ told world at arrived.
    let taken = outgoing.Deliver delivery sender in
    let may = left-none old.case.topology was taken left in
    prepare-acts old.case old new world was.number was node number taken outcome (acting old was world told lawful fits at)
    (marks.same refl) arrived tt
    (free-of old.case (own_view old) was fits (none-of (sending_of was) may.0)) may.1 looked
    (is ∙ ap (λ (k : CaseShape). taken_from k.topology was taken) same))

-- and so is word that a record was handled
pub ack-on : (case : CaseShape) (old new : BookView) (was node : NodeView) (taken : Outgoing) (outcome : Outcome)
    → case ≡ old.case → IsLawful old.case (core_of old) → KeepsMarks (own_view old) (own_view new) → FitsOwn old was
    → answered_in_place old.case.topology (worker_at was) taken ≡ None → IsAck taken
    → AnswersAckOf case.topology (own_view old) (own_view new) taken was node outcome
    → (number : ℕ) → TakesOn number taken old was new node outcome
ack-on case old new was node taken outcome same lawful marks fits left ack answers number =
    if-there old.rows (λ told world at arrived.
    ack-acts old.case old new world was.number was node number taken outcome (acting old was world told lawful fits at)
    (marks.same refl) arrived ack (left-none old.case.topology was taken left).1
    (subst (λ (k : CaseShape). AnswersAckOf k.topology (own_view old) (own_view new) taken was node outcome) same answers))
