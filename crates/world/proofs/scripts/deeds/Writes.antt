-- What a node answers that writes what it has prepared, as the scripted world does.
use Rattle.std.proofs.Common.{◌≡◌, ◌∙◌, ℕ, refl, sym, ap}
use Rattle.std.specs.Prelude.{IfSome, None, Option, Some}
use Rattle.std.specs.Option.{option_and_then, option_map, option_map_or}
use Rattle.mw_types.specs.Outcomes.{EffectsView}
use Rattle.mw_types.specs.declared.delivery.Delivery.{Delivery}
use Rattle.mw_types.specs.declared.entry.Entry.TheVariants as entries
use Rattle.mw_types.specs.declared.identity.RowName.{RowName}
use Rattle.topology.specs.Shapes.{Shape}
use Rattle.run_history.specs.Cases.{CaseShape}
use Rattle.computations.specs.Handlers.{OfRecord}
use Rattle.run_history.specs.Legal.{outcome_of}
use Rattle.book.specs.Books.{BookView, LeaseView}
use Rattle.book.specs.OwnDesks.{own_view}
use Rattle.book.specs.declared.proposal.Proposal.{Proposal}
use Rattle.book.specs.declared.proposal.Proposal.TheVariants as proposals
use Rattle.holdings.specs.Holding.{HeldView, held_on}
use Rattle.node.specs.Answers.{AnswersAsked}
use Rattle.node.specs.Asking.{handled_as, proposed, work_asked}
use Rattle.node.specs.Fits.{IsHandled, IsPrepared, IsWork}
use Rattle.node.specs.Workers.{NodeView, Sending, WorkView, Worker, sending_in, sending_of, with_written, worker_at}
use Rattle.node.specs.declared.outcome.Outcome.{Outcome}
use Rattle.world.specs.scripts.Acts.{Deed, done, nothing, write, writes}
use Rattle.world.specs.scripts.Worlds.{World, lease_on, row_known}
use Rattle.plans.specs.declared.step.Step.TheVariants as steps
use Rattle.world.proofs.scripts.deeds.Acting.{Acts, IsActing, acting-worker}
use Rattle.world.proofs.scripts.deeds.Held.{lease_held, lease_on-held, row-held}
use Rattle.world.proofs.scripts.deeds.Left.{IsOnRow, acting-alone, acting-of, asked-kept, deed_asked}

-- what a worker does that writes effects of what it has prepared
abbrev effects_by : ℕ → World → Worker → Sending → LeaseView → EffectsView → Deed
effects_by number world worker sending lease effects = let delivery = sending.delivery in
    writes world number lease (entries.Handle lease.seq delivery.to delivery.id effects) (with_written (Some sending) worker)

-- by the row as it is known under a lease
abbrev under_by : CaseShape → ℕ → World → Worker → Sending → LeaseView → Deed
under_by case number world worker sending lease = let name = sending.delivery.to in
    option_map_or (effects_by number world worker sending lease)
    (outcome_of case name (row_known case.topology world lease name) (OfRecord sending.delivery.item)) (nothing world number)

-- under the lease of the row
abbrev prepared_by : CaseShape → ℕ → World → Worker → Sending → Deed
prepared_by case number world worker sending = option_map_or (under_by case number world worker sending)
    (lease_on case.topology worker sending.delivery.to) (nothing world number)

-- of what it has prepared
abbrev write_by : CaseShape → ℕ → World → Worker → Deed
write_by case number world worker =
    option_map_or (prepared_by case number world worker) worker.prepared (nothing world number)

-- a record that was handled is written with what its handler left
handled-is : (case : CaseShape) (old : BookView) (world : World) (number : ℕ) (was : NodeView) (sender : RowName) (delivery : Delivery)
    (effects : EffectsView) → IsActing case old world number was → IsHandled case (own_view old) was.held sender delivery effects
    → prepared_by case number world (worker_at was) (record { delivery = delivery; sender = sender })
    ≡ deed_asked world number (with_written (Some (record { delivery = delivery; sender = sender })) (worker_at was))
    (proposed case.topology was.held (proposals.Handle delivery effects))
handled-is case old world number was sender delivery effects acting handled =
    ap (λ o. option_map_or (under_by case number world worker sending) o (nothing world number))
    (ap (λ w. lease_on shape w delivery.to) (sym (acting-worker case old world number was acting))
    ∙ lease_on-held case old world number was delivery.to acting ∙ ap (option_map lease_held) handled.there)
    ∙ ap (λ o. option_map_or (effects_by number world worker sending handled.held.lease) o (nothing world number))
    (ap (λ row. outcome_of case delivery.to row (OfRecord delivery.item))
    (row-held case old world number was handled.held delivery.to acting handled.there) ∙ handled.handling.does)
    ∙ ap (deed_asked world number (with_written (Some sending) worker))
    (ap (option_map (handled_as delivery effects)) (sym handled.there))
  where
    shape : Shape
    shape = case.topology

    worker : Worker
    worker = worker_at was

    sending : Sending
    sending = record { delivery = delivery; sender = sender }

-- of a work that is prepared
work-is : (case : CaseShape) (old : BookView) (world : World) (number : ℕ) (was : NodeView) (sender : RowName) (proposal : Proposal)
    → IsActing case old world number was → IsPrepared case (own_view old) was.held sender proposal
    → option_map_or (prepared_by case number world (worker_at was)) (sending_in sender proposal) (nothing world number)
    ≡ deed_asked world number (with_written (sending_in sender proposal) (worker_at was)) (proposed case.topology was.held proposal)
work-is case old world number was sender (proposals.Handle delivery effects) acting is =
    handled-is case old world number was sender delivery effects acting is
work-is case old world number was sender _ acting is = absurd is

-- of what is prepared, if anything is
pub write-is : (case : CaseShape) (old : BookView) (world : World) (number : ℕ) (was : NodeView) → IsActing case old world number was
    → write case number world
    ≡ deed_asked world number (with_written (sending_of was) (worker_at was)) (work_asked case.topology was)
write-is case old world number was acting =
    ap (write_by case number world) (acting-worker case old world number was acting) ∙ by_work was.prepared acting.fits.work
  where
    by_work : (o : Option WorkView) → IfSome o (IsWork case (own_view old) was.held)
        → option_map_or (prepared_by case number world (worker_at was))
        (option_and_then (λ (work : WorkView). sending_in work.sender work.proposal) o) (nothing world number)
        ≡ deed_asked world number
        (with_written (option_and_then (λ (work : WorkView). sending_in work.sender work.proposal) o) (worker_at was))
        (option_and_then (λ (work : WorkView). proposed case.topology was.held work.proposal) o)
    by_work None is = refl
    by_work (Some work) is = work-is case old world number was work.sender work.proposal acting is

-- a record that was handled is written on the row to which it goes
written-on : (shape : Shape) (was : NodeView) → IfSome (work_asked shape was) IsOnRow
written-on shape was = by_work was.prepared
  where
    by_held : (delivery : Delivery) (effects : EffectsView) (o : Option HeldView)
        → IfSome (option_map (handled_as delivery effects) o) IsOnRow
    by_held delivery effects None = tt
    by_held delivery effects (Some held) = refl

    by_proposal : (p : Proposal) → IfSome (proposed shape was.held p) IsOnRow
    by_proposal (proposals.Handle delivery effects) = by_held delivery effects (held_on shape was.held delivery.to)
    by_proposal _ = tt

    by_work : (o : Option WorkView)
        → IfSome (option_and_then (λ (work : WorkView). proposed shape was.held work.proposal) o) IsOnRow
    by_work None = tt
    by_work (Some work) = by_proposal work.proposal

-- what is prepared
pub write-acts : (case : CaseShape) (old new : BookView) (world : World) (number : ℕ) (was node : NodeView) (outcome : Outcome)
    → IsActing case old world number was → new.marks ≡ old.marks
    → AnswersAsked case.topology (own_view old) (own_view new) (work_asked case.topology was)
    (with_written (sending_of was) (worker_at was)) was node outcome
    → Acts case new world number node (steps.Write number) outcome
write-acts case old new world number was node outcome acting marks is =
    let shape = case.topology in
    let asked = work_asked shape was in
    let after = with_written (sending_of was) (worker_at was) in
    sym (ap (done shape world) (write-is case old world number was acting)
    ∙ asked-kept shape number (own_view old) (own_view new) asked after was node outcome world
    (acting-alone case old new world number was acting) marks (acting-of case old world number was acting) (written-on shape was) is)
