-- What a node leaves once its desk has taken what it had prepared, or has refused it.
use Rattle.std.proofs.Common.{◌≡◌, ◌<◌, ◌^◌, ℕ, List, [], ◌∷◌, ◌++◌, refl, sym, subst}
use Rattle.std.specs.Prelude.{All, IfErr, IfOk, Option, Some, None}
use Rattle.mw_types.specs.Outcomes.{EffectsView}
use Rattle.mw_types.specs.declared.delivery.Delivery.{Delivery}
use Rattle.mw_types.specs.declared.entry.Entry.TheVariants as entries
use Rattle.mw_types.specs.declared.identity.RowName.{RowName}
use Rattle.topology.specs.Shapes.{Shape}
use Rattle.run_history.specs.Cases.{CaseShape}
use Rattle.run_history.specs.Fences.{interval_of}
use Rattle.run_history.specs.Made.{deliveries_made}
use Rattle.book.specs.Desks.{DeskView, HasLooked, IsSound}
use Rattle.book.specs.declared.desk_refusal.DeskRefusal.{DeskRefusal}
use Rattle.book.specs.declared.proposal.Proposal.{Proposal}
use Rattle.book.specs.declared.proposal.Proposal.TheVariants as proposals
use Rattle.holdings.specs.Holding.{AreAllHeld, HeldView, IsRefusedOf}
use Rattle.node.specs.Answers.{AnswersAsked, AnswersWrite, FailsAsked, HasGrown, HasKept}
use Rattle.node.specs.Asking.{Request, handled_as, work_asked}
use Rattle.node.specs.Fits.{Fits}
use Rattle.outbox.specs.Messages.{IsAddressed, messages_from}
use Rattle.node.specs.Steps.{HasYielded, answered}
use Rattle.node.specs.Workers.{NodeView, Worker, WorkView}
use Rattle.outbox.specs.declared.outgoing.Outgoing.{Outgoing}
use Rattle.outbox.specs.declared.outgoing.Outgoing.TheVariants as outgoing
use Rattle.node.proofs.CommitLaws.{Fits-written, HoldsWork, appended-work, grown-by, small-number, work-asked, work-of, written_by}
use Rattle.node.proofs.FitLaws.{answers-refused, fails-refused}
use Rattle.node.proofs.PurgeLaws.{ok-answers, held-at-on}
use Rattle.node.proofs.RefusedLaws.{reason-at}
use Rattle.node.proofs.SettleLaws.{fails-asked}

-- ---- what is to be sent

-- a node of these parts has written its work
pub node-written : (shape : Shape) (held : List (Option HeldView)) (sender : RowName) (delivery : Delivery) (effects : EffectsView)
    (commit : ℕ) (node : NodeView) (prepared : Option WorkView) (outbox : List Outgoing) → prepared ≡ None
    → outbox ≡ (node.outbox ++ outgoing.Ack sender delivery.id ∷ [])
    ++ messages_from delivery.to (deliveries_made shape delivery.to.part effects.productions delivery.item.late commit)
    → written_by shape held sender delivery effects commit node
    ≡ record node { held = held; prepared = prepared; outbox = outbox }
node-written shape held sender delivery effects commit node prepared outbox gone is =
    λ i. record node { held = held; prepared = sym gone i; outbox = sym is i }

-- ---- an entry that stands

-- its entry is the node's own
pub grown-work : (shape : Shape) (old new : DeskView) (interval : ℕ) (proposal : Proposal) (delivery : Delivery) (effects : EffectsView)
    (commit : ℕ) (before after : List (Option HeldView)) → proposal ≡ proposals.Handle delivery effects
    → HoldsWork shape old new interval delivery.to proposal commit before after → HasGrown before old new
grown-work shape old new interval proposal delivery effects commit before after is h =
    grown-by before old new interval h.held (entries.Handle h.held.lease.seq delivery.to delivery.id effects) commit h.was
    (appended-work shape old new interval proposal delivery effects commit before after is h) refl

-- the node fits
pub Fits-committed : (case : CaseShape) (old new : DeskView) (node : NodeView) (held : List (Option HeldView)) (work : WorkView)
    (delivery : Delivery) (effects : EffectsView) (interval commit : ℕ) → node.prepared ≡ Some work
    → work.proposal ≡ proposals.Handle delivery effects
    → HoldsWork case.topology old new interval delivery.to work.proposal commit node.held held → AreAllHeld case new held → IsSound new
    → ((number : ℕ) → number < 2 ^ 32 → All (IsAddressed case.topology) (messages_from delivery.to
    (deliveries_made case.topology delivery.to.part effects.productions delivery.item.late number)))
    → Fits case old node → Fits case new (written_by case.topology held work.sender delivery effects commit node)
Fits-committed case old new node held work delivery effects interval commit prepared is h fit sound addressed fits =
    let a = appended-work case.topology old new interval work.proposal delivery effects commit node.held held is h in
    Fits-written case old new node held work.sender delivery effects h.held.lease commit a fit
    (work-of case old node work delivery effects fits prepared is)
    (addressed commit (small-number old new h.held.lease _ commit sound a)) fits

-- ---- a refusal

-- what is asked of the work
asked-work : (case : CaseShape) (desk : DeskView) (node : NodeView) (work : WorkView) (delivery : Delivery) (effects : EffectsView)
    (fits : Fits case desk node) (prepared : node.prepared ≡ Some work) (is : work.proposal ≡ proposals.Handle delivery effects)
    → work_asked case.topology node ≡ Some (handled_as delivery effects
    (work-of case desk node work delivery effects fits prepared is).held)
asked-work case desk node work delivery effects fits prepared is =
    work-asked case.topology node work delivery effects (work-of case desk node work delivery effects fits prepared is).held prepared is
    (work-of case desk node work delivery effects fits prepared is).there

-- what a call answers that was refused
pub answers-unwritten : (case : CaseShape) (old new : DeskView) (after : Worker) (was mid node : NodeView) (work : WorkView)
    (delivery : Delivery) (effects : EffectsView) (interval : ℕ) (why : DeskRefusal) → was.prepared ≡ Some work
    → work.proposal ≡ proposals.Handle delivery effects → interval_of case.topology delivery.to ≡ Some interval → Fits case old was
    → HasLooked old new → IsRefusedOf old new was.held interval why → HasKept was mid → HasYielded case.topology interval why mid node
    → IfOk (answered why) (AnswersAsked case.topology old new (work_asked case.topology was) after was node)
answers-unwritten case old new after was mid node work delivery effects interval why prepared is covers fits looked reason kept left =
    let shape = case.topology in
    let held = (work-of case old was work delivery effects fits prepared is).held in
    let at = held-at-on shape was.held delivery.to interval held (work-of case old was work delivery effects fits prepared
    is).there covers in
    let asked = handled_as delivery effects held in
    ok-answers (answered why) (AnswersWrite shape old new asked after was node) (AnswersAsked shape old new
    (work_asked shape was) after was node)
    (λ outcome answers. subst (λ (o : Option Request). AnswersAsked shape old new o after was node outcome)
    (sym (asked-work case old was work delivery effects fits prepared is)) answers)
    (answers-refused shape old new asked after was mid node why looked (reason-at old new was.held interval held why at reason) kept
    (subst (λ (n : ℕ). HasYielded shape n why mid node) (sym (fits.held.each interval held at).of_interval) left))

-- and why it failed
pub fails-unwritten : (case : CaseShape) (old new : DeskView) (was : NodeView) (work : WorkView) (delivery : Delivery) (effects : EffectsView)
    (interval : ℕ) (why : DeskRefusal) → was.prepared ≡ Some work → work.proposal ≡ proposals.Handle delivery effects
    → interval_of case.topology delivery.to ≡ Some interval → Fits case old was → IsRefusedOf old new was.held interval why
    → IfErr (answered why) (FailsAsked old new (work_asked case.topology was))
fails-unwritten case old new was work delivery effects interval why prepared is covers fits reason =
    let held = (work-of case old was work delivery effects fits prepared is).held in
    let at = held-at-on case.topology was.held delivery.to interval held (work-of case old was work delivery effects fits
    prepared is).there covers in
    fails-asked old new (work_asked case.topology was) (handled_as delivery effects held) (answered why)
    (asked-work case old was work delivery effects fits prepared is)
    (fails-refused old new held.lease why (reason-at old new was.held interval held why at reason))
