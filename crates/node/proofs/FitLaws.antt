-- What is right of a node stays right as its desk comes to see more, and where its desk refuses.
use Rattle.std.proofs.Common.{◌≡◌, ◌≢◌, ◌∙◌, ℕ, Bool, true, false, List, [], ◌∷◌, ◌++◌, drop, length, refl, sym, ap, subst, arith, append_assoc, inl, inr}
use Rattle.std.specs.Prelude.{All, IfErr, IfOk, IfSome, OnErr, Option, Some, None, ◌==◌, not, if◌then◌else◌}
use Rattle.std.specs.Option.{option_and_then, option_map, option_map_or}
use Rattle.std.proofs.Math.Path.{fun_ext}
use Rattle.std.proofs.lemmas.Bool.{cases_eq, eq-eqb, ne_eqb}
use Rattle.std.proofs.lemmas.List.{append-nil}
use Rattle.std.proofs.lemmas.List.Elements.{All-append, All-weaker}
use Rattle.list_lemmas.proofs.Told.{if-same}
use Rattle.mw_types.specs.Outcomes.{EffectsView}
use Rattle.mw_types.specs.declared.delivery.Delivery.{Delivery}
use Rattle.mw_types.specs.declared.entry.Entry.{Entry}
use Rattle.mw_types.specs.declared.entry.Entry.TheVariants as entries
use Rattle.mw_types.specs.declared.identity.RowName.{RowName}
use Rattle.topology.specs.Shapes.{Shape}
use Rattle.row_parts.specs.Contents.{Contents}
use Rattle.run_history.specs.Cases.{CaseShape}
use Rattle.run_history.specs.Fences.{interval_of, sequencer_of}
use Rattle.history_laws.proofs.FinishedLaws.{is_handled-more}
use Rattle.history_laws.proofs.SeenLaws.{found-more}
use Rattle.history_laws.proofs.SenderLaws.{IsMadeOn-more}
use Rattle.book.specs.Books.{LeaseView}
use Rattle.book.specs.DeskReasons.{HasClaimReason, HasReason}
use Rattle.book.specs.Desks.{DeskView, HasLooked, HasMoved, IsSound, numbers_from}
use Rattle.book.specs.Proposals.{IsHandling}
use Rattle.book.proofs.Numbers.{own-stays}
use Rattle.book.specs.declared.desk_refusal.DeskRefusal.{DeskRefusal}
use Rattle.book.specs.declared.desk_refusal.DeskRefusal.TheVariants as refusals
use Rattle.book.specs.declared.proposal.Proposal.{Proposal}
use Rattle.book.specs.declared.proposal.Proposal.TheVariants as proposals
use Rattle.holdings.specs.Holding.{AreAllHeld, HasSeenOthers, HeldView, HoldsClaim, KeepsHeld, KeepsOthers, held_at, held_on}
use Rattle.book.proofs.Untried.{untried_looked, untried_reason}
use Rattle.holdings.proofs.HeldSteps.{AreAllHeld-beside, AreAllHeld-fewer}
use Rattle.node.specs.Answers.{AnswersClaim, AnswersWrite, FailsAsked, HasGrown, HasKept, IsRefused, refusal_of}
use Rattle.node.specs.Asking.{Request}
use Rattle.node.specs.Fits.{Fits, IsHandled, IsPrepared, IsWork}
use Rattle.outbox.specs.Messages.{IsOutgoing, IsSoIn}
use Rattle.node.specs.Steps.{HasLetGo, HasYielded, answered, is_work_in, work_beside}
use Rattle.node.specs.Workers.{NodeView, Sending, Worker, WorkView, goes_into, leases_of, sending_in, where_passes, with_lease, worker_at}
use Rattle.node.specs.declared.node.Node.TheInside.{Inside}
use Rattle.node.specs.declared.outcome.NodeFault.TheVariants as faults
use Rattle.outbox.specs.declared.outgoing.Outgoing.{Outgoing}
use Rattle.outbox.specs.declared.outgoing.Outgoing.TheVariants as outgoing

-- what is seen of a node with these fields
abbrev pub node_in : {N : Type 0} → Inside N → NodeView
node_in n = record { number = n.number; held = n.held; prepared = n.prepared; outbox = n.outbox.messages }

-- ---- a desk that has seen more

-- a desk has seen more of the same history
pub record HasMore (old new : DeskView) : Type 0 where
  pub case : new.case ≡ old.case
  pub told : new.told ≡ old.told
  pub rest : List Entry
  pub more : new.seen ≡ old.seen ++ rest

-- by a look
pub more-looked : (old new : DeskView) → HasLooked old new → HasMore old new
more-looked old new moved = record { case = moved.case; told = moved.told; rest = moved.others; more = moved.more }

-- and by an entry of its own
pub more-appended : (old new : DeskView) (before : List Entry) (entry : Entry) → HasMoved old new before
    → new.seen ≡ before ++ entry ∷ [] → HasMore old new
more-appended old new before entry moved appended = record {
  case = moved.case;
  told = moved.told;
  rest = moved.others ++ entry ∷ [];
  more = appended ∙ ap (λ (h : List Entry). h ++ entry ∷ []) moved.more ∙ append_assoc old.seen moved.others (entry ∷ []);
}

-- a desk that was not asked has seen no more
pub looked_not : (desk : DeskView) → HasLooked desk desk
looked_not desk = untried_looked desk

-- a look before a call
pub looked-moved : (old mid new : DeskView) (before : List Entry) → HasLooked old mid → HasMoved mid new before
    → HasMoved old new before
looked-moved old mid new before one two = record {
  case = two.case ∙ one.case;
  limit = two.limit ∙ one.limit;
  told = two.told ∙ one.told;
  alone = two.alone ∙ one.alone;
  others = one.others ++ two.others;
  more = two.more ∙ ap (λ (h : List Entry). h ++ two.others) one.more ∙ append_assoc old.seen one.others two.others;
  foreign = λ lease may. All-append (λ (entry : Entry). sequencer_of entry ≢ Some lease.seq) one.others two.others
      (one.foreign lease may) (two.foreign lease (one.leases lease may));
  none = λ alone. ap (λ (h : List Entry). h ++ two.others) (one.none alone) ∙ two.none (one.alone ∙ alone);
  own = two.own ∙ ap (λ (l : List ℕ). l ++ numbers_from (length before) (drop (length before) new.seen))
      (one.own ∙ sym (own-stays old.own mid.seen));
  leases = λ lease may. two.leases lease (one.leases lease may);
  floor = omega (arith, one.floor, two.floor);
  faults = omega (arith, one.faults, two.faults);
}

-- one look after another
pub looked_twice : (old mid new : DeskView) → HasLooked old mid → HasLooked mid new → HasLooked old new
looked_twice old mid new one two = looked-moved old mid new new.seen one two

-- ---- what was sent and what is prepared

-- what a message says stays so
pub so-more : (case : CaseShape) (front rest : List Entry) (message : Outgoing) → IsSoIn case front message
    → IsSoIn case (front ++ rest) message
so-more case front rest (outgoing.Deliver delivery sender) so = record {
  made = found-more case.topology front rest delivery.id delivery so.made;
  on_sender = IsMadeOn-more front sender delivery rest so.on_sender;
}
so-more case front rest (outgoing.Ack to id) so = is_handled-more id front rest so

-- a message that may be sent still may
pub outgoing-more : (case : CaseShape) (old new : DeskView) (message : Outgoing) → HasMore old new
    → IsOutgoing case old message → IsOutgoing case new message
outgoing-more case old new message more is = record {
  so = if-same old.told new.told (IsSoIn case old.seen message) (IsSoIn case new.seen message) more.told
      (λ was. subst (λ (h : List Entry). IsSoIn case h message) (sym more.more) (so-more case old.seen more.rest message was)) is.so;
  addressed = is.addressed;
}

-- and so each of them
pub outbox-more : (case : CaseShape) (old new : DeskView) (messages : List Outgoing) → HasMore old new
    → All (IsOutgoing case old) messages → All (IsOutgoing case new) messages
outbox-more case old new messages more each =
    All-weaker (IsOutgoing case old) (IsOutgoing case new) (λ m is. outgoing-more case old new m more is) messages each

-- what gives something of what may be there
and_then-some : {X Y : Type 0} (f : X → Option Y) (o : Option X) (y : Y) → option_and_then f o ≡ Some y
    → (x : X) × (o ≡ Some x) × (f x ≡ Some y)
and_then-some f None y is = absurd cc
and_then-some f (Some x) y is = (x, refl, is)

-- the interval of a row that is held
pub held-interval : (shape : Shape) (all : List (Option HeldView)) (name : RowName) (held : HeldView)
    → held_on shape all name ≡ Some held → (i : ℕ) × (interval_of shape name ≡ Some i) × (held_at all i ≡ Some held)
held-interval shape all name held there = and_then-some (held_at all) (interval_of shape name) held there

-- a record that was handled stays right where what is held stays
handled-kept : (case : CaseShape) (old new : DeskView) (all after : List (Option HeldView)) (sender : RowName)
    (delivery : Delivery) (effects : EffectsView) → HasMore old new → KeepsHeld case.topology all after
    → IsHandled case old all sender delivery effects → IsHandled case new after sender delivery effects
handled-kept case old new all after sender delivery effects more kept is =
    let on = held-interval case.topology all delivery.to is.held is.there in
    let left = kept.there on.0 is.held on.2 in record {
      sent = outgoing-more case old new (outgoing.Deliver delivery sender) more is.sent;
      held = left.0;
      there = ap (option_and_then (held_at after)) on.1 ∙ left.1;
      handling = subst (λ (r : Contents). IsHandling case delivery.to r delivery effects) (sym (left.3 delivery.to)) is.handling;
    }

-- and so what is proposed of it
prepared-kept : (case : CaseShape) (old new : DeskView) (all after : List (Option HeldView)) (sender : RowName) (proposal : Proposal)
    → HasMore old new → KeepsHeld case.topology all after → IsPrepared case old all sender proposal
    → IsPrepared case new after sender proposal
prepared-kept case old new all after sender (proposals.Handle delivery effects) more kept is =
    handled-kept case old new all after sender delivery effects more kept is
prepared-kept case old new all after sender (proposals.Inject line) more kept is = absurd is
prepared-kept case old new all after sender (proposals.Fire timer mark effects) more kept is = absurd is

-- the same of what may be prepared
pub works-kept : (case : CaseShape) (old new : DeskView) (all after : List (Option HeldView)) (work : Option WorkView)
    → HasMore old new → KeepsHeld case.topology all after → IfSome work (IsWork case old all) → IfSome work (IsWork case new after)
works-kept case old new all after None more kept is = tt
works-kept case old new all after (Some work) more kept is =
    prepared-kept case old new all after work.sender work.proposal more kept is

-- a node whose desk has refused fits
pub Fits-kept : (case : CaseShape) (old new : DeskView) (node after : NodeView) → HasMore old new → AreAllHeld case new after.held
    → KeepsHeld case.topology node.held after.held → after.prepared ≡ node.prepared → after.outbox ≡ node.outbox
    → Fits case old node → Fits case new after
Fits-kept case old new node after more held kept prepared outbox fits = record {
  of_case = more.case ∙ fits.of_case;
  held = held;
  work = subst (λ (o : Option WorkView). IfSome o (IsWork case new after.held)) (sym prepared)
      (works-kept case old new node.held after.held node.prepared more kept fits.work);
  outbox = subst (All (IsOutgoing case new)) (sym outbox) (outbox-more case old new node.outbox more fits.outbox);
}

-- ---- the worker that a node is

-- the sequencer of what is held
abbrev seq_of : Option HeldView → Option ℕ
seq_of here = option_map (λ (held : HeldView). held.lease.seq) here

-- two workers of the same three parts
same-workers : (one two : Worker) → one.leases ≡ two.leases → one.prepared ≡ two.prepared → one.outbox ≡ two.outbox → one ≡ two
same-workers one two leases prepared outbox = λ i. record { leases = leases i; prepared = prepared i; outbox = outbox i }

-- a record of a proposal, if it is there
abbrev sending_at : Option WorkView → Option Sending
sending_at o = option_and_then (λ (work : WorkView). sending_in work.sender work.proposal) o

-- a node that holds the same is the same worker
pub worker-kept : (shape : Shape) (node after : NodeView) → KeepsHeld shape node.held after.held → after.prepared ≡ node.prepared
    → after.outbox ≡ node.outbox → HasKept node after
worker-kept shape node after kept prepared outbox =
    same-workers (worker_at after) (worker_at node) (fun_ext (λ i. here i (held_at node.held i) refl)) (ap sending_at prepared) outbox
  where
    here : (i : ℕ) (o : Option HeldView) → held_at node.held i ≡ o → leases_of after.held i ≡ leases_of node.held i
    here i None is = ap seq_of (kept.none i is) ∙ sym (ap seq_of is)
    here i (Some held) is = let left = kept.there i held is in
        ap seq_of left.1 ∙ ap (λ (l : LeaseView). Some l.seq) left.2 ∙ sym (ap seq_of is)

-- a node that holds another lease of one interval
pub leases-changed : (before after : List (Option HeldView)) (interval : ℕ) (here : Option HeldView) → held_at after interval ≡ here
    → KeepsOthers interval before after
    → leases_of after ≡ (λ (i : ℕ). if i == interval then seq_of here else leases_of before i)
leases-changed before after interval here at others = fun_ext (λ i. elim (cases_eq i interval) [
  | inl same ↦ ap (leases_of after) same ∙ ap seq_of at
      ∙ sym (ap (λ b. if b then seq_of here else leases_of before i) (eq-eqb i interval same))
  | inr other ↦ ap seq_of (others i other) ∙ sym (ap (λ b. if b then seq_of here else leases_of before i) (ne_eqb i interval other))
])

-- whether a record goes elsewhere
abbrev elsewhere : Shape → ℕ → Sending → Bool
elsewhere shape interval sending = not (goes_into shape interval sending)

-- the record of a work that is kept, if it goes elsewhere
sending-beside : (shape : Shape) (interval : ℕ) (work : Option WorkView)
    → sending_at (work_beside shape interval work) ≡ where_passes (elsewhere shape interval) (sending_at work)
sending-beside shape interval None = refl
sending-beside shape interval (Some work) = by_kind work.sender work.proposal
  where
    by_kind : (sender : RowName) (proposal : Proposal) → let work : WorkView = record { sender = sender; proposal = proposal } in
        sending_at (work_beside shape interval (Some work)) ≡ where_passes (elsewhere shape interval) (sending_in sender proposal)
    by_kind sender (proposals.Inject line) = refl
    by_kind sender (proposals.Fire timer mark effects) = refl
    by_kind sender (proposals.Handle delivery effects) =
        let sending : Sending = record { delivery = delivery; sender = sender } in
        let work : WorkView = record { sender = sender; proposal = proposals.Handle delivery effects } in
        elim (goes_into shape interval sending) as (λ b. sending_at (if not b then Some work else None)
        ≡ (if not b then Some sending else None)) [ true ↦ refl | false ↦ refl ]

-- a node that lost a lease
pub worker-let_go : (shape : Shape) (interval : ℕ) (old new : NodeView) → HasLetGo shape interval old new
    → worker_at new ≡ with_lease shape interval None (worker_at old)
worker-let_go shape interval old new gone = same-workers (worker_at new) (with_lease shape interval None (worker_at old))
    (leases-changed old.held new.held interval None gone.gone gone.others)
    (ap sending_at gone.prepared ∙ sending-beside shape interval old.prepared) gone.outbox

-- ---- what a refusal leaves

-- what a refused call answers, and why it failed
pub answers-refused : (shape : Shape) (old new : DeskView) (asked : Request) (after : Worker) (was mid node : NodeView) (why : DeskRefusal)
    → HasLooked old new → HasReason old new asked.lease why → HasKept was mid → HasYielded shape asked.lease.interval why mid node
    → IfOk (answered why) (AnswersWrite shape old new asked after was node)
answers-refused shape old new asked after was mid node (refusals.Busy found) looked reason kept left = record {
  idle = record { looked = looked; kept = ap worker_at left ∙ kept };
  refused = record { asked = old; looked = looked_not old; reason = reason };
}
answers-refused shape old new asked after was mid node (refusals.Stale newer) looked reason kept left = record {
  looked = looked;
  claim = (reason.stale tt newer).0 refl;
  left = worker-let_go shape asked.lease.interval mid node left ∙ ap (with_lease shape asked.lease.interval None) kept;
}
answers-refused shape old new asked after was mid node refusals.HistoryFull looked reason kept left = tt
answers-refused shape old new asked after was mid node refusals.KeeperFault looked reason kept left = tt
answers-refused shape old new asked after was mid node (refusals.RowDamaged name bytes) looked reason kept left = tt
answers-refused shape old new asked after was mid node refusals.NoMemory looked reason kept left = tt

-- a fault of the desk is handed on
pub fails-refused : (old new : DeskView) (lease : LeaseView) (why : DeskRefusal) → HasReason old new lease why
    → IfErr (answered why) (λ fault. IsRefused old new lease (refusal_of fault))
fails-refused old new lease (refusals.Busy found) reason = tt
fails-refused old new lease (refusals.Stale newer) reason = tt
fails-refused old new lease refusals.HistoryFull reason = record { asked = old; looked = looked_not old; reason = reason }
fails-refused old new lease refusals.KeeperFault reason = record { asked = old; looked = looked_not old; reason = reason }
fails-refused old new lease (refusals.RowDamaged name bytes) reason = record { asked = old; looked = looked_not old; reason = reason }
fails-refused old new lease refusals.NoMemory reason = record { asked = old; looked = looked_not old; reason = reason }

-- and leaves the node as it was
pub keeps-refused : (shape : Shape) (interval : ℕ) (was mid node : NodeView) (why : DeskRefusal) → HasKept was mid
    → HasYielded shape interval why mid node → OnErr (answered why) (HasKept was node)
keeps-refused shape interval was mid node (refusals.Busy found) kept left = tt
keeps-refused shape interval was mid node (refusals.Stale newer) kept left = tt
keeps-refused shape interval was mid node refusals.HistoryFull kept left = ap worker_at left ∙ kept
keeps-refused shape interval was mid node refusals.KeeperFault kept left = ap worker_at left ∙ kept
keeps-refused shape interval was mid node (refusals.RowDamaged name bytes) kept left = ap worker_at left ∙ kept
keeps-refused shape interval was mid node refusals.NoMemory kept left = ap worker_at left ∙ kept

-- a record that goes elsewhere stays right
handled-beside : (case : CaseShape) (desk : DeskView) (before after : List (Option HeldView)) (interval : ℕ) (sender : RowName)
    (delivery : Delivery) (effects : EffectsView) → KeepsOthers interval before after
    → goes_into case.topology interval (record { delivery = delivery; sender = sender }) ≡ false
    → IsHandled case desk before sender delivery effects → IsHandled case desk after sender delivery effects
handled-beside case desk before after interval sender delivery effects others passes is =
    let on = held-interval case.topology before delivery.to is.held is.there in
    let goes : (on.0 == interval) ≡ false =
    sym (ap (λ (o : Option ℕ). option_map_or (λ (i : ℕ). i == interval) o false) on.1) ∙ passes in
    let other : on.0 ≢ interval = λ same. absurd (let yes_same = eq-eqb on.0 interval same in cc) in record {
      sent = is.sent;
      held = is.held;
      there = ap (option_and_then (held_at after)) on.1 ∙ others on.0 other ∙ on.2;
      handling = is.handling;
    }

-- and so what is proposed of it
prepared-beside : (case : CaseShape) (desk : DeskView) (before after : List (Option HeldView)) (interval : ℕ) (sender : RowName)
    (proposal : Proposal) → KeepsOthers interval before after
    → is_work_in case.topology interval (record { sender = sender; proposal = proposal }) ≡ false
    → IsPrepared case desk before sender proposal → IsPrepared case desk after sender proposal
prepared-beside case desk before after interval sender (proposals.Handle delivery effects) others passes is =
    handled-beside case desk before after interval sender delivery effects others passes is
prepared-beside case desk before after interval sender (proposals.Inject line) others passes is = absurd is
prepared-beside case desk before after interval sender (proposals.Fire timer mark effects) others passes is = absurd is

-- the same of what may be prepared
works-beside : (case : CaseShape) (desk : DeskView) (before after : List (Option HeldView)) (interval : ℕ) (work : Option WorkView)
    → KeepsOthers interval before after → IfSome work (IsWork case desk before)
    → IfSome (work_beside case.topology interval work) (IsWork case desk after)
works-beside case desk before after interval None others is = tt
works-beside case desk before after interval (Some work) others is = by_test (is_work_in case.topology interval work) refl
  where
    by_test : (b : Bool) → is_work_in case.topology interval work ≡ b → IfSome (if not b then Some work else None) (IsWork case desk after)
    by_test true passes = tt
    by_test false passes = prepared-beside case desk before after interval work.sender work.proposal others passes is

-- a node that has let go of an interval fits
pub Fits-let_go : (case : CaseShape) (desk : DeskView) (interval : ℕ) (old new : NodeView) → HasLetGo case.topology interval old new
    → Fits case desk old → Fits case desk new
Fits-let_go case desk interval old new gone fits = record {
  of_case = fits.of_case;
  held = AreAllHeld-fewer case desk old.held new.held interval gone.gone gone.others fits.held;
  work = subst (λ (o : Option WorkView). IfSome o (IsWork case desk new.held)) (sym gone.prepared)
      (works-beside case desk old.held new.held interval old.prepared gone.others fits.work);
  outbox = subst (All (IsOutgoing case desk)) (sym gone.outbox) fits.outbox;
}

-- a node that has yielded to its desk fits
pub Fits-yielded : (case : CaseShape) (desk : DeskView) (interval : ℕ) (why : DeskRefusal) (old new : NodeView)
    → HasYielded case.topology interval why old new → Fits case desk old → Fits case desk new
Fits-yielded case desk interval (refusals.Busy found) old new left fits = subst (Fits case desk) (sym left) fits
Fits-yielded case desk interval (refusals.Stale newer) old new left fits = Fits-let_go case desk interval old new left fits
Fits-yielded case desk interval refusals.HistoryFull old new left fits = subst (Fits case desk) (sym left) fits
Fits-yielded case desk interval refusals.KeeperFault old new left fits = subst (Fits case desk) (sym left) fits
Fits-yielded case desk interval (refusals.RowDamaged name bytes) old new left fits = subst (Fits case desk) (sym left) fits
Fits-yielded case desk interval refusals.NoMemory old new left fits = subst (Fits case desk) (sym left) fits

-- ---- claims

-- what is held is kept where nothing changed
pub keeps-same : (shape : Shape) (all : List (Option HeldView)) → KeepsHeld shape all all
keeps-same shape all = record { there = λ i held at. (held, at, refl, λ name. refl); none = λ i none. none }

-- what a claim leaves of a node
abbrev pub claimed_by : Shape → ℕ → List (Option HeldView) → NodeView → NodeView
claimed_by shape interval held node =
    record node { held = held; prepared = work_beside shape interval node.prepared }

-- a node that has claimed an interval fits
pub Fits-claimed : (case : CaseShape) (old new : DeskView) (node : NodeView) (held : List (Option HeldView)) (worker interval seq : ℕ)
    → HoldsClaim old new worker interval seq node.held held → AreAllHeld case new held → Fits case old node
    → Fits case new (claimed_by case.topology interval held node)
Fits-claimed case old new node held worker interval seq claim fit fits =
    let by = claim.claimed in
    let more = more-appended old new by.before (entries.Claim worker interval) by.moved by.appended in
    let beside = works-beside case old node.held held interval node.prepared claim.others fits.work in record {
      of_case = more.case ∙ fits.of_case;
      held = fit;
      work = works-kept case old new held held (work_beside case.topology interval node.prepared) more (keeps-same case.topology held) beside;
      outbox = outbox-more case old new node.outbox more fits.outbox;
    }

-- a claim is an entry of the node's own
pub grown-claimed : (all : List (Option HeldView)) (old new : DeskView) (worker interval seq : ℕ) (before after : List (Option HeldView))
    → HoldsClaim old new worker interval seq before after → HasGrown all old new
grown-claimed all old new worker interval seq before after claim = let by = claim.claimed in record {
  before = by.before;
  moved = by.moved;
  own = Some (entries.Claim worker interval);
  appended = by.appended;
  under = inl refl;
}

-- a call that looked appended nothing
pub grown_looked : (all : List (Option HeldView)) (old new : DeskView) → HasLooked old new → HasGrown all old new
grown_looked all old new looked =
    record { before = new.seen; moved = looked; own = None; appended = sym (append-nil new.seen); under = tt }

-- what a refused claim answers
pub answers-unclaimed : (shape : Shape) (old new : DeskView) (interval : ℕ) (was node : NodeView) (why : DeskRefusal) → HasLooked old new
    → HasClaimReason old new why → HasKept was node → IfOk (answered why) (AnswersClaim shape old new interval was node)
answers-unclaimed shape old new interval was node (refusals.Busy found) looked reason kept =
    (record { looked = looked; kept = kept }, reason)
answers-unclaimed shape old new interval was node (refusals.Stale newer) looked reason kept = absurd (reason.never_stale newer refl)
answers-unclaimed shape old new interval was node refusals.HistoryFull looked reason kept = tt
answers-unclaimed shape old new interval was node refusals.KeeperFault looked reason kept = tt
answers-unclaimed shape old new interval was node (refusals.RowDamaged name bytes) looked reason kept = tt
answers-unclaimed shape old new interval was node refusals.NoMemory looked reason kept = tt

-- a node that a refusal left as it was
pub kept-any : (why : DeskRefusal) (was node : NodeView) → HasKept was node → OnErr (answered why) (HasKept was node)
kept-any (refusals.Busy found) was node kept = tt
kept-any (refusals.Stale newer) was node kept = tt
kept-any refusals.HistoryFull was node kept = kept
kept-any refusals.KeeperFault was node kept = kept
kept-any (refusals.RowDamaged name bytes) was node kept = kept
kept-any refusals.NoMemory was node kept = kept

-- ---- beside a worker that acts

-- a node that fits still does where its desk has seen what others did
pub Fits-beside : (case : CaseShape) (old new : DeskView) (node : NodeView) → IsSound old → IsSound new
    → HasSeenOthers old new node.held → Fits case old node → Fits case new node
Fits-beside case old new node was is others fits =
    let more : HasMore old new = record { case = others.case; told = others.told; rest = others.rest; more = others.more } in
    Fits-kept case old new node node more (AreAllHeld-beside case old new node.held was is fits.of_case others fits.held)
    (keeps-same case.topology node.held) refl refl fits

-- ---- lack of memory

-- a call that has looked, and then wanted memory, has failed as it may
pub fails_memory : (old new : DeskView) (asked : Option Request) → HasLooked old new → FailsAsked old new asked faults.NoMemory
fails_memory old new None looked = refl
fails_memory old new (Some asked) looked = record { asked = new; looked = looked; reason = untried_reason new asked.lease }
