-- What the calls of a worker that is at work do to a book: how the history goes on, what the worker is then, and why a call fails.
use Rattle.std.proofs.Common.{◌≡◌, ◌<◌, ℕ, false, cond, List, ◌++◌, length, refl, sym, ◌∙◌, ap, subst, arith, inl, inr, ◌↔◌}
use Rattle.std.specs.Prelude.{Option, Some, None, IfSome}
use Rattle.std.specs.Option.{is_some, option_map, option_and_then}
use Rattle.std.proofs.lemmas.List.{append-nil}
use Rattle.mw_types.specs.declared.entry.Entry.{Entry}
use Rattle.mw_types.specs.declared.identity.RowName.{RowName}
use Rattle.topology.specs.Rules.{interval_count}
use Rattle.topology.specs.Shapes.{Shape}
use Rattle.run_history.specs.Cases.{CaseShape, intervals_of}
use Rattle.run_history.proofs.CaseIntervals.{length-intervals}
use Rattle.run_history.proofs.IntervalLaws.{interval_of-has}
use Rattle.std.proofs.lemmas.Option.{slice_get_within}
use Rattle.run_history.specs.Fences.{IsCurrent, interval_of, is_claim, last_claim}
use Rattle.run_history.proofs.Claims.{last_claim-push}
use Rattle.list_lemmas.proofs.Lists.{some_same, none_some}
use Rattle.book.specs.Books.{BookView, LeaseView}
use Rattle.book.specs.DeskReasons.{HasClaimReason, IsDamageOf, IsDecided, IsNoDamage}
use Rattle.book.specs.Desks.{DeskView, HasLooked, HasMoved}
use Rattle.book.specs.OwnDesks.{own_view, telling}
use Rattle.book.specs.declared.desk_refusal.DeskRefusal.TheVariants as refusals
use Rattle.book.specs.declared.proposal.Proposal.{Proposal}
use Rattle.book.specs.declared.proposal.Proposal.TheVariants as proposals
use Rattle.holdings.specs.Holding.{HeldView, held_at, held_on}
use Rattle.node.specs.Answers.{FailsAsked, FailsSome, IsRefused, refusal_of}
use Rattle.node.specs.Asking.{Request}
use Rattle.node.specs.Fits.{Fits, IsWork}
use Rattle.node.specs.Workers.{NodeView, WorkView, leases_of, sending_in, sending_of}
use Rattle.node.specs.declared.outcome.NodeFault.{NodeFault}
use Rattle.node.specs.declared.outcome.NodeFault.TheVariants as faults
use Rattle.world.specs.drains.Turns.{HasFailed, HasFirst, HasStepped, IsAtWork, with_own}

-- ---- how the history goes on

-- a desk tells exactly where its book does
telling-some : {X : Type 0} (o : Option X) → is_some (telling o) ≡ is_some o
telling-some None = refl
telling-some (Some x) = refl

-- a desk that is alone saw nothing of others
pub moved-before : (old new : BookView) (before : List Entry) → HasMoved (own_view old) (own_view new) before → before ≡ old.history
moved-before old new before moved = moved.more ∙ ap (λ l. old.history ++ l) (moved.none refl) ∙ append-nil old.history

-- a book has stepped on by what its desk appended
pub stepped-by : (old new : BookView) (before : List Entry) (own : Option Entry) → HasMoved (own_view old) (own_view new) before
    → new.history ≡ with_own own before → HasStepped old new own
stepped-by old new before own moved appended = record {
  case = moved.case;
  limit = moved.limit;
  tells = sym (telling-some new.rows) ∙ ap is_some moved.told ∙ telling-some old.rows;
  faults = moved.faults;
  appended = appended ∙ ap (with_own own) (moved-before old new before moved);
}

-- a book has stayed where nothing was appended
pub stepped-looked : (old new : BookView) → HasLooked (own_view old) (own_view new) → HasStepped old new None
stepped-looked old new looked = stepped-by old new new.history None looked refl

-- a book where nothing was done has stayed
pub stepped-not : (book : BookView) → HasStepped book book None
stepped-not book = record { case = refl; limit = refl; tells = refl; faults = omega arith; appended = refl }

-- one step after another, of which the first appended nothing
pub stepped-on : (one two three : BookView) (own : Option Entry) → HasStepped one two None → HasStepped two three own
    → HasStepped one three own
stepped-on one two three own first second = record {
  case = second.case ∙ first.case;
  limit = second.limit ∙ first.limit;
  tells = second.tells ∙ first.tells;
  faults = let f = first.faults in let s = second.faults in omega (arith, f, s);
  appended = second.appended ∙ ap (with_own own) first.appended;
}

-- ---- the leases

-- an entry is no claim
abbrev pub IsWrite : Entry → Type 0
IsWrite entry = (interval : ℕ) → is_claim interval entry ≡ false

-- the last claims stay where no claim is appended
pub claims-stay : (own : Option Entry) (history : List Entry) (interval : ℕ) → IfSome own IsWrite
    → last_claim interval (with_own own history) ≡ last_claim interval history
claims-stay None history interval none = refl
claims-stay (Some entry) history interval write =
    last_claim-push interval history entry ∙ ap (λ b. cond b (Some (length history)) (last_claim interval history)) (write interval)

-- what is held of an interval, by its lease
pub held-leased : (all : List (Option HeldView)) (interval seq : ℕ) → leases_of all interval ≡ Some seq
    → (held : HeldView) × (held_at all interval ≡ Some held) × (held.lease.seq ≡ seq)
held-leased all interval seq is = by_place (held_at all interval) refl is
  where
    by_place : (o : Option HeldView) → held_at all interval ≡ o → option_map (λ (h : HeldView). h.lease.seq) o ≡ Some seq
        → (held : HeldView) × (held_at all interval ≡ Some held) × (held.lease.seq ≡ seq)
    by_place None at e = absurd (none_some seq e)
    by_place (Some held) at e = (held, at, some_same held.lease.seq seq e)

-- the lease of what is held
pub lease-held : (all : List (Option HeldView)) (interval : ℕ) (held : HeldView) → held_at all interval ≡ Some held
    → leases_of all interval ≡ Some held.lease.seq
lease-held all interval held at = ap (option_map (λ (h : HeldView). h.lease.seq)) at

-- leases stay the last where they and the last claims stay
pub first-after : (before after : List Entry) (was now : List (Option HeldView)) (count : ℕ) → leases_of now ≡ leases_of was
    → ((interval : ℕ) → last_claim interval after ≡ last_claim interval before) → HasFirst before was count → HasFirst after now count
first-after before after was now count same stay first interval less =
    let here = first interval less in
    let held = held-leased now interval here.held.lease.seq (ap (λ f. f interval) same ∙ lease-held was interval here.held here.there) in record {
      held = held.0;
      there = held.1;
      last = stay interval ∙ here.last ∙ ap Some (sym held.2);
    }

-- ---- what is prepared

-- a worker has prepared nothing where it has no record that it handled
pub free-of : (case : CaseShape) (desk : DeskView) (node : NodeView) → Fits case desk node → sending_of node ≡ None → node.prepared ≡ None
free-of case desk node fits none = by_work node.prepared refl fits.work none
  where
    by_proposal : (sender : RowName) (p : Proposal) → IsWork case desk node.held (record { sender = sender; proposal = p })
        → sending_in sender p ≡ None → ⊥
    by_proposal sender (proposals.Inject line) is e = is
    by_proposal sender (proposals.Handle delivery effects) is e = cc
    by_proposal sender (proposals.Fire timer mark effects) is e = is

    by_work : (o : Option WorkView) → node.prepared ≡ o → IfSome o (IsWork case desk node.held)
        → option_and_then (λ (work : WorkView). sending_in work.sender work.proposal) o ≡ None → node.prepared ≡ None
    by_work None at is e = at
    by_work (Some work) at is e = absurd (by_proposal work.sender work.proposal is e)

-- and has no record where it has prepared nothing
pub sending-none : (node : NodeView) → node.prepared ≡ None → sending_of node ≡ None
sending-none node free = ap (option_and_then (λ (work : WorkView). sending_in work.sender work.proposal)) free

-- ---- a worker that stays at work

-- it is at work after a step that is no claim, with the leases that it had
pub at_work-after : (old new : BookView) (was node : NodeView) (own : Option Entry) → IsAtWork old was → HasStepped old new own
    → IfSome own IsWrite → Fits old.case (own_view new) node → leases_of node.held ≡ leases_of was.held → sending_of node ≡ None
    → IsAtWork new node
at_work-after old new was node own at stepped write fits leases free = record {
  fits = subst (λ (c : CaseShape). Fits c (own_view new) node) (sym stepped.case) fits;
  free = free-of old.case (own_view new) node fits free;
  each = subst (HasFirst new.history node.held) (sym (ap (λ (c : CaseShape). interval_count c.topology) stepped.case))
      (first-after old.history new.history was.held node.held (interval_count old.case.topology) leases
      (λ interval. ap (last_claim interval) stepped.appended ∙ claims-stay own old.history interval write) at.each);
}

-- ---- what is answered

-- the interval in which a row lies is one that is counted
pub interval-counted : (shape : Shape) (name : RowName) (interval : ℕ) → interval_of shape name ≡ Some interval
    → interval < interval_count shape
interval-counted shape name interval lies =
    let has = interval_of-has shape interval name lies in
    let within = slice_get_within (intervals_of shape) interval has.0 has.1 in
    let all = length-intervals shape in omega (arith, within, all)

-- a request is under the lease of what is held of a row's interval, and for no claim
pub record IsOwnRequest (shape : Shape) (all : List (Option HeldView)) (asked : Request) : Type 0 where
  pub name : RowName
  pub held : HeldView
  pub on : held_on shape all name ≡ Some held
  pub lease : asked.lease ≡ held.lease
  pub write : IsWrite asked.entry

-- the lease of a worker at work is the last of the interval in which a row lies
pub current : (book : BookView) (node : NodeView) (name : RowName) (held : HeldView) → IsAtWork book node
    → held_on book.case.topology node.held name ≡ Some held → IsCurrent held.lease.interval held.lease.seq book.history
current book node name held at on = by_interval (interval_of book.case.topology name) refl on
  where
    by_interval : (o : Option ℕ) → interval_of book.case.topology name ≡ o → option_and_then (held_at node.held) o ≡ Some held
        → IsCurrent held.lease.interval held.lease.seq book.history
    by_interval None lies e = absurd (none_some held e)
    by_interval (Some interval) lies e =
        let last = at.each interval (interval-counted book.case.topology name interval lies) in
        let same : last.held ≡ held = some_same last.held held (sym last.there ∙ e) in
        let own = (at.fits.held.each interval held e).of_interval in
        subst (λ (i : ℕ). IsCurrent i held.lease.seq book.history) (sym own)
        (subst (λ (h : HeldView). IsCurrent interval h.lease.seq book.history) same last.last)

-- ---- why a call fails

-- a fault for lack of memory
pub failed-memory : (old new : BookView) → HasLooked (own_view old) (own_view new) → HasFailed old new faults.NoMemory
failed-memory old new looked = record {
  stepped = stepped-looked old new looked;
  keeper = λ e. absurd (cc);
  full = λ e. absurd (cc);
  damaged = tt;
}

-- a lack of memory where nothing was done
pub failed-not : (book : BookView) (why : NodeFault) → why ≡ faults.NoMemory → HasFailed book book why
failed-not book why is = subst (HasFailed book book) (sym is) (record {
  stepped = stepped-not book;
  keeper = λ e. absurd (cc);
  full = λ e. absurd (cc);
  damaged = tt;
})

-- where no row is said to be damaged none is
no-damage : (desk : DeskView) (why : NodeFault) → IsNoDamage (refusal_of why) → IsDamageOf desk (refusal_of why)
no-damage desk faults.HistoryFull none = tt
no-damage desk faults.KeeperFault none = tt
no-damage desk (faults.RowDamaged name bytes) none = absurd none
no-damage desk faults.NoMemory none = tt

-- a fault by a refusal under a lease
pub failed-refused : (old new : BookView) (lease : LeaseView) (why : NodeFault) → HasLooked (own_view old) (own_view new)
    → IsRefused (own_view old) (own_view new) lease (refusal_of why) → HasFailed old new why
failed-refused old new lease why looked refused = record {
  stepped = stepped-looked old new looked;
  keeper = λ e.
      let rose = refused.reason.counts.keeper (ap refusal_of e) in
      let later = refused.looked.faults in omega (arith, rose, later);
  full = λ e. full why e (refused.reason.full);
  damaged = no-damage (own_view new) why refused.reason.no_row;
}
  where
    full : (f : NodeFault) → f ≡ faults.HistoryFull
        → (IsDecided (refusal_of f) → (refusal_of f ≡ refusals.HistoryFull)
        ↔ (length new.history ≡ new.limit) × IsCurrent lease.interval lease.seq new.history) → length new.history ≡ new.limit
    full faults.HistoryFull e by = ((by tt).0 refl).0
    full faults.KeeperFault e by = absurd (cc)
    full (faults.RowDamaged name bytes) e by = absurd (cc)
    full faults.NoMemory e by = absurd (cc)

-- a fault of a call that asked for an entry
pub failed-asked : (old new : BookView) (asked : Option Request) (why : NodeFault) → HasLooked (own_view old) (own_view new)
    → FailsAsked (own_view old) (own_view new) asked why → HasFailed old new why
failed-asked old new None why looked fails = subst (HasFailed old new) (sym fails) (failed-memory old new looked)
failed-asked old new (Some asked) why looked fails = failed-refused old new asked.lease why looked fails

-- a fault of a call that asked for some entry
pub failed-some : (old new : BookView) (MayAsk : Request → Type 0) (why : NodeFault) → HasLooked (own_view old) (own_view new)
    → FailsSome (own_view old) (own_view new) MayAsk why → HasFailed old new why
failed-some old new MayAsk why looked (inl fails) = subst (HasFailed old new) (sym fails) (failed-memory old new looked)
failed-some old new MayAsk why looked (inr (asked, may, refused)) = failed-refused old new asked.lease why looked refused

-- a fault of a claim
pub failed-claim : (old new : BookView) (why : NodeFault) → HasLooked (own_view old) (own_view new)
    → HasClaimReason (own_view old) (own_view new) (refusal_of why) → HasFailed old new why
failed-claim old new why looked reason = record {
  stepped = stepped-looked old new looked;
  keeper = λ e. reason.counts.keeper (ap refusal_of e);
  full = λ e. full why e (reason.full);
  damaged = reason.damaged;
}
  where
    full : (f : NodeFault) → f ≡ faults.HistoryFull
        → (IsDecided (refusal_of f) → (refusal_of f ≡ refusals.HistoryFull) ↔ (length new.history ≡ new.limit))
        → length new.history ≡ new.limit
    full faults.HistoryFull e by = (by tt).0 refl
    full faults.KeeperFault e by = absurd (cc)
    full (faults.RowDamaged name bytes) e by = absurd (cc)
    full faults.NoMemory e by = absurd (cc)
