-- What each write of a drain leaves, by what was asked for.
use Rattle.std.proofs.Common.{◌≡◌, ◌<◌, ℕ, Bool, true, false, List, refl, sym, ◌∙◌, ap, subst, arith}
use Rattle.std.specs.Prelude.{Option, Some, None, IsSome, IfSome, All, Result, IfOk, IfErr}
use Rattle.std.specs.Option.{is_some, option_and_then, option_map, option_map_or}
use Rattle.std.proofs.lemmas.List.Elements.{All-contains}
use Rattle.mw_types.specs.Outcomes.{EffectsView}
use Rattle.mw_types.specs.declared.delivery.Delivery.{Delivery}
use Rattle.mw_types.specs.declared.entry.Entry.{Entry}
use Rattle.mw_types.specs.declared.entry.Entry.TheVariants as entries
use Rattle.mw_types.specs.declared.identity.RecordId.{RecordId}
use Rattle.mw_types.specs.declared.identity.RowName.{RowName}
use Rattle.mw_types.specs.declared.timer.Timer.{Timer}
use Rattle.topology.specs.Rules.{interval_count}
use Rattle.topology.specs.Shapes.{Shape, injectors_of, parts_of}
use Rattle.row_parts.specs.Contents.{IsDelivery, cursor_in, found_delivery, same_id}
use Rattle.run_history.specs.Cases.{CaseShape}
use Rattle.run_history.specs.Fences.{interval_of, is_claim}
use Rattle.run_history.specs.Finished.{is_handled}
use Rattle.computations.specs.Handlers.{OfTimer}
use Rattle.run_history.specs.Legal.{floor_of, outcome_of}
use Rattle.run_history.specs.Runs.{run_of}
use Rattle.book.specs.Books.{BookView}
use Rattle.book.specs.Conditions.{MaySettle}
use Rattle.book.specs.Desking.{IsPurgeKnown}
use Rattle.book.specs.OwnDesks.{own_view, telling}
use Rattle.book.specs.declared.proposal.Proposal.TheVariants as proposals
use Rattle.holdings.specs.Holding.{HeldView, held_at, held_on, row_held}
use Rattle.holdings.specs.Purges.{IsFirstToPurge}
use Rattle.node.specs.Asking.{IsNextTimer, MayAskFire, MayAskForget, MayAskPurge, Request, forgetting, line_asked, settle_asked, settling}
use Rattle.node.specs.FireSteps.{IsSetAt}
use Rattle.node.specs.LineSteps.{IsLineNext, injector_row}
use Rattle.node.specs.PurgeSteps.{IsToPurge}
use Rattle.node.specs.Workers.{NodeView}
use Rattle.node.specs.declared.outcome.NodeFault.{NodeFault}
use Rattle.node.specs.declared.outcome.NodeFault.TheVariants as faults
use Rattle.node.proofs.FirstLaws.{first-forgets, next-purge-held, rows-within}
use Rattle.node.proofs.FiringLaws.{firing, may-fire}
use Rattle.node.proofs.LineLaws.{asked-line}
use Rattle.node.proofs.PurgeLaws.{forget-floor, held-at-on, held-on-at}
use Rattle.node.proofs.SettleLaws.{pending-asked, settled_as}
use Rattle.world.specs.drains.Turns.{CanBeKept, HasAsked, HasAskedOne, HasHandled, HasProposed, HasStepped, IsAtWork, IsFullAsking, cursor_at, is_full_at, line_at, sent_at, worker_of}
use Rattle.world.proofs.drains.HeldLaws.{held-here, held-if, if-held}
use Rattle.world.proofs.drains.InjectLaws.{line-there}
use Rattle.world.proofs.drains.KnownLaws.{held-there}
use Rattle.world.proofs.drains.LeastWorkLaws.{ack-none, forgets-full, full-held}
use Rattle.world.proofs.drains.NextLaws.{find-has}
use Rattle.world.proofs.drains.TurnLaws.{IsOwnRequest, stepped-not}

-- ---- what is found

-- what is found among deliveries that can be kept can be kept
pub kept-found : (pending : List Delivery) (id : RecordId) (d : Delivery) → All IsDelivery pending → found_delivery id pending ≡ Some d
    → CanBeKept d
kept-found pending id d each found =
    let is = All-contains IsDelivery pending d each (find-has (λ (e : Delivery). same_id e.id id) pending d found) in
    record { id = is.id; stamp = is.stamp }

-- what follows where a book tells is told by its desk
pub told-if : {X : Type 0} (o : Option X) (Fact : Type 0) → (IsSome o → Fact) → IfSome (telling o) (λ _. Fact)
told-if None Fact f = tt
told-if (Some x) Fact f = f refl

-- ---- what was asked for

-- an entry that was asked for
asked-one : (old new : BookView) (MayAsk : Request → Type 0) (asked : Request) → MayAsk asked → HasStepped old new (Some asked.entry)
    → HasAskedOne old new MayAsk true
asked-one old new MayAsk asked may stepped = record {
  asked = Some asked;
  done = record { stepped = stepped; is_more = refl };
  may = may;
  none = λ e. absurd (cc);
}

-- none, where there is none to ask for
pub asked-none : (book : BookView) (MayAsk : Request → Type 0) → ((asked : Request) → MayAsk asked → ⊥) → HasAskedOne book book
    MayAsk false
asked-none book MayAsk none = record {
  asked = None;
  done = record { stepped = stepped-not book; is_more = refl };
  may = tt;
  none = λ e. none;
}

-- ---- a line

-- a line that an injector has left is its next
pub line-next : (book : BookView) (all : List (Option HeldView)) (part line : ℕ) → IsAtWork book (worker_of all)
    → part < injectors_of book.case.topology → part < parts_of book.case.topology
    → line_at book.case (worker_of all) part ≡ Some (line, part) → IsLineNext book.case (worker_of all) part line
line-next book all part line at injector there is =
    let held = held-there book (worker_of all) (injector_row part) at there in
    let has = line-there book.case (worker_of all) part (line, part) is in
    let cursor : cursor_at book.case (worker_of all) part ≡ line = ap (λ (l : ℕ × ℕ). l.0) has.1 in
    let same : cursor_at book.case (worker_of all) part
    ≡ cursor_in (row_held book.case.topology held.0 (injector_row part)).state = ap (λ (o : Option HeldView).
    option_map_or (λ (h : HeldView). cursor_in (row_held book.case.topology h (injector_row part)).state) o 0) held.1 in
    let less = has.0 in record {
      injector = injector;
      held = held.0;
      there = held.1;
      next = sym cursor ∙ same;
      within = omega (arith, less, cursor);
    }

-- what was asked of it is there
pub line-asked : (old new : BookView) (all : List (Option HeldView)) (part line interval : ℕ)
    → IsLineNext old.case (worker_of all) part line → interval_of old.case.topology (injector_row part) ≡ Some interval
    → IfSome (held_at all interval) (λ here. HasProposed old new here.lease.seq (injector_row part) (proposals.Inject line))
    → HasAsked old new (line_asked old.case (worker_of all) part) true
line-asked old new all part line interval next covers done =
    let there = held-at-on old.case.topology all (injector_row part) interval next.held next.there covers in
    let is = if-held (λ here. HasProposed old new here.lease.seq (injector_row part) (proposals.Inject line)) all interval next.held
    there done in
    let entry = is.of_proposal in
    let asked = asked-line old.case (worker_of all) part line entry.0 next entry.1.0 in
    subst (λ (o : Option Request). HasAsked old new o true) (sym asked) (record {
      stepped = subst (λ (e : Entry). HasStepped old new (Some e)) entry.1.1 is.stepped;
      is_more = refl;
    })

-- ---- an acknowledgement

-- what is asked of a row that is held is under its lease
pub settling-own : (shape : Shape) (all : List (Option HeldView)) (to : RowName) (id : RecordId) (held : HeldView)
    → held_on shape all to ≡ Some held → IfSome (settling shape to id held) (IsOwnRequest shape all)
settling-own shape all to id held on = by_found (found_delivery id (row_held shape held to).pending)
  where
    by_found : (o : Option Delivery) → IfSome (option_map (λ (d : Delivery). record {
      lease = held.lease;
      name = to;
      entry = entries.Ack held.lease.seq to id;
      late = false;
    }) o) (IsOwnRequest shape all)
    by_found None = tt
    by_found (Some d) = record { name = to; held = held; on = on; lease = refl; write = λ interval. refl }

-- an id is pending in the row of an interval that is held
pub pending-here : (shape : Shape) (all : List (Option HeldView)) (to : RowName) (id : RecordId) (interval : ℕ) (here : HeldView)
    → interval_of shape to ≡ Some interval → held_at all interval ≡ Some here → is_some (sent_at shape (worker_of all) to id) ≡ true
    → is_some (found_delivery id (row_held shape here to).pending) ≡ true
pending-here shape all to id interval here covers there sent =
    subst (λ (o : Option HeldView). is_some (option_and_then (λ (h : HeldView). found_delivery id (row_held shape h to).pending) o) ≡
    true)
    (held-on-at shape all to interval here covers there) sent

-- it may be settled, where its record was handled
pub may-settle : (book : BookView) (all : List (Option HeldView)) (to : RowName) (id : RecordId) (interval : ℕ) → IsAtWork book
    (worker_of all)
    → interval_of book.case.topology to ≡ Some interval → is_some (sent_at book.case.topology (worker_of all) to id) ≡ true
    → (IsSome book.rows → is_handled id book.history ≡ true)
    → IfSome (held_at all interval) (λ here. MaySettle (telling book.rows) book.history (row_held book.case.topology here to) id)
may-settle book all to id interval at covers sent handled =
    let held = held-here book all to interval at covers in
    held-if (λ here. MaySettle (telling book.rows) book.history (row_held book.case.topology here to) id) all interval held.0 held.1
    (record {
      pending = pending-here book.case.topology all to id interval held.0 covers held.1 sent;
      handled = told-if book.rows (is_handled id book.history ≡ true) handled;
    })

-- what was asked of it is there
pub ack-asked : (old new : BookView) (all : List (Option HeldView)) (to : RowName) (id : RecordId) (interval : ℕ)
    → IsAtWork old (worker_of all) → interval_of old.case.topology to ≡ Some interval
    → is_some (sent_at old.case.topology (worker_of all) to id) ≡ true
    → IfSome (held_at all interval) (λ here. HasStepped old new (Some (entries.Ack here.lease.seq to id)))
    → HasAsked old new (settle_asked old.case.topology (worker_of all) to id) true
ack-asked old new all to id interval at covers sent done =
    let shape = old.case.topology in
    let held = held-here old all to interval at covers in
    let pending = pending-here shape all to id interval held.0 covers held.1 sent in
    let asked : settle_asked shape (worker_of all) to id ≡ Some (settled_as to id held.0) =
    ap (option_and_then (settling shape to id)) (held-on-at shape all to interval held.0 covers held.1)
    ∙ pending-asked shape to id held.0 pending in
    subst (λ (o : Option Request). HasAsked old new o true) (sym asked) (record {
      stepped = if-held (λ here. HasStepped old new (Some (entries.Ack here.lease.seq to id))) all interval held.0 held.1 done;
      is_more = refl;
    })

-- what is not there
some-none : {X : Type 0} (o : Option X) → is_some o ≡ false → o ≡ None
some-none None is = refl
some-none (Some x) is = absurd cc

-- none was asked of one that is not pending
pub ack-not : (book : BookView) (all : List (Option HeldView)) (to : RowName) (id : RecordId)
    → is_some (sent_at book.case.topology (worker_of all) to id) ≡ false
    → HasAsked book book (settle_asked book.case.topology (worker_of all) to id) false
ack-not book all to id none =
    subst (λ (o : Option Request). HasAsked book book o false)
    (sym (ack-none book.case.topology (worker_of all) to id (some-none (sent_at book.case.topology (worker_of all) to id) none)))
    (record { stepped = stepped-not book; is_more = refl })

-- ---- purges

-- what a row may be asked to forget is under its lease
pub forget-own : (shape : Shape) (was : NodeView) (least floor : ℕ) (name : RowName) (asked : Request)
    → MayAskForget shape was least floor name asked → IsOwnRequest shape was.held asked
forget-own shape was least floor name asked may = record {
  name = name;
  held = may.held;
  on = may.there;
  lease = ap (λ (a : Request). a.lease) may.request;
  write = λ interval. ap (λ (a : Request). is_claim interval a.entry) may.request;
}

-- a row that is full may be asked to forget
pub full-may : (book : BookView) (all : List (Option HeldView)) (name : RowName) (interval : ℕ) (here : HeldView)
    → interval_of book.case.topology name ≡ Some interval → held_at all interval ≡ Some here
    → let run = run_of book.case.topology book.history in is_full_at book.case.topology run (worker_of all) name ≡ true
    → MayAskForget book.case.topology (worker_of all) 64 (floor_of run) name (forgetting here name (floor_of run))
full-may book all name interval here covers there full =
    let shape = book.case.topology in
    let run = run_of shape book.history in
    let on = held-on-at shape all name interval here covers there in record {
      free = refl;
      held = here;
      there = on;
      forgets = forgets-full shape run here name (full-held shape run (worker_of all) name here true on full);
      request = refl;
    }

-- and has forgotten
pub forget-asked : (old new : BookView) (all : List (Option HeldView)) (name : RowName) (interval floor : ℕ)
    → floor ≡ floor_of (run_of old.case.topology old.history) → IsAtWork old (worker_of all)
    → interval_of old.case.topology name ≡ Some interval
    → is_full_at old.case.topology (run_of old.case.topology old.history) (worker_of all) name ≡ true
    → IfSome (held_at all interval) (λ here. HasStepped old new (Some (entries.Purge here.lease.seq name floor)))
    → let low = floor_of (run_of old.case.topology old.history) in
    HasAskedOne old new (MayAskForget old.case.topology (worker_of all) 64 low name) true
forget-asked old new all name interval floor is at covers full done =
    let held = held-here old all name interval at covers in
    let low = floor_of (run_of old.case.topology old.history) in
    asked-one old new (MayAskForget old.case.topology (worker_of all) 64 low name) (forgetting held.0 name low)
    (full-may old all name interval held.0 covers held.1 full)
    (subst (λ (f : ℕ). HasStepped old new (Some (entries.Purge held.0.lease.seq name f))) is
    (if-held (λ here. HasStepped old new (Some (entries.Purge here.lease.seq name floor))) all interval held.0 held.1 done))

-- a row that is full may forget
pub forget-known : (book : BookView) (all : List (Option HeldView)) (name : RowName) (interval floor : ℕ)
    → floor ≡ floor_of (run_of book.case.topology book.history) → IsAtWork book (worker_of all)
    → interval_of book.case.topology name ≡ Some interval
    → is_full_at book.case.topology (run_of book.case.topology book.history) (worker_of all) name ≡ true
    → name.part < parts_of book.case.topology
    → IfSome (held_at all interval) (λ here. IsPurgeKnown (own_view book) name (row_held book.case.topology here name) floor)
forget-known book all name interval floor is at covers full there =
    let held = held-here book all name interval at covers in
    let may = full-may book all name interval held.0 covers held.1 full in
    subst (λ (f : ℕ). IfSome (held_at all interval) (λ here. IsPurgeKnown (own_view book) name (row_held book.case.topology here name) f))
    (sym is) (forget-floor book.case (own_view book) (worker_of all) interval name
    (floor_of (run_of book.case.topology book.history)) at.fits (
      forgetting held.0 name (floor_of (run_of book.case.topology book.history)),
      record {
        free = refl;
        held = may.held;
        there = may.there;
        forgets = record { many = let many = may.forgets.many in omega (arith, many); rises = may.forgets.rises };
        request = may.request;
      },
    ) covers (omega arith))

-- what is found among the rows of an interval is the first that may be asked to
pub to-purge : (book : BookView) (all : List (Option HeldView)) (interval floor : ℕ) (found : Option RowName) → IsAtWork book
    (worker_of all)
    → interval < interval_count book.case.topology
    → IfSome (held_at all interval) (λ here. IsFirstToPurge floor 1 here.rows found)
    → IsToPurge book.case.topology (worker_of all) interval 1 floor found
to-purge book all interval floor found at there first =
    next-purge-held book.case.topology (worker_of all) interval 1 floor found refl
    (subst IsSome (sym (at.each interval there).there) refl)
    (rows-within book.case (own_view book) (worker_of all) interval at.fits) first

-- it may forget
pub purge-known : (book : BookView) (all : List (Option HeldView)) (name : RowName) (interval floor : ℕ) → IsAtWork book (worker_of all)
    → floor ≡ floor_of (run_of book.case.topology book.history)
    → IsToPurge book.case.topology (worker_of all) interval 1 floor (Some name) → interval_of book.case.topology name ≡ Some interval
    → IfSome (held_at all interval) (λ here. IsPurgeKnown (own_view book) name (row_held book.case.topology here name) floor)
purge-known book all name interval floor at is first covers =
    forget-floor book.case (own_view book) (worker_of all) interval name floor at.fits
    (first-forgets book.case.topology (worker_of all) interval 1 floor name first) covers (omega (arith, is))

-- the first row of an interval that has ids to forget may be asked to
pub first-may : (shape : Shape) (all : List (Option HeldView)) (interval floor : ℕ) (name : RowName)
    → IsToPurge shape (worker_of all) interval 1 floor (Some name)
    → (here : HeldView) × (held_at all interval ≡ Some here) × (interval_of shape name ≡ Some interval)
    × MayAskPurge shape (worker_of all) interval 1 floor (forgetting here name floor)
first-may shape all interval floor name is =
    let may = is.2 in
    let same : is.1 ≡ forgetting may.may.held name floor =
    may.may.request ∙ ap (λ (n : RowName). forgetting may.may.held n floor) is.3 in
    let covers = ap (interval_of shape) (sym is.3) ∙ may.of_interval in (
      may.may.held,
      held-at-on shape all may.name interval may.may.held may.may.there may.of_interval,
      covers,
      subst (MayAskPurge shape (worker_of all) interval 1 floor) same may,
    )

-- and has forgotten
pub purge-asked : (old new : BookView) (all : List (Option HeldView)) (name : RowName) (interval floor : ℕ)
    → IsToPurge old.case.topology (worker_of all) interval 1 floor (Some name)
    → IfSome (held_at all interval) (λ here. HasStepped old new (Some (entries.Purge here.lease.seq name floor)))
    → HasAskedOne old new (MayAskPurge old.case.topology (worker_of all) interval 1 floor) true
purge-asked old new all name interval floor is done =
    let first = first-may old.case.topology all interval floor name is in
    asked-one old new (MayAskPurge old.case.topology (worker_of all) interval 1 floor) (forgetting first.0 name floor) first.3
    (if-held (λ here. HasStepped old new (Some (entries.Purge here.lease.seq name floor))) all interval first.0 first.1 done)

-- ---- timers

-- a timer that is next of a part is next of the part of its row
pub next-own : (shape : Shape) (node : NodeView) (part mark : ℕ) (name : RowName) (timer : Timer) → IsNextTimer shape node part mark
    name timer
    → IsNextTimer shape node name.part mark name timer
next-own shape node part mark name timer next =
    subst (λ (p : ℕ). IsNextTimer shape node p mark name timer) (sym next.set.of_part) next

-- what was asked for of the part of its row
pub fire-of : (old new : BookView) (node : NodeView) (part other mark : ℕ) (result : Result Bool NodeFault) → other ≡ part
    → IfOk result (HasAskedOne old new (MayAskFire old.case node other mark))
    → IfOk result (HasAskedOne old new (MayAskFire old.case node part mark))
fire-of old new node part other mark result same is =
    subst (λ (p : ℕ). IfOk result (HasAskedOne old new (MayAskFire old.case node p mark))) same is

-- and where that failed
pub fire-fails : (case : CaseShape) (node : NodeView) (part other mark : ℕ) (result : Result Bool NodeFault) → other ≡ part
    → IfErr result (IsFullAsking (MayAskFire case node other mark)) → IfErr result (IsFullAsking (MayAskFire case node part mark))
fire-fails case node part other mark result same is =
    subst (λ (p : ℕ). IfErr result (IsFullAsking (MayAskFire case node p mark))) same is

-- a call that fails for lack of memory does not fail since the history is full
pub memory-asking : (MayAsk : Request → Type 0) (why : NodeFault) → why ≡ faults.NoMemory → IsFullAsking MayAsk why
memory-asking MayAsk why is = λ full. absurd (let both : faults.NoMemory ≡ faults.HistoryFull = sym is ∙ full in cc)

-- a timer that is next has fired
pub fire-asked : (old new : BookView) (all : List (Option HeldView)) (name : RowName) (timer : Timer) (mark interval : ℕ)
    (effects : EffectsView) (set : IsSetAt old.case.topology all interval name timer)
    → interval_of old.case.topology name ≡ Some interval → IsNextTimer old.case.topology (worker_of all) name.part mark name timer
    → outcome_of old.case name set.row (OfTimer timer) ≡ Some effects
    → IfSome (held_at all interval) (λ here. HasProposed old new here.lease.seq name (proposals.Fire timer mark effects))
    → HasAskedOne old new (MayAskFire old.case (worker_of all) name.part mark) true
fire-asked old new all name timer mark interval effects set covers next does done =
    let is = if-held (λ here. HasProposed old new here.lease.seq name (proposals.Fire timer mark effects)) all interval set.held
    set.there done in
    asked-one old new (MayAskFire old.case (worker_of all) name.part mark) (firing name timer mark effects set.held)
    (may-fire old.case (worker_of all) mark interval name timer effects set covers next does)
    (subst (λ (e : Entry). HasStepped old new (Some e)) is.of_proposal is.stepped)

-- ---- a record

-- a record that was handled stands behind the history
pub handle-done : (old new : BookView) (all : List (Option HeldView)) (delivery : Delivery) (effects : EffectsView) (interval : ℕ)
    → IsAtWork old (worker_of all) → interval_of old.case.topology delivery.to ≡ Some interval
    → IfSome (held_at all interval) (λ here. HasProposed old new here.lease.seq delivery.to (proposals.Handle delivery effects))
    → HasHandled old new delivery true
handle-done old new all delivery effects interval at covers done =
    let held = held-here old all delivery.to interval at covers in
    let is = if-held (λ here. HasProposed old new here.lease.seq delivery.to (proposals.Handle delivery effects)) all interval held.0
    held.1 done in record {
      is_more = refl;
      seq = held.0.lease.seq;
      effects = effects;
      stepped = subst (λ (e : Entry). HasStepped old new (Some e)) is.of_proposal is.stepped;
    }
