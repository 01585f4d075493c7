-- What a call on what a drain holds does to a book of its own: how the history goes on, what is held then, and why it fails.
use Rattle.std.proofs.Common.{◌≡◌, ◌<◌, ◌∙◌, ℕ, Bool, List, [], ◌∷◌, ◌++◌, length, refl, sym, ap, subst, arith}
use Rattle.std.specs.Prelude.{Option, Some, None, IsSome, IfSome, unwrap_or}
use Rattle.std.specs.Option.{is_some, option_and_then}
use Rattle.std.proofs.lemmas.List.Elements.{All-nil}
use Rattle.mw_types.specs.declared.entry.Entry.{Entry}
use Rattle.mw_types.specs.declared.entry.Entry.TheVariants as entries
use Rattle.mw_types.specs.declared.identity.RecordId.{RecordId}
use Rattle.mw_types.specs.declared.identity.RowName.{RowName}
use Rattle.topology.specs.Rules.{interval_count}
use Rattle.topology.specs.Shapes.{Shape}
use Rattle.row_parts.specs.Contents.{Contents, found_delivery, fresh}
use Rattle.run_history.specs.Cases.{CaseShape, fresh_of}
use Rattle.run_history.specs.Fences.{IsCurrent, interval_of, is_claim, last_claim}
use Rattle.run_history.specs.Runs.{cached, row_in, written_row}
use Rattle.list_lemmas.proofs.Lists.{some_same}
use Rattle.book.specs.Books.{BookView, LeaseView}
use Rattle.book.specs.DeskReasons.{HasClaimReason, HasReason}
use Rattle.book.specs.Desking.{HasStored, HasWritten}
use Rattle.book.specs.Desks.{HasLooked, IsSound}
use Rattle.book.specs.OwnDesks.{own_view}
use Rattle.book.specs.Proposals.{IsEntryOf}
use Rattle.book.specs.declared.answers.Written.{Written}
use Rattle.book.specs.declared.desk_refusal.DeskRefusal.{DeskRefusal}
use Rattle.book.specs.declared.desk_refusal.DeskRefusal.TheVariants as refusals
use Rattle.book.specs.declared.proposal.Proposal.{Proposal}
use Rattle.book.specs.declared.proposal.Proposal.TheVariants as proposals
use Rattle.book.specs.declared.writing.Writing.{Writing}
use Rattle.book.specs.declared.writing.Writing.TheVariants as writings
use Rattle.holdings.specs.Holding.{AreAllHeld, HeldView, HoldsClaim, HoldsEntry, IsRefusedOf, held_at, row_held}
use Rattle.holdings.proofs.HeldSteps.{AreAllHeld-looked}
use Rattle.outbox.specs.Reports.{IsUnreported}
use Rattle.outbox.specs.WorkSteps.{HoldsPut}
use Rattle.node.specs.Answers.{refusal_of}
use Rattle.node.specs.Fits.{Fits}
use Rattle.node.specs.Workers.{with_lease, worker_at}
use Rattle.node.specs.Works.{row_or_fresh}
use Rattle.node.specs.declared.outcome.NodeFault.{NodeFault}
use Rattle.node.specs.declared.outcome.NodeFault.TheVariants as faults
use Rattle.node.proofs.CommitLaws.{leases-written}
use Rattle.node.proofs.FitLaws.{leases-changed, looked_not}
use Rattle.node.proofs.PurgeLaws.{held-on-at}
use Rattle.node.proofs.RefusedLaws.{reason-at}
use Rattle.world.specs.drains.Turns.{HasFailed, HasProposed, HasPutOwn, HasStepped, HasTaken, IsAtWork, IsOwnRefusal, sent_at, worker_of}
use Rattle.world.proofs.drains.TurnLaws.{IsWrite, at_work-after, current, failed-refused, interval-counted, moved-before, stepped-by, stepped-looked}

-- ---- what is held

-- something is held of the interval in which a row lies
pub held-here : (book : BookView) (all : List (Option HeldView)) (name : RowName) (interval : ℕ) → IsAtWork book (worker_of all)
    → interval_of book.case.topology name ≡ Some interval → (here : HeldView) × (held_at all interval ≡ Some here)
held-here book all name interval at covers =
    let last = at.each interval (interval-counted book.case.topology name interval covers) in (last.held, last.there)

-- and is there
pub held-some : (book : BookView) (all : List (Option HeldView)) (name : RowName) (interval : ℕ) → IsAtWork book (worker_of all)
    → interval_of book.case.topology name ≡ Some interval → IsSome (held_at all interval)
held-some book all name interval at covers = subst IsSome (sym (held-here book all name interval at covers).1) refl

-- under the last claim
pub here-current : (book : BookView) (all : List (Option HeldView)) (name : RowName) (interval : ℕ) (here : HeldView)
    → IsAtWork book (worker_of all) → interval_of book.case.topology name ≡ Some interval → held_at all interval ≡ Some here
    → IsCurrent here.lease.interval here.lease.seq book.history
here-current book all name interval here at covers there =
    current book (worker_of all) name here at (held-on-at book.case.topology all name interval here covers there)

-- the lease of an interval is the last
pub interval-current : (book : BookView) (all : List (Option HeldView)) (interval : ℕ) (here : HeldView) → IsAtWork book (worker_of all)
    → interval < interval_count book.case.topology → held_at all interval ≡ Some here
    → IsCurrent here.lease.interval here.lease.seq book.history
interval-current book all interval here at less there =
    let last = at.each interval less in
    let same : last.held ≡ here = some_same last.held here (sym last.there ∙ there) in
    let own = (at.fits.held.each interval here there).of_interval in
    subst (λ (i : ℕ). IsCurrent i here.lease.seq book.history) (sym own)
    (subst (λ (h : HeldView). IsCurrent interval h.lease.seq book.history) same last.last)

-- what holds of what is held of an interval
pub if-held : (P : HeldView → Type 0) (all : List (Option HeldView)) (interval : ℕ) (here : HeldView) → held_at all interval ≡ Some here
    → IfSome (held_at all interval) P → P here
if-held P all interval here there is = subst (λ (o : Option HeldView). IfSome o P) there is

-- and back
pub held-if : (P : HeldView → Type 0) (all : List (Option HeldView)) (interval : ℕ) (here : HeldView) → held_at all interval ≡ Some here
    → P here → IfSome (held_at all interval) P
held-if P all interval here there is = subst (λ (o : Option HeldView). IfSome o P) (sym there) is

-- a drain that holds what fits a book fits it
pub worker-fits : (case : CaseShape) (book : BookView) (all : List (Option HeldView)) → book.case ≡ case → AreAllHeld case
    (own_view book) all
    → Fits case (own_view book) (worker_of all)
worker-fits case book all same held = record { of_case = same; held = held; work = tt; outbox = All-nil _ }

-- ---- an entry that was written

-- a drain is at work once an entry is written on a row that it holds
pub at_work-entry : (case : CaseShape) (old new : BookView) (was now : List (Option HeldView)) (interval : ℕ) (name : RowName)
    (commit : ℕ)
    (IsEntry : LeaseView → Contents → Written → Type 0) (entry : Entry) → case ≡ old.case → IsAtWork old (worker_of was)
    → AreAllHeld case (own_view new) now → HoldsEntry case.topology interval name commit IsEntry was now
    → HasStepped old new (Some entry) → IsWrite entry → IsAtWork new (worker_of now)
at_work-entry case old new was now interval name commit IsEntry entry same at held h stepped write =
    at_work-after old new (worker_of was) (worker_of now) (Some entry) at stepped write
    (worker-fits old.case new now stepped.case (subst (λ (k : CaseShape). AreAllHeld k (own_view new) now) same held))
    (leases-written case.topology interval name commit IsEntry was now h) refl

-- the entry of a proposal is no claim
proposed-write : (case : CaseShape) (seq : ℕ) (name : RowName) (proposal : Proposal) (entry : Entry) → IsEntryOf case seq name
    proposal entry
    → IsWrite entry
proposed-write case seq name (proposals.Inject line) entry is = λ interval. ap (is_claim interval) is.1.1
proposed-write case seq name (proposals.Handle delivery effects) entry is = λ interval. ap (is_claim interval) is
proposed-write case seq name (proposals.Fire timer mark effects) entry is = λ interval. ap (is_claim interval) is

-- what a proposal leaves that was written, as it is answered
abbrev HoldsProposal : Shape → BookView → BookView → ℕ → RowName → Proposal → ℕ → List (Option HeldView) → List (Option HeldView) → Type 0
HoldsProposal shape old new interval name proposal commit was now = HoldsEntry shape interval name commit
    (λ (lease : LeaseView) (row : Contents) (answer : Written). HasWritten (own_view old) (own_view new) lease name proposal row
    answer) was now

-- what was proposed stands behind the history
proposed : (shape : Shape) (old new : BookView) (interval : ℕ) (name : RowName) (proposal : Proposal) (commit : ℕ)
    (was now : List (Option HeldView)) → (h : HoldsProposal shape old new interval name proposal commit was now)
    → HasProposed old new h.held.lease.seq name proposal
proposed shape old new interval name proposal commit was now h =
    let entry = h.entry in record {
      entry = entry.written.entry;
      of_proposal = entry.written.of_proposal;
      stepped = stepped-by old new entry.before (Some entry.written.entry) entry.moved entry.written.written.appended;
    }

-- by what is held
proposed-held : (shape : Shape) (old new : BookView) (interval : ℕ) (name : RowName) (proposal : Proposal) (commit : ℕ)
    (was now : List (Option HeldView)) → HoldsProposal shape old new interval name proposal commit was now
    → IfSome (held_at was interval) (λ here. HasProposed old new here.lease.seq name proposal)
proposed-held shape old new interval name proposal commit was now h =
    held-if (λ here. HasProposed old new here.lease.seq name proposal) was interval h.held h.was
    (proposed shape old new interval name proposal commit was now h)

-- and the drain is at work
proposed-at_work : (case : CaseShape) (old new : BookView) (interval : ℕ) (name : RowName) (proposal : Proposal) (commit : ℕ)
    (was now : List (Option HeldView)) → case ≡ old.case → IsAtWork old (worker_of was) → AreAllHeld case (own_view new) now
    → HoldsProposal case.topology old new interval name proposal commit was now → IsAtWork new (worker_of now)
proposed-at_work case old new interval name proposal commit was now same at held h =
    let is = proposed case.topology old new interval name proposal commit was now h in
    at_work-entry case old new was now interval name commit _ is.entry same at held h is.stepped
    (proposed-write old.case h.held.lease.seq name proposal is.entry is.of_proposal)

-- what an entry leaves that was stored, as it is answered
abbrev HoldsStored : Shape → BookView → BookView → ℕ → RowName → (ℕ → Entry) → ℕ → List (Option HeldView) → List (Option HeldView) →
    Type 0
HoldsStored shape old new interval name entry commit was now = HoldsEntry shape interval name commit
    (λ (lease : LeaseView) (row : Contents) (answer : Written). HasStored (own_view old) (own_view new) lease name (entry lease.seq) row
    (λ number. written_row number (entry lease.seq) [] row) answer) was now

-- it stands behind the history
stored : (shape : Shape) (old new : BookView) (interval : ℕ) (name : RowName) (entry : ℕ → Entry) (commit : ℕ)
    (was now : List (Option HeldView)) → (h : HoldsStored shape old new interval name entry commit was now)
    → HasStepped old new (Some (entry h.held.lease.seq))
stored shape old new interval name entry commit was now h =
    stepped-by old new h.entry.before (Some (entry h.held.lease.seq)) h.entry.moved h.entry.written.appended

-- by what is held
stored-held : (shape : Shape) (old new : BookView) (interval : ℕ) (name : RowName) (entry : ℕ → Entry) (commit : ℕ)
    (was now : List (Option HeldView)) → HoldsStored shape old new interval name entry commit was now
    → IfSome (held_at was interval) (λ here. HasStepped old new (Some (entry here.lease.seq)))
stored-held shape old new interval name entry commit was now h =
    held-if (λ here. HasStepped old new (Some (entry here.lease.seq))) was interval h.held h.was
    (stored shape old new interval name entry commit was now h)

-- and the drain is at work, where it is no claim
stored-at_work : (case : CaseShape) (old new : BookView) (interval : ℕ) (name : RowName) (entry : ℕ → Entry) (commit : ℕ)
    (was now : List (Option HeldView)) → case ≡ old.case → ((seq : ℕ) → IsWrite (entry seq)) → IsAtWork old (worker_of was)
    → AreAllHeld case (own_view new) now → HoldsStored case.topology old new interval name entry commit was now
    → IsAtWork new (worker_of now)
stored-at_work case old new interval name entry commit was now same write at held h =
    at_work-entry case old new was now interval name commit _ (entry h.held.lease.seq) same at held h
    (stored case.topology old new interval name entry commit was now h) (write h.held.lease.seq)

-- whatever was written stands behind the history, by what is held
pub put-held : (shape : Shape) (old new : BookView) (interval : ℕ) (name : RowName) (writing : Writing) (commit : ℕ)
    (was now : List (Option HeldView)) → HoldsPut shape (own_view old) (own_view new) interval name writing commit was now
    → IfSome (held_at was interval) (λ here. HasPutOwn old new here.lease.seq name writing)
put-held shape old new interval name (writings.Propose proposal) commit was now h =
    proposed-held shape old new interval name proposal.now commit was now h
put-held shape old new interval name (writings.Settle id) commit was now h =
    stored-held shape old new interval name (λ seq. entries.Ack seq name id) commit was now h
put-held shape old new interval name (writings.Purge floor) commit was now h =
    stored-held shape old new interval name (λ seq. entries.Purge seq name floor) commit was now h

-- and the drain is at work
pub put-at_work : (case : CaseShape) (old new : BookView) (interval : ℕ) (name : RowName) (writing : Writing) (commit : ℕ)
    (was now : List (Option HeldView)) → case ≡ old.case → IsAtWork old (worker_of was) → AreAllHeld case (own_view new) now
    → HoldsPut case.topology (own_view old) (own_view new) interval name writing commit was now → IsAtWork new (worker_of now)
put-at_work case old new interval name (writings.Propose proposal) commit was now same at held h =
    proposed-at_work case old new interval name proposal.now commit was now same at held h
put-at_work case old new interval name (writings.Settle id) commit was now same at held h =
    stored-at_work case old new interval name (λ seq. entries.Ack seq name id) commit was now same (λ seq interval. refl) at held h
put-at_work case old new interval name (writings.Purge floor) commit was now same at held h =
    stored-at_work case old new interval name (λ seq. entries.Purge seq name floor) commit was now same (λ seq interval. refl) at held h

-- ---- a refusal

-- no other has a turn
no_turn : (found : ℕ) → [] ≡ [] ++ found ∷ [] → ⊥
no_turn found e = cc

-- a refusal under a last lease is neither stale nor for another's turn
pub refusal-own : (old new : BookView) (lease : LeaseView) (why : DeskRefusal) → IsCurrent lease.interval lease.seq old.history
    → HasLooked (own_view old) (own_view new) → HasReason (own_view old) (own_view new) lease why → IsOwnRefusal why
refusal-own old new lease (refusals.Busy found) last looked reason = no_turn found (reason.counts.busy found refl)
refusal-own old new lease (refusals.Stale newer) last looked reason =
    let same = (stepped-looked old new looked).appended in
    let claim = (reason.stale tt newer).0 refl in
    let one : lease.seq ≡ newer = some_same lease.seq newer (sym last ∙ ap (last_claim lease.interval) (sym same) ∙ claim.0) in
    let less = claim.1 in omega (arith, one, less)
refusal-own old new lease refusals.HistoryFull last looked reason = tt
refusal-own old new lease refusals.KeeperFault last looked reason = tt
refusal-own old new lease (refusals.RowDamaged name bytes) last looked reason = tt
refusal-own old new lease refusals.NoMemory last looked reason = tt

-- nor is that of a claim
pub refusal-claim : (old new : BookView) (why : DeskRefusal) → HasClaimReason (own_view old) (own_view new) why → IsOwnRefusal why
refusal-claim old new (refusals.Busy found) reason = no_turn found (reason.counts.busy found refl)
refusal-claim old new (refusals.Stale newer) reason = reason.never_stale newer refl
refusal-claim old new refusals.HistoryFull reason = tt
refusal-claim old new refusals.KeeperFault reason = tt
refusal-claim old new (refusals.RowDamaged name bytes) reason = tt
refusal-claim old new refusals.NoMemory reason = tt

-- a call on a row that is held was refused for one of these reasons
pub refusal-held : (old new : BookView) (all : List (Option HeldView)) (name : RowName) (interval : ℕ) (why : DeskRefusal)
    → IsAtWork old (worker_of all) → interval_of old.case.topology name ≡ Some interval → HasLooked (own_view old) (own_view new)
    → IsRefusedOf (own_view old) (own_view new) all interval why → IsOwnRefusal why
refusal-held old new all name interval why at covers looked reason =
    let here = held-here old all name interval at covers in
    refusal-own old new here.0.lease why (here-current old all name interval here.0 at covers here.1) looked
    (reason-at (own_view old) (own_view new) all interval here.0 why here.1 reason)

-- so was one on an interval that is held
pub refusal-interval : (old new : BookView) (all : List (Option HeldView)) (interval : ℕ) (why : DeskRefusal)
    → IsAtWork old (worker_of all) → interval < interval_count old.case.topology → HasLooked (own_view old) (own_view new)
    → IsRefusedOf (own_view old) (own_view new) all interval why → IsOwnRefusal why
refusal-interval old new all interval why at less looked reason =
    let last = at.each interval less in
    refusal-own old new last.held.lease why (interval-current old all interval last.held at less last.there) looked
    (reason-at (own_view old) (own_view new) all interval last.held why last.there reason)

-- a report that no other refuses wants memory
pub only-memory : (why : DeskRefusal) (fault : NodeFault) → IsOwnRefusal why → IsUnreported why → refusal_of fault ≡ why
    → fault ≡ faults.NoMemory
only-memory refusals.NoMemory faults.NoMemory own only is = refl
only-memory refusals.NoMemory faults.HistoryFull own only is = absurd cc
only-memory refusals.NoMemory faults.KeeperFault own only is = absurd cc
only-memory refusals.NoMemory (faults.RowDamaged name bytes) own only is = absurd cc
only-memory (refusals.Busy found) fault own only is = absurd own
only-memory (refusals.Stale newer) fault own only is = absurd own
only-memory refusals.HistoryFull fault own only is = absurd only
only-memory refusals.KeeperFault fault own only is = absurd only
only-memory (refusals.RowDamaged name bytes) fault own only is = absurd only

-- a fault by a refusal under a lease
pub failed-lease : (old new : BookView) (lease : LeaseView) (why : DeskRefusal) (fault : NodeFault) → refusal_of fault ≡ why
    → HasLooked (own_view old) (own_view new) → HasReason (own_view old) (own_view new) lease why → HasFailed old new fault
failed-lease old new lease why fault is looked reason = failed-refused old new lease fault looked (record {
  asked = own_view old;
  looked = looked_not (own_view old);
  reason = subst (HasReason (own_view old) (own_view new) lease) (sym is) reason;
})

-- so by that of a call on a row that is held
pub failed-held : (old new : BookView) (all : List (Option HeldView)) (name : RowName) (interval : ℕ) (why : DeskRefusal)
    (fault : NodeFault)
    → IsAtWork old (worker_of all) → interval_of old.case.topology name ≡ Some interval → refusal_of fault ≡ why
    → HasLooked (own_view old) (own_view new) → IsRefusedOf (own_view old) (own_view new) all interval why → HasFailed old new fault
failed-held old new all name interval why fault at covers is looked reason =
    let here = held-here old all name interval at covers in
    failed-lease old new here.0.lease why fault is looked
    (reason-at (own_view old) (own_view new) all interval here.0 why here.1 reason)

-- or on an interval that is held
pub failed-interval : (old new : BookView) (all : List (Option HeldView)) (interval : ℕ) (why : DeskRefusal) (fault : NodeFault)
    → IsAtWork old (worker_of all) → interval < interval_count old.case.topology → refusal_of fault ≡ why
    → HasLooked (own_view old) (own_view new) → IsRefusedOf (own_view old) (own_view new) all interval why → HasFailed old new fault
failed-interval old new all interval why fault at less is looked reason =
    let last = at.each interval less in
    failed-lease old new last.held.lease why fault is looked
    (reason-at (own_view old) (own_view new) all interval last.held why last.there reason)

-- ---- a claim

-- a claim that was accepted was taken
pub claim-taken : (case : CaseShape) (old new : BookView) (interval seq : ℕ) (was now : List (Option HeldView)) → case ≡ old.case
    → AreAllHeld case (own_view new) now → HoldsClaim (own_view old) (own_view new) 0 interval seq was now → HasTaken old new
    interval (worker_of was) (worker_of now)
claim-taken case old new interval seq was now of_case held h =
    let claimed = h.claimed in
    let stepped = stepped-by old new claimed.before (Some _) claimed.moved claimed.appended in
    let same : h.answer.lease.seq ≡ length old.history =
    ap (λ (l : LeaseView). l.seq) claimed.lease ∙ ap length (moved-before old new claimed.before claimed.moved) in
    let leases = leases-changed was now interval _ h.held h.others in record {
      stepped = stepped;
      fits = subst (λ (c : CaseShape). Fits c (own_view new) (worker_of now)) (sym stepped.case)
          (worker-fits old.case new now stepped.case
          (subst (λ (k : CaseShape). AreAllHeld k (own_view new) now) of_case held));
      number = refl;
      left = (λ i. record { leases = leases i; prepared = None; outbox = [] })
          ∙ ap (λ (s : ℕ). with_lease old.case.topology interval (Some s) (worker_at (worker_of was))) same;
    }

-- ---- a report

-- what is held stays where a call only looked
pub at_work-looked : (old new : BookView) (all : List (Option HeldView)) → IsAtWork old (worker_of all) → IsSound (own_view old)
    → IsSound (own_view new) → HasLooked (own_view old) (own_view new) → IsAtWork new (worker_of all)
at_work-looked old new all at sound now_sound looked =
    let stepped = stepped-looked old new looked in
    let kept = AreAllHeld-looked old.case (own_view old) (own_view new) all all refl sound now_sound looked (λ i. refl) at.fits.held in
    at_work-after old new (worker_of all) (worker_of all) None at stepped tt (worker-fits old.case new all stepped.case kept) refl refl

-- ---- a row that is held

-- what is cached of a row of an interval
abbrev pub cached_at : List (Option HeldView) → ℕ → RowName → Option Contents
cached_at all interval name = option_and_then (λ (here : HeldView). row_in (cached here.rows) name) (held_at all interval)

-- that, or a fresh row, is how the row is held
pub row-here : (shape : Shape) (all : List (Option HeldView)) (name : RowName) (interval : ℕ) (here : HeldView)
    → held_at all interval ≡ Some here → row_or_fresh shape name.part (cached_at all interval name) ≡ row_held shape here name
row-here shape all name interval here there = ap (λ (o : Option HeldView). row_or_fresh shape name.part
    (option_and_then (λ (h : HeldView). row_in (cached h.rows) name) o)) there

-- what a row has pending, by the row that is cached
pub sent-cached : (shape : Shape) (all : List (Option HeldView)) (name : RowName) (interval : ℕ) (id : RecordId)
    → interval_of shape name ≡ Some interval
    → sent_at shape (worker_of all) name id ≡ option_and_then (λ (row : Contents). found_delivery id row.pending)
    (cached_at all interval name)
sent-cached shape all name interval id covers =
    ap (λ (o : Option ℕ). option_and_then (λ (h : HeldView). found_delivery id (row_held shape h name).pending)
    (option_and_then (held_at all) o)) covers ∙ by_held (held_at all interval)
  where
    by_row : (o : Option Contents) → found_delivery id (unwrap_or o (fresh (fresh_of shape name.part))).pending
        ≡ option_and_then (λ (row : Contents). found_delivery id row.pending) o
    by_row None = refl
    by_row (Some row) = refl

    by_held : (o : Option HeldView) → option_and_then (λ (h : HeldView). found_delivery id (row_held shape h name).pending) o
        ≡ option_and_then (λ (row : Contents). found_delivery id row.pending)
        (option_and_then (λ (here : HeldView). row_in (cached here.rows) name) o)
    by_held None = refl
    by_held (Some here) = by_row (row_in (cached here.rows) name)

-- by what is cached
pub sent-by : (shape : Shape) (all : List (Option HeldView)) (name : RowName) (interval : ℕ) (id : RecordId) (row : Option Contents)
    → interval_of shape name ≡ Some interval → row ≡ cached_at all interval name
    → sent_at shape (worker_of all) name id ≡ option_and_then (λ (r : Contents). found_delivery id r.pending) row
sent-by shape all name interval id row covers is =
    sent-cached shape all name interval id covers ∙ ap (option_and_then (λ (r : Contents). found_delivery id r.pending)) (sym is)

-- whether it has an id pending, by what is held
pub sent-here : (shape : Shape) (all : List (Option HeldView)) (name : RowName) (interval : ℕ) (id : RecordId) (here : HeldView)
    (pending : Bool) → interval_of shape name ≡ Some interval → held_at all interval ≡ Some here
    → pending ≡ is_some (found_delivery id (row_held shape here name).pending)
    → pending ≡ is_some (sent_at shape (worker_of all) name id)
sent-here shape all name interval id here pending covers at is =
    is ∙ ap (λ (o : Option HeldView). is_some (option_and_then (λ (h : HeldView). found_delivery id (row_held shape h name).pending) o))
    (sym (held-on-at shape all name interval here covers at))
