-- What a call of one worker leaves over every keeper, by the clauses of the call.
use Rattle.std.proofs.Common.{◌≡◌, ◌∙◌, ◌++◌, ◌∷◌, ℕ, Bool, true, false, List, [], refl, sym, ap, subst, inl, inr}
use Rattle.std.specs.Prelude.{Option, None, Some, IfErr, IfOk, OnErr, OnOk, Result, Ok, Err, if◌then◌else◌, slice_get}
use Rattle.std.specs.Option.{is_some, option_map_or}
use Rattle.std.proofs.lemmas.Bool.{cases_eq, eq-eqb, ne_eqb}
use Rattle.mw_types.specs.declared.entry.Entry.{Entry}
use Rattle.mw_types.specs.declared.entry.Entry.TheVariants as entries
use Rattle.topology.specs.Shapes.{Shape}
use Rattle.row_parts.specs.Contents.{is_finished}
use Rattle.run_history.specs.Cases.{CaseShape}
use Rattle.run_history.proofs.Beginnings.{slice_get-last}
use Rattle.list_lemmas.proofs.Lists.{some_same}
use Rattle.book.specs.Books.{BookView}
use Rattle.book.specs.Desks.{HasLooked, IsSound, KeepsMarks}
use Rattle.book.specs.OwnDesks.{own_view}
use Rattle.holdings.specs.Holding.{HeldView, held_on, row_held}
use Rattle.node.specs.Answers.{AnswersAck, AnswersAckOf, AnswersAsked, AnswersClaim, AnswersReport, AnswersReportOf, AnswersSome, AnswersWrite, HasGrown, HasKept, received, taken_from}
use Rattle.node.specs.Asking.{Request, settling}
use Rattle.node.specs.Fits.{Fits}
use Rattle.node.specs.Workers.{NodeView, Sending, Worker, leases_of, with_lease, with_outgoing, with_written, worker_at}
use Rattle.node.specs.declared.outcome.NodeFault.{NodeFault}
use Rattle.node.specs.declared.outcome.NodeFault.TheVariants as faults
use Rattle.node.specs.declared.outcome.Outcome.{Outcome}
use Rattle.node.specs.declared.outcome.Outcome.TheVariants as outcomes
use Rattle.outbox.specs.declared.outgoing.Outgoing.{Outgoing}
use Rattle.outbox.specs.declared.outgoing.Outgoing.TheVariants as outgoing
use Rattle.world.proofs.scripts.Leases.{lost-had}
use Rattle.world.specs.drains.Turns.{HasFailed}
use Rattle.world.specs.scripts.WorkerCalls.{HasCalled, HasLeases, HasRested}
use Rattle.world.proofs.drains.TurnLaws.{failed-memory, stepped-looked}

-- ---- what is said of a result

-- one fact by what is answered, and by what a refusal leaves
pub by-result : {T E : Type 0} {P : T → Type 0} {Q R : Type 0} (r : Result T E) → ((x : T) → P x → R) → (Q → R) → IfOk r P → OnErr r Q → R
by-result (Ok x) f g is not = f x is
by-result (Err e) f g is not = g not

-- of a refusal and what it leaves
pub err-with : {T E : Type 0} {P : E → Type 0} {Q : Type 0} {S : E → Type 0} (r : Result T E) → ((e : E) → P e → Q → S e) → IfErr r P → OnErr r Q → IfErr r S
err-with (Ok x) f one two = tt
err-with (Err e) f one two = f e one two

-- ---- the leases

-- a worker that keeps its leases
pub leases-kept : (new : BookView) (was node : NodeView) → leases_of node.held ≡ leases_of was.held → HasLeases new was node
leases-kept new was node same interval seq is = inl (sym (ap (λ (f : ℕ → Option ℕ). f interval) same) ∙ is)

-- a worker that is kept
pub leases-same : (new : BookView) (was node : NodeView) → HasKept was node → HasLeases new was node
leases-same new was node kept = leases-kept new was node (ap (λ (w : Worker). w.leases) kept)

-- a worker that loses one
leases-lost : (shape : Shape) (new : BookView) (was node : NodeView) (interval : ℕ)
    → worker_at node ≡ with_lease shape interval None (worker_at was) → HasLeases new was node
leases-lost shape new was node interval left i seq is =
    inl (lost-had shape (worker_at was) interval i seq (sym (ap (λ (w : Worker). w.leases i) left) ∙ is))

-- a worker that asked for an entry
leases-write : (shape : Shape) (old new : BookView) (asked : Request) (after : Worker) (was node : NodeView) (outcome : Outcome)
    → after.leases ≡ leases_of was.held → AnswersWrite shape (own_view old) (own_view new) asked after was node outcome
    → HasLeases new was node
leases-write shape old new asked after was node (outcomes.Committed commit) same answers =
    leases-kept new was node (ap (λ (w : Worker). w.leases) answers.left ∙ same)
leases-write shape old new asked after was node (outcomes.Stale newer) same answers =
    leases-lost shape new was node asked.lease.interval answers.left
leases-write shape old new asked after was node (outcomes.Busy found) same answers = leases-same new was node answers.idle.kept
leases-write shape old new asked after was node (outcomes.Claimed seq) same answers = absurd answers
leases-write shape old new asked after was node outcomes.Prepared same answers = absurd answers
leases-write shape old new asked after was node outcomes.Duplicate same answers = absurd answers
leases-write shape old new asked after was node outcomes.NotMine same answers = absurd answers
leases-write shape old new asked after was node (outcomes.Queued count) same answers = absurd answers
leases-write shape old new asked after was node (outcomes.Sent count) same answers = absurd answers
leases-write shape old new asked after was node (outcomes.Copied message) same answers = absurd answers
leases-write shape old new asked after was node outcomes.Lost same answers = absurd answers
leases-write shape old new asked after was node (outcomes.Marked mark) same answers = absurd answers
leases-write shape old new asked after was node outcomes.Crashed same answers = absurd answers
leases-write shape old new asked after was node outcomes.Nothing same answers = absurd answers

-- a worker that asked for an entry, or for none
pub leases-asked : (shape : Shape) (old new : BookView) (asked : Option Request) (after : Worker) (was node : NodeView)
    (outcome : Outcome) → after.leases ≡ leases_of was.held
    → AnswersAsked shape (own_view old) (own_view new) asked after was node outcome → HasLeases new was node
leases-asked shape old new None after was node outcome same answers = leases-same new was node answers.1.kept
leases-asked shape old new (Some asked) after was node outcome same answers =
    leases-write shape old new asked after was node outcome same answers

-- a worker that asked for some entry, or for none
pub leases-some : (shape : Shape) (old new : BookView) (MayAsk : Request → Type 0) (was node : NodeView) (outcome : Outcome)
    → AnswersSome shape (own_view old) (own_view new) MayAsk was node outcome → HasLeases new was node
leases-some shape old new MayAsk was node outcome answers = by_outcome outcome answers
  where
    one : (o : Outcome) → (asked : Request) × MayAsk asked
        × AnswersWrite shape (own_view old) (own_view new) asked (worker_at was) was node o → HasLeases new was node
    one o (asked, may, answers) = leases-write shape old new asked (worker_at was) was node o refl answers

    by_outcome : (o : Outcome) → AnswersSome shape (own_view old) (own_view new) MayAsk was node o → HasLeases new was node
    by_outcome outcomes.Nothing answers = leases-same new was node answers.1.kept
    by_outcome (outcomes.Committed n) answers = one (outcomes.Committed n) answers
    by_outcome (outcomes.Stale n) answers = one (outcomes.Stale n) answers
    by_outcome (outcomes.Busy n) answers = one (outcomes.Busy n) answers
    by_outcome (outcomes.Claimed n) answers = one (outcomes.Claimed n) answers
    by_outcome outcomes.Prepared answers = one outcomes.Prepared answers
    by_outcome outcomes.Duplicate answers = one outcomes.Duplicate answers
    by_outcome outcomes.NotMine answers = one outcomes.NotMine answers
    by_outcome (outcomes.Queued n) answers = one (outcomes.Queued n) answers
    by_outcome (outcomes.Sent n) answers = one (outcomes.Sent n) answers
    by_outcome (outcomes.Copied n) answers = one (outcomes.Copied n) answers
    by_outcome outcomes.Lost answers = one outcomes.Lost answers
    by_outcome (outcomes.Marked n) answers = one (outcomes.Marked n) answers
    by_outcome outcomes.Crashed answers = one outcomes.Crashed answers

-- a worker that claimed
pub leases-claim : (shape : Shape) (old new : BookView) (interval : ℕ) (was node : NodeView) (outcome : Outcome)
    → AnswersClaim shape (own_view old) (own_view new) interval was node outcome → HasLeases new was node
leases-claim shape old new interval was node (outcomes.Claimed seq) answers = λ i s is. elim (cases_eq i interval) [
  | inl same ↦
      let here = sym (ap (λ b. if b then Some seq else leases_of was.held i) (eq-eqb i interval same)) ∙ sym (at_left i) ∙ is in
      inr (ap (λ (h : List Entry). slice_get h s) answers.appended
      ∙ ap (slice_get (answers.before ++ entries.Claim was.number interval ∷ [])) (sym (some_same seq s here) ∙ answers.number)
      ∙ slice_get-last answers.before (entries.Claim was.number interval)
      ∙ ap (λ k. Some (entries.Claim was.number k)) (sym same))
  | inr other ↦ inl (sym (ap (λ b. if b then Some seq else leases_of was.held i) (ne_eqb i interval other)) ∙ sym (at_left i) ∙ is)
]
  where
    at_left : (i : ℕ) → leases_of node.held i ≡ (with_lease shape interval (Some seq) (worker_at was)).leases i
    at_left i = ap (λ (w : Worker). w.leases i) answers.left
leases-claim shape old new interval was node (outcomes.Busy found) answers = leases-same new was node answers.0.kept
leases-claim shape old new interval was node (outcomes.Committed commit) answers = absurd answers
leases-claim shape old new interval was node outcomes.Prepared answers = absurd answers
leases-claim shape old new interval was node outcomes.Duplicate answers = absurd answers
leases-claim shape old new interval was node outcomes.NotMine answers = absurd answers
leases-claim shape old new interval was node (outcomes.Queued count) answers = absurd answers
leases-claim shape old new interval was node (outcomes.Sent count) answers = absurd answers
leases-claim shape old new interval was node (outcomes.Copied message) answers = absurd answers
leases-claim shape old new interval was node outcomes.Lost answers = absurd answers
leases-claim shape old new interval was node (outcomes.Marked mark) answers = absurd answers
leases-claim shape old new interval was node (outcomes.Stale newer) answers = absurd answers
leases-claim shape old new interval was node outcomes.Crashed answers = absurd answers
leases-claim shape old new interval was node outcomes.Nothing answers = absurd answers

-- a worker that reported
pub leases-report : (case : CaseShape) (old new : BookView) (held : Option HeldView) (was node : NodeView) (outcome : Outcome)
    → AnswersReport case (own_view old) (own_view new) held was node outcome → HasLeases new was node
leases-report case old new None was node outcome answers = leases-same new was node answers.1.kept
leases-report case old new (Some held) was node outcome answers = by_outcome outcome answers
  where
    by_outcome : (o : Outcome) → AnswersReportOf case (own_view old) (own_view new) held was node o → HasLeases new was node
    by_outcome (outcomes.Marked mark) answers = leases-same new was node answers.idle.kept
    by_outcome (outcomes.Stale newer) answers = leases-lost case.topology new was node held.lease.interval answers.left
    by_outcome (outcomes.Busy found) answers = leases-same new was node answers.idle.kept
    by_outcome (outcomes.Committed n) answers = absurd answers
    by_outcome (outcomes.Claimed n) answers = absurd answers
    by_outcome outcomes.Prepared answers = absurd answers
    by_outcome outcomes.Duplicate answers = absurd answers
    by_outcome outcomes.NotMine answers = absurd answers
    by_outcome (outcomes.Queued n) answers = absurd answers
    by_outcome (outcomes.Sent n) answers = absurd answers
    by_outcome (outcomes.Copied n) answers = absurd answers
    by_outcome outcomes.Lost answers = absurd answers
    by_outcome outcomes.Crashed answers = absurd answers
    by_outcome outcomes.Nothing answers = absurd answers

-- a worker that took word that a record was handled
pub leases-ack : (shape : Shape) (old new : BookView) (taken : Outgoing) (was node : NodeView) (outcome : Outcome)
    → AnswersAckOf shape (own_view old) (own_view new) taken was node outcome → HasLeases new was node
leases-ack shape old new (outgoing.Deliver delivery sender) was node outcome answers = absurd answers
leases-ack shape old new (outgoing.Ack to id) was node outcome answers = by_held (held_on shape was.held to) answers
  where
    by_held : (held : Option HeldView) → AnswersAck shape (own_view old) (own_view new) held to id was node outcome
        → HasLeases new was node
    by_held None answers = leases-same new was node answers.1.kept
    by_held (Some held) answers =
        leases-asked shape old new (settling shape to id held) (worker_at was) was node outcome refl answers

-- what is written takes no lease away
pub written-leases : (sending : Option Sending) (worker : Worker) → (with_written sending worker).leases ≡ worker.leases
written-leases None worker = refl
written-leases (Some sending) worker = refl

-- the leases that an answer leaves
abbrev pub leases_left : Outcome × Worker → ℕ → Option ℕ
leases_left (outcome, worker) = worker.leases

-- a worker that took a record has the leases that it had
pub taken-leases : (shape : Shape) (was : NodeView) (taken : Outgoing)
    → leases_left (taken_from shape was taken) ≡ leases_of was.held
taken-leases shape was (outgoing.Ack to id) = refl
taken-leases shape was (outgoing.Deliver delivery sender) = by_free (is_some was.prepared)
  where
    by_finished : (b : Bool) → leases_left (if b
        then (outcomes.Duplicate, with_outgoing (outgoing.Ack sender delivery.id ∷ []) (worker_at was))
        else (
          outcomes.Prepared,
          record (worker_at was) { prepared = Some (record { delivery = delivery; sender = sender }) },
        )) ≡ leases_of was.held
    by_finished true = refl
    by_finished false = refl

    by_held : (held : Option HeldView) → leases_left (option_map_or (received shape was delivery sender) held
        (outcomes.NotMine, worker_at was)) ≡ leases_of was.held
    by_held None = refl
    by_held (Some held) = by_finished (is_finished delivery.id (row_held shape held delivery.to))

    by_free : (b : Bool) → leases_left (if b then (outcomes.Nothing, worker_at was) else
        option_map_or (received shape was delivery sender) (held_on shape was.held delivery.to)
        (outcomes.NotMine, worker_at was)) ≡ leases_of was.held
    by_free true = refl
    by_free false = by_held (held_on shape was.held delivery.to)

-- so has a worker that is left so
pub leases-taken : (shape : Shape) (new : BookView) (was node : NodeView) (taken : Outgoing) (outcome : Outcome)
    → (outcome, worker_at node) ≡ taken_from shape was taken → HasLeases new was node
leases-taken shape new was node taken outcome is = leases-kept new was node (ap leases_left is ∙ taken-leases shape was taken)

-- ---- a call

-- a worker has called its desk
pub called-by : (case : CaseShape) (old new : BookView) (was node : NodeView) → case ≡ old.case → IsSound (own_view old)
    → IsSound (own_view new) → HasGrown was.held (own_view old) (own_view new) → Fits case (own_view new) node
    → node.number ≡ was.number → HasLeases new was node → HasCalled old new was node
called-by case old new was node same one two grown fits number leases = record {
  grown = grown;
  leases = leases;
  fits = subst (λ (k : CaseShape). Fits k (own_view new) node) (same ∙ sym grown.moved.case) fits;
  number = number;
  was_sound = one;
  sound = two;
}

-- a refusal leaves all as it was
pub rested-by : (old new : BookView) (was node : NodeView) → KeepsMarks (own_view old) (own_view new) → HasKept was node
    → HasLooked (own_view old) (own_view new) → HasRested old new was node
rested-by old new was node marks kept looked = record {
  history = (stepped-looked old new looked).appended;
  marks = marks.same refl;
  kept = kept;
}

-- ---- why a call fails

-- a lack of memory
pub failed-only-memory : (old new : BookView) (why : NodeFault) → HasLooked (own_view old) (own_view new)
    → why ≡ faults.NoMemory → HasFailed old new why
failed-only-memory old new why looked is = subst (HasFailed old new) (sym is) (failed-memory old new looked)

-- of what a refusal leaves
pub err-left : {T E : Type 0} {Q S : Type 0} (r : Result T E) → (Q → S) → OnErr r Q → OnErr r S
err-left (Ok x) f one = tt
err-left (Err e) f one = f one

-- of what is answered, and what that leaves
pub ok-with : {T E : Type 0} {P S : T → Type 0} {Q : Type 0} (r : Result T E) → ((x : T) → P x → Q → S x) → IfOk r P → OnOk r Q → IfOk r S
ok-with (Ok x) f one two = f x one two
ok-with (Err e) f one two = tt

-- one fact by what either leaves
pub by-either : {T E : Type 0} {P Q R : Type 0} (r : Result T E) → (P → R) → (Q → R) → OnOk r P → OnErr r Q → R
by-either (Ok x) f g one two = f one
by-either (Err e) f g one two = g two

-- of three facts that a refusal leaves
pub err-three : {T E : Type 0} {P Q S R : Type 0} (r : Result T E) → (P → Q → S → R) → OnErr r P → OnErr r Q → OnErr r S → OnErr r R
err-three (Ok x) f one two three = tt
err-three (Err e) f one two three = f one two three
