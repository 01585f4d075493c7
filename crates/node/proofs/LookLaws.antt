-- What a call answers that looks before it asks its desk.
use Rattle.std.proofs.Common.{◌≡◌, List, subst, inl, inr}
use Rattle.std.specs.Prelude.{IfErr, IfOk, IfSome, Option, OnErr, Some, None, Result, Ok, Err}
use Rattle.mw_types.specs.declared.identity.RecordId.{RecordId}
use Rattle.mw_types.specs.declared.identity.RowName.{RowName}
use Rattle.topology.specs.Shapes.{Shape}
use Rattle.book.specs.Books.{LeaseView}
use Rattle.book.specs.Desks.{DeskView, HasLooked}
use Rattle.book.specs.declared.desk_refusal.DeskRefusal.{DeskRefusal}
use Rattle.holdings.specs.Holding.{HeldView, held_on}
use Rattle.node.specs.Answers.{AnswersAck, AnswersAckOf, AnswersAsked, AnswersSome, AnswersWrite, FailsSome, HasGrown, IsIdle, IsRefused, refusal_of}
use Rattle.node.specs.Asking.{Request, settling}
use Rattle.node.specs.Workers.{NodeView, Worker, worker_at}
use Rattle.node.specs.declared.outcome.NodeFault.{NodeFault}
use Rattle.node.specs.declared.outcome.Outcome.{Outcome}
use Rattle.node.specs.declared.outcome.Outcome.TheVariants as outcomes
use Rattle.outbox.specs.declared.outgoing.Outgoing.TheVariants as outgoing
use Rattle.node.proofs.FitLaws.{looked-moved}

-- what was told before a look
told-before : {X : Type 0} (old mid : Option X) (P : Type 0) → mid ≡ old → IfSome mid (λ _. P) → IfSome old (λ _. P)
told-before old mid P same is = subst (λ o. IfSome o (λ _. P)) same is

-- a refusal after a look
pub refused-later : (old mid new : DeskView) (lease : LeaseView) (why : DeskRefusal) → HasLooked old mid
    → IsRefused mid new lease why → IsRefused old new lease why
refused-later old mid new lease why looked is = record {
  asked = is.asked;
  looked = looked-moved old mid is.asked is.asked.seen looked is.looked;
  reason = is.reason;
}

-- nothing was appended after a look
pub idle-later : (old mid new : DeskView) (was node : NodeView) → HasLooked old mid → IsIdle mid new was node → IsIdle old new was node
idle-later old mid new was node looked is = record { looked = looked-moved old mid new new.seen looked is.looked; kept = is.kept }

-- an entry that was asked for after a look
pub answers-later : (shape : Shape) (old mid new : DeskView) (asked : Request) (after : Worker) (was node : NodeView) (outcome : Outcome)
    → HasLooked old mid → AnswersWrite shape mid new asked after was node outcome → AnswersWrite shape old new asked after was node outcome
answers-later shape old mid new asked after was node (outcomes.Committed commit) looked is = record {
  before = is.before;
  moved = looked-moved old mid new is.before looked is.moved;
  appended = is.appended;
  number = is.number;
  last = is.last;
  left = is.left;
  told = told-before old.told mid.told _ looked.told is.told;
}
answers-later shape old mid new asked after was node (outcomes.Stale newer) looked is = record {
  looked = looked-moved old mid new new.seen looked is.looked;
  claim = is.claim;
  left = is.left;
}
answers-later shape old mid new asked after was node (outcomes.Busy found) looked is = record {
  idle = idle-later old mid new was node looked is.idle;
  refused = refused-later old mid new asked.lease _ looked is.refused;
}
answers-later shape old mid new asked after was node (outcomes.Claimed seq) looked is = absurd is
answers-later shape old mid new asked after was node outcomes.Prepared looked is = absurd is
answers-later shape old mid new asked after was node outcomes.Duplicate looked is = absurd is
answers-later shape old mid new asked after was node outcomes.NotMine looked is = absurd is
answers-later shape old mid new asked after was node (outcomes.Queued count) looked is = absurd is
answers-later shape old mid new asked after was node (outcomes.Sent count) looked is = absurd is
answers-later shape old mid new asked after was node (outcomes.Copied message) looked is = absurd is
answers-later shape old mid new asked after was node outcomes.Lost looked is = absurd is
answers-later shape old mid new asked after was node (outcomes.Marked mark) looked is = absurd is
answers-later shape old mid new asked after was node outcomes.Crashed looked is = absurd is
answers-later shape old mid new asked after was node outcomes.Nothing looked is = absurd is

-- an entry for which a node may ask, after a look
pub some-later : (shape : Shape) (old mid new : DeskView) (MayAsk : Request → Type 0) (was node : NodeView) (outcome : Outcome)
    → HasLooked old mid → AnswersSome shape mid new MayAsk was node outcome → AnswersSome shape old new MayAsk was node outcome
some-later shape old mid new MayAsk was node (outcomes.Committed commit) looked is =
    (is.0, is.1, answers-later shape old mid new is.0 (worker_at was) was node (outcomes.Committed commit) looked is.2)
some-later shape old mid new MayAsk was node (outcomes.Stale newer) looked is =
    (is.0, is.1, answers-later shape old mid new is.0 (worker_at was) was node (outcomes.Stale newer) looked is.2)
some-later shape old mid new MayAsk was node (outcomes.Busy found) looked is =
    (is.0, is.1, answers-later shape old mid new is.0 (worker_at was) was node (outcomes.Busy found) looked is.2)
some-later shape old mid new MayAsk was node (outcomes.Claimed seq) looked is = absurd is.2
some-later shape old mid new MayAsk was node outcomes.Prepared looked is = absurd is.2
some-later shape old mid new MayAsk was node outcomes.Duplicate looked is = absurd is.2
some-later shape old mid new MayAsk was node outcomes.NotMine looked is = absurd is.2
some-later shape old mid new MayAsk was node (outcomes.Queued count) looked is = absurd is.2
some-later shape old mid new MayAsk was node (outcomes.Sent count) looked is = absurd is.2
some-later shape old mid new MayAsk was node (outcomes.Copied message) looked is = absurd is.2
some-later shape old mid new MayAsk was node outcomes.Lost looked is = absurd is.2
some-later shape old mid new MayAsk was node (outcomes.Marked mark) looked is = absurd is.2
some-later shape old mid new MayAsk was node outcomes.Crashed looked is = absurd is.2
some-later shape old mid new MayAsk was node outcomes.Nothing looked is = (is.0, idle-later old mid new was node looked is.1)

-- a fault after a look
pub fault-later : (old mid new : DeskView) (MayAsk : Request → Type 0) (fault : NodeFault) → HasLooked old mid
    → FailsSome mid new MayAsk fault → FailsSome old new MayAsk fault
fault-later old mid new MayAsk fault looked (inl want) = inl want
fault-later old mid new MayAsk fault looked (inr is) =
    inr (is.0, is.1, refused-later old mid new is.0.lease (refusal_of fault) looked is.2)

-- of a result
pub err-fails : (result : Result Outcome NodeFault) (P Q : NodeFault → Type 0) → ((fault : NodeFault) → P fault → Q fault)
    → IfErr result P → IfErr result Q
err-fails (Ok outcome) P Q step is = tt
err-fails (Err fault) P Q step is = step fault is

-- a look and no entry after a look
pub looked-later : (old mid new : DeskView) (result : Result Outcome NodeFault) → HasLooked old mid → OnErr result (HasLooked mid new)
    → OnErr result (HasLooked old new)
looked-later old mid new (Ok outcome) looked is = tt
looked-later old mid new (Err fault) looked is = looked-moved old mid new new.seen looked is

-- what a call appends after a look
pub grown-later : (old mid new : DeskView) (all : List (Option HeldView)) → HasLooked old mid → HasGrown all mid new → HasGrown all old new
grown-later old mid new all looked is = record {
  before = is.before;
  moved = looked-moved old mid new is.before looked is.moved;
  own = is.own;
  appended = is.appended;
  under = is.under;
}

-- ---- what may be asked after a look

-- an entry that may be asked for after a look
asked-later : (shape : Shape) (old mid new : DeskView) (asked : Option Request) (after : Worker) (was node : NodeView) (outcome : Outcome)
    → HasLooked old mid → AnswersAsked shape mid new asked after was node outcome → AnswersAsked shape old new asked after was node outcome
asked-later shape old mid new None after was node outcome looked is = (is.0, idle-later old mid new was node looked is.1)
asked-later shape old mid new (Some asked) after was node outcome looked is = answers-later shape old mid new asked after was
    node outcome looked is

-- word for a row that may be held after a look
word-later : (shape : Shape) (old mid new : DeskView) (here : Option HeldView) (to : RowName) (id : RecordId) (was node : NodeView)
    (outcome : Outcome) → HasLooked old mid → AnswersAck shape mid new here to id was node outcome
    → AnswersAck shape old new here to id was node outcome
word-later shape old mid new None to id was node outcome looked is = (is.0, idle-later old mid new was node looked is.1)
word-later shape old mid new (Some held) to id was node outcome looked is =
    asked-later shape old mid new (settling shape to id held) (worker_at was) was node outcome looked is

-- word that is taken in after a look
pub ack-later : (shape : Shape) (old mid new : DeskView) (to : RowName) (id : RecordId) (was node : NodeView)
    (result : Result Outcome NodeFault) → HasLooked old mid
    → IfOk result (AnswersAck shape mid new (held_on shape was.held to) to id was node)
    → IfOk result (AnswersAckOf shape old new (outgoing.Ack to id) was node)
ack-later shape old mid new to id was node (Ok outcome) looked is =
    word-later shape old mid new (held_on shape was.held to) to id was node outcome looked is
ack-later shape old mid new to id was node (Err fault) looked is = tt
