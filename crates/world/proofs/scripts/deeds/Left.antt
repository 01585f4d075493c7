-- What a step leaves of the scripted world, where the desk of its worker is alone.
use Rattle.std.proofs.Common.{◌≡◌, ◌∙◌, ◌++◌, ℕ, List, [], ◌∷◌, length, refl, sym, ap, subst, true}
use Rattle.std.specs.Prelude.{Option, None, Some, IfSome, slice_set}
use Rattle.std.specs.Option.{option_map_or}
use Rattle.std.proofs.lemmas.List.{append-nil, set-get_or}
use Rattle.std.proofs.lemmas.Option.{unwrap_or-slice_get}
use Rattle.mw_types.specs.declared.entry.Entry.{Entry}
use Rattle.mw_types.specs.declared.identity.RowName.{RowName}
use Rattle.topology.specs.Shapes.{Shape}
use Rattle.run_history.specs.Fences.{IsCurrent, IsOvertakenBy}
use Rattle.run_history.specs.Made.{row_written}
use Rattle.run_history.specs.Cases.{CaseShape}
use Rattle.book.specs.Books.{BookView, LeaseView}
use Rattle.book.specs.Desks.{DeskView, HasMoved}
use Rattle.book.specs.OwnDesks.{own_view}
use Rattle.node.specs.Answers.{AnswersAsked, AnswersWrite, IsCommitted, IsIdle, IsLost, IsTurnedAway, made_of}
use Rattle.node.specs.Asking.{Request}
use Rattle.node.specs.Workers.{NodeView, Worker, idle, sends, with_lease, with_outgoing, worker_at}
use Rattle.node.specs.declared.outcome.Outcome.{Outcome}
use Rattle.node.specs.declared.outcome.Outcome.TheVariants as outcomes
use Rattle.outbox.specs.declared.outgoing.Outgoing.{Outgoing}
use Rattle.world.specs.scripts.Acts.{Acted, Deed, becomes, changed_by, done, lost, nothing, stays, with_made, writes}
use Rattle.world.specs.scripts.Worlds.{World, worker_of}
use Rattle.world.proofs.scripts.OwnerLaws.{done-current, done-overtaken}
use Rattle.world.proofs.scripts.deeds.Acting.{IsActing, acting-worker, tells}

-- ---- a desk that is alone, and the world that it knows

-- a desk was alone and told as it was asked; as it answered it had found no turn taken
pub record IsAlone (old new : DeskView) : Type 0 where
  pub alone : old.alone ≡ true
  pub told : old.told ≡ Some tt
  pub missed : new.missed ≡ []

-- the scripted world of what a desk knows, in which a worker is this node
pub record IsWorldOf (desk : DeskView) (number : ℕ) (node : NodeView) (world : World) : Type 0 where
  pub history : world.history ≡ desk.seen
  pub marks : world.marks ≡ desk.marks
  pub worker : worker_of world number ≡ worker_at node

-- a worker that is about to act has a desk that is alone
pub acting-alone : (case : CaseShape) (old new : BookView) (world : World) (number : ℕ) (was : NodeView)
    → IsActing case old world number was → IsAlone (own_view old) (own_view new)
acting-alone case old new world number was acting = record { alone = refl; told = tells old.rows acting.told; missed = refl }

-- its world is that of what its desk knows
pub acting-of : (case : CaseShape) (old : BookView) (world : World) (number : ℕ) (was : NodeView)
    → IsActing case old world number was → IsWorldOf (own_view old) number was world
acting-of case old world number was acting = record {
  history = acting.history;
  marks = acting.marks;
  worker = acting-worker case old world number was acting;
}

-- the world once a worker is this node, and its desk knows this; with these messages in flight
abbrev pub left_world : DeskView → ℕ → NodeView → List (Option Outgoing) → World → World
left_world desk number node flight world = record world {
  history = desk.seen;
  marks = desk.marks;
  workers = slice_set world.workers number (worker_at node);
  flight = flight;
}

-- a deed that leaves these messages in flight
abbrev pub with_flight : List (Option Outgoing) → Deed → Deed
with_flight flight deed = record deed { flight = flight }

-- what a worker does that writes an entry, if it asks for one, and is another then
abbrev pub deed_asked : World → ℕ → Worker → Option Request → Deed
deed_asked world number after None = nothing world number
deed_asked world number after (Some asked) = writes world number asked.lease asked.entry after

-- an entry is on the row for which it is asked
abbrev pub IsOnRow : Request → Type 0
IsOnRow asked = row_written asked.entry ≡ Some asked.name

-- ---- worlds

-- a worker that is put where it was leaves all workers as they were
pub workers-same : (world : World) (number : ℕ) → slice_set world.workers number (worker_of world number) ≡ world.workers
workers-same world number = ap (slice_set world.workers number) (unwrap_or-slice_get world.workers number idle)
    ∙ set-get_or world.workers number idle

-- an answer with a world, by the answer and the world's fields; relays, and what they know, are the same
pub acted-same : (one other : Outcome) (this that : World) → one ≡ other → this.history ≡ that.history → this.marks ≡ that.marks
    → this.workers ≡ that.workers → this.flight ≡ that.flight → this.left ≡ that.left → this.relays ≡ that.relays
    → this.routes ≡ that.routes → ◌≡◌ {A = Acted} (one, this) (other, that)
acted-same one other this that answer history marks workers flight left relays routes = λ i. (
  answer i,
  record {
    history = history i;
    marks = marks i;
    workers = workers i;
    flight = flight i;
    left = left i;
    relays = relays i;
    routes = routes i;
  },
)

-- a desk that is alone had seen all that stands before its own entry
pub moved-alone : (old new : DeskView) (before : List Entry) → HasMoved old new before → old.alone ≡ true → before ≡ old.seen
moved-alone old new before moved alone = moved.more ∙ ap (λ others. old.seen ++ others) (moved.none alone) ∙ append-nil old.seen

-- no list is empty that something stands behind
pub not-behind : {A : Type 0} (xs : List A) (x : A) → [] ≡ xs ++ x ∷ [] → ⊥
not-behind [] x same = cc
not-behind (y ∷ ys) x same = cc

-- ---- deeds that are done

-- a worker that answers and changes nothing; the messages in flight are these
pub idle-acts : (shape : Shape) (number : ℕ) (old new : DeskView) (was node : NodeView) (answer : Outcome)
    (flight : List (Option Outgoing)) (world : World) → IsAlone old new → new.marks ≡ old.marks → IsWorldOf old number was world
    → IsIdle old new was node
    → done shape world (with_flight flight (stays world number answer)) ≡ (answer, left_world new number node flight world)
idle-acts shape number old new was node answer flight world alone marks of idle =
    acted-same answer answer (changed_by shape world (with_flight flight (stays world number answer)))
    (left_world new number node flight world) refl
    (append-nil world.history ∙ of.history ∙ sym (moved-alone old new new.seen idle.looked alone.alone))
    (of.marks ∙ sym marks)
    (sym (ap (slice_set world.workers number) (idle.kept ∙ sym of.worker) ∙ workers-same world number)) refl refl refl refl

-- a worker that answers and is another then
pub becomes-acts : (shape : Shape) (number : ℕ) (old new : DeskView) (was node : NodeView) (answer : Outcome) (after : Worker)
    (flight : List (Option Outgoing)) (world : World) → new.seen ≡ old.seen → new.marks ≡ old.marks → IsWorldOf old number was world
    → worker_at node ≡ after
    → done shape world (with_flight flight (becomes world number answer after)) ≡ (answer, left_world new number node flight world)
becomes-acts shape number old new was node answer after flight world seen marks of is =
    acted-same answer answer (changed_by shape world (with_flight flight (becomes world number answer after)))
    (left_world new number node flight world) refl (append-nil world.history ∙ of.history ∙ sym seen) (of.marks ∙ sym marks)
    (ap (slice_set world.workers number) (sym is)) refl refl refl refl

-- what an entry makes after the history is put behind what its worker is then
made-left : (shape : Shape) (old new : DeskView) (asked : Request) (after : Worker) (node : NodeView) (commit : ℕ) (history : List Entry)
    → IsAlone old new → IsOnRow asked → (c : IsCommitted shape old new asked after node commit) → c.before ≡ history
    → with_made shape history asked.entry after ≡ worker_at node
made-left shape old new asked after node commit history alone written c before =
    let sent : made_of shape asked commit ≡ sends shape history (asked.name, asked.entry) =
    subst (λ o. IfSome o (λ _. made_of shape asked commit ≡ sends shape c.before (asked.name, asked.entry))) alone.told c.told
    ∙ ap (λ h. sends shape h (asked.name, asked.entry)) before in
    ap (λ o. option_map_or (λ (name : RowName). with_outgoing (sends shape history (name, asked.entry)) after) o after) written
    ∙ ap (λ ms. with_outgoing ms after) (sym sent) ∙ sym c.left

-- a worker whose entry was appended did what it asked for
pub committed-acts : (shape : Shape) (number : ℕ) (old new : DeskView) (asked : Request) (after : Worker) (was node : NodeView)
    (commit : ℕ) (flight : List (Option Outgoing)) (world : World) → IsAlone old new → new.marks ≡ old.marks
    → IsWorldOf old number was world → IsOnRow asked → IsCommitted shape old new asked after node commit
    → done shape world (with_flight flight (writes world number asked.lease asked.entry after))
    ≡ (outcomes.Committed commit, left_world new number node flight world)
committed-acts shape number old new asked after was node commit flight world alone marks of written c =
    let deed = with_flight flight (writes world number asked.lease asked.entry after) in
    let before : c.before ≡ world.history = moved-alone old new c.before c.moved alone.alone ∙ sym of.history in
    done-current shape world deed asked.lease refl (subst (IsCurrent asked.lease.interval asked.lease.seq) before c.last)
    ∙ acted-same (outcomes.Committed (length world.history)) (outcomes.Committed commit) (changed_by shape world deed)
    (left_world new number node flight world) (ap outcomes.Committed (ap length (sym before) ∙ sym c.number))
    (ap (λ h. h ++ asked.entry ∷ []) (sym before) ∙ sym c.appended) (of.marks ∙ sym marks)
    (ap (slice_set world.workers number)
    (made-left shape old new asked after node commit world.history alone written c before)) refl refl refl refl

-- a worker whose lease was overtaken did nothing, and has lost the lease
pub stale-acts : (shape : Shape) (number : ℕ) (old new : DeskView) (lease : LeaseView) (was node : NodeView) (newer : ℕ)
    (world : World) (deed : Deed) → IsAlone old new → new.marks ≡ old.marks → IsWorldOf old number was world
    → deed.under ≡ Some lease → deed.number ≡ number → IsLost shape old new lease was node newer
    → done shape world deed ≡ (outcomes.Stale newer, left_world new number node deed.flight world)
stale-acts shape number old new lease was node newer world deed alone marks of under same gone =
    let seen : new.seen ≡ world.history = moved-alone old new new.seen gone.looked alone.alone ∙ sym of.history in
    done-overtaken shape world deed lease newer under (subst (IsOvertakenBy newer lease.interval lease.seq) seen gone.claim)
    ∙ acted-same (outcomes.Stale newer) (outcomes.Stale newer) (lost shape world deed lease)
    (left_world new number node deed.flight world) refl (sym seen) (of.marks ∙ sym marks)
    (ap (λ n. slice_set world.workers n (with_lease shape lease.interval None (worker_of world n))) same
    ∙ ap (λ w. slice_set world.workers number (with_lease shape lease.interval None w)) of.worker
    ∙ ap (slice_set world.workers number) (sym gone.left)) refl refl refl refl

-- no other has the turn of a desk that is alone
pub not-turned : (old new : DeskView) (lease : LeaseView) (was node : NodeView) (found : ℕ) → IsAlone old new
    → IsTurnedAway old new lease was node found → ⊥
not-turned old new lease was node found alone turned =
    not-behind turned.refused.asked.missed found (sym alone.missed ∙ turned.refused.reason.counts.busy found refl)

-- what a worker answers that asked for an entry
pub write-acts : (shape : Shape) (number : ℕ) (old new : DeskView) (asked : Request) (after : Worker) (was node : NodeView)
    (outcome : Outcome) (flight : List (Option Outgoing)) (world : World) → IsAlone old new → new.marks ≡ old.marks
    → IsWorldOf old number was world → IsOnRow asked → AnswersWrite shape old new asked after was node outcome
    → done shape world (with_flight flight (writes world number asked.lease asked.entry after))
    ≡ (outcome, left_world new number node flight world)
write-acts shape number old new asked after was node (outcomes.Committed commit) flight world alone marks of written is =
    committed-acts shape number old new asked after was node commit flight world alone marks of written is
write-acts shape number old new asked after was node (outcomes.Stale newer) flight world alone marks of written is =
    stale-acts shape number old new asked.lease was node newer world
    (with_flight flight (writes world number asked.lease asked.entry after)) alone marks of refl refl is
write-acts shape number old new asked after was node (outcomes.Busy found) flight world alone marks of written is =
    absurd (not-turned old new asked.lease was node found alone is)
write-acts shape number old new asked after was node _ flight world alone marks of written is = absurd is

-- what a worker answers that asks for an entry, if there is one
pub asked-acts : (shape : Shape) (number : ℕ) (old new : DeskView) (asked : Option Request) (after : Worker) (was node : NodeView)
    (outcome : Outcome) (flight : List (Option Outgoing)) (world : World) → IsAlone old new → new.marks ≡ old.marks
    → IsWorldOf old number was world → IfSome asked IsOnRow → AnswersAsked shape old new asked after was node outcome
    → done shape world (with_flight flight (deed_asked world number after asked))
    ≡ (outcome, left_world new number node flight world)
asked-acts shape number old new None after was node outcome flight world alone marks of written is =
    subst (λ o. done shape world (with_flight flight (nothing world number)) ≡ (o, left_world new number node flight world)) (sym is.0)
    (idle-acts shape number old new was node outcomes.Nothing flight world alone marks of is.1)
asked-acts shape number old new (Some asked) after was node outcome flight world alone marks of written is =
    write-acts shape number old new asked after was node outcome flight world alone marks of written is

-- and where no message leaves flight
pub asked-kept : (shape : Shape) (number : ℕ) (old new : DeskView) (asked : Option Request) (after : Worker) (was node : NodeView)
    (outcome : Outcome) (world : World) → IsAlone old new → new.marks ≡ old.marks → IsWorldOf old number was world
    → IfSome asked IsOnRow → AnswersAsked shape old new asked after was node outcome
    → done shape world (deed_asked world number after asked) ≡ (outcome, left_world new number node world.flight world)
asked-kept shape number old new asked after was node outcome world alone marks of written is =
    ap (done shape world) (by_asked asked)
    ∙ asked-acts shape number old new asked after was node outcome world.flight world alone marks of written is
  where
    by_asked : (o : Option Request) → deed_asked world number after o ≡ with_flight world.flight (deed_asked world number after o)
    by_asked None = refl
    by_asked (Some request) = refl
