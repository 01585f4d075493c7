-- What a node answers that asks for one of the entries for which it may ask, as the scripted world does.
use Rattle.std.proofs.Common.{◌≡◌, ◌∙◌, ℕ, refl, sym, ap}
use Rattle.std.specs.Prelude.{IfSome, None, Option, Some}
use Rattle.std.specs.Option.{option_and_then}
use Rattle.mw_types.specs.declared.identity.RowName.{RowName}
use Rattle.topology.specs.Shapes.{Shape}
use Rattle.run_history.specs.Cases.{CaseShape}
use Rattle.list_lemmas.proofs.Lists.{none_some}
use Rattle.book.specs.Books.{BookView}
use Rattle.book.specs.Desks.{DeskView}
use Rattle.book.specs.declared.proposal.Proposal.{Proposal}
use Rattle.book.specs.declared.proposal.Proposal.TheVariants as proposals
use Rattle.node.specs.Answers.{AnswersSome}
use Rattle.node.specs.Asking.{Request}
use Rattle.node.specs.Fits.{Fits, IsPrepared, IsWork}
use Rattle.node.specs.Workers.{NodeView, WorkView, Worker, sending_in, sending_of, worker_at}
use Rattle.node.specs.declared.outcome.Outcome.{Outcome}
use Rattle.node.specs.declared.outcome.Outcome.TheVariants as outcomes
use Rattle.world.specs.scripts.Acts.{Deed, done, nothing, writes}
use Rattle.world.specs.scripts.Worlds.{World, worker_of}
use Rattle.world.proofs.scripts.deeds.Acting.{IsActing, acting-worker}
use Rattle.world.proofs.scripts.deeds.Left.{IsAlone, IsOnRow, IsWorldOf, idle-acts, left_world, write-acts}

-- ---- whether anything is prepared

-- a worker of a node that has prepared nothing has prepared nothing
pub worker-free : (case : CaseShape) (old : BookView) (world : World) (number : ℕ) (was : NodeView) → IsActing case old world number was
    → was.prepared ≡ None → (worker_of world number).prepared ≡ None
worker-free case old world number was acting free = ap (λ (w : Worker). w.prepared) (acting-worker case old world number was acting)
    ∙ ap (option_and_then (λ (work : WorkView). sending_in work.sender work.proposal)) free

-- a work that is right is that a record was handled
prepared-none : (case : CaseShape) (desk : DeskView) (was : NodeView) (sender : RowName) (proposal : Proposal)
    → IsPrepared case desk was.held sender proposal → sending_in sender proposal ≡ None → ⊥
prepared-none case desk was sender (proposals.Handle delivery effects) is none = none_some _ (sym none)
prepared-none case desk was sender _ is none = absurd is

-- a node whose worker has prepared nothing has prepared nothing
pub free-none : (case : CaseShape) (desk : DeskView) (was : NodeView) → Fits case desk was → sending_of was ≡ None
    → was.prepared ≡ None
free-none case desk was fits none = by_work was.prepared refl fits.work none
  where
    by_work : (o : Option WorkView) → was.prepared ≡ o → IfSome o (IsWork case desk was.held)
        → option_and_then (λ (work : WorkView). sending_in work.sender work.proposal) o ≡ None → was.prepared ≡ None
    by_work None at is free = at
    by_work (Some work) at is free = absurd (prepared-none case desk was work.sender work.proposal is free)

-- ---- one of some entries

-- what a worker answers that asks for an entry for which it may ask, or for none where there is none
pub some-acts : (shape : Shape) (number : ℕ) (old new : DeskView) (MayAsk : Request → Type 0) (was node : NodeView) (outcome : Outcome)
    (world : World) (deed : Deed) → IsAlone old new → new.marks ≡ old.marks → IsWorldOf old number was world
    → (((asked : Request) → MayAsk asked → ⊥) → deed ≡ nothing world number)
    → ((asked : Request) → MayAsk asked → deed ≡ writes world number asked.lease asked.entry (worker_of world number))
    → ((asked : Request) → MayAsk asked → IsOnRow asked) → AnswersSome shape old new MayAsk was node outcome
    → done shape world deed ≡ (outcome, left_world new number node world.flight world)
some-acts shape number old new MayAsk was node outcomes.Nothing world deed alone marks of none some on is =
    ap (done shape world) (none is.0)
    ∙ idle-acts shape number old new was node outcomes.Nothing world.flight world alone marks of is.1
some-acts shape number old new MayAsk was node outcome world deed alone marks of none some on (asked, may, is) =
    ap (done shape world) (some asked may ∙ ap (writes world number asked.lease asked.entry) of.worker)
    ∙ write-acts shape number old new asked (worker_at was) was node outcome world.flight world alone marks of (on asked may) is
