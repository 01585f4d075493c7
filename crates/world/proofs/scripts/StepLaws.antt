-- What a step leaves of a world, whole.
use Rattle.std.proofs.Common.{◌≡◌, ◌∙◌, ◌<◌, ◌++◌, ℕ, List, refl, sym, ap, subst}
use Rattle.std.specs.Prelude.{Option, None, Some, IfSome}
use Rattle.std.specs.Option.{is_some, option_to_list}
use Rattle.std.proofs.lemmas.List.{append-nil}
use Rattle.mw_types.specs.declared.entry.Entry.{Entry}
use Rattle.row_keeper.specs.Rows.{Rows}
use Rattle.topology.specs.Shapes.{Shape}
use Rattle.run_history.specs.Cases.{CaseShape}
use Rattle.book.specs.Books.{core_of}
use Rattle.book.specs.Lawful.{HoldsRowsOf, IsLawful}
use Rattle.world.specs.scripts.Keeping.{AppendsAtMostOne}
use Rattle.plans.specs.Steps.{IsStep}
use Rattle.plans.specs.declared.step.Step.{Step}
use Rattle.plans.specs.declared.step.Step.TheVariants as steps
use Rattle.world.specs.scripts.Stepping.{HasFaulted}
use Rattle.world.specs.drains.Turns.{with_own}
use Rattle.world.specs.scripts.WorkerCalls.{HasGoneOn, IsAlone}
use Rattle.world.specs.scripts.WorldStates.{WorldState, world_of}
use Rattle.world.proofs.RunLaws.{faulted-history}

-- one entry at the end, if there is one
own-listed : (own : Option Entry) (history : List Entry) → with_own own history ≡ history ++ option_to_list own
own-listed None history = sym (append-nil history)
own-listed (Some entry) history = refl

-- a world that goes on has one entry more at most
pub gone-one : (old new : WorldState) → HasGoneOn old new → AppendsAtMostOne (world_of old) (world_of new)
gone-one old new gone = record {
  entry = gone.own;
  appended = gone.stepped.appended ∙ own-listed gone.own old.book.history;
}

-- the rows of one history are the same
rows-same : (case : CaseShape) (history : List Entry) (one other : Option Rows) → IfSome one (HoldsRowsOf case history)
    → IfSome other (HoldsRowsOf case history) → is_some one ≡ is_some other → one ≡ other
rows-same case history None None is are same = refl
rows-same case history None (Some other) is are same = absurd cc
rows-same case history (Some one) None is are same = absurd cc
rows-same case history (Some one) (Some other) is are same = ap Some (is.stored ∙ sym are.stored)

-- a fault leaves the rows
pub faulted-rows : (step : Step) (old new : WorldState) → IsLawful old.book.case (core_of old.book)
    → IsLawful new.book.case (core_of new.book) → HasGoneOn old new → HasFaulted step old new → new.book.rows ≡ old.book.rows
faulted-rows step old new was is gone kept =
    rows-same old.book.case old.book.history new.book.rows old.book.rows
    (subst (λ (h : List Entry). IfSome new.book.rows (HoldsRowsOf old.book.case h)) (faulted-history step old new kept)
    (subst (λ (k : CaseShape). IfSome new.book.rows (HoldsRowsOf k new.book.history)) gone.stepped.case is.held)) was.held
    gone.stepped.tells

-- ---- a step that a worker does without a message

-- the worker is one of sixteen
pub alone-few : (shape : Shape) (weaks number : ℕ) (step : Step) → IsStep shape weaks step → IsAlone number step → number < 16
alone-few shape weaks number (steps.Claim worker interval) is alone = subst (λ n. n < 16) alone is.0
alone-few shape weaks number (steps.Inject worker part) is alone = subst (λ n. n < 16) alone is.0
alone-few shape weaks number (steps.Send worker) is alone = absurd alone
alone-few shape weaks number (steps.Take worker message) is alone = absurd alone
alone-few shape weaks number (steps.Write worker) is alone = subst (λ n. n < 16) alone is
alone-few shape weaks number (steps.Fire worker part) is alone = subst (λ n. n < 16) alone is.0
alone-few shape weaks number (steps.Report worker interval) is alone = subst (λ n. n < 16) alone is.0
alone-few shape weaks number (steps.Resend worker) is alone = subst (λ n. n < 16) alone is
alone-few shape weaks number (steps.Purge worker interval) is alone = subst (λ n. n < 16) alone is.0
alone-few shape weaks number (steps.Repeat message) is alone = absurd alone
alone-few shape weaks number (steps.Lose message) is alone = absurd alone
alone-few shape weaks number (steps.Relay relay message) is alone = absurd alone
alone-few shape weaks number (steps.Forget relay) is alone = absurd alone
alone-few shape weaks number (steps.Crash worker) is alone = subst (λ n. n < 16) alone is

-- a fault leaves the world
pub faulted-alone : (number : ℕ) (step : Step) (old new : WorldState) → IsAlone number step → world_of new ≡ world_of old
    → HasFaulted step old new
faulted-alone number (steps.Claim worker interval) old new alone same = same
faulted-alone number (steps.Inject worker part) old new alone same = same
faulted-alone number (steps.Send worker) old new alone same = absurd alone
faulted-alone number (steps.Take worker message) old new alone same = absurd alone
faulted-alone number (steps.Write worker) old new alone same = same
faulted-alone number (steps.Fire worker part) old new alone same = same
faulted-alone number (steps.Report worker interval) old new alone same = same
faulted-alone number (steps.Resend worker) old new alone same = same
faulted-alone number (steps.Purge worker interval) old new alone same = same
faulted-alone number (steps.Repeat message) old new alone same = absurd alone
faulted-alone number (steps.Lose message) old new alone same = absurd alone
faulted-alone number (steps.Relay relay message) old new alone same = absurd alone
faulted-alone number (steps.Forget relay) old new alone same = absurd alone
faulted-alone number (steps.Crash worker) old new alone same = same
