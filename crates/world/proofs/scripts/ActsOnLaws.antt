-- A worker's call over its own book is the step of the script, in each scripted world of that book.
use Rattle.std.proofs.Common.{◌≡◌, ◌∙◌, ◌<◌, ℕ, refl, sym, ap, subst}
use Rattle.std.specs.Prelude.{IsSome, IfOk, Result, Ok, Err}
use Rattle.list_lemmas.proofs.Told.{if-there}
use Rattle.topology.specs.Rules.{interval_count}
use Rattle.run_history.specs.Cases.{CaseShape}
use Rattle.book.specs.Books.{BookView, core_of}
use Rattle.book.specs.Desks.{KeepsMarks}
use Rattle.book.specs.Lawful.{IsLawful}
use Rattle.book.specs.OwnDesks.{own_view}
use Rattle.holdings.specs.Holding.{held_at}
use Rattle.node.specs.Answers.{AnswersAsked, AnswersFire, AnswersPurge, AnswersReport, AnswersSweep}
use Rattle.node.specs.Asking.{line_asked, work_asked}
use Rattle.node.specs.Workers.{NodeView, sending_of, with_written, worker_at}
use Rattle.node.specs.declared.outcome.NodeFault.{NodeFault}
use Rattle.node.specs.declared.outcome.Outcome.{Outcome}
use Rattle.node.specs.declared.outcome.Outcome.TheVariants as outcomes
use Rattle.world.specs.scripts.Worlds.{World}
use Rattle.plans.specs.declared.step.Step.TheVariants as steps
use Rattle.world.specs.scripts.Standing.{FitsOwn}
use Rattle.world.specs.scripts.WorkerCalls.{ActsOn, IsWorldAt}
use Rattle.world.proofs.scripts.deeds.Acting.{IsActing}
use Rattle.world.proofs.scripts.deeds.Fires.{fire-acts}
use Rattle.world.proofs.scripts.deeds.Injects.{inject-acts}
use Rattle.world.proofs.scripts.deeds.Purges.{purge-acts}
use Rattle.world.proofs.scripts.deeds.Reports.{report-acts}
use Rattle.world.proofs.scripts.deeds.Resends.{resend-acts}
use Rattle.world.proofs.scripts.deeds.Writes.{write-acts}

-- a worker is about to act
pub acting : (old : BookView) (was : NodeView) (world : World) → IsSome old.rows → IsLawful old.case (core_of old) → FitsOwn old was
    → IsWorldAt old was world → IsActing old.case old world was.number was
acting old was world told lawful fits at = record {
  of_case = refl;
  told = told;
  lawful = lawful;
  history = at.history;
  marks = at.marks;
  there = at.there;
  of_number = refl;
  fits = fits;
}

-- a line
pub inject-on : (case : CaseShape) (old new : BookView) (was node : NodeView) (part : ℕ) (outcome : Outcome) → case ≡ old.case
    → IsLawful old.case (core_of old) → KeepsMarks (own_view old) (own_view new) → FitsOwn old was
    → AnswersAsked case.topology (own_view old) (own_view new) (line_asked case was part) (worker_at was) was node outcome
    → ActsOn (steps.Inject was.number part) old was new node outcome
inject-on case old new was node part outcome same lawful marks fits answers = if-there old.rows (λ told world at.
    inject-acts old.case old new world was.number was node part outcome (acting old was world told lawful fits at) (marks.same refl)
    (subst (λ (k : CaseShape). AnswersAsked k.topology (own_view old) (own_view new) (line_asked k was part) (worker_at was) was node outcome)
    same answers))

-- what was prepared
pub write-on : (case : CaseShape) (old new : BookView) (was node : NodeView) (outcome : Outcome) → case ≡ old.case
    → IsLawful old.case (core_of old) → KeepsMarks (own_view old) (own_view new) → FitsOwn old was
    → AnswersAsked case.topology (own_view old) (own_view new) (work_asked case.topology was)
    (with_written (sending_of was) (worker_at was)) was node outcome
    → ActsOn (steps.Write was.number) old was new node outcome
write-on case old new was node outcome same lawful marks fits answers = if-there old.rows (λ told world at.
    write-acts old.case old new world was.number was node outcome (acting old was world told lawful fits at) (marks.same refl)
    (subst (λ (k : CaseShape). AnswersAsked k.topology (own_view old) (own_view new) (work_asked k.topology was)
    (with_written (sending_of was) (worker_at was)) was node outcome) same answers))

-- a timer
pub fire-on : (case : CaseShape) (old new : BookView) (was node : NodeView) (part : ℕ) (outcome : Outcome) → case ≡ old.case
    → IsLawful old.case (core_of old) → KeepsMarks (own_view old) (own_view new) → FitsOwn old was
    → AnswersFire case (own_view old) (own_view new) part was node outcome
    → ActsOn (steps.Fire was.number part) old was new node outcome
fire-on case old new was node part outcome same lawful marks fits answers = if-there old.rows (λ told world at.
    fire-acts old.case old new world was.number was node part outcome (acting old was world told lawful fits at) (marks.same refl)
    (subst (λ (k : CaseShape). AnswersFire k (own_view old) (own_view new) part was node outcome) same answers))

-- a purge
pub purge-on : (case : CaseShape) (old new : BookView) (was node : NodeView) (interval : ℕ) (outcome : Outcome) → case ≡ old.case
    → IsLawful old.case (core_of old) → KeepsMarks (own_view old) (own_view new) → FitsOwn old was
    → AnswersPurge case.topology (own_view old) (own_view new) interval 1 was node outcome
    → ActsOn (steps.Purge was.number interval) old was new node outcome
purge-on case old new was node interval outcome same lawful marks fits answers = if-there old.rows (λ told world at.
    purge-acts old.case old new world was.number was node interval outcome (acting old was world told lawful fits at) (marks.same refl)
    (subst (λ (k : CaseShape). AnswersPurge k.topology (own_view old) (own_view new) interval 1 was node outcome) same answers))

-- what is sent again
pub resend-on : (old : BookView) (was node : NodeView) (outcome : Outcome) → IsLawful old.case (core_of old) → FitsOwn old was
    → AnswersSweep (own_view old) was node outcome → ActsOn (steps.Resend was.number) old was old node outcome
resend-on old was node outcome lawful fits answers = if-there old.rows (λ told world at.
    resend-acts old.case old world was.number was node outcome (acting old was world told lawful fits at) answers)

-- a report
pub report-on : (case : CaseShape) (old new : BookView) (was node : NodeView) (interval : ℕ) (outcome : Outcome) → case ≡ old.case
    → IsLawful old.case (core_of old) → (((mark : ℕ) → outcome ≡ outcomes.Marked mark → ⊥) → new.marks ≡ old.marks) → FitsOwn old was
    → interval < interval_count old.case.topology
    → AnswersReport case (own_view old) (own_view new) (held_at was.held interval) was node outcome
    → ActsOn (steps.Report was.number interval) old was new node outcome
report-on case old new was node interval outcome same lawful marks fits within answers = if-there old.rows (λ told world at.
    report-acts old.case old new world was.number was node interval outcome (acting old was world told lawful fits at) marks within
    (subst (λ (k : CaseShape). AnswersReport k (own_view old) (own_view new) (held_at was.held interval) was node outcome) same answers))

-- of what is answered, and that it is
pub ok-is : {T E : Type 0} {P Q : T → Type 0} (r : Result T E) → ((x : T) → r ≡ Ok x → P x → Q x) → IfOk r P → IfOk r Q
ok-is (Ok x) f is = f x refl is
ok-is (Err e) f is = tt

-- what is answered, if anything is
answer_or : {T E : Type 0} → T → Result T E → T
answer_or d (Ok x) = x
answer_or d (Err e) = d

-- an answer is one
pub same-answer : (r : Result Outcome NodeFault) (one other : Outcome) → r ≡ Ok one → r ≡ Ok other → one ≡ other
unfolding answer_or
same-answer r one other is are = ap (answer_or one) (sym is ∙ are)
