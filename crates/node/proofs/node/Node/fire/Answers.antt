use Rattle.std.proofs.Common.{rules, ◌≡◌, ◌∙◌, length, ap, subst, sym, inl}
use Rattle.std.specs.Prelude.{IfErr, IfOk, None, Some}
use Rattle.run_history.specs.Cases.{CaseShape, intervals_of}
use Rattle.node.specs.declared.outcome.NodeFault.TheVariants as faults
use Rattle.node.specs.declared.outcome.Outcome.TheVariants as outcomes
use Rattle.node.specs.Answers.{AnswersFire, AnswersSome, FailsFire, FailsSome, HasGrown}
use Rattle.node.specs.Asking.{MayAskFire}
use Rattle.node.specs.FireSteps.{IsTimerToFire}
use Rattle.node.specs.Fits.{Fits}
use Rattle.node.specs.Workers.{NodeView}
use Rattle.node.proofs.FirstLaws.{rows-within}
use Rattle.node.proofs.FiringLaws.{fire-answers, fire-fails, fire-nothing}
use Rattle.node.proofs.LookLaws.{err-fails, grown-later, looked-later}
use Rattle.node.proofs.MarkLaws.{known-later}
use Rattle.node.proofs.OutLaws.{Fits-looked}
use Rattle.node.proofs.node.Node.fire.Goals as goal

-- the rows that are cached lie in their intervals
pub to_fire-requires : goal.to_fire-requires
to_fire-requires g c = record {
  within = λ interval. rows-within c.args.case.now (g.D.Desk.view c.args.desk.now) c.args.self.now interval c.requires.fits;
}

-- where a name could not be copied
pub returns-in_err-found-clause-fits : goal.returns-in_err-found-clause-fits
returns-in_err-found-clause-fits g c =
    let mid = g.D.Desk.view c.least_known-mark.new.desk in
    subst (Fits c.args.case.now mid) (sym c.in_err-found.ensures.same)
    (Fits-looked c.args.case.now (g.D.Desk.view c.args.desk.now) mid c.args.self.now c.sound.ensures.sound c.sound-2.ensures.sound
    c.least_known-mark.ensures.looked c.requires.fits)

pub returns-in_err-found-clause-fault : goal.returns-in_err-found-clause-fault
returns-in_err-found-clause-fault g c =
    let case = c.args.case.now in
    let part = c.args.part in
    let old = g.D.Desk.view c.args.desk.now in
    let mid = g.D.Desk.view c.least_known-mark.new.desk in
    let none : IfErr c.from_residual.result (λ why. why ≡ faults.NoMemory) = search rules in
    err-fails c.from_residual.result (λ why. why ≡ faults.NoMemory) (FailsFire case old mid part c.args.self.now)
    (λ why is. record { mark = c.least_known-mark.result; known = c.least_known-mark.ensures.known; fails = inl is }) none

-- where a timer is the next
pub fire_one-fired-requires-clause-fits : goal.fire_one-fired-requires-clause-fits
fire_one-fired-requires-clause-fits g c =
    let mid = g.D.Desk.view c.least_known-mark.new.desk in
    subst (Fits c.args.case.now mid) (sym c.in_ok-found.ensures.same)
    (Fits-looked c.args.case.now (g.D.Desk.view c.args.desk.now) mid c.args.self.now c.sound.ensures.sound c.sound-2.ensures.sound
    c.least_known-mark.ensures.looked c.requires.fits)

pub returns-in-Some-clause-answers : goal.returns-in-Some-clause-answers
returns-in-Some-clause-answers g c =
    let case = c.args.case.now in
    let shape = case.topology in
    let part = c.args.part in
    let mark = c.least_known-mark.result in
    let found = c.in-Some.found in
    let old = g.D.Desk.view c.args.desk.now in
    let mid = g.D.Desk.view c.least_known-mark.new.desk in
    let new = g.D.Desk.view c.fire_one-fired.new.desk in
    let was = c.args.self.now in
    let after = c.fire_one-fired.new.self in
    let next : IsTimerToFire shape was part mark (Some found) = search rules in
    let same : mid.case ≡ case = c.least_known-mark.ensures.looked.case ∙ c.requires.fits.of_case in
    let known = known-later shape part old mid new mark
    (c.sound-2.ensures.sound.marks ∙ ap (λ (k : CaseShape). length (intervals_of k.topology)) same)
    (c.sound-in-Some.ensures.sound.marks ∙ ap (λ (k : CaseShape). length (intervals_of k.topology))
    (c.fire_one-fired.ensures.grown.moved.case ∙ same)) c.fire_one-fired.ensures.marks.rise c.least_known-mark.ensures.known in
    fire-answers case old mid new was after part mark found c.fire_one-fired.result c.least_known-mark.ensures.looked known next
    (subst (λ (n : NodeView). IfOk c.fire_one-fired.result (AnswersSome shape mid new (MayAskFire case n found.name.part mark) n after))
    c.in_ok-found.ensures.same c.fire_one-fired.ensures.answers)

pub returns-in-Some-clause-fault : goal.returns-in-Some-clause-fault
returns-in-Some-clause-fault g c =
    let case = c.args.case.now in
    let shape = case.topology in
    let part = c.args.part in
    let mark = c.least_known-mark.result in
    let found = c.in-Some.found in
    let old = g.D.Desk.view c.args.desk.now in
    let mid = g.D.Desk.view c.least_known-mark.new.desk in
    let new = g.D.Desk.view c.fire_one-fired.new.desk in
    let was = c.args.self.now in
    let next : IsTimerToFire shape was part mark (Some found) = search rules in
    let same : mid.case ≡ case = c.least_known-mark.ensures.looked.case ∙ c.requires.fits.of_case in
    let known = known-later shape part old mid new mark
    (c.sound-2.ensures.sound.marks ∙ ap (λ (k : CaseShape). length (intervals_of k.topology)) same)
    (c.sound-in-Some.ensures.sound.marks ∙ ap (λ (k : CaseShape). length (intervals_of k.topology))
    (c.fire_one-fired.ensures.grown.moved.case ∙ same)) c.fire_one-fired.ensures.marks.rise c.least_known-mark.ensures.known in
    fire-fails case old mid new was part mark found c.fire_one-fired.result c.least_known-mark.ensures.looked known next
    (subst (λ (n : NodeView). IfErr c.fire_one-fired.result (FailsSome mid new (MayAskFire case n found.name.part mark)))
    c.in_ok-found.ensures.same c.fire_one-fired.ensures.fault)

pub returns-in-Some-clause-looked : goal.returns-in-Some-clause-looked
returns-in-Some-clause-looked g c =
    let old = g.D.Desk.view c.args.desk.now in
    let mid = g.D.Desk.view c.least_known-mark.new.desk in
    let new = g.D.Desk.view c.fire_one-fired.new.desk in
    looked-later old mid new c.fire_one-fired.result c.least_known-mark.ensures.looked c.fire_one-fired.ensures.looked

pub returns-in-Some-clause-grown : goal.returns-in-Some-clause-grown
returns-in-Some-clause-grown g c =
    let old = g.D.Desk.view c.args.desk.now in
    let mid = g.D.Desk.view c.least_known-mark.new.desk in
    let new = g.D.Desk.view c.fire_one-fired.new.desk in
    subst (λ (n : NodeView). HasGrown n.held old new) c.in_ok-found.ensures.same
    (grown-later old mid new c.to_fire.new.self.held c.least_known-mark.ensures.looked c.fire_one-fired.ensures.grown)

-- where there is none
pub returns-in-None-clause-fits : goal.returns-in-None-clause-fits
returns-in-None-clause-fits g c =
    let mid = g.D.Desk.view c.least_known-mark.new.desk in
    subst (Fits c.args.case.now mid) (sym c.in_ok-found.ensures.same)
    (Fits-looked c.args.case.now (g.D.Desk.view c.args.desk.now) mid c.args.self.now c.sound.ensures.sound c.sound-2.ensures.sound
    c.least_known-mark.ensures.looked c.requires.fits)

pub returns-in-None-clause-answers : goal.returns-in-None-clause-answers
returns-in-None-clause-answers g c =
    let case = c.args.case.now in
    let part = c.args.part in
    let mark = c.least_known-mark.result in
    let old = g.D.Desk.view c.args.desk.now in
    let mid = g.D.Desk.view c.least_known-mark.new.desk in
    let was = c.args.self.now in
    let none : IsTimerToFire case.topology was part mark None = search rules in
    subst (λ (n : NodeView). AnswersFire case old mid part was n outcomes.Nothing) (sym c.in_ok-found.ensures.same)
    (fire-nothing case old mid was part mark c.least_known-mark.ensures.looked c.least_known-mark.ensures.known none)
