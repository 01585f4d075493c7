use Rattle.std.proofs.Common.{subst}
use Rattle.book.specs.Books.{core_of}
use Rattle.book.specs.Lawful.{IsLawful}
use Rattle.world.specs.scripts.WorldStates.{WorldState}
use Rattle.world.proofs.scripts.StepLaws.{faulted-rows, gone-one}
use Rattle.world.proofs.scripts.WorkerLaws.{err-left}
use Rattle.world.proofs.scripts.FullSteps.{full-then}
use Rattle.world.proofs.scripts.world.World.step.Goals as goal

-- one entry at most is appended
pub returns-clause-grown : goal.returns-clause-grown
returns-clause-grown g c = gone-one c.args.self.now c.step_once-result.new.self c.step_once-result.ensures.gone

-- a fault leaves the rows
pub returns-clause-rows : goal.returns-clause-rows
returns-clause-rows g c =
    err-left c.step_once-result.result (λ kept. faulted-rows c.args.step.now c.args.self.now c.step_once-result.new.self
    (subst (λ (s : WorldState). IsLawful s.book.case (core_of s.book)) c.self.view_is c.history.ensures.lawful)
    (subst (λ (s : WorldState). IsLawful s.book.case (core_of s.book)) c.self-2.view_is c.history-2.ensures.lawful)
    c.step_once-result.ensures.gone kept) c.step_once-result.ensures.kept

-- where the history is full the step would have appended an entry
pub returns-clause-more : goal.returns-clause-more
returns-clause-more g c = λ is.
    full-then c.step_once-result.result c.args.step.now c.args.self.now c.step_once-result.ensures.full is
