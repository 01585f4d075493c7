use Rattle.world.proofs.scripts.StepLaws.{alone-few, faulted-alone}
use Rattle.world.proofs.scripts.WorkerLaws.{err-left}
use Rattle.world.proofs.scripts.world.World.step_once.Goals as goal

-- the worker is one of sixteen
pub step_alone-requires-clause-worker : goal.step_alone-requires-clause-worker
step_alone-requires-clause-worker g c =
    alone-few c.args.self.now.book.case.topology c.args.self.now.routes.weaks c.in-Some.worker c.args.step.now c.requires.step c.in-Some.ensures.alone

-- a fault of a worker leaves the world
pub returns-in-Some-clause-kept : goal.returns-in-Some-clause-kept
returns-in-Some-clause-kept g c =
    err-left c.step_alone.result (λ same. faulted-alone c.in-Some.worker c.args.step.now c.args.self.now c.step_alone.new.self
    c.in-Some.ensures.alone same) c.step_alone.ensures.same
