use Rattle.std.proofs.Common.{refl, rules}
use Rattle.book.specs.OwnDesks.{own_view}
use Rattle.world.specs.scripts.WorkerCalls.{HasCalled}
use Rattle.world.proofs.scripts.CrashLaws.{crash-called}
use Rattle.world.proofs.scripts.world_steps.call_alone.Goals as goal

-- a worker that crashes has called no desk
pub returns-in-Crash-clause-called : goal.returns-in-Crash-clause-called
returns-in-Crash-clause-called g c =
    let book = c.args.book.now in
    let called : HasCalled book book c.args.node.now c.crash.new.self =
    crash-called book c.args.node.now c.crash.new.self c.history.ensures.lawful c.crash.ensures.number c.crash.ensures.idle
    (c.crash.ensures.fits book.case (own_view book) refl) in search rules
