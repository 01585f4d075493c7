use Rattle.std.proofs.Common.{◌≡◌, arith, get_or, subst}
use Rattle.std.proofs.lemmas.Option.{slice_get-get_or}
use Rattle.world.specs.scripts.WorkerCalls.{AreNewTo}
use Rattle.world.proofs.StartedWorlds.{crashed-all, crashed-more, crashed-none}
use Rattle.world.proofs.world_drains.crash_all.Goals as goal

-- none has crashed yet
pub loop-number-init : goal.loop-number-init
loop-number-init c = crashed-none c.args.nodes.now c.requires.all c.requires.numbered

-- one more has
pub loop-number-preserved : goal.loop-number-preserved
loop-number-preserved c =
    let nodes = c.loop-number.nodes in
    let number = c.loop-number.number in
    let all = c.loop-number.invariant.all in
    crashed-more number nodes (get_or nodes number c.index-nodes-number.result) c.crash.new.self c.loop-number.invariant (omega arith)
    (slice_get-get_or nodes number c.index-nodes-number.result (omega (arith, all))) c.crash.ensures.number c.crash.ensures.idle
    c.crash.ensures.fits

-- all have
pub returns : goal.returns
returns c =
    let last : c.loop-number.number ≡ 16 = omega arith in
    record { new = crashed-all c.loop-number.nodes (subst (λ count. AreNewTo count c.loop-number.nodes) last c.loop-number.invariant) }
