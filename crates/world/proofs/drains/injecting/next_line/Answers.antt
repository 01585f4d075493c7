use Rattle.std.proofs.Common.{◌∙◌, ◌+◌, ap, subst, sym}
use Rattle.world.specs.drains.Turns.{IsBestLine, lesser_line, worker_of}
use Rattle.world.proofs.drains.InjectLaws.{best-more}
use Rattle.world.proofs.drains.injecting.next_line.Goals as goal

-- an injector more
pub loop-part-preserved : goal.loop-part-preserved
loop-part-preserved c =
    let worker = worker_of c.args.held.now in
    subst (IsBestLine c.args.case.now worker (c.loop-part.part + 1))
    (sym (c.lesser-best.ensures ∙ ap (lesser_line c.loop-part.best) c.line.ensures))
    (best-more c.args.case.now worker c.loop-part.part c.loop-part.best c.loop-part.invariant)
