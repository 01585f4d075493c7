use Rattle.std.proofs.Common.{◌∙◌, [], ap, arith}
use Rattle.run_history.specs.Runs.{run_of}
use Rattle.run_history.specs.Watermarks.{least}
use Rattle.audit.proofs.WorkLaws.{any-default, work-oldest}
use Rattle.audit.proofs.firing.oldest.Goals as goal

pub returns : goal.returns
returns c =
    let works = c.args.kept.now.works.items in
    let many = c.requires.kept.works.many in
    c.least.ensures.least
    ∙ ap least (c.index.ensures ∙ any-default works c.args.part c.index.result.now [] (omega (arith, c.requires.part, many)))
    ∙ work-oldest c.args.case.now.topology (run_of c.args.case.now.topology c.args.history.now) works c.args.part c.requires.kept.works
    c.requires.part
