use Rattle.std.proofs.Common.{◌∙◌, length, ap, take}
use Rattle.run_history.specs.Cases.{CaseShape, intervals_of}
use Rattle.run_history.specs.Watermarks.{least}
use Rattle.watermark.specs.Marks.{feeding_marks}
use Rattle.shared_book.proofs.Filling.{feeding-front}
use Rattle.shared_book.proofs.settling.least_input.Goals as goal

pub returns : goal.returns
returns g c =
    let shape = c.args.book.now.case.topology in
    c.inputs.ensures.least
    ∙ ap (λ (k : CaseShape). least (feeding_marks k.topology c.args.interval (take c.interval_count-count.result c.args.marks.now))) c.case-case.ensures.case
    ∙ ap least (feeding-front shape c.args.interval c.interval_count-count.result c.args.marks.now
    (c.interval_count-count.ensures.all
    ∙ ap (λ (k : CaseShape). length (intervals_of k.topology)) c.case-case.ensures.case))
