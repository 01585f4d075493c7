use Rattle.std.proofs.Common.{◌≡◌, length, ap, ◌∙◌}
use Rattle.book.proofs.OwnLaws.{seen-all, own-work}
use Rattle.book.proofs.OwnReasons.{is-reported, marked, report-answer, report-reason, report-rise}
use Rattle.book.specs.Marks.{with_mark}
use Rattle.book.proofs.own_desk.OwnDeskDesk.report.Goals as goal

-- all of the history was seen
pub report-requires : goal.report-requires
report-requires g c =
    let book = c.args.self.now.book.now in
    let whole : c.len-front.result ≡ length book.history = c.len-front.ensures.count ∙ ap length c.history.ensures.history in record {
      lease = seen-all book c.args.lease.now c.len-front.result whole c.requires.lease;
      own = own-work book c.args.lease.now c.len-front.result c.args.own whole c.requires.own;
    }

-- the answer is the interval's mark
pub returns-in-Ok-clause-answer : goal.returns-in-Ok-clause-answer
returns-in-Ok-clause-answer g c = report-answer c.args.self.now.book.now c.report.new.self c.args.lease.now c.in-Ok.mark
    c.history.ensures.lawful c.in-Ok.ensures.last c.in-Ok.ensures.raised

-- no mark falls
pub returns-in-Ok-clause-rise : goal.returns-in-Ok-clause-rise
returns-in-Ok-clause-rise g c = report-rise c.args.self.now.book.now c.report.new.self c.args.lease.now c.args.own c.in-Ok.mark
    c.history.ensures.lawful c.in-Ok.ensures.last c.in-Ok.ensures.answer c.in-Ok.ensures.raised

-- no more than a mark has changed
pub returns-in-Ok-clause-looked : goal.returns-in-Ok-clause-looked
returns-in-Ok-clause-looked g c = marked c.args.self.now.book.now c.report.new.self
    (with_mark c.args.lease.now.interval c.in-Ok.mark c.args.self.now.book.now.marks) c.in-Ok.ensures.raised

-- the mark is set as the book does
pub returns-in-Ok-clause-raised : goal.returns-in-Ok-clause-raised
returns-in-Ok-clause-raised g c alone = is-reported c.args.self.now.book.now c.report.new.self c.args.lease.now c.args.own c.in-Ok.mark
    c.in-Ok.ensures.last c.in-Ok.ensures.answer c.in-Ok.ensures.raised

-- nothing has changed
pub returns-in-Err-clause-looked : goal.returns-in-Err-clause-looked
returns-in-Err-clause-looked g c = marked c.args.self.now.book.now c.report.new.self c.args.self.now.book.now.marks
    c.in-Err.ensures.unchanged

-- the refusal is the book's
pub returns-in-Err-clause-reason : goal.returns-in-Err-clause-reason
returns-in-Err-clause-reason g c = report-reason c.args.self.now.book.now c.report.new.self c.args.lease.now c.in-Err.why
    c.in-Err.ensures.unchanged c.in-Err.ensures.stale
