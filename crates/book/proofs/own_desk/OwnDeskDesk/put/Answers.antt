use Rattle.std.proofs.Common.{◌≡◌, length, ap, ◌∙◌, subst, sym}
use Rattle.book.specs.Answers.{answer_of}
use Rattle.book.specs.DeskReasons.{HasReason}
use Rattle.book.specs.OwnDesks.{own_view}
use Rattle.book.specs.declared.desk_refusal.DeskRefusal.{DeskRefusal}
use Rattle.book.proofs.OwnLaws.{looked, marks-stay, may-put, may-use, put-of, row-seen}
use Rattle.book.proofs.OwnReasons.{reason}
use Rattle.book.proofs.own_desk.OwnDeskDesk.put.Goals as goal

-- all of the history was seen
pub put-requires : goal.put-requires
put-requires g c =
    let book = c.args.self.now.book.now in
    let whole : c.len-front.result ≡ length book.history = c.len-front.ensures.count ∙ ap length c.history.ensures.history in record {
      lease = may-use book c.args.lease.now c.len-front.result c.args.name.now whole c.requires.lease;
      row = row-seen book c.args.lease.now c.len-front.result c.args.name.now c.args.row.now whole c.requires.row;
      may = may-put book c.len-front.result c.args.lease.now c.args.name.now c.args.row.now c.args.writing whole c.history.ensures.lawful
          c.sound.ensures.under_low c.requires.row c.requires.may;
    }

-- the entry was appended
pub returns-in-Ok-clause-put : goal.returns-in-Ok-clause-put
returns-in-Ok-clause-put g c =
    put-of c.args.self.now.book.now c.put.new.self c.args.lease.now c.args.name.now c.args.writing c.args.row.now
    (answer_of c.in-Ok.commit c.put.new.row) c.in-Ok.ensures.same c.in-Ok.ensures.keeper_fault.later c.in-Ok.ensures.found c.in-Ok.ensures.put

-- no mark changes
pub returns-in-Ok-clause-marks : goal.returns-in-Ok-clause-marks
returns-in-Ok-clause-marks g c = marks-stay c.args.self.now.book.now c.put.new.self c.in-Ok.ensures.same

-- the history has stayed
pub returns-in-Err-clause-looked : goal.returns-in-Err-clause-looked
returns-in-Err-clause-looked g c = looked c.args.self.now.book.now c.put.new.self c.in-Err.ensures.unchanged c.in-Err.ensures.same
    c.in-Err.ensures.keeper_fault.later

-- the refusal is the book's
pub returns-in-Err-clause-reason : goal.returns-in-Err-clause-reason
returns-in-Err-clause-reason g c =
    subst (λ (why : DeskRefusal). HasReason (own_view c.args.self.now.book.now) (own_view c.put.new.self) c.args.lease.now why)
    (sym c.of_write.ensures)
    (reason c.args.self.now.book.now c.put.new.self c.args.lease.now c.in-Err.why c.in-Err.ensures.unchanged c.in-Err.ensures.same
    c.in-Err.ensures.keeper_fault c.in-Err.ensures.stale c.in-Err.ensures.full)

-- no mark changes
pub returns-in-Err-clause-marks : goal.returns-in-Err-clause-marks
returns-in-Err-clause-marks g c = marks-stay c.args.self.now.book.now c.put.new.self c.in-Err.ensures.same
