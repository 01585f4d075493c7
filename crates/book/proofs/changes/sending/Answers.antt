use Rattle.book.proofs.Changing.{may-send}
use Rattle.book.proofs.changes.sending.Goals as goal

-- what is sent comes behind what is pending
pub returns-in-Ok-clause-may : goal.returns-in-Ok-clause-may
returns-in-Ok-clause-may c =
    may-send c.args.case.now c.args.commit c.args.name.now c.args.row.now _ c.args.made.now c.args.late c.sound.ensures.pending
    c.requires.fit c.requires.commit c.sent.ensures.rules c.requires.own c.requires.id c.requires.new c.requires.few c.requires.stamps
    c.in-Ok.ensures.made
