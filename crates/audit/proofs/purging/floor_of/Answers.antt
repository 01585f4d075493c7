use Rattle.std.proofs.Common.{◌∙◌, refl}
use Rattle.run_history.specs.Runs.{run_of}
use Rattle.book.proofs.SenderFloors.{floor-least, floor-none, least-first, none-pending}
use Rattle.audit.proofs.purging.floor_of.Goals as goal

-- the number of the least that is pending is the floor
pub returns-in-Some : goal.returns-in-Some
returns-in-Some c =
    let shape = c.args.case.now.topology in
    let history = c.args.history.now in
    floor-least shape history c.in-Some.id c.in-Some.field-0-1.now
    (least-first shape (run_of shape history) c.args.kept.now.pending.entries c.in-Some.id c.in-Some.field-0-1.now c.requires.senders
    c.in-Some.ensures.sender c.in-Some.ensures.least)

-- so is the next number where nothing is pending
pub returns-in-None : goal.returns-in-None
returns-in-None c =
    let shape = c.args.case.now.topology in
    let history = c.args.history.now in
    c.len.ensures.count
    ∙ floor-none shape history ((none-pending shape history c.args.kept.now.pending.entries c.requires.senders).0
    (c.in-None.ensures.none.0 refl))
