use Rattle.std.proofs.Common.{◌∙◌, ap, arith, sym}
use Rattle.list_lemmas.proofs.Told.{on_ok-map}
use Rattle.book.specs.Desks.{DeskView, Home}
use Rattle.shared_book.specs.SharedDesks.{shared_view}
use Rattle.shared_book.proofs.DeskFacts.{one-table}
use Rattle.workers.specs.Serving.{lines_each}
use Rattle.workers.proofs.LineLaws.{injected-behind, injected-exactly}
use Rattle.workers.proofs.Serving.{faults-after, served-lines}
use Rattle.workers.proofs.slicing.slice.Goals as goal

pub learn-requires : goal.learn-requires
learn-requires g c = record { case = c.requires.fits.of_case }

-- the worker fits its desk still
pub within-done-requires-clause-fits : goal.within-done-requires-clause-fits
within-done-requires-clause-fits g c = (c.learn.ensures.served c.args.node.now c.requires.fits).fits

-- which is of the office's book
pub within-done-requires-clause-book : goal.within-done-requires-clause-book
within-done-requires-clause-book g c = ap (λ (h : Home). h.book) c.learn.ensures.home ∙ c.requires.book

-- what was done between the two points is all that was done
pub returns : goal.returns
returns g c =
    let new : DeskView = shared_view c.within-done.new.desk.seat.now.place.me.0 in
    let learnt = c.learn.ensures.served c.args.node.now c.requires.fits in
    let all = served-lines (lines_each 16) 0 6000 6000 (omega arith) (λ part. omega arith) learnt c.within-done.ensures.served in
    let home = c.within-done.ensures.home ∙ c.learn.ensures.home in record {
      fits = all.fits;
      number = all.number;
      worked = all.worked;
      kept = all.kept;
      injected = on_ok-map c.within-done.result (λ injects stall. injected-exactly c.sound.ensures.sound c.sound-2.ensures.sound
          c.requires.fits all (injected-behind learnt c.within-done.ensures.served (injects stall))) c.within-done.ensures.injected;
      fault = faults-after new c.within-done.result learnt.worked c.within-done.ensures.fault;
      passes = c.within-done.ensures.passes;
      loan = c.within-done.ensures.loan ∙ c.learn.ensures.loan;
      home = home;
      table = sym c.within-done.new.desk.table ∙ one-table c.within-done.new.desk.seat.now.place.table_id
          c.args.desk.now.seat.now.place.table_id (ap (λ (h : Home). h.book) home) ∙ c.args.desk.now.table;
      case = sym c.within-done.new.desk.case ∙ all.worked.case ∙ c.args.desk.now.case;
    }
