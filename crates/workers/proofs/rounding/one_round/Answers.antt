use Rattle.workers.proofs.CrewTurns.{done-round, passes-round, workers-round}
use Rattle.workers.proofs.rounding.one_round.Goals as goal

pub returns : goal.returns
returns g c =
    let id = c.args.shared.now.table.shared.table_id in
    let case = c.args.case.now in
    let old = c.args.crew.now in
    let new = c.each_works.new.crew in
    let worked = c.each_works.ensures.worked in
    record {
      workers = workers-round id case c.args.boxes.now old new worked c.requires.workers;
      done = done-round id case c.args.boxes.now old new worked;
      orders = λ at d below. (worked.each at d below).orders;
      worked = worked;
      passes = passes-round id case c.args.boxes.now old new worked;
    }
