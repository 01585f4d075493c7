use Rattle.std.specs.Prelude.{slice_index_or}
use Rattle.std.proofs.Common.{◌∙◌, ap, arith, length}
use Rattle.book.specs.Desks.{DeskView}
use Rattle.workers.specs.declared.orders.Orders.{Orders}
use Rattle.workers.specs.Crews.{IsWorker, stall_of}
use Rattle.workers.proofs.Doing.{is-itself, all-there, done-set, healthy-set, healthy-there, keeps-set, workers-set}
use Rattle.workers.proofs.Sitting.{desk-same, stepped-same, worker-same}
use Rattle.workers.proofs.acting.crash_one.Goals as goal

pub crash-requires : goal.crash-requires
crash-requires g c =
    let id = c.args.shared.now.table.shared.table_id in
    record {
      case = (all-there (IsWorker id c.args.case.now) c.args.crew.now c.args.at
          (slice_index_or c.args.crew.now c.args.at c.index-crew-at.result) c.requires.at
          (is-itself c.args.crew.now c.args.at c.index-crew-at.result c.requires.at) c.requires.workers.each).fits.of_case;
    }

pub returns-clause-workers : goal.returns-clause-workers
returns-clause-workers g c =
    let id = c.args.shared.now.table.shared.table_id in
    let case = c.args.case.now in
    let crew = c.args.crew.now in
    let was = slice_index_or c.args.crew.now c.args.at c.index-crew-at.result in
    let now = c.crash.new.self in
    let k = c.crash.ensures in
    workers-set id case crew c.args.at was now c.requires.at (is-itself c.args.crew.now c.args.at c.index-crew-at.result c.requires.at) k.number
    (worker-same id case was now k.seat k.number k.fits k.fault
    (all-there (IsWorker id case) crew c.args.at was c.requires.at (is-itself c.args.crew.now c.args.at c.index-crew-at.result c.requires.at) c.requires.workers.each)) c.requires.workers

pub returns-clause-done : goal.returns-clause-done
returns-clause-done g c =
    let was = slice_index_or c.args.crew.now c.args.at c.index-crew-at.result in
    let now = c.crash.new.self in
    let k = c.crash.ensures in
    let own = ap (λ (d : DeskView). length d.own) (desk-same was now k.seat) in
    let stall = ap (λ (o : Orders). stall_of o.stall) k.orders in
    done-set 0 c.args.crew.now c.args.at was now c.requires.at (is-itself c.args.crew.now c.args.at c.index-crew-at.result c.requires.at) (stepped-same was now k.seat k.number)
    (omega (arith, own, stall))

pub returns-clause-passes : goal.returns-clause-passes
returns-clause-passes g c = keeps-set (λ w. w.passes) c.args.crew.now c.args.at (slice_index_or c.args.crew.now c.args.at c.index-crew-at.result) c.crash.new.self c.requires.at
    (is-itself c.args.crew.now c.args.at c.index-crew-at.result c.requires.at) c.crash.ensures.passes

pub returns-clause-orders : goal.returns-clause-orders
returns-clause-orders g c = keeps-set (λ w. w.orders) c.args.crew.now c.args.at (slice_index_or c.args.crew.now c.args.at c.index-crew-at.result) c.crash.new.self c.requires.at
    (is-itself c.args.crew.now c.args.at c.index-crew-at.result c.requires.at) c.crash.ensures.orders

pub returns-clause-healthy : goal.returns-clause-healthy
returns-clause-healthy g c healthy = healthy-set c.args.crew.now c.args.at c.crash.new.self c.requires.at healthy
    (c.crash.ensures.fault
    ∙ healthy-there c.args.crew.now c.args.at (slice_index_or c.args.crew.now c.args.at c.index-crew-at.result) c.requires.at (is-itself c.args.crew.now c.args.at c.index-crew-at.result c.requires.at) healthy)
