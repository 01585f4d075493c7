use Rattle.std.specs.Prelude.{slice_index_or}
use Rattle.std.proofs.Common.{◌∙◌, ap, arith, length}
use Rattle.book.specs.Desks.{DeskView}
use Rattle.node.specs.Workers.{NodeView}
use Rattle.workers.specs.Crews.{IsWorker}
use Rattle.workers.proofs.Doing.{is-itself, all-there, done-set, healthy-set, healthy-there, keeps-set, stall-few, workers-set}
use Rattle.workers.proofs.Sitting.{desk-same, stepped-same, worker-still}
use Rattle.workers.proofs.acting.ask.Goals as goal

pub returns-clause-workers : goal.returns-clause-workers
returns-clause-workers g c =
    let id = c.args.shared.now.table.shared.table_id in
    let case = c.args.case.now in
    let crew = c.args.crew.now in
    let was = slice_index_or c.args.crew.now c.args.at c.index-crew-at.result in
    let now = c.order.new.self in
    let o = c.order.ensures in
    workers-set id case crew c.args.at was now c.requires.at (is-itself c.args.crew.now c.args.at c.index-crew-at.result c.requires.at) (ap (λ (n : NodeView). n.number) o.node)
    (worker-still id case was now o.seat o.node o.fault
    (all-there (IsWorker id case) crew c.args.at was c.requires.at (is-itself c.args.crew.now c.args.at c.index-crew-at.result c.requires.at) c.requires.workers.each)) c.requires.workers

-- it may stall now, and then all that it holds is to be claimed
pub returns-clause-done : goal.returns-clause-done
returns-clause-done g c =
    let was = slice_index_or c.args.crew.now c.args.at c.index-crew-at.result in
    let now = c.order.new.self in
    let o = c.order.ensures in
    let own = ap (λ (d : DeskView). length d.own) (desk-same was now o.seat) in
    let stall = stall-few now.orders.stall in
    done-set 61 c.args.crew.now c.args.at was now c.requires.at (is-itself c.args.crew.now c.args.at c.index-crew-at.result c.requires.at)
    (stepped-same was now o.seat (ap (λ (n : NodeView). n.number) o.node)) (omega (arith, own, stall))

pub returns-clause-passes : goal.returns-clause-passes
returns-clause-passes g c = keeps-set (λ w. w.passes) c.args.crew.now c.args.at (slice_index_or c.args.crew.now c.args.at c.index-crew-at.result) c.order.new.self c.requires.at
    (is-itself c.args.crew.now c.args.at c.index-crew-at.result c.requires.at) c.order.ensures.passes

pub returns-clause-healthy : goal.returns-clause-healthy
returns-clause-healthy g c healthy = healthy-set c.args.crew.now c.args.at c.order.new.self c.requires.at healthy
    (c.order.ensures.fault
    ∙ healthy-there c.args.crew.now c.args.at (slice_index_or c.args.crew.now c.args.at c.index-crew-at.result) c.requires.at (is-itself c.args.crew.now c.args.at c.index-crew-at.result c.requires.at) healthy)
