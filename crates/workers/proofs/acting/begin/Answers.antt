use Rattle.std.specs.Prelude.{slice_index_or}
use Rattle.std.proofs.Common.{◌≡◌, ◌∙◌, ap, arith, false, length}
use Rattle.book.specs.Desks.{DeskView}
use Rattle.node.specs.Workers.{NodeView}
use Rattle.workers.specs.Crews.{IsWorker, stall_of}
use Rattle.workers.proofs.Doing.{is-itself, all-there, done-set, healthy-set, healthy-there, keeps-set, spent-set, workers-set}
use Rattle.workers.proofs.Sitting.{desk-same, stepped-same, worker-still}
use Rattle.workers.proofs.Unmoved.{calm-set}
use Rattle.workers.proofs.acting.begin.Goals as goal

pub returns-clause-workers : goal.returns-clause-workers
returns-clause-workers g c =
    let id = c.args.shared.now.table.shared.table_id in
    let case = c.args.case.now in
    let crew = c.args.crew.now in
    let was = slice_index_or c.args.crew.now c.args.at c.index-crew-at.result in
    let now = c.begin.new.self in
    let b = c.begin.ensures in
    workers-set id case crew c.args.at was now c.requires.at (is-itself c.args.crew.now c.args.at c.index-crew-at.result c.requires.at) (ap (λ (n : NodeView). n.number) b.node)
    (worker-still id case was now b.seat b.node b.fault
    (all-there (IsWorker id case) crew c.args.at was c.requires.at (is-itself c.args.crew.now c.args.at c.index-crew-at.result c.requires.at) c.requires.workers.each)) c.requires.workers

pub returns-clause-done : goal.returns-clause-done
returns-clause-done g c =
    let was = slice_index_or c.args.crew.now c.args.at c.index-crew-at.result in
    let now = c.begin.new.self in
    let b = c.begin.ensures in
    let own = ap (λ (d : DeskView). length d.own) (desk-same was now b.seat) in
    let stall = ap stall_of b.calm in
    done-set 0 c.args.crew.now c.args.at was now c.requires.at (is-itself c.args.crew.now c.args.at c.index-crew-at.result c.requires.at)
    (stepped-same was now b.seat (ap (λ (n : NodeView). n.number) b.node)) (omega (arith, own, stall))

pub returns-clause-passes : goal.returns-clause-passes
returns-clause-passes g c = keeps-set (λ w. w.passes) c.args.crew.now c.args.at (slice_index_or c.args.crew.now c.args.at c.index-crew-at.result) c.begin.new.self c.requires.at
    (is-itself c.args.crew.now c.args.at c.index-crew-at.result c.requires.at) c.begin.ensures.passes

pub returns-clause-healthy : goal.returns-clause-healthy
returns-clause-healthy g c healthy = healthy-set c.args.crew.now c.args.at c.begin.new.self c.requires.at healthy
    (c.begin.ensures.fault
    ∙ healthy-there c.args.crew.now c.args.at (slice_index_or c.args.crew.now c.args.at c.index-crew-at.result) c.requires.at (is-itself c.args.crew.now c.args.at c.index-crew-at.result c.requires.at) healthy)

-- what it was to spend where it stalled may be spent now
pub returns-clause-settled : goal.returns-clause-settled
returns-clause-settled g c =
    let was = slice_index_or c.args.crew.now c.args.at c.index-crew-at.result in
    let now = c.begin.new.self in
    let b = c.begin.ensures in
    let total = spent-set c.args.crew.now c.args.at was now c.requires.at (is-itself c.args.crew.now c.args.at c.index-crew-at.result c.requires.at) in
    let own = ap (λ (d : DeskView). length d.own) (desk-same was now b.seat) in
    let stall = ap stall_of b.calm in
    let asked = ap stall_of b.stalled in
    omega (arith, total, own, stall, asked)

pub returns-clause-stalls : goal.returns-clause-stalls
returns-clause-stalls g c calm = c.begin.ensures.stalled
    ∙ all-there (λ w. w.orders.stall ≡ false) c.args.crew.now c.args.at (slice_index_or c.args.crew.now c.args.at c.index-crew-at.result) c.requires.at (is-itself c.args.crew.now c.args.at c.index-crew-at.result c.requires.at) calm

pub returns-clause-calm : goal.returns-clause-calm
returns-clause-calm g c calm =
    let b = c.begin.ensures in
    calm-set c.args.crew.now c.args.at (slice_index_or c.args.crew.now c.args.at c.index-crew-at.result) c.begin.new.self c.requires.at (is-itself c.args.crew.now c.args.at c.index-crew-at.result c.requires.at) b.seat b.node b.calm calm
