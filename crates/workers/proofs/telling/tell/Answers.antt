use Rattle.std.proofs.Common.{◌∙◌, List, arith, ap, length, subst}
use Rattle.run_history.specs.Fences.{Begins}
use Rattle.mw_types.specs.declared.entry.Entry.{Entry}
use Rattle.std.specs.Prelude.{slice_index_or, slice_set}
use Rattle.std.proofs.lemmas.List.{length-set}
use Rattle.node.specs.Workers.{NodeView}
use Rattle.book.specs.Desks.{DeskView}
use Rattle.workers.specs.declared.orders.Orders.{Orders}
use Rattle.workers.specs.Crews.{IsWorker, desk_of, stall_of}
use Rattle.workers.proofs.Doing.{is-itself, all-set, all-there, done-set, done-then, healthy-set, healthy-there, keeps-set, keeps-then, workers-set}
use Rattle.workers.proofs.Going.{gone-same}
use Rattle.workers.proofs.TellLaws.{told-set}
use Rattle.workers.proofs.telling.tell.Goals as goal

-- the worker that is told is at its seat
pub meet-requires-clause-worker : goal.meet-requires-clause-worker
meet-requires-clause-worker g c =
    let id = c.args.shared.now.table.shared.table_id in
    let mid = slice_set c.args.crew.now c.args.from c.note-note.new.self in
    let long = length-set c.args.crew.now c.args.from c.note-note.new.self in
    let to = c.requires.to in
    all-there (IsWorker id c.args.case.now) mid c.args.to (slice_index_or mid c.args.to c.index-crew-to.result) (omega (arith, long, to)) (is-itself mid c.args.to c.index-crew-to.result (omega (arith, long, to)))
    (all-set (IsWorker id c.args.case.now) c.args.crew.now c.args.from c.note-note.new.self c.requires.from c.requires.workers.each
    c.note-note.ensures.worker)

-- and has no fault
pub meet-requires-clause-none : goal.meet-requires-clause-none
meet-requires-clause-none g c =
    let mid = slice_set c.args.crew.now c.args.from c.note-note.new.self in
    let long = length-set c.args.crew.now c.args.from c.note-note.new.self in
    let to = c.requires.to in
    healthy-there mid c.args.to (slice_index_or mid c.args.to c.index-crew-to.result) (omega (arith, long, to)) (is-itself mid c.args.to c.index-crew-to.result (omega (arith, long, to)))
    (healthy-set c.args.crew.now c.args.from c.note-note.new.self c.requires.from c.requires.healthy
    (c.note-note.ensures.fault
    ∙ healthy-there c.args.crew.now c.args.from (slice_index_or c.args.crew.now c.args.from c.index-crew-from.result) c.requires.from (is-itself c.args.crew.now c.args.from c.index-crew-from.result c.requires.from) c.requires.healthy))

pub returns-clause-workers : goal.returns-clause-workers
returns-clause-workers g c =
    let id = c.args.shared.now.table.shared.table_id in
    let case = c.args.case.now in
    let mid = slice_set c.args.crew.now c.args.from c.note-note.new.self in
    let long = length-set c.args.crew.now c.args.from c.note-note.new.self in
    let to = c.requires.to in
    workers-set id case mid c.args.to (slice_index_or mid c.args.to c.index-crew-to.result) c.meet.new.self (omega (arith, long, to)) (is-itself mid c.args.to c.index-crew-to.result (omega (arith, long, to)))
    c.meet.ensures.stepped.number c.meet.ensures.worker
    (workers-set id case c.args.crew.now c.args.from (slice_index_or c.args.crew.now c.args.from c.index-crew-from.result) c.note-note.new.self c.requires.from (is-itself c.args.crew.now c.args.from c.index-crew-from.result c.requires.from)
    (ap (λ (n : NodeView). n.number) c.note-note.ensures.number) c.note-note.ensures.worker c.requires.workers)

-- nobody appended anything
pub returns-clause-done : goal.returns-clause-done
returns-clause-done g c =
    let mid = slice_set c.args.crew.now c.args.from c.note-note.new.self in
    let long = length-set c.args.crew.now c.args.from c.note-note.new.self in
    let to = c.requires.to in
    let n = c.note-note.ensures in
    let m = c.meet.ensures in
    let own = ap (λ (d : DeskView). length d.own) n.same in
    let stall = ap (λ (o : Orders). stall_of o.stall) n.orders in
    let met = ap length m.own in
    let met_stall = ap (λ (o : Orders). stall_of o.stall) m.orders in
    done-then 0 0 0 c.args.crew.now mid (slice_set mid c.args.to c.meet.new.self) (omega arith)
    (done-set 0 c.args.crew.now c.args.from (slice_index_or c.args.crew.now c.args.from c.index-crew-from.result) c.note-note.new.self c.requires.from (is-itself c.args.crew.now c.args.from c.index-crew-from.result c.requires.from)
    (record {
      most = 0;
      went_on = gone-same (desk_of (slice_index_or c.args.crew.now c.args.from c.index-crew-from.result)) (desk_of c.note-note.new.self) n.same;
      number = ap (λ (v : NodeView). v.number) n.number;
    }) (omega (arith, own, stall)))
    (done-set 0 mid c.args.to (slice_index_or mid c.args.to c.index-crew-to.result) c.meet.new.self (omega (arith, long, to)) (is-itself mid c.args.to c.index-crew-to.result (omega (arith, long, to)))
    m.stepped (omega (arith, met, met_stall)))

pub returns-clause-passes : goal.returns-clause-passes
returns-clause-passes g c =
    let mid = slice_set c.args.crew.now c.args.from c.note-note.new.self in
    let long = length-set c.args.crew.now c.args.from c.note-note.new.self in
    let to = c.requires.to in
    let n = c.note-note.ensures in
    let m = c.meet.ensures in
    keeps-then (λ w. w.passes) c.args.crew.now mid (slice_set mid c.args.to c.meet.new.self) long
    (keeps-set (λ w. w.passes) c.args.crew.now c.args.from (slice_index_or c.args.crew.now c.args.from c.index-crew-from.result) c.note-note.new.self c.requires.from
    (is-itself c.args.crew.now c.args.from c.index-crew-from.result c.requires.from) n.passes)
    (keeps-set (λ w. w.passes) mid c.args.to (slice_index_or mid c.args.to c.index-crew-to.result) c.meet.new.self (omega (arith, long, to)) (is-itself mid c.args.to c.index-crew-to.result (omega (arith, long, to))) m.passes)

pub returns-clause-orders : goal.returns-clause-orders
returns-clause-orders g c =
    let mid = slice_set c.args.crew.now c.args.from c.note-note.new.self in
    let long = length-set c.args.crew.now c.args.from c.note-note.new.self in
    let to = c.requires.to in
    let n = c.note-note.ensures in
    let m = c.meet.ensures in
    keeps-then (λ w. w.orders) c.args.crew.now mid (slice_set mid c.args.to c.meet.new.self) long
    (keeps-set (λ w. w.orders) c.args.crew.now c.args.from (slice_index_or c.args.crew.now c.args.from c.index-crew-from.result) c.note-note.new.self c.requires.from
    (is-itself c.args.crew.now c.args.from c.index-crew-from.result c.requires.from) n.orders)
    (keeps-set (λ w. w.orders) mid c.args.to (slice_index_or mid c.args.to c.index-crew-to.result) c.meet.new.self (omega (arith, long, to)) (is-itself mid c.args.to c.index-crew-to.result (omega (arith, long, to))) m.orders)

pub returns-clause-nodes : goal.returns-clause-nodes
returns-clause-nodes g c =
    let mid = slice_set c.args.crew.now c.args.from c.note-note.new.self in
    let long = length-set c.args.crew.now c.args.from c.note-note.new.self in
    let to = c.requires.to in
    let n = c.note-note.ensures in
    let m = c.meet.ensures in
    keeps-then (λ w. w.node) c.args.crew.now mid (slice_set mid c.args.to c.meet.new.self) long
    (keeps-set (λ w. w.node) c.args.crew.now c.args.from (slice_index_or c.args.crew.now c.args.from c.index-crew-from.result) c.note-note.new.self c.requires.from
    (is-itself c.args.crew.now c.args.from c.index-crew-from.result c.requires.from) n.number)
    (keeps-set (λ w. w.node) mid c.args.to (slice_index_or mid c.args.to c.index-crew-to.result) c.meet.new.self (omega (arith, long, to)) (is-itself mid c.args.to c.index-crew-to.result (omega (arith, long, to))) m.node)

pub returns-clause-own : goal.returns-clause-own
returns-clause-own g c =
    let mid = slice_set c.args.crew.now c.args.from c.note-note.new.self in
    let long = length-set c.args.crew.now c.args.from c.note-note.new.self in
    let to = c.requires.to in
    let n = c.note-note.ensures in
    let m = c.meet.ensures in
    keeps-then (λ w. (desk_of w).own) c.args.crew.now mid (slice_set mid c.args.to c.meet.new.self) long
    (keeps-set (λ w. (desk_of w).own) c.args.crew.now c.args.from (slice_index_or c.args.crew.now c.args.from c.index-crew-from.result) c.note-note.new.self c.requires.from
    (is-itself c.args.crew.now c.args.from c.index-crew-from.result c.requires.from) (ap (λ (d : DeskView). d.own) n.same))
    (keeps-set (λ w. (desk_of w).own) mid c.args.to (slice_index_or mid c.args.to c.index-crew-to.result) c.meet.new.self (omega (arith, long, to)) (is-itself mid c.args.to c.index-crew-to.result (omega (arith, long, to))) m.own)

pub returns-clause-healthy : goal.returns-clause-healthy
returns-clause-healthy g c =
    let mid = slice_set c.args.crew.now c.args.from c.note-note.new.self in
    let long = length-set c.args.crew.now c.args.from c.note-note.new.self in
    let to = c.requires.to in
    healthy-set mid c.args.to c.meet.new.self (omega (arith, long, to))
    (healthy-set c.args.crew.now c.args.from c.note-note.new.self c.requires.from c.requires.healthy
    (c.note-note.ensures.fault
    ∙ healthy-there c.args.crew.now c.args.from (slice_index_or c.args.crew.now c.args.from c.index-crew-from.result) c.requires.from (is-itself c.args.crew.now c.args.from c.index-crew-from.result c.requires.from) c.requires.healthy))
    c.meet.ensures.fault

-- what the note told was seen
pub returns-clause-met : goal.returns-clause-met
returns-clause-met g c =
    let mid = slice_set c.args.crew.now c.args.from c.note-note.new.self in
    let long = length-set c.args.crew.now c.args.from c.note-note.new.self in
    let to = c.requires.to in
    told-set c.args.crew.now mid c.args.from c.args.to (slice_index_or c.args.crew.now c.args.from c.index-crew-from.result) c.meet.new.self c.requires.from (is-itself c.args.crew.now c.args.from c.index-crew-from.result c.requires.from)
    (omega (arith, long, to))
    (subst (λ (h : List Entry). Begins h (desk_of c.meet.new.self).seen) c.note-note.ensures.note c.meet.ensures.met)
