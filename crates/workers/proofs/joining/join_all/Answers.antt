use Rattle.std.proofs.Common.{◌≡◌, ◌∙◌, ◌∷◌, List, [], length, refl, ap, subst, sym, arith}
use Rattle.std.specs.Prelude.{IsSome, Option}
use Rattle.run_history.specs.Cases.{CaseShape}
use Rattle.run_history.specs.Fences.{Begins}
use Rattle.node.specs.declared.outcome.NodeFault.{NodeFault}
use Rattle.shared_book.specs.Joins.{joined}
use Rattle.shared_book.specs.Turns.{IsHere, IsIdle}
use Rattle.shared_book.specs.Steps.{SeatView}
use Rattle.shared_book.specs.declared.seats.Seat.{Seat}
use Rattle.workers.proofs.Joined.{joined-all, joined-more, joined-not, joined-worker}
use Rattle.workers.proofs.joining.join_all.Goals as goal

none-left : {W : Type 0} (xs : List W) → length xs ≡ 0 → xs ≡ []
none-left [] none = refl
none-left (x ∷ xs) none = absurd (omega (arith, none))

pub loop-worker-init : goal.loop-worker-init
loop-worker-init g c = record {
  seated = c.requires.seated;
  joined = joined-not c.args.crew.items c.args.seat.now.place.me.0;
}

-- the worker is at its seat
pub join-requires-clause-other : goal.join-requires-clause-other
join-requires-clause-other g c =
    let id = c.args.shared.now.table.shared.table_id in
    let mine = joined-worker id c.args.case.now c.args.crew.items c.loop-worker.crew.items c.pop.new.self.items c.in-Some.worker
    c.args.seat.now.place.me.0 c.loop-worker.seat.place.me.0 c.loop-worker.first c.in-Some.ensures.items c.requires.workers
    c.loop-worker.invariant.joined in
    subst (λ (s : CaseShape). IsHere id s c.leave-other.result.0.place) (sym c.requires.case)
    (subst (λ (s : Seat g.row.K.Denot g.K.Keeper). IsHere id c.args.case.now s.place) (sym c.leave-other.ensures.seat) mine.seated.here)

pub join-requires-clause-other_idle : goal.join-requires-clause-other_idle
join-requires-clause-other_idle g c =
    let mine = joined-worker c.args.shared.now.table.shared.table_id c.args.case.now c.args.crew.items c.loop-worker.crew.items
    c.pop.new.self.items c.in-Some.worker c.args.seat.now.place.me.0 c.loop-worker.seat.place.me.0 c.loop-worker.first
    c.in-Some.ensures.items c.requires.workers c.loop-worker.invariant.joined in
    subst (λ (s : Seat g.row.K.Denot g.K.Keeper). IsIdle s.place.me) (sym c.leave-other.ensures.seat) mine.seated.idle

-- and is taken in
pub loop-worker-preserved : goal.loop-worker-preserved
loop-worker-preserved g c =
    let id = c.args.shared.now.table.shared.table_id in
    let new = c.join.new.seat.place.me.0 in
    let mid = c.loop-worker.seat.place.me.0 in
    let seat = c.leave-other.ensures.seat in
    let fault = c.leave-other.ensures.fault in
    record {
      seated = record {
        here = subst (λ (s : CaseShape). IsHere id s c.join.new.seat.place) c.requires.case c.join.ensures.here;
        idle = subst (λ (v : SeatView). IsIdle v) (sym c.join.ensures.view)
            (record { turn = c.loop-worker.invariant.seated.idle.turn; places = refl });
      };
      joined = joined-more id c.args.case.now c.args.crew.items c.loop-worker.crew.items c.pop.new.self.items c.in-Some.worker
          c.args.seat.now.place.me.0 mid new c.loop-worker.first c.first_of-first.result c.in-Some.ensures.items c.requires.workers
          (ap (λ (v : SeatView). v.0) c.join.ensures.view
          ∙ ap (λ (s : Seat g.row.K.Denot g.K.Keeper). joined mid s.place.me.0) seat)
          c.join.ensures.seen
          (subst (λ (s : Seat g.row.K.Denot g.K.Keeper). Begins s.place.me.0.front new.front) seat c.join.ensures.met)
          (λ some. c.first_of-first.ensures.first (subst (λ (o : Option NodeFault). IsSome o) (sym fault) some) ∙ fault)
          (λ none. c.first_of-first.ensures.other (fault ∙ none))
          c.loop-worker.invariant.joined;
    }

pub returns : goal.returns
returns g c =
    let all = joined-all c.args.crew.items c.loop-worker.crew.items c.args.seat.now.place.me.0 c.loop-worker.seat.place.me.0
    c.loop-worker.first
    (none-left c.loop-worker.crew.items (let zero = c.in_default.ensures.cases.0 in let ok = c.loop-worker.crew.ok.0 in
    omega (arith, zero, ok)))
    c.loop-worker.invariant.joined in
    record { seated = c.loop-worker.invariant.seated; taken = all.0; fault = all.1 }
