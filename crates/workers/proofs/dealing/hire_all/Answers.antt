use Rattle.std.proofs.Common.{◌∙◌, ◌<◌, ◌+◌, ◌++◌, ◌∷◌, List, [], length, length-append, ap, sym, subst, arith}
use Rattle.std.specs.Prelude.{All}
use Rattle.std.proofs.lemmas.Iterator.Adapters.{YieldsList-from_vec}
use Rattle.std.proofs.lemmas.Iterator.Consumers.{YieldsList-turn}
use Rattle.workers.specs.declared.passes.MailPass.{MailPass}
use Rattle.shared_book.specs.Opening.{span}
use Rattle.shared_book.specs.declared.seats.Note.{Note}
use Rattle.workers.specs.Crews.{AreWorkers}
use Rattle.workers.specs.Runs.{IsHired, passes_in}
use Rattle.workers.specs.declared.crew.Worker.{Worker}
use Rattle.workers.proofs.Hiring.{all-push, dealt-more, hired-since, passes-push, workers-push}
use Rattle.workers.proofs.dealing.hire_all.Goals as goal

-- one worker more has a seat
pub loop-own-preserved : goal.loop-own-preserved
loop-own-preserved g c =
    let id = c.args.shared.now.table.shared.table_id in
    let case = c.args.case.now in
    let i = c.loop-own.invariant in
    let e = c.hire-worker.ensures in
    let old = c.args.seat.now.place.me.0 in
    let crew = c.loop-own.crew.items in
    let w = c.hire-worker.result in
    let items = c.push_reserved.ensures.items in
    let gives = c.into_iter-own-iterator.ensures.into_iter_gives in
    let turn = YieldsList-turn (YieldsList-from_vec {s = c.into_iter-own-iterator.result} c.args.passes.items gives.0
    (gives.1 ∙ c.args.passes.ok.0)) c.loop-own.yielded c.loop-own.own-iterator c.loop-own.yielded_by c.next.result c.next.new.self c.in-Some.own c.in-Some.is c.next.ensures.steps in
    let number = i.number in
    let left = i.left in
    let more : 0 < c.loop-own.left = (let there = turn.0 in omega (arith, there, number, left)) in
    let many = i.many in
    record {
      seated = e.seated;
      seat_number = e.next;
      number = let long = length-append c.loop-own.yielded (c.in-Some.own ∷ []) in omega (arith, long, number);
      left = omega (arith, left, more);
      numbers = e.numbers ∙ ap (span (c.loop-own.number + 1)) (omega (arith, more));
      dealt = dealt-more old c.loop-own.seat.place.me.0 c.hire-worker.new.seat.place.me.0 i.dealt e.dealt;
      workers = subst (λ (l : List (Worker g.row.K.Denot g.row.J.Denot g.K.Keeper)). AreWorkers id case l) (sym items)
          (workers-push id case crew w i.workers e.worker (e.its_number ∙ sym many));
      many = let long = ap length items ∙ length-append crew (w ∷ []) in omega (arith, long, many);
      hired = subst (λ (l : List (Worker g.row.K.Denot g.row.J.Denot g.K.Keeper)). All (IsHired old) l) (sym items)
          (all-push (IsHired old) crew w i.hired (hired-since old c.loop-own.seat.place.me.0 w i.dealt e.hired));
      passes =
          ap (λ (l : List (Worker g.row.K.Denot g.row.J.Denot g.K.Keeper)). passes_in l) items
          ∙ passes-push crew w
          ∙ ap (λ (l : List (List (MailPass (Note g.row.K.Denot g.K.Keeper) g.row.J.Denot))). l ++ w.passes ∷ []) i.passes
          ∙ ap (λ (p : List (MailPass (Note g.row.K.Denot g.K.Keeper) g.row.J.Denot)). c.loop-own.yielded ++ p ∷ []) e.passes;
      room = let room = i.room in let same = c.push_reserved.ensures.capacity in omega (arith, room, same);
    }
