use Rattle.std.proofs.Common.{◌≤◌, arith, rules, subst, sym}
use Rattle.std.specs.Prelude.{None}
use Rattle.run_history.specs.Watermarks.{least}
use Rattle.watermark.specs.Marks.{marks_of}
use Rattle.node.specs.Asking.{IsNextTimer, MayAskFire}
use Rattle.node.specs.FireSteps.{IsTimerToFire}
use Rattle.outbox.specs.Messages.{IsComputation}
use Rattle.world.specs.drains.Turns.{worker_of}
use Rattle.world.proofs.drains.CallLaws.{asked-none, fire-fails, fire-of, next-own}
use Rattle.world.proofs.drains.firing.fire_found.Goals as goal

-- the timer's row is of the part
pub fire_one-fired-requires-clause-part : goal.fire_one-fired-requires-clause-part
fire_one-fired-requires-clause-part g c =
    let book = c.args.book.now in
    let next : IsNextTimer book.case.topology (worker_of c.args.held.now) c.args.part c.args.mark c.in-Some.found.name
    c.in-Some.found.timer = search rules in
    subst (IsComputation book.case.topology) (sym next.set.of_part) c.requires.part

-- and it is next there
pub fire_one-fired-requires-clause-next : goal.fire_one-fired-requires-clause-next
fire_one-fired-requires-clause-next g c =
    let book = c.args.book.now in
    let next : IsNextTimer book.case.topology (worker_of c.args.held.now) c.args.part c.args.mark c.in-Some.found.name
    c.in-Some.found.timer = search rules in
    next-own book.case.topology (worker_of c.args.held.now) c.args.part c.args.mark c.in-Some.found.name c.in-Some.found.timer next

-- under the least mark of the part
pub fire_one-fired-requires-clause-known : goal.fire_one-fired-requires-clause-known
fire_one-fired-requires-clause-known g c =
    let book = c.args.book.now in
    let next : IsNextTimer book.case.topology (worker_of c.args.held.now) c.args.part c.args.mark c.in-Some.found.name
    c.in-Some.found.timer = search rules in
    subst (λ p. c.args.mark ≤ least (marks_of book.case.topology p book.marks)) (sym next.set.of_part)
    (let exact = c.requires.exact in omega (arith, exact))

-- it has fired
pub returns-in-Some-clause-asked : goal.returns-in-Some-clause-asked
returns-in-Some-clause-asked g c =
    let book = c.args.book.now in
    let worker = worker_of c.args.held.now in
    let next : IsNextTimer book.case.topology worker c.args.part c.args.mark c.in-Some.found.name c.in-Some.found.timer = search rules in
    fire-of book c.fire_one-fired.new.book worker c.args.part c.in-Some.found.name.part c.args.mark c.fire_one-fired.result
    next.set.of_part c.fire_one-fired.ensures.asked

-- one that failed was asked for
pub returns-in-Some-clause-asking : goal.returns-in-Some-clause-asking
returns-in-Some-clause-asking g c =
    let book = c.args.book.now in
    let worker = worker_of c.args.held.now in
    let next : IsNextTimer book.case.topology worker c.args.part c.args.mark c.in-Some.found.name c.in-Some.found.timer = search rules in
    fire-fails book.case worker c.args.part c.in-Some.found.name.part c.args.mark c.fire_one-fired.result
    next.set.of_part c.fire_one-fired.ensures.asking

-- there is none to ask for
pub returns-in-None-clause-asked : goal.returns-in-None-clause-asked
returns-in-None-clause-asked g c =
    let book = c.args.book.now in
    let worker = worker_of c.args.held.now in
    let none : IsTimerToFire book.case.topology worker c.args.part c.args.mark None = search rules in
    asked-none book (MayAskFire book.case worker c.args.part c.args.mark) (λ asked may. none may.name may.timer may.next)
