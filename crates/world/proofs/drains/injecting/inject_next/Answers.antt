use Rattle.std.proofs.Common.{false, refl, rules}
use Rattle.std.specs.Prelude.{None, Some}
use Rattle.topology.specs.Shapes.{injectors_of}
use Rattle.world.specs.drains.Turns.{IsBestLine, worker_of}
use Rattle.world.proofs.GoLaws.{turned-stayed}
use Rattle.world.proofs.drains.FullLaws.{line-unended}
use Rattle.world.proofs.drains.InjectLaws.{inject-none, inject-turned}
use Rattle.world.proofs.Results.{err-then, ok-then}
use Rattle.world.proofs.drains.TurnLaws.{stepped-not}
use Rattle.world.proofs.drains.injecting.inject_next.Goals as goal

-- the line is of an injector
pub inject-requires-clause-injector : goal.inject-requires-clause-injector
inject-requires-clause-injector g c =
    let old = c.args.book.now in
    let best : IsBestLine old.case (worker_of c.args.held.now) (injectors_of old.case.topology)
    (Some (c.in-Some.line, c.in-Some.part)) = search rules in best.there.0

-- which has it left
pub inject-requires-clause-next : goal.inject-requires-clause-next
inject-requires-clause-next g c =
    let old = c.args.book.now in
    let best : IsBestLine old.case (worker_of c.args.held.now) (injectors_of old.case.topology)
    (Some (c.in-Some.line, c.in-Some.part)) = search rules in best.there.1

-- a line that was injected is a turn
pub returns-in-Some-clause-turned : goal.returns-in-Some-clause-turned
returns-in-Some-clause-turned g c =
    let old = c.args.book.now in
    let worker = worker_of c.args.held.now in
    let best : IsBestLine old.case worker (injectors_of old.case.topology) (Some (c.in-Some.line, c.in-Some.part)) = search rules in
    ok-then c.inject.result (λ more done. inject-turned old c.inject.new.book worker c.in-Some.part more c.requires.at_work
    c.requires.settled c.requires.quiet (Some (c.in-Some.line, c.in-Some.part), best, refl) done) c.inject.ensures.asked

-- no line is left where none was injected
pub returns-in-Some-clause-injected : goal.returns-in-Some-clause-injected
returns-in-Some-clause-injected g c =
    let old = c.args.book.now in
    let worker = worker_of c.args.held.now in
    let best : IsBestLine old.case worker (injectors_of old.case.topology) (Some (c.in-Some.line, c.in-Some.part)) = search rules in
    ok-then c.inject.result (λ more done none_more told. inject-none old c.inject.new.book worker (Some c.in-Some.part) more
    c.requires.at_work told (Some (c.in-Some.line, c.in-Some.part), best, refl) done none_more) c.inject.ensures.asked

-- nothing was done
pub returns-in-None-clause-turned : goal.returns-in-None-clause-turned
returns-in-None-clause-turned g c = turned-stayed c.args.book.now c.args.book.now (stepped-not c.args.book.now)

-- as no injector has a line left
pub returns-in-None-clause-injected : goal.returns-in-None-clause-injected
returns-in-None-clause-injected g c =
    let old = c.args.book.now in
    let worker = worker_of c.args.held.now in
    let best : IsBestLine old.case worker (injectors_of old.case.topology) None = search rules in
    λ none_more told. inject-none old old worker None false c.requires.at_work told (None, best, refl) tt refl

-- a line is left where one was to be injected
pub returns-in-Some-clause-unended : goal.returns-in-Some-clause-unended
returns-in-Some-clause-unended g c =
    let old = c.args.book.now in
    let worker = worker_of c.args.held.now in
    let best : IsBestLine old.case worker (injectors_of old.case.topology) (Some (c.in-Some.line, c.in-Some.part)) = search rules in
    err-then c.inject.result (λ why failed full. line-unended old worker c.in-Some.part c.requires.at_work
    (Some (c.in-Some.line, c.in-Some.part), best, refl)) c.inject.ensures.failed
