use Rattle.std.proofs.Common.{◌≡◌, arith, inl, rules}
use Rattle.std.specs.Prelude.{IfErr, Some}
use Rattle.node.specs.declared.outcome.NodeFault.TheVariants as faults
use Rattle.node.specs.Answers.{FailsPurge}
use Rattle.node.specs.PurgeSteps.{IsToPurge}
use Rattle.node.proofs.FirstLaws.{purge-answers, purge-fails, rows-within}
use Rattle.node.proofs.LookLaws.{err-fails, grown-later, looked-later}
use Rattle.node.proofs.OutLaws.{Fits-looked}
use Rattle.node.proofs.PurgeLaws.{floor-known}
use Rattle.node.proofs.node.Node.purge.Goals as goal

-- the rows that are cached of the interval lie in it
pub to_purge-requires : goal.to_purge-requires
to_purge-requires g c = record {
  within = rows-within c.args.case.now (g.D.Desk.view c.args.desk.now) c.args.self.now c.args.interval c.requires.fits;
}

-- where a name could not be copied
pub returns-in_err-name-clause-fits : goal.returns-in_err-name-clause-fits
returns-in_err-name-clause-fits g c = Fits-looked c.args.case.now (g.D.Desk.view c.args.desk.now) (g.D.Desk.view
    c.floor-floor.new.self) c.args.self.now
    c.sound.ensures.sound c.sound-2.ensures.sound c.floor-floor.ensures.looked c.requires.fits

pub returns-in_err-name-clause-fault : goal.returns-in_err-name-clause-fault
returns-in_err-name-clause-fault g c =
    let old = g.D.Desk.view c.args.desk.now in
    let mid = g.D.Desk.view c.floor-floor.new.self in
    let none : IfErr c.from_residual.result (λ why. why ≡ faults.NoMemory) = search rules in
    err-fails c.from_residual.result (λ why. why ≡ faults.NoMemory)
    (FailsPurge c.args.case.now.topology old mid c.args.interval c.args.least c.args.self.now)
    (λ why is. record {
      floor = c.floor-floor.result;
      known = floor-known old mid mid c.floor-floor.result c.sound.ensures.sound c.sound-2.ensures.sound c.floor-floor.ensures.looked
          c.floor-floor.ensures.floor (omega arith);
      fails = inl is;
    }) none

-- where a row is the first
pub forget-requires-clause-fits : goal.forget-requires-clause-fits
forget-requires-clause-fits g c = Fits-looked c.args.case.now (g.D.Desk.view c.args.desk.now) (g.D.Desk.view
    c.floor-floor.new.self) c.args.self.now
    c.sound.ensures.sound c.sound-2.ensures.sound c.floor-floor.ensures.looked c.requires.fits

pub returns-in-Some-clause-answers : goal.returns-in-Some-clause-answers
returns-in-Some-clause-answers g c =
    let old = g.D.Desk.view c.args.desk.now in
    let mid = g.D.Desk.view c.floor-floor.new.self in
    let new = g.D.Desk.view c.forget.new.desk in
    let first : IsToPurge c.args.case.now.topology c.args.self.now c.args.interval c.args.least c.floor-floor.result (Some c.in-Some.name) =
    search rules in
    purge-answers c.args.case.now old mid new c.args.self.now c.forget.new.self c.args.interval c.args.least c.floor-floor.result
    c.in-Some.name
    c.forget.result c.sound.ensures.sound c.sound-2.ensures.sound c.floor-floor.ensures.looked c.floor-floor.ensures.floor
    c.forget.ensures.grown first c.forget.ensures.answers

pub returns-in-Some-clause-looked : goal.returns-in-Some-clause-looked
returns-in-Some-clause-looked g c =
    let old = g.D.Desk.view c.args.desk.now in
    let mid = g.D.Desk.view c.floor-floor.new.self in
    let new = g.D.Desk.view c.forget.new.desk in
    looked-later old mid new c.forget.result c.floor-floor.ensures.looked c.forget.ensures.looked

pub returns-in-Some-clause-fault : goal.returns-in-Some-clause-fault
returns-in-Some-clause-fault g c =
    let old = g.D.Desk.view c.args.desk.now in
    let mid = g.D.Desk.view c.floor-floor.new.self in
    let new = g.D.Desk.view c.forget.new.desk in
    let first : IsToPurge c.args.case.now.topology c.args.self.now c.args.interval c.args.least c.floor-floor.result (Some c.in-Some.name) =
    search rules in
    purge-fails c.args.case.now old mid new c.args.self.now c.args.interval c.args.least c.floor-floor.result c.in-Some.name
    c.forget.result c.sound.ensures.sound c.sound-2.ensures.sound c.floor-floor.ensures.looked c.floor-floor.ensures.floor
    c.forget.ensures.grown first c.forget.ensures.fault

pub returns-in-Some-clause-grown : goal.returns-in-Some-clause-grown
returns-in-Some-clause-grown g c =
    let old = g.D.Desk.view c.args.desk.now in
    let mid = g.D.Desk.view c.floor-floor.new.self in
    let new = g.D.Desk.view c.forget.new.desk in
    grown-later old mid new c.args.self.now.held c.floor-floor.ensures.looked c.forget.ensures.grown

-- where there is none
pub returns-in-None-clause-fits : goal.returns-in-None-clause-fits
returns-in-None-clause-fits g c = Fits-looked c.args.case.now (g.D.Desk.view c.args.desk.now) (g.D.Desk.view
    c.floor-floor.new.self) c.args.self.now
    c.sound.ensures.sound c.sound-2.ensures.sound c.floor-floor.ensures.looked c.requires.fits
