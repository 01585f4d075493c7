use Rattle.std.proofs.Common.{◌<◌, ◌^◌, length, subst, sym, List}
use Rattle.mw_types.specs.declared.entry.Entry.{Entry}
use Rattle.audit.specs.Standings.{StandingView}
use Rattle.audit.specs.Choices.{MayCome}
use Rattle.audit.specs.Keeping.{IsStanding}
use Rattle.audit.proofs.KeepingLaws.{followed-push}
use Rattle.audit.proofs.standings.Standing.push.Goals as goal

-- the entry may come next, and what it changes is kept
pub invariant_of-result : goal.invariant_of-result
invariant_of-result c =
    let case = c.self.inside.case.now in
    let before = c.self.inside.history in
    let may : MayCome case before c.args.entry = subst (λ (v : StandingView). MayCome v.case v.history c.args.entry)
    (sym c.self.view_is) c.requires.next in
    let few : length before < 2 ^ 32 = subst (λ (v : StandingView). length v.history < 2 ^ 32) (sym c.self.view_is) c.requires.few in
    subst (λ (h : List Entry). IsStanding case c.self.inside.work h c.grow.new.self) (sym c.in_ok-push.ensures.appended) (record {
      work = c.self.invariant.work;
      followed = followed-push case before c.args.entry c.self.invariant.followed may few;
      keeps = c.in_ok-grow.ensures;
    })
