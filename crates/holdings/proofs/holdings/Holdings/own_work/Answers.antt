use Rattle.std.proofs.Common.{◌≡◌, ◌∙◌, ap, sym, subst, List}
use Rattle.std.specs.Prelude.{IfSome, Option, Some, slice_get}
use Rattle.key_intervals.specs.declared.bounds.Bounds.{Bounds}
use Rattle.topology.specs.Rules.{IsTopology}
use Rattle.run_history.specs.Cases.{CaseShape, intervals_of}
use Rattle.run_history.specs.Marks.{own_work}
use Rattle.run_history.specs.Runs.{cached}
use Rattle.list_lemmas.proofs.Lists.{some_same}
use Rattle.book.specs.Conditions.{IsOwnWork}
use Rattle.holdings.specs.Holding.{HeldView, held_at}
use Rattle.holdings.specs.Steps.{IsOldest}
use Rattle.holdings.proofs.HeldSteps.{ok-so, some-so}
use Rattle.holdings.proofs.OwnLaws.{own_work-held, own_work-known}
use Rattle.holdings.proofs.holdings.Holdings.own_work.Goals as goal

-- it is that of the rows that are cached
pub returns-clause-exact : goal.returns-clause-exact
returns-clause-exact g c =
    let case = c.args.case.now in
    let all = c.args.self.now in
    let bounds = c.bounds.result.now in
    ok-so (λ own. IfSome (held_at all c.args.interval) (λ held. IsOldest case bounds.part held own))
    (λ own. (held : HeldView) (b : Bounds) → held_at all c.args.interval ≡ Some held
    → slice_get (intervals_of case.topology) c.args.interval ≡ Some b → own ≡ own_work case (cached held.rows) b)
    c.oldest.result
    (λ own work held b at is.
    let oldest : IsOldest case bounds.part held own =
    subst (λ (o : Option HeldView). IfSome o (λ h. IsOldest case bounds.part h own)) at work in
    let bounds_is : bounds ≡ b = some_same bounds b
    (sym c.bounds.ensures.at ∙ is) in
    own_work-held case (g.D.Desk.view c.args.desk.now) c.args.interval held b (c.requires.fits.each c.args.interval held at) is own
    (subst (λ (k : Bounds). IsOldest case k.part held own) bounds_is oldest))
    c.oldest.ensures.own

-- and that of what is known under the lease
pub returns-clause-own : goal.returns-clause-own
returns-clause-own g c =
    let case = c.args.case.now in
    let desk = g.D.Desk.view c.args.desk.now in
    let all = c.args.self.now in
    let bounds = c.bounds.result.now in
    ok-so (λ own. IfSome (held_at all c.args.interval) (λ held. IsOldest case bounds.part held own))
    (λ own. IfSome (held_at all c.args.interval) (λ h. IsOwnWork case desk.told desk.seen h.lease own))
    c.oldest.result
    (λ own work. some-so (λ (h : HeldView). IsOwnWork case desk.told desk.seen h.lease own) (held_at all c.args.interval)
    (λ held there b at.
    let fits = c.requires.fits.each c.args.interval held there in
    let here : slice_get (intervals_of case.topology) c.args.interval ≡ Some b =
    ap (slice_get (intervals_of case.topology)) (sym fits.of_interval) ∙ at in
    let bounds_is : bounds ≡ b = some_same bounds b
    (sym c.bounds.ensures.at ∙ here) in
    own_work-known case desk c.args.interval held b fits here
    (subst (λ (x : CaseShape). IsTopology x.topology) c.requires.case c.sound.ensures.sound.runnable.topology) own
    (own_work-held case desk c.args.interval held b fits here own
    (subst (λ (k : Bounds). IsOldest case k.part held own) bounds_is
    (subst (λ (o : Option HeldView). IfSome o (λ h. IsOldest case bounds.part h own)) there work)))))
    c.oldest.ensures.own
