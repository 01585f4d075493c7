use Rattle.std.proofs.Common.{◌≡◌, ◌∙◌, ◌<◌, ◌++◌, true, List, All, length, get_or, arith, ap, subst, sym}
use Rattle.mw_types.specs.declared.delivery.Emission.{Emission}
use Rattle.mw_types.specs.declared.entry.Entry.{Entry}
use Rattle.topology.specs.Shapes.{Shape, parts_of}
use Rattle.row_parts.specs.Contents.{IsId}
use Rattle.run_history.specs.Cases.{CaseShape}
use Rattle.run_history.specs.Lent.{lent}
use Rattle.run_history.specs.Made.{emissions_of}
use Rattle.run_history.specs.Runs.{run_of}
use Rattle.run_history.specs.Printing.{HasFollowed}
use Rattle.live_outlet.specs.Outlets.{OutletView, IsPumpedFrom}
use Rattle.live_outlet.proofs.Pumping.{followed-before, followed-next}
use Rattle.live_outlet.proofs.outlet.Outlet.follow.Goals as goal

pub returns-in_ok-follow-clause-extends : goal.returns-in_ok-follow-clause-extends
returns-in_ok-follow-clause-extends c =
    let shape : Shape = c.case.inside.topology in
    let history : List Entry = c.args.history.now in
    let o : OutletView = record {
      place = c.self.inside.place;
      owes = c.self.inside.owes;
      followed = c.self.inside.emitter;
      ready = c.self.inside.ready;
      waiting = c.self.inside.waiting;
    } in
    let new : OutletView = record o { followed = c.follow.new.self; ready = true; waiting = c.follow.new.emissions } in
    let before : IsPumpedFrom shape o history =
    subst (λ (s : CaseShape). IsPumpedFrom s.topology o history) (sym c.case.view_is)
    (subst (λ (v : OutletView). IsPumpedFrom c.args.case.now.topology v history) (sym c.self.view_is) c.requires.extends) in
    let next : o.place < length history =
    subst (λ (v : OutletView). v.place < length history) (sym c.self.view_is) c.requires.next in
    let entry : Entry = lent c.at-entry.result in
    let is : entry ≡ get_or history o.place entry = c.at-entry.ensures in
    subst (λ (s : CaseShape). IsPumpedFrom s.topology new history) c.case.view_is (record {
      place = before.place;
      known = followed-next shape history o.place entry o.followed new.followed new.waiting next is
          (followed-before shape history o before c.if-not-self.true)
          c.in_ok-follow.ensures.followed
          (λ (h : List Entry) (f : HasFollowed shape h o.followed). c.in_ok-follow.ensures.emitted h f
          ∙ ap (λ l. l ++ emissions_of shape (run_of shape h).made o.place entry) c.new-waiting.ensures.empty)
          (c.in_ok-follow.ensures.parts
          (subst (All (λ (e : Emission). e.part < parts_of shape)) (sym c.new-waiting.ensures.empty) (λ k d below. absurd (omega arith))))
          (c.in_ok-follow.ensures.ids
          (subst (All (λ (e : Emission). IsId e.id)) (sym c.new-waiting.ensures.empty) (λ k d below. absurd (omega arith))));
    })
