use Rattle.std.proofs.Common.{rules, ◌≡◌, ◌∙◌, ◌++◌, List, ap, length, map, subst, sym}
use Rattle.outbox.specs.Messages.{sent_again}
use Rattle.node.specs.Answers.{IsSwept}
use Rattle.node.specs.FireSteps.{AreAllWithin}
use Rattle.node.specs.Fits.{Fits}
use Rattle.node.specs.Workers.{NodeView}
use Rattle.outbox.specs.declared.outgoing.Outgoing.{Outgoing}
use Rattle.node.proofs.FitLaws.{node_in}
use Rattle.node.proofs.FirstLaws.{rows-within}
use Rattle.node.proofs.SweepLaws.{Fits-swept, answers-swept}
use Rattle.node.proofs.node.Node.sweep.Goals as goal

-- the rows that are cached lie in their intervals
pub again_of-requires : goal.again_of-requires
again_of-requires g c =
    let case = c.args.case.now in record {
      within = subst (λ (n : NodeView). AreAllWithin case.topology n.held) (sym c.self.view_is)
          (λ interval. rows-within case (g.D.Desk.view c.args.desk.now) c.args.self.now interval c.requires.fits);
    }

-- what it sends again may be sent
pub returns-clause-fits : goal.returns-clause-fits
returns-clause-fits g c =
    let case = c.args.case.now in
    let desk = g.D.Desk.view c.args.desk.now in
    let again = c.in_ok-again.again.items in
    let node : NodeView = node_in c.self.inside in
    let out = c.put_again.ensures.put ∙ ap (λ (l : List Outgoing). l ++ map sent_again again) c.make_room.ensures.same in
    subst (λ (l : List Outgoing). Fits case desk (record node { outbox = l })) (sym out)
    (Fits-swept case desk node again c.in_ok-again.ensures (subst (Fits case desk) (sym c.self.view_is) c.requires.fits))

pub returns-clause-every : goal.returns-clause-every
returns-clause-every g c = λ known fits.
    let case = c.args.case.now in
    let again = c.in_ok-again.again.items in
    let node : NodeView = node_in c.self.inside in
    let out = c.put_again.ensures.put ∙ ap (λ (l : List Outgoing). l ++ map sent_again again) c.make_room.ensures.same in
    subst (λ (l : List Outgoing). Fits case known (record node { outbox = l })) (sym out)
    (Fits-swept case known node again c.in_ok-again.ensures (subst (Fits case known) (sym c.self.view_is) fits))

-- it answers how many they are
pub returns-clause-answers : goal.returns-clause-answers
returns-clause-answers g c =
    let case = c.args.case.now in
    let desk = g.D.Desk.view c.args.desk.now in
    let again = c.in_ok-again.again.items in
    let count = c.len-count.result in
    let node : NodeView = node_in c.self.inside in
    let left : List Outgoing → NodeView = λ l. record node { outbox = l } in
    let out = c.put_again.ensures.put ∙ ap (λ (l : List Outgoing). l ++ map sent_again again) c.make_room.ensures.same in
    let number : count ≡ length again = search rules in
    subst (λ (n : NodeView). IsSwept desk n (left c.put_again.new.self.messages) count) c.self.view_is
    (subst (λ (l : List Outgoing). IsSwept desk node (left l) count) (sym out)
    (answers-swept case desk node again count c.in_ok-again.ensures number
    (subst (Fits case desk) (sym c.self.view_is) c.requires.fits)))
