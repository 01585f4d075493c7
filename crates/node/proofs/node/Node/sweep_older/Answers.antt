use Rattle.std.proofs.Common.{rules, ◌≡◌, ◌∙◌, ◌++◌, List, length, map, subst, sym}
use Rattle.outbox.specs.Messages.{sent_again}
use Rattle.node.specs.Answers.{IsSweptOlder, older_than}
use Rattle.node.specs.FireSteps.{AreAllWithin}
use Rattle.node.specs.Fits.{Fits}
use Rattle.node.specs.Workers.{NodeView}
use Rattle.outbox.specs.declared.outgoing.Outgoing.{Outgoing}
use Rattle.node.proofs.FitLaws.{node_in}
use Rattle.node.proofs.FirstLaws.{rows-within}
use Rattle.node.proofs.SweepLaws.{Fits-older, answers-older}
use Rattle.node.proofs.node.Node.sweep_older.Goals as goal

-- the rows that are cached lie in their intervals
pub again_of-requires : goal.again_of-requires
again_of-requires g c =
    let case = c.args.case.now in record {
      within = subst (λ (n : NodeView). AreAllWithin case.topology n.held) (sym c.self.view_is)
          (λ interval. rows-within case (g.D.Desk.view c.args.desk.now) c.args.self.now interval c.requires.fits);
    }

-- what it sends again may be sent
pub returns-clause-every : goal.returns-clause-every
returns-clause-every g c = λ known fits.
    let case = c.args.case.now in
    let all = c.in_ok-all.all.items in
    let swept = c.self.inside.swept in
    let node : NodeView = node_in c.self.inside in
    let out = c.put_again.ensures.put ∙ (λ i. c.make_room.ensures.same i ++ map sent_again (c.older_of-older.ensures i)) in
    subst (λ (l : List Outgoing). Fits case known (record node { outbox = l })) (sym out)
    (Fits-older case known node swept all c.in_ok-all.ensures (subst (Fits case known) (sym c.self.view_is) fits))

pub returns-clause-fits : goal.returns-clause-fits
returns-clause-fits g c = returns-clause-every g c (g.D.Desk.view c.args.desk.now) c.requires.fits

-- it answers how many they are
pub returns-clause-answers : goal.returns-clause-answers
returns-clause-answers g c =
    let all = c.in_ok-all.all.items in
    let swept = c.self.inside.swept in
    let count = c.len-count.result in
    let node : NodeView = node_in c.self.inside in
    let left : List Outgoing → NodeView = λ l. record node { outbox = l } in
    let out = c.put_again.ensures.put ∙ (λ i. c.make_room.ensures.same i ++ map sent_again (c.older_of-older.ensures i)) in
    let number : count ≡ length (older_than swept all) = search rules in
    subst (λ (n : NodeView). IsSweptOlder n (left c.put_again.new.self.messages) count) c.self.view_is
    (subst (λ (l : List Outgoing). IsSweptOlder node (left l) count) (sym out)
    (answers-older node swept all count c.in_ok-all.ensures number))
