use Rattle.std.proofs.Common.{arith, ◌≡◌, ◌+◌, suc, drop, subst, sym}
use Rattle.std.specs.List.{AllByRecursion}
use Rattle.std.proofs.Math.ListN.{drop_of_length-le}
use Rattle.std.proofs.Math.Seq.{drop-cons}
use Rattle.std.proofs.lemmas.List.Elements.{All-from_recursion}
use Rattle.node.specs.SweepSteps.{IsVouched}
use Rattle.node.proofs.sweeping.vouch.Goals as goal

-- with one record more
pub loop-one-preserved : goal.loop-one-preserved
loop-one-preserved c = λ rest.
    let i = c.loop-one.one-index in
    let sent = c.args.sent.now in
    let next : i + 1 ≡ suc i = omega arith in
    c.loop-one.invariant (subst (AllByRecursion (IsVouched c.args.held.now)) (sym (drop-cons sent i c.one-item.result c.loop-one-test.true)) (
      subst (IsVouched c.args.held.now) c.one-item.is c.vouch_for.ensures,
      subst (λ n. AllByRecursion (IsVouched c.args.held.now) (drop n sent)) next rest,
    ))

-- after the last
pub returns : goal.returns
returns c =
    let sent = c.args.sent.now in
    All-from_recursion (IsVouched c.args.held.now) sent (c.loop-one.invariant
    (subst (AllByRecursion (IsVouched c.args.held.now)) (sym (drop_of_length-le sent c.loop-one-test.false)) tt))
