use Rattle.std.proofs.Common.{rules, ◌≡◌, List, sym, subst}
use Rattle.std.specs.Prelude.{All, IfSome, None, Option, Some}
use Rattle.holdings.specs.Holding.{HeldView, held_at}
use Rattle.holdings.specs.Pendings.{ArePendingAmong}
use Rattle.holdings.specs.declared.pending.Sent.{Sent}
use Rattle.node.specs.SweepSteps.{IsVouched}
use Rattle.node.proofs.SweepLaws.{found-held, found-unheld}
use Rattle.node.proofs.sweeping.push_pending.Goals as goal

-- where nothing is held
pub returns-in_default : goal.returns-in_default
returns-in_default c =
    let none : held_at c.args.held.now c.args.interval ≡ None = search rules in
    found-unheld c.args.held.now c.args.interval c.args.found.now.items none

-- where rows are held
pub returns : goal.returns
returns c =
    let all = c.args.held.now in
    let here = c.in-Some.here.now in
    let sent = c.into_vec-sent.result.items in
    let at : held_at all c.args.interval ≡ Some here = sym c.in-Some.ensures.held in
    let pending = subst (ArePendingAmong here.rows) (sym c.into_vec-sent.ensures)
    (subst (λ (o : Option HeldView). IfSome o (λ h. ArePendingAmong h.rows c.in_ok-pending.field-0)) at c.in_ok-pending.ensures.pending) in
    let vouched = subst (λ (l : List Sent). All (IsVouched here) l) c.deref.ensures.value c.vouch.ensures in
    found-held all c.args.interval here c.args.found.now.items c.append.new.self.items sent at c.in_ok-append.ensures.items pending vouched
