use Rattle.std.proofs.Common.{◌≡◌, ◌∙◌, ap, rules, subst, sym}
use Rattle.std.specs.Prelude.{None, Some}
use Rattle.row_parts.specs.Contents.{found_delivery}
use Rattle.world.specs.drains.Turns.{CanBeKept}
use Rattle.world.proofs.drains.CallLaws.{kept-found}
use Rattle.world.proofs.drains.HeldLaws.{cached_at, sent-by}
use Rattle.world.proofs.drains.least_work.sent.Goals as goal

-- what was found is of a row that can be kept
pub returns-in_ok-copy-in-Some-found-clause-kept : goal.returns-in_ok-copy-in-Some-found-clause-kept
returns-in_ok-copy-in-Some-found-clause-kept c =
    let found : found_delivery c.args.id c.row.inside.pending ≡ Some c.in-Some-found.delivery.now =
    (let one = c.found.ensures in let all = c.as_slice.ensures.elements in let is = c.in-Some-found.is in let own =
    c.in-Some-found.ensures in cc) in
    subst CanBeKept (sym c.in_ok-copy-in-Some-found.ensures.copied)
    (kept-found c.row.inside.pending c.args.id c.in-Some-found.delivery.now c.row.invariant.pending.each found)

-- it is what the row has pending
pub returns-in_ok-copy-in-Some-found-clause-sent : goal.returns-in_ok-copy-in-Some-found-clause-sent
returns-in_ok-copy-in-Some-found-clause-sent c = λ shape covers.
    let is : Some c.in-Some.row.now ≡ cached_at c.args.held.now c.args.interval c.args.sender.now = search rules in
    let found : found_delivery c.args.id c.in-Some.row.now.pending ≡ Some c.in-Some-found.delivery.now = search rules in
    ap Some c.in_ok-copy-in-Some-found.ensures.copied ∙ sym found
    ∙ sym (sent-by shape c.args.held.now c.args.sender.now c.args.interval c.args.id (Some c.in-Some.row.now) covers is)

-- it has nothing pending
pub returns-in-None-clause-sent : goal.returns-in-None-clause-sent
returns-in-None-clause-sent c = λ shape covers.
    let is : Some c.in-Some.row.now ≡ cached_at c.args.held.now c.args.interval c.args.sender.now = search rules in
    let none : found_delivery c.args.id c.in-Some.row.now.pending ≡ None = search rules in
    sym none ∙ sym (sent-by shape c.args.held.now c.args.sender.now c.args.interval c.args.id (Some c.in-Some.row.now) covers is)

-- no row is cached
pub returns-in_default-clause-sent : goal.returns-in_default-clause-sent
returns-in_default-clause-sent c = λ shape covers.
    let is : None ≡ cached_at c.args.held.now c.args.interval c.args.sender.now = search rules in
    sym (sent-by shape c.args.held.now c.args.sender.now c.args.interval c.args.id None covers is)
