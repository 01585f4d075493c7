use Rattle.std.proofs.Common.{[], Some, ap, subst, sym}
use Rattle.mw_types.specs.declared.entry.Entry.{Entry}
use Rattle.run_history.specs.Made.{row_written}
use Rattle.audit.specs.Choices.{MayCome}
use Rattle.audit.specs.Keeping.{IsLeftOf}
use Rattle.audit.proofs.FoundLaws.{handling-kept, waits-kept}
use Rattle.audit.proofs.LeavingLaws.{fits-kept, floor-few, left-fired, left-handled, left-injected, left-purged, left-settled}
use Rattle.audit.proofs.leaving.left_of.Goals as goal

-- the row that is kept fits the name of an injector
pub row_injected-requires-clause-fit : goal.row_injected-requires-clause-fit
row_injected-requires-clause-fit c =
    fits-kept c.args.case.now c.args.history.now c.args.kept.now c.args.entry.now (record { part = c.in-Inject.part; key = [] })
    c.len-commit.result c.requires.followed c.requires.kept c.requires.next (ap row_written c.in-Inject.is) c.len-commit.ensures.count

-- and the name of the row that handles a record
pub row_handled-requires-clause-fit : goal.row_handled-requires-clause-fit
row_handled-requires-clause-fit c =
    fits-kept c.args.case.now c.args.history.now c.args.kept.now c.args.entry.now c.in-Handle.row
    c.len-commit.result c.requires.followed c.requires.kept c.requires.next (ap row_written c.in-Handle.is) c.len-commit.ensures.count

-- and that of the row of which a timer fires
pub row_fired-requires-clause-fit : goal.row_fired-requires-clause-fit
row_fired-requires-clause-fit c =
    fits-kept c.args.case.now c.args.history.now c.args.kept.now c.args.entry.now c.in-Fire.row
    c.len-commit.result c.requires.followed c.requires.kept c.requires.next (ap row_written c.in-Fire.is) c.len-commit.ensures.count

-- what waits under the id may be proposed
pub row_handled-requires-clause-proposal : goal.row_handled-requires-clause-proposal
row_handled-requires-clause-proposal c delivery found =
    handling-kept c.args.case.now c.args.history.now c.args.kept.now c.in-Handle.seq c.in-Handle.row c.in-Handle.id
    c.in-Handle.effects delivery
    c.requires.followed c.requires.kept (subst (MayCome c.args.case.now c.args.history.now) c.in-Handle.is c.requires.next) found

-- no floor is above the number of the next entry
pub row_purged-requires-clause-few : goal.row_purged-requires-clause-few
row_purged-requires-clause-few c =
    floor-few c.args.case.now c.args.history.now c.in-Purge.seq c.in-Purge.row c.in-Purge.floor
    (subst (MayCome c.args.case.now c.args.history.now) c.in-Purge.is c.requires.next) c.requires.few

-- ---- each kind of entry leaves its row

pub returns-in_ok-left-in-Inject : goal.returns-in_ok-left-in-Inject
returns-in_ok-left-in-Inject c =
    let case = c.args.case.now in
    let history = c.args.history.now in
    subst (λ (e : Entry). IsLeftOf case history e (Some c.in_ok-left-in-Inject.left)) (sym c.in-Inject.is)
    (left-injected case history c.args.kept.now c.in-Inject.seq c.in-Inject.part c.in-Inject.line c.in-Inject.item c.len-commit.result
    c.in_ok-left-in-Inject.left c.requires.kept (subst (MayCome case history) c.in-Inject.is c.requires.next) c.len-commit.ensures.count
    c.in_ok-left-in-Inject.ensures)

pub returns-in_ok-left-in-Handle : goal.returns-in_ok-left-in-Handle
returns-in_ok-left-in-Handle c =
    let case = c.args.case.now in
    let history = c.args.history.now in
    let made = c.in_ok-left-in-Handle.ensures in
    subst (λ (e : Entry). IsLeftOf case history e (Some c.in_ok-left-in-Handle.left)) (sym c.in-Handle.is)
    (left-handled case history c.args.kept.now c.in-Handle.seq c.in-Handle.row c.in-Handle.id c.in-Handle.effects
    c.len-commit.result made.0
    c.in_ok-left-in-Handle.left c.requires.followed c.requires.kept (subst (MayCome case history) c.in-Handle.is c.requires.next)
    c.len-commit.ensures.count (waits-kept case history c.args.kept.now c.in-Handle.id made.0 c.requires.kept made.1).0 made.2)

pub returns-in_ok-left-in-Fire : goal.returns-in_ok-left-in-Fire
returns-in_ok-left-in-Fire c =
    let case = c.args.case.now in
    let history = c.args.history.now in
    subst (λ (e : Entry). IsLeftOf case history e (Some c.in_ok-left-in-Fire.left)) (sym c.in-Fire.is)
    (left-fired case history c.args.kept.now c.in-Fire.seq c.in-Fire.row c.in-Fire.timer c.in-Fire.mark c.in-Fire.effects
    c.len-commit.result
    c.in_ok-left-in-Fire.left c.requires.kept c.len-commit.ensures.count c.in_ok-left-in-Fire.ensures)

pub returns-in_ok-left-in-Ack : goal.returns-in_ok-left-in-Ack
returns-in_ok-left-in-Ack c =
    let case = c.args.case.now in
    let history = c.args.history.now in
    let made = c.in_ok-left-in-Ack.ensures in
    subst (λ (e : Entry). IsLeftOf case history e (Some c.in_ok-left-in-Ack.left)) (sym c.in-Ack.is)
    (left-settled case history c.args.kept.now c.in-Ack.seq c.in-Ack.row c.in-Ack.id c.len-commit.result made.0
    c.in_ok-left-in-Ack.left c.requires.kept c.len-commit.ensures.count made.1 made.2)

pub returns-in_ok-left-in-Purge : goal.returns-in_ok-left-in-Purge
returns-in_ok-left-in-Purge c =
    let case = c.args.case.now in
    let history = c.args.history.now in
    let made = c.in_ok-left-in-Purge.ensures in
    subst (λ (e : Entry). IsLeftOf case history e (Some c.in_ok-left-in-Purge.left)) (sym c.in-Purge.is)
    (left-purged case history c.args.kept.now c.in-Purge.seq c.in-Purge.row c.in-Purge.floor c.len-commit.result made.0
    c.in_ok-left-in-Purge.left c.requires.kept c.len-commit.ensures.count made.1 made.2)
