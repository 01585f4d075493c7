use Rattle.std.proofs.Common.{rules}
use Rattle.std.specs.Prelude.{IfSome, None, OnOk, Some}
use Rattle.mw_types.specs.declared.entry.Entry.TheVariants.{Purge}
use Rattle.holdings.specs.Holding.{held_at}
use Rattle.node.specs.Asking.{MayAskPurge}
use Rattle.node.specs.PurgeSteps.{IsToPurge}
use Rattle.world.specs.drains.Turns.{HasStepped, worker_of}
use Rattle.world.proofs.drains.CallLaws.{asked-none, first-may, purge-asked, purge-known}
use Rattle.world.proofs.Results.{err-any}
use Rattle.world.proofs.drains.purging.purge_found.Goals as goal

-- the row lies in the interval
pub put-purged-requires-clause-covers : goal.put-purged-requires-clause-covers
put-purged-requires-clause-covers g c =
    let first : IsToPurge c.args.book.now.case.topology (worker_of c.args.held.now) c.args.interval 1 c.args.floor (Some c.in-Some.name) =
    search rules in
    let may = first-may c.args.book.now.case.topology c.args.held.now c.args.interval c.args.floor c.in-Some.name first in
    may.2

-- and is of a part that is there
pub put-purged-requires-clause-part : goal.put-purged-requires-clause-part
put-purged-requires-clause-part g c =
    let first : IsToPurge c.args.book.now.case.topology (worker_of c.args.held.now) c.args.interval 1 c.args.floor (Some c.in-Some.name) =
    search rules in
    first.0

-- it may forget
pub put-purged-requires-clause-may : goal.put-purged-requires-clause-may
put-purged-requires-clause-may g c =
    let first : IsToPurge c.args.book.now.case.topology (worker_of c.args.held.now) c.args.interval 1 c.args.floor (Some c.in-Some.name) =
    search rules in
    let may = first-may c.args.book.now.case.topology c.args.held.now c.args.interval c.args.floor c.in-Some.name first in
    purge-known c.args.book.now c.args.held.now c.in-Some.name c.args.interval c.args.floor c.requires.at_work c.requires.floor first
    may.2

-- and has forgotten
pub returns-in_ok-purged-in-Some-clause-asked : goal.returns-in_ok-purged-in-Some-clause-asked
returns-in_ok-purged-in-Some-clause-asked g c =
    let first : IsToPurge c.args.book.now.case.topology (worker_of c.args.held.now) c.args.interval 1 c.args.floor (Some c.in-Some.name) =
    search rules in
    let done : OnOk c.put-purged.result (IfSome (held_at c.args.held.now c.args.interval) (λ here. HasStepped c.args.book.now
    c.put-purged.new.book (Some (Purge here.lease.seq c.in-Some.name c.args.floor)))) = c.put-purged.ensures.put in
    purge-asked c.args.book.now c.put-purged.new.book c.args.held.now c.in-Some.name c.args.interval c.args.floor first
    (search rules)

-- a purge that fails was asked for
pub returns-in_err-purged-in-Some-clause-asking : goal.returns-in_err-purged-in-Some-clause-asking
returns-in_err-purged-in-Some-clause-asking g c =
    let first : IsToPurge c.args.book.now.case.topology (worker_of c.args.held.now) c.args.interval 1 c.args.floor (Some c.in-Some.name) =
    search rules in
    let may = first-may c.args.book.now.case.topology c.args.held.now c.args.interval c.args.floor c.in-Some.name first in
    err-any c.from_residual.result (λ why full. (_, may.3))

-- none may be asked to
pub returns-in-None-clause-asked : goal.returns-in-None-clause-asked
returns-in-None-clause-asked g c =
    let none : IsToPurge c.args.book.now.case.topology (worker_of c.args.held.now) c.args.interval 1 c.args.floor None = search rules in
    asked-none c.args.book.now (MayAskPurge c.args.book.now.case.topology (worker_of c.args.held.now) c.args.interval 1 c.args.floor) none
