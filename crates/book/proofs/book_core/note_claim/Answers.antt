use Rattle.std.specs.Ordering.{nat_cmp}
use Rattle.std.specs.BTreeMap.{get}
use Rattle.book.proofs.ClaimLaws.{KnowsClaims-claim}
use Rattle.book.proofs.book_core.note_claim.Goals as goal

-- the claim is the last of its interval
pub returns-clause-knows : goal.returns-clause-knows
returns-clause-knows c =
    KnowsClaims-claim (get nat_cmp c.args.sequencers.now) (get nat_cmp c.insert.new.self) c.args.history.now c.push.new.self
    c.args.worker c.args.interval c.len-number.result c.requires.knows c.in_ok-push.ensures.appended c.len-number.ensures.count
    c.in_default.ensures.updates.0
