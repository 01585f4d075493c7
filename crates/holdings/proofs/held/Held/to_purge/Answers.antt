use Rattle.std.proofs.Common.{subst}
use Rattle.std.specs.Prelude.{option_copied}
use Rattle.holdings.specs.Holding.{HeldView}
use Rattle.holdings.specs.Purges.{IsFirstToPurge}
use Rattle.holdings.proofs.held.Held.to_purge.Goals as goal

-- the rows are those that are cached
pub returns : goal.returns
returns c = subst (λ (h : HeldView). IsFirstToPurge c.args.floor c.args.least h.rows (option_copied c.to_purge.result)) c.self.view_is
    c.to_purge.ensures
