use Rattle.holdings.proofs.HeldSteps.{AreAllHeld-beside}
use Rattle.holdings.proofs.claims.fits_beside.Goals as goal

-- what was known under each lease stays
pub returns : goal.returns
returns c = record { beside = AreAllHeld-beside }
