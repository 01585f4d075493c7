use Rattle.workers.proofs.Serving.{served-not}
use Rattle.workers.proofs.steps.report_of.Goals as goal

-- the interval is of another part
pub returns-then-not-is_of-clause-served : goal.returns-then-not-is_of-clause-served
returns-then-not-is_of-clause-served g c = served-not c.requires.fits
