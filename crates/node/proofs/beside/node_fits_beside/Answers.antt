use Rattle.node.proofs.FitLaws.{Fits-beside}
use Rattle.node.proofs.beside.node_fits_beside.Goals as goal

pub returns : goal.returns
returns c = record { beside = Fits-beside }
