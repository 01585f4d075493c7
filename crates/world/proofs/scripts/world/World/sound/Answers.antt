use Rattle.std.proofs.Common.{subst}
use Rattle.book.specs.Books.{BookView, core_of}
use Rattle.book.specs.Lawful.{IsLawful}
use Rattle.world.proofs.scripts.world.World.sound.Goals as goal

pub returns : goal.returns
returns g c = record { lawful = subst (λ (b : BookView). IsLawful b.case (core_of b)) c.book.ensures.book c.history.ensures.lawful }
