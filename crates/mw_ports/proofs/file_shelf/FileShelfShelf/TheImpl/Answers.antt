use Rattle.std.proofs.Common.{refl, inl, inr}
use Rattle.mw_ports.specs.declared.shelf.ShelfFault.TheVariants.{Missing, Failed, TooLong}
use Rattle.mw_ports.proofs.Causings.{cause_of}
use Rattle.mw_ports.proofs.file_shelf.FileShelfShelf.TheImpl.Goals as goal

pub read-tells : goal.read-tells
read-tells g x c =
    let told = c.ensures in record {
      unchanged = refl;
      within = told.within;
      told = tt;
      failed = cause_of _ _ c.result Failed (λ came. came) told.faults;
      missing = cause_of _ _ c.result Missing inl told.lacks;
      too_long = cause_of _ _ c.result TooLong inr told.lacks;
    }
