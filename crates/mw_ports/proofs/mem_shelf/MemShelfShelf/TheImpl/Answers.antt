use Rattle.std.proofs.Common.{ap, Some, inl, inr}
use Rattle.mw_ports.specs.declared.shelf.ShelfFault.TheVariants.{Missing, Failed, TooLong}
use Rattle.mw_ports.specs.Fakes.{file_of}
use Rattle.mw_ports.proofs.Causings.{cause_of}
use Rattle.mw_ports.proofs.mem_shelf.MemShelfShelf.TheImpl.Goals as goal

pub read-tells : goal.read-tells
read-tells x c =
    let told = c.ensures in record {
      unchanged = ap (λ files. Some (file_of files)) told.files;
      within = told.within;
      told = told.told;
      failed = cause_of _ _ c.result Failed (λ came. came) told.faults;
      missing = cause_of _ _ c.result Missing inl told.lacks;
      too_long = cause_of _ _ c.result TooLong inr told.lacks;
    }
