use Rattle.watermark.proofs.Held.{held-added}
use Rattle.engine_tests.proofs.tests.foundations.marks.add_and_remove.Goals as goal

pub remove-requires : goal.remove-requires
remove-requires c = record { held = held-added _ _ _ c.in_ok-add.ensures.added }
