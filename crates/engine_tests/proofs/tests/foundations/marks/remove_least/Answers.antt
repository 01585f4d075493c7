use Rattle.std.proofs.Common.{Contains, ◌<◌, subst, sym}
use Rattle.mw_types.specs.declared.TheConstants.{END}
use Rattle.watermark.proofs.Held.{held-least}
use Rattle.engine_tests.proofs.tests.foundations.marks.remove_least.Goals as goal

pub remove-requires : goal.remove-requires
remove-requires c = record {
  held = subst (Contains c.args.oldest.now) (sym c.least-least.ensures.least)
      (held-least c.args.oldest.now (subst (λ n. n < END) c.least-least.ensures.least c.if-least-lt-END.true));
}
