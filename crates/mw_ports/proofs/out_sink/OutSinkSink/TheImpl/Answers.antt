use Rattle.std.proofs.Common.{refl}
use Rattle.std.proofs.lemmas.Result.{IfOk-weaker}
use Rattle.mw_ports.specs.declared.sink.SinkFault.TheVariants.{Failed}
use Rattle.mw_ports.proofs.Causings.{cause_of, OnErr-always}
use Rattle.mw_ports.proofs.out_sink.OutSinkSink.TheImpl.Goals as goal

pub write-tells : goal.write-tells
write-tells g x c =
    let told = c.ensures in record {
      within = told.within;
      some = told.some;
      appended = IfOk-weaker c.result _ _ (λ count is. refl) told.within;
      unchanged = OnErr-always c.result refl;
      cause = cause_of _ _ c.result Failed (λ came. came) told.counted;
    }
