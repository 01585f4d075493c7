use Rattle.std.proofs.Common.{ap, Some, ◌≡◌, ◌≤◌, length, min, arith}
use Rattle.std.proofs.lemmas.Result.{IfOk-weaker, on_err_weaker}
use Rattle.mw_ports.specs.declared.sink.SinkFault.TheVariants.{Failed}
use Rattle.mw_ports.proofs.Causings.{cause_of}
use Rattle.mw_ports.proofs.mem_sink.MemSinkSink.TheImpl.Goals as goal

pub write-tells : goal.write-tells
write-tells x c =
    let told = c.ensures in
    let old = c.args.self.now in
    let piece = c.args.piece.now in record {
      within = IfOk-weaker c.result (λ count. count ≡ min old.most (length piece)) (λ count. count ≤ length piece) (λ count is. omega arith) told.count;
      some = told.some;
      appended = IfOk-weaker c.result _ _ (λ count is. ap Some is) told.appended;
      unchanged = on_err_weaker c.result (ap Some) told.unchanged;
      cause = cause_of _ _ c.result Failed (λ came. came) told.faults;
    }
