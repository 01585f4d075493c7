use Rattle.std.proofs.Common.{refl}
use Rattle.workers.proofs.Handing.{handed-not}
use Rattle.workers.proofs.boxes.hand_out.Goals as goal

pub loop-pass-init : goal.loop-pass-init
loop-pass-init g c = record {
  at = refl;
  handed = handed-not c.args.made.items c.args.passes.now.items;
}
