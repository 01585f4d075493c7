use Rattle.std.proofs.Common.{rules}
use Rattle.mw_ports.proofs.Pieces.{append_known-next}
use Rattle.mw_ports.proofs.sink.write_all.Goals as goal

pub loop-done-preserved : goal.loop-done-preserved
loop-done-preserved g c =
    let kept = c.loop-done.invariant in
    let wrote = c.in_ok-done.ensures in (
      search rules,
      append_known-next _ _ _ c.args.piece.now c.loop-done.done c.in_ok-done.field-0 kept.1 wrote.appended,
      search rules,
    )
