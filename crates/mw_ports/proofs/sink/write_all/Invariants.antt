use Rattle.std.proofs.Common.{◌≡◌, ◌≤◌, ◌-◌, length, take}
use Rattle.std.specs.Io.KnownBytes.{append_known}
use Rattle.mw_ports.proofs.sink.write_all.Given as goal

-- what is done is a beginning of the piece, and stands behind the text; no fault is forgotten
abbrev pub invariant-loop-done : goal.invariant-loop-done
invariant-loop-done g l =
    (l.done ≤ length l.piece)
    × (g.O.Sink.text l.out ≡ append_known (g.O.Sink.text l.initial.out) (take l.done l.piece))
    × (g.O.Sink.faults l.initial.out ≤ g.O.Sink.faults l.out)

abbrev pub decreases-loop-done : goal.decreases-loop-done
decreases-loop-done g l = length l.piece - l.done
