use Rattle.std.proofs.Common.{◌≡◌, ◌++◌, take, drop}
use Rattle.live_outlet.specs.Outlets.{AreLive, live_lines}
use Rattle.live_outlet.proofs.outlet.append_lines.Given as goal

-- the lines so far, and those of the emissions that are left
abbrev pub invariant-loop-emission : goal.invariant-loop-emission
invariant-loop-emission l = record {
  same :
      l.piece.items ++ live_lines l.case.topology (drop l.emission-index l.emissions)
      ≡ l.initial.piece.items ++ live_lines l.case.topology l.emissions;
  live : AreLive l.case.topology (take l.emission-index l.emissions);
}
