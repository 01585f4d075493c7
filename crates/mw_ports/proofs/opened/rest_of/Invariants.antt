use Rattle.std.proofs.Common.{◌≡◌, ◌+◌, length}
use Rattle.std.specs.Io.KnownBytes.{Consumes}
use Rattle.mw_ports.proofs.opened.rest_of.Given as goal

-- what may still come is the limit without what is there, and what is there was taken
abbrev pub invariant-loop-left : goal.invariant-loop-left
invariant-loop-left g l =
    (length l.bytes.items + l.left ≡ l.limit)
    × Consumes (g.F.Read.remaining l.initial.file) (g.F.Read.remaining l.file) l.bytes.items

abbrev pub decreases-loop-left : goal.decreases-loop-left
decreases-loop-left g l = l.left
