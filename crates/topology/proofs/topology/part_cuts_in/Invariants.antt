use Rattle.std.proofs.Common.{◌≡◌, ℕ, map}
use Rattle.std.specs.List.{range_with_len}
use Rattle.topology.specs.Shapes.{cuts_of}
use Rattle.topology.proofs.topology.part_cuts_in.Given as goal

-- the parts so far have their cuts
abbrev pub invariant-loop-part : goal.invariant-loop-part
invariant-loop-part l = l.all ≡ map (λ (part : ℕ). record { part = part; cuts = cuts_of l.parts part }) (range_with_len 0 l.part)
