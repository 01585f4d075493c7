use Rattle.std.proofs.Common.{◌≡◌, ◌+◌, ℕ, take, drop}
use Rattle.std.specs.List.{list_all, enumerate_from}
use Rattle.topology.specs.Shapes.{ComputationShape, injectors_of, streams_of}
use Rattle.topology.specs.FileRules.{reads_among, reads_above}
use Rattle.topology.proofs.file_rules.reads_above.Given as goal

-- all read above where those that are left do
abbrev pub invariant-loop-at : goal.invariant-loop-at
invariant-loop-at l =
    reads_above l.file
    ≡ list_all (λ (p : ℕ × ComputationShape). reads_among (take p.0 (streams_of l.file)) p.1.reads)
    (enumerate_from (injectors_of l.file + l.at) (drop l.at l.file.computations))
