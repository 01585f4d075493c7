use Rattle.std.proofs.Common.{◌≡◌, ◌∙◌, ◌+◌, ◌-◌, List, ap, sym, arith, nat_le, sum_by, length}
use Rattle.topology.specs.Shapes.{ComputationShape, parts_of}
use Rattle.topology.proofs.RulesHold.{is_few-cuts}
use Rattle.topology.proofs.file_rules.is_few.Goals as goal

pub returns-then-has_room_for_reads : goal.returns-then-has_room_for_reads
returns-then-has_room_for_reads c =
    let file = c.args.file.now in
    let reads = λ (l : List ComputationShape). nat_le (sum_by (λ (c : ComputationShape). length c.reads) l) 64 in
    let cuts = λ (l : List ComputationShape). sum_by (λ (c : ComputationShape). length c.cuts) l in
    let injectors = ap length c.injectors-injectors.ensures in
    let computations = ap length c.computations-computations.ensures in
    let parts : length c.injectors-injectors.result.now + length c.computations-computations.result.now ≡ parts_of file = omega (arith, injectors, computations) in
    is_few-cuts file _ (omega (arith, injectors)) (omega (arith, computations))
    (ap reads (sym c.computations.ensures) ∙ sym c.has_room_for_reads.ensures ∙ c.if-has_room_for_reads.true)
    (c.has_room_for_cuts.ensures
    ∙ ap (λ l. nat_le (cuts l) (61 - (length c.injectors-injectors.result.now + length c.computations-computations.result.now))) c.computations-then-has_room_for_reads.ensures
    ∙ ap (λ n. nat_le (cuts file.computations) (61 - n)) parts)
