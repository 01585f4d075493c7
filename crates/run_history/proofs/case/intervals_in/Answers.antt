use Rattle.std.proofs.Common.{◌∙◌, All, ap, length, map, sym, subst}
use Rattle.mw_types.specs.declared.key.PartCuts.{PartCuts}
use Rattle.key_intervals.specs.Intervals.{AreNumbered, DivideKeys, bounds_of}
use Rattle.key_intervals.specs.Division.{fresh}
use Rattle.run_history.proofs.CaseIntervals.{part_cuts_of-numbered, part_cuts_of-cuts, intervals-few}
use Rattle.run_history.proofs.IntervalLaws.{length-part_cuts_of}
use Rattle.run_history.proofs.case.intervals_in.Goals as goal

pub of-requires-clause-numbered : goal.of-requires-clause-numbered
of-requires-clause-numbered c =
    subst (AreNumbered 0) (sym (c.as_slice.ensures.elements ∙ c.in_ok-cuts.ensures.cut)) (part_cuts_of-numbered c.args.topology.now)

pub of-requires-clause-cuts : goal.of-requires-clause-cuts
of-requires-clause-cuts c =
    subst (All (λ (p : PartCuts). DivideKeys p.cuts)) (sym (c.as_slice.ensures.elements ∙ c.in_ok-cuts.ensures.cut))
    (part_cuts_of-cuts c.args.topology.now c.parts-parts.ensures.rules)

pub of-requires-clause-few : goal.of-requires-clause-few
of-requires-clause-few c =
    intervals-few c.args.topology.now c.as_slice.result.now c.parts-parts.ensures.rules
    (c.as_slice.ensures.elements ∙ c.in_ok-cuts.ensures.cut)

pub returns : goal.returns
returns c =
    let made = c.in_ok-intervals.ensures in
    let cuts = c.as_slice.ensures.elements ∙ c.in_ok-cuts.ensures.cut in
    let parts = made.parts ∙ ap length cuts ∙ length-part_cuts_of c.args.topology.now in
    let injectors = made.injectors ∙ c.injectors.ensures.count in
    let given = made.all ∙ ap (λ ps. map fresh (bounds_of ps)) cuts in
    λ at. record { parts = parts at; injectors = injectors at; given = given at }
