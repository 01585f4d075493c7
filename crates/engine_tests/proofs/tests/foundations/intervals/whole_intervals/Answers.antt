use Rattle.std.proofs.Common.{◌≡◌, ◌∙◌, [], List, All, length, map, ap, subst, sym, arith}
use Rattle.std.proofs.lemmas.List.{length-map}
use Rattle.std.proofs.lemmas.List.Elements.{All-weaker}
use Rattle.mw_types.specs.declared.key.PartCuts.{PartCuts}
use Rattle.key_intervals.specs.Intervals.{bounds_of, DivideKeys}
use Rattle.key_intervals.specs.Division.{fresh}
use Rattle.key_intervals.proofs.Made.{no_cuts, length-bounds_of}
use Rattle.engine_tests.proofs.tests.foundations.intervals.whole_intervals.Goals as goal

all_cut : (parts : List PartCuts) → All (λ (p : PartCuts). p.cuts ≡ []) parts → All (λ (p : PartCuts). DivideKeys p.cuts) parts
all_cut parts h = All-weaker (λ (p : PartCuts). p.cuts ≡ []) (λ (p : PartCuts). DivideKeys p.cuts)
    (λ p e. subst DivideKeys (sym e) no_cuts) parts h

pub of-requires-clause-cuts : goal.of-requires-clause-cuts
of-requires-clause-cuts c = subst (All (λ (p : PartCuts). DivideKeys p.cuts)) (sym c.as_slice.ensures.elements)
    (all_cut _ c.in_ok-parts.ensures.whole)

pub of-requires-clause-few : goal.of-requires-clause-few
of-requires-clause-few c = omega (
  arith,
  ap (λ ps. length (bounds_of ps)) c.as_slice.ensures.elements,
  length-bounds_of _ c.in_ok-parts.ensures.whole,
  c.in_ok-parts.ensures.count,
)

pub returns-clause-parts : goal.returns-clause-parts
returns-clause-parts c =
    c.in_ok-intervals.ensures.parts ∙ ap length c.as_slice.ensures.elements ∙ c.in_ok-parts.ensures.count

pub returns-clause-count : goal.returns-clause-count
returns-clause-count c =
    ap length (c.in_ok-intervals.ensures.all ∙ ap (λ ps. map fresh (bounds_of ps)) c.as_slice.ensures.elements)
    ∙ length-map (bounds_of c.in_ok-parts.parts) fresh ∙ length-bounds_of _ c.in_ok-parts.ensures.whole ∙ c.in_ok-parts.ensures.count
