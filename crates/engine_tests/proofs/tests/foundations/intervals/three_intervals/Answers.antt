use Rattle.std.proofs.Common.{◌∙◌, ◌∷◌, [], List, codes, All, subst, sym, refl}
use Rattle.std.specs.List.Sorted.{IsStrictlySortedBy}
use Rattle.std.proofs.lemmas.List.Elements.{All-from_recursion}
use Rattle.mw_types.specs.declared.key.PartCuts.{PartCuts}
use Rattle.key_intervals.specs.Intervals.{DivideKeys}
use Rattle.key_intervals.proofs.Made.{no_cuts}
use Rattle.engine_tests.proofs.tests.foundations.intervals.three_intervals.Goals as goal

two_cuts : DivideKeys (codes "h" ∷ codes "q" ∷ [])
unfolding IsStrictlySortedBy
two_cuts = ((refl, (refl, tt)), ((refl, tt), (tt, tt)))

abbrev P : PartCuts → Type 0
P p = DivideKeys p.cuts

abbrev three : List PartCuts
three = record { part = 0; cuts = [] } ∷ record { part = 1; cuts = codes "h" ∷ codes "q" ∷ [] } ∷ record { part = 2; cuts = [] } ∷ []

all_cut : All P three
all_cut = All-from_recursion P three (no_cuts, (two_cuts, (no_cuts, tt)))

pub of-requires-clause-cuts : goal.of-requires-clause-cuts
of-requires-clause-cuts g c = subst (All P) (sym (c.as_slice.ensures.elements ∙ c.three_parts-parts.ensures)) all_cut
