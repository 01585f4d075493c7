use Rattle.std.proofs.Common.{◌≡◌, ◌∙◌, ◌++◌, ◌∷◌, [], All, length, ap, subst, sym, arith}
use Rattle.std.proofs.lemmas.List.{length-append}
use Rattle.std.proofs.lemmas.List.Elements.{All-push}
use Rattle.mw_types.specs.declared.key.PartCuts.{PartCuts}
use Rattle.key_intervals.specs.Intervals.{AreNumbered}
use Rattle.key_intervals.proofs.Made.{AreNumbered-push}
use Rattle.engine_tests.proofs.tests.foundations.intervals.whole_parts.Goals as goal

pub loop-part-preserved : goal.loop-part-preserved
loop-part-preserved c =
    let more : c.push.new.self ≡ c.loop-part.parts ++ c.whole.result ∷ [] = c.in_ok-push.ensures.appended in
    record {
      count = omega (arith, ap length more, length-append c.loop-part.parts (c.whole.result ∷ []));
      numbered = subst (AreNumbered 0) (sym more) (AreNumbered-push 0 c.loop-part.parts c.whole.result c.loop-part.invariant.numbered
          (ap (λ (p : PartCuts). p.part) c.whole.ensures ∙ omega arith));
      whole = subst (All (λ (p : PartCuts). p.cuts ≡ [])) (sym more)
          (All-push (λ (p : PartCuts). p.cuts ≡ []) c.loop-part.parts c.whole.result c.loop-part.invariant.whole
          (ap (λ (p : PartCuts). p.cuts) c.whole.ensures));
    }
