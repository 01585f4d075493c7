-- Why the search may stop at more than 64 readings: with each computation that it comes to there are more, or as many.
use Rattle.std.proofs.Common.{◌≡◌, ℕ, ◌<◌, ◌≤◌, Bool, true, false, cond, nat_eq, nat_le, List, ◌∷◌, length, map, Some, None, refl, sym, ◌∙◌, ap, subst, arith}
use Rattle.std.specs.Cmp.Lexicographic.{pointwise}
use Rattle.std.proofs.lemmas.Bool.{cond_both, cond-false, lt-leb, leb-false}
use Rattle.std.proofs.lemmas.List.Elements.{recursion_from_All}
use Rattle.std.proofs.lemmas.List.Sums.{sum_by-cons, sum_by-le-sum_by}
use Rattle.list_lemmas.proofs.Lists.{none_some}
use Rattle.topology.specs.Shapes.{ComputationShape}
use Rattle.topology.specs.Folding.{Way, Strong, way_past, way_through, strong_through, strong_as, strong_from, way_count}
use Rattle.topology.specs.Ways.{AllRead, number_behind, with_first, unless_many}
use Rattle.topology.proofs.Lists.{sum_by-map, length-flat_map_some, some-either}
use Rattle.topology.proofs.FoldLaws.{strong_from-cons}

-- how many ways a computation has
abbrev ways_of : Strong → ℕ
ways_of reader = length reader.ways

-- there are no fewer ways with one computation more
more-ways : (n : ℕ) (c : ComputationShape) → 1 ≤ length c.reads → (readers : List Strong)
    → way_count readers ≤ way_count (with_first n c readers)
more-ways n c some readers =
    cond_both c.weak (map (strong_through n c) readers) (strong_as c ∷ readers) (λ l. way_count readers ≤ way_count l)
    (λ weak. omega (
      arith,
      sum_by-map ways_of (strong_through n c) readers,
      sum_by-le-sum_by ways_of (λ s. ways_of (strong_through n c s)) readers
          (λ s. length-flat_map_some (way_through n c) each s.ways),
    ))
    (λ strong. omega (arith, sum_by-cons ways_of (strong_as c) readers))
  where
    each : (w : Way) → 1 ≤ length (way_through n c w)
    each w = some-either (pointwise nat_eq w.reading.stream c.stream) (way_past n w) c.reads w some

-- where nothing is told, there are many
many : (readers : List Strong) → None ≡ unless_many readers → 64 < way_count readers
many readers = by (nat_le (way_count readers) 64) refl
  where
    by : (b : Bool) → nat_le (way_count readers) 64 ≡ b → None ≡ cond b (Some readers) None → 64 < way_count readers
    by true few none = absurd (none_some readers none)
    by false many none = leb-false (way_count readers) 64 many

-- where there are many behind a computation, there are many with it
pub none-with_first : (n : ℕ) (cs : List ComputationShape) (c : ComputationShape) (rest : List ComputationShape)
    → cs ≡ c ∷ rest → AllRead cs
    → None ≡ unless_many (strong_from (number_behind n c) rest) → None ≡ unless_many (strong_from n cs)
none-with_first n cs c rest split read none =
    let behind = strong_from (number_behind n c) rest in
    let all = recursion_from_All (λ (d : ComputationShape). 1 ≤ length d.reads) (c ∷ rest) (subst AllRead split read) in
    let first = with_first n c behind in
    let more : 64 < way_count first = omega (arith, many behind none, more-ways n c all.0 behind) in
    sym (cond-false (nat_le (way_count first) 64) (Some first) None (lt-leb (way_count first) 64 more))
    ∙ ap unless_many (sym (ap (strong_from n) split ∙ strong_from-cons n c rest))
