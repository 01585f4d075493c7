-- Which computations stay, and what they read then, where nobody counts what records come through.
use Rattle.std.proofs.Common.{◌≡◌, ℕ, suc, Bool, true, false, cond, if◌then◌else◌, nat_eq, List, [], ◌∷◌, map, map-id, refl, sym, ◌∙◌, ap}
use Rattle.std.specs.List.{flat_map}
use Rattle.std.specs.Cmp.Lexicographic.{pointwise}
use Rattle.std.proofs.lemmas.Bool.{cond_both}
use Rattle.std.proofs.lemmas.Simd.{map-map}
use Rattle.std.proofs.lemmas.List.Folds.{flat_map-map}
use Rattle.list_lemmas.proofs.Numbered.{map-flat_map}
use Rattle.topology.specs.Shapes.{ComputationShape, Reading}
use Rattle.topology.specs.Folding.{Way, Strong, way_of, way_past, way_through, strong_through, strong_as, strong_from, left_of}
use Rattle.topology.specs.Ways.{number_behind, with_first}

-- the readings that stand for one when a weak computation is taken out
abbrev pub reading_through : ComputationShape → Reading → List Reading
reading_through gone read = if pointwise nat_eq read.stream gone.stream
    then map (λ (source : Reading). record { stream = source.stream; by = read.by }) gone.reads
    else read ∷ []

-- a computation that stays when a weak one is taken out
abbrev pub through : ComputationShape → ComputationShape → ComputationShape
through gone reader = record reader { reads = flat_map (reading_through gone) reader.reads }

-- all that stay, once each weak one is taken out
abbrev pub strong_ones : List ComputationShape → List ComputationShape
strong_ones [] = []
strong_ones (first ∷ rest) = if first.weak then map (through first) (strong_ones rest) else first ∷ strong_ones rest

-- What holds of computations and of those that stay of them, if it holds of none, is kept where a weak one more is
-- taken out, and is kept where one more stays.
pub by_computation : (P : List ComputationShape → List ComputationShape → Type 0) → P [] []
    → ((gone : ComputationShape) (cs left : List ComputationShape) → gone.weak ≡ true → P cs left
    → P (gone ∷ cs) (map (through gone) left))
    → ((stays : ComputationShape) (cs left : List ComputationShape) → stays.weak ≡ false → P cs left
    → P (stays ∷ cs) (stays ∷ left))
    → (cs : List ComputationShape) → P cs (strong_ones cs)
by_computation P none goes stays [] = none
by_computation P none goes stays (c ∷ cs) =
    let rest = by_computation P none goes stays cs in
    cond_both c.weak (map (through c) (strong_ones cs)) (c ∷ strong_ones cs) (P (c ∷ cs))
    (λ weak. goes c cs (strong_ones cs) weak rest) (λ strong. stays c cs (strong_ones cs) strong rest)

-- ---- with numbers and without

-- one computation more
pub strong_from-cons : (n : ℕ) (c : ComputationShape) (cs : List ComputationShape)
    → strong_from n (c ∷ cs) ≡ with_first n c (strong_from (number_behind n c) cs)
strong_from-cons n c cs = elim c.weak as
    (λ b. let behind = strong_from (cond b (suc n) n) cs in
    cond b (map (strong_through n c) (strong_from (suc n) cs)) (strong_as c ∷ strong_from n cs)
    ≡ cond b (map (strong_through n c) behind) (strong_as c ∷ behind)) [
      | true ↦ refl
      | false ↦ refl
    ]

-- what a way reads
abbrev pub reading_of : Way → Reading
reading_of way = way.reading

-- the readings of a computation's ways, where one more is taken out
readings-through : (n : ℕ) (gone : ComputationShape) (ways : List Way)
    → map reading_of (flat_map (way_through n gone) ways) ≡ flat_map (reading_through gone) (map reading_of ways)
readings-through n gone ways =
    map-flat_map reading_of (way_through n gone) ways
    ∙ (λ i. flat_map (λ w. of_one w (pointwise nat_eq w.reading.stream gone.stream) i) ways)
    ∙ sym (flat_map-map (reading_through gone) reading_of ways)
  where
    of_one : (w : Way) (b : Bool) → map reading_of (cond b (map (way_past n w) gone.reads) (w ∷ []))
        ≡ cond b (map (λ (source : Reading). record { stream = source.stream; by = w.reading.by }) gone.reads)
        (w.reading ∷ [])
    of_one w true = map-map reading_of (way_past n w) gone.reads
    of_one w false = refl

-- so computations that stay are the same with numbers and without
left-first : (n : ℕ) (c : ComputationShape) (readers : List Strong)
    → map left_of (with_first n c readers)
    ≡ cond c.weak (map (through c) (map left_of readers)) (c ∷ map left_of readers)
left-first n c readers = elim c.weak as
    (λ b. map left_of (cond b (map (strong_through n c) readers) (strong_as c ∷ readers))
    ≡ cond b (map (through c) (map left_of readers)) (c ∷ map left_of readers)) [
      | true ↦
          map-map left_of (strong_through n c) readers
          ∙ (λ i. map (λ (s : Strong). record s.computation { reads = readings-through n c s.ways i }) readers)
          ∙ sym (map-map (through c) left_of readers)
      | false ↦
          let own : map reading_of (map way_of c.reads) ≡ c.reads =
          map-map reading_of way_of c.reads ∙ map-id c.reads in
          λ i. record c { reads = own i } ∷ map left_of readers
    ]

-- and so are all of them, whatever the first number is
pub left-strong : (n : ℕ) (cs : List ComputationShape) → map left_of (strong_from n cs) ≡ strong_ones cs
left-strong n [] = refl
left-strong n (c ∷ cs) =
    let later = number_behind n c in
    ap (map left_of) (strong_from-cons n c cs)
    ∙ left-first n c (strong_from later cs)
    ∙ ap (λ l. cond c.weak (map (through c) l) (c ∷ l)) (left-strong later cs)
