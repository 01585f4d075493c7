-- A case has the lines of the one that is left of it without its weak computations.
use Rattle.std.proofs.Common.{◌≡◌, ℕ, ◌+◌, Bool, true, false, not, ◌||◌, List, [], ◌∷◌, ◌++◌, map, nat_le, refl, sym, ◌∙◌, ap, subst, arith}
use Rattle.std.specs.Cmp.{tied_itself}
use Rattle.std.specs.List.{list_any, AllByRecursion}
use Rattle.std.specs.List.Sorted.{IsPermutation}
use Rattle.std.specs.Ordering.{is_eq}
use Rattle.std.proofs.lemmas.Bool.{and_parts}
use Rattle.std.proofs.lemmas.List.Elements.{recursion_from_All}
use Rattle.std.proofs.lemmas.Simd.{map-map}
use Rattle.topology.specs.Shapes.{Shape, ComputationShape}
use Rattle.topology.specs.Rules.{IsTopology, IsPassWhereWeak}
use Rattle.topology.specs.Folding.{is_read, are_weak_read, way_count, strong_from, folded}
use Rattle.topology.proofs.FoldLaws.{through, strong_ones, by_computation}
use Rattle.topology.proofs.ReadOrder.{is, AreApart, streams_by, ReadBefore, differ-behind, differ-each, read-apart}
use Rattle.topology.proofs.WhatIsLeft.{injected_streams, topology-order, order-left, strong_shape, strong-topology, folded-strong}
use Rattle.topology.proofs.StillRead.{IsOfStrong, AreReadBehind, read-strong, read-behind, weak-read, of-none, of-strong}
use Rattle.list_lemmas.proofs.Lists.{each-weaker, each-both}
use Rattle.list_lemmas.proofs.Permuted.{totals-permutation}
use Rattle.list_lemmas.proofs.Totals.{total, when, total-append, total-zero, total-each, HaveSameTotals}
use Rattle.run_history.specs.Cases.{CaseShape}
use Rattle.run_history.specs.Texts.{ResultLine, line_cmp}
use Rattle.plain_answer.specs.Plain.{plain_line, plain_lines, injected_of, sources_of}
use Rattle.plain_answer.proofs.Lines.{line_cmp-total, same-line}
use Rattle.plain_answer.proofs.StreamNames.{Streams, same-strong}
use Rattle.plain_answer.proofs.NamedLines.{injected_named, case_streams, line_value, line_total, lines-total}

-- a weak computation's stream has nothing in the one sum, and that of another has the same in both
abbrev CountsWhereStrong : (List ℕ → ℕ) → (List ℕ → ℕ) → ComputationShape → Type 0
CountsWhereStrong h k c = (c.weak ≡ true → h c.stream ≡ 0) × (c.weak ≡ false → h c.stream ≡ k c.stream)

-- so both sums are the same, over all computations and over those that stay
total-left : (h k : List ℕ → ℕ) (cs : List ComputationShape) → AllByRecursion (CountsWhereStrong h k) cs
    → total h (streams_by cs) ≡ total k (streams_by (strong_ones cs))
total-left h k = by_computation
    (λ cs left. AllByRecursion (CountsWhereStrong h k) cs → total h (streams_by cs) ≡ total k (streams_by left))
    (λ each. refl)
    (λ gone cs left weak rest each.
    let streams : streams_by (map (through gone) left) ≡ streams_by left =
    map-map (λ (c : ComputationShape). c.stream) (through gone) left in
    let sum : h gone.stream + total h (streams_by cs) ≡ total k (streams_by (map (through gone) left)) =
    omega (arith, each.0.0 weak, rest each.1, ap (total k) streams) in
    sum)
    (λ c cs left strong rest each.
    let sum : h c.stream + total h (streams_by cs) ≡ k c.stream + total k (streams_by left) =
    omega (arith, each.0.1 strong, rest each.1) in
    sum)

module _ (case : CaseShape) (rules : IsTopology case.topology) where
  -- its computations, and what is known to them
  abbrev cs : List ComputationShape
  cs = case.topology.computations

  abbrev known : List (List ℕ)
  known = injected_streams case.topology

  -- what is left of it
  abbrev left : CaseShape
  left = record case { topology = strong_shape case.topology }

  -- computations read what is known to them
  reads : ReadBefore known cs
  reads = topology-order case.topology rules

  -- so none publishes what one before it reads
  apart : AreApart cs
  apart = read-apart known cs rules.streams_differ reads

  -- the stream of a weak one is read
  has_reader : AllByRecursion (λ (c : ComputationShape). c.weak ≡ true → is_read cs c.stream ≡ true) cs
  has_reader = weak-read cs (and_parts (are_weak_read cs) (nat_le (way_count (strong_from 0 cs)) 64) rules.foldable).0

  -- by one behind it
  behind : AreReadBehind cs
  behind = read-behind cs known cs rules.streams_differ reads (λ s new. refl) has_reader

  module _ (g : ResultLine → ℕ) where
    -- the sum over a stream's lines, in the case and in what is left of it
    abbrev before : List ℕ → ℕ
    before = line_total g cs (case_streams case)

    abbrev after : List ℕ → ℕ
    after = line_total g (strong_ones cs) (case_streams left)

    -- what a stream has there where it has lines exactly if nothing reads it
    abbrev lines_of : CaseShape → List ℕ → Bool → ℕ
    lines_of of s has_readers = total (λ r. when (not has_readers) (g (plain_line s r))) (case_streams of s)

    -- where the stream is of no weak computation, it has the same records and as many readers or none
    of_strong : (s : List ℕ) → IsOfStrong s cs → before s ≡ after s
    of_strong s strong =
        same-strong injected cs apart (recursion_from_All IsPassWhereWeak cs rules.passes) s strong (line_value g cs s)
        ∙ ap (lines_of left s) (sym (read-strong cs apart behind s strong))
      where
        injected : Streams
        injected = injected_named known (map injected_of (sources_of case))

    -- and where it has readers, it has no lines
    of_read : (s : List ℕ) → is_read cs s ≡ true → before s ≡ 0
    of_read s read = ap (lines_of case s) read ∙ total-zero (case_streams case s)

    -- so the sums over the injectors' streams are the same
    injectors-same : total before known ≡ total after known
    injectors-same = total-each before after known
        (each-weaker (λ s. list_any (is s) (streams_by cs) ≡ false) (λ s. before s ≡ after s)
        (λ s new. of_strong s (of-none s cs new)) known (differ-each known (streams_by cs) rules.streams_differ))

    -- and those over the computations'
    computations-same : total before (streams_by cs) ≡ total after (streams_by (strong_ones cs))
    computations-same = total-left before after cs
        (each-weaker
        (λ (c : ComputationShape).
        (c.weak ≡ true → is_read cs c.stream ≡ true) × (c.weak ≡ false → IsOfStrong c.stream cs))
        (CountsWhereStrong before after)
        (λ c facts. (λ weak. of_read c.stream (facts.0 weak), λ strong. of_strong c.stream (facts.1 strong)))
        cs
        (each-both (λ (c : ComputationShape). c.weak ≡ true → is_read cs c.stream ≡ true)
        (λ (c : ComputationShape). c.weak ≡ false → IsOfStrong c.stream cs) cs has_reader
        (of-strong cs (differ-behind known (streams_by cs) rules.streams_differ))))

    -- which are all lines
    lines-left : total g (plain_lines case) ≡ total g (plain_lines left)
    lines-left =
        lines-total case rules.streams_differ reads g
        ∙ total-append before known (streams_by cs)
        ∙ (λ i. injectors-same i + computations-same i)
        ∙ sym (total-append after known (streams_by (strong_ones cs)))
        ∙ sym (lines-total left (strong-topology case.topology rules).streams_differ (order-left known cs reads) g)

  -- whatever is summed up over the lines, so they are the same lines
  pub lines-folded : IsPermutation (plain_lines case) (plain_lines (record case { topology = folded case.topology }))
  lines-folded =
      let lines_with : Shape → List ResultLine = λ shape. plain_lines (record case { topology = shape }) in
      totals-permutation (λ a b. is_eq (line_cmp a b)) same-line (λ a. ap is_eq (tied_itself line_cmp-total a))
      (plain_lines case) (lines_with (folded case.topology))
      (subst (λ shape. HaveSameTotals (plain_lines case) (lines_with shape)) (sym (folded-strong case.topology))
      lines-left)
