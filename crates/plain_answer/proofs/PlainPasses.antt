-- A plain count asks nowhere whether a computation is weak, so a case has the lines of the one with plain passes.
use Rattle.std.proofs.Common.{◌≡◌, ℕ, ◌+◌, ◌==◌, List, [], ◌∷◌, ◌++◌, length, map, filter, slice_get, unwrap_or, refl, sym, ◌∙◌, ap, subst}
use Rattle.std.specs.List.{flat_map, enumerate_from}
use Rattle.std.specs.List.Sorted.{IsPermutation}
use Rattle.std.proofs.lemmas.List.Sorted.{IsPermutation-trans}
use Rattle.mw_types.specs.declared.identity.RowName.{RowName}
use Rattle.mw_types.specs.declared.record.Record.{Record}
use Rattle.topology.specs.Shapes.{Shape, ComputationShape, injectors_of, stream_of, consumers_of, subscriptions_to}
use Rattle.topology.specs.Rules.{IsTopology}
use Rattle.topology.proofs.ReadOrder.{streams_by}
use Rattle.topology.proofs.WhatIsLeft.{injected_streams}
use Rattle.run_history.specs.Cases.{CaseShape}
use Rattle.run_history.specs.Made.{sends_of}
use Rattle.plain_answer.specs.Plain.{plain_of, plain_lines, plain_summary, streams_with, members_read, lines_unread, injected_of, sources_of, IsPlainText}
use Rattle.plain_answer.specs.Passes.{as_pass, as_passes, with_passes, without_weak, HasLinesOf}
use Rattle.plain_answer.proofs.WeakPasses.{lines-folded}

module _ (case : CaseShape) where
  abbrev shape : Shape
  shape = case.topology

  -- computations publish the same
  streams-passes : (cs : List ComputationShape) → streams_by (map as_pass cs) ≡ streams_by cs
  streams-passes [] = refl
  streams-passes (c ∷ cs) = ap (λ l. c.stream ∷ l) (streams-passes cs)

  -- so does each part
  stream-passes : (part : ℕ) → stream_of (as_passes shape) part ≡ stream_of shape part
  stream-passes part =
      ap (λ l. unwrap_or (slice_get (injected_streams shape ++ l) part) []) (streams-passes shape.computations)

  -- computations subscribe to the same
  subscriptions-passes : (s : List ℕ) (n : ℕ) (cs : List ComputationShape)
      → flat_map (subscriptions_to s) (enumerate_from n (map as_pass cs)) ≡ flat_map (subscriptions_to s) (enumerate_from n cs)
  subscriptions-passes s n [] = refl
  subscriptions-passes s n (c ∷ cs) = ap (λ l. subscriptions_to s (n, c) ++ l) (subscriptions-passes s (n + 1) cs)

  -- so each part's stream has the same consumers
  consumers-passes : (part : ℕ) → consumers_of (as_passes shape) part ≡ consumers_of shape part
  consumers-passes part =
      ap (λ s. flat_map (subscriptions_to s) (enumerate_from (injectors_of shape) (map as_pass shape.computations))) (stream-passes part)
      ∙ subscriptions-passes (stream_of shape part) (injectors_of shape) shape.computations

  -- parts read the same of these streams
  read-passes : (streams : List (List Record)) (part : ℕ) → members_read (as_passes shape) streams part ≡ members_read shape streams part
  read-passes streams part = λ i. map (λ (r : RowName × Record). (r.0.key, r.1))
      (filter (λ (r : RowName × Record). r.0.part == part)
      (flat_map (λ (s : ℕ × List Record). flat_map (sends_of (consumers-passes s.0 i)) s.1) (enumerate_from 0 streams)))

  -- so computations give the same
  given-passes : (found : List (List Record)) (cs : List ComputationShape)
      → streams_with (as_passes shape) found (map as_pass cs) ≡ streams_with shape found cs
  given-passes found [] = refl
  given-passes found (c ∷ cs) =
      ap (λ reads. streams_with (as_passes shape) (found ++ plain_of c.kind reads ∷ []) (map as_pass cs)) (read-passes found (length found))
      ∙ given-passes (found ++ plain_of c.kind (members_read shape found (length found)) ∷ []) cs

  -- and the lines are the same
  lines-passes : plain_lines (with_passes case) ≡ plain_lines case
  lines-passes = λ i. flat_map
      (λ (s : ℕ × List Record). lines_unread (consumers-passes s.0 i) (stream-passes s.0 i) s.1)
      (enumerate_from 0 (given-passes (map injected_of (sources_of case)) shape.computations i))

-- the lines with plain passes are those without the weak computations
pub lines-seen_through : (case : CaseShape) → IsTopology case.topology
    → IsPermutation (plain_lines (with_passes case)) (plain_lines (without_weak case))
lines-seen_through case is_topology =
    subst (λ l. IsPermutation l (plain_lines (without_weak case))) (sym (lines-passes case)) (lines-folded case is_topology)

-- so the text without the weak computations has those lines
pub text-seen_through : (case : CaseShape) (text : List ℕ) → IsTopology case.topology → IsPlainText (without_weak case) text
    → HasLinesOf (with_passes case) text
text-seen_through case text is_topology plain = record {
  lines = plain.lines;
  last = plain_summary (without_weak case);
  each_once = IsPermutation-trans (plain_lines (with_passes case)) (plain_lines (without_weak case)) plain.lines
      (lines-seen_through case is_topology) plain.each_once;
  in_order = plain.in_order;
  spelled = plain.spelled;
}
