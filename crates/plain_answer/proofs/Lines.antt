-- Lists with the same totals are permutations, and so the lines of a history are the plain ones.
use Rattle.std.proofs.Common.{◌≡◌, ℕ, ◌+◌, true, List, [], ◌∷◌, map, refl, sym, ◌∙◌, ap, arith}
use Rattle.std.specs.List.{flat_map, enumerate_from}
use Rattle.std.specs.List.Sorted.{IsPermutation}
use Rattle.std.specs.Ordering.{is_eq, nat_cmp, int_cmp, ordering_then}
use Rattle.std.specs.Cmp.{IsTotalOrder, then_total, on_total, nat_cmp_total, int_cmp_total, tied_itself}
use Rattle.std.specs.Cmp.Lexicographic.{nat_list_cmp_total}
use Rattle.std.proofs.lemmas.Map.Lookups.{exact_unsigned, exact_signed, exact_bytes}
use Rattle.mw_types.specs.declared.record.Record.{Record}
use Rattle.mw_types.specs.declared.entry.Entry.{Entry}
use Rattle.mw_types.specs.Orders.{key_cmp}
use Rattle.topology.specs.declared.subscription.Subscription.{Subscription}
use Rattle.topology.specs.Shapes.{Shape, consumers_of, stream_of}
use Rattle.run_history.specs.Cases.{CaseShape}
use Rattle.run_history.specs.Inputs.{IsRunnable}
use Rattle.run_history.specs.Runs.{run_of}
use Rattle.run_history.specs.Legal.{IsLegal, IsDone}
use Rattle.run_history.specs.Texts.{ResultLine, line_of, line_cmp}
use Rattle.history_laws.proofs.RowSteps.{both_Equal}
use Rattle.list_lemmas.proofs.Tests.{equal_from_test}
use Rattle.list_lemmas.proofs.Permuted.{totals-permutation}
use Rattle.list_lemmas.proofs.Totals.{total, when, total-append, total-map, total-zero}
use Rattle.plain_answer.specs.Plain.{plain_line, lines_unread, plain_lines, plain_streams}
use Rattle.plain_answer.specs.Stories.{Member}
use Rattle.plain_answer.proofs.Parts.{IsPlain, stream_total, out-plain}
use Rattle.plain_answer.proofs.Sent.{none_reads, is_unread, emitted-total}

-- ---- lines

-- lines are in a total order
pub line_cmp-total : IsTotalOrder line_cmp
line_cmp-total = then_total (on_total (λ (l : ResultLine). l.stream) nat_list_cmp_total)
    (then_total (on_total (λ (l : ResultLine). l.stamp) nat_cmp_total)
    (then_total (on_total (λ (l : ResultLine). l.key) nat_list_cmp_total) (on_total (λ (l : ResultLine). l.value) int_cmp_total)))

-- lines that tie are one
pub same-line : (a b : ResultLine) → is_eq (line_cmp a b) ≡ true → a ≡ b
same-line a b e =
    let one = both_Equal (key_cmp a.stream b.stream)
    (ordering_then (nat_cmp a.stamp b.stamp) (ordering_then (key_cmp a.key b.key) (int_cmp a.value b.value)))
    (equal_from_test (line_cmp a b) e) in
    let two = both_Equal (nat_cmp a.stamp b.stamp) (ordering_then (key_cmp a.key b.key) (int_cmp a.value b.value)) one.1 in
    let three = both_Equal (key_cmp a.key b.key) (int_cmp a.value b.value) two.1 in
    λ i. record {
      stream = exact_bytes a.stream b.stream one.0 i;
      stamp = exact_unsigned a.stamp b.stamp two.0 i;
      key = exact_bytes a.key b.key three.0 i;
      value = exact_signed a.value b.value three.1 i;
    }

-- the lines of streams that nothing reads
unread-total : (ss : List Subscription) (g : ResultLine → ℕ) (stream : List ℕ) (items : List Record)
    → total g (lines_unread ss stream items) ≡ total (λ r. when (none_reads ss) (g (plain_line stream r))) items
unread-total [] g stream items = total-map g (plain_line stream) items
unread-total (s ∷ ss) g stream items = sym (total-zero items)

-- and of all streams
pub streams-lines : (shape : Shape) (g : ResultLine → ℕ) (n : ℕ) (streams : List (List Record))
    → total g (flat_map (λ (s : ℕ × List Record). lines_unread (consumers_of shape s.0) (stream_of shape s.0) s.1)
    (enumerate_from n streams))
    ≡ stream_total (λ o. when (is_unread shape o.0) (g (plain_line (stream_of shape o.0) o.1))) n streams
streams-lines shape g n [] = refl
streams-lines shape g n (x ∷ xs) =
    omega (
      arith,
      total-append g (lines_unread (consumers_of shape n) (stream_of shape n) x)
          (flat_map (λ (s : ℕ × List Record). lines_unread (consumers_of shape s.0) (stream_of shape s.0) s.1) (enumerate_from (n + 1) xs)),
      unread-total (consumers_of shape n) g (stream_of shape n) x,
      streams-lines shape g (n + 1) xs,
    )

-- at the end the lines of what was emitted are the plain lines
pub lines-plain : (case : CaseShape) (h : List Entry) → IsRunnable case → IsLegal case h → IsDone case (run_of case.topology h)
    → IsPlain case h
    → IsPermutation (map (line_of case.topology) (run_of case.topology h).emissions) (plain_lines case)
lines-plain case h runs legal done plain =
    totals-permutation (λ a b. is_eq (line_cmp a b)) same-line (λ a. ap is_eq (tied_itself line_cmp-total a))
    (map (line_of case.topology) (run_of case.topology h).emissions) (plain_lines case)
    (λ g.
    let of : Member → ℕ = λ o. g (plain_line (stream_of case.topology o.0) o.1) in
    total-map g (line_of case.topology) (run_of case.topology h).emissions
    ∙ emitted-total case of h legal
    ∙ out-plain case h runs legal done plain (λ o. when (is_unread case.topology o.0) (of o))
    ∙ sym (streams-lines case.topology g 0 (plain_streams case)))
