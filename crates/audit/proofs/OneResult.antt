-- A history has one result text, which is not empty.
use Rattle.std.proofs.Common.{◌≡◌, ℕ, ◌<◌, List, [], ◌∷◌, ◌++◌, length, map, sym, ap, ◌∙◌, arith, length-append}
use Rattle.std.specs.List.{flat_map}
use Rattle.std.proofs.lemmas.List.Sorted.{IsPermutation-sym, IsPermutation-trans}
use Rattle.mw_types.specs.declared.entry.Entry.{Entry}
use Rattle.topology.specs.Shapes.{Shape}
use Rattle.run_history.specs.Runs.{run_of}
use Rattle.run_history.specs.Texts.{ResultLine, IsResultText, as_line, line_cmp, line_data, line_of, summary_data}
use Rattle.serde_json.specs.Written.{compact_text}
use Rattle.list_lemmas.proofs.Permuted.{sorted-same}
use Rattle.list_lemmas.proofs.Totals.{totals-permuted}
use Rattle.plain_answer.proofs.Lines.{line_cmp-total, same-line}

-- the result text of a history is one
pub one-result : (shape : Shape) (history : List Entry) (one other : List ℕ) → IsResultText shape history one
    → IsResultText shape history other → one ≡ other
one-result shape history one other is also =
    is.spelled
    ∙ ap (λ lines. flat_map (λ (line : ResultLine). as_line (line_data line)) lines ++ as_line (summary_data history))
    (sorted-same line_cmp line_cmp-total same-line is.lines also.lines is.in_order also.in_order
    (totals-permuted is.lines also.lines
    (IsPermutation-trans is.lines (map (line_of shape) (run_of shape history).emissions) also.lines
    (IsPermutation-sym (map (line_of shape) (run_of shape history).emissions) is.lines is.each_once) also.each_once)))
    ∙ sym also.spelled

-- it has the line feed of its summary
pub result-some : (shape : Shape) (history : List Entry) (text : List ℕ) → IsResultText shape history text → 0 < length text
result-some shape history text is =
    let lines : List ℕ = flat_map (λ (line : ResultLine). as_line (line_data line)) is.lines in
    let summary : List ℕ = compact_text (summary_data history) in
    let whole : length text ≡ length (lines ++ (summary ++ 10 ∷ [])) = ap length is.spelled in
    omega (arith, whole, length-append lines (summary ++ 10 ∷ []), length-append summary (10 ∷ []))
