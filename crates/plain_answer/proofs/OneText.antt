-- A case has one plain text: lists in order that have the same elements are one list.
use Rattle.std.proofs.Common.{◌≡◌, ℕ, List, ◌++◌, sym, ◌∙◌, ap}
use Rattle.std.specs.List.{flat_map}
use Rattle.std.proofs.lemmas.List.Sorted.{IsPermutation-sym, IsPermutation-trans}
use Rattle.run_history.specs.Cases.{CaseShape}
use Rattle.run_history.specs.Texts.{ResultLine, line_cmp, as_line, line_data}
use Rattle.list_lemmas.proofs.Permuted.{sorted-same}
use Rattle.list_lemmas.proofs.Totals.{totals-permuted}
use Rattle.plain_answer.specs.Plain.{plain_lines, plain_summary, IsPlainText}
use Rattle.plain_answer.proofs.Lines.{line_cmp-total, same-line}

-- the plain text is one
pub one-text : (case : CaseShape) (one other : List ℕ) → IsPlainText case one → IsPlainText case other → one ≡ other
one-text case one other is also =
    is.spelled
    ∙ ap (λ lines. flat_map (λ (line : ResultLine). as_line (line_data line)) lines ++ as_line (plain_summary case))
    (sorted-same line_cmp line_cmp-total same-line is.lines also.lines is.in_order also.in_order
    (totals-permuted is.lines also.lines
    (IsPermutation-trans is.lines (plain_lines case) also.lines
    (IsPermutation-sym (plain_lines case) is.lines is.each_once) also.each_once)))
    ∙ sym also.spelled
