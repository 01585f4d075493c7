-- The result text of a finished history is the plain count, where its spikes are.
use Rattle.std.proofs.Common.{◌≡◌, ℕ, ◌<◌, List, ◌++◌, length, map, Some, sym, ◌∙◌, ap}
use Rattle.std.specs.List.{flat_map}
use Rattle.std.proofs.lemmas.List.Concat.{length-flat_map}
use Rattle.std.proofs.lemmas.List.Sorted.{IsPermutation-sym, IsPermutation-trans}
use Rattle.mw_types.specs.declared.TheConstants.{MAX_STAMP}
use Rattle.mw_types.specs.declared.kind.Kind.TheVariants as kinds
use Rattle.mw_types.specs.declared.delivery.Delivery.{Delivery}
use Rattle.mw_types.specs.declared.entry.Entry.{Entry}
use Rattle.topology.specs.Shapes.{kind_of}
use Rattle.run_history.specs.Cases.{CaseShape}
use Rattle.run_history.specs.Inputs.{IsRunnable}
use Rattle.run_history.specs.Runs.{run_of}
use Rattle.run_history.specs.Legal.{IsLegal, IsDone}
use Rattle.run_history.specs.Texts.{ResultLine, IsResultText, line_of, as_line, line_data, summary_data}
use Rattle.serde_json.specs.Data.{object, member, no_members, number, unsigned}
use Rattle.std.specs.Prelude.{codes}
use Rattle.list_lemmas.proofs.Totals.{total, total-map, total-length, HaveSameTotals}
use Rattle.plain_answer.specs.Plain.{Keyed, row_members, row_keys, windows_in, plain_of, fires_of, plain_lines, plain_summary, IsPlainText}
use Rattle.plain_answer.specs.Stories.{done_of, out_of, fires_on}
use Rattle.plain_answer.proofs.CountPlain.{count-plain}
use Rattle.plain_answer.proofs.Firing.{count-fires}
use Rattle.plain_answer.proofs.Lines.{lines-plain}
use Rattle.plain_answer.proofs.Members.{out_at}
use Rattle.plain_answer.proofs.Numbers.{FiresPlainly, handled-plain, fired-plain, injected-plain, late-plain}
use Rattle.plain_answer.proofs.Parts.{IsPlain}
use Rattle.plain_answer.proofs.Passing.{done_at, legal-passed, pass-fires}
use Rattle.plain_answer.proofs.Taking.{member_read, reads_done}

-- what is asked of the spikes of a history
pub record AreSpikesPlain (case : CaseShape) (h : List Entry) : Type 0 where
  pub streams : (part last times : ℕ) → kind_of case.topology part ≡ Some (kinds.Spike last times) → (ms : List Keyed)
      → HaveSameTotals (reads_done part (done_of case.topology h)) ms
      → HaveSameTotals (out_at part (out_of case.topology h)) (plain_of (kinds.Spike last times) ms)
  pub fires : (part last times : ℕ) → kind_of case.topology part ≡ Some (kinds.Spike last times) → (ms : List Keyed)
      → HaveSameTotals (reads_done part (done_of case.topology h)) ms → total (fires_on part) h ≡ fires_of (kinds.Spike last times) ms

module _ (case : CaseShape) (h : List Entry) (runs : IsRunnable case) (legal : IsLegal case h)
    (done : IsDone case (run_of case.topology h)) (short : length h < MAX_STAMP) (spikes : AreSpikesPlain case h) where
  -- a pass gives what it read
  pass-plain : (part : ℕ) → kind_of case.topology part ≡ Some kinds.Pass → (ms : List Keyed)
      → HaveSameTotals (reads_done part (done_of case.topology h)) ms
      → HaveSameTotals (out_at part (out_of case.topology h)) (plain_of kinds.Pass ms)
  pass-plain part kind ms reads g =
      ap (total g) (legal-passed case part kind h legal)
      ∙ total-map g (λ (d : Delivery). d.item) (done_at part (done_of case.topology h))
      ∙ sym (total-map (λ (m : Keyed). g m.1) member_read (done_at part (done_of case.topology h)))
      ∙ reads (λ m. g m.1)
      ∙ sym (total-map g (λ (m : Keyed). m.1) ms)

  -- so each part gives what it gives plainly
  all-plain : IsPlain case h
  all-plain part (kinds.Count size) kind ms reads = count-plain case part size runs kind h legal done short ms reads
  all-plain part (kinds.Spike last times) kind ms reads = spikes.streams part last times kind ms reads
  all-plain part kinds.Pass kind ms reads = pass-plain part kind ms reads

  -- a count fires once a window
  windows-fire : (part size : ℕ) → kind_of case.topology part ≡ Some (kinds.Count size) → (ms : List Keyed)
      → HaveSameTotals (reads_done part (done_of case.topology h)) ms → total (fires_on part) h ≡ fires_of (kinds.Count size) ms
  windows-fire part size kind ms reads =
      count-fires case part size kind h legal ∙ sym (total-length (out_at part (out_of case.topology h)))
      ∙ count-plain case part size runs kind h legal done short ms reads (λ r. 1)
      ∙ total-length (plain_of (kinds.Count size) ms)
      ∙ length-flat_map (λ key. windows_in size key (row_members key ms)) (row_keys ms)

  -- and fires as often as it does plainly
  all-fire : FiresPlainly case h
  all-fire part (kinds.Count size) kind ms reads = windows-fire part size kind ms reads
  all-fire part (kinds.Spike last times) kind ms reads = spikes.fires part last times kind ms reads
  all-fire part kinds.Pass kind ms reads = pass-fires case part kind h legal

  -- the numbers of the summary
  summary-plain : summary_data h ≡ plain_summary case
  summary-plain = λ i. object
      (member (codes "fired") (number (unsigned (fired-plain case h runs legal done all-plain all-fire i)))
      (member (codes "handled") (number (unsigned (handled-plain case h runs legal done all-plain i)))
      (member (codes "injected") (number (unsigned (injected-plain case h runs legal done all-plain i)))
      (member (codes "late") (number (unsigned (late-plain case h runs legal done all-plain i))) no_members))))

  -- the result text is the plain count
  pub result-plain : (text : List ℕ) → IsResultText case.topology h text → IsPlainText case text
  result-plain text is = record {
    lines = is.lines;
    each_once = IsPermutation-trans (plain_lines case) (map (line_of case.topology) (run_of case.topology h).emissions) is.lines
        (IsPermutation-sym _ _ (lines-plain case h runs legal done all-plain)) is.each_once;
    in_order = is.in_order;
    spelled = is.spelled ∙ ap (λ d. flat_map (λ (line : ResultLine). as_line (line_data line)) is.lines ++ as_line d) summary-plain;
  }
