-- What a run leaves whose results are written at once.
use Rattle.std.proofs.Common.{◌≡◌, ◌≤◌, ◌+◌, ◌==◌, ◌++◌, ◌∙◌, ℕ, true, List, [], ◌∷◌, length, take, Option, Some, None, IfSome, refl, inl, inr, sym, ap, subst, arith, true≢false}
use Rattle.std.specs.Io.KnownBytes.{append_known}
use Rattle.std.proofs.Math.Seq.{take-append-add}
use Rattle.std.proofs.lemmas.List.{length-append}
use Rattle.mw_types.specs.declared.identity.RowName.{RowName}
use Rattle.mw_ports.specs.Sinks.{AppendsPrefix}
use Rattle.mw_ports.specs.declared.sink.SinkFault.TheVariants as sinks
use Rattle.row_keeper.specs.Rows.{Rows}
use Rattle.run_history.specs.Texts.{as_line, summary_data}
use Rattle.live_outlet.specs.Covering.{ended, results_of}
use Rattle.book.specs.Claims.{IsDamagedRow}
use Rattle.node.specs.declared.outcome.NodeFault.{NodeFault}
use Rattle.node.specs.declared.outcome.NodeFault.TheVariants as faults
use Rattle.plans.specs.declared.step.Step.{Step}
use Rattle.task_runs.specs.declared.live.LiveFault.{LiveFault}
use Rattle.task_runs.specs.declared.live.LiveFault.TheVariants as lives
use Rattle.task_runs.specs.declared.status.Status.{Status}
use Rattle.task_runs.specs.declared.status.Status.TheVariants as status
use Rattle.task_runs.specs.declared.task.Task.{Task}
use Rattle.task_runs.specs.declared.task.Wanted.{Wanted}
use Rattle.task_runs.specs.declared.task.Wanted.TheVariants.{ResultAlone, HistoryFirst, SummaryAlone, EachAtOnce}
use Rattle.task_runs.specs.declared.task.Before.{Before}
use Rattle.task_runs.specs.declared.task.Before.TheVariants.{Steps}
use Rattle.task_runs.specs.Limits.{history_limit}
use Rattle.task_runs.specs.Tasks.{is_at_once}
use Rattle.task_runs.specs.Histories.{IsReadAfter, IsShortOf}
use Rattle.task_runs.specs.Lives.{HasResults, WritesReplay, replay_lines}
use Rattle.task_runs.specs.Answers.{Left, IsInOrder, IsLiveReplay, IsPart, IsPlainWhole, IsRun, IsTextSoFar, IsWholeRun, IsWholeText, RunLeaves}
use Rattle.task_runs.specs.Inside.{IsLiveBehind, IsWritten, of_live}
use Rattle.task_runs.proofs.Leaving.{stopped}
use Rattle.task_runs.proofs.Living.{more-again}

-- what is to be written is each result at once
pub at_once : (wanted : Wanted) → is_at_once wanted ≡ true → wanted ≡ EachAtOnce
at_once ResultAlone is = absurd (true≢false (sym is))
at_once HistoryFirst is = absurd (true≢false (sym is))
at_once SummaryAlone is = absurd (true≢false (sym is))
at_once EachAtOnce is = refl

-- ---- a run that came to its end

-- a beginning of one text behind another is one of both
behind-text : (text some grown : Option (List ℕ)) (front back : List ℕ) → some ≡ append_known text front
    → AppendsPrefix back some grown → AppendsPrefix (front ++ back) text grown
behind-text text some grown front back wrote part =
    let within : part.0 ≤ length back = part.1 in (
      length front + part.0,
      omega (arith, within, length-append front back),
      part.2 ∙ ap (λ (t : Option (List ℕ)). append_known t (take part.0 back)) wrote
          ∙ more-again text front (take part.0 back)
          ∙ ap (append_known text) (sym (take-append-add front back part.0)),
    )

module _ (task : Task) (left : Left) (steps : List Step) (mid : Option (List ℕ)) (live : task.wanted ≡ EachAtOnce)
    (before : task.before ≡ Steps steps) (run : IsWholeRun task left)
    (has : HasResults task.case.topology left.history (length steps == 0) left.text.0 mid)
    (lines : IfSome left.rows.1 (λ _. WritesReplay task.routes task.case steps left.history left.text.0 mid)) where
  -- the lines of all results, and the summary line
  all_text : List ℕ
  all_text = ended has.so_far.lines ++ as_line (summary_data left.history)

  whole_text : IsWholeText task.wanted task.case.topology left.history all_text
  unfolding all_text
  whole_text = subst (λ (w : Wanted). IsWholeText w task.case.topology left.history all_text) (sym live)
      (record { lines = has.so_far.lines; each = has.so_far.each; all = has.so_far.all; spelled = refl })

  -- each stands once, where there are no steps
  once_text : (ss : List Step) → ((length ss == 0) ≡ true → has.so_far.lines ≡ results_of task.case.topology left.history)
      → IsInOrder EachAtOnce (Steps ss) task.case.topology left.history all_text
  unfolding all_text
  once_text [] in_order = ap (λ (l : List (List ℕ)). ended l ++ as_line (summary_data left.history)) (in_order refl)
  once_text (s ∷ ss) in_order = tt

  in_order : IsInOrder task.wanted task.before task.case.topology left.history all_text
  in_order = subst (λ (w : Wanted). IsInOrder w task.before task.case.topology left.history all_text) (sym live)
      (subst (λ (b : Before). IsInOrder EachAtOnce b task.case.topology left.history all_text) (sym before)
      (once_text steps has.in_order))

  -- nothing is said of the plain count
  not_plain : (rows : Option Rows) → IfSome rows (λ _. IsPlainWhole task.wanted task.case left.history all_text)
  not_plain None = tt
  not_plain (Some rows) = subst (λ (w : Wanted). IsPlainWhole w task.case left.history all_text) (sym live) tt

  -- the lines of the replay, and the summary line
  replayed : left.text.1 ≡ append_known mid (as_line (summary_data left.history)) → (rows : Option Rows)
      → IfSome rows (λ _. WritesReplay task.routes task.case steps left.history left.text.0 mid)
      → IfSome rows (λ _. IsLiveReplay task.wanted task.before task.routes task.case left.history left.text)
  replayed is None lines = tt
  replayed is (Some rows) lines =
      subst (λ (w : Wanted). IsLiveReplay w task.before task.routes task.case left.history left.text) (sym live)
      (subst (λ (b : Before). IsLiveReplay EachAtOnce b task.routes task.case left.history left.text) (sym before)
      (is ∙ ap (λ (t : Option (List ℕ)). append_known t (as_line (summary_data left.history))) lines
      ∙ more-again left.text.0 (ended (replay_lines task.routes task.case steps left.history)) (as_line (summary_data left.history))))

  in_part : AppendsPrefix (as_line (summary_data left.history)) mid left.text.1 → IsPart task left
  unfolding all_text
  in_part part = record {
    run = run;
    text = all_text;
    whole = whole_text;
    part = behind-text left.text.0 mid left.text.1 (ended has.so_far.lines) (as_line (summary_data left.history)) has.so_far.wrote part;
  }

  -- what is written behind them is what its status leaves
  pub wrote_live : (s : Status) → IsWritten (as_line (summary_data left.history)) mid left.text.1 s → RunLeaves task left s
  unfolding all_text
  wrote_live status.Ok is = record {
    run = run;
    text = all_text;
    whole = whole_text;
    in_order = in_order;
    written = is ∙ ap (λ (t : Option (List ℕ)). append_known t (as_line (summary_data left.history))) has.so_far.wrote
        ∙ more-again left.text.0 (ended has.so_far.lines) (as_line (summary_data left.history));
    plain = not_plain left.rows.1;
    replayed = replayed is left.rows.1 lines;
  }
  wrote_live status.Usage is = absurd is
  wrote_live (status.NoFile n) is = absurd is
  wrote_live (status.TopologyRefused why) is = absurd is
  wrote_live (status.EventsRefused file line why) is = absurd is
  wrote_live (status.PlanRefused line) is = absurd is
  wrote_live status.KeeperFault is = absurd is
  wrote_live status.SinkFault is = inl (in_part is)
  wrote_live status.NoMemory is = inl (inl (in_part is))
  wrote_live (status.NotEmpty name bytes) is = absurd is
  wrote_live status.HistoryFull is = absurd is
  wrote_live (status.RowDamaged name bytes) is = absurd is
  wrote_live (status.ReadFault n) is = absurd is
  wrote_live (status.TooLong n) is = absurd is
  wrote_live (status.FileCount n m) is = absurd is
  wrote_live (status.CollectRefused line first) is = absurd is
  wrote_live (status.AuditRefused line r) is = absurd is

-- ---- a run that was stopped

-- what it leaves is what its status leaves
pub stopped_live : (task : Task) (left : Left) (fault : LiveFault) → task.wanted ≡ EachAtOnce → IsRun task left
    → IsLiveBehind fault task.case.topology left.history left.text.0 left.text.1
    → ((why : NodeFault) → fault ≡ lives.Run why → why ≡ faults.HistoryFull → length left.history ≡ history_limit)
    → (fault ≡ lives.Run faults.HistoryFull → IfSome left.rows.1 (λ _. IsShortOf task.routes task.case task.before left.history))
    → ((why : NodeFault) (name : RowName) (bytes : List ℕ) → fault ≡ lives.Run why → why ≡ faults.RowDamaged name bytes
    → (count : ℕ) × IsReadAfter task.before count left.history × IsDamagedRow task.case left.rows.1 count name bytes)
    → RunLeaves task left (of_live fault)
stopped_live task left (lives.Run why) live run behind full more damaged = stopped task left why run
    (subst (λ (w : Wanted). IsTextSoFar w task.case.topology left.history left.text) (sym live) behind)
    (full why refl) (λ e. more (ap lives.Run e)) (λ name bytes e. damaged why name bytes refl e)
stopped_live task left (lives.Sink sinks.Failed) live run behind full more damaged =
    inr (record { live = live; run = run; part = behind })
stopped_live task left (lives.Sink sinks.NoMemory) live run behind full more damaged =
    inl (inr (record { live = live; run = run; part = behind }))
