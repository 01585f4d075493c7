-- Just which lines are written of a run whose results are written at once.
use Rattle.std.proofs.Common.{◌≡◌, ◌≤◌, ◌<◌, ◌+◌, ◌++◌, ◌∙◌, ℕ, Bool, false, cond, List, [], ◌∷◌, drop, get_or, length, map, take, Option, IfSome, refl, sym, ap, subst, arith, append_assoc, append-nil}
use Rattle.std.specs.Option.{is_some}
use Rattle.std.specs.Io.KnownBytes.{append_known}
use Rattle.std.proofs.Math.Seq.{drop-append_seam}
use Rattle.std.proofs.lemmas.Bool.{le-ltb, lt-ltb}
use Rattle.std.proofs.lemmas.List.{drop_more, take-append-le}
use Rattle.list_lemmas.proofs.Told.{if-same}
use Rattle.mw_types.specs.declared.delivery.Emission.{Emission}
use Rattle.mw_types.specs.declared.entry.Entry.{Entry}
use Rattle.topology.specs.Shapes.{Shape}
use Rattle.topology.specs.Folding.{RoutesView}
use Rattle.row_keeper.specs.Rows.{Rows}
use Rattle.run_history.specs.Cases.{CaseShape}
use Rattle.run_history.specs.Fences.{Begins}
use Rattle.run_history.specs.Runs.{run_of}
use Rattle.live_outlet.specs.Covering.{ended, told_by}
use Rattle.live_outlet.specs.Outlets.{OutletView, WritesTo, emitted_by, live_lines, piece_of}
use Rattle.live_outlet.proofs.Emitting.{emitted-all}
use Rattle.live_outlet.proofs.Pumping.{append_known-none, writes-more}
use Rattle.node.specs.declared.outcome.Outcome.{Outcome}
use Rattle.world.specs.scripts.Acts.{Acted, world_then}
use Rattle.world.specs.scripts.Stepping.{HasActed}
use Rattle.world.specs.scripts.WorldStates.{WorldState, world_of}
use Rattle.world.specs.scripts.Worlds.{World, empty_world}
use Rattle.plans.specs.declared.step.Step.{Step}
use Rattle.task_runs.specs.Lives.{GoesOnBy, IsWritingOn, WritesLines, WritesReplay, place_behind, pumped_from, script_lines, stepped_from, written_before}
use Rattle.task_runs.proofs.Living.{behind-none, ended-append, lines-ended, more-again, piece-alone}
use Rattle.task_runs.proofs.Running.{seen_again}

-- ---- a pump

-- what a beginning emitted before a place the history did too
emitted-same : (shape : Shape) (front history : List Entry) (place : ℕ) → Begins front history → place ≤ length front
    → emitted_by shape front place ≡ emitted_by shape history place
emitted-same shape front history place begins within =
    ap (λ (h : List Entry). (run_of shape h).emissions) (sym (take-append-le place front begins.0 within) ∙ ap (take place) begins.1)

-- so what was written of a beginning was written of the history
pub writes-grown : (shape : Shape) (front history : List Entry) (old new : OutletView) (some grown : Option (List ℕ))
    → Begins front history → old.place ≤ length front → new.place ≤ length front → WritesTo shape front old new some grown
    → WritesTo shape history old new some grown
writes-grown shape front history old new some grown begins was is writes = record {
  es = writes.es;
  between = ap (λ (l : List Emission). l ++ writes.es) (sym (emitted-same shape front history old.place begins was))
      ∙ writes.between ∙ emitted-same shape front history new.place begins is;
  live = writes.live;
  wrote = writes.wrote;
  owes = writes.owes;
}

-- an outlet that did nothing has written nothing
pub writes-none : (shape : Shape) (history : List Entry) (o : OutletView) (text : Option (List ℕ)) → WritesTo shape history o o text text
writes-none shape history o text = record {
  es = [];
  between = append-nil (emitted_by shape history o.place);
  live = tt;
  wrote = sym (append_known-none text);
  owes = refl;
}

-- a pump that came to the history's end has written the lines from its place on
pub pumped-lines : (shape : Shape) (history : List Entry) (old new : OutletView) (some grown : Option (List ℕ))
    → new.place ≡ length history → WritesTo shape history old new some grown
    → GoesOnBy (pumped_from shape history old.place) old new some grown
pumped-lines shape history old new some grown at_end writes = λ none.
    let before = emitted_by shape history old.place in
    let whole : before ++ writes.es ≡ (run_of shape history).emissions =
    writes.between ∙ ap (emitted_by shape history) at_end ∙ emitted-all shape history (length history) (omega arith) in
    let rest : writes.es ≡ drop (length before) (run_of shape history).emissions =
    sym (drop-append_seam before writes.es) ∙ ap (drop (length before)) whole in record {
      wrote = writes.wrote
          ∙ ap (λ (b : Bool). append_known some (piece_of b (live_lines shape writes.es))) none
          ∙ ap (append_known some) (piece-alone (live_lines shape writes.es) ∙ lines-ended shape writes.es)
          ∙ ap (λ (es : List Emission). append_known some (ended (map (told_by shape) es))) rest;
      none_owed = behind-none old.owes new.owes (live_lines shape writes.es) none writes.owes;
      place = at_end;
    }

-- ---- a step

-- what an outlet writes behind a step, by whether an entry was appended
abbrev lines_if : Shape → List Entry → ℕ → Bool → List (List ℕ) × ℕ
lines_if shape history place more = cond more (pumped_from shape history place) ([], place)

-- one that appended an entry
pub stepped-lines : (shape : Shape) (history : List Entry) (count : ℕ) (step : Step) (old mid new : OutletView)
    (some grown : Option (List ℕ)) → count < length history → mid.owes ≡ old.owes → mid.place ≡ place_behind step old.place
    → new.place ≡ length history → WritesTo shape history mid new some grown
    → GoesOnBy (stepped_from shape history count step old.place) old new some grown
stepped-lines shape history count step old mid new some grown more owes place at_end writes = λ none.
    subst (λ (b : Bool). WritesLines (lines_if shape history (place_behind step old.place) b) new some grown)
    (sym (lt-ltb count (length history) more))
    (subst (λ (n : ℕ). WritesLines (pumped_from shape history n) new some grown) place
    (pumped-lines shape history mid new some grown at_end writes (owes ∙ none)))

-- and one that appended none
pub still-lines : (shape : Shape) (history : List Entry) (count : ℕ) (step : Step) (old new : OutletView) (text : Option (List ℕ))
    → length history ≤ count → new.owes ≡ old.owes → new.place ≡ place_behind step old.place
    → GoesOnBy (stepped_from shape history count step old.place) old new text text
still-lines shape history count step old new text least owes place = λ none.
    subst (λ (b : Bool). WritesLines (lines_if shape history (place_behind step old.place) b) new text text)
    (sym (le-ltb count (length history) least))
    (record { wrote = sym (append_known-none text); none_owed = owes ∙ none; place = place })

-- ---- a script

-- before its first step nothing is written
pub writing-none : (case : CaseShape) (world : World) (steps : List Step) (outlet : OutletView) (text : Option (List ℕ))
    → outlet.owes ≡ false → IsWritingOn case world outlet.place steps world steps outlet text text
writing-none case world steps outlet text none =
    record { lines = []; wrote = sym (append_known-none text); none_owed = none; whole = refl }

-- lines before lines
before-more : (xs ys : List (List ℕ)) (rest : List (List ℕ) × ℕ)
    → written_before xs (written_before ys rest) ≡ written_before (xs ++ ys) rest
before-more xs ys rest = λ i. (sym (append_assoc xs ys rest.0) i, rest.1)

-- one step more
writing-more : (case : CaseShape) (start world next : World) (from : ℕ) (all : List Step) (step : Step) (rest : List Step)
    (old new : OutletView) (text some grown : Option (List ℕ)) → next ≡ world_then case world step
    → IsWritingOn case start from all world (step ∷ rest) old text some
    → GoesOnBy (stepped_from case.topology next.history (length world.history) step old.place) old new some grown
    → IsWritingOn case start from all next rest new text grown
writing-more case start world next from all step rest old new text some grown same is goes =
    let writes = goes is.none_owed in
    let first = stepped_from case.topology next.history (length world.history) step old.place in
    record {
      lines = is.lines ++ first.0;
      wrote = writes.wrote ∙ ap (λ (t : Option (List ℕ)). append_known t (ended first.0)) is.wrote
          ∙ more-again text (ended is.lines) (ended first.0) ∙ ap (append_known text) (sym (ended-append is.lines first.0));
      none_owed = writes.none_owed;
      whole = is.whole
          ∙ ap (λ (w : World). let f = stepped_from case.topology w.history (length world.history) step old.place in
          written_before is.lines (written_before f.0 (script_lines case w f.1 rest))) (sym same)
          ∙ ap (λ (n : ℕ). written_before is.lines (written_before first.0 (script_lines case next n rest))) (sym writes.place)
          ∙ before-more is.lines first.0 (script_lines case next new.place rest);
    }

-- so it is where rows are seen
pub writing-step : (start old new : WorldState) (all : List Step) (at : ℕ) (d : Step) (outcome : Outcome) (from : ℕ)
    (was outlet : OutletView) (text some grown : Option (List ℕ))
    → at < length all → old.book.case ≡ start.book.case → is_some old.book.rows ≡ is_some start.book.rows
    → HasActed (get_or all at d) old new outcome
    → GoesOnBy (stepped_from old.book.case.topology new.book.history (length old.book.history) (get_or all at d) was.place)
    was outlet some grown
    → IfSome start.book.rows (λ _. IsWritingOn start.book.case (world_of start) from all (world_of old) (drop at all) was text some)
    → IfSome start.book.rows (λ _. IsWritingOn start.book.case (world_of start) from all (world_of new) (drop (at + 1) all) outlet text grown)
writing-step start old new all at d outcome from was outlet text some grown below case tells acted goes is =
    seen_again old.book.rows start.book.rows (sym tells) (λ rows did so.
    writing-more start.book.case (world_of start) (world_of old) (world_of new) from all (get_or all at d) (drop (at + 1) all)
    was outlet text some grown
    (ap (λ (a : Acted). a.1) did ∙ ap (λ (k : CaseShape). world_then k (world_of old) (get_or all at d)) case)
    (subst (λ (left : List Step). IsWritingOn start.book.case (world_of start) from all (world_of old) left was text some)
    (drop_more all at d below) so)
    (subst (λ (k : CaseShape). GoesOnBy (stepped_from k.topology new.book.history (length old.book.history) (get_or all at d) was.place)
    was outlet some grown) case goes)) acted is

-- behind its last step its lines are written
pub writing-all : (case : CaseShape) (start world : World) (from : ℕ) (all left : List Step) (outlet : OutletView)
    (text grown : Option (List ℕ)) (rows : Option Rows) → left ≡ []
    → IfSome rows (λ _. IsWritingOn case start from all world left outlet text grown)
    → IfSome rows (λ _. WritesLines (script_lines case start from all) outlet text grown)
writing-all case start world from all left outlet text grown rows none is = if-same rows rows _ _ refl (λ so. written so) is
  where
    written : IsWritingOn case start from all world left outlet text grown → WritesLines (script_lines case start from all) outlet text grown
    written so =
        let is = subst (λ (l : List Step). IsWritingOn case start from all world l outlet text grown) none so in record {
          wrote = is.wrote ∙ ap (λ (l : List (List ℕ)). append_known text (ended l))
              (sym (append-nil is.lines) ∙ sym (ap (λ (p : List (List ℕ) × ℕ). p.0) is.whole));
          none_owed = is.none_owed;
          place = sym (ap (λ (p : List (List ℕ) × ℕ). p.1) is.whole);
        }

-- ---- a drain

-- one turn after others
pub writes-on : (case other : CaseShape) (front history : List Entry) (first old new : OutletView) (text some grown : Option (List ℕ))
    → other ≡ case → Begins front history → first.place ≤ length front → old.place ≤ length front
    → WritesTo case.topology front first old text some → WritesTo other.topology history old new some grown
    → WritesTo case.topology history first new text grown
writes-on case other front history first old new text some grown same begins was is writes more =
    writes-more case.topology history first old new text some grown
    (writes-grown case.topology front history first old text some begins was is writes)
    (subst (λ (k : CaseShape). WritesTo k.topology history old new some grown) same more)

-- ---- a replay

-- the drain behind a script writes the rest
written-replay : (routes : RoutesView) (case : CaseShape) (steps : List Step) (history : List Entry) (mid new : OutletView)
    (text some grown : Option (List ℕ))
    → WritesLines (script_lines case (empty_world routes case.topology) 0 steps) mid text some
    → GoesOnBy (pumped_from case.topology history mid.place) mid new some grown → WritesReplay routes case steps history text grown
written-replay routes case steps history mid new text some grown first goes =
    let writes = goes first.none_owed in
    let script = script_lines case (empty_world routes case.topology) 0 steps in
    let rest = pumped_from case.topology history mid.place in
    writes.wrote ∙ ap (λ (t : Option (List ℕ)). append_known t (ended rest.0)) first.wrote
    ∙ more-again text (ended script.0) (ended rest.0)
    ∙ ap (append_known text) (sym (ended-append script.0 rest.0))
    ∙ ap (λ (n : ℕ). append_known text (ended (script.0 ++ (pumped_from case.topology history n).0))) first.place

-- so it is where rows are seen
pub replayed-lines : (routes : RoutesView) (case other : CaseShape) (world : World) (place : ℕ) (steps : List Step) (history : List Entry)
    (mid new : OutletView) (text some grown : Option (List ℕ)) (rows : Option Rows) → other ≡ case
    → world ≡ empty_world routes case.topology → place ≡ 0
    → IfSome rows (λ _. WritesLines (script_lines case world place steps) mid text some)
    → GoesOnBy (pumped_from other.topology history mid.place) mid new some grown
    → IfSome rows (λ _. WritesReplay routes case steps history text grown)
replayed-lines routes case other world place steps history mid new text some grown rows same begun none first goes =
    if-same rows rows _ _ refl (λ (lines : WritesLines (script_lines case world place steps) mid text some).
    written-replay routes case steps history mid new text some grown
    (subst (λ (n : ℕ). WritesLines (script_lines case (empty_world routes case.topology) n steps) mid text some) none
    (subst (λ (w : World). WritesLines (script_lines case w place steps) mid text some) begun lines))
    (subst (λ (k : CaseShape). GoesOnBy (pumped_from k.topology history mid.place) mid new some grown) same goes)) first
