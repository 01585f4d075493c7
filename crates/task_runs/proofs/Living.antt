-- What a text is that was written while its run went on.
use Rattle.std.proofs.Common.{◌≡◌, ◌≤◌, ◌+◌, ◌++◌, ℕ, Bool, true, false, List, [], ◌∷◌, length, map, take, Option, Some, None, refl, sym, ◌∙◌, ap, subst, arith, append_assoc, true≢false}
use Rattle.std.specs.Prelude.{Contains}
use Rattle.std.specs.List.{AllByRecursion}
use Rattle.std.specs.Io.KnownBytes.{append_known}
use Rattle.std.proofs.Math.Seq.{take-append_seam}
use Rattle.std.proofs.lemmas.List.{take-append-le}
use Rattle.std.proofs.lemmas.List.Concat.{flat_map-append}
use Rattle.std.proofs.lemmas.List.Elements.{All-contains_itself, Contains-append_left, Contains-append_right, recursion_from_All}
use Rattle.list_lemmas.proofs.Lists.{each-append, each-weaker}
use Rattle.mw_types.specs.declared.delivery.Emission.{Emission}
use Rattle.mw_types.specs.declared.entry.Entry.{Entry}
use Rattle.mw_ports.specs.Sinks.{AppendsPrefix}
use Rattle.topology.specs.Shapes.{Shape}
use Rattle.run_history.specs.Fences.{Begins}
use Rattle.run_history.specs.Runs.{run_of}
use Rattle.live_outlet.specs.LiveLines.{live_of, live_line_of, IsLive}
use Rattle.live_outlet.specs.Outlets.{AreBetween, AreLive, IsPumpedFrom, OutletView, StopsAt, WritesTo, emitted_by, live_lines, owes_behind, piece_of}
use Rattle.live_outlet.specs.Covering.{StandIn, ended, results_of, told_by}
use Rattle.live_outlet.proofs.Emitting.{emitted-all, emitted-grows}
use Rattle.live_outlet.proofs.Pumping.{append_known-none}
use Rattle.task_runs.specs.Lives.{AreResultsOf, IsCutBehind, IsLiveInPart, IsLiveSoFar, IsPumpedTo, IsResultOf, PumpsOn, StepsOn}

-- ---- lines

-- live lines are lines that end
pub lines-ended : (shape : Shape) (es : List Emission) → live_lines shape es ≡ ended (map (told_by shape) es)
lines-ended shape [] = refl
lines-ended shape (e ∷ es) = ap (λ l. live_line_of shape e ++ l) (lines-ended shape es)

-- where no LF is owed, lines are a piece
pub piece-alone : (bytes : List ℕ) → piece_of false bytes ≡ bytes
piece-alone [] = refl
piece-alone (b ∷ bs) = refl

-- and none is owed behind them
none-owed : (bytes : List ℕ) → owes_behind false bytes ≡ false
none-owed [] = refl
none-owed (b ∷ bs) = refl

-- more, and more again
pub more-again : (text : Option (List ℕ)) (xs ys : List ℕ) → append_known (append_known text xs) ys ≡ append_known text (xs ++ ys)
more-again None xs ys = refl
more-again (Some zs) xs ys = ap Some (append_assoc zs xs ys)

-- lines behind lines
pub ended-append : (lines ms : List (List ℕ)) → ended (lines ++ ms) ≡ ended lines ++ ended ms
ended-append lines ms = flat_map-append (λ (line : List ℕ). line ++ 10 ∷ []) lines ms

-- some lines were written behind others
pub wrote-more : (shape : Shape) (lines : List (List ℕ)) (es : List Emission) (text some : Option (List ℕ))
    → some ≡ append_known text (ended lines)
    → append_known some (live_lines shape es) ≡ append_known text (ended (lines ++ map (told_by shape) es))
wrote-more shape lines es text some wrote =
    ap (λ (t : Option (List ℕ)). append_known t (live_lines shape es)) wrote
    ∙ more-again text (ended lines) (live_lines shape es)
    ∙ ap (λ (l : List ℕ). append_known text (ended lines ++ l)) (lines-ended shape es)
    ∙ ap (append_known text) (sym (ended-append lines (map (told_by shape) es)))

-- ---- emissions

-- a beginning of a history, by its length
front-taken : (front history : List Entry) → Begins front history → take (length front) history ≡ front
front-taken front history begins =
    ap (take (length front)) (sym begins.1) ∙ take-append_seam front begins.0

-- what it emitted the history emitted too
front-emitted : (shape : Shape) (front history : List Entry) → Begins front history
    → (more : List Emission) × ((run_of shape front).emissions ++ more ≡ (run_of shape history).emissions)
front-emitted shape front history begins =
    let grows = emitted-grows shape history (length front) in (
      grows.0,
      ap (λ (h : List Entry). (run_of shape h).emissions ++ grows.0) (sym (front-taken front history begins)) ∙ grows.1,
    )

-- a result of a beginning is one of the history
results-grow : (shape : Shape) (front history : List Entry) (lines : List (List ℕ)) → Begins front history
    → AreResultsOf shape front lines → AreResultsOf shape history lines
results-grow shape front history lines begins each =
    let more = front-emitted shape front history begins in
    each-weaker (IsResultOf shape front) (IsResultOf shape history)
    (λ line is. record {
      emission = is.emission;
      emitted = subst (λ (l : List Emission). Contains l is.emission) more.1
          (Contains-append_left (run_of shape front).emissions more.0 is.emission is.emitted);
      tells = is.tells;
    })
    lines each

-- what stands between two places is of the run
of_run : (shape : Shape) (history : List Entry) (from to : ℕ) (es : List Emission) → AreBetween shape history from to es
    → AllByRecursion (Contains (run_of shape history).emissions) es
of_run shape history from to es between =
    let grows = emitted-grows shape history to in
    each-weaker (Contains es) (Contains (run_of shape history).emissions)
    (λ e there. subst (λ (l : List Emission). Contains l e) (ap (λ l. l ++ grows.0) between ∙ grows.1)
    (Contains-append_left (emitted_by shape history from ++ es) grows.0 e
    (Contains-append_right (emitted_by shape history from) es e there)))
    es (recursion_from_All (Contains es) es (All-contains_itself es))

-- the first of two lists
each-first : {X : Type 0} (P : X → Type 0) (xs ys : List X) → AllByRecursion P (xs ++ ys) → AllByRecursion P xs
each-first P [] ys each = tt
each-first P (x ∷ xs) ys each = (each.0, each-first P xs ys each.1)

-- the lines of emissions of a run are its results
told-results : (shape : Shape) (history : List Entry) (es : List Emission)
    → AllByRecursion (Contains (run_of shape history).emissions) es → AreResultsOf shape history (map (told_by shape) es)
told-results shape history [] all = tt
told-results shape history (e ∷ es) all =
    (record { emission = e; emitted = all.0; tells = refl }, told-results shape history es all.1)

-- ---- emissions among lines

-- what holds of an emission and some lines
abbrev Stands : Shape → List (List ℕ) → Emission → Type 0
Stands shape lines e = Contains lines (told_by shape e) × IsLive (live_of shape e)

stand-before : (shape : Shape) (lines more : List (List ℕ)) (es : List Emission) → StandIn shape lines es
    → StandIn shape (lines ++ more) es
stand-before shape lines more es stand = each-weaker (Stands shape lines) (Stands shape (lines ++ more))
    (λ e is. (Contains-append_left lines more (told_by shape e) is.0, is.1)) es stand

stand-behind : (shape : Shape) (lines more : List (List ℕ)) (es : List Emission) → StandIn shape more es
    → StandIn shape (lines ++ more) es
stand-behind shape lines more es stand = each-weaker (Stands shape more) (Stands shape (lines ++ more))
    (λ e is. (Contains-append_right lines more (told_by shape e) is.0, is.1)) es stand

-- emissions stand among their own lines
stand-themselves : (shape : Shape) (es : List Emission) → AreLive shape es → StandIn shape (map (told_by shape) es) es
stand-themselves shape [] live = tt
stand-themselves shape (e ∷ es) live = (
  ((0, omega arith, refl), live.0),
  stand-behind shape (told_by shape e ∷ []) (map (told_by shape) es) es (stand-themselves shape es live.1),
)

-- those of the entries before a place stand there where those of all do
stand-first : (shape : Shape) (front history : List Entry) (place : ℕ) (lines : List (List ℕ)) → Begins front history
    → place ≤ length front → StandIn shape lines (run_of shape front).emissions → StandIn shape lines (emitted_by shape history place)
stand-first shape front history place lines begins within all =
    let grows = emitted-grows shape front place in
    let same : take place front ≡ take place history =
    sym (take-append-le place front begins.0 within) ∙ ap (take place) begins.1 in
    subst (λ (h : List Entry). StandIn shape lines (run_of shape h).emissions) same
    (each-first (Stands shape lines) (emitted_by shape front place) grows.0 (subst (StandIn shape lines) (sym grows.1) all))

-- ---- a pump

map-append : (shape : Shape) (xs ys : List Emission)
    → map (told_by shape) (xs ++ ys) ≡ map (told_by shape) xs ++ map (told_by shape) ys
map-append shape [] ys = refl
map-append shape (x ∷ xs) ys = ap (λ l. told_by shape x ∷ l) (map-append shape xs ys)

-- no LF is owed behind whole lines
pub behind-none : (owes later : Bool) (bytes : List ℕ) → owes ≡ false → later ≡ owes_behind owes bytes → later ≡ false
behind-none owes later bytes none is = is ∙ ap (λ (b : Bool). owes_behind b bytes) none ∙ none-owed bytes

module _ (shape : Shape) (front history : List Entry) (old : OutletView) (text some grown : Option (List ℕ))
    (begins : Begins front history) where
  -- all that was emitted since was written behind the rest
  so-far-on : (new : OutletView) → IsPumpedFrom shape old front → old.owes ≡ false → (so_far : IsLiveSoFar shape front text some)
      → (wrote : WritesTo shape history old new some grown) → new.place ≡ length history
      → IsLiveSoFar shape history text grown
  so-far-on new pumped none so_far wrote at_end =
      let lines = so_far.lines in
      let more = map (told_by shape) wrote.es in
      let whole : emitted_by shape history old.place ++ wrote.es ≡ (run_of shape history).emissions =
      wrote.between ∙ ap (emitted_by shape history) at_end ∙ emitted-all shape history (length history) (omega arith) in record {
        lines = lines ++ more;
        each = each-append (IsResultOf shape history) lines more (results-grow shape front history lines begins so_far.each)
            (told-results shape history wrote.es (of_run shape history old.place new.place wrote.es wrote.between));
        all = subst (StandIn shape (lines ++ more)) whole
            (each-append (Stands shape (lines ++ more)) (emitted_by shape history old.place) wrote.es
            (stand-before shape lines more (emitted_by shape history old.place)
            (stand-first shape front history old.place lines begins pumped.place so_far.all))
            (stand-behind shape lines more wrote.es (stand-themselves shape wrote.es wrote.live)));
        wrote = wrote.wrote
            ∙ ap (λ (b : Bool). append_known some (piece_of b (live_lines shape wrote.es))) none
            ∙ ap (append_known some) (piece-alone (live_lines shape wrote.es))
            ∙ wrote-more shape lines wrote.es text some so_far.wrote;
      }

  -- or a beginning of more
  cut-on : (new : OutletView) → old.owes ≡ false → IsLiveSoFar shape front text some → StopsAt shape history old new some grown
      → IsLiveInPart shape history text grown
  cut-on new none so_far stops =
      let lines = so_far.lines in
      let more = map (told_by shape) stops.es in
      let begun = map (told_by shape) stops.begun in
      let before : append_known some (piece_of old.owes (live_lines shape stops.es)) ≡ append_known text (ended (lines ++ more)) =
      ap (λ (b : Bool). append_known some (piece_of b (live_lines shape stops.es))) none
      ∙ ap (append_known some) (piece-alone (live_lines shape stops.es))
      ∙ wrote-more shape lines stops.es text some so_far.wrote in
      let piece : piece_of (owes_behind old.owes (live_lines shape stops.es)) (live_lines shape stops.begun) ≡ ended begun =
      ap (λ (b : Bool). piece_of b (live_lines shape stops.begun))
      (behind-none old.owes (owes_behind old.owes (live_lines shape stops.es)) (live_lines shape stops.es) none refl)
      ∙ piece-alone (live_lines shape stops.begun) ∙ lines-ended shape stops.begun in record {
        lines = lines ++ more;
        each = each-append (IsResultOf shape history) lines more (results-grow shape front history lines begins so_far.each)
            (told-results shape history stops.es (of_run shape history old.place new.place stops.es stops.between));
        begun = begun;
        results = told-results shape history stops.begun
            (each-first (Contains (run_of shape history).emissions) stops.begun stops.left
            (of_run shape history new.place (new.place + 1) (stops.begun ++ stops.left) stops.next));
        part = subst (λ (l : List ℕ). AppendsPrefix l (append_known text (ended (lines ++ more))) grown) piece
            (subst (λ (t : Option (List ℕ)). AppendsPrefix (piece_of (owes_behind old.owes (live_lines shape stops.es))
            (live_lines shape stops.begun)) t grown) before stops.wrote);
      }

  -- where each was written once, and the outlet was at the end, each is
  order-on : (new : OutletView) (pumped : IsPumpedFrom shape old front) (none : old.owes ≡ false)
      (so_far : IsLiveSoFar shape front text some) (wrote : WritesTo shape history old new some grown)
      (at_end : new.place ≡ length history) → old.place ≡ length front → so_far.lines ≡ results_of shape front
      → (so-far-on new pumped none so_far wrote at_end).lines ≡ results_of shape history
  unfolding so-far-on
  order-on new pumped none so_far wrote at_end was_end in_order =
      let front_is : (run_of shape front).emissions ≡ emitted_by shape history old.place =
      ap (λ (h : List Entry). (run_of shape h).emissions) (sym (front-taken front history begins))
      ∙ ap (emitted_by shape history) (sym was_end) in
      let whole : emitted_by shape history old.place ++ wrote.es ≡ (run_of shape history).emissions =
      wrote.between ∙ ap (emitted_by shape history) at_end ∙ emitted-all shape history (length history) (omega arith) in
      ap (λ (l : List (List ℕ)). l ++ map (told_by shape) wrote.es) (in_order ∙ ap (map (told_by shape)) front_is)
      ∙ sym (map-append shape (emitted_by shape history old.place) wrote.es)
      ∙ ap (map (told_by shape)) whole

-- a pump that came to the end has written all results
pub pumped-on : (shape : Shape) (history : List Entry) (old new : OutletView) (some grown : Option (List ℕ))
    → IsPumpedFrom shape new history → new.place ≡ length history → WritesTo shape history old new some grown
    → PumpsOn shape history old new some grown
pumped-on shape history old new some grown extends at_end wrote = λ front once text begins is. record {
  pumped = extends;
  none_owed = behind-none old.owes new.owes (live_lines shape wrote.es) is.none_owed wrote.owes;
  results = record {
    so_far = so-far-on shape front history old text some grown begins new is.pumped is.none_owed is.results.so_far wrote at_end;
    in_order = λ was_once. order-on shape front history old text some grown begins new is.pumped is.none_owed is.results.so_far
        wrote at_end (is.at_end was_once) (is.results.in_order was_once);
  };
  at_end = λ was_once. at_end;
}

-- and one that a fault stopped is cut off
pub pumped-cut : (shape : Shape) (history : List Entry) (old new : OutletView) (some grown : Option (List ℕ))
    → StopsAt shape history old new some grown → IsCutBehind shape history old some grown
pumped-cut shape history old new some grown stops = λ front text begins is.
    cut-on shape front history old text some grown begins new is.none_owed is.results.so_far stops

-- ---- an outlet between pumps

-- a new outlet has written all results of no entry
pub pumped-new : (shape : Shape) (history : List Entry) (o : OutletView) (text : Option (List ℕ)) → history ≡ []
    → IsPumpedFrom shape o history → o.place ≡ 0 → o.owes ≡ false → IsPumpedTo shape history true o text text
pumped-new shape history o text empty pumped place none = record {
  pumped = pumped;
  none_owed = none;
  results = record {
    so_far = record {
      lines = [];
      each = tt;
      all = subst (λ (h : List Entry). StandIn shape [] (run_of shape h).emissions) (sym empty) tt;
      wrote = sym (append_known-none text);
    };
    in_order = λ once. sym (ap (results_of shape) empty);
  };
  at_end = λ once. place ∙ sym (ap length empty);
}

-- what was written once was written
pub once-or-more : (shape : Shape) (history : List Entry) (once : Bool) (o : OutletView) (text grown : Option (List ℕ))
    → IsPumpedTo shape history once o text grown → IsPumpedTo shape history false o text grown
once-or-more shape history once o text grown is = record {
  pumped = is.pumped;
  none_owed = is.none_owed;
  results = record { so_far = is.results.so_far; in_order = λ no. absurd (true≢false (sym no)) };
  at_end = λ no. absurd (true≢false (sym no));
}

-- an outlet that is taken back has written what it wrote
pub back-on : (shape : Shape) (history : List Entry) (old new : OutletView) (text grown : Option (List ℕ)) → new.owes ≡ old.owes
    → (IsPumpedFrom shape old history → IsPumpedFrom shape new history)
    → IsPumpedTo shape history false old text grown → IsPumpedTo shape history false new text grown
back-on shape history old new text grown owes extends is = record {
  pumped = extends is.pumped;
  none_owed = owes ∙ is.none_owed;
  results = is.results;
  at_end = λ no. absurd (true≢false (sym no));
}

-- one that appended an entry
pub stepped-more : (shape : Shape) (history : List Entry) (count : ℕ) (old mid new : OutletView) (some grown : Option (List ℕ))
    → mid.owes ≡ old.owes → ((h : List Entry) → IsPumpedFrom shape old h → IsPumpedFrom shape mid h)
    → PumpsOn shape history mid new some grown → StepsOn shape history count old new some grown
stepped-more shape history count old mid new some grown owes extends pumps = λ front text begins long is.
    pumps front false text begins (back-on shape front old mid text some owes (extends front) is)

-- and one whose results could not be written
pub stepped-cut : (shape : Shape) (history : List Entry) (old mid : OutletView) (some grown : Option (List ℕ))
    → mid.owes ≡ old.owes → ((h : List Entry) → IsPumpedFrom shape old h → IsPumpedFrom shape mid h)
    → IsCutBehind shape history mid some grown → IsCutBehind shape history old some grown
stepped-cut shape history old mid some grown owes extends cut = λ front text begins is.
    cut front text begins (back-on shape front old mid text some owes (extends front) is)
