-- The text of a sink after each pump, and after a list of steps.
use Rattle.std.proofs.Common.{◌≡◌, ℕ, ◌+◌, ◌<◌, ◌≤◌, ◌⊎◌, Bool, true, false, List, [], ◌∷◌, ◌++◌, length, take, Some, inl, inr, refl, sym, ◌∙◌, ap, subst, arith, append_assoc, append-nil}
use Rattle.std.specs.Prelude.{Contains, max}
use Rattle.std.specs.List.{AllByRecursion}
use Rattle.std.specs.Io.KnownBytes.{append_known}
use Rattle.std.proofs.lemmas.Bool.{cases_eq, cases_lt}
use Rattle.std.proofs.lemmas.List.{append_cancel_left}
use Rattle.std.proofs.lemmas.List.Elements.{All-contains_itself, recursion_from_All, Contains-append_left, Contains-append_right}
use Rattle.mw_types.specs.declared.delivery.Emission.{Emission}
use Rattle.mw_types.specs.declared.entry.Entry.{Entry}
use Rattle.topology.specs.Shapes.{Shape}
use Rattle.run_history.specs.Runs.{run_of}
use Rattle.list_lemmas.proofs.Lists.{each-append, each-weaker, some_same}
use Rattle.live_outlet.specs.Outlets.{OutletView, emitted_by, AreBetween, live_lines, AreLive, piece_of, owes_behind}
use Rattle.live_outlet.specs.Covering.{IsMadeOf, StandIn, Covers, OutletStep, pumped, stopped, taken_back, OneSink, IsFresh, OthersStay, Does, AreDone, furthest}
use Rattle.live_outlet.proofs.Emitting.{emitted-grows, between-front, emitted-whole}
use Rattle.live_outlet.proofs.Pieces.{stand-before, piece-written, piece-begun}

-- ---- emissions of the run

-- what stands between two places is of the run
of_run : (shape : Shape) (history : List Entry) (from to : ℕ) (es : List Emission) → AreBetween shape history from to es
    → AllByRecursion (Contains (run_of shape history).emissions) es
of_run shape history from to es between =
    let grows = emitted-grows shape history to in
    each-weaker (Contains es) (Contains (run_of shape history).emissions)
    (λ e there. subst (λ l. Contains l e) (ap (λ l. l ++ grows.0) between ∙ grows.1)
    (Contains-append_left (emitted_by shape history from ++ es) grows.0 e
    (Contains-append_right (emitted_by shape history from) es e there)))
    es (recursion_from_All (Contains es) es (All-contains_itself es))

-- of two that are written one after another the first is of the run
of_run-first : (shape : Shape) (history : List Entry) (from to : ℕ) (es left : List Emission)
    → AreBetween shape history from to (es ++ left)
    → AllByRecursion (Contains (run_of shape history).emissions) es
of_run-first shape history from to es left between = firsts es (of_run shape history from to (es ++ left) between)
  where
    firsts : (es : List Emission) → AllByRecursion (Contains (run_of shape history).emissions) (es ++ left)
        → AllByRecursion (Contains (run_of shape history).emissions) es
    firsts [] all = tt
    firsts (e ∷ es) all = (all.0, firsts es all.1)

-- ---- what each step keeps

-- the text is what the sink had, and these lines and a rest, which is unfinished only where some outlet owes an LF; and the
-- emissions before each outlet's place stand among these lines
record Keeps (had : List ℕ) (shape : Shape) (history : List Entry) (sink : OneSink) (lines : List (List ℕ)) : Type 0 where
  text : List ℕ
  is : sink.text ≡ Some (had ++ text)
  made : IsMadeOf shape (run_of shape history).emissions lines text
  finished : (made.rest ≡ []) ⊎ ((who : ℕ) × ((sink.outlets who).owes ≡ true))
  placed : (who : ℕ) → StandIn shape lines (emitted_by shape history (sink.outlets who).place)

-- some lines with which a sink keeps what it has to, and among which all stand that stood among these
record GoesOn (had : List ℕ) (shape : Shape) (history : List Entry) (sink : OneSink) (before : List (List ℕ)) : Type 0 where
  lines : List (List ℕ)
  keeps : Keeps had shape history sink lines
  stay : (es : List Emission) → StandIn shape before es → StandIn shape lines es

-- where an unfinished line may stand, it is the pumped outlet that owes the LF
owed_by : (sink : OneSink) (who : ℕ) (rest : List ℕ) → ((other : ℕ) → (other ≡ who → ⊥) → (sink.outlets other).owes ≡ false)
    → (rest ≡ []) ⊎ ((other : ℕ) × ((sink.outlets other).owes ≡ true)) → (rest ≡ []) ⊎ ((sink.outlets who).owes ≡ true)
owed_by sink who rest alone (inl none) = inl none
owed_by sink who rest alone (inr (other, owes)) = by_case (cases_eq other who)
  where
    by_case : (other ≡ who) ⊎ (other ≡ who → ⊥) → (rest ≡ []) ⊎ ((sink.outlets who).owes ≡ true)
    by_case (inl same) = inr (ap (λ n. (sink.outlets n).owes) (sym same) ∙ owes)
    by_case (inr apart) = absurd (let never : true ≡ false = sym owes ∙ alone other apart in cc)

-- the emissions before each place stand, where they do before the pumped outlet's
placed_all : (shape : Shape) (history : List Entry) (who : ℕ) (old new : OneSink) (before after : List (List ℕ))
    → ((es : List Emission) → StandIn shape before es → StandIn shape after es) → OthersStay who old new
    → ((other : ℕ) → StandIn shape before (emitted_by shape history (old.outlets other).place))
    → StandIn shape after (emitted_by shape history (new.outlets who).place)
    → (other : ℕ) → StandIn shape after (emitted_by shape history (new.outlets other).place)
placed_all shape history who old new before after stay others placed own other = by_case (cases_eq other who)
  where
    by_case : (other ≡ who) ⊎ (other ≡ who → ⊥) → StandIn shape after (emitted_by shape history (new.outlets other).place)
    by_case (inl same) = subst (λ n. StandIn shape after (emitted_by shape history (new.outlets n).place)) (sym same) own
    by_case (inr apart) = subst (λ (o : OutletView). StandIn shape after (emitted_by shape history o.place)) (sym (others other apart))
        (stay (emitted_by shape history (old.outlets other).place) (placed other))

-- ---- a piece of a pump

-- the lines of all entries up to a place are out
record IsOut (shape : Shape) (history : List Entry) (place : ℕ) (owes : Bool) (before : List (List ℕ)) (text : List ℕ) : Type 0 where
  lines : List (List ℕ)
  made : IsMadeOf shape (run_of shape history).emissions lines text
  finished : (made.rest ≡ []) ⊎ (owes ≡ true)
  stay : (es : List Emission) → StandIn shape before es → StandIn shape lines es
  own : StandIn shape lines (emitted_by shape history place)

out_after : (shape : Shape) (history : List Entry) (from to : ℕ) (owes : Bool) (es : List Emission) (lines : List (List ℕ)) (text : List ℕ)
    (is : IsMadeOf shape (run_of shape history).emissions lines text) → (is.rest ≡ []) ⊎ (owes ≡ true)
    → StandIn shape lines (emitted_by shape history from) → AreBetween shape history from to es → AreLive shape es
    → IsOut shape history to (owes_behind owes (live_lines shape es)) lines (text ++ piece_of owes (live_lines shape es))
out_after shape history from to owes es lines text is finished stand between live =
    let grown = piece-written shape (run_of shape history).emissions lines text owes es is finished live
    (of_run shape history from to es between) in record {
      lines = lines ++ grown.more;
      made = grown.made;
      finished = grown.finished;
      stay = stand-before shape lines grown.more;
      own = subst (StandIn shape (lines ++ grown.more)) between
          (each-append _ (emitted_by shape history from) es
          (stand-before shape lines grown.more (emitted_by shape history from) stand) grown.stand);
    }

-- ---- the steps

-- a pump that answers Ok
pumped-keeps : (had : List ℕ) (shape : Shape) (history : List Entry) (who n : ℕ) (old new : OneSink) (lines : List (List ℕ))
    → Keeps had shape history old lines
    → Does shape history (pumped who n) old new
    → (on : GoesOn had shape history new lines) × StandIn shape on.lines (emitted_by shape history n)
pumped-keeps had shape history who n old new lines keeps (may, others, end, wrote) =
    let o : OutletView = old.outlets who in
    let o' : OutletView = new.outlets who in
    let between : AreBetween shape history o.place o'.place wrote.es =
    between-front shape history n o.place o'.place wrote.es may.place (omega (arith, end)) wrote.between in
    let out = out_after shape history o.place o'.place o.owes wrote.es lines keeps.text keeps.made
    (owed_by old who keeps.made.rest may.alone keeps.finished) (keeps.placed who) between wrote.live in (
      record {
        lines = out.lines;
        keeps = record {
          text = keeps.text ++ piece_of o.owes (live_lines shape wrote.es);
          is = wrote.wrote ∙ ap (λ t. append_known t (piece_of o.owes (live_lines shape wrote.es))) keeps.is
              ∙ ap Some (append_assoc had keeps.text (piece_of o.owes (live_lines shape wrote.es)));
          made = out.made;
          finished = finishes out.made.rest (owes_behind o.owes (live_lines shape wrote.es)) wrote.owes out.finished;
          placed = placed_all shape history who old new lines out.lines out.stay others keeps.placed out.own;
        };
        stay = out.stay;
      },
      subst (StandIn shape out.lines) (ap (emitted_by shape history) end ∙ emitted-whole shape history n) out.own,
    )
  where
    finishes : (rest : List ℕ) (left : Bool) → (new.outlets who).owes ≡ left → (rest ≡ []) ⊎ (left ≡ true)
        → (rest ≡ []) ⊎ ((other : ℕ) × ((new.outlets other).owes ≡ true))
    finishes rest left same (inl none) = inl none
    finishes rest left same (inr owed) = inr (who, same ∙ owed)

-- a pump that is stopped
stopped-keeps : (had : List ℕ) (shape : Shape) (history : List Entry) (who n : ℕ) (old new : OneSink) (lines : List (List ℕ))
    → Keeps had shape history old lines
    → Does shape history (stopped who n) old new → GoesOn had shape history new lines
stopped-keeps had shape history who n old new lines keeps (may, others, stops) =
    let o : OutletView = old.outlets who in
    let o' : OutletView = new.outlets who in
    let within : o'.place < length (take n history) = stops.place in
    let between : AreBetween shape history o.place o'.place stops.es =
    between-front shape history n o.place o'.place stops.es may.place (omega (arith, within)) stops.between in
    let next : AreBetween shape history o'.place (o'.place + 1) (stops.begun ++ stops.left) =
    between-front shape history n o'.place (o'.place + 1) (stops.begun ++ stops.left) (omega (arith, within))
    (omega (arith, within)) stops.next in
    let first = piece_of o.owes (live_lines shape stops.es) in
    let left = owes_behind o.owes (live_lines shape stops.es) in
    let last = piece_of left (live_lines shape stops.begun) in
    let out = out_after shape history o.place o'.place o.owes stops.es lines keeps.text keeps.made
    (owed_by old who keeps.made.rest may.alone keeps.finished) (keeps.placed who) between stops.live in
    let cut = piece-begun shape (run_of shape history).emissions out.lines (keeps.text ++ first) left stops.begun stops.wrote.0
    out.made out.finished stops.begun_live (of_run-first shape history o'.place (o'.place + 1) stops.begun stops.left next) in
    let stay : (es : List Emission) → StandIn shape lines es → StandIn shape (out.lines ++ cut.0) es =
    λ es stand. stand-before shape out.lines cut.0 es (out.stay es stand) in record {
      lines = out.lines ++ cut.0;
      keeps = record {
        text = (keeps.text ++ first) ++ take stops.wrote.0 last;
        is = stops.wrote.2 ∙ ap (λ t. append_known (append_known t first) (take stops.wrote.0 last)) keeps.is
            ∙ ap (λ (l : List ℕ). Some (l ++ take stops.wrote.0 last)) (append_assoc had keeps.text first)
            ∙ ap Some (append_assoc had (keeps.text ++ first) (take stops.wrote.0 last));
        made = cut.1;
        finished = inr (who, stops.owes);
        placed = placed_all shape history who old new lines (out.lines ++ cut.0) stay others keeps.placed
            (stand-before shape out.lines cut.0 (emitted_by shape history o'.place) out.own);
      };
      stay = stay;
    }

-- an outlet that goes back
back-keeps : (had : List ℕ) (shape : Shape) (history : List Entry) (who : ℕ) (old new : OneSink) (lines : List (List ℕ)) → Keeps had shape history old lines
    → Does shape history (taken_back who) old new → GoesOn had shape history new lines
back-keeps had shape history who old new lines keeps (others, text, place, owes) = record {
  lines = lines;
  keeps = record {
    text = keeps.text;
    is = text ∙ keeps.is;
    made = keeps.made;
    finished = finishes keeps.finished;
    placed = placed_all shape history who old new lines lines (λ es stand. stand) others keeps.placed
        (subst (λ n. StandIn shape lines (emitted_by shape history n)) (sym place) tt);
  };
  stay = λ es stand. stand;
}
  where
    by_case : (other : ℕ) → (old.outlets other).owes ≡ true → (other ≡ who) ⊎ (other ≡ who → ⊥) → (new.outlets other).owes ≡ true
    by_case other owed (inl same) =
        ap (λ n. (new.outlets n).owes) same ∙ owes ∙ ap (λ n. (old.outlets n).owes) (sym same) ∙ owed
    by_case other owed (inr apart) = ap (λ (o : OutletView). o.owes) (others other apart) ∙ owed

    finishes : {rest : List ℕ} → (rest ≡ []) ⊎ ((other : ℕ) × ((old.outlets other).owes ≡ true))
        → (rest ≡ []) ⊎ ((other : ℕ) × ((new.outlets other).owes ≡ true))
    finishes (inl none) = inl none
    finishes (inr (other, owed)) = inr (other, by_case other owed (cases_eq other who))

-- ---- lists of steps

-- what a further beginning stands among
furthest-stands : (shape : Shape) (history : List Entry) (lines : List (List ℕ)) (n m : ℕ)
    → StandIn shape lines (emitted_by shape history n)
    → StandIn shape lines (emitted_by shape history m) → StandIn shape lines (emitted_by shape history (max n m))
furthest-stands shape history lines n m one other = by_case (cases_lt n m)
  where
    by_case : (n < m) ⊎ (m ≤ n) → StandIn shape lines (emitted_by shape history (max n m))
    by_case (inl less) =
        let is : m ≡ max n m = omega (arith, less) in subst (λ k. StandIn shape lines (emitted_by shape history k)) is other
    by_case (inr least) =
        let is : n ≡ max n m = omega (arith, least) in subst (λ k. StandIn shape lines (emitted_by shape history k)) is one

-- steps one after another
steps-keep : (had : List ℕ) (shape : Shape) (history : List Entry) (steps : List OutletStep) (old new : OneSink) (lines : List (List ℕ))
    → Keeps had shape history old lines
    → AreDone shape history steps old new
    → (on : GoesOn had shape history new lines) × StandIn shape on.lines (emitted_by shape history (furthest steps))
steps-keep had shape history [] old new lines keeps same =
    (record { lines = lines; keeps = subst (λ (s : OneSink). Keeps had shape history s lines) (sym same) keeps; stay = λ es stand. stand }, tt)
steps-keep had shape history (pumped who n ∷ steps) old new lines keeps (next, does, done) =
    let on = pumped-keeps had shape history who n old next lines keeps does in
    let rest = steps-keep had shape history steps next new on.0.lines on.0.keeps done in (
      record { lines = rest.0.lines; keeps = rest.0.keeps; stay = λ es stand. rest.0.stay es (on.0.stay es stand) },
      furthest-stands shape history rest.0.lines n (furthest steps) (rest.0.stay (emitted_by shape history n) on.1) rest.1,
    )
steps-keep had shape history (stopped who n ∷ steps) old new lines keeps (next, does, done) =
    let on = stopped-keeps had shape history who n old next lines keeps does in
    let rest = steps-keep had shape history steps next new on.lines on.keeps done in
    (record { lines = rest.0.lines; keeps = rest.0.keeps; stay = λ es stand. rest.0.stay es (on.stay es stand) }, rest.1)
steps-keep had shape history (taken_back who ∷ steps) old new lines keeps (next, does, done) =
    let on = back-keeps had shape history who old next lines keeps does in
    let rest = steps-keep had shape history steps next new on.lines on.keeps done in
    (record { lines = rest.0.lines; keeps = rest.0.keeps; stay = λ es stand. rest.0.stay es (on.stay es stand) }, rest.1)

-- before any step nothing is written but what the sink had
fresh-keeps : (had : List ℕ) (shape : Shape) (history : List Entry) (sink : OneSink) → IsFresh had sink → Keeps had shape history sink []
fresh-keeps had shape history sink fresh = record {
  text = [];
  is = fresh.some ∙ ap Some (sym (append-nil had));
  made = record { rest = []; whole = refl; each = tt; last = tt };
  finished = inl refl;
  placed = λ who. subst (λ n. StandIn shape [] (emitted_by shape history n)) (sym (fresh.places who)) tt;
}

-- what was added to the text covers all that a pump came to the end of
pub steps-cover : (shape : Shape) (history : List Entry) (steps : List OutletStep) (first last : OneSink) (had text : List ℕ)
    → IsFresh had first → AreDone shape history steps first last → last.text ≡ Some (had ++ text)
    → Covers shape history (furthest steps) text
steps-cover shape history steps first last had text fresh done is =
    let on = steps-keep had shape history steps first last [] (fresh-keeps had shape history first fresh) done in record {
      lines = on.0.lines;
      made = subst (IsMadeOf shape (run_of shape history).emissions on.0.lines)
          (append_cancel_left had on.0.keeps.text text
          (some_same (had ++ on.0.keeps.text) (had ++ text) (sym on.0.keeps.is ∙ is))) on.0.keeps.made;
      all = on.1;
    }
