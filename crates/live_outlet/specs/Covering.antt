-- What the text of a sink covers of a run, whatever outlets wrote it and wherever they were stopped. Own.
use Rattle.std.specs.Prelude.{◌≡◌, ◌≢◌, ◌≤◌, ℕ, false, max, List, [], ◌∷◌, ◌++◌, length, map, take, Option, Some, Contains}
use Rattle.std.specs.List.{AllByRecursion, flat_map}
use Rattle.mw_types.specs.declared.delivery.Emission.{Emission}
use Rattle.mw_types.specs.declared.entry.Entry.{Entry}
use Rattle.topology.specs.Shapes.{Shape}
use Rattle.run_history.specs.Runs.{run_of}
use Rattle.text_lines.specs.Lines.{last_line}
use Rattle.live_outlet.specs.LiveLines.{live_of, live_text, IsLive}
use Rattle.live_outlet.specs.Outlets.{OutletView, emitted_by, WritesTo, StopsAt}

-- ---- a text and the emissions of a run

-- what the live line of an emission has before its LF
abbrev pub told_by : Shape → Emission → List ℕ
told_by shape e = live_text (live_of shape e)

-- a line is the live line of one of these emissions, or the beginning of one that was cut off
pub record IsBegun (shape : Shape) (es : List Emission) (line : List ℕ) : Type 0 where
  pub emission : Emission
  pub emitted : Contains es emission
  pub live : IsLive (live_of shape emission)
  pub left : List ℕ
  pub whole : line ++ left ≡ told_by shape emission

-- lines, each with an LF behind it
abbrev pub ended : List (List ℕ) → List ℕ
ended lines = flat_map (λ (line : List ℕ). line ++ 10 ∷ []) lines

-- a text has these lines that end, and each of them, and what stands behind the last, is or begins the live line
-- of one of these emissions
pub record IsMadeOf (shape : Shape) (es : List Emission) (lines : List (List ℕ)) (text : List ℕ) : Type 0 where
  pub rest : List ℕ
  pub whole : text ≡ ended lines ++ rest
  pub each : AllByRecursion (IsBegun shape es) lines
  pub last : AllByRecursion (IsBegun shape es) (last_line rest)

-- each of these emissions has its live line among these lines, and that tells what an emission can be
abbrev pub StandIn : Shape → List (List ℕ) → List Emission → Type 0
StandIn shape lines es =
    AllByRecursion (λ (e : Emission). Contains lines (told_by shape e) × IsLive (live_of shape e)) es

-- a text is made of the live lines of a history's run, and each emission of so many first entries has its live
-- line in it, whole
pub record Covers (shape : Shape) (history : List Entry) (place : ℕ) (text : List ℕ) : Type 0 where
  pub lines : List (List ℕ)
  pub made : IsMadeOf shape (run_of shape history).emissions lines text
  pub all : StandIn shape lines (emitted_by shape history place)

-- what live lines have before their LF, one for each emission of a history, in the order of their ids
abbrev pub results_of : Shape → List Entry → List (List ℕ)
results_of shape history = map (told_by shape) (run_of shape history).emissions

-- ---- lists of pumps

-- what is done with an outlet of this number: it is pumped to the end of so many first entries of a history, it is
-- pumped from them and a fault stops it, or it goes back
pub data OutletStep : Type 0 where
  pumped : ℕ → ℕ → OutletStep
  stopped : ℕ → ℕ → OutletStep
  taken_back : ℕ → OutletStep

-- outlets by number, and the text of the one sink that they write into
pub record OneSink : Type 0 where
  pub outlets : ℕ → OutletView
  pub text : Option (List ℕ)

-- the sink has this text, of which the outlets have written nothing, and none of them owes an LF
pub record IsFresh (before : List ℕ) (sink : OneSink) : Type 0 where
  pub some : sink.text ≡ Some before
  pub places : (who : ℕ) → (sink.outlets who).place ≡ 0
  pub owes : (who : ℕ) → (sink.outlets who).owes ≡ false

-- all outlets but one stay as they are
abbrev pub OthersStay : ℕ → OneSink → OneSink → Type 0
OthersStay who old new = (other : ℕ) → other ≢ who → new.outlets other ≡ old.outlets other

-- an outlet may be pumped from these entries: it is not further, and no other owes an LF
pub record MayPump (history : List Entry) (who : ℕ) (sink : OneSink) : Type 0 where
  pub place : (sink.outlets who).place ≤ length history
  pub alone : (other : ℕ) → other ≢ who → (sink.outlets other).owes ≡ false

-- what one step does: to a text only what the clauses of a pump say
abbrev pub Does : Shape → List Entry → OutletStep → OneSink → OneSink → Type 0
Does shape history (pumped who n) old new =
    MayPump (take n history) who old × OthersStay who old new
    × ((new.outlets who).place ≡ length (take n history))
    × WritesTo shape (take n history) (old.outlets who) (new.outlets who) old.text new.text
Does shape history (stopped who n) old new =
    MayPump (take n history) who old × OthersStay who old new
    × StopsAt shape (take n history) (old.outlets who) (new.outlets who) old.text new.text
Does shape history (taken_back who) old new =
    OthersStay who old new × (new.text ≡ old.text)
    × ((new.outlets who).place ≡ 0) × ((new.outlets who).owes ≡ (old.outlets who).owes)

-- steps that are done one after another
abbrev pub AreDone : Shape → List Entry → List OutletStep → OneSink → OneSink → Type 0
AreDone shape history [] old new = new ≡ old
AreDone shape history (step ∷ steps) old new =
    (next : OneSink) × Does shape history step old next × AreDone shape history steps next new

-- of how many entries the longest beginning is that some pump came to the end of
abbrev pub furthest : List OutletStep → ℕ
furthest [] = 0
furthest (pumped who n ∷ steps) = max n (furthest steps)
furthest (stopped who n ∷ steps) = furthest steps
furthest (taken_back who ∷ steps) = furthest steps
