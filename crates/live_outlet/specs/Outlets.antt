-- What an outlet has written of a history, and what it remembers. Own.
use Rattle.std.specs.Prelude.{◌≡◌, ◌≤◌, ◌<◌, ◌+◌, ℕ, Bool, true, false, List, [], ◌∷◌, ◌++◌, length, take, Option, All, if◌then◌else◌}
use Rattle.std.specs.List.{AllByRecursion, flat_map}
use Rattle.std.specs.Io.KnownBytes.{append_known}
use Rattle.mw_types.specs.declared.delivery.Emission.{Emission}
use Rattle.mw_types.specs.declared.entry.Entry.{Entry}
use Rattle.topology.specs.Shapes.{Shape, parts_of}
use Rattle.row_parts.specs.Contents.{IsId}
use Rattle.run_history.specs.Runs.{run_of}
use Rattle.run_history.specs.Printing.{HasFollowed}
use Rattle.mw_ports.specs.Sinks.{AppendsPrefix}
use Rattle.live_outlet.specs.LiveLines.{live_of, live_line_of, IsLive}

-- an outlet: of how many entries the lines are out, whether the next piece begins with an LF, what is remembered of
-- the entries that were followed, whether the next entry is one of them, and what that one emits
pub record OutletView : Type 0 where
  pub place : ℕ
  pub owes : Bool
  pub followed : List ℕ
  pub ready : Bool
  pub waiting : List Emission

-- what the first entries of a history emitted
abbrev pub emitted_by : Shape → List Entry → ℕ → List Emission
emitted_by shape history place = (run_of shape (take place history)).emissions

-- these are the emissions of the entries between two places
abbrev pub AreBetween : Shape → List Entry → ℕ → ℕ → List Emission → Type 0
AreBetween shape history from to es = emitted_by shape history from ++ es ≡ emitted_by shape history to

-- the live lines of emissions
abbrev pub live_lines : Shape → List Emission → List ℕ
live_lines shape es = flat_map (live_line_of shape) es

-- each of the emissions has a live line that tells what an emission can be
abbrev pub AreLive : Shape → List Emission → Type 0
AreLive shape es = AllByRecursion (λ (e : Emission). IsLive (live_of shape e)) es

-- some lines, behind an LF where one is owed; nothing stands for no lines
abbrev pub piece_of : Bool → List ℕ → List ℕ
piece_of owes [] = []
piece_of owes (b ∷ bs) = if owes then 10 ∷ b ∷ bs else b ∷ bs

-- whether an LF is still owed behind these lines
abbrev pub owes_behind : Bool → List ℕ → Bool
owes_behind owes [] = owes
owes_behind owes (b ∷ bs) = false

-- ---- what an outlet remembers

-- the emissions of the next entry, which can all be printed
pub record AreNext (shape : Shape) (history : List Entry) (place : ℕ) (es : List Emission) : Type 0 where
  pub next : place < length history
  pub between : AreBetween shape history place (place + 1) es
  pub parts : All (λ (e : Emission). e.part < parts_of shape) es
  pub ids : All (λ (e : Emission). IsId e.id) es

-- what is remembered is that of the entries up to a place, or of one more, whose emissions are there
abbrev pub Remembers : Shape → List Entry → ℕ → List ℕ → Bool → List Emission → Type 0
Remembers shape history place late false es = HasFollowed shape (take place history) late
Remembers shape history place late true es =
    HasFollowed shape (take (place + 1) history) late × AreNext shape history place es

-- an outlet was pumped from a beginning of this history
pub record IsPumpedFrom (shape : Shape) (outlet : OutletView) (history : List Entry) : Type 0 where
  pub place : outlet.place ≤ length history
  pub known : Remembers shape history outlet.place outlet.followed outlet.ready outlet.waiting

-- ---- what a pump does

-- the lines of all entries up to a later place were written, and an LF before them, where one was owed
pub record WritesTo (shape : Shape) (history : List Entry) (old new : OutletView) (text grown : Option (List ℕ)) : Type 0 where
  pub es : List Emission
  pub between : AreBetween shape history old.place new.place es
  pub live : AreLive shape es
  pub wrote : grown ≡ append_known text (piece_of old.owes (live_lines shape es))
  pub owes : new.owes ≡ owes_behind old.owes (live_lines shape es)

-- the lines of all entries up to a later place were written, and a beginning of some of the next entry's; an LF is owed
pub record StopsAt (shape : Shape) (history : List Entry) (old new : OutletView) (text grown : Option (List ℕ)) : Type 0 where
  pub es : List Emission
  pub between : AreBetween shape history old.place new.place es
  pub live : AreLive shape es
  pub begun : List Emission
  pub left : List Emission
  pub next : AreBetween shape history new.place (new.place + 1) (begun ++ left)
  pub begun_live : AreLive shape begun
  pub wrote : AppendsPrefix (piece_of (owes_behind old.owes (live_lines shape es)) (live_lines shape begun))
      (append_known text (piece_of old.owes (live_lines shape es))) grown
  pub owes : new.owes ≡ true
  pub place : new.place < length history

-- ---- what no public clause cites

-- an LF, where one is owed
abbrev pub owed : Bool → List ℕ
owed owes = if owes then 10 ∷ [] else []

-- a beginning of the lines of some emissions was written, behind an LF where one is owed
pub record WritesPart (shape : Shape) (owes : Bool) (es : List Emission) (text grown : Option (List ℕ)) : Type 0 where
  pub begun : List Emission
  pub left : List Emission
  pub whole : begun ++ left ≡ es
  pub live : AreLive shape begun
  pub part : AppendsPrefix (piece_of owes (live_lines shape begun)) text grown

-- the same of what the next entry emits
pub record PutsPart (shape : Shape) (history : List Entry) (outlet : OutletView) (text grown : Option (List ℕ)) : Type 0 where
  pub es : List Emission
  pub next : AreBetween shape history outlet.place (outlet.place + 1) es
  pub part : WritesPart shape outlet.owes es text grown
