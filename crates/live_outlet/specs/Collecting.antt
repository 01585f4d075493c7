-- What a text of live lines, each written at least once, collects to. Own.
-- A line counts where it is the spelling of a live line. Of what was cut off, and of other text, only the number is told.
use Rattle.std.specs.Prelude.{◌≡◌, ◌≢◌, ◌&&◌, ℕ, ◌+◌, ℤ, pos, negsuc, ◌^◌, Bool, false, is_none, nat_lt, nat_le, nat_eq, if◌then◌else◌, List, [], ◌∷◌, ◌++◌, length, map, count_by, Option, Some, None, option_and_then}
use Rattle.std.specs.Option.{option_map, option_map_or}
use Rattle.std.specs.List.{AllByRecursion}
use Rattle.std.specs.List.Sorted.{IsStrictlySortedBy}
use Rattle.std.specs.Map.{lookup}
use Rattle.std.specs.BTreeMap.{is_at}
use Rattle.std.specs.Str.{is_utf8}
use Rattle.std.specs.Cmp.Lexicographic.{pointwise}
use Rattle.mw_types.specs.declared.identity.RecordId.{RecordId}
use Rattle.mw_types.specs.Orders.{id_cmp}
use Rattle.topology.specs.Rules.{is_name}
use Rattle.text_lines.specs.Lines.{lines_of}
use Rattle.live_outlet.specs.declared.refusal.CollectRefusal.{CollectRefusal}
use Rattle.live_outlet.specs.declared.refusal.CollectRefusal.TheVariants.{Differs, NoMemory}
use Rattle.live_outlet.specs.declared.held.Held.{Held}
use Rattle.live_outlet.specs.LiveLines.{LiveLine, live_text}
use Rattle.live_outlet.specs.Guesses.{line_guessed}

-- ---- which lines are live lines

-- whether a number is a signed one of 64 bits
abbrev pub is_long : ℤ → Bool
is_long (pos n) = nat_lt n (2 ^ 63)
is_long (negsuc n) = nat_lt n (2 ^ 63)

-- whether a line tells what an emission can be
abbrev pub is_live : LiveLine → Bool
is_live line = nat_lt line.id.commit (2 ^ 32) && (nat_lt line.id.index 512
    && (nat_le (length line.key) 256 && (is_utf8 line.key
    && (is_name line.stream && (nat_lt line.stamp (2 ^ 64) && is_long line.value)))))

-- the id of a live line, where this is what it has before its LF
abbrev pub id_spelt : List ℕ → LiveLine → Option RecordId
id_spelt text line = if is_live line && pointwise nat_eq (live_text line) text then Some line.id else None

-- the id of the live line that has this before its LF, or none where there is no such line
abbrev pub told_id : List ℕ → Option RecordId
told_id text = option_and_then (id_spelt text) (line_guessed text)

-- whether a line is neither empty nor that of a live line
abbrev pub is_other : List ℕ → Bool
is_other [] = false
is_other (b ∷ bs) = is_none (told_id (b ∷ bs))

-- ---- the live lines of a text

-- a live line of a text: its id, its number, and what it has before its LF
abbrev pub Telling : Type 0
Telling = RecordId × Held

-- a live line of this number, before those that follow it
abbrev pub told_before : ℕ → List ℕ → List Telling → List Telling
told_before n text rest =
    option_map_or (λ (id : RecordId). (id, record { line = n; text = text }) ∷ rest) (told_id text) rest

-- the live lines among lines that are numbered from here
abbrev pub tellings_from : ℕ → List (List ℕ) → List Telling
tellings_from n [] = []
tellings_from n (text ∷ texts) = told_before n text (tellings_from (n + 1) texts)

-- the live lines of a text, in its order; lines are numbered from 1
abbrev pub tellings : List ℕ → List Telling
tellings bytes = tellings_from 1 (lines_of bytes)

-- the first live line with an id
abbrev pub first_with : RecordId → List Telling → Option Held
first_with id told = lookup (is_at (id_cmp id)) told

-- a live line has what the first with its id has
abbrev pub Agrees : List Telling → Telling → Type 0
Agrees told one = option_map (λ (h : Held). h.text) (first_with one.0 told) ≡ Some one.1.text

-- ---- what a text collects to

-- each live line of the text, ascending by id, each once, and how many lines are no live lines and not empty
pub record IsCollected (bytes : List ℕ) (texts : List (List ℕ)) (others : ℕ) : Type 0 where
  pub agree : AllByRecursion (Agrees (tellings bytes)) (tellings bytes)
  pub found : List Telling
  pub texts_of : texts ≡ map (λ (one : Telling). one.1.text) found
  pub ascending : IsStrictlySortedBy id_cmp (map (λ (one : Telling). one.0) found)
  pub each : (id : RecordId) → first_with id found ≡ first_with id (tellings bytes)
  pub count : others ≡ count_by is_other (lines_of bytes)

-- among live lines the one of this number is the first that has the id of an earlier one, and not its text; the
-- first with that id has the other number
pub record IsFirstToDiffer (told : List Telling) (line first : ℕ) : Type 0 where
  pub before : List Telling
  pub after : List Telling
  pub id : RecordId
  pub text : List ℕ
  pub held : List ℕ
  pub stands : told ≡ before ++ (id, record { line = line; text = text }) ∷ after
  pub agree : AllByRecursion (Agrees before) before
  pub found : first_with id before ≡ Some (record { line = first; text = held })
  pub differs : held ≢ text

-- why a text was not collected; want of memory says nothing
abbrev pub WhyNot : List ℕ → CollectRefusal → Type 0
WhyNot bytes (Differs line first) = IsFirstToDiffer (tellings bytes) line first
WhyNot bytes NoMemory = Unit {0}
