-- The line of an entry gives that entry, but for what is not printed of it.
use Rattle.std.proofs.Common.{◌≡◌, ℕ, ℤ, zero, suc, ◌+◌, ◌<◌, ◌≤◌, ◌^◌, List, [], ◌∷◌, ◌++◌, length, map, Option, Some, None, w64, refl, sym, ap, ◌∙◌, arith, IsTrue, Bool}
use Rattle.std.specs.Prelude.{◌↔◌, Err, IfOk, Ok, Result}
use Rattle.std.specs.Int.{cast_unsigned, to_be_bytes, w32}
use Rattle.std.specs.List.{AllByRecursion, flat_map}
use Rattle.std.proofs.lemmas.Bool.{le-leb}
use Rattle.std.proofs.lemmas.List.{map-id}
use Rattle.std.proofs.lemmas.List.Elements.{recursion_from_All}
use Rattle.hex.specs.Hex.{IsBytes, decode_of, encode_lower}
use Rattle.hex.proofs.HexLemmas.{decode_of-encode_lower}
use Rattle.list_lemmas.proofs.Lists.{each-append, each-both, none_some, some_same}
use Rattle.mw_types.specs.declared.TheConstants.{MAX_STAMP}
use Rattle.mw_types.specs.declared.record.Production.{Production}
use Rattle.mw_types.specs.declared.timer.Timer.{Timer}
use Rattle.mw_types.specs.declared.state.Window.{Window}
use Rattle.mw_types.specs.declared.state.HeldTotal.{HeldTotal}
use Rattle.mw_types.specs.declared.state.State.{State}
use Rattle.mw_types.specs.declared.state.State.TheVariants as states
use Rattle.mw_types.specs.declared.entry.Entry.{Entry}
use Rattle.mw_types.specs.declared.entry.Entry.TheVariants.{Claim, Inject, Handle, Fire, Ack, Purge}
use Rattle.mw_types.specs.declared.memory.NoMemory.{NoMemory}
use Rattle.mw_types.specs.Outcomes.{EffectsView}
use Rattle.serde_json.specs.Data.{Data, array}
use Rattle.serde_json.specs.View.{items_of}
use Rattle.serde_json.specs.Written.{compact_text}
use Rattle.topology.specs.Grammar.{and_then, each_of}
use Rattle.row_parts.specs.Reading.{state_at, whole_state}
use Rattle.row_parts.specs.Spelling.{IsSpelledState, held_spelling, list_spelling, signed_spelling, state_spelling, window_spelling}
use Rattle.row_parts.proofs.StateLaws.{state_reads, whole_again, whole_takes}
use Rattle.run_history.specs.HistoryLines.{array_data, entry_data, handled_data, id_data, production_data, state_data, timer_data}
use Rattle.live_outlet.proofs.IdLaws.{print-own, bytes-small}
use Rattle.live_outlet.proofs.Reading.{value-own}
use Rattle.trace_lines.specs.Entries.{IsEntry, IsEntryLine, IsOutcome, IsProduction}
use Rattle.trace_lines.specs.Lines.{text_of_entry}
use Rattle.trace_lines.proofs.Choosing.{key-own, row-own, short-own}
use Rattle.trace_lines.proofs.Writing.{entry-json}
use Rattle.audit.specs.Guesses.{as_printed, entry_guessed, entry_in, found_in, in_print, in_time, production_in, timer_in}

-- ---- the bytes of a state

-- each of these is a byte
abbrev AreBytes : List ℕ → Type 0
AreBytes = AllByRecursion (λ b. b < 256)

-- one list of bytes behind another
then-bytes : (xs ys : List ℕ) → AreBytes xs → AreBytes ys → AreBytes (xs ++ ys)
then-bytes = each-append (λ b. b < 256)

each-bytes : {X : Type 0} (spelling : X → List ℕ) → ((x : X) → AreBytes (spelling x)) → (xs : List X) → AreBytes (flat_map spelling xs)
each-bytes spelling are [] = tt
each-bytes spelling are (x ∷ xs) = then-bytes (spelling x) (flat_map spelling xs) (are x) (each-bytes spelling are xs)

list-bytes : {X : Type 0} (spelling : X → List ℕ) → ((x : X) → AreBytes (spelling x)) → (xs : List X) → AreBytes (list_spelling spelling xs)
list-bytes spelling are xs =
    then-bytes (to_be_bytes w32 (length xs)) (flat_map spelling xs ++ []) (bytes-small 4 (length xs))
    (then-bytes (flat_map spelling xs) [] (each-bytes spelling are xs) tt)

long-bytes : (n : ℕ) (rest : List ℕ) → AreBytes rest → AreBytes (to_be_bytes w64 n ++ rest)
long-bytes n rest are = then-bytes (to_be_bytes w64 n) rest (bytes-small 8 n) are

window-bytes : (w : Window) → AreBytes (window_spelling w)
window-bytes w = long-bytes w.end (to_be_bytes w64 w.count ++ []) (long-bytes w.count [] tt)

held-bytes : (h : HeldTotal) → AreBytes (held_spelling h)
held-bytes h = long-bytes h.stamp (signed_spelling h.value ++ []) (long-bytes (cast_unsigned w64 h.value) [] tt)

signed-bytes : (v : ℤ) → AreBytes (signed_spelling v)
signed-bytes v = bytes-small 8 (cast_unsigned w64 v)

state-bytes : (s : State) → AreBytes (state_spelling s)
state-bytes (states.Injector cursor) =
    (omega arith, then-bytes (to_be_bytes w32 cursor) [] (bytes-small 4 cursor) tt)
state-bytes (states.Count late windows) = (
  omega arith,
  long-bytes late (list_spelling window_spelling windows ++ [])
      (then-bytes (list_spelling window_spelling windows) [] (list-bytes window_spelling window-bytes windows) tt),
)
state-bytes (states.Spike late held known) = (
  omega arith,
  long-bytes late (list_spelling held_spelling held ++ (list_spelling signed_spelling known ++ []))
      (then-bytes (list_spelling held_spelling held) (list_spelling signed_spelling known ++ []) (list-bytes held_spelling held-bytes held)
      (then-bytes (list_spelling signed_spelling known) [] (list-bytes signed_spelling signed-bytes known) tt)),
)
state-bytes (states.Pass late) = (omega arith, long-bytes late [] tt)

bytes-at : (xs : List ℕ) → AreBytes xs → IsBytes xs
bytes-at [] are i = omega arith
bytes-at (x ∷ xs) are zero = are.0
bytes-at (x ∷ xs) are (suc i) = bytes-at xs are.1 i

-- ---- the parts of an entry

-- what is not some is none
none_of : {X : Type 0} (o : Option X) → ((x : X) → o ≡ Some x → ⊥) → o ≡ None
none_of None never = refl
none_of (Some x) never = absurd (never x refl)

-- the state whose bytes they are is read of bytes
pub state-read : (bytes : List ℕ) (s : State) → IsSpelledState s × (bytes ≡ state_spelling s) → whole_state bytes ≡ Some s
unfolding whole_state
state-read bytes s found = ap whole_state found.1 ∙ whole_again state_at state_reads s found.0

-- and none of bytes that are those of none
pub state-none : (bytes : List ℕ) → IsBytes bytes → ((s : State) → IsSpelledState s → bytes ≡ state_spelling s → ⊥)
    → whole_state bytes ≡ None
unfolding whole_state
state-none bytes are never =
    none_of (whole_state bytes) (λ s e. let t = whole_takes state_at state_reads bytes s are e in never s t.0 t.1)

-- a state gives itself
state-own : (s : State) → IsSpelledState s → and_then (found_in (decode_of (encode_lower (state_spelling s)))) whole_state ≡ Some s
unfolding whole_state
state-own s is =
    ap (λ r. and_then (found_in r) whole_state) (decode_of-encode_lower (state_spelling s) (bytes-at (state_spelling s) (state-bytes s)))
    ∙ whole_again state_at state_reads s is

time-own : (n : ℕ) → n ≤ MAX_STAMP → in_time n ≡ Some n
time-own n at_most = rw (le-leb n MAX_STAMP at_most) refl

production-own : (p : Production) → (p.stamp ≤ MAX_STAMP) × IsProduction p → production_in (production_data p) ≡ Some p
production-own p is = rw (time-own p.stamp is.0, value-own p.value is.1.value, key-own p.key is.1.key) refl

timer-own : (t : Timer) → t.time ≤ MAX_STAMP → timer_in (timer_data t) ≡ Some (in_print t)
timer-own t at_most = rw (time-own t.time at_most) refl

-- what a list shows of each of its elements
each-own : {X Y : Type 0} (P : X → Type 0) (form : Data → Option Y) (shown : X → Data) (f : X → Y)
    → ((x : X) → P x → form (shown x) ≡ Some (f x)) → (xs : List X) → AllByRecursion P xs
    → each_of form (items_of (map shown xs)) ≡ Some (map f xs)
each-own P form shown f own [] each = refl
each-own P form shown f own (x ∷ xs) each =
    ap (λ o. and_then o (λ y. and_then (each_of form (items_of (map shown xs))) (λ ys. Some (y ∷ ys)))) (own x each.0)
    ∙ ap (λ o. and_then o (λ ys. Some (f x ∷ ys))) (each-own P form shown f own xs each.1)

timers-own : (e : EffectsView) → IsOutcome e → each_of timer_in (items_of (map timer_data e.timers)) ≡ Some (map in_print e.timers)
timers-own e is = each-own (λ (t : Timer). t.time ≤ MAX_STAMP) timer_in timer_data in_print timer-own e.timers
    (recursion_from_All (λ (t : Timer). t.time ≤ MAX_STAMP) e.timers is.kept.times)

productions-own : (e : EffectsView) → IsOutcome e
    → each_of production_in (items_of (map production_data e.productions)) ≡ Some e.productions
productions-own e is =
    each-own (λ (p : Production). (p.stamp ≤ MAX_STAMP) × IsProduction p) production_in production_data (λ p. p) production-own e.productions
    (each-both (λ (p : Production). p.stamp ≤ MAX_STAMP) IsProduction e.productions
    (recursion_from_All (λ (p : Production). p.stamp ≤ MAX_STAMP) e.productions is.kept.stamps)
    (recursion_from_All IsProduction e.productions is.productions))
    ∙ ap Some (map-id e.productions)

spelled : (e : EffectsView) → IsOutcome e → IsSpelledState e.state
spelled e is = (is.kept.state_within, is.state)

-- ---- the entries

-- the object of an entry gives the entry
pub entry-own : (n : ℕ) (e : Entry) → IsEntry e → entry_in (entry_data n e) ≡ Some (as_printed e)
entry-own n (Claim worker interval) is = rw (short-own worker is.0, short-own interval is.1) refl
entry-own n (Inject seq part line item) is =
    rw (short-own part is.1, short-own line is.2, value-own item.value is.3.value, key-own item.key is.3.key) refl
entry-own n (Handle seq row id effects) is = rw (
  print-own id is.2,
  row-own row is.1,
  timers-own effects is.3,
  state-own effects.state (spelled effects is.3),
  productions-own effects is.3,
) refl
entry-own n (Fire seq row timer mark effects) is =
    rw (row-own row is.1, state-own effects.state (spelled effects is.4), productions-own effects is.4) refl
entry-own n (Ack seq row id) is = rw (print-own id is.2, row-own row is.1) refl
entry-own n (Purge seq row floor) is = rw (row-own row is.1) refl

-- so does its line
guessed-own : (n : ℕ) (e : Entry) (line : List ℕ) → n < 2 ^ 64 → IsEntry e → text_of_entry n e ≡ line
    → entry_guessed line ≡ Some (as_printed e)
guessed-own n e line small is same =
    ap entry_guessed (sym same) ∙ ap (λ o. and_then o entry_in) (entry-json n e small is) ∙ entry-own n e is

-- timers that are not late are printed as they are
timers-print : (ts : List Timer) → map timer_data (map in_print ts) ≡ map timer_data ts
timers-print [] = refl
timers-print (t ∷ ts) = ap (λ ds. timer_data t ∷ ds) (timers-print ts)

-- what is not printed of an entry is not in its line
line-print : (n : ℕ) (e : Entry) → text_of_entry n (as_printed e) ≡ text_of_entry n e
line-print n (Handle seq row id effects) =
    ap (λ ds. compact_text (handled_data n seq row (id_data id) (array_data production_data effects.productions)
    (state_data effects.state) (array (items_of ds)))) (timers-print effects.timers)
line-print n _ = refl

-- the line is that of an entry exactly where it is that of the entry that it gives
pub given-line : (n : ℕ) (line : List ℕ) (given : Entry) → n < 2 ^ 64 → IsEntry given → entry_guessed line ≡ Some given → (b : Bool)
    → IsTrue b ↔ (text_of_entry n given ≡ line) → IsTrue b ↔ IsEntryLine n line
given-line n line given small is guessed b both = (
  λ passes. (given, is, both.0 passes),
  λ of. both.1 (ap (text_of_entry n) (some_same given (as_printed of.0) (sym guessed ∙ guessed-own n of.0 line small of.1 of.2))
      ∙ line-print n of.0 ∙ of.2),
)

-- so where an answer says that
pub given-answer : (n : ℕ) (line : List ℕ) (given : Entry) → n < 2 ^ 64 → IsEntry given → entry_guessed line ≡ Some given
    → (result : Result Bool NoMemory) → IfOk result (λ b. IsTrue b ↔ (text_of_entry n given ≡ line))
    → IfOk result (λ b. IsTrue b ↔ IsEntryLine n line)
given-answer n line given small is guessed (Ok b) both = given-line n line given small is guessed b both
given-answer n line given small is guessed (Err want) both = tt

-- a line that gives none is that of none
pub none-line : (n : ℕ) (line : List ℕ) → n < 2 ^ 64 → entry_guessed line ≡ None → IsEntryLine n line → ⊥
none-line n line small none of =
    none_some (as_printed of.0) (sym none ∙ guessed-own n of.0 line small of.1 of.2)
