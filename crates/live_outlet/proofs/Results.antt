-- What a text that covers a history collects to.
use Rattle.std.proofs.Common.{◌≡◌, ℕ, zero, suc, ◌+◌, ◌-◌, ◌≤◌, ◌==◌, Bool, true, false, cond, List, [], ◌∷◌, ◌++◌, length, map, take, Option, Some, None, refl, sym, ◌∙◌, ap, subst, arith, append_assoc, append-nil}
use Rattle.std.specs.Prelude.{Contains, IsSome, slice_index}
use Rattle.std.specs.Option.{option_map, option_map_or}
use Rattle.std.specs.List.{AllByRecursion, IsDistinct, slice_split}
use Rattle.std.specs.List.Sorted.{IsStrictlySortedBy}
use Rattle.std.specs.Map.{lookup, keys_of}
use Rattle.std.specs.BTreeMap.{is_at}
use Rattle.std.specs.Ordering.{is_eq, eq_by_cmp}
use Rattle.std.specs.Cmp.{tied_itself, eq_by_cmp_equiv}
use Rattle.std.proofs.lemmas.Bool.{ne_eqb}
use Rattle.std.proofs.lemmas.List.Elements.{All-contains_itself, All-from_recursion, All-get_or, Contains-append_left, recursion_from_All}
use Rattle.std.proofs.lemmas.List.Splits.{slice_split_none, slice_split_at}
use Rattle.std.proofs.lemmas.Map.Keys.{IsDistinct-from_sorted}
use Rattle.std.proofs.lemmas.Map.Views.{Contains-from_lookup, lookup-from_Contains}
use Rattle.mw_types.specs.declared.identity.RecordId.{RecordId}
use Rattle.mw_types.specs.declared.delivery.Emission.{Emission}
use Rattle.mw_types.specs.declared.entry.Entry.{Entry}
use Rattle.mw_types.specs.Orders.{id_cmp}
use Rattle.mw_types.proofs.OrderLaws.{id_cmp-total}
use Rattle.topology.specs.Shapes.{Shape}
use Rattle.text_lines.specs.Lines.{last_line, without_empty_end, without_return, lines_of}
use Rattle.run_history.specs.Runs.{run_of}
use Rattle.read_back.specs.Writable.{HasNoControl}
use Rattle.read_back.proofs.Control.{compact_text-no_control}
use Rattle.list_lemmas.proofs.Lists.{each-append, each-both, each-map, each-weaker, none_some, some_same}
use Rattle.live_outlet.specs.declared.held.Held.{Held}
use Rattle.live_outlet.specs.declared.refusal.CollectRefusal.{CollectRefusal}
use Rattle.live_outlet.specs.declared.refusal.CollectRefusal.TheVariants.{Differs, NoMemory}
use Rattle.live_outlet.specs.LiveLines.{live_of, live_data, IsLive}
use Rattle.live_outlet.specs.Collecting.{Telling, told_id, tellings_from, tellings, first_with, IsCollected, WhyNot}
use Rattle.live_outlet.specs.Covering.{told_by, IsBegun, ended, IsMadeOf, StandIn, Covers, results_of}
use Rattle.live_outlet.proofs.Reading.{live-writable}
use Rattle.live_outlet.proofs.Spelling.{told_id-own, told_id-is}
use Rattle.live_outlet.proofs.Finding.{same_found}
use Rattle.live_outlet.proofs.Prefixes.{no_more}
use Rattle.live_outlet.proofs.Entries.{same_entries}
use Rattle.live_outlet.specs.Outlets.{emitted_by}
use Rattle.live_outlet.proofs.Emitting.{ids_of, ids-ascend, emitted-all, emitted-grows}

-- ---- the lines of a text that is made of lines

-- what holds of each of two lists together holds of each of the first
each-front : {X : Type 0} (P : X → Type 0) (xs ys : List X) → AllByRecursion P (xs ++ ys) → AllByRecursion P xs
each-front P [] ys each = tt
each-front P (x ∷ xs) ys each = (each.0, each-front P xs ys each.1)

-- a line that begins a live line has no control byte
pub begun-no_control : (shape : Shape) (run : List Emission) (line : List ℕ) → IsBegun shape run line → HasNoControl line
begun-no_control shape run line is = each-front (λ (b : ℕ). 32 ≤ b) line is.left
    (subst HasNoControl (sym is.whole)
    (compact_text-no_control (live_data (live_of shape is.emission)) (live-writable (live_of shape is.emission) is.live)))

-- so it has no line feed, and no carriage return at its end
no_feed : (line : List ℕ) → HasNoControl line → AllByRecursion (λ (b : ℕ). (b == 10) ≡ false) line
no_feed line clean = each-weaker (λ (b : ℕ). 32 ≤ b) (λ (b : ℕ). (b == 10) ≡ false)
    (λ b high. ne_eqb b 10 (λ e. omega (arith, high, e))) line clean

no_return : (line : List ℕ) → HasNoControl line → without_return line ≡ line
no_return [] clean = refl
no_return (b ∷ bs) clean =
    let last = All-get_or (λ (c : ℕ). 32 ≤ c) (b ∷ bs) (length (b ∷ bs) - 1) 0 (omega arith)
    (All-from_recursion (λ (c : ℕ). 32 ≤ c) (b ∷ bs) clean) in
    ap (λ (t : Bool). cond t (take (length (b ∷ bs) - 1) (b ∷ bs)) (b ∷ bs))
    (ne_eqb (slice_index (b ∷ bs) (length (b ∷ bs) - 1)) 13 (λ e. omega (arith, last, e)))

-- the parts between line feeds
parts-ended : (lines : List (List ℕ)) (rest : List ℕ) → AllByRecursion HasNoControl lines → HasNoControl rest
    → slice_split (λ b. b == 10) (ended lines ++ rest) ≡ lines ++ rest ∷ []
parts-ended [] rest clean last =
    slice_split_none (λ b. b == 10) rest (All-from_recursion (λ (b : ℕ). (b == 10) ≡ false) rest (no_feed rest last))
parts-ended (line ∷ lines) rest clean last =
    ap (slice_split (λ b. b == 10)) (append_assoc (line ++ 10 ∷ []) (ended lines) rest ∙ append_assoc line (10 ∷ []) (ended lines ++ rest))
    ∙ slice_split_at (λ b. b == 10) line 10 (ended lines ++ rest)
    (All-from_recursion (λ (b : ℕ). (b == 10) ≡ false) line (no_feed line clean.0)) refl
    ∙ ap (λ l. line ∷ l) (parts-ended lines rest clean.1 last)

-- the last of them is a line where it is not empty
without_empty_end-push : (lines : List (List ℕ)) (rest : List ℕ) → without_empty_end (lines ++ rest ∷ []) ≡ lines ++ last_line rest
without_empty_end-push [] rest = refl
without_empty_end-push (line ∷ []) rest = refl
without_empty_end-push (line ∷ next ∷ lines) rest = ap (λ l. line ∷ l) (without_empty_end-push (next ∷ lines) rest)

no_returns : (lines : List (List ℕ)) → AllByRecursion HasNoControl lines → map without_return lines ≡ lines
no_returns [] clean = refl
no_returns (line ∷ lines) clean = λ i. no_return line clean.0 i ∷ no_returns lines clean.1 i

last-clean : (rest : List ℕ) → AllByRecursion HasNoControl (last_line rest) → HasNoControl rest
last-clean [] clean = tt
last-clean (b ∷ bs) clean = clean.0

-- a text of lines that end and a rest has just these lines, where none has a control byte
pub lines_of-ended : (lines : List (List ℕ)) (rest : List ℕ) → AllByRecursion HasNoControl lines
    → AllByRecursion HasNoControl (last_line rest) → lines_of (ended lines ++ rest) ≡ lines ++ last_line rest
lines_of-ended lines rest clean last =
    ap (λ parts. map without_return (without_empty_end parts)) (parts-ended lines rest clean (last-clean rest last))
    ∙ ap (map without_return) (without_empty_end-push lines rest)
    ∙ no_returns (lines ++ last_line rest) (each-append HasNoControl lines (last_line rest) clean last)

-- a text that is made of lines and a rest has just these
lines_of-made : (shape : Shape) (run : List Emission) (lines : List (List ℕ)) (text : List ℕ) (is : IsMadeOf shape run lines text)
    → lines_of text ≡ lines ++ last_line is.rest
lines_of-made shape run lines text is =
    let clean = each-weaker (IsBegun shape run) HasNoControl (begun-no_control shape run) lines is.each in
    let last = each-weaker (IsBegun shape run) HasNoControl (begun-no_control shape run) (last_line is.rest) is.last in
    ap lines_of is.whole ∙ lines_of-ended lines is.rest clean last

-- ---- the results of a run, by id

-- the results with their ids
abbrev by_id : Shape → List Emission → List (RecordId × List ℕ)
by_id shape es = map (λ (e : Emission). (e.id, told_by shape e)) es

keys_of-by_id : (shape : Shape) (es : List Emission) → keys_of (by_id shape es) ≡ ids_of es
keys_of-by_id shape [] = refl
keys_of-by_id shape (e ∷ es) = ap (λ l. e.id ∷ l) (keys_of-by_id shape es)

texts-by_id : (shape : Shape) (es : List Emission) → map (λ (p : RecordId × List ℕ). p.1) (by_id shape es) ≡ map (told_by shape) es
texts-by_id shape [] = refl
texts-by_id shape (e ∷ es) = ap (λ l. told_by shape e ∷ l) (texts-by_id shape es)

-- what holds a value holds its image
contains-map : {X Y : Type 0} (f : X → Y) (xs : List X) (x : X) → Contains xs x → Contains (map f xs) (f x)
contains-map f [] x (k, within, is) = absurd (omega (arith, within))
contains-map f (y ∷ ys) x (zero, within, is) = (0, omega arith, ap f is)
contains-map f (y ∷ ys) x (suc k, within, is) =
    let next = contains-map f ys x (k, omega (arith, within), is) in (suc next.0, omega (arith, next.1), next.2)

-- an emission's result is found under its id
result-found : (shape : Shape) (run : List Emission) (e : Emission) → IsStrictlySortedBy id_cmp (ids_of run) → Contains run e
    → lookup (is_at (id_cmp e.id)) (by_id shape run) ≡ Some (told_by shape e)
result-found shape run e ascend there =
    lookup-from_Contains (eq_by_cmp_equiv id_cmp-total) e.id (told_by shape e) (by_id shape run)
    (IsDistinct-from_sorted id_cmp (keys_of (by_id shape run)) (subst (IsStrictlySortedBy id_cmp) (sym (keys_of-by_id shape run)) ascend))
    (contains-map (λ (d : Emission). (d.id, told_by shape d)) run e there)

-- ---- what is told

-- a live line of a text is the result with its id
abbrev IsResult : Shape → List Emission → Telling → Type 0
IsResult shape run one = lookup (is_at (id_cmp one.0)) (by_id shape run) ≡ Some one.1.text

-- a line that begins a live line and is told is the whole of it
begun-told : (shape : Shape) (run : List Emission) (line : List ℕ) (id : RecordId) (is : IsBegun shape run line) → told_id line ≡ Some id
    → (line ≡ told_by shape is.emission) × (id ≡ is.emission.id)
begun-told shape run line id is told =
    let live = told_id-is line id told in
    let none : is.left ≡ [] =
    no_more live.0 (live_of shape is.emission) is.left live.1 is.live (ap (λ l. l ++ is.left) live.3 ∙ is.whole) in
    let whole : line ≡ told_by shape is.emission = sym (append-nil line) ∙ ap (λ l. line ++ l) (sym none) ∙ is.whole in
    (whole, some_same id is.emission.id (sym told ∙ ap told_id whole ∙ told_id-own (live_of shape is.emission) is.live))

-- the live lines, where the first line tells this
abbrev told_as : ℕ → List ℕ → Option RecordId → List Telling → List Telling
told_as n text o rest = option_map_or (λ (id : RecordId). (id, record { line = n; text = text }) ∷ rest) o rest

-- what is told of lines that begin live lines are results
tellings-results : (shape : Shape) (run : List Emission) (n : ℕ) (lines : List (List ℕ)) → IsStrictlySortedBy id_cmp (ids_of run)
    → AllByRecursion (IsBegun shape run) lines → AllByRecursion (IsResult shape run) (tellings_from n lines)
tellings-results shape run n [] ascend begun = tt
tellings-results shape run n (line ∷ lines) ascend begun =
    by_told (told_id line) refl (tellings-results shape run (n + 1) lines ascend begun.1)
  where
    by_told : (o : Option RecordId) → told_id line ≡ o → AllByRecursion (IsResult shape run) (tellings_from (n + 1) lines)
        → AllByRecursion (IsResult shape run)
        (told_as n line o (tellings_from (n + 1) lines))
    by_told None told rest = rest
    by_told (Some id) told rest =
        let is = begun-told shape run line id begun.0 told in (
          subst (λ (i : RecordId). lookup (is_at (id_cmp i)) (by_id shape run) ≡ Some line) (sym is.1)
              (result-found shape run begun.0.emission ascend begun.0.emitted ∙ ap Some (sym is.0)),
          rest,
        )

-- a live line that stands among the lines is found under its id
told-found : (n : ℕ) (lines : List (List ℕ)) (line : List ℕ) (id : RecordId) → told_id line ≡ Some id → Contains lines line
    → IsSome (first_with id (tellings_from n lines))
told-found n [] line id told (k, within, is) = absurd (omega (arith, within))
told-found n (x ∷ xs) line id told (zero, within, is) =
    subst (λ (o : Option RecordId). IsSome (first_with id (told_as n x o (tellings_from (n + 1) xs))))
    (sym (ap told_id is ∙ told))
    (subst (λ (b : Bool). IsSome (cond b (Some (record { line = n; text = x })) (first_with id (tellings_from (n + 1) xs))))
    (sym (ap is_eq (tied_itself id_cmp-total id))) refl)
told-found n (x ∷ xs) line id told (suc k, within, is) =
    by_told (told_id x) (told-found (n + 1) xs line id told (k, omega (arith, within), is))
  where
    by_test : (b : Bool) (h : Held) (o : Option Held) → IsSome o → IsSome (cond b (Some h) o)
    by_test true h o some = refl
    by_test false h o some = some

    by_told : (o : Option RecordId) → IsSome (first_with id (tellings_from (n + 1) xs))
        → IsSome
        (first_with id (told_as n x o (tellings_from (n + 1) xs)))
    by_told None some = some
    by_told (Some i) some = by_test (is_at (id_cmp id) i) (record { line = n; text = x }) (first_with id (tellings_from (n + 1) xs)) some

-- what is found of results is the result with its id
found-result : (shape : Shape) (run : List Emission) (told : List Telling) (id : RecordId) (h : Held)
    → AllByRecursion (IsResult shape run) told → first_with id told ≡ Some h → lookup (is_at (id_cmp id)) (by_id shape run) ≡ Some h.text
found-result shape run [] id h each is = absurd (none_some h is)
found-result shape run (one ∷ told) id h each is =
    by_test (is_at (id_cmp id) one.0) refl (found-result shape run told id h each.1) is
  where
    by_test : (b : Bool) → is_at (id_cmp id) one.0 ≡ b
        → (first_with id told ≡ Some h → lookup (is_at (id_cmp id)) (by_id shape run) ≡ Some h.text)
        → cond b (Some one.1) (first_with id told) ≡ Some h → lookup (is_at (id_cmp id)) (by_id shape run) ≡ Some h.text
    by_test true at rest is = ap (λ i. lookup (is_at (id_cmp i)) (by_id shape run)) (same_found id one.0 at) ∙ each.0
        ∙ ap (λ (k : Held). Some k.text) (some_same one.1 h is)
    by_test false at rest is = rest is

none_there : (o : Option Held) → o ≡ None → IsSome o → ⊥
none_there None none there = cc
none_there (Some h) none there = cc

-- where each result is found, what is not found is no result
none-result : (shape : Shape) (es : List Emission) (told : List Telling) (id : RecordId)
    → AllByRecursion (λ (e : Emission). IsSome (first_with e.id told)) es → first_with id told ≡ None
    → lookup (is_at (id_cmp id)) (by_id shape es) ≡ None
none-result shape [] told id each none = refl
none-result shape (e ∷ es) told id each none = by_test (is_at (id_cmp id) e.id) refl (none-result shape es told id each.1 none)
  where
    by_test : (b : Bool) → is_at (id_cmp id) e.id ≡ b → lookup (is_at (id_cmp id)) (by_id shape es) ≡ None
        → cond b (Some (told_by shape e)) (lookup (is_at (id_cmp id)) (by_id shape es)) ≡ None
    by_test true at rest =
        absurd (none_there (first_with e.id told) (ap (λ i. first_with i told) (sym (same_found id e.id at)) ∙ none) each.0)
    by_test false at rest = rest

-- ---- a text that covers

-- what a text that is made of live lines tells are results
made-results : (shape : Shape) (history : List Entry) (lines : List (List ℕ)) (text : List ℕ)
    → IsMadeOf shape (run_of shape history).emissions lines text
    → AllByRecursion (IsResult shape (run_of shape history).emissions) (tellings text)
made-results shape history lines text is =
    let run = (run_of shape history).emissions in
    subst (λ (l : List (List ℕ)). AllByRecursion (IsResult shape run) (tellings_from 1 l)) (sym (lines_of-made shape run lines text is))
    (tellings-results shape run 1 (lines ++ last_line is.rest) (ids-ascend shape history)
    (each-append (IsBegun shape run) lines (last_line is.rest) is.each is.last))

-- no live line of such a text differs from an earlier one of its id
pub covers-agrees : (shape : Shape) (history : List Entry) (place : ℕ) (text : List ℕ) (why : CollectRefusal)
    → Covers shape history place text
    → WhyNot text why → why ≡ NoMemory
covers-agrees shape history place text NoMemory covers why = refl
covers-agrees shape history place text (Differs line first) covers why =
    let run = (run_of shape history).emissions in
    let each = subst (AllByRecursion (IsResult shape run)) why.stands (made-results shape history covers.lines text covers.made) in
    let before = each-front (IsResult shape run) why.before ((why.id, record { line = line; text = why.text }) ∷ why.after) each in
    let this : lookup (is_at (id_cmp why.id)) (by_id shape run) ≡ Some why.text = one_of why.before each in
    let held : lookup (is_at (id_cmp why.id)) (by_id shape run) ≡ Some why.held =
    found-result shape run why.before why.id (record { line = first; text = why.held }) before why.found in
    absurd (why.differs (some_same why.held why.text (sym held ∙ this)))
  where
    one_of : (before : List Telling)
        → AllByRecursion (IsResult shape (run_of shape history).emissions)
        (before ++ (why.id, record { line = line; text = why.text }) ∷ why.after)
        → lookup (is_at (id_cmp why.id)) (by_id shape (run_of shape history).emissions) ≡ Some why.text
    one_of [] each = each.0
    one_of (x ∷ xs) each = one_of xs each.1

-- each result of which the line stands in the text is found
stand-found : (shape : Shape) (run : List Emission) (lines : List (List ℕ)) (text : List ℕ) (es : List Emission)
    → IsMadeOf shape run lines text
    → StandIn shape lines es → AllByRecursion (λ (e : Emission). IsSome (first_with e.id (tellings text))) es
stand-found shape run lines text es is stand =
    each-weaker (λ (e : Emission). Contains lines (told_by shape e) × IsLive (live_of shape e))
    (λ (e : Emission). IsSome (first_with e.id (tellings text)))
    (λ e stands. subst (λ (l : List (List ℕ)). IsSome (first_with e.id (tellings_from 1 l))) (sym (lines_of-made shape run lines text is))
    (told-found 1 (lines ++ last_line is.rest) (told_by shape e) e.id (told_id-own (live_of shape e) stands.1)
    (Contains-append_left lines (last_line is.rest) (told_by shape e) stands.0))) es stand

-- ---- what is collected

-- what was found, without the numbers of lines
abbrev unnumbered : List Telling → List (RecordId × List ℕ)
unnumbered found = map (λ (one : Telling). (one.0, one.1.text)) found

keys_of-unnumbered : (found : List Telling) → keys_of (unnumbered found) ≡ map (λ (one : Telling). one.0) found
keys_of-unnumbered [] = refl
keys_of-unnumbered (one ∷ found) = ap (λ l. one.0 ∷ l) (keys_of-unnumbered found)

texts-unnumbered : (found : List Telling)
    → map (λ (p : RecordId × List ℕ). p.1) (unnumbered found) ≡ map (λ (one : Telling). one.1.text) found
texts-unnumbered [] = refl
texts-unnumbered (one ∷ found) = ap (λ l. one.1.text ∷ l) (texts-unnumbered found)

lookup-unnumbered : (test : RecordId → Bool) (found : List Telling)
    → lookup test (unnumbered found) ≡ option_map (λ (h : Held). h.text) (lookup test found)
lookup-unnumbered test [] = refl
lookup-unnumbered test (one ∷ found) = by_test (test one.0) (lookup-unnumbered test found)
  where
    by_test : (b : Bool) → lookup test (unnumbered found) ≡ option_map (λ (h : Held). h.text) (lookup test found)
        → cond b (Some one.1.text) (lookup test (unnumbered found))
        ≡ option_map (λ (h : Held). h.text) (cond b (Some one.1) (lookup test found))
    by_test true rest = refl
    by_test false rest = rest

-- a text that covers the whole history collects to its results
pub covers-collects : (shape : Shape) (history : List Entry) (place : ℕ) (text : List ℕ) (texts : List (List ℕ)) (others : ℕ)
    → Covers shape history place text → length history ≤ place → IsCollected text texts others → texts ≡ results_of shape history
covers-collects shape history place text texts others covers all collected =
    let run = (run_of shape history).emissions in
    let results = made-results shape history covers.lines text covers.made in
    let stand : StandIn shape covers.lines run = subst (StandIn shape covers.lines) (emitted-all shape history place all) covers.all in
    let each = stand-found shape run covers.lines text run covers.made stand in
    let same : unnumbered collected.found ≡ by_id shape run =
    same_entries (unnumbered collected.found) (by_id shape run)
    (subst (IsStrictlySortedBy id_cmp) (sym (keys_of-unnumbered collected.found)) collected.ascending)
    (subst (IsStrictlySortedBy id_cmp) (sym (keys_of-by_id shape run)) (ids-ascend shape history))
    (λ id. lookup-unnumbered (is_at (id_cmp id)) collected.found
    ∙ ap (option_map (λ (h : Held). h.text)) (collected.each id)
    ∙ as_results id results each (first_with id (tellings text)) refl) in
    collected.texts_of ∙ sym (texts-unnumbered collected.found)
    ∙ ap (map (λ (p : RecordId × List ℕ). p.1)) same ∙ texts-by_id shape run
  where
    as_results : (id : RecordId) → AllByRecursion (IsResult shape (run_of shape history).emissions) (tellings text)
        → AllByRecursion (λ (e : Emission). IsSome (first_with e.id (tellings text))) (run_of shape history).emissions
        → (o : Option Held) → first_with id (tellings text) ≡ o
        → option_map (λ (h : Held). h.text) o ≡ lookup (is_at (id_cmp id)) (by_id shape (run_of shape history).emissions)
    as_results id results each None none = sym (none-result shape (run_of shape history).emissions (tellings text) id each none)
    as_results id results each (Some h) is = sym (found-result shape (run_of shape history).emissions (tellings text) id h results is)

-- ---- a text that covers a beginning

-- what was found under an id is what the text tells first under it, and that is the result with that id
found-by_id : (shape : Shape) (history : List Entry) (place : ℕ) (text : List ℕ) (texts : List (List ℕ)) (others : ℕ)
    → Covers shape history place text → (collected : IsCollected text texts others) → (id : RecordId) (h : Held)
    → first_with id (tellings text) ≡ Some h
    → lookup (is_at (id_cmp id)) (unnumbered collected.found) ≡ lookup (is_at (id_cmp id)) (by_id shape (run_of shape history).emissions)
found-by_id shape history place text texts others covers collected id h is =
    lookup-unnumbered (is_at (id_cmp id)) collected.found
    ∙ ap (option_map (λ (h : Held). h.text)) (collected.each id ∙ is)
    ∙ sym (found-result shape (run_of shape history).emissions (tellings text) id h
    (made-results shape history covers.lines text covers.made) is)

-- the collected texts are those that were found
texts-found : (text : List ℕ) (texts : List (List ℕ)) (others : ℕ) (collected : IsCollected text texts others)
    → map (λ (p : RecordId × List ℕ). p.1) (unnumbered collected.found) ≡ texts
texts-found text texts others collected = texts-unnumbered collected.found ∙ sym collected.texts_of

-- each result of the beginning is collected
pub covers-part : (shape : Shape) (history : List Entry) (place : ℕ) (text : List ℕ) (texts : List (List ℕ)) (others : ℕ)
    → Covers shape history place text → IsCollected text texts others
    → AllByRecursion (Contains texts) (results_of shape (take place history))
covers-part shape history place text texts others covers collected =
    let run = (run_of shape history).emissions in
    let es = emitted_by shape history place in
    let grows = emitted-grows shape history place in
    each-map (Contains texts) (told_by shape) es
    (each-weaker (λ (e : Emission). Contains es e × IsSome (first_with e.id (tellings text)))
    (λ (e : Emission). Contains texts (told_by shape e))
    (λ e both. of_found e (subst (λ l. Contains l e) grows.1 (Contains-append_left es grows.0 e both.0))
    (first_with e.id (tellings text)) refl both.1) es
    (each-both (Contains es) (λ (e : Emission). IsSome (first_with e.id (tellings text))) es
    (recursion_from_All (Contains es) es (All-contains_itself es))
    (stand-found shape run covers.lines text es covers.made covers.all)))
  where
    of_found : (e : Emission) → Contains (run_of shape history).emissions e → (o : Option Held) → first_with e.id (tellings text) ≡ o
        → IsSome o
        → Contains texts (told_by shape e)
    of_found e there None is some = absurd (none_there None refl some)
    of_found e there (Some h) is some =
        subst (λ l. Contains l (told_by shape e)) (texts-found text texts others collected)
        (contains-map (λ (p : RecordId × List ℕ). p.1) (unnumbered collected.found) (e.id, told_by shape e)
        (Contains-from_lookup same_found e.id (told_by shape e) (unnumbered collected.found)
        (found-by_id shape history place text texts others covers collected e.id h is
        ∙ result-found shape (run_of shape history).emissions e (ids-ascend shape history) there)))

-- and nothing but results is
pub covers-only : (shape : Shape) (history : List Entry) (place : ℕ) (text : List ℕ) (texts : List (List ℕ)) (others : ℕ)
    → Covers shape history place text → IsCollected text texts others → AllByRecursion (Contains (results_of shape history)) texts
covers-only shape history place text texts others covers collected =
    let found = unnumbered collected.found in
    subst (AllByRecursion (Contains (results_of shape history))) (texts-found text texts others collected)
    (each-map (Contains (results_of shape history)) (λ (p : RecordId × List ℕ). p.1) found
    (each-weaker (Contains found) (λ (p : RecordId × List ℕ). Contains (results_of shape history) p.1)
    (λ p there. of_found p (lookup-from_Contains (eq_by_cmp_equiv id_cmp-total) p.0 p.1 found distinct there)
    (first_with p.0 (tellings text)) refl)
    found (recursion_from_All (Contains found) found (All-contains_itself found))))
  where
    distinct : IsDistinct (eq_by_cmp id_cmp) (keys_of (unnumbered collected.found))
    distinct = IsDistinct-from_sorted id_cmp (keys_of (unnumbered collected.found))
        (subst (IsStrictlySortedBy id_cmp) (sym (keys_of-unnumbered collected.found)) collected.ascending)

    of_found : (p : RecordId × List ℕ) → lookup (is_at (id_cmp p.0)) (unnumbered collected.found) ≡ Some p.1
        → (o : Option Held) → first_with p.0 (tellings text) ≡ o → Contains (results_of shape history) p.1
    of_found p at None none =
        absurd (none_some p.1 (sym (ap (option_map (λ (h : Held). h.text)) (collected.each p.0 ∙ none))
        ∙ sym (lookup-unnumbered (is_at (id_cmp p.0)) collected.found) ∙ at))
    of_found p at (Some h) is =
        subst (λ l. Contains l p.1) (texts-by_id shape (run_of shape history).emissions)
        (contains-map (λ (q : RecordId × List ℕ). q.1) (by_id shape (run_of shape history).emissions) (p.0, p.1)
        (Contains-from_lookup same_found p.0 p.1 (by_id shape (run_of shape history).emissions)
        (sym (found-by_id shape history place text texts others covers collected p.0 h is) ∙ at)))
