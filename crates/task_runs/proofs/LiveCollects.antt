-- What a text collects to that was written while its run went on.
use Rattle.std.proofs.Common.{◌≡◌, ◌≤◌, ◌+◌, ◌/◌, ◌%◌, ◌==◌, ◌++◌, ◌∙◌, ℕ, zero, suc, nat_lt, Bool, true, false, cond, List, [], ◌∷◌, get_or, length, codes, decimal, Option, Some, None, refl, sym, ap, subst, arith, append-nil}
use Rattle.std.specs.Prelude.{Contains, count_by, fold, is_none}
use Rattle.std.specs.Fmt.{digit_glyph, digits, digits_onto}
use Rattle.std.specs.List.{AllByRecursion, sum_by}
use Rattle.std.specs.Option.{option_map_or}
use Rattle.std.proofs.lemmas.List.Elements.{All-contains, All-from_recursion}
use Rattle.std.proofs.lemmas.List.Sums.{sum_by-append}
use Rattle.json.specs.Print.{escape_byte, quoted}
use Rattle.json.proofs.Printed.Utf8.{IsUtf8-are_ascii, are_ascii}
use Rattle.serde_json.specs.Data.{string, number, unsigned, Members, no_members, member}
use Rattle.serde_json.specs.Written.{compact_text, members_text}
use Rattle.mw_types.specs.declared.identity.RecordId.{RecordId}
use Rattle.mw_types.specs.declared.delivery.Emission.{Emission}
use Rattle.mw_types.specs.declared.entry.Entry.{Entry}
use Rattle.topology.specs.Shapes.{Shape}
use Rattle.text_lines.specs.Lines.{lines_of}
use Rattle.list_lemmas.proofs.Lists.{each-append, each-weaker}
use Rattle.read_back.specs.Writable.{HasNoControl}
use Rattle.read_back.proofs.Control.{compact_text-no_control}
use Rattle.run_history.specs.Runs.{run_of}
use Rattle.run_history.specs.Texts.{as_line, summary_data, is_fire, is_handle, is_inject, is_late}
use Rattle.live_outlet.specs.declared.refusal.CollectRefusal.{CollectRefusal}
use Rattle.live_outlet.specs.declared.refusal.CollectRefusal.TheVariants.{Differs, NoMemory}
use Rattle.live_outlet.specs.LiveLines.{LiveLine, live_of, live_text, IsLive}
use Rattle.live_outlet.specs.Collecting.{Agrees, IsCollected, IsFirstToDiffer, Telling, WhyNot, first_with, is_other, tellings, tellings_from, told_before, told_id}
use Rattle.live_outlet.specs.Covering.{Covers, IsBegun, StandIn, ended, results_of, told_by}
use Rattle.live_outlet.proofs.Emitting.{emitted-all}
use Rattle.live_outlet.proofs.Results.{begun-no_control, covers-agrees, covers-collects, lines_of-ended}
use Rattle.live_outlet.proofs.Spelling.{told_id-is, told_id-own}
use Rattle.task_runs.specs.Lives.{IsLiveText, IsResultOf}
use Rattle.task_runs.proofs.Living.{ended-append}

-- ---- the summary line

-- what the summary line has before its LF
abbrev summary_text : List Entry → List ℕ
summary_text history = compact_text (summary_data history)

-- a digit is no control byte, so a number has none
glyph-high : (d : ℕ) → 32 ≤ digit_glyph false d
glyph-high d = by_small (nat_lt d 10)
  where
    by_small : (b : Bool) → 32 ≤ cond b (48 + d) (87 + d)
    by_small true = omega arith
    by_small false = omega arith

digits-clean : (k n : ℕ) (acc : List ℕ) → HasNoControl acc → HasNoControl (digits_onto k 10 false n acc)
digits-clean zero n acc clean = clean
digits-clean (suc k) n acc clean =
    by_last (n / 10 == 0) (digits-clean k (n / 10) (digit_glyph false (n % 10) ∷ acc) (glyph-high (n % 10), clean))
  where
    by_last : (b : Bool) → HasNoControl (digits_onto k 10 false (n / 10) (digit_glyph false (n % 10) ∷ acc))
        → HasNoControl (cond b (digit_glyph false (n % 10) ∷ acc) (digits_onto k 10 false (n / 10) (digit_glyph false (n % 10) ∷ acc)))
    by_last true rest = (glyph-high (n % 10), clean)
    by_last false rest = rest

decimal-clean : (n : ℕ) → HasNoControl (decimal n)
unfolding digits
decimal-clean n = digits-clean 64 n [] tt

-- nor has the name of a member, where it is ASCII
quoted-clean : (name : List ℕ) → are_ascii name ≡ true → HasNoControl (quoted name)
quoted-clean name ascii = compact_text-no_control (string name) (IsUtf8-are_ascii name ascii)

-- so a count has none, and what stands behind it
member-clean : (name : List ℕ) (n : ℕ) (more : Members) → are_ascii name ≡ true → HasNoControl (members_text true more)
    → HasNoControl (members_text false (member name (number (unsigned n)) more))
member-clean name n more ascii rest =
    each-append (λ (b : ℕ). 32 ≤ b) (quoted name) (58 ∷ (decimal n ++ members_text true more)) (quoted-clean name ascii)
    (omega arith, each-append (λ (b : ℕ). 32 ≤ b) (decimal n) (members_text true more) (decimal-clean n) rest)

later-clean : (name : List ℕ) (n : ℕ) (more : Members) → are_ascii name ≡ true → HasNoControl (members_text true more)
    → HasNoControl (members_text true (member name (number (unsigned n)) more))
later-clean name n more ascii rest = (omega arith, member-clean name n more ascii rest)

summary-clean : (history : List Entry) → HasNoControl (summary_text history)
summary-clean history =
    let late = member (codes "late") (number (unsigned (count_by is_late history))) no_members in
    let injected = member (codes "injected") (number (unsigned (count_by is_inject history))) late in
    let handled = member (codes "handled") (number (unsigned (count_by is_handle history))) injected in (
      omega arith,
      member-clean (codes "fired") (count_by is_fire history) handled refl
          (later-clean (codes "handled") (count_by is_handle history) injected refl
          (later-clean (codes "injected") (count_by is_inject history) late refl
          (later-clean (codes "late") (count_by is_late history) no_members refl (omega arith, tt)))),
    )

-- it is no live line: its first member has another name
third-live : (line : LiveLine) → get_or (live_text line) 2 0 ≡ 105
unfolding escape_byte
third-live line = refl

third-summary : (history : List Entry) → get_or (summary_text history) 2 0 ≡ 102
unfolding escape_byte
third-summary history = refl

summary-untold : (history : List Entry) → told_id (summary_text history) ≡ None
summary-untold history = by_told (told_id (summary_text history)) refl
  where
    by_told : (o : Option RecordId) → told_id (summary_text history) ≡ o → o ≡ None
    by_told None told = refl
    by_told (Some id) told =
        let live = told_id-is (summary_text history) id told in
        let same : get_or (live_text live.0) 2 0 ≡ get_or (summary_text history) 2 0 = ap (λ (l : List ℕ). get_or l 2 0) live.3 in
        absurd (omega (arith, same, third-live live.0, third-summary history))

-- ---- lines and a summary line

-- a last line that is told under no id adds no live line
tellings-untold : (n : ℕ) (lines : List (List ℕ)) (last : List ℕ) → told_id last ≡ None
    → tellings_from n (lines ++ last ∷ []) ≡ tellings_from n lines
tellings-untold n [] last none = ap (λ (o : Option RecordId).
    option_map_or (λ (id : RecordId). (id, record { line = n; text = last }) ∷ []) o []) none
tellings-untold n (line ∷ lines) last none = ap (told_before n line) (tellings-untold (n + 1) lines last none)

-- so much a line counts as another
abbrev counts : List ℕ → ℕ
counts line = cond (is_other line) 1 0

-- live lines count nothing
none-counted : (n : ℕ) (lines : List (List ℕ)) → AllByRecursion (λ (line : List ℕ). counts line ≡ 0) lines
    → fold (λ m line. m + counts line) n lines ≡ n
none-counted n [] each = refl
none-counted n (line ∷ lines) each =
    let same : n + counts line ≡ n = omega (arith, each.0) in
    ap (λ k. fold (λ m line. m + counts line) k lines) same ∙ none-counted n lines each.1

module _ (shape : Shape) (history : List Entry) (text : List ℕ) (is : IsLiveText shape history text) where
  -- an emission of the run can be printed
  is_live : (e : Emission) → Contains (run_of shape history).emissions e → IsLive (live_of shape e)
  is_live e there =
      (All-contains (λ (d : Emission). Contains is.lines (told_by shape d) × IsLive (live_of shape d)) (run_of shape history).emissions e
      (All-from_recursion _ (run_of shape history).emissions is.all) there).1

  begun : AllByRecursion (IsBegun shape (run_of shape history).emissions) is.lines
  begun = each-weaker (IsResultOf shape history) (IsBegun shape (run_of shape history).emissions)
      (λ line result. record {
        emission = result.emission;
        emitted = result.emitted;
        live = is_live result.emission result.emitted;
        left = [];
        whole = append-nil line ∙ result.tells;
      }) is.lines is.each

  clean : AllByRecursion HasNoControl is.lines
  clean = each-weaker (IsBegun shape (run_of shape history).emissions) HasNoControl
      (begun-no_control shape (run_of shape history).emissions) is.lines begun

  -- the lines without the summary line cover the history
  covered : Covers shape history (length history) (ended is.lines)
  covered = record {
    lines = is.lines;
    made = record { rest = []; whole = sym (append-nil (ended is.lines)); each = begun; last = tt };
    all = subst (StandIn shape is.lines) (sym (emitted-all shape history (length history) (omega arith))) is.all;
  }

  -- the lines of both texts
  result-lines : lines_of (ended is.lines) ≡ is.lines
  result-lines = ap lines_of (sym (append-nil (ended is.lines))) ∙ lines_of-ended is.lines [] clean tt ∙ append-nil is.lines

  text-lines : lines_of text ≡ is.lines ++ summary_text history ∷ []
  text-lines =
      let all = is.lines ++ summary_text history ∷ [] in
      let one : ended (summary_text history ∷ []) ≡ as_line (summary_data history) = append-nil (as_line (summary_data history)) in
      ap lines_of (is.spelled ∙ ap (λ (l : List ℕ). ended is.lines ++ l) (sym one)
      ∙ sym (ended-append is.lines (summary_text history ∷ [])) ∙ sym (append-nil (ended all)))
      ∙ lines_of-ended all [] (each-append HasNoControl is.lines (summary_text history ∷ []) clean (summary-clean history, tt)) tt
      ∙ append-nil all

  -- both tell the same
  same-told : tellings text ≡ tellings (ended is.lines)
  same-told = ap (tellings_from 1) text-lines ∙ tellings-untold 1 is.lines (summary_text history) (summary-untold history)
      ∙ ap (tellings_from 1) (sym result-lines)

  -- no line differs from an earlier one of its id
  pub live-agrees : (why : CollectRefusal) → WhyNot text why → why ≡ NoMemory
  live-agrees NoMemory why = refl
  live-agrees (Differs line first) why = covers-agrees shape history (length history) (ended is.lines) (Differs line first) covered
      (subst (λ (told : List Telling). IsFirstToDiffer told line first) same-told why)

  -- one line is no live line
  counted : count_by is_other (lines_of text) ≡ 1
  counted =
      let none : AllByRecursion (λ (line : List ℕ). counts line ≡ 0) is.lines = each-weaker (IsResultOf shape history)
      (λ (line : List ℕ). counts line ≡ 0) (λ line result. ap counts result.tells
      ∙ ap (λ (o : Option RecordId). cond (is_none o) 1 0)
      (told_id-own (live_of shape result.emission) (is_live result.emission result.emitted))) is.lines is.each in
      let last : counts (summary_text history) ≡ 1 =
      ap (λ (o : Option RecordId). cond (is_none o) 1 0) (summary-untold history) in
      ap (count_by is_other) text-lines ∙ sum_by-append counts is.lines (summary_text history ∷ [])
      ∙ ap (λ n. n + sum_by counts (summary_text history ∷ [])) (none-counted 0 is.lines none)
      ∙ ap (λ n. 0 + (0 + n)) last

  -- and the others give the results
  pub live-collects : (texts : List (List ℕ)) (others : ℕ) → IsCollected text texts others
      → (texts ≡ results_of shape history) × (others ≡ 1)
  live-collects texts others collected = (
    covers-collects shape history (length history) (ended is.lines) texts _ covered (omega arith) (record {
      agree = subst (λ (told : List Telling). AllByRecursion (Agrees told) told) same-told collected.agree;
      found = collected.found;
      texts_of = collected.texts_of;
      ascending = collected.ascending;
      each = λ id. collected.each id ∙ ap (first_with id) same-told;
      count = refl;
    }),
    collected.count ∙ counted,
  )
