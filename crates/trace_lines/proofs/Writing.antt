-- Each entry can be written, and is read as it was.
use Rattle.std.proofs.Common.{◌≡◌, ℕ, ◌<◌, ◌≤◌, ◌^◌, List, [], ◌∷◌, map, Bool, cond, None, Some, true, codes, IsUtf8, inl, refl, ap, ◌∙◌, arith}
use Rattle.std.specs.Int.{to_be_bytes, w128}
use Rattle.std.specs.List.{AllByRecursion}
use Rattle.std.proofs.lemmas.List.Elements.{recursion_from_All}
use Rattle.std.proofs.lemmas.Bool.{and_parts, ltb-true}
use Rattle.std.proofs.lemmas.Str.{IsUtf8-from_ascii, is_utf8-from_IsUtf8}
use Rattle.std.proofs.lemmas.Str.Ascii.{IsAscii-nil, IsAscii-cons}
use Rattle.std.specs.Str.{IsAscii}
use Rattle.json.proofs.Printed.Utf8.{IsUtf8-are_ascii, are_ascii}
use Rattle.uuid.specs.Text.{lower}
use Rattle.uuid.proofs.TextLemmas.{hyphenated_ascii}
use Rattle.hex.specs.Hex.{encode_lower, lower_digits}
use Rattle.hex.proofs.HexLemmas.{IsAscii-encode_with}
use Rattle.mw_types.specs.declared.TheConstants.{MAX_STAMP}
use Rattle.mw_types.specs.Outcomes.{EffectsView}
use Rattle.mw_types.specs.PrintedIds.{id_number, printed_id}
use Rattle.mw_types.specs.declared.identity.RecordId.{RecordId}
use Rattle.mw_types.specs.declared.record.Production.{Production}
use Rattle.mw_types.specs.declared.timer.Timer.{Timer}
use Rattle.mw_types.specs.declared.state.State.{State}
use Rattle.mw_types.specs.declared.entry.Entry.{Entry}
use Rattle.mw_types.specs.declared.entry.Entry.TheVariants.{Claim, Inject, Handle, Fire, Ack, Purge}
use Rattle.serde_json.specs.Data.{Data, depth, items_depth}
use Rattle.serde_json.specs.Read.{read, max_depth}
use Rattle.serde_json.specs.View.{items_of}
use Rattle.json_reading.specs.Texts.{json_of}
use Rattle.read_back.specs.Writable.{IsWritable, AreWritable}
use Rattle.read_back.proofs.Utf8.{compact_text-utf8}
use Rattle.read_back.proofs.Reading.{read-compact_text}
use Rattle.row_parts.specs.Spelling.{state_spelling}
use Rattle.run_history.specs.HistoryLines.{production_data, timer_data, entry_data}
use Rattle.trace_lines.specs.Lines.{text_of_entry}
use Rattle.trace_lines.specs.Entries.{IsProduction, IsOutcome, IsEntry}
use Rattle.live_outlet.proofs.Reading.{value-whole}

-- ---- the parts of an entry

id-utf8 : (id : RecordId) → IsUtf8 (printed_id id)
id-utf8 id = IsUtf8-from_ascii (printed_id id) (hyphenated_ascii lower (to_be_bytes w128 (id_number id)) (inl refl))

ascii-each : (xs : List ℕ) → are_ascii xs ≡ true → IsAscii xs
ascii-each [] each = IsAscii-nil
ascii-each (x ∷ xs) each =
    let both = and_parts _ _ each in
    IsAscii-cons x xs (ltb-true _ _ both.0) (ascii-each xs both.1)

state-utf8 : (state : State) → IsUtf8 (encode_lower (state_spelling state))
state-utf8 state = IsUtf8-from_ascii (encode_lower (state_spelling state))
    (IsAscii-encode_with lower_digits (state_spelling state) (ascii-each lower_digits refl))

production-writable : (p : Production) → p.stamp ≤ MAX_STAMP → IsProduction p → IsWritable (production_data p)
production-writable p in_time is = (
  (refl, (refl, (refl, tt))),
  (
    IsUtf8-are_ascii (codes "key") refl,
    is.key.text,
    (
      IsUtf8-are_ascii (codes "ts") refl,
      omega (arith, in_time),
      (
        IsUtf8-are_ascii (codes "value") refl,
        value-whole p.value is.value,
        tt,
      ),
    ),
  ),
)

timer-writable : (t : Timer) → t.time ≤ MAX_STAMP → t.tag < 2 ^ 64 → IsWritable (timer_data t)
timer-writable t in_time small = (
  (refl, (refl, tt)),
  (
    IsUtf8-are_ascii (codes "tag") refl,
    small,
    (
      IsUtf8-are_ascii (codes "time") refl,
      omega (arith, in_time),
      tt,
    ),
  ),
)

-- what can be written of two facts of each element
items-writable : {X : Type 0} (P Q : X → Type 0) (shown : X → Data) → ((x : X) → P x → Q x → IsWritable (shown x)) → (xs : List X)
    → AllByRecursion P xs → AllByRecursion Q xs → AreWritable (items_of (map shown xs))
items-writable P Q shown can [] ps qs = tt
items-writable P Q shown can (x ∷ xs) ps qs = (can x ps.0 qs.0, items-writable P Q shown can xs ps.1 qs.1)

productions-writable : (e : EffectsView) → IsOutcome e → AreWritable (items_of (map production_data e.productions))
productions-writable e is =
    items-writable (λ (p : Production). p.stamp ≤ MAX_STAMP) IsProduction production_data production-writable e.productions
    (recursion_from_All (λ (p : Production). p.stamp ≤ MAX_STAMP) e.productions is.kept.stamps)
    (recursion_from_All IsProduction e.productions is.productions)

timers-writable : (e : EffectsView) → IsOutcome e → AreWritable (items_of (map timer_data e.timers))
timers-writable e is = items-writable (λ (t : Timer). t.time ≤ MAX_STAMP) (λ (t : Timer). t.tag < 2 ^ 64) timer_data timer-writable e.timers
    (recursion_from_All (λ (t : Timer). t.time ≤ MAX_STAMP) e.timers is.kept.times)
    (recursion_from_All (λ (t : Timer). t.tag < 2 ^ 64) e.timers is.tags)

-- ---- the entries

-- each entry can be written
pub entry-writable : (n : ℕ) (e : Entry) → n < 2 ^ 64 → IsEntry e → IsWritable (entry_data n e)
entry-writable n (Claim worker interval) small is = (
  (refl, (refl, (refl, (refl, tt)))),
  (
    IsUtf8-are_ascii (codes "do") refl,
    IsUtf8-are_ascii (codes "claim") refl,
    (
      IsUtf8-are_ascii (codes "interval") refl,
      omega (arith, is.1),
      (
        IsUtf8-are_ascii (codes "n") refl,
        small,
        (
          IsUtf8-are_ascii (codes "worker") refl,
          omega (arith, is.0),
          tt,
        ),
      ),
    ),
  ),
)
entry-writable n (Inject seq part line item) small is = (
  (refl, (refl, (refl, (refl, (refl, (refl, (refl, (refl, (refl, tt))))))))),
  (
    IsUtf8-are_ascii (codes "do") refl,
    IsUtf8-are_ascii (codes "inject") refl,
    (
      IsUtf8-are_ascii (codes "key") refl,
      is.3.key.text,
      (
        IsUtf8-are_ascii (codes "late") refl,
        tt,
        (
          IsUtf8-are_ascii (codes "line") refl,
          omega (arith, is.2),
          (
            IsUtf8-are_ascii (codes "n") refl,
            small,
            (
              IsUtf8-are_ascii (codes "part") refl,
              omega (arith, is.1),
              (
                IsUtf8-are_ascii (codes "seq") refl,
                is.0,
                (
                  IsUtf8-are_ascii (codes "ts") refl,
                  is.3.stamp,
                  (
                    IsUtf8-are_ascii (codes "value") refl,
                    value-whole item.value is.3.value,
                    tt,
                  ),
                ),
              ),
            ),
          ),
        ),
      ),
    ),
  ),
)
entry-writable n (Handle seq row id effects) small is = (
  (refl, (refl, (refl, (refl, (refl, (refl, (refl, (refl, (refl, tt))))))))),
  (
    IsUtf8-are_ascii (codes "do") refl,
    IsUtf8-are_ascii (codes "handle") refl,
    (
      IsUtf8-are_ascii (codes "id") refl,
      id-utf8 id,
      (
        IsUtf8-are_ascii (codes "n") refl,
        small,
        (
          IsUtf8-are_ascii (codes "out") refl,
          productions-writable effects is.3,
          (
            IsUtf8-are_ascii (codes "part") refl,
            omega (arith, is.1.part),
            (
              IsUtf8-are_ascii (codes "row") refl,
              is.1.key.text,
              (
                IsUtf8-are_ascii (codes "seq") refl,
                is.0,
                (
                  IsUtf8-are_ascii (codes "state") refl,
                  state-utf8 effects.state,
                  (
                    IsUtf8-are_ascii (codes "timers") refl,
                    timers-writable effects is.3,
                    tt,
                  ),
                ),
              ),
            ),
          ),
        ),
      ),
    ),
  ),
)
entry-writable n (Fire seq row timer mark effects) small is = (
  (refl, (refl, (refl, (refl, (refl, (refl, (refl, (refl, (refl, (refl, (refl, tt))))))))))),
  (
    IsUtf8-are_ascii (codes "do") refl,
    IsUtf8-are_ascii (codes "fire") refl,
    (
      IsUtf8-are_ascii (codes "late") refl,
      tt,
      (
        IsUtf8-are_ascii (codes "mark") refl,
        is.3,
        (
          IsUtf8-are_ascii (codes "n") refl,
          small,
          (
            IsUtf8-are_ascii (codes "out") refl,
            productions-writable effects is.4,
            (
              IsUtf8-are_ascii (codes "part") refl,
              omega (arith, is.1.part),
              (
                IsUtf8-are_ascii (codes "row") refl,
                is.1.key.text,
                (
                  IsUtf8-are_ascii (codes "seq") refl,
                  is.0,
                  (
                    IsUtf8-are_ascii (codes "state") refl,
                    state-utf8 effects.state,
                    (
                      IsUtf8-are_ascii (codes "tag") refl,
                      is.2.0,
                      (
                        IsUtf8-are_ascii (codes "time") refl,
                        is.2.1,
                        tt,
                      ),
                    ),
                  ),
                ),
              ),
            ),
          ),
        ),
      ),
    ),
  ),
)
entry-writable n (Ack seq row id) small is = (
  (refl, (refl, (refl, (refl, (refl, (refl, tt)))))),
  (
    IsUtf8-are_ascii (codes "do") refl,
    IsUtf8-are_ascii (codes "ack") refl,
    (
      IsUtf8-are_ascii (codes "id") refl,
      id-utf8 id,
      (
        IsUtf8-are_ascii (codes "n") refl,
        small,
        (
          IsUtf8-are_ascii (codes "part") refl,
          omega (arith, is.1.part),
          (
            IsUtf8-are_ascii (codes "row") refl,
            is.1.key.text,
            (
              IsUtf8-are_ascii (codes "seq") refl,
              is.0,
              tt,
            ),
          ),
        ),
      ),
    ),
  ),
)
entry-writable n (Purge seq row floor) small is = (
  (refl, (refl, (refl, (refl, (refl, (refl, tt)))))),
  (
    IsUtf8-are_ascii (codes "do") refl,
    IsUtf8-are_ascii (codes "purge") refl,
    (
      IsUtf8-are_ascii (codes "floor") refl,
      is.2,
      (
        IsUtf8-are_ascii (codes "n") refl,
        small,
        (
          IsUtf8-are_ascii (codes "part") refl,
          omega (arith, is.1.part),
          (
            IsUtf8-are_ascii (codes "row") refl,
            is.1.key.text,
            (
              IsUtf8-are_ascii (codes "seq") refl,
              is.0,
              tt,
            ),
          ),
        ),
      ),
    ),
  ),
)

-- ---- how deep an entry nests

-- items of one depth nest no deeper
items-shallow : {X : Type 0} (shown : X → Data) (n : ℕ) → ((x : X) → depth (shown x) ≤ n) → (xs : List X)
    → items_depth (items_of (map shown xs)) ≤ n
items-shallow shown n each [] = omega arith
items-shallow shown n each (x ∷ xs) = omega (arith, each x, items-shallow shown n each xs)

outcome-shallow : (e : EffectsView) → (items_depth (items_of (map production_data e.productions)) ≤ 1)
    × (items_depth (items_of (map timer_data e.timers)) ≤ 1)
outcome-shallow e = (
  items-shallow production_data 1 (λ p. omega arith) e.productions,
  items-shallow timer_data 1 (λ t. omega arith) e.timers,
)

-- an entry nests thrice at most
pub entry-shallow : (n : ℕ) (e : Entry) → depth (entry_data n e) ≤ max_depth
entry-shallow n (Handle seq row id effects) = omega (arith, (outcome-shallow effects).0, (outcome-shallow effects).1)
entry-shallow n (Fire seq row timer mark effects) = omega (arith, (outcome-shallow effects).0)
entry-shallow n _ = omega arith

-- ---- the text of an entry

-- it is JSON, whose value is the entry's object
pub entry-json : (n : ℕ) (e : Entry) → n < 2 ^ 64 → IsEntry e → json_of (text_of_entry n e) ≡ Some (entry_data n e)
entry-json n e small is =
    let can = entry-writable n e small is in
    ap (λ (b : Bool). cond b (read (text_of_entry n e)) None)
    (is_utf8-from_IsUtf8 (text_of_entry n e) (compact_text-utf8 (entry_data n e) can))
    ∙ read-compact_text (entry_data n e) can (entry-shallow n e)
