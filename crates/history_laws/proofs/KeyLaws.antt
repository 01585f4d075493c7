-- What a legal history makes, and where it goes, has a key of at most 256 bytes of UTF-8.
use Rattle.std.proofs.Common.{◌≡◌, ℕ, ◌+◌, ◌<◌, ◌==◌, Bool, true, false, List, [], ◌∷◌, length, get_or, refl, sym, ◌∙◌, subst, arith, inl, inr}
use Rattle.std.specs.Prelude.{⊤, Option, Some, None, All, IsSome, not, slice_get, unwrap_or}
use Rattle.std.specs.Option.{option_map}
use Rattle.std.specs.List.{AllByRecursion, after_first, before_first, position_or_len}
use Rattle.std.proofs.lemmas.Bool.{cases_lt, eqb-true}
use Rattle.std.proofs.lemmas.List.{drop_all, length-drop, length-take-le, take_all}
use Rattle.std.proofs.lemmas.List.Elements.{All-from_recursion, All-get_or}
use Rattle.std.proofs.lemmas.List.Sums.{prefix_len_stops}
use Rattle.std.proofs.lemmas.Option.{get_or_from_slice_get, slice_get_within}
use Rattle.std.proofs.lemmas.Str.{IsUtf8-nil, IsUtf8-take, IsUtf8-drop, IsCharBoundary-before_ascii, IsCharBoundary-after_ascii}
use Rattle.mw_types.specs.declared.identity.RowName.{RowName}
use Rattle.mw_types.specs.declared.record.Record.{Record}
use Rattle.mw_types.specs.declared.record.Production.{Production}
use Rattle.mw_types.specs.declared.timer.Timer.{Timer}
use Rattle.mw_types.specs.declared.delivery.Delivery.{Delivery}
use Rattle.mw_types.specs.declared.entry.Entry.{Entry}
use Rattle.mw_types.specs.declared.entry.Entry.TheVariants.{Claim, Inject, Handle, Fire, Ack, Purge}
use Rattle.mw_types.specs.Outcomes.{EffectsView}
use Rattle.injector.specs.Sources.{Source, SourceLine, item_at}
use Rattle.topology.specs.declared.subscription.By.{By}
use Rattle.topology.specs.declared.subscription.By.TheVariants.{Key, Head, Tail}
use Rattle.topology.specs.Shapes.{Shape, consumers_of, extracted, or_whole}
use Rattle.computations.specs.Handlers.{Cause}
use Rattle.computations.specs.Leaving.{HasKey}
use Rattle.row_parts.specs.Contents.{Contents, fresh, same_id, found_delivery}
use Rattle.mw_types.specs.Bounds.{IsKey}
use Rattle.run_history.specs.Cases.{CaseShape, fresh_of, record_of, source_of}
use Rattle.run_history.specs.Finished.{handles}
use Rattle.run_history.specs.Legal.{IsLegal, MayFollow}
use Rattle.run_history.specs.Made.{deliveries_made, deliveries_of, late_cause, row_written}
use Rattle.run_history.specs.Runs.{Run, followed, row_in, row_of, run_of, still_unhandled}
use Rattle.list_lemmas.proofs.Lists.{each-all, each-append, each-filter, each-weaker, find-each, none_some, some_same}
use Rattle.history_laws.specs.Keys.{AreKeyed, HasKeys}
use Rattle.history_laws.proofs.Along.{along_history}
use Rattle.history_laws.proofs.IdLaws.{still_unhandled-filter}
use Rattle.history_laws.proofs.Made.{deliveries_made-each}
use Rattle.history_laws.proofs.Caused.{IsCaused, of_standing, caused-handle, caused-fire, caused-sent}
use Rattle.history_laws.proofs.RowSteps.{row_step}
use Rattle.history_laws.proofs.StampLaws.{line_of, line-each}

-- ---- keys that are extracted

-- the empty key, under which an injector's row stands
empty-key : IsKey []
empty-key = record { short = omega arith; text = IsUtf8-nil }

-- the first slash is one
slash-there : (key : List ℕ) → position_or_len (λ b. b == 47) key < length key → get_or key (position_or_len (λ b. b == 47) key) 0 ≡ 47
slash-there key below = eqb-true _ 47 (passes (get_or key (position_or_len (λ b. b == 47) key) 0 == 47)
    (prefix_len_stops (λ b. not (b == 47)) key 0 below))
  where
    passes : (b : Bool) → not b ≡ false → b ≡ true
    passes true e = refl
    passes false e = cc

-- what stands before the first slash is text, and no longer
before-key : (key : List ℕ) → IsKey key → IsKey (before_first (λ b. b == 47) key)
before-key key is = elim (cases_lt (position_or_len (λ b. b == 47) key) (length key)) [
  | inl below ↦
      let at = slash-there key below in
      let long = length-take-le (position_or_len (λ b. b == 47) key) key (omega (arith, below)) in
      let short = is.short in record {
        short = omega (arith, long, short, below);
        text = IsUtf8-take key (position_or_len (λ b. b == 47) key) is.text
            (IsCharBoundary-before_ascii key (position_or_len (λ b. b == 47) key) below (omega (arith, at)));
      }
  | inr past ↦ subst IsKey (sym (take_all (position_or_len (λ b. b == 47) key) key past)) is
]

-- and what stands after it
after-key : (key : List ℕ) → IsKey key → IsKey (after_first (λ b. b == 47) key)
after-key key is = elim (cases_lt (position_or_len (λ b. b == 47) key) (length key)) [
  | inl below ↦
      let at = slash-there key below in
      let long = length-drop (position_or_len (λ b. b == 47) key + 1) key in
      let short = is.short in record {
        short = omega (arith, long, short);
        text = IsUtf8-drop key (position_or_len (λ b. b == 47) key + 1) is.text
            (IsCharBoundary-after_ascii key (position_or_len (λ b. b == 47) key) is.text below (omega (arith, at)));
      }
  | inr past ↦ subst IsKey (sym (drop_all (position_or_len (λ b. b == 47) key + 1) key (omega (arith, past)))) empty-key
]

-- a part of a key, or the whole
whole-key : (part key : List ℕ) → IsKey part → IsKey key → IsKey (or_whole part key)
whole-key [] key of_part of_key = of_key
whole-key (b ∷ bs) key of_part of_key = of_part

-- a key that is extracted from a key is one
pub extracted-key : (by : By) (key : List ℕ) → IsKey key → IsKey (extracted by key)
extracted-key Key key is = is
extracted-key Head key is = whole-key (before_first (λ b. b == 47) key) key (before-key key is) is
extracted-key Tail key is = whole-key (after_first (λ b. b == 47) key) key (after-key key is) is

-- each of these productions has a key
abbrev HaveKeys : List Production → Type 0
HaveKeys = AllByRecursion (λ (p : Production). IsKey p.key)

-- ---- one more entry

-- what was made and what waits has a key and goes to a row under a key, and each row that is there stands under one
pub record AreKeys (run : Run) : Type 0 where
  pub made : AllByRecursion (λ (d : Delivery). IsKey d.item.key × IsKey d.to.key) run.made
  pub waiting : AllByRecursion (λ (d : Delivery). IsKey d.item.key × IsKey d.to.key) run.unhandled
  pub rows : (name : RowName) → IsSome (row_in run name) → IsKey name.key

-- a row in which something stands at a place is there
row-there : {X : Type 0} (shape : Shape) (run : Run) (name : RowName) (of_row : Contents → Option X) → of_row (fresh (fresh_of shape name.part)) ≡ None
    → IsSome (of_row (row_of shape run name)) → IsSome (row_in run name)
row-there shape run name of_row none some = by_row (row_in run name) some
  where
    by_row : (o : Option Contents) → IsSome (of_row (unwrap_or o (fresh (fresh_of shape name.part)))) → IsSome o
    by_row None is = absurd (let some = subst IsSome none is in cc)
    by_row (Some row) is = refl

-- a timer that fires is set in a row that is there
fire-there : (case : CaseShape) (run : Run) (seq : ℕ) (row : RowName) (timer : Timer) (mark : ℕ) (effects : EffectsView)
    → MayFollow case run (Fire seq row timer mark effects) → IsSome (row_in run row)
fire-there case run seq row timer mark effects may =
    row-there case.topology run row (λ (c : Contents). slice_get c.timers 0) refl (subst IsSome (sym may.least_timer) refl)

-- the row that an entry is on stands under a key
written-key : (case : CaseShape) (run : Run) (entry : Entry) (name : RowName) → AreKeys run → MayFollow case run entry
    → row_written entry ≡ Some name → IsKey name.key
written-key case run (Claim worker interval) name keys may written = absurd (none_some name written)
written-key case run (Inject seq part line item) name keys may written =
    subst (λ (n : RowName). IsKey n.key) (some_same (record { part = part; key = [] }) name written) empty-key
written-key case run (Handle seq row id effects) name keys may written =
    subst (λ (n : RowName). IsKey n.key) (may.to_row ∙ some_same row name written)
    (find-each (λ (d : Delivery). IsKey d.item.key × IsKey d.to.key) (λ (d : Delivery). same_id d.id id) run.unhandled may.delivery
    keys.waiting may.waits).1
written-key case run (Fire seq row timer mark effects) name keys may written =
    subst (λ (n : RowName). IsKey n.key) (some_same row name written)
    (keys.rows row (fire-there case run seq row timer mark effects may))
written-key case run (Ack seq row id) name keys may written =
    subst (λ (n : RowName). IsKey n.key) (some_same row name written)
    (keys.rows row (row-there case.topology run row (λ (c : Contents). found_delivery id c.pending) refl may.pending))
written-key case run (Purge seq row floor) name keys may written =
    subst (λ (n : RowName). IsKey n.key) (some_same row name written) (keys.rows row may.there)

-- the deliveries of productions that have keys
made-keys : (shape : Shape) (part : ℕ) (productions : List Production) (late : Bool) (commit : ℕ) → HaveKeys productions
    → AllByRecursion (λ (d : Delivery). IsKey d.item.key × IsKey d.to.key) (deliveries_made shape part productions late commit)
made-keys shape part productions late commit keys =
    deliveries_made-each shape part productions late commit (λ s. ⊤) (λ (p : Production). IsKey p.key)
    (λ to item. IsKey item.key × IsKey to.key) (λ s p _ is. (is, extracted-key s.by p.key is))
    (each-all (λ s. ⊤) (λ s. tt) (consumers_of shape part)) keys

-- the source of each part has keys
keyed-source : (case : CaseShape) (part : ℕ) → AreKeyed case → All (λ (l : SourceLine). IsKey l.item.record_key) (source_of case part)
keyed-source case part keyed = by_source (slice_get case.sources part) refl
  where
    by_source : (o : Option Source) → slice_get case.sources part ≡ o → All (λ (l : SourceLine). IsKey l.item.record_key) (unwrap_or o [])
    by_source None at = λ k d less. absurd (omega (arith, less))
    by_source (Some source) at = subst (All (λ (l : SourceLine). IsKey l.item.record_key))
        (get_or_from_slice_get case.sources part source source at)
        (All-get_or (All (λ (l : SourceLine). IsKey l.item.record_key)) case.sources part source
        (slice_get_within case.sources part source at) keyed)

-- an injected record has a key
injected-key : (case : CaseShape) (part line : ℕ) (item : Record) → AreKeyed case
    → option_map record_of (item_at (source_of case part) line) ≡ Some item → IsKey item.key
injected-key case part line item keyed of =
    let l = line_of (source_of case part) line item of in
    subst (λ (r : Record). IsKey r.key) l.2
    (line-each (λ (l : SourceLine). IsKey l.item.record_key) (source_of case part) line l.0 (keyed-source case part keyed) l.1)

-- what a cause makes in a row under a key has keys
caused-keys : (case : CaseShape) (run : Run) (entry : Entry) (name : RowName) (cause : Cause) (effects : EffectsView) → AreKeys run
    → IsKey name.key → IsCaused case run entry name cause effects
    → AllByRecursion (λ (d : Delivery). IsKey d.item.key × IsKey d.to.key) (deliveries_of case.topology run.made run.next entry)
caused-keys case run entry name cause effects keys of_row caused =
    caused-sent case run entry name cause effects caused (λ (d : Delivery). IsKey d.item.key × IsKey d.to.key)
    (made-keys case.topology name.part effects.productions (late_cause run.made entry) run.next
    (caused.outcome.leaves.productions.keys of_row
    (of_standing case run name cause (λ (d : Delivery). IsKey d.item.key × IsKey d.to.key) (λ (t : Timer). ⊤) HasKey keys.waiting
    (each-all (λ (t : Timer). ⊤) (λ t. tt) (row_of case.topology run name).timers)
    (λ d to (both : IsKey d.item.key × IsKey d.to.key). both.0) (λ t u. tt) caused.stands)))

-- what an entry makes has keys
sent-keys : (case : CaseShape) (run : Run) (entry : Entry) → AreKeyed case → AreKeys run → MayFollow case run entry
    → AllByRecursion (λ (d : Delivery). IsKey d.item.key × IsKey d.to.key) (deliveries_of case.topology run.made run.next entry)
sent-keys case run (Inject seq part line item) keyed keys may =
    made-keys case.topology part (record { key = item.key; stamp = item.stamp; value = item.value } ∷ []) item.late run.next
    (injected-key case part line item keyed may.of_line, tt)
sent-keys case run (Handle seq row id effects) keyed keys may =
    caused-keys case run _ row _ effects keys (written-key case run (Handle seq row id effects) row keys may refl)
    (caused-handle case run seq row id effects row may refl)
sent-keys case run (Fire seq row timer mark effects) keyed keys may =
    caused-keys case run _ row _ effects keys (written-key case run (Fire seq row timer mark effects) row keys may refl)
    (caused-fire case run seq row timer mark effects row may refl)
sent-keys case run _ keyed keys may = tt

-- one more entry keeps keys keys
AreKeys-followed : (case : CaseShape) (run : Run) (entry : Entry) → AreKeyed case → AreKeys run → MayFollow case run entry
    → AreKeys (followed case.topology run entry)
AreKeys-followed case run entry keyed keys may =
    let sent = sent-keys case run entry keyed keys may in record {
      made = each-append (λ (d : Delivery). IsKey d.item.key × IsKey d.to.key) run.made _ keys.made sent;
      waiting = each-append (λ (d : Delivery). IsKey d.item.key × IsKey d.to.key) (still_unhandled entry run.unhandled) _
          (subst (AllByRecursion (λ (d : Delivery). IsKey d.item.key × IsKey d.to.key)) (sym (still_unhandled-filter entry run.unhandled))
          (each-filter (λ (d : Delivery). IsKey d.item.key × IsKey d.to.key)
          (λ (d : Delivery). not (handles d.id entry)) run.unhandled keys.waiting)) sent;
      rows = λ name there. elim (row_step case.topology run entry name) [
        | inl here ↦ written-key case run entry name keys may here.0
        | inr same ↦ keys.rows name (subst IsSome same there)
      ];
    }

-- after each legal history keys are keys
pub legal-keys : (case : CaseShape) (history : List Entry) → AreKeyed case → IsLegal case history → HasKeys (run_of case.topology history)
legal-keys case history keyed legal =
    let keys : AreKeys (run_of case.topology history) =
    along_history case (λ done run. AreKeys run) (λ done run entry keys may. AreKeys-followed case run entry keyed keys may)
    (record { made = tt; waiting = tt; rows = λ name there. absurd (cc) }) history legal in record {
      records = All-from_recursion (λ (d : Delivery). IsKey d.item.key) _
          (each-weaker (λ (d : Delivery). IsKey d.item.key × IsKey d.to.key) (λ (d : Delivery). IsKey d.item.key)
          (λ d (both : IsKey d.item.key × IsKey d.to.key). both.0) _ keys.made);
      readers = All-from_recursion (λ (d : Delivery). IsKey d.to.key) _
          (each-weaker (λ (d : Delivery). IsKey d.item.key × IsKey d.to.key) (λ (d : Delivery). IsKey d.to.key)
          (λ d (both : IsKey d.item.key × IsKey d.to.key). both.1) _ keys.made);
      rows = keys.rows;
    }
