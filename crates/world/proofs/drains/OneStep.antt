-- Two entries that come next in a drain after one history are the same, where both may follow it and are fenced.
use Rattle.std.proofs.Common.{◌≡◌, ℕ, false, List, [], ◌∷◌, ◌++◌, ◌⊎◌, refl, sym, ◌∙◌, ap, subst, arith, inl, inr}
use Rattle.std.specs.Prelude.{Some, None, IsSome, Contains, slice_get}
use Rattle.std.specs.Option.{option_map}
use Rattle.std.proofs.lemmas.Bool.{both_ways}
use Rattle.mw_types.specs.declared.identity.RecordId.{RecordId}
use Rattle.mw_types.specs.declared.identity.RowName.{RowName}
use Rattle.mw_types.specs.declared.record.Record.{Record}
use Rattle.mw_types.specs.declared.delivery.Delivery.{Delivery}
use Rattle.mw_types.specs.declared.timer.Timer.{Timer}
use Rattle.mw_types.specs.declared.entry.Entry.{Entry}
use Rattle.mw_types.specs.declared.entry.Entry.TheVariants.{Claim, Inject, Handle, Fire, Ack, Purge}
use Rattle.mw_types.specs.Outcomes.{EffectsView}
use Rattle.injector.specs.Sources.{item_at}
use Rattle.row_parts.specs.Contents.{found_delivery}
use Rattle.run_history.specs.Cases.{CaseShape, source_of, record_of}
use Rattle.run_history.specs.Made.{row_written}
use Rattle.run_history.specs.Runs.{Run, run_of, row_of, empty_run}
use Rattle.run_history.specs.Watermarks.{cursor_of, low_watermark}
use Rattle.computations.specs.Handlers.{OfRecord, OfTimer}
use Rattle.run_history.specs.Legal.{MayFollow, MayInject, MayHandle, MayFire, IsLegal, outcome_of}
use Rattle.run_history.specs.Fences.{IsFenced, IsUnderLastClaim, sequencer_of}
use Rattle.run_history.specs.Finished.{is_handled}
use Rattle.list_lemmas.proofs.Lists.{some_same}
use Rattle.run_history.proofs.Beginnings.{Begins-itself}
use Rattle.history_laws.proofs.Along.{AreLegal-apart}
use Rattle.history_laws.proofs.SenderLaws.{one_sender}
use Rattle.book.specs.Senders.{IsLeastSent}
use Rattle.world.specs.drains.Drains.{is_full, HasClaimedAll, HasAcknowledged, HasFired, HasInjected, HasEnded, IsNextClaim, IsNextAck, IsToHandle, IsPurgeBefore, IsNextHandle, IsNextFire, IsNextInject, IsLastPurge, IsNextEntry}
use Rattle.world.proofs.Firsts.{one_id, one_row, one_key, one_part, none-row_of}

-- ---- the sequencer and the effects of an entry that may follow a history

-- an entry may follow a history, under the last claim of its row's interval
pub record Follows (case : CaseShape) (history : List Entry) (entry : Entry) : Type 0 where
  pub may : MayFollow case (run_of case.topology history) entry
  pub under : IsUnderLastClaim case.topology history entry

-- the last entry of a legal and fenced history follows those before it
pub last-follows : (case : CaseShape) (history : List Entry) (entry : Entry) → IsLegal case (history ++ entry ∷ [])
    → IsFenced case.topology (history ++ entry ∷ []) → Follows case history entry
last-follows case history entry legal fenced = record {
  may = (AreLegal-apart case history (entry ∷ []) empty_run legal).1.0;
  under = fenced history entry (Begins-itself (history ++ entry ∷ []));
}

-- two entries on one row that follow one history carry the same sequencer
one_sequencer : (case : CaseShape) (history : List Entry) (a b : Entry) (row other : RowName) (s t : ℕ) → row ≡ other
    → row_written a ≡ Some row → row_written b ≡ Some other → sequencer_of a ≡ Some s → sequencer_of b ≡ Some t
    → Follows case history a → Follows case history b → s ≡ t
one_sequencer case history a b row other s t same on also carries bears f g =
    some_same s t (sym carries ∙ sym (f.under row on) ∙ g.under row (also ∙ ap Some (sym same)) ∙ bears)

-- two handlings of one id in one row leave the same
one_handled : (case : CaseShape) (run : Run) (row other : RowName) (id also : RecordId) (one two : EffectsView) → row ≡ other → id ≡ also
    → MayHandle case run row id one → MayHandle case run other also two → one ≡ two
one_handled case run row other id also one two r n may can =
    let d : may.delivery ≡ can.delivery = some_same may.delivery can.delivery
    (sym may.waits ∙ ap (λ i. found_delivery i run.unhandled) n ∙ can.waits) in
    some_same one two (sym may.does
    ∙ (λ i. outcome_of case (r i) (row_of case.topology run (r i)) (OfRecord (d i).item)) ∙ can.does)

-- two firings in one row are of one timer, and leave the same
one_fired : (case : CaseShape) (run : Run) (row other : RowName) (t u : Timer) (m n : ℕ) (one two : EffectsView) → row ≡ other
    → MayFire case run row t m one → MayFire case run other u n two → (t ≡ u) × (one ≡ two)
one_fired case run row other t u m n one two r may can =
    let same : t ≡ u = some_same t u (sym may.least_timer
    ∙ ap (λ name. slice_get (row_of case.topology run name).timers 0) r ∙ can.least_timer) in (
      same,
      some_same one two (sym may.does ∙ (λ i. outcome_of case (r i) (row_of case.topology run (r i)) (OfTimer (same i))) ∙ can.does),
    )

-- two injections of one injector are of one line
one_injected : (case : CaseShape) (run : Run) (part other line next : ℕ) (one two : Record) → part ≡ other
    → MayInject case run part line one → MayInject case run other next two → (line ≡ next) × (one ≡ two)
one_injected case run part other line next one two p may can =
    let same : line ≡ next = may.next_line ∙ ap (cursor_of case run) p ∙ sym can.next_line in (
      same,
      some_same one two (sym may.of_line ∙ (λ i. option_map record_of (item_at (source_of case (p i)) (same i))) ∙ can.of_line),
    )

-- ---- the rules, one after another

-- two entries are the same where each is by a rule, or by what comes after it once the rule has nothing to do
chained : (a b : Entry) (Rule Rest : Entry → Type 0) (Done : Type 0) → ((e : Entry) → Rule e → Done → ⊥) → (Rule a → Rule b → a ≡ b)
    → (Rest a → Rest b → a ≡ b) → Rule a ⊎ (Done × Rest a) → Rule b ⊎ (Done × Rest b) → a ≡ b
chained a b Rule Rest Done never rule rest (inl x) (inl y) = rule x y
chained a b Rule Rest Done never rule rest (inl x) (inr later) = absurd (never a x later.0)
chained a b Rule Rest Done never rule rest (inr later) (inl y) = absurd (never b y later.0)
chained a b Rule Rest Done never rule rest (inr x) (inr y) = rest x.1 y.1

module _ (case : CaseShape) (from : ℕ) (history : List Entry) where
  -- what stands after the history
  abbrev run : Run
  run = run_of case.topology history

  -- an entry is by the rule of claims
  abbrev ByClaim : Entry → Type 0
  ByClaim e = (worker : ℕ) × (interval : ℕ) × (e ≡ Claim worker interval) × IsNextClaim case from history worker interval

  -- an entry is by the rule of acknowledgements, and may follow
  abbrev ByAck : Entry → Type 0
  ByAck e = (seq : ℕ) × (row : RowName) × (id : RecordId) × (e ≡ Ack seq row id) × IsNextAck case from history row id
      × Follows case history (Ack seq row id)

  -- an entry is by the rule of purges before a record is handled, and may follow
  abbrev ByPurge : Entry → Type 0
  ByPurge e = (seq : ℕ) × (row : RowName) × (floor : ℕ) × (e ≡ Purge seq row floor) × IsPurgeBefore case from history row floor
      × Follows case history (Purge seq row floor)

  -- an entry is by the rule of records, and may follow
  abbrev ByHandle : Entry → Type 0
  ByHandle e = (seq : ℕ) × (row : RowName) × (id : RecordId) × (effects : EffectsView) × (e ≡ Handle seq row id effects)
      × IsNextHandle case from history row id × Follows case history (Handle seq row id effects)

  -- an entry is by the rule of timers, and may follow
  abbrev ByFire : Entry → Type 0
  ByFire e = (seq : ℕ) × (row : RowName) × (timer : Timer) × (mark : ℕ) × (effects : EffectsView) × (e ≡ Fire seq row timer mark effects)
      × IsNextFire case from history row timer mark × Follows case history (Fire seq row timer mark effects)

  -- an entry is by the rule of lines, and may follow
  abbrev ByInject : Entry → Type 0
  ByInject e = (seq : ℕ) × (part : ℕ) × (line : ℕ) × (item : Record) × (e ≡ Inject seq part line item)
      × IsNextInject case from history part × Follows case history (Inject seq part line item)

  -- an entry is by the rule of the last purges, and may follow
  abbrev ByLast : Entry → Type 0
  ByLast e = (seq : ℕ) × (row : RowName) × (floor : ℕ) × (e ≡ Purge seq row floor) × IsLastPurge case from history row floor
      × Follows case history (Purge seq row floor)

  -- nothing that is unacknowledged and least is handled
  abbrev NoneHandled : Type 0
  NoneHandled = (id : RecordId) (sender : RowName) → IsLeastSent case.topology run id sender → is_handled id history ≡ false

  -- no row that is to handle a record is full
  abbrev NoneFull : Type 0
  NoneFull = (id : RecordId) (row : RowName) → IsToHandle case from history row id → is_full run (row_of case.topology run row) ≡ false

  -- the rules from one on, in their order
  abbrev AfterInject : Entry → Type 0
  AfterInject e = ByInject e ⊎ (HasInjected case from history × ByLast e)

  abbrev AfterFire : Entry → Type 0
  AfterFire e = ByFire e ⊎ (HasFired case from history × AfterInject e)

  abbrev AfterHandle : Entry → Type 0
  AfterHandle e = ByHandle e ⊎ (HasAcknowledged case from history × AfterFire e)

  abbrev AfterPurge : Entry → Type 0
  AfterPurge e = ByPurge e ⊎ (NoneFull × AfterHandle e)

  abbrev AfterAck : Entry → Type 0
  AfterAck e = ByAck e ⊎ (NoneHandled × AfterPurge e)

  abbrev ByRule : Entry → Type 0
  ByRule e = ByClaim e ⊎ (HasClaimedAll case from history × AfterAck e)

  -- ---- what is least is one

  -- the least id is one, and so is its sender
  one_least : (id also : RecordId) (row other : RowName) → IsLeastSent case.topology run id row → IsLeastSent case.topology run also other
      → (id ≡ also) × (row ≡ other)
  one_least id also row other x y =
      let same = one_id id also (x.least also other y.pending) (y.least id row x.pending) in
      let sent = subst (λ i. IsSome (found_delivery i (row_of case.topology run row).pending)) same x.pending in
      (same, by_found _ _ refl refl sent y.pending)
    where
      by_found : (p q : Rattle.std.specs.Prelude.Option Delivery) → found_delivery also (row_of case.topology run row).pending ≡ p
          → found_delivery also (row_of case.topology run other).pending ≡ q → IsSome p → IsSome q → row ≡ other
      by_found (Some d) (Some e) here there _ _ = one_sender case.topology history row other also d e here there
      by_found None q here there is _ = absurd (cc)
      by_found (Some d) None here there _ is = absurd (cc)

  -- the record that is to be handled is one, and so is its row
  one_waits : (id also : RecordId) (row other : RowName) → IsToHandle case from history row id → IsToHandle case from history other also
      → (id ≡ also) × (row ≡ other)
  one_waits id also row other x y =
      let same = one_least id also x.sender y.sender x.least y.least in
      let one : x.delivery ≡ y.delivery = some_same x.delivery y.delivery (sym x.sent
      ∙ (λ i. found_delivery (same.0 i) (row_of case.topology run (same.1 i)).pending) ∙ y.sent) in
      (same.0, sym x.to_row ∙ ap (λ (d : Delivery). d.to) one ∙ y.to_row)

  -- nothing is least where nothing is unacknowledged
  pub none_least : (id : RecordId) (sender : RowName) → IsLeastSent case.topology run id sender → HasAcknowledged case from history → ⊥
  none_least id sender least done = none (subst (λ l. IsSome (found_delivery id l)) (none-row_of case.topology run sender done.none_pending)
      least.pending)
    where
      none : IsSome (found_delivery id []) → ⊥
      none is = cc

  -- ---- each rule leaves one entry

  -- one claim
  claims : (a b : Entry) → ByClaim a → ByClaim b → a ≡ b
  claims a b (w, i, is, x) (v, j, also, y) =
      let worker : w ≡ v = x.first_worker ∙ sym y.first_worker in
      let next = x.next in let more = y.next in
      let interval : i ≡ j = omega (arith, next, more) in
      is ∙ (λ k. Claim (worker k) (interval k)) ∙ sym also

  -- one acknowledgement
  acks : (a b : Entry) → ByAck a → ByAck b → a ≡ b
  acks a b (s, row, id, is, x, f) (t, other, one, also, y, g) =
      let same = one_least id one row other x.least y.least in
      let seq = one_sequencer case history _ _ row other s t same.1 refl refl refl refl f g in
      is ∙ (λ i. Ack (seq i) (same.1 i) (same.0 i)) ∙ sym also

  -- one purge before a record
  purges : (a b : Entry) → ByPurge a → ByPurge b → a ≡ b
  purges a b (s, row, floor, is, x, f) (t, other, one, also, y, g) =
      let same = one_waits x.id y.id row other x.waits y.waits in
      let seq = one_sequencer case history _ _ row other s t same.1 refl refl refl refl f g in
      let to = x.to_floor ∙ sym y.to_floor in
      is ∙ (λ i. Purge (seq i) (same.1 i) (to i)) ∙ sym also

  -- one record
  handles : (a b : Entry) → ByHandle a → ByHandle b → a ≡ b
  handles a b (s, row, id, effects, is, x, f) (t, other, one, made, also, y, g) =
      let same = one_waits id one row other x.waits y.waits in
      let seq = one_sequencer case history _ _ row other s t same.1 refl refl refl refl f g in
      let leaves = one_handled case run row other id one effects made same.1 same.0 f.may g.may in
      is ∙ (λ i. Handle (seq i) (same.1 i) (same.0 i) (leaves i)) ∙ sym also

  -- one timer
  fires : (a b : Entry) → ByFire a → ByFire b → a ≡ b
  fires a b (s, row, timer, mark, effects, is, x, f) (t, other, another, under, made, also, y, g) =
      let one = x.first other another y.due in
      let two = y.first row timer x.due in
      let part : row.part ≡ other.part = omega (arith, one, two) in
      let key = one_key timer another row.key other.key (x.least other another y.due (sym part)) (y.least row timer x.due part) in
      let same : row ≡ other = λ i. record { part = part i; key = key i } in
      let seq = one_sequencer case history _ _ row other s t same refl refl refl refl f g in
      let fired = one_fired case run row other timer another mark under effects made same f.may g.may in
      let low = x.exact ∙ ap (low_watermark case run) part ∙ sym y.exact in
      is ∙ (λ i. Fire (seq i) (same i) (fired.0 i) (low i) (fired.1 i)) ∙ sym also

  -- one line
  injects : (a b : Entry) → ByInject a → ByInject b → a ≡ b
  injects a b (s, part, line, item, is, x, f) (t, other, next, other_item, also, y, g) =
      let same = one_part (cursor_of case run) part other (x.least other y.left) (y.least part x.left) in
      let seq = one_sequencer case history _ _ _ _ s t (λ i. record { part = same i; key = [] }) refl refl refl refl f g in
      let of = one_injected case run part other line next item other_item same f.may g.may in
      is ∙ (λ i. Inject (seq i) (same i) (of.0 i) (of.1 i)) ∙ sym also

  -- one last purge
  lasts : (a b : Entry) → ByLast a → ByLast b → a ≡ b
  lasts a b (s, row, floor, is, x, f) (t, other, one, also, y, g) =
      let same = one_row row other (x.least other y.has) (y.least row x.has) in
      let seq = one_sequencer case history _ _ row other s t same refl refl refl refl f g in
      let to = x.to_floor ∙ sym y.to_floor in
      is ∙ (λ i. Purge (seq i) (same i) (to i)) ∙ sym also

  -- ---- a rule that applies has something to do

  -- so it does not apply once it has not: claims
  claim-over : (e : Entry) → ByClaim e → HasClaimedAll case from history → ⊥
  claim-over e (w, i, is, x) done = let there = x.there in let next = x.next in omega (arith, there, next, done)

  -- acknowledgements
  ack-over : (e : Entry) → ByAck e → NoneHandled → ⊥
  ack-over e (s, row, id, is, x, f) none = both_ways (is_handled id history) (none id row x.least) x.handled

  -- purges before a record
  purge-over : (e : Entry) → ByPurge e → NoneFull → ⊥
  purge-over e (s, row, floor, is, x, f) none =
      both_ways (is_full run (row_of case.topology run row)) (none x.id row x.waits) x.full

  -- records
  handle-over : (e : Entry) → ByHandle e → HasAcknowledged case from history → ⊥
  handle-over e (s, row, id, effects, is, x, f) done = none_least id x.waits.sender x.waits.least done

  -- timers
  fire-over : (e : Entry) → ByFire e → HasFired case from history → ⊥
  fire-over e (s, row, timer, mark, effects, is, x, f) done = done.none_due row timer x.due

  -- lines
  inject-over : (e : Entry) → ByInject e → HasInjected case from history → ⊥
  inject-over e (s, part, line, item, is, x, f) done =
      let has = subst (λ l. Contains l part) done.none_left x.left in let within = has.1 in omega (arith, within)

  -- ---- each step is by one of the rules

  -- where a record is to be handled, no least id is handled
  waits-unhandled : (id : RecordId) (row : RowName) → IsToHandle case from history row id → NoneHandled
  waits-unhandled id row x also sender least =
      ap (λ i. is_handled i history) (one_least also id sender x.sender least x.least).0 ∙ x.unhandled

  -- and where its row is not full, no row that is to handle a record is
  waits-room : (id : RecordId) (row : RowName) → IsNextHandle case from history row id → NoneFull
  waits-room id row x also other y =
      ap (λ r. is_full run (row_of case.topology run r)) (one_waits also id other row y x.waits).1 ∙ x.room

  -- no least id is handled where nothing is unacknowledged
  none_handled : HasAcknowledged case from history → NoneHandled
  none_handled done id sender least = absurd (none_least id sender least done)

  -- nor is any row full that has a record to handle
  none_full : HasAcknowledged case from history → NoneFull
  none_full done id row x = absurd (none_least id x.sender x.least done)

  -- a step that comes once nothing is unacknowledged
  after : (e : Entry) → HasAcknowledged case from history → AfterFire e → ByRule e
  after e done rest = inr (done.claimed, inr (none_handled done, inr (none_full done, inr (done, rest))))

  -- each step is by a rule
  by_rule : (e : Entry) → IsNextEntry case from history e → Follows case history e → ByRule e
  by_rule (Claim worker interval) x f = inl (worker, interval, refl, x)
  by_rule (Ack seq row id) x f = inr (x.earlier, inl (seq, row, id, refl, x, f))
  by_rule (Purge seq row floor) (inl x) f =
      inr (x.waits.earlier, inr (waits-unhandled x.id row x.waits, inl (seq, row, floor, refl, x, f)))
  by_rule (Handle seq row id effects) x f = inr (
    x.waits.earlier,
    inr (
      waits-unhandled id row x.waits,
      inr (waits-room id row x, inl (seq, row, id, effects, refl, x, f)),
    ),
  )
  by_rule (Fire seq row timer mark effects) x f =
      after (Fire seq row timer mark effects) x.earlier (inl (seq, row, timer, mark, effects, refl, x, f))
  by_rule (Inject seq part line item) x f =
      after (Inject seq part line item) x.earlier.earlier (inr (x.earlier, inl (seq, part, line, item, refl, x, f)))
  by_rule (Purge seq row floor) (inr x) f =
      after (Purge seq row floor) x.earlier.earlier.earlier (inr (x.earlier.earlier, inr (x.earlier, (seq, row, floor, refl, x, f))))

  -- two entries that follow the history by rules are the same
  one_rule : (a b : Entry) → ByRule a → ByRule b → a ≡ b
  one_rule a b =
      chained a b ByClaim AfterAck (HasClaimedAll case from history) claim-over (claims a b)
      (chained a b ByAck AfterPurge NoneHandled ack-over (acks a b)
      (chained a b ByPurge AfterHandle NoneFull purge-over (purges a b)
      (chained a b ByHandle AfterFire (HasAcknowledged case from history) handle-over (handles a b)
      (chained a b ByFire AfterInject (HasFired case from history) fire-over (fires a b)
      (chained a b ByInject ByLast (HasInjected case from history) inject-over (injects a b) (lasts a b))))))

  -- two entries that come next in a drain after the history, and may follow it under the last claims, are the same
  pub one_step : (a b : Entry) → IsNextEntry case from history a → IsNextEntry case from history b → Follows case history a
      → Follows case history b → a ≡ b
  one_step a b x y f g = one_rule a b (by_rule a x f) (by_rule b y g)

  -- nothing comes next once the drain has ended
  pub ended-none : (e : Entry) → HasEnded case from history → IsNextEntry case from history e → ⊥
  ended-none (Claim worker interval) done x = claim-over _ (worker, interval, refl, x) done.earlier.earlier.earlier.claimed
  ended-none (Ack seq row id) done x = none_least id row x.least done.earlier.earlier.earlier
  ended-none (Purge seq row floor) done (inl x) = none_least x.id x.waits.sender x.waits.least done.earlier.earlier.earlier
  ended-none (Purge seq row floor) done (inr x) = x.has (done.none_seen row)
  ended-none (Handle seq row id effects) done x = none_least id x.waits.sender x.waits.least done.earlier.earlier.earlier
  ended-none (Fire seq row timer mark effects) done x = done.earlier.earlier.none_due row timer x.due
  ended-none (Inject seq part line item) done x =
      let has = subst (λ l. Contains l part) done.earlier.none_left x.left in let within = has.1 in omega (arith, within)
