-- At the end the stream of a spike has what the part gives plainly of all that it read, and it fired once a place.
use Rattle.std.proofs.Common.{◌≡◌, ℕ, ◌+◌, ◌==◌, ◌&&◌, ◌||◌, not, Bool, true, false, cond, List, [], ◌∷◌, ◌++◌, length, map, filter, ℤ, refl, sym, ◌∙◌, ap, arith, length-append}
use Rattle.std.specs.Prelude.{nat_eq, nat_le, pos, int_lt, ◌*ℤ◌, Some}
use Rattle.std.specs.Cmp.Lexicographic.{pointwise}
use Rattle.std.specs.List.{AllByRecursion, flat_map, list_any}
use Rattle.std.proofs.lemmas.List.{append-nil, length-map}
use Rattle.std.proofs.lemmas.List.Concat.{length-flat_map}
use Rattle.mw_types.specs.declared.identity.RowName.{RowName}
use Rattle.mw_types.specs.declared.record.Record.{Record}
use Rattle.mw_types.specs.declared.kind.Kind.TheVariants as kinds
use Rattle.mw_types.specs.declared.state.HeldTotal.{HeldTotal}
use Rattle.mw_types.specs.declared.delivery.Delivery.{Delivery}
use Rattle.mw_types.specs.declared.entry.Entry.{Entry}
use Rattle.mw_types.specs.declared.entry.Entry.TheVariants.{Claim, Inject, Handle, Fire, Ack, Purge}
use Rattle.topology.specs.Shapes.{Shape, kind_of}
use Rattle.row_parts.specs.Contents.{Contents}
use Rattle.run_history.specs.Cases.{CaseShape}
use Rattle.run_history.specs.Inputs.{IsRunnable}
use Rattle.run_history.specs.Runs.{run_of}
use Rattle.run_history.specs.Legal.{IsLegal, IsDone}
use Rattle.history_laws.proofs.RowSteps.{row_of-each}
use Rattle.list_lemmas.proofs.Lists.{each-append, each-map, each-all}
use Rattle.list_lemmas.proofs.Filters.{by_keys, filter-flat_map, flat_map-filter}
use Rattle.list_lemmas.proofs.Totals.{total, when, total-map, total-filter, total-same, total-sum_by, total-length, HaveSameTotals, totals-permuted}
use Rattle.plain_answer.specs.Plain.{Keyed, row_members, row_keys, places_in, sum_of_last, spike_at, spikes_in, plain_of, fires_of}
use Rattle.plain_answer.specs.Places.{place_of}
use Rattle.plain_answer.specs.Stories.{done_of, out_of, fires_on, fired_keys_by, fired_keys}
use Rattle.plain_answer.proofs.Closing.{same-key, key-itself}
use Rattle.plain_answer.proofs.Greatest.{places-fold}
use Rattle.plain_answer.proofs.Members.{out_at}
use Rattle.plain_answer.proofs.Once.{filter-once}
use Rattle.plain_answer.proofs.Orders.{places-same}
use Rattle.plain_answer.proofs.Places.{held_place, held_timer}
use Rattle.plain_answer.proofs.Results.{AreSpikesPlain}
use Rattle.plain_answer.proofs.SpikeSteps.{is_mine, pair_of, pairs_of}
use Rattle.plain_answer.proofs.Spiking.{legal-spiked}
use Rattle.plain_answer.proofs.Taking.{member_read, reads_done, reads_done-total, is_at-both}

-- ---- lists row by row

-- the keys of the members in time
abbrev keys_of : List Keyed → List (List ℕ)
keys_of ms = map (λ (m : Keyed). m.0) (filter (λ (m : Keyed). not m.1.late) ms)

-- a key that no member in time has has no member
no-members : (key : List ℕ) (ms : List Keyed) → list_any (pointwise nat_eq key) (keys_of ms) ≡ false → row_members key ms ≡ []
no-members key [] none = refl
no-members key (m ∷ ms) none =
    elim m.1.late as
    (λ b. list_any (pointwise nat_eq key) (map (λ (m : Keyed). m.0)
    (cond (not b) (m ∷ filter (λ (m : Keyed). not m.1.late) ms) (filter (λ (m : Keyed). not m.1.late) ms))) ≡ false
    → map (λ (m : Keyed). m.1) (cond (pointwise nat_eq key m.0 && not b)
    (m ∷ filter (λ (m : Keyed). pointwise nat_eq key m.0 && not m.1.late) ms)
    (filter (λ (m : Keyed). pointwise nat_eq key m.0 && not m.1.late) ms)) ≡ []) [
      | true ↦ λ n. elim (pointwise nat_eq key m.0) as
          (λ c. map (λ (m : Keyed). m.1) (cond (c && false) (m ∷ filter (λ (m : Keyed). pointwise nat_eq key m.0 && not m.1.late) ms)
          (filter (λ (m : Keyed). pointwise nat_eq key m.0 && not m.1.late) ms)) ≡ []) [
            | true ↦ no-members key ms n
            | false ↦ no-members key ms n
          ]
      | false ↦ λ n. elim (pointwise nat_eq key m.0) as
          (λ c. (c || list_any (pointwise nat_eq key) (keys_of ms)) ≡ false
          → map (λ (m : Keyed). m.1) (cond (c && true) (m ∷ filter (λ (m : Keyed). pointwise nat_eq key m.0 && not m.1.late) ms)
          (filter (λ (m : Keyed). pointwise nat_eq key m.0 && not m.1.late) ms)) ≡ []) [
            | true ↦ λ k. absurd cc
            | false ↦ λ k. no-members key ms k
          ] n
    ] none

module _ {Y : Type 0} (of : Y → List ℕ) where
  -- what stands under its own key is left
  own-kept : (key : List ℕ) (ys : List Y) → AllByRecursion (λ y. of y ≡ key) ys → filter (λ y. pointwise nat_eq key (of y)) ys ≡ ys
  own-kept key [] each = refl
  own-kept key (y ∷ ys) each =
      ap (λ b. cond b (y ∷ filter (λ y. pointwise nat_eq key (of y)) ys) (filter (λ y. pointwise nat_eq key (of y)) ys))
      (ap (pointwise nat_eq key) each.0 ∙ key-itself key)
      ∙ ap (λ l. y ∷ l) (own-kept key ys each.1)

  -- and what stands under another is not
  other-left : (key other : List ℕ) (ys : List Y) → pointwise nat_eq key other ≡ false → AllByRecursion (λ y. of y ≡ other) ys
      → filter (λ y. pointwise nat_eq key (of y)) ys ≡ []
  other-left key other [] apart each = refl
  other-left key other (y ∷ ys) apart each =
      ap (λ b. cond b (y ∷ filter (λ y. pointwise nat_eq key (of y)) ys) (filter (λ y. pointwise nat_eq key (of y)) ys))
      (ap (pointwise nat_eq key) each.0 ∙ apart)
      ∙ other-left key other ys apart each.1

  -- of lists that are joined row by row, what stands under one key is its row's
  pub row-at : (F : List ℕ → List Y) (ms : List Keyed) → ((key : List ℕ) → AllByRecursion (λ y. of y ≡ key) (F key))
      → ((key : List ℕ) → row_members key ms ≡ [] → F key ≡ []) → (key : List ℕ)
      → filter (λ y. pointwise nat_eq key (of y)) (flat_map F (row_keys ms)) ≡ F key
  row-at F ms each none key =
      filter-flat_map (λ y. pointwise nat_eq key (of y)) F (row_keys ms)
      ∙ flat_map-filter (pointwise nat_eq key) at_key (row_keys ms) (λ k apart. other-left key k (F k) apart (each k))
      ∙ ap (flat_map at_key) (filter-once (pointwise nat_eq) same-key key-itself key (keys_of ms))
      ∙ by_any (list_any (pointwise nat_eq key) (keys_of ms)) refl
    where
      at_key : List ℕ → List Y
      at_key k = filter (λ y. pointwise nat_eq key (of y)) (F k)

      by_any : (b : Bool) → list_any (pointwise nat_eq key) (keys_of ms) ≡ b → flat_map at_key (cond b (key ∷ []) []) ≡ F key
      by_any true e = append-nil (at_key key) ∙ own-kept key (F key) (each key)
      by_any false e = sym (none key (no-members key ms e))

-- each spike of a row has the row's key
pub spikes-key : (last times : ℕ) (key : List ℕ) (before : List ℤ) (places : List (ℕ × ℤ))
    → AllByRecursion (λ (r : Record). r.key ≡ key) (spikes_in last times key before places)
spikes-key last times key before [] = tt
spikes-key last times key before (p ∷ ps) =
    each-append (λ (r : Record). r.key ≡ key) (spike_at last times key before p.0 p.1) (spikes_in last times key (before ++ p.1 ∷ []) ps)
    (one (nat_le last (length before) && int_lt (pos times *ℤ sum_of_last last before) (p.1 *ℤ pos last)))
    (spikes-key last times key (before ++ p.1 ∷ []) ps)
  where
    one : (b : Bool) → AllByRecursion (λ (r : Record). r.key ≡ key)
        (cond b (record { key = key; stamp = p.0 + 1; value = p.1; late = false } ∷ []) [])
    one true = (refl, tt)
    one false = tt

-- a part fires as often as its rows do
fires-keys : (part : ℕ) (h : List Entry) → total (fires_on part) h ≡ length (fired_keys part h)
fires-keys part [] = refl
fires-keys part (e ∷ es) =
    omega (arith, one e, fires-keys part es, length-append (fired_keys_by part e) (fired_keys part es))
  where
    one : (e : Entry) → fires_on part e ≡ length (fired_keys_by part e)
    one (Fire seq row timer mark effects) = elim (row.part == part) as (λ b. ◌≡◌ {A = ℕ} (cond b 1 0) (length (cond b (row.key ∷ []) []))) [
      | true ↦ refl
      | false ↦ refl
    ]
    one (Claim worker interval) = refl
    one (Inject seq other line item) = refl
    one (Handle seq row id effects) = refl
    one (Ack seq row id) = refl
    one (Purge seq row floor) = refl

module _ (case : CaseShape) (part last times : ℕ) (runs : IsRunnable case)
    (kind : kind_of case.topology part ≡ Some (kinds.Spike last times))
    (h : List Entry) (legal : IsLegal case h) (done : IsDone case (run_of case.topology h))
    (ms : List Keyed) (reads : HaveSameTotals (reads_done part (done_of case.topology h)) ms) where
  abbrev shape : Shape
  shape = case.topology

  -- the row of a key
  abbrev name : List ℕ → RowName
  name key = record { part = part; key = key }

  -- what a row took is what its part read
  row-reads : (key : List ℕ) → HaveSameTotals (pairs_of (name key) (done_of shape h)) (map place_of (row_members key ms))
  row-reads key g =
      total-map g pair_of (filter (is_mine (name key)) (done_of shape h))
      ∙ total-filter (λ (d : Delivery). g (pair_of d)) (is_mine (name key)) (done_of shape h)
      ∙ total-same (λ (d : Delivery). when (is_mine (name key) d) (g (pair_of d)))
      (λ (d : Delivery). when (d.to.part == part) (of_member (member_read d)))
      (done_of shape h) one
      ∙ sym (reads_done-total of_member part (done_of shape h))
      ∙ reads of_member
      ∙ sym (total-filter (λ (m : Keyed). g (place_of m.1)) (λ (m : Keyed). pointwise nat_eq key m.0 && not m.1.late) ms)
      ∙ sym (total-map (λ (r : Record). g (place_of r)) (λ (m : Keyed). m.1)
      (filter (λ (m : Keyed). pointwise nat_eq key m.0 && not m.1.late) ms))
      ∙ sym (total-map g place_of (row_members key ms))
    where
      of_member : Keyed → ℕ
      of_member m = when (pointwise nat_eq key m.0 && not m.1.late) (g (place_of m.1))

      both : (a b c : Bool) (n : ℕ) → when ((a && b) && c) n ≡ when a (when (b && c) n)
      both true b c n = refl
      both false b c n = refl

      one : (d : Delivery) → when (is_mine (name key) d) (g (pair_of d)) ≡ when (d.to.part == part) (of_member (member_read d))
      one d = ap (λ b. when (b && not d.item.late) (g (pair_of d))) (is_at-both (name key) d.to)
          ∙ both (d.to.part == part) (pointwise nat_eq key d.to.key) (not d.item.late) (g (pair_of d))

  -- at the end each place of a row fired
  all-over : (key : List ℕ) → (legal-spiked case (name key) last times runs kind h legal).over ≡ places_in (row_members key ms)
  all-over key =
      let was = legal-spiked case (name key) last times runs kind h legal in
      let none : map held_timer was.held ≡ [] =
      sym was.timers ∙ row_of-each shape (run_of shape h) (name key) (λ (c : Contents). c.timers ≡ []) done.fired refl in
      sym (append-nil was.over) ∙ ap (λ l. was.over ++ map held_place l) (sym (no-held was.held none))
      ∙ was.places ∙ places-same (pairs_of (name key) (done_of shape h)) (map place_of (row_members key ms)) (row-reads key)
      ∙ sym (places-fold (row_members key ms))
    where
      no-held : (held : List HeldTotal) → map held_timer held ≡ [] → held ≡ []
      no-held [] none = refl
      no-held (t ∷ ts) none = absurd cc

  -- the stream of a spike, at the end
  pub spike-plain : HaveSameTotals (out_at part (out_of shape h)) (plain_of (kinds.Spike last times) ms)
  spike-plain =
      totals-permuted (out_at part (out_of shape h)) (plain_of (kinds.Spike last times) ms)
      (by_keys (λ (key : List ℕ) (r : Record). pointwise nat_eq key r.key) (λ (r : Record). r.key) (λ r. key-itself r.key)
      (length (out_at part (out_of shape h))) (out_at part (out_of shape h)) (plain_of (kinds.Spike last times) ms) (omega arith)
      (λ key.
      (legal-spiked case (name key) last times runs kind h legal).stream
      ∙ ap (spikes_in last times key []) (all-over key)
      ∙ sym (row-at (λ (r : Record). r.key) (λ k. spikes_in last times k [] (places_in (row_members k ms))) ms
      (λ k. spikes-key last times k [] (places_in (row_members k ms)))
      (λ k none. ap (λ l. spikes_in last times k [] (places_in l)) none) key)))

  -- and how often it fired
  pub spike-fires : total (fires_on part) h ≡ fires_of (kinds.Spike last times) ms
  spike-fires =
      fires-keys part h ∙ sym (total-length (fired_keys part h))
      ∙ totals-permuted (fired_keys part h) (flat_map fired (row_keys ms))
      (by_keys (λ (key k : List ℕ). pointwise nat_eq key k) (λ (k : List ℕ). k) key-itself
      (length (fired_keys part h)) (fired_keys part h) (flat_map fired (row_keys ms)) (omega arith)
      (λ key.
      (legal-spiked case (name key) last times runs kind h legal).fires
      ∙ ap (map (λ (p : ℕ × ℤ). key)) (all-over key)
      ∙ sym (row-at (λ (k : List ℕ). k) fired ms
      (λ k. each-map (λ y. y ≡ k) (λ (p : ℕ × ℤ). k) (places_in (row_members k ms))
      (each-all (λ p. k ≡ k) (λ p. refl) (places_in (row_members k ms))))
      (λ k none. ap (λ l. map (λ (p : ℕ × ℤ). k) (places_in l)) none) key))) (λ k. 1)
      ∙ total-length (flat_map fired (row_keys ms))
      ∙ length-flat_map fired (row_keys ms)
      ∙ sym (total-sum_by (λ k. length (fired k)) (row_keys ms))
      ∙ total-same (λ k. length (fired k)) (λ k. length (places_in (row_members k ms))) (row_keys ms)
      (λ k. length-map (places_in (row_members k ms)) (λ (p : ℕ × ℤ). k))
      ∙ total-sum_by (λ k. length (places_in (row_members k ms))) (row_keys ms)
    where
      fired : List ℕ → List (List ℕ)
      fired k = map (λ (p : ℕ × ℤ). k) (places_in (row_members k ms))

-- the spikes of a finished history are plain
pub spikes-plain : (case : CaseShape) → IsRunnable case → (h : List Entry) → IsLegal case h → IsDone case (run_of case.topology h)
    → AreSpikesPlain case h
spikes-plain case runs h legal done = record {
  streams = λ part last times kind ms reads. spike-plain case part last times runs kind h legal done ms reads;
  fires = λ part last times kind ms reads. spike-fires case part last times runs kind h legal done ms reads;
}
