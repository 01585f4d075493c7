use Rattle.std.proofs.Common.{◌≡◌, ℕ, ◌<◌, ◌≤◌, Bool, true, false, [], ◌∷◌, length, refl, ◌∙◌, ap, arith}
use Rattle.std.specs.Prelude.{Option, Some, unwrap_or}
use Rattle.std.specs.Option.{option_map, option_map_or}
use Rattle.mw_types.specs.declared.identity.RowName.{RowName}
use Rattle.mw_types.specs.declared.record.Record.{Record}
use Rattle.mw_types.specs.declared.delivery.Delivery.{Delivery}
use Rattle.mw_types.specs.Outcomes.{EffectsView}
use Rattle.computations.specs.Handlers.{OfRecord}
use Rattle.run_history.specs.Runs.{row_of}
use Rattle.run_history.specs.Legal.{outcome_of}
use Rattle.worked_examples.specs.First.{key_a, window, counts}
use Rattle.worked_examples.specs.Wide.{wide_case, wide_after, count_row, key_h, key_h_x, left_second, counts_late, MayNotFollow, right_handled, late_handled_in_time, late_injected_in_time}
use Rattle.worked_examples.proofs.wide.wide_example_refuses.Goals as goal

-- the number of bytes of a delivery's key
key_length : Option RowName → ℕ
key_length row = option_map_or (λ (r : RowName). length r.key) row 0

-- the delivery goes to the row of h
elsewhere : MayNotFollow 7 (right_handled 2 key_h_x)
unfolding key_length
elsewhere may =
    let to : Some (count_row key_h) ≡ Some may.delivery.to = ap (option_map (λ (d : Delivery). d.to)) may.waits in
    let lengths : 1 ≡ 3 = ap key_length (to ∙ ap Some may.to_row) in
    absurd (omega (arith, lengths))

-- how many timers a handler set
timer_count : Option EffectsView → ℕ
timer_count left = option_map_or (λ (o : EffectsView). length o.timers) left 0

-- the handler sets no timer of the late record
in_time : MayNotFollow 10 late_handled_in_time
unfolding timer_count
in_time may =
    let waits : Some left_second ≡ Some may.delivery.item = ap (option_map (λ (d : Delivery). d.item)) may.waits in
    let item : left_second ≡ may.delivery.item = ap (λ (o : Option Record). unwrap_or o left_second) waits in
    let row = count_row key_a in
    let does : Some counts_late ≡ Some (counts (window 60 2 ∷ []) 60) =
    ap (λ (i : Record). outcome_of wide_case row (row_of wide_case.topology (wide_after 10) row) (OfRecord i)) item ∙ may.does in
    let counted : 0 ≡ 1 = ap timer_count does in
    absurd (omega (arith, counted))

-- whether a record is late
is_late : Option Record → Bool
is_late item = option_map_or (λ (r : Record). r.late) item false

-- the line is late
given_in_time : MayNotFollow 9 late_injected_in_time
unfolding is_late
given_in_time may = let late : true ≡ false = ap is_late may.of_line in cc

-- the numbers of the two claims differ
apart : ◌≡◌ {A = Option ℕ} (Some 3) (Some 2) → ⊥
apart e = cc

-- what is there is not missing, and the other way round
there : true ≡ false → ⊥
there e = cc

missing : false ≡ true → ⊥
missing e = cc

-- a number is not below itself
over : (n : ℕ) → n < n → ⊥
over n less = absurd (omega (arith, less))

pub returns : goal.returns
returns c = record {
  acknowledged_before_handled = λ may. there may.handled;
  acknowledged_twice = λ may. missing may.pending;
  acknowledged_elsewhere = λ may. missing may.pending;
  purged_above_the_floor = λ may. over 6 may.finished;
  purged_to_its_own_floor = λ may. over 6 may.rises;
  purged_where_no_entry_is = λ may. missing may.there;
  claimed_where_no_interval_is = λ may. over 5 may.interval_there;
  claimed_by_no_worker = λ may. over 16 may.worker_there;
  handled_elsewhere = elsewhere;
  late_handled_in_time = in_time;
  fired_above_the_low_watermark = λ may. let above : 60 ≤ 30 = may.under_watermark in absurd (omega (arith, above));
  late_injected_in_time = given_in_time;
  handled_below_the_cut = λ under. apart (under (count_row key_h) refl);
}
