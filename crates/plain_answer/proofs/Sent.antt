-- What a legal history made and emitted is what it put into the streams, sent on to those who read them.
use Rattle.std.proofs.Common.{◌≡◌, ℕ, ◌+◌, Bool, true, false, List, [], ◌∷◌, ◌++◌, map, Option, Some, None, refl, sym, ◌∙◌, ap, arith}
use Rattle.std.specs.Option.{option_map_or}
use Rattle.std.specs.List.{flat_map, enumerate_from}
use Rattle.mw_types.specs.declared.identity.RowName.{RowName}
use Rattle.mw_types.specs.declared.record.Record.{Record}
use Rattle.mw_types.specs.declared.record.Production.{Production}
use Rattle.mw_types.specs.declared.delivery.Delivery.{Delivery}
use Rattle.mw_types.specs.declared.delivery.Emission.{Emission}
use Rattle.mw_types.specs.declared.entry.Entry.{Entry}
use Rattle.topology.specs.declared.subscription.Subscription.{Subscription}
use Rattle.topology.specs.Shapes.{Shape, consumers_of}
use Rattle.run_history.specs.Cases.{CaseShape}
use Rattle.run_history.specs.Made.{row_written, productions_of, late_cause, produced, sends_of, delivery_at, emission_at, emissions_to, deliveries_made, emissions_made, deliveries_of, emissions_of}
use Rattle.run_history.specs.Runs.{Run, run_of}
use Rattle.run_history.specs.Legal.{IsLegal}
use Rattle.run_history.proofs.RunLaws.{run_of-push}
use Rattle.list_lemmas.proofs.Totals.{total, when, total-append, total-map, total-flat_map, total-zero}
use Rattle.plain_answer.specs.Stories.{Member, member_of, added_by, out_of}
use Rattle.plain_answer.proofs.Stories.{out-push, along_legal}

-- the row and the record of a delivery
abbrev pub send_of : Delivery → RowName × Record
send_of d = (d.to, d.item)

-- where a member of a stream is sent
abbrev pub sends : Shape → Member → List (RowName × Record)
sends shape o = sends_of (consumers_of shape o.0) o.1

-- an entry's deliveries, but for their ids
forget : (g : RowName × Record → ℕ) (n commit : ℕ) (ss : List (RowName × Record))
    → total (λ (d : Delivery). g (send_of d)) (map (delivery_at commit) (enumerate_from n ss)) ≡ total g ss
forget g n commit [] = refl
forget g n commit (s ∷ ss) = ap (λ m. g s + m) (forget g (n + 1) commit ss)

-- what productions of a part become
deliveries-total : (shape : Shape) (g : RowName × Record → ℕ) (part commit : ℕ) (late : Bool) (ps : List Production)
    → total (λ (d : Delivery). g (send_of d)) (deliveries_made shape part ps late commit)
    ≡ total (λ o. total g (sends shape o)) (map (member_of part late) ps)
deliveries-total shape g part commit late ps =
    forget g 0 commit (flat_map (sends_of (consumers_of shape part)) (map (produced late) ps))
    ∙ total-flat_map g (sends_of (consumers_of shape part)) (map (produced late) ps)
    ∙ total-map (λ r. total g (sends_of (consumers_of shape part) r)) (produced late) ps
    ∙ sym (total-map (λ o. total g (sends shape o)) (member_of part late) ps)

-- what an entry makes
entry-sent : (shape : Shape) (g : RowName × Record → ℕ) (run : Run) (entry : Entry)
    → total (λ (d : Delivery). g (send_of d)) (deliveries_of shape run.made run.next entry)
    ≡ total (λ o. total g (sends shape o)) (added_by run entry)
entry-sent shape g run entry = by_row (row_written entry)
  where
    by_row : (o : Option RowName)
        → total (λ (d : Delivery). g (send_of d))
        (option_map_or (λ (row : RowName). deliveries_made shape row.part (productions_of entry) (late_cause run.made entry) run.next) o [])
        ≡ total (λ o. total g (sends shape o))
        (option_map_or (λ (row : RowName). map (member_of row.part (late_cause run.made entry)) (productions_of entry)) o [])
    by_row None = refl
    by_row (Some row) = deliveries-total shape g row.part run.next (late_cause run.made entry) (productions_of entry)

-- what was made is what the streams send on
pub sent-total : (case : CaseShape) (g : RowName × Record → ℕ) (h : List Entry) → IsLegal case h
    → total (λ (d : Delivery). g (send_of d)) (run_of case.topology h).made
    ≡ total (λ o. total g (sends case.topology o)) (out_of case.topology h)
sent-total case g = along_legal case
    (λ h. total (λ (d : Delivery). g (send_of d)) (run_of case.topology h).made
    ≡ total (λ o. total g (sends case.topology o)) (out_of case.topology h))
    (λ h entry legal may was.
    let run : Run = run_of case.topology h in
    let sent : List Delivery = deliveries_of case.topology run.made run.next entry in
    let core : total (λ (d : Delivery). g (send_of d)) (run.made ++ sent)
    ≡ total (λ o. total g (sends case.topology o)) (out_of case.topology h ++ added_by run entry) =
    omega (
      arith,
      was,
      entry-sent case.topology g run entry,
      total-append (λ (d : Delivery). g (send_of d)) run.made sent,
      total-append (λ o. total g (sends case.topology o)) (out_of case.topology h) (added_by run entry),
    ) in
    ap (λ (r : Run). total (λ (d : Delivery). g (send_of d)) r.made) (run_of-push case.topology h entry) ∙ core
    ∙ ap (total (λ o. total g (sends case.topology o))) (sym (out-push case.topology h entry)))
    refl

-- ---- emissions

-- whether nothing reads
abbrev pub none_reads : List Subscription → Bool
none_reads [] = true
none_reads (s ∷ ss) = false

-- whether nothing reads a part's stream
abbrev pub is_unread : Shape → ℕ → Bool
is_unread shape part = none_reads (consumers_of shape part)

-- the part and the record of an emission
abbrev pub emitted : Emission → Member
emitted e = (e.part, e.item)

-- records with an entry's ids
emit : (g : Member → ℕ) (part n commit : ℕ) (rs : List Record)
    → total (λ (e : Emission). g (emitted e)) (map (emission_at part commit) (enumerate_from n rs)) ≡ total (λ r. g (part, r)) rs
emit g part n commit [] = refl
emit g part n commit (r ∷ rs) = ap (λ m. g (part, r) + m) (emit g part (n + 1) commit rs)

-- what records of a part become where nothing reads
emissions-total : (ss : List Subscription) (g : Member → ℕ) (part commit : ℕ) (rs : List Record)
    → total (λ (e : Emission). g (emitted e)) (emissions_to ss part commit rs) ≡ total (λ r. when (none_reads ss) (g (part, r))) rs
emissions-total [] g part commit rs = emit g part 0 commit rs
emissions-total (s ∷ ss) g part commit rs = sym (total-zero rs)

-- what an entry emits
entry-emitted : (shape : Shape) (g : Member → ℕ) (run : Run) (entry : Entry)
    → total (λ (e : Emission). g (emitted e)) (emissions_of shape run.made run.next entry)
    ≡ total (λ (o : Member). when (is_unread shape o.0) (g o)) (added_by run entry)
entry-emitted shape g run entry = by_row (row_written entry)
  where
    by_row : (o : Option RowName)
        → total (λ (e : Emission). g (emitted e))
        (option_map_or (λ (row : RowName). emissions_made shape row.part (productions_of entry) (late_cause run.made entry) run.next) o [])
        ≡ total (λ (o : Member). when (is_unread shape o.0) (g o))
        (option_map_or (λ (row : RowName). map (member_of row.part (late_cause run.made entry)) (productions_of entry)) o [])
    by_row None = refl
    by_row (Some row) =
        emissions-total (consumers_of shape row.part) g row.part run.next
        (map (produced (late_cause run.made entry)) (productions_of entry))
        ∙ total-map (λ r. when (is_unread shape row.part) (g (row.part, r))) (produced (late_cause run.made entry)) (productions_of entry)
        ∙ sym (total-map (λ (o : Member). when (is_unread shape o.0) (g o)) (member_of row.part (late_cause run.made entry))
        (productions_of entry))

-- what was emitted is what is in the streams that nothing reads
pub emitted-total : (case : CaseShape) (g : Member → ℕ) (h : List Entry) → IsLegal case h
    → total (λ (e : Emission). g (emitted e)) (run_of case.topology h).emissions
    ≡ total (λ (o : Member). when (is_unread case.topology o.0) (g o)) (out_of case.topology h)
emitted-total case g = along_legal case
    (λ h. total (λ (e : Emission). g (emitted e)) (run_of case.topology h).emissions
    ≡ total (λ (o : Member). when (is_unread case.topology o.0) (g o)) (out_of case.topology h))
    (λ h entry legal may was.
    let run : Run = run_of case.topology h in
    let new : List Emission = emissions_of case.topology run.made run.next entry in
    let read : Member → ℕ = λ o. when (is_unread case.topology o.0) (g o) in
    let core : total (λ (e : Emission). g (emitted e)) (run.emissions ++ new) ≡ total read (out_of case.topology h ++ added_by run entry) =
    omega (
      arith,
      was,
      entry-emitted case.topology g run entry,
      total-append (λ (e : Emission). g (emitted e)) run.emissions new,
      total-append read (out_of case.topology h) (added_by run entry),
    ) in
    ap (λ (r : Run). total (λ (e : Emission). g (emitted e)) r.emissions) (run_of-push case.topology h entry) ∙ core
    ∙ ap (total read) (sym (out-push case.topology h entry)))
    refl
