-- What an entry makes has the number of the entry, and what more entries make has their numbers.
use Rattle.std.proofs.Common.{◌≡◌, ◌∙◌, ℕ, ◌+◌, ◌≤◌, Bool, fold, List, [], ◌∷◌, ◌++◌, map, refl, sym, append_assoc, arith}
use Rattle.std.specs.Prelude.{Option, Some, None}
use Rattle.std.specs.Option.{option_map_or}
use Rattle.std.specs.List.{AllByRecursion}
use Rattle.std.proofs.lemmas.List.{append-nil}
use Rattle.mw_types.specs.declared.identity.RowName.{RowName}
use Rattle.mw_types.specs.declared.record.Record.{Record}
use Rattle.mw_types.specs.declared.record.Production.{Production}
use Rattle.topology.specs.declared.subscription.Subscription.{Subscription}
use Rattle.mw_types.specs.declared.delivery.Delivery.{Delivery}
use Rattle.mw_types.specs.declared.entry.Entry.{Entry}
use Rattle.topology.specs.Shapes.{Shape, consumers_of}
use Rattle.run_history.specs.Made.{row_written, deliveries_of, deliveries_made, delivery_at, productions_of, late_cause, produced, row_to, sends_of}
use Rattle.run_history.specs.Runs.{Run, followed}
use Rattle.list_lemmas.proofs.Lists.{each-append, each-map, each-all, each-weaker, each-enumerate, each-flat_map}

-- what an entry makes has the entry's commit number
pub each_of_commit : (shape : Shape) (made : List Delivery) (commit : ℕ) (entry : Entry)
    → AllByRecursion (λ (d : Delivery). d.id.commit ≡ commit) (deliveries_of shape made commit entry)
each_of_commit shape made commit entry = by_row (row_written entry)
  where
    by_row : (written : Option RowName) → AllByRecursion (λ (d : Delivery). d.id.commit ≡ commit)
        (option_map_or (λ (row : RowName). deliveries_made shape row.part (productions_of entry) (late_cause made entry) commit) written [])
    by_row None = tt
    by_row (Some row) = each-map (λ (d : Delivery). d.id.commit ≡ commit) (delivery_at commit) _
        (each-all (λ (s : ℕ × (RowName × Record)). (delivery_at commit s).id.commit ≡ commit) (λ s. refl) _)

-- what entries make has their numbers
pub made-rest : (shape : Shape) (rest : List Entry) (run : Run) → (more : List Delivery)
    × ((fold (followed shape) run rest).made ≡ run.made ++ more) × AllByRecursion (λ (d : Delivery). run.next ≤ d.id.commit) more
made-rest shape [] run = ([], sym (append-nil run.made), tt)
made-rest shape (e ∷ es) run =
    let sent = deliveries_of shape run.made run.next e in
    let later = made-rest shape es (followed shape run e) in
    let at_least : Delivery → Type 0 = λ d. run.next ≤ d.id.commit in (
      sent ++ later.0,
      later.1 ∙ append_assoc run.made sent later.0,
      each-append at_least sent later.0
          (each-weaker (λ (d : Delivery). d.id.commit ≡ run.next) at_least (λ d same. omega (arith, same)) sent
          (each_of_commit shape run.made run.next e))
          (each-weaker (λ (d : Delivery). run.next + 1 ≤ d.id.commit) at_least (λ d above. omega (arith, above)) later.0 later.2),
    )

-- what holds of each consumer with each production holds of each delivery that is made of them
pub deliveries_made-each : (shape : Shape) (part : ℕ) (productions : List Production) (late : Bool) (commit : ℕ)
    (R : Subscription → Type 0) (Q : Production → Type 0) (P : RowName → Record → Type 0)
    → ((s : Subscription) (p : Production) → R s → Q p → P (row_to (produced late p) s) (produced late p))
    → AllByRecursion R (consumers_of shape part) → AllByRecursion Q productions
    → AllByRecursion (λ (d : Delivery). P d.to d.item) (deliveries_made shape part productions late commit)
deliveries_made-each shape part productions late commit R Q P both consumers produced_each =
    let PairHolds : RowName × Record → Type 0 = λ send. P send.0 send.1 in
    each-map (λ (d : Delivery). P d.to d.item) (delivery_at commit) _
    (each-enumerate PairHolds 0 _
    (each-flat_map PairHolds (sends_of (consumers_of shape part)) (map (produced late) productions)
    (each-map (λ (item : Record). AllByRecursion PairHolds (sends_of (consumers_of shape part) item)) (produced late) productions
    (each-weaker Q (λ p. AllByRecursion PairHolds (sends_of (consumers_of shape part) (produced late p)))
    (λ p q. each-map PairHolds (λ s. (row_to (produced late p) s, produced late p)) (consumers_of shape part)
    (each-weaker R (λ s. P (row_to (produced late p) s) (produced late p)) (λ s r. both s p r q) (consumers_of shape part) consumers))
    productions produced_each))))
