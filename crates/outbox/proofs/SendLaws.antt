-- What an entry makes, as messages from its row.
use Rattle.std.proofs.Common.{◌≡◌, ◌∙◌, ◌<◌, ◌≤◌, ◌+◌, ◌^◌, ◌&&◌, ℕ, Bool, true, List, [], ◌∷◌, ◌++◌, length, map, refl, sym, ap, subst, arith}
use Rattle.std.specs.Prelude.{All, IfSome, Option, Some, nat_lt, nat_le, slice_get}
use Rattle.std.specs.List.{AllByRecursion, enumerate_from, flat_map, list_all}
use Rattle.std.specs.Option.{option_map_or}
use Rattle.std.proofs.lemmas.Bool.{leb-true, ltb-true}
use Rattle.std.proofs.lemmas.List.Elements.{All-from_recursion, recursion_from_All}
use Rattle.list_lemmas.proofs.Tests.{both_true}
use Rattle.list_lemmas.proofs.Places.{each-behind}
use Rattle.mw_types.specs.declared.TheConstants.{MAX_STAMP}
use Rattle.mw_types.specs.declared.delivery.Delivery.{Delivery}
use Rattle.mw_types.specs.declared.entry.Entry.{Entry}
use Rattle.mw_types.specs.declared.identity.RowName.{RowName}
use Rattle.mw_types.specs.declared.record.Production.{Production}
use Rattle.mw_types.specs.declared.record.Record.{Record}
use Rattle.topology.specs.Rules.{IsTopology}
use Rattle.topology.specs.Shapes.{Shape, consumers_of, injectors_of, parts_of, stream_of}
use Rattle.row_parts.specs.Contents.{IsId, found_delivery}
use Rattle.run_history.specs.Cases.{CaseShape}
use Rattle.run_history.specs.Fits.{is_sent_before}
use Rattle.run_history.specs.Made.{deliveries_made, deliveries_of, delivery_at, late_cause, produced, productions_of, row_written, sends_of}
use Rattle.run_history.specs.Runs.{Run, run_of}
use Rattle.run_history.proofs.Beginnings.{slice_get-last}
use Rattle.run_history.proofs.Making.{consumers_few}
use Rattle.run_history.proofs.RunLaws.{run_of-push}
use Rattle.history_laws.proofs.IdLaws.{each_found_delivery, made-in_order, next-length}
use Rattle.history_laws.proofs.Made.{each_of_commit}
use Rattle.book.specs.Desks.{DeskView}
use Rattle.book.proofs.SeenRows.{told-then}
use Rattle.book.proofs.SentLaws.{sent-before, sent-ids, sent-stamps}
use Rattle.outbox.specs.Messages.{IsAddressed, IsComputation, IsOutgoing, IsSentFrom, messages_from}
use Rattle.outbox.specs.Outboxes.{numbered}
use Rattle.outbox.specs.declared.outgoing.Outgoing.{Outgoing}
use Rattle.outbox.specs.declared.outgoing.Outgoing.TheVariants as outgoing

-- ---- under a number

-- deliveries under the number 0, numbered anew
renumbered-each : (name : RowName) (commit : ℕ) (sends : List (ℕ × (RowName × Record)))
    → map (numbered commit) (messages_from name (map (delivery_at 0) sends)) ≡ messages_from name (map (delivery_at commit) sends)
renumbered-each name commit [] = refl
renumbered-each name commit ((index, send) ∷ sends) =
    ap (λ (l : List Outgoing). outgoing.Deliver (delivery_at commit (index, send)) name ∷ l) (renumbered-each name commit sends)

-- what was made under the number 0, under the entry's
pub made-numbered : (shape : Shape) (name : RowName) (productions : List Production) (late : Bool) (commit : ℕ)
    → map (numbered commit) (messages_from name (deliveries_made shape name.part productions late 0))
    ≡ messages_from name (deliveries_made shape name.part productions late commit)
made-numbered shape name productions late commit = renumbered-each name commit
    (enumerate_from 0 (flat_map (sends_of (consumers_of shape name.part)) (map (produced late) productions)))

-- ---- where it goes

-- a delivery that was made goes to a computation
pub goes-there : (shape : Shape) (number : ℕ) (d : Delivery) → is_sent_before shape number d ≡ true → IsComputation shape d.to.part
goes-there shape number d is =
    let first = both_true (nat_lt d.id.commit number && nat_le (injectors_of shape) d.to.part) (nat_lt d.to.part (parts_of shape)) is in
    let second = both_true (nat_lt d.id.commit number) (nat_le (injectors_of shape) d.to.part) first.0 in record {
      no_injector = leb-true (injectors_of shape) d.to.part second.1;
      there = ltb-true d.to.part (parts_of shape) first.1;
    }

-- each of some deliveries can be sent from a row
deliverable-each : (shape : Shape) (name : RowName) (number : ℕ) (ds : List Delivery) → name.part < parts_of shape
    → AllByRecursion (λ (d : Delivery). IsId d.id) ds → AllByRecursion (λ (d : Delivery). d.item.stamp ≤ MAX_STAMP) ds
    → list_all (is_sent_before shape number) ds ≡ true → AllByRecursion (IsAddressed shape) (messages_from name ds)
deliverable-each shape name number [] from ids stamps before = tt
deliverable-each shape name number (d ∷ ds) from ids stamps before =
    let parts = both_true (is_sent_before shape number d) (list_all (is_sent_before shape number) ds) before in (
      record { id = ids.0; stamp = stamps.0; to = goes-there shape number d parts.0; from = from },
      deliverable-each shape name number ds from ids.1 stamps.1 parts.1,
    )

-- what few productions of a row become is addressed
pub made-addressed : (shape : Shape) (name : RowName) (productions : List Production) (late : Bool) (commit : ℕ) → IsTopology shape
    → name.part < parts_of shape → length productions ≤ 8 → All (λ (p : Production). p.stamp ≤ MAX_STAMP) productions
    → commit < 2 ^ 32
    → All (IsAddressed shape) (messages_from name (deliveries_made shape name.part productions late commit))
made-addressed shape name productions late commit rules from few stamps small =
    let ds = deliveries_made shape name.part productions late commit in
    let consumers : length (consumers_of shape name.part) ≤ 64 = omega (
      arith,
      consumers_few (stream_of shape name.part) (injectors_of shape) shape.computations,
      rules.few_readings,
    ) in
    All-from_recursion (IsAddressed shape) (messages_from name ds) (deliverable-each shape name (commit + 1) ds from
    (recursion_from_All (λ (d : Delivery). IsId d.id) ds (sent-ids shape name.part productions late commit consumers few small))
    (recursion_from_All (λ (d : Delivery). d.item.stamp ≤ MAX_STAMP) ds (sent-stamps shape name.part productions late commit stamps))
    (sent-before shape name.part productions late commit))

-- ---- who made it

-- deliveries that are found in a history, and have the number of an entry on this row
sent-each : (case : CaseShape) (seen : List Entry) (name : RowName) (entry : Entry) (commit : ℕ) (ds : List Delivery)
    → slice_get seen commit ≡ Some entry → row_written entry ≡ Some name
    → AllByRecursion (λ (d : Delivery). found_delivery d.id (run_of case.topology seen).made ≡ Some d) ds
    → AllByRecursion (λ (d : Delivery). d.id.commit ≡ commit) ds → AllByRecursion (IsSentFrom case seen name) ds
sent-each case seen name entry commit [] at on found numbers = tt
sent-each case seen name entry commit (d ∷ ds) at on found numbers = (
  record {
    made = found.0;
    on_sender = record { entry = entry; numbered = ap (slice_get seen) numbers.0 ∙ at; on_row = on };
  },
  sent-each case seen name entry commit ds at on found.1 numbers.1,
)

-- what the last entry of a history made was sent from its row
pub made-sent : (case : CaseShape) (before : List Entry) (entry : Entry) (name : RowName) → row_written entry ≡ Some name
    → AllByRecursion (IsSentFrom case (before ++ entry ∷ []) name)
    (deliveries_of case.topology (run_of case.topology before).made (length before) entry)
made-sent case before entry name on =
    let shape = case.topology in
    let seen = before ++ entry ∷ [] in
    let made = (run_of shape before).made in
    let sent = deliveries_of shape made (length before) entry in
    let whole : (run_of shape seen).made ≡ made ++ sent =
    ap (λ (r : Run). r.made) (run_of-push shape before entry)
    ∙ ap (λ n. made ++ deliveries_of shape made n entry) (next-length shape before) in
    let found = each_found_delivery (run_of shape seen).made (made-in_order shape seen).ascending in
    sent-each case seen name entry (length before) sent (slice_get-last before entry) on
    (each-behind (λ (d : Delivery). found_delivery d.id (run_of shape seen).made ≡ Some d) made sent
    (subst (AllByRecursion (λ (d : Delivery). found_delivery d.id (run_of shape seen).made ≡ Some d)) whole found))
    (each_of_commit shape made (length before) entry)

-- each of these messages may be sent, where what they say is so
outgoing-each : (case : CaseShape) (desk : DeskView) (name : RowName) (ds : List Delivery)
    → IfSome desk.told (λ _. AllByRecursion (IsSentFrom case desk.seen name) ds)
    → AllByRecursion (IsAddressed case.topology) (messages_from name ds) → AllByRecursion (IsOutgoing case desk) (messages_from name ds)
outgoing-each case desk name [] so addressed = tt
outgoing-each case desk name (d ∷ ds) so addressed = (
  record {
    so = told-then desk.told (λ _. AllByRecursion (IsSentFrom case desk.seen name) (d ∷ ds))
        (λ _. IsSentFrom case desk.seen name d) so (λ x all. all.0);
    addressed = addressed.0;
  },
  outgoing-each case desk name ds
      (told-then desk.told (λ _. AllByRecursion (IsSentFrom case desk.seen name) (d ∷ ds))
      (λ _. AllByRecursion (IsSentFrom case desk.seen name) ds) so (λ x all. all.1))
      addressed.1,
)

-- what an entry makes, as its cause is late
pub made-late : (shape : Shape) (before : List Entry) (entry : Entry) (name : RowName) (late : Bool) (commit : ℕ)
    → row_written entry ≡ Some name → commit ≡ length before → late_cause (run_of shape before).made entry ≡ late
    → deliveries_made shape name.part (productions_of entry) late commit
    ≡ deliveries_of shape (run_of shape before).made (length before) entry
made-late shape before entry name late commit on number is =
    let made = (run_of shape before).made in
    ap (deliveries_made shape name.part (productions_of entry) late) number
    ∙ ap (λ b. deliveries_made shape name.part (productions_of entry) b (length before)) (sym is)
    ∙ sym (ap (λ (o : Option RowName). option_map_or (λ (row : RowName).
    deliveries_made shape row.part (productions_of entry) (late_cause made entry) (length before)) o []) on)

-- what the last entry that a desk has seen makes may be sent
pub made-outgoing : (case : CaseShape) (desk : DeskView) (before : List Entry) (entry : Entry) (name : RowName) (late : Bool) (commit : ℕ)
    → desk.seen ≡ before ++ entry ∷ [] → row_written entry ≡ Some name → commit ≡ length before
    → IfSome desk.told (λ _. late_cause (run_of case.topology before).made entry ≡ late)
    → All (IsAddressed case.topology) (messages_from name (deliveries_made case.topology name.part (productions_of entry) late commit))
    → All (IsOutgoing case desk) (messages_from name (deliveries_made case.topology name.part (productions_of entry) late commit))
made-outgoing case desk before entry name late commit seen on number is addressed =
    let shape = case.topology in
    let ds = deliveries_made shape name.part (productions_of entry) late commit in
    All-from_recursion (IsOutgoing case desk) (messages_from name ds) (outgoing-each case desk name ds
    (told-then desk.told (λ _. late_cause (run_of shape before).made entry ≡ late)
    (λ _. AllByRecursion (IsSentFrom case desk.seen name) ds) is (λ x told.
    subst (λ (h : List Entry). AllByRecursion (IsSentFrom case h name) ds) (sym seen)
    (subst (AllByRecursion (IsSentFrom case (before ++ entry ∷ []) name)) (sym (made-late shape before entry name late commit on number told))
    (made-sent case before entry name on))))
    (recursion_from_All (IsAddressed shape) (messages_from name ds) addressed))
