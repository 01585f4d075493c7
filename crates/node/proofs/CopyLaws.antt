-- What a row that is held tells of a record: it is finished there only where it was handled.
use Rattle.std.proofs.Common.{◌≡◌, ◌∙◌, ◌≤◌, ℕ, true, List, ◌++◌, fold, refl, sym, ap, subst, arith}
use Rattle.std.specs.Prelude.{IfSome, Option, Some, None}
use Rattle.std.specs.List.{AllByRecursion}
use Rattle.mw_types.specs.declared.delivery.Delivery.{Delivery}
use Rattle.mw_types.specs.declared.entry.Entry.{Entry}
use Rattle.mw_types.specs.declared.identity.RowName.{RowName}
use Rattle.row_parts.specs.Contents.{is_finished, same_id, found_delivery}
use Rattle.run_history.specs.Cases.{CaseShape}
use Rattle.run_history.specs.Fences.{Begins, interval_of, known}
use Rattle.run_history.specs.Finished.{is_handled}
use Rattle.run_history.specs.Legal.{IsLegal}
use Rattle.run_history.specs.Runs.{Run, empty_run, followed, row_of, run_of}
use Rattle.run_history.proofs.Known.{known-begins}
use Rattle.list_lemmas.proofs.Lists.{find-behind, find-each}
use Rattle.history_laws.proofs.Along.{AreLegal-apart, run_of-append}
use Rattle.history_laws.proofs.FinishedLaws.{finished-handled, is_handled-more, unmade-unfinished}
use Rattle.history_laws.proofs.FloorLaws.{floor_of-below}
use Rattle.history_laws.proofs.Made.{made-rest}
use Rattle.history_laws.proofs.SeenLaws.{found-more}
use Rattle.book.specs.Desks.{DeskView, IsSound}
use Rattle.book.proofs.SeenRows.{told-both, told-then}
use Rattle.holdings.specs.Holding.{AreAllHeld, HeldView, held_on, row_held}
use Rattle.outbox.specs.Messages.{IsOutgoing, IsSentFrom}
use Rattle.outbox.specs.declared.outgoing.Outgoing.TheVariants as outgoing
use Rattle.node.proofs.FitLaws.{held-interval}

-- a record that is finished in its row as it is known was handled
pub finished-known : (case : CaseShape) (history : List Entry) (interval seq : ℕ) (d : Delivery) → IsLegal case history
    → found_delivery d.id (run_of case.topology history).made ≡ Some d
    → is_finished d.id (row_of case.topology (run_of case.topology (known interval seq history)) d.to) ≡ true
    → is_handled d.id history ≡ true
finished-known case history interval seq d legal made finished = by_found (found_delivery d.id (run_of case.topology front).made) refl
  where
    front : List Entry
    front = known interval seq history

    begins : Begins front history
    begins = known-begins interval seq history

    lawful : IsLegal case front
    lawful = (AreLegal-apart case front begins.0 empty_run (subst (IsLegal case) (sym begins.1) legal)).0

    whole : found_delivery d.id (run_of case.topology (front ++ begins.0)).made ≡ Some d
    whole = ap (λ (h : List Entry). found_delivery d.id (run_of case.topology h).made) begins.1 ∙ made

    more : (ds : List Delivery) × ((fold (followed case.topology) (run_of case.topology front) begins.0).made
        ≡ (run_of case.topology front).made ++ ds) × AllByRecursion (λ (e : Delivery). (run_of case.topology front).next ≤ e.id.commit) ds
    more = made-rest case.topology begins.0 (run_of case.topology front)

    late : found_delivery d.id (run_of case.topology front).made ≡ None → (run_of case.topology front).next ≤ d.id.commit
    late none = find-each (λ (e : Delivery). (run_of case.topology front).next ≤ e.id.commit) (λ (e : Delivery). same_id e.id d.id) more.0 d more.2
        (sym (find-behind (λ (e : Delivery). same_id e.id d.id) (run_of case.topology front).made more.0 none)
        ∙ sym (ap (λ (r : Run). found_delivery d.id r.made) (run_of-append case.topology front begins.0) ∙ ap (found_delivery d.id) more.1) ∙ whole)

    by_found : (o : Option Delivery) → found_delivery d.id (run_of case.topology front).made ≡ o → is_handled d.id history ≡ true
    by_found None none = absurd (
        let after = late none in
        let below = (floor_of-below (run_of case.topology front)).next in
        let unfinished = unmade-unfinished case front d.id d.to lawful none (omega (arith, after, below)) in cc)
    by_found (Some e) some =
        let early = some ∙ sym (found-more case.topology front begins.0 d.id e some) ∙ whole in
        subst (λ (h : List Entry). is_handled d.id h ≡ true) begins.1
        (is_handled-more d.id front begins.0 (sym (finished-handled case front d lawful early) ∙ finished))

-- a record that is finished in its row as it is held was handled, where that is told
pub handled-held : (case : CaseShape) (desk : DeskView) (all : List (Option HeldView)) (d : Delivery) (sender : RowName) (held : HeldView)
    → IsSound desk → desk.case ≡ case → AreAllHeld case desk all → held_on case.topology all d.to ≡ Some held
    → IsOutgoing case desk (outgoing.Deliver d sender) → is_finished d.id (row_held case.topology held d.to) ≡ true
    → IfSome desk.told (λ _. is_handled d.id desk.seen ≡ true)
handled-held case desk all d sender held sound same fit there sent finished =
    let shape = case.topology in
    let on = held-interval shape all d.to held there in
    let here = fit.each on.0 held on.2 in
    let lies : interval_of shape d.to ≡ Some held.lease.interval = on.1 ∙ sym (ap Some here.of_interval) in
    let Known : Type 0 = (name : RowName) → interval_of shape name ≡ Some held.lease.interval → row_held shape held name
    ≡ row_of shape (run_of shape (known held.lease.interval held.lease.seq desk.seen)) name in
    let Lawful : Type 0 = IsLegal desk.case desk.seen in
    let Sent : Type 0 = IsSentFrom case desk.seen sender d in
    let both = told-both desk.told (λ _. Lawful) (λ _. Sent) sound.legal sent.so in
    let all_told = told-both desk.told (λ _. Known) (λ _. Lawful × Sent) here.rows.known both in
    told-then desk.told (λ _. Known × (Lawful × Sent)) (λ _. is_handled d.id desk.seen ≡ true) all_told
    (λ x told. finished-known case desk.seen held.lease.interval held.lease.seq d
    (subst (λ (k : CaseShape). IsLegal k desk.seen) same told.1.0) told.1.1.made
    (sym (ap (is_finished d.id) (told.0 d.to lies)) ∙ finished))
