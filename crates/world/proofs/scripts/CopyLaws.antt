-- What a copy of a record meets that comes at any time.
use Rattle.std.proofs.Common.{◌≡◌, ◌≢◌, ◌∙◌, ◌<◌, ◌≤◌, ℕ, Bool, true, false, List, ◌++◌, fold, length, refl, sym, ap, subst, arith, inl, inr}
use Rattle.std.specs.Prelude.{if◌then◌else◌, ◌⊎◌, Option, None, Some, IsSome}
use Rattle.std.specs.List.{AllByRecursion}
use Rattle.mw_types.specs.declared.delivery.Delivery.{Delivery}
use Rattle.mw_types.specs.declared.entry.Entry.{Entry}
use Rattle.mw_types.specs.declared.identity.RowName.{RowName}
use Rattle.topology.specs.Shapes.{Shape}
use Rattle.row_parts.specs.Contents.{is_finished, same_id, found_delivery}
use Rattle.run_history.specs.Cases.{CaseShape}
use Rattle.run_history.specs.Fences.{Begins, known, last_claim}
use Rattle.run_history.specs.Finished.{is_handled}
use Rattle.run_history.specs.Legal.{IsLegal}
use Rattle.run_history.specs.Runs.{Run, empty_run, followed, run_of}
use Rattle.run_history.proofs.Known.{known-begins, known-last}
use Rattle.list_lemmas.proofs.Lists.{find-behind, find-each}
use Rattle.history_laws.proofs.Along.{AreLegal-apart, run_of-append}
use Rattle.history_laws.proofs.FinishedLaws.{finished-handled, unmade-unfinished, waits-unless_finished}
use Rattle.history_laws.proofs.FloorLaws.{floor_of-below}
use Rattle.history_laws.proofs.IdLaws.{legal-tells, made-in_order, next-length}
use Rattle.history_laws.proofs.Made.{made-rest}
use Rattle.history_laws.proofs.SeenLaws.{found-more}
use Rattle.book.specs.Books.{LeaseView}
use Rattle.outbox.specs.declared.outgoing.Outgoing.TheVariants as outgoing
use Rattle.world.specs.scripts.Acts.{take_again, take_in, take_new}
use Rattle.world.specs.scripts.Copies.{IsCopyKnown, answer_to_copy}
use Rattle.world.specs.scripts.Worlds.{World, row_known}

-- a record that was made was made in a beginning, or has a number past it
early-or-late : (shape : Shape) (front rest : List Entry) (d : Delivery) → found_delivery d.id (run_of shape (front ++ rest)).made ≡ Some d
    → (found_delivery d.id (run_of shape front).made ≡ Some d)
    ⊎ ((found_delivery d.id (run_of shape front).made ≡ None) × (length front ≤ d.id.commit))
early-or-late shape front rest d made = by_found (found_delivery d.id (run_of shape front).made) refl
  where
    more : (ds : List Delivery) × ((fold (followed shape) (run_of shape front) rest).made
        ≡ (run_of shape front).made ++ ds) × AllByRecursion (λ (e : Delivery). (run_of shape front).next ≤ e.id.commit) ds
    more = made-rest shape rest (run_of shape front)

    late : found_delivery d.id (run_of shape front).made ≡ None → (run_of shape front).next ≤ d.id.commit
    late none = find-each (λ (e : Delivery). (run_of shape front).next ≤ e.id.commit) (λ (e : Delivery). same_id e.id d.id) more.0 d more.2
        (sym (find-behind (λ (e : Delivery). same_id e.id d.id) (run_of shape front).made more.0 none)
        ∙ sym (ap (λ (r : Run). found_delivery d.id r.made) (run_of-append shape front rest) ∙ ap (found_delivery d.id) more.1) ∙ made)

    by_found : (o : Option Delivery) → found_delivery d.id (run_of shape front).made ≡ o
        → (found_delivery d.id (run_of shape front).made ≡ Some d)
        ⊎ ((found_delivery d.id (run_of shape front).made ≡ None) × (length front ≤ d.id.commit))
    by_found None none = inr (none, let past = late none in let next = next-length shape front in omega (arith, past, next))
    by_found (Some e) some = inl (some ∙ sym (found-more shape front rest d.id e some) ∙ made)

-- what was not made was not handled
unmade-unhandled : (case : CaseShape) (history : List Entry) (d : Delivery) → IsLegal case history
    → found_delivery d.id (run_of case.topology history).made ≡ None → is_handled d.id history ≡ false
unmade-unhandled case history d legal none = elim (is_handled d.id history) as (λ b. is_handled d.id history ≡ b → b ≡ false) [
  | true ↦ λ e. absurd (not_there (found_delivery d.id (run_of case.topology history).made)
      ((legal-tells case history legal).handled d.id e) none)
  | false ↦ λ e. refl
] refl
  where
    not_there : (o : Option Delivery) → IsSome o → o ≡ None → ⊥
    not_there None is e = absurd (cc)
    not_there (Some x) is e = cc

-- a record that was made has a number of an entry
made-below : (shape : Shape) (history : List Entry) (d : Delivery) → found_delivery d.id (run_of shape history).made ≡ Some d
    → d.id.commit < length history
made-below shape history d made =
    let below = find-each (λ (e : Delivery). e.id.commit < (run_of shape history).next) (λ (e : Delivery). same_id e.id d.id)
    (run_of shape history).made d (made-in_order shape history).below made in
    let next = next-length shape history in omega (arith, below, next)

-- a copy that comes at any time, after its acknowledgement and a purge too
pub copy-known : (case : CaseShape) (history : List Entry) (interval seq : ℕ) (d : Delivery) → IsLegal case history
    → found_delivery d.id (run_of case.topology history).made ≡ Some d → IsCopyKnown case history interval seq d
copy-known case history interval seq d legal made = by_time (early-or-late case.topology front begins.0 d
    (ap (λ (h : List Entry). found_delivery d.id (run_of case.topology h).made) begins.1 ∙ made))
  where
    front : List Entry
    front = known interval seq history

    begins : Begins front history
    begins = known-begins interval seq history

    lawful : IsLegal case front
    lawful = (AreLegal-apart case front begins.0 empty_run (subst (IsLegal case) (sym begins.1) legal)).0

    -- a claim under which it is not known that the record was made is not the last
    overtaken : length front ≤ d.id.commit → last_claim interval history ≢ Some seq
    overtaken past last = let all = ap length (known-last interval seq history last) in
        let there = made-below case.topology history d made in absurd (omega (arith, all, past, there))

    by_time : (found_delivery d.id (run_of case.topology front).made ≡ Some d)
        ⊎ ((found_delivery d.id (run_of case.topology front).made ≡ None) × (length front ≤ d.id.commit))
        → IsCopyKnown case history interval seq d
    by_time (inl early) = record {
      exact = finished-handled case front d lawful early;
      left = λ unfinished. inl (waits-unless_finished case front d lawful early unfinished);
    }
    by_time (inr late) = record {
      exact = unmade-unfinished case front d.id d.to lawful late.0
          (let below = (floor_of-below (run_of case.topology front)).next in let next = next-length case.topology front in
          let past = late.1 in omega (arith, below, next, past))
          ∙ sym (unmade-unhandled case front d lawful late.0);
      left = λ unfinished. inr (late.1, overtaken late.1);
    }

-- a record that is taken is answered by whether it is finished
take-answer : (number : ℕ) (world : World) (d : Delivery) (sender : RowName) (finished : Bool)
    → (if finished then take_again number world d sender else take_new number world d sender).answer ≡ answer_to_copy finished
take-answer number world d sender true = refl
take-answer number world d sender false = refl

-- a worker that takes a copy answers by what it knows of the history
pub copy-answered : (case : CaseShape) (world : World) (number : ℕ) (lease : LeaseView) (d : Delivery) (sender : RowName)
    → IsLegal case world.history → found_delivery d.id (run_of case.topology world.history).made ≡ Some d
    → (take_in case.topology number world lease (outgoing.Deliver d sender)).answer
    ≡ answer_to_copy (is_handled d.id (known lease.interval lease.seq world.history))
copy-answered case world number lease d sender legal made =
    take-answer number world d sender (is_finished d.id (row_known case.topology world lease d.to))
    ∙ ap answer_to_copy (copy-known case world.history lease.interval lease.seq d legal made).exact
