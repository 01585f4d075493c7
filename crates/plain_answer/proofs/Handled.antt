-- Each delivery that a legal history made was handled in it or waits.
use Rattle.std.proofs.Common.{◌≡◌, ℕ, ◌+◌, true, false, cond, not, List, [], ◌∷◌, ◌++◌, Some, refl, sym, ◌∙◌, ap, subst, arith}
use Rattle.std.specs.Prelude.{option_to_list}
use Rattle.std.specs.declared.cmp.Ordering.TheVariants.{Less}
use Rattle.std.specs.List.Sorted.{IsStrictlySortedBy}
use Rattle.std.proofs.lemmas.List.Kept.{IsStrictlySortedBy-filter}
use Rattle.mw_types.specs.declared.identity.RecordId.{RecordId}
use Rattle.mw_types.specs.declared.delivery.Delivery.{Delivery}
use Rattle.mw_types.specs.declared.entry.Entry.{Entry}
use Rattle.mw_types.specs.declared.entry.Entry.TheVariants.{Handle}
use Rattle.row_parts.specs.Contents.{same_id, without_delivery, delivery_cmp, found_delivery}
use Rattle.run_history.specs.Cases.{CaseShape}
use Rattle.run_history.specs.Made.{deliveries_of}
use Rattle.run_history.specs.Runs.{Run, run_of, still_unhandled}
use Rattle.run_history.specs.Legal.{MayFollow, IsLegal}
use Rattle.run_history.proofs.RunLaws.{run_of-push}
use Rattle.history_laws.specs.Ids.{is_left}
use Rattle.history_laws.proofs.IdLaws.{passes_once, legal-ids}
use Rattle.list_lemmas.proofs.Lists.{none_some, some_same, each-weaker, filter-all}
use Rattle.list_lemmas.proofs.Totals.{total, total-append}
use Rattle.plain_answer.specs.Stories.{handled_by, done_of}
use Rattle.plain_answer.proofs.Stories.{done-push, along_legal}

-- what is found under its id, and the others
taken-out : (id : RecordId) (f : Delivery → ℕ) (xs : List Delivery) (d : Delivery) → IsStrictlySortedBy delivery_cmp xs
    → found_delivery id xs ≡ Some d → total f xs ≡ f d + total f (without_delivery id xs)
unfolding IsStrictlySortedBy
taken-out id f [] d sorted found = absurd (none_some d found)
taken-out id f (x ∷ xs) d sorted found =
    elim (same_id x.id id) as
    (λ b. same_id x.id id ≡ b → cond b (Some x) (found_delivery id xs) ≡ Some d
    → f x + total f xs ≡ f d + total f (cond (not b) (x ∷ without_delivery id xs) (without_delivery id xs))) [
      | true ↦ λ e g.
          let same : x ≡ d = some_same x d g in
          let rest : without_delivery id xs ≡ xs = filter-all (λ (y : Delivery). not (same_id y.id id)) xs
          (each-weaker (λ (y : Delivery). delivery_cmp x y ≡ Less) (λ (y : Delivery). not (same_id y.id id) ≡ true)
          (λ y less. ap not (passes_once id x y less e)) xs sorted.0) in
          omega (arith, ap f same, ap (total f) rest)
      | false ↦ λ e g. omega (arith, taken-out id f xs d sorted.1 g)
    ] refl found

-- what waits is what an entry handles and what waits then
waits-apart : (case : CaseShape) (run : Run) (entry : Entry) (f : Delivery → ℕ) → IsStrictlySortedBy delivery_cmp run.unhandled
    → MayFollow case run entry
    → total f run.unhandled ≡ total f (handled_by run entry) + total f (still_unhandled entry run.unhandled)
waits-apart case run (Handle seq row id effects) f sorted may =
    let here : total f (handled_by run (Handle seq row id effects)) ≡ f may.delivery + 0 =
    ap (λ o. total f (option_to_list o)) may.waits in
    omega (arith, here, taken-out id f run.unhandled may.delivery sorted may.waits)
waits-apart case run _ f sorted may = omega arith

-- after a legal history what was made is what was handled and what waits
pub handled-total : (case : CaseShape) (f : Delivery → ℕ) (h : List Entry) → IsLegal case h
    → total f (run_of case.topology h).made ≡ total f (done_of case.topology h) + total f (run_of case.topology h).unhandled
handled-total case f = along_legal case
    (λ h. total f (run_of case.topology h).made ≡ total f (done_of case.topology h) + total f (run_of case.topology h).unhandled)
    (λ h entry legal may was.
    let run : Run = run_of case.topology h in
    let sent : List Delivery = deliveries_of case.topology run.made run.next entry in
    let ids = legal-ids case h legal in
    let sorted : IsStrictlySortedBy delivery_cmp run.unhandled = subst (IsStrictlySortedBy delivery_cmp) (sym ids.waiting)
    (IsStrictlySortedBy-filter delivery_cmp (is_left h) run.made ids.made.ascending) in
    let core : total f (run.made ++ sent) ≡ total f (done_of case.topology h ++ handled_by run entry)
    + total f (still_unhandled entry run.unhandled ++ sent) =
    omega (
      arith,
      was,
      waits-apart case run entry f sorted may,
      total-append f run.made sent,
      total-append f (done_of case.topology h) (handled_by run entry),
      total-append f (still_unhandled entry run.unhandled) sent,
    ) in
    ap (λ (r : Run). total f r.made) (run_of-push case.topology h entry) ∙ core
    ∙ sym (λ i. total f (done-push case.topology h entry i) + total f (run_of-push case.topology h entry i).unhandled))
    refl
