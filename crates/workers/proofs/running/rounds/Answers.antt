use Rattle.std.proofs.Common.{◌≡◌, ◌⊎◌, ◌∙◌, ◌≤◌, ◌+◌, [], ℕ, List, inl, length, refl, sym, ap, subst, arith, append-nil}
use Rattle.std.specs.Prelude.{IfNone, IfSome, true}
use Rattle.run_history.specs.Cases.{CaseShape}
use Rattle.run_history.specs.Fences.{Begins}
use Rattle.book.specs.Books.{BookView, core_of}
use Rattle.book.specs.OwnDesks.{telling}
use Rattle.mw_types.specs.declared.entry.Entry.{Entry}
use Rattle.node.specs.Answers.{refusal_of}
use Rattle.plans.specs.declared.action.Action.{Action}
use Rattle.shared_book.specs.Opening.{blank, newborn}
use Rattle.shared_book.specs.declared.views.Basis.{Basis}
use Rattle.workers.specs.Rounds.{HasInjectedAll, IsDamageAt, claims_in, first_claims, rounds_room}
use Rattle.workers.proofs.Closed.{closed-claimed, closed-damaged, closed-faults, closed-first, closed-full, closed-grown, closed-injected, closed-keeper, closed-limit, closed-plain, closed-room, closed-tells, if-some}
use Rattle.workers.proofs.running.rounds.Goals as goal

-- the seat has all numbers
pub close-requires-clause-all : goal.close-requires-clause-all
close-requires-clause-all g c n below =
    let run = c.shared_rounds-fault.ensures.run in
    let seats = ap (λ (b : Basis). b.seats) run.basis in
    run.numbers n (omega (arith, below, seats))

pub returns-in-Err-clause-grown : goal.returns-in-Err-clause-grown
returns-in-Err-clause-grown g c =
    ([], append-nil c.args.book.history ∙ sym (ap (λ (b : BookView). b.history) c.in-Err.ensures.book))

pub returns-in-Err-clause-first : goal.returns-in-Err-clause-first
returns-in-Err-clause-first g c none =
    let claims = first_claims c.args.book.case c.args.workers in
    inl (subst (λ (h : List Entry). Begins h claims) (sym (ap (λ (b : BookView). b.history) c.in-Err.ensures.book ∙ none)) (claims, refl))

-- the book is that of the seat which took in those of all workers
pub returns-in-Ok : goal.returns-in-Ok
returns-in-Ok g c =
    let its = sym c.requires.case in
    let history = c.close.result.history in
    let workers = c.args.workers in
    let fault = c.shared_rounds-fault.result in
    let acts = c.actions-actions.ensures.actions in
    let is = c.in-Ok.ensures.view
    ∙ ap (λ (s : CaseShape). newborn (blank s (c.args.workers + 1) true) (core_of c.args.book)) c.requires.case in
    record {
      case = c.close.ensures.case ∙ c.in-Ok.ensures.case;
      limit = closed-limit c.args.case.now c.args.workers (rounds_room c.args.workers c.args.rounds (length c.actions-actions.result.now)) (core_of c.args.book)
          (core_of c.close.result) c.in-Ok.seat.place.me.0 c.shared_rounds-fault.new.seat.place.me.0 c.shared_rounds-fault.result is
          c.shared_rounds-fault.ensures.run c.close.ensures.closed;
      tells = closed-tells c.args.case.now c.args.workers (rounds_room c.args.workers c.args.rounds (length c.actions-actions.result.now)) (core_of c.args.book)
          (core_of c.close.result) c.in-Ok.seat.place.me.0 c.shared_rounds-fault.new.seat.place.me.0 c.shared_rounds-fault.result is
          c.shared_rounds-fault.ensures.run c.close.ensures.closed;
      grown = closed-grown c.args.case.now c.args.workers (rounds_room c.args.workers c.args.rounds (length c.actions-actions.result.now)) (core_of c.args.book)
          (core_of c.close.result) c.in-Ok.seat.place.me.0 c.shared_rounds-fault.new.seat.place.me.0 c.shared_rounds-fault.result is
          c.shared_rounds-fault.ensures.run c.close.ensures.closed;
      room = subst (λ (l : List Action). length history ≤ length c.args.book.history + rounds_room workers c.args.rounds (length l)) acts
          (closed-room c.args.case.now c.args.workers (rounds_room c.args.workers c.args.rounds (length c.actions-actions.result.now)) (core_of c.args.book)
          (core_of c.close.result) c.in-Ok.seat.place.me.0 c.shared_rounds-fault.new.seat.place.me.0 c.shared_rounds-fault.result is
          c.shared_rounds-fault.ensures.run c.close.ensures.closed);
      faults = closed-faults c.args.case.now c.args.workers (rounds_room c.args.workers c.args.rounds (length c.actions-actions.result.now)) (core_of c.args.book)
          (core_of c.close.result) c.in-Ok.seat.place.me.0 c.shared_rounds-fault.new.seat.place.me.0 c.shared_rounds-fault.result is
          c.shared_rounds-fault.ensures.run c.close.ensures.closed;
      first = subst (λ (s : CaseShape). c.args.book.history ≡ [] → Begins history (first_claims s workers)
          ⊎ Begins (first_claims s workers) history) its (closed-first c.args.case.now c.args.workers (rounds_room c.args.workers c.args.rounds (length c.actions-actions.result.now)) (core_of c.args.book)
          (core_of c.close.result) c.in-Ok.seat.place.me.0 c.shared_rounds-fault.new.seat.place.me.0 c.shared_rounds-fault.result is
          c.shared_rounds-fault.ensures.run c.close.ensures.closed);
      claimed = subst (λ (s : CaseShape). c.args.book.history ≡ [] → IfNone fault (Begins (first_claims s workers) history)) its
          (closed-claimed c.args.case.now c.args.workers (rounds_room c.args.workers c.args.rounds (length c.actions-actions.result.now)) (core_of c.args.book)
          (core_of c.close.result) c.in-Ok.seat.place.me.0 c.shared_rounds-fault.new.seat.place.me.0 c.shared_rounds-fault.result is
          c.shared_rounds-fault.ensures.run c.close.ensures.closed);
      plain = λ none empty. subst (λ (s : CaseShape). IfNone fault (claims_in history ≡ first_claims s workers)) its
          (closed-plain c.args.case.now c.args.workers (rounds_room c.args.workers c.args.rounds (length c.actions-actions.result.now)) (core_of c.args.book)
          (core_of c.close.result) c.in-Ok.seat.place.me.0 c.shared_rounds-fault.new.seat.place.me.0 c.shared_rounds-fault.result is
          c.shared_rounds-fault.ensures.run c.close.ensures.closed none c.args.rounds (c.shared_rounds-fault.ensures.quiet (acts ∙ empty)));
      injected = if-some (c.args.book.history ≡ [] → c.args.actions.now ≡ [] → IfNone fault
          (HasInjectedAll c.args.book.case c.args.rounds history)) c.args.book.rows
          (λ some none empty. subst (λ (s : CaseShape). IfNone fault (HasInjectedAll s c.args.rounds history)) its
          (closed-injected c.args.case.now c.args.workers (rounds_room c.args.workers c.args.rounds (length c.actions-actions.result.now)) (core_of c.args.book)
          (core_of c.close.result) c.in-Ok.seat.place.me.0 c.shared_rounds-fault.new.seat.place.me.0 c.shared_rounds-fault.result is
          c.shared_rounds-fault.ensures.run c.close.ensures.closed none c.args.rounds some (c.shared_rounds-fault.ensures.quiet (acts ∙ empty))));
      keeper_fault = closed-keeper c.args.case.now c.args.workers (rounds_room c.args.workers c.args.rounds (length c.actions-actions.result.now)) (core_of c.args.book)
          (core_of c.close.result) c.in-Ok.seat.place.me.0 c.shared_rounds-fault.new.seat.place.me.0 c.shared_rounds-fault.result is
          c.shared_rounds-fault.ensures.run c.close.ensures.closed;
      full = closed-full c.args.case.now c.args.workers (rounds_room c.args.workers c.args.rounds (length c.actions-actions.result.now)) (core_of c.args.book)
          (core_of c.close.result) c.in-Ok.seat.place.me.0 c.shared_rounds-fault.new.seat.place.me.0 c.shared_rounds-fault.result is
          c.shared_rounds-fault.ensures.run c.close.ensures.closed;
      damaged = subst (λ (s : CaseShape). IfSome fault (λ why. (count : ℕ) × (count ≤ length history)
          × IsDamageAt s (telling c.args.book.rows) count (refusal_of why))) its (closed-damaged c.args.case.now c.args.workers (rounds_room c.args.workers c.args.rounds (length c.actions-actions.result.now)) (core_of c.args.book)
          (core_of c.close.result) c.in-Ok.seat.place.me.0 c.shared_rounds-fault.new.seat.place.me.0 c.shared_rounds-fault.result is
          c.shared_rounds-fault.ensures.run c.close.ensures.closed);
    }
