-- What rounds hand back, by what the seat knew that closed the book.
use Rattle.std.proofs.Common.{inl, inr, ◌≡◌, ◌⊎◌, ◌∙◌, ◌≤◌, ◌+◌, ℕ, List, [], length, refl, sym, ap, subst, ⊎_elim, arith, true}
use Rattle.std.specs.Prelude.{IfNone, IfSome, IsSome, None, Option, Some}
use Rattle.std.specs.Option.{is_some}
use Rattle.mw_types.specs.Causes.{Rose}
use Rattle.mw_types.specs.declared.entry.Entry.{Entry}
use Rattle.run_history.specs.Cases.{CaseShape}
use Rattle.run_history.specs.Fences.{Begins}
use Rattle.run_history.proofs.Beginnings.{Begins-length}
use Rattle.book.specs.Books.{CoreView}
use Rattle.book.specs.OwnDesks.{telling}
use Rattle.node.specs.Answers.{refusal_of}
use Rattle.node.specs.declared.outcome.NodeFault.{NodeFault}
use Rattle.node.specs.declared.outcome.NodeFault.TheVariants as faults
use Rattle.shared_book.specs.Opening.{basis_of, blank, newborn}
use Rattle.shared_book.specs.Turns.{IsClosed}
use Rattle.shared_book.specs.declared.views.Basis.{Basis}
use Rattle.shared_book.specs.declared.views.View.{View}
use Rattle.workers.specs.Rounds.{HasInjectedAll, IsDamageAt, claims_in, first_claims}
use Rattle.workers.specs.Runs.{HasEndCause, HasRun, HasRunFirst, HasRunPlain}
use Rattle.workers.proofs.Ending.{closed-length, first-all, first-some, tells-same}
use Rattle.workers.proofs.Faults.{none-some}
use Rattle.workers.proofs.Silence.{quiet-claims, quiet-injected}

-- what is so if there is a fault, where there is none
none-there : {X : Type 0} (P : X → Type 0) (o : Option X) (x : X) → o ≡ Some x → IfSome o P → P x
none-there P o x is have = subst (λ p. IfSome p P) is have

-- a book is told of as another is
told-some : {X : Type 0} (rows : Option X) → IsSome rows → IsSome (telling rows)
told-some None some = absurd cc
told-some (Some x) some = refl

pub if-some : {X : Type 0} (P : Type 0) (o : Option X) → (IsSome o → P) → IfSome o (λ _. P)
if-some P None have = tt
if-some P (Some x) have = have refl

if-none : {X : Type 0} (P : Type 0) (o : Option X) → (o ≡ None → P) → IfNone o P
if-none P None have = have refl
if-none P (Some x) have = tt

if-fault : {X : Type 0} (P : X → Type 0) (o : Option X) → ((x : X) → o ≡ Some x → P x) → IfSome o P
if-fault P None have = tt
if-fault P (Some x) have = have x refl

module _ (case : CaseShape) (workers most : ℕ) (book core : CoreView) (old v : View) (fault : Option NodeFault)
    (is : old ≡ newborn (blank case (workers + 1) true) book) (run : HasRun case workers most old v fault) (closed : IsClosed v core) where
  basis_same : v.basis ≡ basis_of (blank case (workers + 1) true) book
  basis_same = run.basis ∙ ap (λ (w : View). w.basis) is

  begin_same : v.basis.begin ≡ length book.history
  begin_same = ap (λ (b : Basis). b.begin) basis_same

  pub closed-limit : core.limit ≡ book.limit
  closed-limit = closed.core.limit ∙ ap (λ (b : Basis). b.limit) basis_same

  told_same : v.basis.told ≡ telling book.rows
  told_same = ap (λ (b : Basis). b.told) basis_same

  pub closed-tells : is_some core.rows ≡ is_some book.rows
  closed-tells = tells-same core.rows book.rows (closed.core.told ∙ told_same)

  grown_front : Begins book.history v.front
  grown_front = subst (λ (h : List Entry). Begins h v.front) (ap (λ (w : View). w.front) is) run.seen

  pub closed-grown : Begins book.history core.history
  closed-grown = subst (λ (h : List Entry). Begins book.history h) (sym closed.core.whole) grown_front

  pub closed-room : length core.history ≤ length book.history + most
  closed-room =
      let long = Begins-length book.history v.front grown_front in
      let many = closed-length v core closed (omega (arith, long, begin_same)) in
      let few = run.few in
      let none = ap (λ (w : View). length w.own) is in
      let whole = ap length closed.core.whole in
      omega (arith, many, few, none, whole, begin_same)

  pub closed-faults : book.faults ≤ core.faults
  closed-faults = let enough = closed.core.enough in let same = ap (λ (b : Basis). b.count) basis_same in omega (arith, enough, same)

  empty : book.history ≡ [] → v.basis.begin ≡ 0
  empty none = begin_same ∙ ap length none

  all_first : book.history ≡ [] → HasRunFirst workers case v → Begins (first_claims case workers) core.history
  all_first none first = subst (λ (h : List Entry). Begins (first_claims case workers) h) (sym closed.core.whole)
      (first-all case workers v core closed (empty none) first)

  pub closed-first : book.history ≡ [] → Begins core.history (first_claims case workers) ⊎ Begins (first_claims case workers) core.history
  closed-first none = ⊎_elim
      (λ all. inr (all_first none all))
      (λ some. inl (subst (λ (h : List Entry). Begins h (first_claims case workers)) (sym closed.core.whole)
      (first-some case workers v core closed (empty none) some.1)))
      run.first

  no_fault : fault ≡ None → IsSome fault → HasRunFirst workers case v
  no_fault none some = absurd (none-some fault none some)

  pub closed-claimed : book.history ≡ [] → IfNone fault (Begins (first_claims case workers) core.history)
  closed-claimed none = if-none (Begins (first_claims case workers) core.history) fault
      (λ healthy. all_first none (⊎_elim (λ all. all) (λ some. no_fault healthy some.0) run.first))

  pub closed-plain : book.history ≡ [] → (rounds : ℕ) → IfNone fault (HasRunPlain workers rounds case v)
      → IfNone fault (claims_in core.history ≡ first_claims case workers)
  closed-plain none rounds plain = if-none (claims_in core.history ≡ first_claims case workers) fault
      (λ healthy. ap claims_in closed.core.whole ∙ quiet-claims case workers rounds v core closed (empty none)
      (subst (λ (o : Option NodeFault). IfNone o (HasRunPlain workers rounds case v)) healthy plain))

  pub closed-injected : book.history ≡ [] → (rounds : ℕ) → IsSome book.rows → IfNone fault (HasRunPlain workers rounds case v)
      → IfNone fault (HasInjectedAll case rounds core.history)
  closed-injected none rounds some plain = if-none (HasInjectedAll case rounds core.history) fault
      (λ healthy. subst (λ (h : List Entry). HasInjectedAll case rounds h) (sym closed.core.whole)
      (quiet-injected case workers rounds v core closed (empty none)
      (subst (λ (o : Option NodeFault). IfNone o (HasRunPlain workers rounds case v)) healthy plain)
      (subst (λ (o : Option Unit). IsSome o) (sym told_same) (told-some book.rows some))))

  cause : (why : NodeFault) → fault ≡ Some why → HasEndCause v why
  cause why failed = none-there (HasEndCause v) fault why failed run.cause

  pub closed-keeper : fault ≡ Some faults.KeeperFault → Rose book.faults core.faults
  closed-keeper failed = subst (λ (n : ℕ). Rose n core.faults) (ap (λ (b : Basis). b.count) basis_same)
      (closed.failed ((cause faults.KeeperFault failed).keeper refl))

  pub closed-full : fault ≡ Some faults.HistoryFull → length core.history ≡ core.limit
  closed-full failed =
      let full = (cause faults.HistoryFull failed).full refl in
      let few = closed.core.lawful.few in
      let limit = closed.core.limit in
      let whole = ap length closed.core.whole in
      omega (arith, full, few, limit, whole)

  pub closed-damaged : IfSome fault (λ why. (count : ℕ) × (count ≤ length core.history)
      × IsDamageAt case (telling book.rows) count (refusal_of why))
  closed-damaged = if-fault (λ why. (count : ℕ) × (count ≤ length core.history)
      × IsDamageAt case (telling book.rows) count (refusal_of why)) fault
      (λ why failed.
      let it = cause why failed in (
        it.count,
        (let seen = it.seen in let whole = ap length closed.core.whole in omega (arith, seen, whole)),
        subst (λ (t : Option Unit). IsDamageAt case t it.count (refusal_of why)) told_same
            (subst (λ (c : CaseShape). IsDamageAt c v.basis.told it.count (refusal_of why)) (ap (λ (b : Basis). b.case) basis_same)
            it.damaged),
      ))
