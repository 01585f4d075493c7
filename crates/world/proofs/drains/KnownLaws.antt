-- What a worker at work holds is what stands after the history.
use Rattle.std.proofs.Common.{◌≡◌, ◌<◌, ◌+◌, ℕ, Bool, true, false, cond, List, [], ◌∷◌, refl, sym, ◌∙◌, ap}
use Rattle.std.specs.Prelude.{Option, Some, None, IsSome, IfSome}
use Rattle.std.specs.List.{AllByRecursion, position_from}
use Rattle.std.specs.Option.{option_and_then}
use Rattle.mw_types.specs.declared.entry.Entry.{Entry}
use Rattle.mw_types.specs.declared.identity.RowName.{RowName}
use Rattle.key_intervals.specs.declared.bounds.Bounds.{Bounds}
use Rattle.key_intervals.specs.Intervals.{covers}
use Rattle.topology.specs.Shapes.{Shape, parts_of}
use Rattle.run_history.specs.Cases.{intervals_of}
use Rattle.run_history.specs.Fences.{interval_of, known}
use Rattle.run_history.specs.Runs.{row_of, run_of}
use Rattle.run_history.proofs.Known.{known-last}
use Rattle.list_lemmas.proofs.Lists.{none_some}
use Rattle.history_laws.proofs.MarkLaws.{covered}
use Rattle.book.specs.Books.{BookView}
use Rattle.book.specs.OwnDesks.{own_view, telling}
use Rattle.holdings.specs.Holding.{HeldView, IsHeld, held_at, held_on, row_held}
use Rattle.node.specs.Workers.{NodeView}
use Rattle.world.specs.drains.Turns.{HasLast, IsAtWork}
use Rattle.world.proofs.drains.TurnLaws.{current, interval-counted}

-- what a desk knows where it tells is known where its book tells
pub told-fact : {X : Type 0} (o : Option X) (Fact : Type 0) → IsSome o → IfSome (telling o) (λ _. Fact) → Fact
told-fact None Fact told if = absurd (cc)
told-fact (Some x) Fact told if = if

-- none passes where a search for a place finds none
position-none : {X : Type 0} (test : X → Bool) (n : ℕ) (xs : List X) → position_from test n xs ≡ None
    → AllByRecursion (λ x. test x ≡ true → ⊥) xs
position-none test n [] none = tt
position-none test n (x ∷ xs) none =
    elim (test x) as (λ b. cond b (Some n) (position_from test (n + 1) xs) ≡ None
    → (b ≡ true → ⊥) × AllByRecursion (λ y. test y ≡ true → ⊥) xs) [
      | true ↦ λ e. absurd (none_some n (sym e))
      | false ↦ λ e. ((λ t. cc), position-none test (n + 1) xs e)
    ] none

-- a row of a part that is there lies in an interval
pub interval-found : (shape : Shape) (name : RowName) → name.part < parts_of shape → (i : ℕ) × (interval_of shape name ≡ Some i)
interval-found shape name there = by_place (interval_of shape name) refl
  where
    by_place : (o : Option ℕ) → interval_of shape name ≡ o → (i : ℕ) × (interval_of shape name ≡ Some i)
    by_place None is = absurd (covered ⊥ shape name there (position-none (λ (b : Bounds). covers b name) 0 (intervals_of shape) is))
    by_place (Some i) is = (i, is)

-- a worker at work holds each row of a part that is there
pub held-there : (book : BookView) (node : NodeView) (name : RowName) → IsAtWork book node → name.part < parts_of book.case.topology
    → (held : HeldView) × (held_on book.case.topology node.held name ≡ Some held)
held-there book node name at there =
    let found = interval-found book.case.topology name there in
    let last : HasLast book.history node.held found.0 = at.each found.0 (interval-counted book.case.topology name found.0 found.1) in
    (last.held, ap (option_and_then (held_at node.held)) found.1 ∙ last.there)

-- what is held of the interval of a row is so by the desk
pub held-on-is : (book : BookView) (node : NodeView) (name : RowName) (held : HeldView) → IsAtWork book node
    → held_on book.case.topology node.held name ≡ Some held
    → (i : ℕ) × (interval_of book.case.topology name ≡ Some i) × IsHeld book.case (own_view book) i held
held-on-is book node name held at on = by_place (interval_of book.case.topology name) refl on
  where
    by_place : (o : Option ℕ) → interval_of book.case.topology name ≡ o → option_and_then (held_at node.held) o ≡ Some held
        → (i : ℕ) × (interval_of book.case.topology name ≡ Some i) × IsHeld book.case (own_view book) i held
    by_place None lies e = absurd (none_some held e)
    by_place (Some i) lies e = (i, lies, at.fits.held.each i held e)

-- a row as it is held is the row of the history, where that is told
pub row-known : (book : BookView) (node : NodeView) (name : RowName) (held : HeldView) → IsAtWork book node → IsSome book.rows
    → held_on book.case.topology node.held name ≡ Some held
    → row_held book.case.topology held name ≡ row_of book.case.topology (run_of book.case.topology book.history) name
row-known book node name held at told on =
    let is = held-on-is book node name held at on in
    let i = held.lease.interval in
    let each = told-fact book.rows ((n : RowName) → interval_of book.case.topology n ≡ Some i → row_held book.case.topology held n
    ≡ row_of book.case.topology (run_of book.case.topology (known i held.lease.seq book.history)) n) told is.2.rows.known in
    each name (is.1 ∙ ap Some (sym is.2.of_interval))
    ∙ ap (λ (h : List Entry). row_of book.case.topology (run_of book.case.topology h) name)
    (known-last i held.lease.seq book.history (current book node name held at on))
