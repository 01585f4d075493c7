-- What a round appends, by what each worker does in its turn of work.
use Rattle.std.proofs.Common.{◌≡◌, ◌∙◌, ◌<◌, ◌≤◌, ◌+◌, ◌*◌, ◌∷◌, ℕ, suc, List, [], length, ap, arith, length-append}
use Rattle.std.specs.Prelude.{slice_index_or}
use Rattle.row_keeper.specs.declared.keeper.Keeper.{Ghosts}
use Rattle.atomic_table.specs.Seated.{TableId}
use Rattle.run_history.specs.Cases.{CaseShape}
use Rattle.workers.specs.declared.mailbox.Mailbox.{Mailbox}
use Rattle.shared_book.specs.declared.seats.Note.{Note}
use Rattle.workers.specs.declared.orders.Orders.{Orders}
use Rattle.workers.specs.Crews.{AllHavePasses, AreWorkers, HasDone, HasWorkedOnce, HaveWorked, desk_of, spent, spent_by, stall_of}
use Rattle.workers.specs.declared.crew.Worker.{Worker}
use Rattle.workers.proofs.Going.{gone-worked}

-- what each spent, added up
spent-each : {K J : Type 0} {g : Ghosts K} (k : ℕ) (old new : List (Worker K J g)) → length new ≡ length old
    → ((i : ℕ) (d : Worker K J g) → i < length old → spent_by (slice_index_or new i d) ≤ spent_by (slice_index_or old i d) + k)
    → spent new ≤ spent old + k * length old
spent-each k [] [] same each = omega arith
spent-each k [] (y ∷ ys) same each = absurd cc
spent-each k (x ∷ xs) [] same each = absurd cc
spent-each {K} {J} {g} k (x ∷ xs) (y ∷ ys) same each =
    let first = each 0 x (omega arith) in
    let rest = spent-each k xs ys (omega (arith, same)) (λ i d below. each (suc i) d (omega (arith, below))) in
    more (spent xs) (spent ys) (spent_by x) (spent_by y) (length xs) first rest
  where
    more : (a b m n l : ℕ) → n ≤ m + k → b ≤ a + k * l → n + b ≤ m + a + k * suc l
    more a b m n l one two = grind arith

-- a turn of work spends at most 6,000
turn-spent : {K J : Type 0} {g : Ghosts K} (id : TableId) (case : CaseShape) (boxes : List (Mailbox (Note K g) J)) (was now : Worker K J g)
    → HasWorkedOnce id case boxes was now → spent_by now ≤ spent_by was + 6000
turn-spent id case boxes was now turn =
    let own = ap length turn.worked.own ∙ length-append (desk_of was).own turn.worked.added in
    let few = turn.worked.few in
    let stall = ap (λ (o : Orders). stall_of o.stall) turn.orders in
    omega (arith, own, few, stall)

-- so much is done in a round
pub done-round : {K J : Type 0} {g : Ghosts K} (id : TableId) (case : CaseShape) (boxes : List (Mailbox (Note K g) J)) (old new : List (Worker K J g))
    → HaveWorked id case boxes old new → HasDone (6000 * length old) old new
done-round id case boxes old new worked = record {
  long = worked.long;
  each = λ at d below.
      let turn = worked.each at d below in
      record {
        most = 6000;
        went_on = gone-worked 6000 (desk_of (slice_index_or old at d)) (desk_of (slice_index_or new at d)) turn.worked;
        number = turn.number;
      };
  few = spent-each 6000 old new worked.long (λ at d below.
      turn-spent id case boxes (slice_index_or old at d) (slice_index_or new at d) (worked.each at d below));
}

-- and the workers are those that they were
pub workers-round : {K J : Type 0} {g : Ghosts K} (id : TableId) (case : CaseShape) (boxes : List (Mailbox (Note K g) J)) (old new : List (Worker K J g))
    → HaveWorked id case boxes old new → AreWorkers id case old → AreWorkers id case new
workers-round id case boxes old new worked are = record {
  each = λ at d below.
      let inside : at < length old = (let long = worked.long in omega (arith, below, long)) in (worked.each at d inside).worker;
  numbered = λ at d below.
      let inside : at < length old = (let long = worked.long in omega (arith, below, long)) in
      (worked.each at d inside).number ∙ are.numbered at d inside;
}

-- with passes of the same mailboxes
pub passes-round : {K J : Type 0} {g : Ghosts K} (id : TableId) (case : CaseShape) (boxes : List (Mailbox (Note K g) J)) (old new : List (Worker K J g))
    → HaveWorked id case boxes old new → AllHavePasses case boxes new
passes-round id case boxes old new worked at d below =
    let inside : at < length old = (let long = worked.long in omega (arith, below, long)) in (worked.each at d inside).passes
