-- Workers that are taken in, from the last one on.
use Rattle.std.proofs.Common.{◌≡◌, ◌∙◌, ◌<◌, ◌++◌, ◌∷◌, ℕ, suc, List, [], length, refl, sym, ap, subst, arith, append-nil, append_assoc, length-append}
use Rattle.std.specs.Prelude.{IsSome, None, Option, slice_index_or}
use Rattle.std.proofs.lemmas.List.{get_or_at}
use Rattle.row_keeper.specs.declared.keeper.Keeper.{Ghosts}
use Rattle.atomic_table.specs.Seated.{TableId}
use Rattle.run_history.specs.Cases.{CaseShape}
use Rattle.run_history.specs.Fences.{Begins}
use Rattle.node.specs.declared.outcome.NodeFault.{NodeFault}
use Rattle.shared_book.specs.Joins.{joined}
use Rattle.shared_book.specs.declared.views.View.{View}
use Rattle.workers.specs.Crews.{AreWorkers, IsWorker, desk_of}
use Rattle.workers.specs.Runs.{HasTakenIn, IsFirstFault, IsJoined}
use Rattle.workers.specs.declared.crew.Worker.{Worker}
use Rattle.workers.proofs.Faults.{first-more}
use Rattle.workers.proofs.Taken.{taken-more, taken-not}

-- nobody was taken in
pub joined-not : {K J : Type 0} {g : Ghosts K} (all : List (Worker K J g)) (v : View) → IsJoined all all v v None
joined-not all v = record {
  taken = [];
  whole = sym (append-nil all);
  has = taken-not v (length all);
  first = refl;
}

-- the last one that is left is at its place among all
last-there : {W : Type 0} (all left rest taken : List W) (worker d : W) → all ≡ left ++ taken → left ≡ rest ++ worker ∷ []
    → slice_index_or all (length rest) d ≡ worker
last-there {W} all left rest taken worker d whole last =
    ap (λ (l : List W). slice_index_or l (length rest) d)
    (whole ∙ ap (λ (l : List W). l ++ taken) last ∙ append_assoc rest (worker ∷ []) taken)
    ∙ get_or_at rest worker taken d (length rest) refl

-- a fact of each worker holds of the last one that is left
last-worker : {K J : Type 0} {g : Ghosts K} (id : TableId) (case : CaseShape) (all left rest taken : List (Worker K J g)) (worker : Worker K J g)
    → all ≡ left ++ taken → left ≡ rest ++ worker ∷ [] → AreWorkers id case all
    → IsWorker id case worker × (worker.node.number ≡ length rest)
last-worker {K} {J} {g} id case all left rest taken worker whole last are =
    let there = last-there all left rest taken worker worker whole last in
    let long = ap length whole ∙ length-append left taken in
    let left_long = ap length last ∙ length-append rest (worker ∷ []) in
    let within : length rest < length all = omega (arith, long, left_long) in (
      subst (λ (w : Worker K J g). IsWorker id case w) there (are.each (length rest) worker within),
      subst (λ (w : Worker K J g). w.node.number ≡ length rest) there (are.numbered (length rest) worker within),
    )

-- and is at its seat
pub joined-worker : {K J : Type 0} {g : Ghosts K} (id : TableId) (case : CaseShape) (all left rest : List (Worker K J g)) (worker : Worker K J g)
    (old mid : View) (fault : Option NodeFault) → left ≡ rest ++ worker ∷ [] → AreWorkers id case all → IsJoined all left old mid fault
    → IsWorker id case worker
joined-worker id case all left rest worker old mid fault last are has =
    (last-worker id case all left rest has.taken worker has.whole last are).0

-- the last one that is left is taken in
pub joined-more : {K J : Type 0} {g : Ghosts K} (id : TableId) (case : CaseShape) (all left rest : List (Worker K J g)) (worker : Worker K J g)
    (old mid new : View) (fault now : Option NodeFault) → left ≡ rest ++ worker ∷ [] → AreWorkers id case all
    → new ≡ joined mid worker.seat.place.me.0 → Begins mid.front new.front → Begins (desk_of worker).seen new.front
    → (IsSome worker.fault → now ≡ worker.fault) → (worker.fault ≡ None → now ≡ fault)
    → IsJoined all left old mid fault → IsJoined all rest old new now
joined-more {K} {J} {g} id case all left rest worker old mid new fault now last are is seen met some none has = record {
  taken = worker ∷ has.taken;
  whole = has.whole ∙ ap (λ (l : List (Worker K J g)). l ++ has.taken) last ∙ append_assoc rest (worker ∷ []) has.taken;
  has = taken-more old mid new (length rest) worker has.taken
      (subst (λ (n : ℕ). HasTakenIn old n has.taken mid) long has.has) is (mine.0.numbers ∙ ap (λ (n : ℕ). n ∷ []) mine.1) seen met;
  first = first-more worker has.taken fault now has.first some none;
}
  where
    mine : IsWorker id case worker × (worker.node.number ≡ length rest)
    mine = last-worker id case all left rest has.taken worker has.whole last are

    long : length left ≡ suc (length rest)
    long = let whole = ap length last ∙ length-append rest (worker ∷ []) in omega (arith, whole)

-- all are taken in
pub joined-all : {K J : Type 0} {g : Ghosts K} (all left : List (Worker K J g)) (old new : View) (fault : Option NodeFault) → left ≡ []
    → IsJoined all left old new fault → HasTakenIn old 0 all new × IsFirstFault all fault
joined-all {K} {J} {g} all left old new fault none has = (
  subst (λ (n : ℕ). HasTakenIn old n all new) (ap length none)
      (subst (λ (l : List (Worker K J g)). HasTakenIn old (length left) l new) same has.has),
  subst (λ (l : List (Worker K J g)). IsFirstFault l fault) same has.first,
)
  where
    same : has.taken ≡ all
    same = sym (has.whole ∙ ap (λ (l : List (Worker K J g)). l ++ has.taken) none)
