use Rattle.std.proofs.Common.{◌≡◌, ◌∙◌, ◌∷◌, ◌++◌, [], ℕ, zero, suc, List, length, take, refl, sym, ap, subst, arith}
use Rattle.std.specs.Prelude.{All}
use Rattle.workers.specs.declared.mailbox.Mailbox.{Mailbox}
use Rattle.run_history.specs.Cases.{intervals_of}
use Rattle.shared_book.specs.declared.seats.Note.{Note}
use Rattle.workers.specs.Passing.{ArePasses}
use Rattle.workers.specs.Boxes.{HavePasses}
use Rattle.workers.specs.Rounds.{rounds_room}
use Rattle.workers.specs.Runs.{HasTakenIn, IsFirstFault, IsHired, passes_in}
use Rattle.workers.specs.declared.crew.Worker.{Worker}
use Rattle.workers.proofs.Hiring.{hired-calm, passes-have}
use Rattle.workers.proofs.RunLaws.{run-none, run-of}
use Rattle.workers.proofs.Silence.{quiet-of}
use Rattle.workers.proofs.running.shared_rounds.Goals as goal

-- who was hired has no fault, has appended nothing and does not stall
pub all_rounds-requires-clause-healthy : goal.all_rounds-requires-clause-healthy
all_rounds-requires-clause-healthy g c κs within k d below = ((subst (λ (l : List (Worker g.row.K.Denot g.row.J.Denot g.K.Keeper)). All (IsHired c.args.seat.now.place.me.0) l)
    (sym c.as_mut_slice-all.ensures.value) c.hire_all.ensures.hired) k d below).fault

pub all_rounds-requires-clause-fresh : goal.all_rounds-requires-clause-fresh
all_rounds-requires-clause-fresh g c κs within k d below = ((subst (λ (l : List (Worker g.row.K.Denot g.row.J.Denot g.K.Keeper)). All (IsHired c.args.seat.now.place.me.0) l)
    (sym c.as_mut_slice-all.ensures.value) c.hire_all.ensures.hired) k d below).own

pub all_rounds-requires-clause-calm : goal.all_rounds-requires-clause-calm
all_rounds-requires-clause-calm g c κs within = hired-calm c.args.seat.now.place.me.0 c.as_mut_slice-all.result.now
    (subst (λ (l : List (Worker g.row.K.Denot g.row.J.Denot g.K.Keeper)). All (IsHired c.args.seat.now.place.me.0) l)
    (sym c.as_mut_slice-all.ensures.value) c.hire_all.ensures.hired)

-- and has a pass of each mailbox
pub all_rounds-requires-clause-passes : goal.all_rounds-requires-clause-passes
all_rounds-requires-clause-passes g c κs within =
    let n = length (intervals_of c.args.case.now.topology) in
    let have : HavePasses n c.in-Ok.boxes.items c.in-Ok.passes.items =
    subst (λ (k : ℕ). HavePasses k c.in-Ok.boxes.items c.in-Ok.passes.items) c.intervals_in-intervals.ensures.all
    c.in-Ok.ensures.passes in
    subst (λ (b : List (Mailbox (Note g.row.K.Denot g.K.Keeper) g.row.J.Denot)).
    All (λ (w : Worker g.row.K.Denot g.row.J.Denot g.K.Keeper). ArePasses n b w.passes) c.as_mut_slice-all.result.now)
    (sym c.as_slice-boxes.ensures.value)
    (passes-have n c.in-Ok.boxes.items c.as_mut_slice-all.result.now c.in-Ok.passes.items
    (ap (λ (l : List (Worker g.row.K.Denot g.row.J.Denot g.K.Keeper)). passes_in l) c.as_mut_slice-all.ensures.value
    ∙ c.hire_all.ensures.passes) have)

-- no memory was there
pub returns-in_default-clause-run : goal.returns-in_default-clause-run
returns-in_default-clause-run g c =
    run-none c.args.case.now c.args.workers (rounds_room c.args.workers c.args.rounds (length c.args.actions.now))
    c.args.seat.now.place.me.0 c.requires.seats c.requires.numbers c.requires.fresh

pub returns-then-is_err-clause-run : goal.returns-then-is_err-clause-run
returns-then-is_err-clause-run g c =
    run-none c.args.case.now c.args.workers (rounds_room c.args.workers c.args.rounds (length c.args.actions.now))
    c.args.seat.now.place.me.0 c.requires.seats c.requires.numbers c.requires.fresh

-- a list that was lent and came back
take-front : {W : Type 0} (n : ℕ) (xs ys : List W) → length xs ≡ n → take n (xs ++ ys) ≡ xs
take-front zero [] ys same = refl
take-front zero (x ∷ xs) ys same = absurd (omega (arith, same))
take-front (suc n) [] ys same = absurd (omega (arith, same))
take-front (suc n) (x ∷ xs) ys same = ap (λ l. x ∷ l) (take-front n xs ys (omega (arith, same)))

-- the workers did their rounds
pub returns-clause-run : goal.returns-clause-run
returns-clause-run g c =
    run-of c.args.shared.now.table.shared.table_id c.args.case.now c.args.workers c.args.rounds (length c.args.actions.now)
    c.args.seat.now.place.me.0 c.hire_all.new.seat.place.me.0 c.join_all.new.seat.place.me.0 c.as_mut_slice-all.result.now
    c.all_rounds.new.crew c.join_all.result c.requires.some (ap length c.as_mut_slice-all.ensures.value ∙ c.hire_all.ensures.many ∙ c.in-Ok.ensures.many) c.hire_all.ensures.dealt
    (c.hire_all.ensures.numbers ∙ ap (λ (n : ℕ). n ∷ []) c.in-Ok.ensures.many) c.requires.seats c.requires.seated.here.case
    c.requires.fresh (subst (λ (l : List (Worker g.row.K.Denot g.row.J.Denot g.K.Keeper)). All (IsHired c.args.seat.now.place.me.0) l) (sym c.as_mut_slice-all.ensures.value) c.hire_all.ensures.hired) c.all_rounds.ensures.done c.all_rounds.ensures.workers (subst (λ (l : List (Worker g.row.K.Denot g.row.J.Denot g.K.Keeper)).
    HasTakenIn c.hire_all.new.seat.place.me.0 0 l c.join_all.new.seat.place.me.0)
    (take-front c.hire_all.new.crew.len c.all_rounds.new.crew _ (let long = c.all_rounds.ensures.done.long in
    let whole = ap length c.as_mut_slice-all.ensures.value in let ok = c.hire_all.new.crew.ok.0 in omega (arith, long, whole, ok)))
    c.join_all.ensures.taken)
    (subst (λ (l : List (Worker g.row.K.Denot g.row.J.Denot g.K.Keeper)).
    IsFirstFault l c.join_all.result)
    (take-front c.hire_all.new.crew.len c.all_rounds.new.crew _ (let long = c.all_rounds.ensures.done.long in
    let whole = ap length c.as_mut_slice-all.ensures.value in let ok = c.hire_all.new.crew.ok.0 in omega (arith, long, whole, ok)))
    c.join_all.ensures.fault) c.all_rounds.ensures.first

pub returns-clause-quiet : goal.returns-clause-quiet
returns-clause-quiet g c none =
    quiet-of c.args.case.now c.args.workers c.args.rounds (rounds_room (length c.as_mut_slice-all.result.now) c.args.rounds
    (length c.args.actions.now)) c.args.seat.now.place.me.0 c.hire_all.new.seat.place.me.0 c.join_all.new.seat.place.me.0
    c.as_mut_slice-all.result.now c.all_rounds.new.crew c.join_all.result c.requires.some
    (ap length c.as_mut_slice-all.ensures.value ∙ c.hire_all.ensures.many ∙ c.in-Ok.ensures.many) c.hire_all.ensures.dealt c.requires.fresh (subst (λ (l : List (Worker g.row.K.Denot g.row.J.Denot g.K.Keeper)). All (IsHired c.args.seat.now.place.me.0) l) (sym c.as_mut_slice-all.ensures.value) c.hire_all.ensures.hired)
    c.all_rounds.ensures.done (subst (λ (l : List (Worker g.row.K.Denot g.row.J.Denot g.K.Keeper)).
    HasTakenIn c.hire_all.new.seat.place.me.0 0 l c.join_all.new.seat.place.me.0)
    (take-front c.hire_all.new.crew.len c.all_rounds.new.crew _ (let long = c.all_rounds.ensures.done.long in
    let whole = ap length c.as_mut_slice-all.ensures.value in let ok = c.hire_all.new.crew.ok.0 in omega (arith, long, whole, ok)))
    c.join_all.ensures.taken) (subst (λ (l : List (Worker g.row.K.Denot g.row.J.Denot g.K.Keeper)).
    IsFirstFault l c.join_all.result)
    (take-front c.hire_all.new.crew.len c.all_rounds.new.crew _ (let long = c.all_rounds.ensures.done.long in
    let whole = ap length c.as_mut_slice-all.ensures.value in let ok = c.hire_all.new.crew.ok.0 in omega (arith, long, whole, ok)))
    c.join_all.ensures.fault) (c.all_rounds.ensures.quiet none)
