use Rattle.std.proofs.Common.{◌≡◌, ◌+◌, ◌*◌, ◌∙◌, ◌≤◌, ℕ, List, length, arith, inl, inr, ap, subst, suc}
use Rattle.row_keeper.specs.declared.keeper.Keeper.{Ghosts}
use Rattle.plans.specs.declared.action.Action.{Action}
use Rattle.run_history.specs.Cases.{intervals_of}
use Rattle.workers.specs.Passing.{ArePasses}
use Rattle.workers.specs.Actions.{acted, acted_to}
use Rattle.workers.specs.Claims.{AreQuiet}
use Rattle.workers.specs.Crews.{HasDone}
use Rattle.workers.specs.declared.crew.Worker.{Worker}
use Rattle.workers.proofs.Acted.{acted-empty, acted-few, acted-next, room-first, room-next, room-within}
use Rattle.workers.proofs.Beginning.{begun-done}
use Rattle.workers.proofs.Doing.{done-less, done-then, keeps-all}
use Rattle.workers.proofs.Faults.{faulty-healthy}
use Rattle.workers.proofs.Plainly.{quiet-kept, quiet-round, quiet-start}
use Rattle.workers.proofs.running.all_rounds.Goals as goal

-- the claims, so many rounds, and the actions before one more, within what all rounds may append
prepared : {K J : Type 0} {g : Ghosts K} (old mid new : List (Worker K J g)) (actions : List Action) (round rounds : ℕ) → round ≤ rounds
    → HasDone (61 + (61 * acted_to round actions + 6000 * length old * round)) old mid → HasDone (61 * acted round actions) mid new
    → HasDone (61 * (1 + length actions) + 6000 * length old * rounds) old new
prepared old mid new actions round rounds within before done =
    let next = acted-next round actions in
    let few = acted-few (suc round) actions in
    let room = room-within (acted_to (suc round) actions) (length old) round rounds (length actions) few within in
    done-then (61 + (61 * acted_to round actions + 6000 * length old * round)) (61 * acted round actions)
    (61 * (1 + length actions) + 6000 * length old * rounds) old mid new (omega (arith, next, room)) before done

-- the claims, and one round more
rounded : {K J : Type 0} {g : Ghosts K} (old mid ready new : List (Worker K J g)) (actions : List Action) (round : ℕ)
    → HasDone (61 + (61 * acted_to round actions + 6000 * length old * round)) old mid → HasDone (61 * acted round actions) mid ready
    → HasDone (6000 * length ready) ready new
    → HasDone (61 + (61 * acted_to (round + 1) actions + 6000 * length old * (round + 1))) old new
rounded old mid ready new actions round before prepared done =
    let long = prepared.long ∙ before.long in
    let one : round + 1 ≡ suc round = omega arith in
    let next : acted_to (round + 1) actions ≡ acted_to round actions + acted round actions =
    ap (λ (n : ℕ). acted_to n actions) one ∙ acted-next round actions in
    done-then (61 + (61 * acted_to round actions + 6000 * length old * round) + 61 * acted round actions) (6000 * length ready)
    (61 + (61 * acted_to (round + 1) actions + 6000 * length old * (round + 1))) old ready new
    (room-next (acted_to round actions) (acted round actions) (acted_to (round + 1) actions) (length old) (length ready) round next long)
    (done-then (61 + (61 * acted_to round actions + 6000 * length old * round)) (61 * acted round actions)
    (61 + (61 * acted_to round actions + 6000 * length old * round) + 61 * acted round actions) old mid ready (omega arith) before prepared)
    done

-- so many rounds, within what all may append
ended : {K J : Type 0} {g : Ghosts K} (old new : List (Worker K J g)) (actions : List Action) (round rounds : ℕ) → round ≤ rounds
    → HasDone (61 + (61 * acted_to round actions + 6000 * length old * round)) old new
    → HasDone (61 * (1 + length actions) + 6000 * length old * rounds) old new
ended old new actions round rounds within done =
    done-less (61 + (61 * acted_to round actions + 6000 * length old * round))
    (61 * (1 + length actions) + 6000 * length old * rounds) old new
    (room-within (acted_to round actions) (length old) round rounds (length actions) (acted-few round actions) within) done

-- ---- before the first round

pub loop-round-init : goal.loop-round-init
loop-round-init g c =
    let old = c.args.crew.now in
    let new = c.claim_all.new.crew in
    let e = c.claim_all.ensures in
    let only = c.if-not-claim_all.ensures.only search in
    record {
      workers = e.workers;
      healthy = c.if-not-claim_all.ensures.healthy search;
      done = done-less 61 (61 + (61 * acted_to 0 c.args.actions.now + 6000 * length old * 0)) old new (omega arith) e.done;
      begun = only.begun;
      passes = keeps-all (λ w. w.passes) (λ p. ArePasses (length (intervals_of c.args.case.now.topology)) c.args.boxes.now p) old new
          e.done.long e.passes c.requires.passes;
      quiet = λ none. quiet-start (length old) c.args.case.now old new e.done.long e.orders c.requires.calm
          c.keeps_rules.ensures.rules only (c.if-not-claim_all.ensures.held search);
    }

-- a claim failed
pub returns-then-not-claim_all-clause-done : goal.returns-then-not-claim_all-clause-done
returns-then-not-claim_all-clause-done g c =
    done-less 61 (61 * (1 + length c.args.actions.now) + 6000 * length c.args.crew.now * c.args.rounds) c.args.crew.now
    c.claim_all.new.crew (room-first (length c.args.crew.now) c.args.rounds (length c.args.actions.now)) c.claim_all.ensures.done

pub returns-then-not-claim_all-clause-first : goal.returns-then-not-claim_all-clause-first
returns-then-not-claim_all-clause-first g c =
    inr (c.if-not-claim_all.ensures.faulty search, c.if-not-claim_all.ensures.some search)

pub returns-then-not-claim_all-clause-quiet : goal.returns-then-not-claim_all-clause-quiet
returns-then-not-claim_all-clause-quiet g c none healthy =
    absurd (faulty-healthy c.claim_all.new.crew (c.if-not-claim_all.ensures.faulty search) healthy)

-- ---- in a round

-- an action failed
pub returns-then-not-prepare-clause-done : goal.returns-then-not-prepare-clause-done
returns-then-not-prepare-clause-done g c =
    prepared c.args.crew.now c.loop-round.crew c.prepare.new.crew c.args.actions.now c.loop-round.round c.args.rounds (omega arith)
    c.loop-round.invariant.done c.prepare.ensures.done

pub returns-then-not-prepare-clause-first : goal.returns-then-not-prepare-clause-first
returns-then-not-prepare-clause-first g c =
    inl (begun-done (61 * acted c.loop-round.round c.args.actions.now) (length c.args.crew.now) c.args.case.now c.loop-round.crew
    c.prepare.new.crew c.prepare.ensures.done c.loop-round.invariant.begun)

pub returns-then-not-prepare-clause-quiet : goal.returns-then-not-prepare-clause-quiet
returns-then-not-prepare-clause-quiet g c none healthy =
    absurd (faulty-healthy c.prepare.new.crew (c.if-not-prepare.ensures.faulty search) healthy)

-- a worker failed
pub returns-then-has_fault-clause-done : goal.returns-then-has_fault-clause-done
returns-then-has_fault-clause-done g c =
    ended c.args.crew.now c.one_round.new.crew c.args.actions.now (c.loop-round.round + 1) c.args.rounds (omega arith)
    (rounded c.args.crew.now c.loop-round.crew c.prepare.new.crew c.one_round.new.crew c.args.actions.now c.loop-round.round
    c.loop-round.invariant.done c.prepare.ensures.done c.one_round.ensures.done)

pub returns-then-has_fault-clause-first : goal.returns-then-has_fault-clause-first
returns-then-has_fault-clause-first g c =
    inl (begun-done (6000 * length c.prepare.new.crew) (length c.args.crew.now) c.args.case.now c.prepare.new.crew
    c.one_round.new.crew c.one_round.ensures.done
    (begun-done (61 * acted c.loop-round.round c.args.actions.now) (length c.args.crew.now) c.args.case.now c.loop-round.crew
    c.prepare.new.crew c.prepare.ensures.done c.loop-round.invariant.begun))

pub returns-then-has_fault-clause-quiet : goal.returns-then-has_fault-clause-quiet
returns-then-has_fault-clause-quiet g c none healthy =
    absurd (faulty-healthy c.one_round.new.crew (c.if-has_fault.ensures.faulty search) healthy)

-- one round more is done
pub loop-round-preserved : goal.loop-round-preserved
loop-round-preserved g c =
    let id = c.args.shared.now.table.shared.table_id in
    let case = c.args.case.now in
    let round = c.loop-round.round in
    let workers = length c.args.crew.now in
    let was = c.loop-round.crew in
    let mid = c.prepare.new.crew in
    let new = c.one_round.new.crew in
    let healthy = c.if-has_fault.ensures.healthy search in
    let more : 16 * round + 16 ≡ 16 * (round + 1) = omega arith in
    record {
      workers = c.one_round.ensures.workers;
      healthy = healthy;
      done = rounded c.args.crew.now was mid new c.args.actions.now round c.loop-round.invariant.done c.prepare.ensures.done
          c.one_round.ensures.done;
      begun = begun-done (6000 * length mid) workers case mid new c.one_round.ensures.done
          (begun-done (61 * acted round c.args.actions.now) workers case was mid c.prepare.ensures.done c.loop-round.invariant.begun);
      passes = c.one_round.ensures.passes;
      quiet = λ none.
          let quiet = c.loop-round.invariant.quiet none in
          let stay = c.if-not-prepare.ensures.calm (search) (acted-empty round c.args.actions.now none) quiet.calm in
          subst (λ (n : ℕ). AreQuiet workers case n new) more
          (quiet-round id workers case c.args.boxes.now (16 * round) mid new c.one_round.ensures.worked c.one_round.ensures.orders healthy
          (quiet-kept workers case (16 * round) was mid c.prepare.ensures.done.long stay.0 stay.1 quiet));
    }

-- ---- after all rounds

pub returns-clause-done : goal.returns-clause-done
returns-clause-done g c =
    ended c.args.crew.now c.loop-round.crew c.args.actions.now c.loop-round.round c.args.rounds (omega arith)
    c.loop-round.invariant.done

pub returns-clause-first : goal.returns-clause-first
returns-clause-first g c = inl c.loop-round.invariant.begun

pub returns-clause-quiet : goal.returns-clause-quiet
returns-clause-quiet g c none healthy =
    let all : c.loop-round.round ≡ c.args.rounds = omega arith in
    subst (λ (n : ℕ). AreQuiet (length c.args.crew.now) c.args.case.now (16 * n) c.loop-round.crew) all
    (c.loop-round.invariant.quiet none)
