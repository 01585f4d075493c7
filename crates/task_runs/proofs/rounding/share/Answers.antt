use Rattle.std.proofs.Common.{length, sym, subst}
use Rattle.run_history.specs.Cases.{CaseShape}
use Rattle.task_runs.specs.declared.task.Before.{Before}
use Rattle.task_runs.specs.Inside.{AreRounds, AreRoundsOf}
use Rattle.task_runs.proofs.RoundLaws.{are_rounds, damage_seen}
use Rattle.task_runs.proofs.rounding.share.Goals as goal

pub returns-clause-rounds : goal.returns-clause-rounds
returns-clause-rounds g c =
    let task = c.args.task.now in
    let old = c.args.book in
    let new = c.rounds.result.book in
    let fault = c.rounds.result.fault in
    let after = c.rounds.ensures in
    subst (λ (b : Before). AreRoundsOf task.case b new.rows fault new.history) (sym c.in-Rounds.is)
    (subst (λ (k : CaseShape). AreRounds k c.in-Rounds.workers c.in-Rounds.many (length c.in-Rounds.actions) new.rows fault
    new.history) c.requires.case
    (are_rounds old.case c.in-Rounds.workers c.in-Rounds.many c.in-Rounds.actions old.rows new.rows fault old.history new.history
    after.tells c.requires.empty after.room after.first after.claimed after.plain after.injected))

pub returns-clause-damaged : goal.returns-clause-damaged
returns-clause-damaged g c =
    damage_seen _ _ c.args.book.rows c.rounds.result.book.rows c.rounds.result.fault c.rounds.result.book.history c.requires.case
    c.rounds.ensures.tells c.rounds.ensures.damaged
