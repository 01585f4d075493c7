use Rattle.std.proofs.Common.{◌∙◌, refl}
use Rattle.list_lemmas.proofs.Told.{on_ok-map}
use Rattle.mw_types.proofs.CauseLaws.{Rose-before}
use Rattle.task_runs.proofs.Replaying.{script_stopped, script_unended, drained_behind, whole_behind, unended_behind, replayed_of}
use Rattle.task_runs.proofs.runs.replay.Goals as goal

-- ---- the script stopped

pub returns-in_err-run_script-clause-replayed : goal.returns-in_err-run_script-clause-replayed
returns-in_err-run_script-clause-replayed g c =
    let old = c.args.world.now.book in
    let routes = c.args.world.now.routes in
    script_stopped routes old.case old.rows _ c.args.steps.now _ c.requires.begun c.in_err-run_script.ensures.begun

pub returns-in_err-run_script-clause-more : goal.returns-in_err-run_script-clause-more
returns-in_err-run_script-clause-more g c is =
    let old = c.args.world.now.book in
    let routes = c.args.world.now.routes in
    script_unended routes old.case old.rows _ c.args.steps.now _ c.look.ensures.lawful.runnable.topology c.requires.begun
    c.in_err-run_script.ensures.begun

-- ---- the script was done

pub returns-clause-case : goal.returns-clause-case
returns-clause-case g c = c.drain.ensures.case ∙ c.in_ok-run_script.ensures.case

pub returns-clause-limit : goal.returns-clause-limit
returns-clause-limit g c = c.drain.ensures.limit ∙ c.in_ok-run_script.ensures.limit

pub returns-clause-tells : goal.returns-clause-tells
returns-clause-tells g c = c.drain.ensures.tells ∙ c.in_ok-run_script.ensures.tells

pub returns-clause-replayed : goal.returns-clause-replayed
returns-clause-replayed g c =
    let old = c.args.world.now.book in
    let routes = c.args.world.now.routes in
    let mid = c.run_script.new.world.book in
    let script = c.in_ok-run_script.ensures in
    replayed_of routes old.case old.rows c.args.steps.now _
    (drained_behind routes old.case mid.case old.rows mid.rows _ _ c.args.steps.now mid.history _ script.case script.tells
    c.requires.begun script.done refl c.drain.ensures.grown c.drain.ensures.draining)

pub returns-clause-keeper_fault : goal.returns-clause-keeper_fault
returns-clause-keeper_fault g c is = Rose-before _ _ _ c.in_ok-run_script.ensures.faults (c.drain.ensures.keeper_fault is)

pub returns-clause-full : goal.returns-clause-full
returns-clause-full g c is = c.drain.ensures.full is

pub returns-clause-more : goal.returns-clause-more
returns-clause-more g c is =
    let old = c.args.world.now.book in
    let routes = c.args.world.now.routes in
    let mid = c.run_script.new.world.book in
    let script = c.in_ok-run_script.ensures in
    unended_behind routes old.case mid.case old.rows mid.rows _ _ c.args.steps.now mid.history _ script.case script.tells
    c.requires.begun script.done refl (c.drain.ensures.more is)

pub returns-clause-whole : goal.returns-clause-whole
returns-clause-whole g c =
    let old = c.args.world.now.book in
    let routes = c.args.world.now.routes in
    let mid = c.run_script.new.world.book in
    let script = c.in_ok-run_script.ensures in
    on_ok-map _ (λ ended. whole_behind routes old.case mid.case old.rows mid.rows _ _ c.args.steps.now mid.history _ script.case script.tells
    c.requires.begun script.done refl c.drain.ensures.grown c.drain.ensures.draining ended) c.drain.ensures.ended
