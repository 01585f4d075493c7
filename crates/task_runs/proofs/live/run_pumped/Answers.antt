use Rattle.std.proofs.Common.{◌∙◌, ◌≡◌, ◌==◌, length, refl, sym, ap, subst}
use Rattle.list_lemmas.proofs.Told.{on_ok-map}
use Rattle.world.proofs.Results.{err-then}
use Rattle.run_history.specs.Cases.{CaseShape}
use Rattle.live_outlet.specs.Outlets.{IsPumpedFrom}
use Rattle.task_runs.specs.Lives.{LivesOn}
use Rattle.task_runs.specs.Inside.{StopsLive}
use Rattle.world.specs.scripts.WorldStates.{world_of}
use Rattle.world.specs.scripts.Worlds.{World}
use Rattle.task_runs.proofs.LiveLines.{replayed-lines}
use Rattle.task_runs.proofs.LiveRuns.{causes-before}
use Rattle.task_runs.proofs.Replaying.{drained_behind, replayed_of, script_stopped, script_unended, unended_behind, whole_behind}
use Rattle.task_runs.proofs.live.run_pumped.Goals as goal

pub drain_live-requires : goal.drain_live-requires
drain_live-requires g c =
    let script = c.in_ok-script_live.ensures in
    let mid = c.script_live.new.world.book in record {
      extends = subst (λ (k : CaseShape). IsPumpedFrom k.topology c.script_live.new.outlet mid.history) (sym script.case)
          script.pumped.pumped;
    }

-- ---- the script stopped

pub returns-in_err-script_live-clause-replayed : goal.returns-in_err-script_live-clause-replayed
returns-in_err-script_live-clause-replayed g c =
    let old = c.args.world.now.book in
    let routes = c.args.world.now.routes in
    script_stopped routes old.case old.rows _ c.args.steps.now _ c.requires.begun c.in_err-script_live.ensures.begun

pub returns-in_err-script_live-clause-more : goal.returns-in_err-script_live-clause-more
returns-in_err-script_live-clause-more g c is =
    let old = c.args.world.now.book in
    let routes = c.args.world.now.routes in
    script_unended routes old.case old.rows _ c.args.steps.now _ c.sound.ensures.lawful.runnable.topology c.requires.begun
    c.in_err-script_live.ensures.begun

-- ---- the script was done

pub returns-clause-case : goal.returns-clause-case
returns-clause-case g c = c.drain_live.ensures.gone.case ∙ c.in_ok-script_live.ensures.case

pub returns-clause-limit : goal.returns-clause-limit
returns-clause-limit g c = c.drain_live.ensures.gone.limit ∙ c.in_ok-script_live.ensures.limit

pub returns-clause-tells : goal.returns-clause-tells
returns-clause-tells g c = c.drain_live.ensures.gone.tells ∙ c.in_ok-script_live.ensures.tells

pub returns-clause-replayed : goal.returns-clause-replayed
returns-clause-replayed g c =
    let old = c.args.world.now.book in
    let routes = c.args.world.now.routes in
    let mid = c.script_live.new.world.book in
    let script = c.in_ok-script_live.ensures in
    replayed_of routes old.case old.rows c.args.steps.now _
    (drained_behind routes old.case mid.case old.rows mid.rows _ _ c.args.steps.now mid.history _ script.case script.tells
    c.requires.begun script.done refl c.drain_live.ensures.gone.grown c.drain_live.ensures.draining)

pub returns-clause-more : goal.returns-clause-more
returns-clause-more g c is =
    let old = c.args.world.now.book in
    let routes = c.args.world.now.routes in
    let mid = c.script_live.new.world.book in
    let script = c.in_ok-script_live.ensures in
    unended_behind routes old.case mid.case old.rows mid.rows _ _ c.args.steps.now mid.history _ script.case script.tells
    c.requires.begun script.done refl (c.drain_live.ensures.more is)

pub returns-clause-whole : goal.returns-clause-whole
returns-clause-whole g c =
    let old = c.args.world.now.book in
    let routes = c.args.world.now.routes in
    let mid = c.script_live.new.world.book in
    let script = c.in_ok-script_live.ensures in
    on_ok-map _ (λ ended. whole_behind routes old.case mid.case old.rows mid.rows _ _ c.args.steps.now mid.history _ script.case script.tells
    c.requires.begun script.done refl c.drain_live.ensures.gone.grown c.drain_live.ensures.draining ended) c.drain_live.ensures.ended

pub returns-clause-cause : goal.returns-clause-cause
returns-clause-cause g c =
    let script = c.in_ok-script_live.ensures in
    causes-before c.args.world.now.book c.script_live.new.world.book c.drain_live.new.world.book (g.O.Sink.faults c.args.out.now)
    (g.O.Sink.faults c.script_live.new.out) (g.O.Sink.faults c.drain_live.new.out) c.drain_live.result script.keeper_later
    script.out_later c.drain_live.ensures.cause

pub returns-clause-results : goal.returns-clause-results
returns-clause-results g c =
    let script = c.in_ok-script_live.ensures in
    let mid = c.script_live.new.world.book in
    on_ok-map c.drain_live.result (λ lives. subst (λ (k : CaseShape). LivesOn k.topology mid.history c.drain_live.new.world.book.history
    c.script_live.new.outlet (g.O.Sink.text c.script_live.new.out) (g.O.Sink.text c.drain_live.new.out)) script.case lives
    (length c.args.steps.now == 0) (g.O.Sink.text c.args.out.now) script.pumped) c.drain_live.ensures.results

pub returns-clause-lines : goal.returns-clause-lines
returns-clause-lines g c =
    let old = c.args.world.now.book in
    let routes = c.args.world.now.routes in
    let script = c.in_ok-script_live.ensures in
    let outlet = c.script_live.new.outlet in
    let empty : length old.history ≡ 0 = ap (λ (w : World). length w.history) c.requires.begun in
    on_ok-map c.drain_live.result (λ goes. replayed-lines routes old.case c.script_live.new.world.book.case (world_of c.args.world.now)
    c.args.outlet.now.place c.args.steps.now c.drain_live.new.world.book.history outlet c.drain_live.new.outlet
    (g.O.Sink.text c.args.out.now) (g.O.Sink.text c.script_live.new.out) (g.O.Sink.text c.drain_live.new.out) old.rows
    script.case c.requires.begun (c.requires.pumped.at_end refl ∙ empty) script.lines goes) c.drain_live.ensures.lines

pub returns-clause-behind : goal.returns-clause-behind
returns-clause-behind g c =
    let script = c.in_ok-script_live.ensures in
    let mid = c.script_live.new.world.book in
    err-then c.drain_live.result (λ fault stops. subst (λ (k : CaseShape). StopsLive fault k.topology mid.history
    c.drain_live.new.world.book.history c.script_live.new.outlet (g.O.Sink.text c.script_live.new.out)
    (g.O.Sink.text c.drain_live.new.out)) script.case stops
    (length c.args.steps.now == 0) (g.O.Sink.text c.args.out.now) script.pumped) c.drain_live.ensures.behind
