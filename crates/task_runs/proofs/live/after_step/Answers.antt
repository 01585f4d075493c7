use Rattle.list_lemmas.proofs.Told.{on_ok-map}
use Rattle.std.proofs.Common.{◌≡◌, ◌<◌, length, rules}
use Rattle.live_outlet.specs.Outlets.{WritesTo}
use Rattle.task_runs.proofs.LiveLines.{stepped-lines}
use Rattle.task_runs.proofs.LiveRuns.{on_err-map, on_ok-both}
use Rattle.task_runs.proofs.Living.{stepped-cut, stepped-more}
use Rattle.task_runs.proofs.live.after_step.Goals as goal

-- an entry was appended, and its results were written
pub returns-then-before-len-clause-stepped : goal.returns-then-before-len-clause-stepped
returns-then-before-len-clause-stepped g c =
    let book = c.args.world.now.book in
    on_ok-map c.pump.result (λ pumps. stepped-more book.case.topology book.history c.args.before c.args.outlet.now
    c.take_back.new.outlet c.pump.new.outlet _ _ c.take_back.ensures.owes (λ h. c.take_back.ensures.extends book.case.topology h) pumps)
    c.pump.ensures.pumped

-- and just the lines that the step writes
pub returns-then-before-len-clause-lines : goal.returns-then-before-len-clause-lines
returns-then-before-len-clause-lines g c =
    let book = c.args.world.now.book in
    let mid = c.take_back.new.outlet in
    let new = c.pump.new.outlet in
    let some = g.O.Sink.text c.args.out.now in
    let grown = g.O.Sink.text c.pump.new.out in
    let more : c.args.before < length book.history = search rules in
    on_ok-map c.pump.result (λ both. stepped-lines book.case.topology book.history c.args.before c.args.step.now c.args.outlet.now
    mid new some grown more c.take_back.ensures.owes c.take_back.ensures.place both.0 both.1)
    (on_ok-both (new.place ≡ length book.history) (WritesTo book.case.topology book.history mid new some grown) c.pump.result
    c.pump.ensures.place c.pump.ensures.wrote)

-- or a part of them
pub returns-then-before-len-clause-cut : goal.returns-then-before-len-clause-cut
returns-then-before-len-clause-cut g c =
    let book = c.args.world.now.book in
    on_err-map c.pump.result (λ cut. stepped-cut book.case.topology book.history c.args.outlet.now c.take_back.new.outlet _ _
    c.take_back.ensures.owes (λ h. c.take_back.ensures.extends book.case.topology h) cut)
    c.pump.ensures.cut
