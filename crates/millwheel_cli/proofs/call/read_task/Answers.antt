use Rattle.std.proofs.Common.{◌≡◌, sym, subst, rules}
use Rattle.std.specs.Prelude.{IfErr}
use Rattle.command_line.specs.declared.command.Call.{Call}
use Rattle.command_line.specs.declared.command.Call.TheVariants.{Replay, Run}
use Rattle.millwheel_cli.specs.Reasons.{IsCallRefused, IsRefused}
use Rattle.millwheel_cli.specs.Inside.{UnlessWant}
use Rattle.millwheel_cli.proofs.Reasons.{seen_of}
use Rattle.millwheel_cli.proofs.call.read_task.Goals as goal

-- a replay is refused where its files are
pub returns-in-Replay-clause-refused : goal.returns-in-Replay-clause-refused
returns-in-Replay-clause-refused g c =
    let call = c.in-Replay in
    let new = c.read_inputs-in-Replay.new.shelf in
    let seen = seen_of (g.S.Shelf.files c.args.shelf.now) (g.S.Shelf.faults c.args.shelf.now) (g.S.Shelf.faults new)
    (g.S.Shelf.lacks c.args.shelf.now) (g.S.Shelf.lacks new) in
    let same : c.args.call.now ≡ Replay call.plan call.inputs = search rules in
    subst (λ (k : Call). IfErr c.read_inputs-in-Replay.result (UnlessWant (IsRefused seen k call.inputs))
    → IfErr c.read_inputs-in-Replay.result (UnlessWant (IsCallRefused seen k))) (sym same) (λ is. is) c.read_inputs-in-Replay.ensures.refused

-- so is a run
pub returns-in-Run-clause-refused : goal.returns-in-Run-clause-refused
returns-in-Run-clause-refused g c =
    let call = c.in-Run in
    let new = c.read_inputs-in-Run.new.shelf in
    let seen = seen_of (g.S.Shelf.files c.args.shelf.now) (g.S.Shelf.faults c.args.shelf.now) (g.S.Shelf.faults new)
    (g.S.Shelf.lacks c.args.shelf.now) (g.S.Shelf.lacks new) in
    let same : c.args.call.now ≡ Run call.workers call.rounds call.plan call.inputs = search rules in
    subst (λ (k : Call). IfErr c.read_inputs-in-Run.result (UnlessWant (IsRefused seen k call.inputs))
    → IfErr c.read_inputs-in-Run.result (UnlessWant (IsCallRefused seen k))) (sym same) (λ is. is) c.read_inputs-in-Run.ensures.refused
