use Rattle.std.proofs.Common.{refl, sym, ap, subst}
use Rattle.millwheel_cli.specs.Reasons.{ShelfSeen}
use Rattle.task_runs.specs.Answers.{Left}
use Rattle.millwheel_cli.specs.Inside.{IsTextEnd}
use Rattle.millwheel_cli.proofs.unkept.write_files.Goals as goal

-- the writing left its text, beside the keeper as it was
pub returns-clause-ended : goal.returns-clause-ended
returns-clause-ended g c =
    let seen : ShelfSeen = record {
      files = g.S.Shelf.files c.args.shelf.now;
      faults = (g.S.Shelf.faults c.args.shelf.now, g.S.Shelf.faults c.write_text-status.new.shelf);
      lacks = (g.S.Shelf.lacks c.args.shelf.now, g.S.Shelf.lacks c.write_text-status.new.shelf);
    } in
    let left : Left = record {
      rows = (g.K.Keeper.rows c.args.keeper, g.K.Keeper.rows c.unbegun.result.keeper);
      text = (g.O.Sink.text c.args.out.now, g.O.Sink.text c.write_text-status.new.out);
      history = c.unbegun.result.history;
    } in
    subst (IsTextEnd seen c.args.call.now left) (sym c.unbegun.ensures.status)
    (c.write_text-status.ensures.ended left
    (record { empty = c.unbegun.ensures.history; same_rows = ap g.K.Keeper.rows c.unbegun.ensures.keeper }) refl)
