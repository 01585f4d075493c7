use Rattle.std.specs.Option.{option_map}
use Rattle.list_lemmas.proofs.Told.{on_ok-map}
use Rattle.holdings.specs.Dues.{due_at, due_order}
use Rattle.holdings.proofs.KeyLaws.{rekeyed-both}
use Rattle.holdings.proofs.due.change_due.Goals as goal

-- one is gone, then one is added
pub returns : goal.returns
returns c = record {
  set = on_ok-map c.add_due.result
      (rekeyed-both due_order (option_map (due_at c.args.name.now) c.args.before) (option_map (due_at c.args.name.now) c.args.after)
      c.args.dues.now.entries c.drop_due.new.dues.entries c.add_due.new.dues.entries c.in_ok-drop_due.ensures.gone)
      c.add_due.ensures.added;
}
