use Rattle.holdings.proofs.StampLaws.{restamped-both}
use Rattle.holdings.proofs.index.change.Goals as goal
use Rattle.list_lemmas.proofs.Told.{on_ok-map}

-- one less, then one more
pub returns : goal.returns
returns c = record {
  changed = on_ok-map c.add_stamp.result
      (restamped-both c.args.before c.args.after c.args.stamps.now c.remove_stamp.new.stamps c.add_stamp.new.stamps c.remove_stamp.ensures)
      c.add_stamp.ensures.added;
}
