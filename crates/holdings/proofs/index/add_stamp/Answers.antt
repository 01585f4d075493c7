use Rattle.holdings.proofs.StampLaws.{restamped-new}
use Rattle.holdings.proofs.index.add_stamp.Goals as goal
use Rattle.list_lemmas.proofs.Told.{on_ok-map}

-- one more
pub returns : goal.returns
returns c = record { added = on_ok-map c.add.result (restamped-new c.args.stamp c.args.stamps.now c.add.new.self) c.add.ensures.added }
