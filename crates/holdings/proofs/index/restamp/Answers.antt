use Rattle.std.proofs.Common.{sym, subst, Option, ℕ}
use Rattle.std.specs.Prelude.{OnOk}
use Rattle.holdings.specs.Indexes.{HasRestamped}
use Rattle.holdings.proofs.index.restamp.Goals as goal

-- one more
pub returns-in-None : goal.returns-in-None
returns-in-None c = record {
  changed = subst (λ (o : Option ℕ). OnOk c.add_stamp.result (HasRestamped o c.args.after c.args.stamps.now c.add_stamp.new.stamps))
      (sym c.in-None.is) c.add_stamp.ensures.added;
}
