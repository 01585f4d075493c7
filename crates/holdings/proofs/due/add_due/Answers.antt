use Rattle.std.proofs.Common.{Option, subst, sym}
use Rattle.std.specs.Prelude.{None, Some}
use Rattle.std.specs.Option.{option_map}
use Rattle.mw_types.specs.declared.timer.Timer.{Timer}
use Rattle.holdings.specs.Dues.{due_at, due_order}
use Rattle.holdings.specs.Keyed.{HasRekeyed}
use Rattle.holdings.specs.declared.due.Due.{Due}
use Rattle.holdings.proofs.DueLaws.{due_order-total, due_tie}
use Rattle.holdings.proofs.KeyLaws.{rekeyed-put}
use Rattle.holdings.proofs.due.add_due.Goals as goal

-- the timer is put
pub returns-in_ok-insert : goal.returns-in_ok-insert
returns-in_ok-insert c =
    let old = c.args.dues.now.entries in
    let new = c.insert.new.self.entries in record {
      added = subst (λ (o : Option Timer). HasRekeyed due_order None (option_map (due_at c.args.name.now) o) old new) (sym c.in-Some.is)
          (subst (λ (d : Due). HasRekeyed due_order None (Some d) old new) c.in_ok-due.ensures
          (rekeyed-put due_order due_order-total due_tie c.in_ok-due.due old new c.in_ok-insert.ensures.ordered c.in_ok-insert.ensures.entries));
    }
