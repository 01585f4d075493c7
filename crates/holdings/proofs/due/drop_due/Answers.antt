use Rattle.std.proofs.Common.{Option, subst, sym}
use Rattle.std.specs.Prelude.{None, Some}
use Rattle.std.specs.Option.{option_map}
use Rattle.mw_types.specs.declared.timer.Timer.{Timer}
use Rattle.holdings.specs.Dues.{due_at, due_order}
use Rattle.holdings.specs.Keyed.{HasRekeyed}
use Rattle.holdings.specs.declared.due.Due.{Due}
use Rattle.holdings.proofs.DueLaws.{due_order-total, due_tie}
use Rattle.holdings.proofs.KeyLaws.{rekeyed-gone}
use Rattle.holdings.proofs.due.drop_due.Goals as goal

-- the timer is taken away
pub returns-in_ok-due : goal.returns-in_ok-due
returns-in_ok-due c =
    let old = c.args.dues.now.entries in
    let new = c.remove.new.self.entries in record {
      gone = subst (λ (o : Option Timer). HasRekeyed due_order (option_map (due_at c.args.name.now) o) None old new) (sym c.in-Some.is)
          (subst (λ (d : Due). HasRekeyed due_order (Some d) None old new) c.in_ok-due.ensures
          (rekeyed-gone due_order due_order-total due_tie c.in_ok-due.due old new c.requires.ordered c.remove.ensures.ordered
          c.remove.ensures.entries));
    }
