use Rattle.std.proofs.Common.{rules, subst}
use Rattle.std.specs.Prelude.{Option}
use Rattle.std.specs.Option.{option_map}
use Rattle.holdings.specs.Dues.{due_at, due_order}
use Rattle.holdings.specs.Keyed.{HasRekeyed}
use Rattle.holdings.specs.declared.due.Due.{Due}
use Rattle.holdings.proofs.DueLaws.{same_due}
use Rattle.holdings.proofs.KeyLaws.{rekeyed-same}
use Rattle.holdings.proofs.due.set_due.Goals as goal

-- nothing is changed
pub returns-then-is_same : goal.returns-then-is_same
returns-then-is_same c =
    let old = c.args.dues.now.entries in record {
      set = subst (λ (o : Option Due). HasRekeyed due_order (option_map (due_at c.args.name.now) c.args.before) o old old)
          (same_due c.args.name.now c.args.before c.args.after (search rules))
          (rekeyed-same due_order (option_map (due_at c.args.name.now) c.args.before) old c.requires.ordered c.requires.there);
    }
