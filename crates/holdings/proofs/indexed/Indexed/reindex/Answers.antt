use Rattle.std.proofs.Common.{List, subst, sym}
use Rattle.std.specs.Prelude.{IsSome}
use Rattle.mw_types.specs.declared.identity.RowName.{RowName}
use Rattle.row_parts.specs.Contents.{Contents}
use Rattle.run_history.specs.Runs.{cached, row_in}
use Rattle.holdings.specs.Writing.{WasNoted}
use Rattle.holdings.proofs.indexed.Indexed.reindex.Goals as goal

-- what was noted is of these rows
pub rekeyed-requires : goal.rekeyed-requires
rekeyed-requires c = record {
  there = subst (λ (l : List (RowName × Contents)). IsSome (row_in (cached l) c.args.name.now)) (sym c.self.view_is) c.requires.there;
  noted = subst (λ (l : List (RowName × Contents)). WasNoted c.args.name.now l c.args.before c.args.index) (sym c.self.view_is)
      c.requires.noted;
}

-- the index is that of the rows
pub invariant_of-self : goal.invariant_of-self
invariant_of-self c = record { ordered = c.self.invariant.ordered; kept = c.rekeyed.ensures }
