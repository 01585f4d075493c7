use Rattle.std.proofs.Common.{◌∙◌, ap, rules, subst, sym, List}
use Rattle.std.specs.Prelude.{option_copied}
use Rattle.std.specs.List.Sorted.{IsStrictlySortedBy}
use Rattle.std.specs.Map.{keys_of}
use Rattle.mw_types.specs.Orders.{row_cmp}
use Rattle.mw_types.specs.declared.identity.RowName.{RowName}
use Rattle.row_parts.specs.Contents.{Contents}
use Rattle.run_history.specs.Runs.{cached, row_in}
use Rattle.holdings.proofs.indexed.Indexed.note.Goals as goal

-- the rows stay in order, and have no index any more
pub invariant_of-self : goal.invariant_of-self
invariant_of-self c = record { ordered = c.self.invariant.ordered; kept = rw c.replace.ensures.after tt }

-- what was taken out is the index of the rows
pub returns-clause-noted : goal.returns-clause-noted
returns-clause-noted c = record {
  row = c.unwrap.result.now;
  was = ap (λ (l : List (RowName × Contents)). row_in (cached l) c.args.name.now) (sym c.self.view_is)
      ∙ sym c.get.ensures ∙ ap option_copied c.unwrap.ensures;
  has = c.before_of-before.ensures;
  ordered = subst (λ (l : List (RowName × Contents)). IsStrictlySortedBy row_cmp (keys_of l)) c.self.view_is c.self.invariant.ordered;
  kept = search rules;
}
