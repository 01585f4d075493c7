use Rattle.std.proofs.Common.{◌≡◌, ◌∙◌, ◌++◌, ap, sym, subst, List, map}
use Rattle.std.specs.Prelude.{None}
use Rattle.std.specs.List.{AllByRecursion}
use Rattle.std.specs.List.Sorted.{IsStrictlySortedBy}
use Rattle.std.specs.Map.{keys_of, lookup}
use Rattle.std.specs.BTreeMap.{insert_entry, is_at}
use Rattle.mw_types.specs.Orders.{row_cmp}
use Rattle.mw_types.specs.declared.identity.RowName.{RowName}
use Rattle.mw_types.proofs.OrderLaws.{row_cmp-total}
use Rattle.run_history.proofs.Lookups.{sorted-insert_entry}
use Rattle.book.specs.declared.answers.NamedRow.{NamedRow}
use Rattle.row_parts.specs.Contents.{Contents}
use Rattle.book.specs.Claims.{named}
use Rattle.holdings.specs.Caching.{merged}
use Rattle.holdings.proofs.CacheLaws.{apart-add, lookup-behind, lookup-merged, merged-insert, none-front}
use Rattle.holdings.proofs.cache.Cache.add.Goals as goal

-- a row beside the list is put among all
pub returns-clause-added : goal.returns-clause-added
returns-clause-added c =
    let name = c.args.name in
    let answered = c.self.inside.answered.items in
    let others = c.self.inside.others in
    ap (merged answered) c.in_ok-add.ensures.entries
    ∙ merged-insert answered others name c.args.row c.self.invariant.others_ordered
    (none-front name (map named answered) others
    (sym (lookup-merged name answered others)
    ∙ ap (λ (l : List (RowName × Contents)). lookup (is_at (row_cmp name)) l) c.self.view_is ∙ c.requires.new))
    ∙ ap (λ (l : List (RowName × Contents)). insert_entry row_cmp l name c.args.row) c.self.view_is

-- no row of the list has the name
pub invariant_of-self-2 : goal.invariant_of-self-2
invariant_of-self-2 c =
    let name = c.args.name in
    let answered = c.self.inside.answered.items in
    let others = c.self.inside.others in record {
      answered_ordered = c.self.invariant.answered_ordered;
      others_ordered = subst (λ (es : List (RowName × Contents)). IsStrictlySortedBy row_cmp (keys_of es)) (sym c.in_ok-add.ensures.entries)
          (sorted-insert_entry row_cmp-total others name c.args.row c.self.invariant.others_ordered);
      apart = subst (λ (es : List (RowName × Contents)). AllByRecursion (λ (r : NamedRow). lookup (is_at (row_cmp r.name)) es ≡ None) answered)
          (sym c.in_ok-add.ensures.entries)
          (apart-add answered others name c.args.row
          (none-front name (map named answered) others
          (sym (lookup-merged name answered others)
          ∙ ap (λ (l : List (RowName × Contents)). lookup (is_at (row_cmp name)) l) c.self.view_is ∙ c.requires.new))
          c.self.invariant.apart);
    }

-- and what is beside the list has none of it
pub add-requires : goal.add-requires
add-requires c =
    let name = c.args.name in
    let answered = c.self.inside.answered.items in
    let others = c.self.inside.others in
    let whole : lookup (is_at (row_cmp name)) (map named answered ++ others) ≡ None =
    sym (lookup-merged name answered others)
    ∙ ap (λ (l : List (RowName × Contents)). lookup (is_at (row_cmp name)) l) c.self.view_is ∙ c.requires.new in record {
      new = sym (lookup-behind name (map named answered) others (none-front name (map named answered) others whole)) ∙ whole;
    }
