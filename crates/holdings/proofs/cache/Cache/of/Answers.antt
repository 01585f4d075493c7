use Rattle.std.proofs.Common.{◌≡◌, ◌∙◌, ap, sym, subst, List, map}
use Rattle.std.specs.Prelude.{None}
use Rattle.std.specs.List.Sorted.{IsStrictlySortedBy}
use Rattle.std.specs.Map.{lookup}
use Rattle.std.specs.BTreeMap.{is_at}
use Rattle.mw_types.specs.Orders.{row_cmp}
use Rattle.list_lemmas.proofs.Lists.{each-all}
use Rattle.mw_types.specs.declared.identity.RowName.{RowName}
use Rattle.row_parts.specs.Contents.{Contents}
use Rattle.book.specs.declared.answers.NamedRow.{NamedRow}
use Rattle.holdings.specs.Caching.{merged}
use Rattle.holdings.proofs.CacheLaws.{merged-none}
use Rattle.holdings.proofs.cache.Cache.of.Goals as goal

-- a list that stands in order is cached as it is
pub returns : goal.returns
returns c =
    ap (λ (l : List NamedRow). merged l c.new.result) c.into_vec.ensures
    ∙ ap (λ (l : List (RowName × Contents)). merged c.args.rows l) c.new.ensures.empty
    ∙ merged-none c.args.rows c.requires

-- nothing is beside the list
pub invariant_of-result : goal.invariant_of-result
invariant_of-result c =
    let none : (q : RowName) → lookup (is_at (row_cmp q)) c.new.result ≡ None =
    λ q. ap (λ (l : List (RowName × Contents)). lookup (is_at (row_cmp q)) l) c.new.ensures.empty in record {
      answered_ordered = subst (λ (l : List NamedRow). IsStrictlySortedBy row_cmp (map (λ (r : NamedRow). r.name) l)) (sym c.into_vec.ensures)
          c.requires;
      others_ordered = c.new.ensures.ordered;
      apart = each-all (λ (r : NamedRow). lookup (is_at (row_cmp r.name)) c.new.result ≡ None) (λ r. none r.name) c.into_vec.result.items;
    }
