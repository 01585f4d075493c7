use Rattle.std.proofs.Common.{◌∙◌, ap, subst, List, fold, map}
use Rattle.std.specs.Prelude.{None}
use Rattle.std.specs.Cmp.{on_total}
use Rattle.mw_types.specs.declared.identity.RowName.{RowName}
use Rattle.mw_types.proofs.OrderLaws.{row_cmp-total}
use Rattle.row_parts.specs.Contents.{Contents}
use Rattle.book.specs.Claims.{named}
use Rattle.book.specs.declared.answers.NamedRow.{NamedRow}
use Rattle.holdings.specs.Firsts.{IsFirstOf, earlier}
use Rattle.holdings.specs.Purges.{by_name, forgets, seen_name}
use Rattle.holdings.proofs.FirstLaws.{first-merged}
use Rattle.holdings.proofs.cache.Cache.to_purge.Goals as goal

-- the first of the list and of what is beside it is the first of all
pub returns : goal.returns
returns c =
    let pick = forgets c.args.floor c.args.least in
    let answered = c.self.inside.answered.items in
    let others = c.self.inside.others in
    subst (λ (l : List (RowName × Contents)). IsFirstOf pick by_name l (seen_name c.purge_beside.result)) c.self.view_is
    (first-merged pick by_name (on_total (λ (b : RowName × Unit {0}). b.0) row_cmp-total) answered others c.self.invariant
    (seen_name c.purge_beside.result)
    (c.purge_beside.ensures ∙ ap (λ b. fold (earlier pick by_name) b others)
    (c.purge_in-first.ensures ∙ ap (λ (l : List NamedRow). fold (earlier pick by_name) None (map named l)) c.deref.ensures.value)))
