use Rattle.std.proofs.Common.{◌∙◌, List, ap}
use Rattle.std.specs.List.{flat_map}
use Rattle.mw_types.specs.declared.identity.RowName.{RowName}
use Rattle.row_parts.specs.Contents.{Contents}
use Rattle.run_history.specs.Marks.{row_marks}
use Rattle.run_history.specs.Watermarks.{least}
use Rattle.holdings.specs.declared.index.Index.{Index}
use Rattle.holdings.proofs.StampLaws.{index-there, least-stamps}
use Rattle.holdings.proofs.indexed.Indexed.oldest.Goals as goal

-- the least stamp is the oldest work of all rows
pub returns-in-Some-clause-oldest : goal.returns-in-Some-clause-oldest
returns-in-Some-clause-oldest c =
    let rows = c.self.inside.rows in
    let index = index-there rows c.self.inside.index c.in-Some.index c.in-Some.is c.self.invariant.kept in
    c.least.ensures.least ∙ ap (λ (i : Index). least i.work) c.deref.ensures ∙ least-stamps rows c.in-Some.index.value.work index.work
    ∙ ap (λ (l : List (RowName × Contents)). least (flat_map (λ (r : RowName × Contents). row_marks r.1) l)) c.self.view_is

-- so it is where the index is made anew
pub returns-clause-oldest : goal.returns-clause-oldest
returns-clause-oldest c = c.least-oldest.ensures.least
    ∙ ap (λ (i : Index). least i.work) c.deref-2.ensures
    ∙ least-stamps c.args.self.now c.in_ok-index.index.value.work c.in_ok-index.ensures.work
