use Rattle.std.proofs.Common.{List, map, subst}
use Rattle.mw_types.specs.declared.identity.RowName.{RowName}
use Rattle.row_parts.specs.Contents.{Contents}
use Rattle.mw_types.specs.Orders.{row_cmp}
use Rattle.history_laws.proofs.RowSteps.{same_row}
use Rattle.book.specs.Claims.{named}
use Rattle.book.specs.declared.answers.NamedRow.{NamedRow}
use Rattle.holdings.specs.Indexes.{HasStamped, IsIndexOf}
use Rattle.holdings.specs.Dues.{due_name, due_of, due_order}
use Rattle.holdings.specs.Keyed.{HasKeyed}
use Rattle.holdings.specs.Seens.{own_name, seen_of}
use Rattle.holdings.proofs.DueLaws.{due_placed, due_tie}
use Rattle.holdings.proofs.KeyLaws.{keys-merged}
use Rattle.holdings.proofs.SeenLaws.{seen_placed}
use Rattle.holdings.proofs.StampLaws.{stamps-merged}
use Rattle.holdings.proofs.cache.Cache.index.Goals as goal

-- what is kept of the list and of what is beside it is kept of all
pub returns : goal.returns
returns c =
    let answered = c.self.inside.answered.items in
    let others = c.self.inside.others in
    let start = c.new-index.result.work in
    let mid = c.index_in.new.index.work in
    subst (λ (l : List (RowName × Contents)). IsIndexOf l c.index_beside.new.index) c.self.view_is (record {
      work = stamps-merged answered others start mid c.index_beside.new.index.work c.self.invariant c.new-index.ensures.work
          (subst (λ (l : List NamedRow). HasStamped (map named l) start mid) c.deref.ensures.value c.in_ok-index_in.ensures.work)
          c.in_ok-index_beside.ensures.work;
      dues = keys-merged due_order due_name due_of due_placed due_tie answered others c.new-index.result.dues.entries
          c.index_in.new.index.dues.entries c.index_beside.new.index.dues.entries c.self.invariant c.new-index.ensures.dues
          (subst (λ (l : List NamedRow). HasKeyed due_order due_of (map named l) c.new-index.result.dues.entries c.index_in.new.index.dues.entries)
          c.deref.ensures.value c.in_ok-index_in.ensures.dues) c.in_ok-index_beside.ensures.dues;
      seen = keys-merged row_cmp own_name seen_of seen_placed same_row answered others c.new-index.result.seen.entries
          c.index_in.new.index.seen.entries c.index_beside.new.index.seen.entries c.self.invariant c.new-index.ensures.seen
          (subst (λ (l : List NamedRow). HasKeyed row_cmp seen_of (map named l) c.new-index.result.seen.entries c.index_in.new.index.seen.entries)
          c.deref.ensures.value c.in_ok-index_in.ensures.seen) c.in_ok-index_beside.ensures.seen;
    })
