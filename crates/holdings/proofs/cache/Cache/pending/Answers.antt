use Rattle.std.proofs.Common.{◌∙◌, ◌++◌, ap, subst, List, map}
use Rattle.std.specs.List.{flat_map}
use Rattle.mw_types.specs.declared.identity.RowName.{RowName}
use Rattle.row_parts.specs.Contents.{Contents}
use Rattle.book.specs.Claims.{named}
use Rattle.book.specs.declared.answers.NamedRow.{NamedRow}
use Rattle.holdings.specs.Pendings.{ArePendingAmong, sent_in}
use Rattle.holdings.specs.declared.pending.Sent.{Sent}
use Rattle.holdings.proofs.PendingLaws.{pending-merged}
use Rattle.holdings.proofs.cache.Cache.pending.Goals as goal

-- what is pending in the list and beside it is all that is pending
pub returns : goal.returns
returns c =
    let answered = c.self.inside.answered.items in
    let others = c.self.inside.others in
    subst (λ (l : List (RowName × Contents)). ArePendingAmong l c.push_beside.new.sent) c.self.view_is
    (pending-merged answered others c.push_beside.new.sent c.self.invariant
    (c.in_ok-push_beside.ensures
    ∙ ap (λ (l : List Sent). l ++ flat_map sent_in others)
    (c.in_ok-push_in.ensures
    ∙ ap (λ (l : List Sent). l ++ flat_map sent_in (map named c.deref.result.now)) c.new-sent.ensures.empty
    ∙ ap (λ (l : List NamedRow). flat_map sent_in (map named l)) c.deref.ensures.value)))
