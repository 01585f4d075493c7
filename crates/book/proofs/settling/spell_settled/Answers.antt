use Rattle.std.proofs.Common.{◌≡◌, ◌++◌, ◌∙◌, List, ap, rules, subst, sym}
use Rattle.mw_types.specs.declared.delivery.Delivery.{Delivery}
use Rattle.row_parts.specs.Contents.{IsRow, without_delivery}
use Rattle.record_codec.specs.Edits.{row_sending}
use Rattle.book.proofs.Settlements.{IsRow-settled}
use Rattle.book.proofs.settling.spell_settled.Goals as goal

-- the row that is left can be kept
pub encode_sending-requires : goal.encode_sending-requires
encode_sending-requires c =
    let row = c.args.row.now in
    let slice : c.as_slice.result.now ≡ row.pending = search rules in
    let same : c.parted.result.0.now ++ c.parted.result.2.now ≡ without_delivery c.args.settled.id row.pending
    = c.parted.ensures.left ∙ ap (without_delivery c.args.settled.id) slice in
    subst (λ (ds : List Delivery). IsRow (row_sending c.args.settled.commit ds row)) (sym same)
    (IsRow-settled row c.args.settled (subst IsRow c.row.view_is c.row.invariant) c.requires)
