use Rattle.std.proofs.Common.{◌≡◌, ◌+◌, ◌++◌, ◌∙◌, ap, length, rules}
use Rattle.row_parts.specs.Spelling.{id_spelling, list_spelling}
use Rattle.record_codec.specs.Edits.{deliveries_spelling, head_spelling}
use Rattle.record_codec.proofs.Sending.{sending-spelled}
use Rattle.record_codec.proofs.encode.encode_sending.Goals as goal

-- its parts are the bytes of the row
pub returns-clause-spelled : goal.returns-clause-spelled
returns-clause-spelled c =
    let row = c.args.row.now in
    let front = c.args.front.now in
    let behind = c.args.behind.now in
    let head = head_spelling c.args.last (length front + length behind) row in
    let first : c.put_head.new.out.items ≡ head = c.in_ok-put_head.ensures.spelled in
    let second : c.put_deliveries.new.out.items ≡ c.put_head.new.out.items ++ deliveries_spelling front
    = c.in_ok-put_deliveries.ensures.spelled in
    let third : c.put_deliveries-2.new.out.items ≡ c.put_deliveries.new.out.items ++ deliveries_spelling behind
    = c.in_ok-put_deliveries-2.ensures.spelled in
    let last : c.from_vec.result ≡ c.put_deliveries-2.new.out.items ++ list_spelling id_spelling row.seen = search rules in
    last ∙ ap (λ bytes. bytes ++ list_spelling id_spelling row.seen)
    (third ∙ ap (λ bytes. bytes ++ deliveries_spelling behind) (second ∙ ap (λ bytes. bytes ++ deliveries_spelling front) first))
    ∙ sending-spelled c.args.last front behind row
