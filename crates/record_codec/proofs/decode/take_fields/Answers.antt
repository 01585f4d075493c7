use Rattle.std.proofs.Common.{arith}
use Rattle.record_codec.specs.Reading.{row_with}
use Rattle.record_codec.proofs.RowLaws.{fields_read, fields_row}
use Rattle.record_codec.proofs.decode.take_fields.Goals as goal

pub take_rest-requires : goal.take_rest-requires
take_rest-requires c lists rest read within =
    let all = fields_read c.args.bytes.now c.in_ok-last.rest.now c.in_ok-floor.rest.now c.in_ok-state.rest.now rest
    c.in_ok-last.last c.in_ok-floor.floor c.in_ok-state.state lists
    c.in_ok-last.ensures c.in_ok-floor.ensures c.in_ok-state.ensures read within in
    fields_row c.args.bytes.now rest (row_with c.in_ok-last.last c.in_ok-floor.floor c.in_ok-state.state lists)
    (λ i. omega (arith, c.type_inv.bytes i)) all
