use Rattle.std.proofs.Common.{sym, subst, ◌∙◌, arith}
use Rattle.row_parts.specs.Reading.{Fails}
use Rattle.record_codec.specs.Reading.{whole_row}
use Rattle.record_codec.proofs.RowLaws.{row_found, row_read, same_row, none_read}
use Rattle.record_codec.proofs.decode.decode_row.Goals as goal

pub returns-in-Ok-clause-found : goal.returns-in-Ok-clause-found
returns-in-Ok-clause-found c = row_found c.args.bytes.now c.in-Ok.row (λ i. omega (arith, c.type_inv.bytes i)) c.in-Ok.ensures

pub returns-in-Ok-clause-only : goal.returns-in-Ok-clause-only
returns-in-Ok-clause-only c = λ row fits is. same_row row c.in-Ok.row (sym (row_read c.args.bytes.now row fits is) ∙ c.in-Ok.ensures)

pub returns-in-Err-Damaged-clause-only : goal.returns-in-Err-Damaged-clause-only
returns-in-Err-Damaged-clause-only c = λ row fits is. absurd (none_read c.args.bytes.now row (subst (λ e. Fails e (whole_row c.args.bytes.now)) c.in-Err-Damaged.field-0-is c.in-Err-Damaged.ensures) fits is)

pub returns-in-Err-Damaged-clause-damaged : goal.returns-in-Err-Damaged-clause-damaged
returns-in-Err-Damaged-clause-damaged c = λ damaged row fits is. none_read c.args.bytes.now row (subst (λ e. Fails e (whole_row c.args.bytes.now)) c.in-Err-Damaged.field-0-is c.in-Err-Damaged.ensures) fits is
