use Rattle.std.proofs.Common.{◌≡◌, ◌+◌, ◌*◌, ◌^◌, IfOk, subst, ap, ◌∙◌, arith}
use Rattle.std.specs.Int.{to_be_bytes, w128}
use Rattle.uuid.specs.Text.{hyphenated_text, lower}
use Rattle.mw_types.specs.PrintedIds.{id_number}
use Rattle.mw_types.proofs.identity.RecordId.uuid.Goals as goal

-- the two halves are the number, and the text is that of its bytes
pub returns : goal.returns
returns c =
    let number : (32768 + c.from.result) * 2 ^ 64 + (2 ^ 63 + c.args.self.now.commit) ≡ id_number c.args.self.now = omega (arith, c.from.ensures) in
    let bytes = c.hyphenated.ensures ∙ c.from_u64_pair-id.ensures ∙ ap (to_be_bytes w128) number in
    let text = c.encode_lower.ensures.text ∙ ap (hyphenated_text lower) bytes in
    record { printed = subst (λ t. IfOk c.of.result (λ made. made ≡ t)) text c.of.ensures.held }
