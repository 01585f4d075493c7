use Rattle.std.proofs.Common.{sym, subst, arith}
use Rattle.std.specs.Str.{IsUtf8}
use Rattle.row_parts.proofs.KeyLemmas.{key_read, key_damaged}
use Rattle.row_parts.proofs.parts.KeySpelled.take.Goals as goal

pub returns-in_ok-key_of-in-Ok : goal.returns-in_ok-key_of-in-Ok
returns-in_ok-key_of-in-Ok c =
    rw (c.in_ok-key_of-in-Ok.ensures, c.in-Ok.ensures.cases.0, c.split_at.ensures.front, c.split_at.ensures.back)
    (key_read c.args.bytes.now c.in_ok-len.rest.now c.in_ok-len.len c.in_ok-len.ensures (omega arith) (omega arith)
    (subst IsUtf8 c.split_at.ensures.front c.in-Ok.ensures.cases.1))

pub returns-in-Err : goal.returns-in-Err
returns-in-Err c =
    key_damaged c.args.bytes.now c.in_ok-len.rest.now c.in_ok-len.len c.in_ok-len.ensures (omega arith) (omega arith)
    (λ text. c.in-Err.ensures.cases.0 (subst IsUtf8 (sym c.split_at.ensures.front) text))
