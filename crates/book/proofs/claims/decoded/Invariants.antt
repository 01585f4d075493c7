use Rattle.book.specs.Claims.{IsRead}
use Rattle.book.proofs.claims.decoded.Given as goal

-- the rows so far are read
abbrev pub invariant-loop-kept : goal.invariant-loop-kept
invariant-loop-kept l = IsRead l.case l.number l.found l.rows l.kept-index
