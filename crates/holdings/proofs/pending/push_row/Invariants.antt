use Rattle.std.proofs.Common.{◌≡◌, ◌++◌, map, drop}
use Rattle.holdings.specs.Pendings.{sent_in, sent_of}
use Rattle.holdings.proofs.pending.push_row.Given as goal

-- what is there and what is left are together what is owed
abbrev pub invariant-loop-delivery : goal.invariant-loop-delivery
invariant-loop-delivery l = l.sent ++ map (sent_of l.name) (drop l.delivery-index l.row.pending) ≡ l.fn.sent ++ sent_in (l.name, l.row)
