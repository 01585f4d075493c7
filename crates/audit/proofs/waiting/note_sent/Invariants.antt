use Rattle.std.proofs.Common.{◌≡◌, drop}
use Rattle.mw_types.specs.declared.identity.RecordId.{RecordId}
use Rattle.audit.specs.Keeping.{found_then}
use Rattle.audit.specs.Waits.{waiting_in}
use Rattle.audit.proofs.waiting.note_sent.Given as goal

-- what is noted, with those that are left, leads to the same as with all
abbrev pub invariant-loop-delivery : goal.invariant-loop-delivery
invariant-loop-delivery l = (id : RecordId) → found_then id (drop l.delivery-index l.sent) (waiting_in l.waiting.entries id)
    ≡ found_then id l.sent (waiting_in l.fn.waiting.entries id)
