-- What a seat comes to see by a note was not written under its leases.
use Rattle.std.proofs.Common.{◌≡◌, ◌++◌, length, drop, refl, sym, subst}
use Rattle.shared_book.specs.declared.views.View.{View}
use Rattle.shared_book.specs.Lists.{IsIn}
use Rattle.shared_book.specs.Joins.{note_of, longer, joined}
use Rattle.shared_book.specs.Steps.{HasSeenLawful, HasSeenWritten}
use Rattle.shared_book.specs.Turns.{HasMetForeign}
use Rattle.shared_book.proofs.Lists.{in_left}
use Rattle.shared_book.proofs.Histories.{seen_all, seq_of_lease}
use Rattle.shared_book.proofs.Joining.{met_own}

-- a note that was met had nothing that was written under a lease of the seat behind what the seat had seen
pub met_foreign : (v w new : View) → w ≡ note_of w → new ≡ joined v w → HasSeenWritten v → HasSeenWritten new → HasSeenLawful v
    → HasMetForeign v new
met_foreign v w new bare is before after lawful = subst (HasMetForeign v) (sym is) (record {
  others = drop (length v.front) w.front;
  goes_on = refl;
  seen_all = λ lease p. seen_all v.front (longer v.front w.front) lease.interval lease.seq (drop (length v.front) w.front, refl)
      (lawful.claimed lease p)
      (λ at entry there carries. before.own at
      (subst (IsIn at) (met_own v w bare)
      ((subst HasSeenWritten is after).written lease.seq
      (seq_of_lease lease (v.leases ++ w.leases) (in_left lease v.leases w.leases p)) at entry there carries)));
})
