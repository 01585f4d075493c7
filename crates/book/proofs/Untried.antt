-- A desk that was not asked, since there was no memory for a copy of the row.
use Rattle.std.proofs.Common.{[], refl, sym, arith, append-nil}
use Rattle.mw_types.specs.declared.entry.Entry.{Entry}
use Rattle.run_history.specs.Fences.{sequencer_of}
use Rattle.std.specs.Prelude.{Some, ◌≢◌}
use Rattle.std.proofs.lemmas.List.Elements.{All-nil}
use Rattle.book.specs.Books.{LeaseView}
use Rattle.book.specs.DeskReasons.{HasReason}
use Rattle.book.specs.Desks.{DeskView, HasLooked, KeepsMarks}
use Rattle.book.specs.declared.desk_refusal.DeskRefusal.TheVariants as refusals
use Rattle.book.proofs.Numbers.{own-stays}

-- it has seen no more
pub untried_looked : (desk : DeskView) → HasLooked desk desk
untried_looked desk = record {
  case = refl;
  limit = refl;
  told = refl;
  alone = refl;
  others = [];
  more = sym (append-nil desk.seen);
  foreign = λ lease _. All-nil (λ (entry : Entry). sequencer_of entry ≢ Some lease.seq);
  none = λ _. refl;
  own = own-stays desk.own desk.seen;
  leases = λ lease may. may;
  floor = omega arith;
  faults = omega arith;
}

-- no history decided that it refuses
pub untried_reason : (desk : DeskView) (lease : LeaseView) → HasReason desk desk lease refusals.NoMemory
untried_reason desk lease = record {
  stale = λ decided. absurd decided;
  full = λ decided. absurd decided;
  counts = record {
    keeper = λ e. absurd cc;
    busy = λ found e. absurd cc;
  };
  no_row = tt;
}

-- no mark has changed
pub untried_marks : (desk : DeskView) → KeepsMarks desk desk
untried_marks desk = record {
  rise = λ interval. omega arith;
  same = λ _. refl;
}
