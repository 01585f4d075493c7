-- What a desk knows that has a book to itself. Own.
use Rattle.std.specs.Prelude.{[], Bool, true, false, List, Option, slice_get}
use Rattle.std.specs.Option.{option_map, option_map_or}
use Rattle.mw_types.specs.declared.entry.Entry.{Entry}
use Rattle.run_history.specs.Runs.{run_of}
use Rattle.run_history.specs.Legal.{floor_of}
use Rattle.run_history.specs.Fences.{is_claim}
use Rattle.book.specs.Books.{BookView, LeaseView}
use Rattle.book.specs.Desks.{DeskView, Home, numbers_from}

-- whether something is told, and no more
abbrev pub telling : {X : Type 0} → Option X → Option Unit
telling told = option_map (λ _. tt) told

-- whether the entry of the lease's number is a claim of its interval
abbrev pub is_claimed : List Entry → LeaseView → Bool
is_claimed history lease = option_map_or (is_claim lease.interval) (slice_get history lease.seq) false

-- what the desk knows: its book's case, limit, history, marks and faults, whether rows are told, each lease
-- that was claimed, and the history's floor; it appended all of the history, found no turn taken, and is alone
abbrev pub own_view : BookView → DeskView
own_view book = record {
  case = book.case;
  limit = book.limit;
  seen = book.history;
  own = numbers_from 0 book.history;
  told = telling book.rows;
  leases = is_claimed book.history;
  marks = book.marks;
  floor = floor_of (run_of book.case.topology book.history);
  missed = [];
  faults = book.faults;
  alone = true;
}

-- a desk that is alone needs no number
abbrev pub own_home : Home
own_home = record { book = []; seats = [] }
