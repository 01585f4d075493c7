-- Which row of an interval a node may have forget ids first.
use Rattle.std.proofs.Common.{◌≡◌, ◌∙◌, ◌<◌, ◌≤◌, ◌&&◌, ℕ, Bool, true, false, length, refl, sym, ap, subst, arith, inr}
use Rattle.std.specs.Prelude.{IfErr, IfOk, IfSome, IsSome, Option, Some, None, Result, ◌==◌, if◌then◌else◌, max, nat_le, nat_lt, unwrap_or}
use Rattle.std.specs.Ordering.{is_le, is_lt}
use Rattle.std.specs.declared.cmp.Ordering.{Ordering}
use Rattle.std.specs.declared.cmp.Ordering.TheVariants.{Less, Equal, Greater}
use Rattle.std.proofs.lemmas.Bool.{eqb-true, le-leb, leb-true, lt-ltb, ltb-true}
use Rattle.list_lemmas.proofs.Tests.{both_true}
use Rattle.mw_types.specs.Orders.{key_cmp, row_cmp}
use Rattle.mw_types.specs.declared.identity.RowName.{RowName}
use Rattle.key_intervals.specs.Intervals.{ends_after}
use Rattle.topology.specs.Shapes.{Shape, parts_of}
use Rattle.row_parts.specs.Contents.{Contents, fresh}
use Rattle.run_history.specs.Cases.{CaseShape, fresh_of}
use Rattle.run_history.specs.Fences.{interval_of}
use Rattle.run_history.specs.Runs.{cached, row_in}
use Rattle.run_history.proofs.IntervalLaws.{interval_of-has}
use Rattle.list_lemmas.proofs.Lists.{some_same}
use Rattle.history_laws.proofs.MarkLaws.{interval-there}
use Rattle.book.specs.Desks.{DeskView, HasLooked, IsSound}
use Rattle.holdings.specs.Firsts.{HasPicked}
use Rattle.holdings.specs.Holding.{HeldView, held_at, held_on}
use Rattle.holdings.specs.Purges.{IsFirstToPurge, forgets}
use Rattle.node.specs.Answers.{AnswersPurge, AnswersWrite, FailsAsked, FailsPurge, HasGrown}
use Rattle.node.specs.Asking.{HasToForget, MayAskPurge, forgetting}
use Rattle.node.specs.Fits.{Fits}
use Rattle.node.specs.PurgeSteps.{AreRowsWithin, CanForget, IsToPurge}
use Rattle.node.specs.Workers.{NodeView, worker_at}
use Rattle.node.specs.declared.outcome.NodeFault.{NodeFault}
use Rattle.node.specs.declared.outcome.Outcome.{Outcome}
use Rattle.node.proofs.PurgeLaws.{held-at-on, held-on-at}
use Rattle.node.proofs.LookLaws.{answers-later, err-fails, fault-later}
use Rattle.node.proofs.PurgeLaws.{answers-some, floor-known, ok-answers}

-- a row that lies in an interval is of a part that is there
pub part-there : (shape : Shape) (i : ℕ) (name : RowName) → interval_of shape name ≡ Some i → name.part < parts_of shape
part-there shape i name lies =
    let has = interval_of-has shape i name lies in
    let b = has.0 in
    let first = both_true ((b.part == name.part) && is_le (key_cmp b.from name.key)) (ends_after b.to name.key) has.2 in
    subst (λ (p : ℕ). p < parts_of shape)
    (eqb-true b.part name.part (both_true (b.part == name.part) (is_le (key_cmp b.from name.key)) first.0).0) (interval-there shape i b has.1)

-- the rows that are cached of an interval lie in it
pub rows-within : (case : CaseShape) (desk : DeskView) (node : NodeView) (interval : ℕ) → Fits case desk node
    → AreRowsWithin case.topology interval (held_at node.held interval)
rows-within case desk node interval fits = by_held (held_at node.held interval) refl
  where
    by_held : (o : Option HeldView) → held_at node.held interval ≡ o → AreRowsWithin case.topology interval o
    by_held None is = tt
    by_held (Some held) is = λ name there.
        let here = fits.held.each interval held is in here.rows.within name there ∙ ap Some here.of_interval

-- ---- a row that has ids to forget

-- that something is picked
abbrev yes : Option (Unit {0})
yes = Some tt

-- what is picked passes
passes : (b : Bool) → (if b then yes else None) ≡ yes → b ≡ true
passes true is = refl
passes false is = absurd cc

-- a row of which something is picked has ids to forget
picked-forgets : (floor least : ℕ) (row : Contents) → forgets floor least row ≡ Some tt
    → (max 1 least ≤ length row.seen) × (row.floor < floor)
picked-forgets floor least row is =
    let two = both_true (nat_lt row.floor floor) (nat_le (max 1 least) (length row.seen)) (passes (nat_lt row.floor floor && nat_le
    (max 1 least) (length row.seen)) is) in (
      leb-true (max 1 least) (length row.seen) two.1,
      ltb-true row.floor floor two.0,
    )

-- and the other way
forgets-picked : (floor least : ℕ) (row : Contents) → max 1 least ≤ length row.seen → row.floor < floor
    → forgets floor least row ≡ Some tt
forgets-picked floor least row many rises =
    ap (λ b. if b && nat_le (max 1 least) (length row.seen) then yes else None) (lt-ltb row.floor floor rises)
    ∙ ap (λ b. if true && b then yes else None) (le-leb (max 1 least) (length row.seen) many)

-- a row that has ids to forget is picked
has-picked : (shape : Shape) (held : HeldView) (least floor : ℕ) (name : RowName) → HasToForget shape held least floor name
    → HasPicked (forgets floor least) held.rows (name, tt)
has-picked shape held least floor name is = by_row (row_in (cached held.rows) name) refl
  where
    new : Contents
    new = fresh (fresh_of shape name.part)

    by_row : (o : Option Contents) → row_in (cached held.rows) name ≡ o → HasPicked (forgets floor least) held.rows (name, tt)
    by_row None at = absurd (let many = subst (λ (o : Option Contents). max 1 least ≤ length
        (unwrap_or o new).seen) at is.many in omega (arith, many))
    by_row (Some row) at = record {
      row = row;
      there = at;
      picked = forgets-picked floor least row (subst (λ (o : Option Contents). max 1 least ≤ length (unwrap_or o new).seen) at is.many)
          (subst (λ (o : Option Contents). (unwrap_or o new).floor < floor) at is.rises);
    }

-- a row that is picked has ids to forget
picked-has : (shape : Shape) (held : HeldView) (least floor : ℕ) (name : RowName)
    → HasPicked (forgets floor least) held.rows (name, tt) → HasToForget shape held least floor name
picked-has shape held least floor name is =
    let two = picked-forgets floor least is.row is.picked in
    let new = fresh (fresh_of shape name.part) in record {
      many = subst (λ (o : Option Contents). max 1 least ≤ length (unwrap_or o new).seen) (sym is.there) two.0;
      rises = subst (λ (o : Option Contents). (unwrap_or o new).floor < floor) (sym is.there) two.1;
    }

-- what is not less
pub not_less : (o : Ordering) → (o ≡ Less → ⊥) → is_lt o ≡ false
not_less Less never = absurd (never refl)
not_less Equal never = refl
not_less Greater never = refl

-- a row that is there
pub there-some : (o : Option Contents) (row : Contents) → o ≡ Some row → IsSome o
there-some o row is = subst IsSome (sym is) refl

-- the first row of what is held that has ids to forget
pub next-purge : (shape : Shape) (node : NodeView) (interval least floor : ℕ) (held : HeldView) (found : Option RowName)
    → node.prepared ≡ None → held_at node.held interval ≡ Some held → AreRowsWithin shape interval (Some held)
    → IsFirstToPurge floor least held.rows found → IsToPurge shape node interval least floor found
next-purge shape node interval least floor held None free at within first = λ asked may.
    let there = held-at-on shape node.held may.name interval may.may.held may.may.there may.of_interval in
    let same : may.may.held ≡ held = some_same may.may.held held (sym there ∙ at) in
    first (may.name, tt) (has-picked shape held least floor may.name
    (subst (λ (h : HeldView). HasToForget shape h least floor may.name) same may.may.forgets))
next-purge shape node interval least floor held (Some name) free at within first =
    let lies = within name (there-some (row_in (cached held.rows) name) first.has.row first.has.there) in (
      part-there shape interval name lies,
      forgetting held name floor,
      record {
        name = name;
        of_interval = lies;
        may = record {
          free = free;
          held = held;
          there = held-on-at shape node.held name interval held lies at;
          forgets = picked-has shape held least floor name first.has;
          request = refl;
        };
        first = λ other in_it other_has. not_less (row_cmp other name)
            (first.least (other, tt) (has-picked shape held least floor other other_has));
      },
      refl,
    )

-- the same of an interval that is held
pub next-purge-held : (shape : Shape) (node : NodeView) (interval least floor : ℕ) (found : Option RowName) → node.prepared ≡ None
    → IsSome (held_at node.held interval) → AreRowsWithin shape interval (held_at node.held interval)
    → IfSome (held_at node.held interval) (λ (held : HeldView). IsFirstToPurge floor least held.rows found)
    → IsToPurge shape node interval least floor found
next-purge-held shape node interval least floor found free = by_held (held_at node.held interval) refl
  where
    by_held : (o : Option HeldView) → held_at node.held interval ≡ o → IsSome o → AreRowsWithin shape interval o
        → IfSome o (λ (held : HeldView). IsFirstToPurge floor least held.rows found) → IsToPurge shape node interval least floor found
    by_held None at there within first = absurd cc
    by_held (Some held) at there within first = next-purge shape node interval least floor held found free at within first

-- a row that is the first may forget ids
pub first-forgets : (shape : Shape) (node : NodeView) (interval least floor : ℕ) (name : RowName)
    → IsToPurge shape node interval least floor (Some name) → CanForget shape node 0 floor name
first-forgets shape node interval least floor name is =
    let may = is.2.may in subst (λ (n : RowName). CanForget shape node 0 floor n) is.3 (
      is.1,
      record {
        free = may.free;
        held = may.held;
        there = may.there;
        forgets = record { many = let many = may.forgets.many in omega (arith, many); rises = may.forgets.rises };
        request = may.request;
      },
    )

-- ---- what a purge answers

-- where a row is the first
pub purge-answers : (case : CaseShape) (old mid new : DeskView) (was node : NodeView) (interval least floor : ℕ) (name : RowName)
    (result : Result Outcome NodeFault) → IsSound old → IsSound mid → HasLooked old mid → floor ≡ mid.floor
    → HasGrown was.held mid new → IsToPurge case.topology was interval least floor (Some name)
    → ((held : HeldView) → held_on case.topology was.held name ≡ Some held
    → IfOk result (AnswersWrite case.topology mid new (forgetting held name floor) (worker_at was) was node))
    → IfOk result (AnswersPurge case.topology old new interval least was node)
purge-answers case old mid new was node interval least floor name result sound is looked at grown first answers =
    let shape = case.topology in
    let may = first.2.may in
    let asked = forgetting may.held name floor in
    let same : first.1 ≡ asked = may.request ∙ ap (λ (n : RowName). forgetting may.held n floor) first.3 in
    ok-answers result (AnswersWrite shape mid new asked (worker_at was) was node) (AnswersPurge shape old new interval least was node)
    (λ outcome a. record {
      floor = floor;
      known = floor-known old mid new floor sound is looked at grown.moved.floor;
      answers = answers-some shape old new (MayAskPurge shape was interval least floor) asked was node outcome
          (subst (MayAskPurge shape was interval least floor) same first.2)
          (answers-later shape old mid new asked (worker_at was) was node outcome looked a);
    }) (answers may.held (subst (λ (n : RowName). held_on shape was.held n ≡ Some may.held) first.3 may.there))

-- and why it did not forget
pub purge-fails : (case : CaseShape) (old mid new : DeskView) (was : NodeView) (interval least floor : ℕ) (name : RowName)
    (result : Result Outcome NodeFault) → IsSound old → IsSound mid → HasLooked old mid → floor ≡ mid.floor
    → HasGrown was.held mid new → IsToPurge case.topology was interval least floor (Some name)
    → ((held : HeldView) → held_on case.topology was.held name ≡ Some held
    → IfErr result (FailsAsked mid new (Some (forgetting held name floor))))
    → IfErr result (FailsPurge case.topology old new interval least was)
purge-fails case old mid new was interval least floor name result sound is looked at grown first fails =
    let shape = case.topology in
    let may = first.2.may in
    let asked = forgetting may.held name floor in
    let same : first.1 ≡ asked = may.request ∙ ap (λ (n : RowName). forgetting may.held n floor) first.3 in
    err-fails result (FailsAsked mid new (Some asked)) (FailsPurge shape old new interval least was)
    (λ fault f. record {
      floor = floor;
      known = floor-known old mid new floor sound is looked at grown.moved.floor;
      fails = fault-later old mid new (MayAskPurge shape was interval least floor) fault looked
          (inr (asked, subst (MayAskPurge shape was interval least floor) same first.2, f));
    }) (fails may.held (subst (λ (n : RowName). held_on shape was.held n ≡ Some may.held) first.3 may.there))
