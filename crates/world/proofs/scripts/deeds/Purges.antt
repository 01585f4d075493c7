-- What a node answers that has a row of an interval forget ids, as the scripted world does.
use Rattle.std.proofs.Common.{◌≡◌, ◌∙◌, ◌≤◌, ◌&&◌, ℕ, true, false, length, max, refl, sym, ap, subst, arith, is_lt}
use Rattle.std.specs.Prelude.{if◌then◌else◌, nat_lt, find, None, Option, Some}
use Rattle.std.specs.Option.{is_some, option_and_then, option_map, option_map_or}
use Rattle.std.specs.Ordering.{is_eq, ordering_reverse}
use Rattle.std.specs.declared.cmp.Ordering.{Ordering}
use Rattle.std.specs.declared.cmp.Ordering.TheVariants.{Less, Equal, Greater}
use Rattle.std.proofs.lemmas.Bool.{lt-ltb, ltb-true}
use Rattle.list_lemmas.proofs.Tests.{both_true}
use Rattle.mw_types.specs.Orders.{row_cmp}
use Rattle.mw_types.specs.declared.identity.RowName.{RowName}
use Rattle.mw_types.proofs.OrderLaws.{row_cmp-total}
use Rattle.topology.specs.Shapes.{Shape}
use Rattle.row_parts.specs.Contents.{Contents}
use Rattle.run_history.specs.Cases.{CaseShape}
use Rattle.run_history.specs.Fences.{interval_of}
use Rattle.run_history.specs.Legal.{floor_of}
use Rattle.run_history.specs.Runs.{run_of}
use Rattle.list_lemmas.proofs.Lists.{some_same}
use Rattle.history_laws.proofs.RowSteps.{same_row}
use Rattle.book.specs.Books.{BookView}
use Rattle.book.specs.OwnDesks.{own_view}
use Rattle.holdings.specs.Holding.{HeldView, held_at, row_held}
use Rattle.node.specs.Answers.{AnswersPurge, AnswersSome, IsFloorKnown}
use Rattle.node.specs.Asking.{HasToForget, MayAskPurge, Request, forgetting}
use Rattle.node.specs.Workers.{NodeView, Sending, Worker, sending_of}
use Rattle.node.specs.declared.outcome.Outcome.{Outcome}
use Rattle.world.specs.scripts.Acts.{Deed, may_forget, nothing, purge, purge_first, purge_row, writes}
use Rattle.world.specs.scripts.Worlds.{World, rows_known, worker_of}
use Rattle.plans.specs.declared.step.Step.TheVariants as steps
use Rattle.world.proofs.scripts.deeds.Acting.{Acts, IsActing, acting-worker}
use Rattle.world.proofs.scripts.deeds.Held.{lease_held, lease_of-held}
use Rattle.world.proofs.scripts.deeds.KnownRows.{in-known, known-in, known-sorted, row-there, there-unless-fresh}
use Rattle.world.proofs.scripts.deeds.Left.{IsOnRow, acting-alone, acting-of}
use Rattle.world.proofs.scripts.deeds.Members.{IsIn}
use Rattle.world.proofs.scripts.deeds.Picked.{find-none, find-picks}
use Rattle.world.proofs.scripts.deeds.Chosen.{free-none, some-acts, worker-free}

-- the floor that is known to all
abbrev floor_known : Shape → World → ℕ
floor_known shape world = floor_of (run_of shape world.history)

-- ---- rows that have ids to forget

-- a row that is held and has ids to forget passes
has-passes : (shape : Shape) (held : HeldView) (floor : ℕ) (name : RowName) → HasToForget shape held 1 floor name
    → may_forget floor (name, row_held shape held name) ≡ true
has-passes shape held floor name has = let row = row_held shape held name in
    ap (λ b. b && nat_lt row.floor floor)
    (lt-ltb 0 (length row.seen) (let m = has.many in omega (arith, m)))
    ∙ lt-ltb row.floor floor has.rises

-- and the other way
passes-has : (shape : Shape) (held : HeldView) (floor : ℕ) (name : RowName)
    → may_forget floor (name, row_held shape held name) ≡ true → HasToForget shape held 1 floor name
passes-has shape held floor name passes = let row = row_held shape held name in
    let two = both_true (nat_lt 0 (length row.seen)) (nat_lt row.floor floor) passes in record {
      many = let m = ltb-true 0 (length row.seen) two.0 in omega (arith, m);
      rises = ltb-true row.floor floor two.1;
    }

-- a row that is held and has ids to forget is known
has-known : (case : CaseShape) (old : BookView) (world : World) (number : ℕ) (was : NodeView) (interval floor : ℕ) (held : HeldView)
    (name : RowName) → IsActing case old world number was → held_at was.held interval ≡ Some held
    → interval_of case.topology name ≡ Some interval → HasToForget case.topology held 1 floor name
    → IsIn (name, row_held case.topology held name) (rows_known case.topology world held.lease)
has-known case old world number was interval floor held name acting at lies has =
    let on = ap (option_and_then (held_at was.held)) lies ∙ at in
    known-in case old world number was interval held name (row_held case.topology held name) acting at lies
    (there-unless-fresh case old world number was name held (λ (r : Contents). max 1 1 ≤ length r.seen) acting on has.many
    (λ none. omega (arith, none)))

-- a row that is known and passes is held and has ids to forget
known-has : (case : CaseShape) (old : BookView) (world : World) (number : ℕ) (was : NodeView) (interval floor : ℕ) (held : HeldView)
    (r : RowName × Contents) → IsActing case old world number was → held_at was.held interval ≡ Some held
    → IsIn r (rows_known case.topology world held.lease) → may_forget floor r ≡ true
    → (interval_of case.topology r.0 ≡ Some interval) × HasToForget case.topology held 1 floor r.0
known-has case old world number was interval floor held r acting at here passes =
    let shape = case.topology in
    let known = in-known case old world number was interval held r.0 r.1 acting at here in
    let same : known.1.held ≡ held =
    some_same known.1.held held (sym known.1.on ∙ ap (option_and_then (held_at was.held)) known.0 ∙ at) in
    let row : row_held shape held r.0 ≡ r.1 = ap (λ (h : HeldView). row_held shape h r.0) (sym same)
    ∙ row-there case old world number was r.0 r.1 acting known.1 in
    (known.0, passes-has shape held floor r.0 (ap (λ (c : Contents). may_forget floor (r.0, c)) row ∙ passes))

-- ---- the first of them

-- two names of which neither is before the other are one
one-name : (a b : RowName) → is_lt (row_cmp a b) ≡ false → is_lt (row_cmp b a) ≡ false → a ≡ b
one-name a b one other = same_row a b (by_order (row_cmp a b) one (sym (ap is_lt (row_cmp-total.antisymm b a)) ∙ other))
  where
    by_order : (o : Ordering) → is_lt o ≡ false → is_lt (ordering_reverse o) ≡ false → is_eq o ≡ true
    by_order Less one other = cc
    by_order Equal one other = refl
    by_order Greater one other = cc

-- what is found first is the row that may be asked first
found-is : (case : CaseShape) (old : BookView) (world : World) (number : ℕ) (was : NodeView) (interval : ℕ)
    (asked : Request) → IsActing case old world number was
    → (may : MayAskPurge case.topology was interval 1 (floor_known case.topology world) asked)
    → (r : RowName × Contents) × (find (may_forget (floor_known case.topology world)) (rows_known case.topology world may.may.held.lease)
    ≡ Some r) × (r.0 ≡ may.name)
found-is case old world number was interval asked acting may =
    by_found (find (may_forget floor) (rows_known shape world held.lease)) refl
  where
    shape : Shape
    shape = case.topology

    floor : ℕ
    floor = floor_known case.topology world

    held : HeldView
    held = may.may.held

    at : held_at was.held interval ≡ Some held
    at = sym (ap (option_and_then (held_at was.held)) may.of_interval) ∙ may.may.there

    row : RowName × Contents
    row = (may.name, row_held case.topology may.may.held may.name)

    here : IsIn row (rows_known shape world held.lease)
    here = has-known case old world number was interval floor held may.name acting at may.of_interval may.may.forgets

    passes : may_forget floor row ≡ true
    passes = has-passes shape held floor may.name may.may.forgets

    by_found : (o : Option (RowName × Contents)) → find (may_forget floor) (rows_known shape world held.lease) ≡ o
        → (r : RowName × Contents) × (find (may_forget floor) (rows_known shape world held.lease) ≡ Some r) × (r.0 ≡ may.name)
    by_found None none =
        absurd (find-none row_cmp-total (may_forget floor) (rows_known shape world held.lease) none row here passes)
    by_found (Some r) is =
        let first = find-picks row_cmp-total (may_forget floor) (rows_known shape world held.lease) r
        (known-sorted shape world held.lease) is in
        let has = known-has case old world number was interval floor held r acting at first.there first.passes in
        (r, is, one-name r.0 may.name (may.first r.0 has.0 has.1) (first.first row here passes))

-- ---- what is purged

-- the row that may be asked first forgets
pub asked-is : (case : CaseShape) (old : BookView) (world : World) (number : ℕ) (was : NodeView) (interval : ℕ) (asked : Request)
    → IsActing case old world number was → MayAskPurge case.topology was interval 1 (floor_known case.topology world) asked
    → purge case.topology number interval world ≡ writes world number asked.lease asked.entry (worker_of world number)
asked-is case old world number was interval asked acting may =
    let shape = case.topology in
    let floor = floor_known shape world in
    let held = may.may.held in
    let at = sym (ap (option_and_then (held_at was.held)) may.of_interval) ∙ may.may.there in
    let found = found-is case old world number was interval asked acting may in
    ap (λ o. option_map_or (purge_first shape number world) o (nothing world number))
    (lease_of-held case old world number was interval acting ∙ ap (option_map lease_held) at)
    ∙ ap (λ o. if is_some o then nothing world number else option_map_or (purge_row number world held.lease floor)
    (find (may_forget floor) (rows_known shape world held.lease)) (nothing world number))
    (worker-free case old world number was acting may.may.free)
    ∙ ap (λ o. option_map_or (purge_row number world held.lease floor) o (nothing world number)) found.1
    ∙ ap (λ (n : RowName). purge_row number world held.lease floor (n, found.0.1)) found.2
    ∙ ap (λ (a : Request). writes world number a.lease a.entry (worker_of world number)) (sym may.may.request)

-- where none may be asked there is nothing to do
none-is : (case : CaseShape) (old : BookView) (world : World) (number : ℕ) (was : NodeView) (interval : ℕ)
    → IsActing case old world number was
    → ((asked : Request) → MayAskPurge case.topology was interval 1 (floor_known case.topology world) asked → ⊥)
    → purge case.topology number interval world ≡ nothing world number
none-is case old world number was interval acting never =
    ap (λ o. option_map_or (purge_first shape number world) o (nothing world number))
    (lease_of-held case old world number was interval acting) ∙ by_held (held_at was.held interval) refl
  where
    shape : Shape
    shape = case.topology

    floor : ℕ
    floor = floor_known case.topology world

    by_found : (held : HeldView) → held_at was.held interval ≡ Some held → was.prepared ≡ None
        → (o : Option (RowName × Contents)) → find (may_forget floor) (rows_known shape world held.lease) ≡ o
        → option_map_or (purge_row number world held.lease floor) o (nothing world number) ≡ nothing world number
    by_found held at free None is = refl
    by_found held at free (Some r) is =
        let first = find-picks row_cmp-total (may_forget floor) (rows_known shape world held.lease) r
        (known-sorted shape world held.lease) is in
        let has = known-has case old world number was interval floor held r acting at first.there first.passes in
        absurd (never (forgetting held r.0 floor) (record {
          name = r.0;
          of_interval = has.0;
          may = record {
            free = free;
            held = held;
            there = ap (option_and_then (held_at was.held)) has.0 ∙ at;
            forgets = has.1;
            request = refl;
          };
          first = λ other lies more. first.first (other, row_held shape held other)
              (has-known case old world number was interval floor held other acting at lies more)
              (has-passes shape held floor other more);
        }))

    at_prepared : (held : HeldView) → Option Sending → Deed
    at_prepared held o = if is_some o then nothing world number else option_map_or (purge_row number world held.lease floor)
        (find (may_forget floor) (rows_known shape world held.lease)) (nothing world number)

    by_prepared : (held : HeldView) → held_at was.held interval ≡ Some held → (o : Option Sending) → sending_of was ≡ o
        → at_prepared held o ≡ nothing world number
    by_prepared held at (Some sending) there = refl
    by_prepared held at None there = by_found held at (free-none case (own_view old) was acting.fits there)
        (find (may_forget floor) (rows_known shape world held.lease)) refl

    by_held : (o : Option HeldView) → held_at was.held interval ≡ o
        → option_map_or (purge_first shape number world) (option_map lease_held o) (nothing world number) ≡ nothing world number
    by_held None at = refl
    by_held (Some held) at =
        ap (at_prepared held) (ap (λ (w : Worker). w.prepared) (acting-worker case old world number was acting))
        ∙ by_prepared held at (sending_of was) refl

-- a row that forgets is the one that is asked
purge-on : (shape : Shape) (was : NodeView) (interval floor : ℕ) (asked : Request) → MayAskPurge shape was interval 1 floor asked
    → IsOnRow asked
purge-on shape was interval floor asked may = subst IsOnRow (sym may.may.request) refl

-- a floor that a desk knows that is alone is the history's
pub floor-is : (case : CaseShape) (old new : BookView) (world : World) (number floor : ℕ) (was : NodeView)
    → IsActing case old world number was → IsFloorKnown (own_view old) (own_view new) floor
    → floor ≡ floor_known case.topology world
floor-is case old new world number floor was acting known = known.same refl
    ∙ ap (λ (c : CaseShape). floor_of (run_of c.topology old.history)) acting.of_case
    ∙ ap (λ h. floor_of (run_of case.topology h)) (sym acting.history)

-- a purge
pub purge-acts : (case : CaseShape) (old new : BookView) (world : World) (number : ℕ) (was node : NodeView) (interval : ℕ)
    (outcome : Outcome) → IsActing case old world number was → new.marks ≡ old.marks
    → AnswersPurge case.topology (own_view old) (own_view new) interval 1 was node outcome
    → Acts case new world number node (steps.Purge number interval) outcome
purge-acts case old new world number was node interval outcome acting marks is =
    let shape = case.topology in
    let floor = floor_known shape world in
    sym (some-acts shape number (own_view old) (own_view new) (MayAskPurge shape was interval 1 floor) was node outcome world
    (purge shape number interval world) (acting-alone case old new world number was acting) marks
    (acting-of case old world number was acting) (none-is case old world number was interval acting)
    (λ asked may. asked-is case old world number was interval asked acting may) (purge-on shape was interval floor)
    (subst (λ f. AnswersSome shape (own_view old) (own_view new) (MayAskPurge shape was interval 1 f) was node outcome)
    (floor-is case old new world number is.floor was acting is.known) is.answers))
