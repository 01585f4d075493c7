-- What a node answers that fires a timer, as the scripted world does.
use Rattle.std.proofs.Common.{◌≡◌, ◌∙◌, ◌≤◌, ℕ, Bool, true, false, refl, sym, ap, subst, is_gt, is_lt, le_antisymm}
use Rattle.std.specs.Prelude.{if◌then◌else◌, nat_le, None, Option, Some}
use Rattle.std.specs.Option.{is_some, option_map, option_map_or}
use Rattle.std.specs.Ordering.{ordering_reverse}
use Rattle.std.specs.declared.cmp.Ordering.{Ordering}
use Rattle.std.specs.declared.cmp.Ordering.TheVariants.{Less, Equal, Greater}
use Rattle.std.proofs.lemmas.Bool.{le-leb, leb-true}
use Rattle.mw_types.specs.Outcomes.{EffectsView}
use Rattle.mw_types.specs.declared.entry.Entry.TheVariants as entries
use Rattle.mw_types.specs.declared.identity.RowName.{RowName}
use Rattle.mw_types.specs.declared.timer.Timer.{Timer}
use Rattle.topology.specs.Shapes.{Shape}
use Rattle.run_history.specs.Cases.{CaseShape}
use Rattle.computations.specs.Handlers.{OfTimer}
use Rattle.run_history.specs.Legal.{outcome_of}
use Rattle.run_history.specs.Watermarks.{least}
use Rattle.watermark.specs.Marks.{marks_of}
use Rattle.book.specs.Books.{BookView, LeaseView}
use Rattle.book.specs.OwnDesks.{own_view}
use Rattle.holdings.specs.Holding.{HeldView, held_on, row_held}
use Rattle.holdings.specs.Timers.{due_cmp}
use Rattle.holdings.proofs.TimerLaws.{due_cmp-total}
use Rattle.node.specs.Answers.{AnswersFire, AnswersSome, IsLeastKnown}
use Rattle.node.specs.Asking.{IsTimerHeld, MayAskFire, Request}
use Rattle.node.specs.Workers.{NodeView, Sending, Worker, sending_of, where_passes}
use Rattle.node.specs.declared.outcome.Outcome.{Outcome}
use Rattle.world.specs.scripts.Acts.{Deed, fire, fire_due, fire_effects, fire_under, least_timer, nothing, timers_known, writes}
use Rattle.world.specs.scripts.Worlds.{World, lease_on, worker_of}
use Rattle.plans.specs.declared.step.Step.TheVariants as steps
use Rattle.world.proofs.Firsts.{tied_both_ways}
use Rattle.world.proofs.scripts.deeds.Acting.{Acts, IsActing, acting-worker}
use Rattle.world.proofs.scripts.deeds.Held.{lease_held, lease_on-held, row-held}
use Rattle.world.proofs.scripts.deeds.Left.{IsOnRow, acting-alone, acting-of}
use Rattle.world.proofs.scripts.deeds.Picked.{reduce-picks, reduce-some}
use Rattle.world.proofs.scripts.deeds.Chosen.{free-none, some-acts, worker-free}
use Rattle.world.proofs.scripts.deeds.Timers.{held-set, known-set, set-held, set-known, tied-timers}

-- ---- the least timer of a part

-- a timer is the first of a row that is held, and no first timer of the part is less
pub record IsLeastHeld (shape : Shape) (was : NodeView) (part : ℕ) (due : RowName × Timer) : Type 0 where
  pub set : IsTimerHeld shape was part due.0 due.1
  pub least : (other : RowName) (later : Timer) → IsTimerHeld shape was part other later
      → is_lt (due_cmp (other, later) due) ≡ false

-- what is not above another has none below it
not-below : (a b : RowName × Timer) → is_gt (due_cmp a b) ≡ false → is_lt (due_cmp b a) ≡ false
not-below a b above = ap is_lt (due_cmp-total.antisymm b a) ∙ by_order (due_cmp a b) above
  where
    by_order : (o : Ordering) → is_gt o ≡ false → is_lt (ordering_reverse o) ≡ false
    by_order Less is = refl
    by_order Equal is = refl
    by_order Greater is = is

-- what is neither below nor above another ties with it
neither : (o : Ordering) → is_lt o ≡ false → is_gt o ≡ false → o ≡ Equal
neither Less one other = cc
neither Equal one other = refl
neither Greater one other = cc

-- the least timer that a worker knows is the least that its node holds
least-held : (case : CaseShape) (old : BookView) (world : World) (number : ℕ) (was : NodeView) (part : ℕ) (due : RowName × Timer)
    → IsActing case old world number was → least_timer case.topology world (worker_of world number) part ≡ Some due
    → IsLeastHeld case.topology was part due
least-held case old world number was part due acting is =
    let shape = case.topology in
    let picked = reduce-picks due_cmp-total (timers_known shape world (worker_of world number) part) due is in
    let there = known-set case old world number was part due acting picked.there in
    let first = set-held case old world number was part due acting there in
    let first_there = held-set case old world number was part due.0 first.0 acting first.1 in
    let tie = tied_both_ways due_cmp-total (due.0, first.0) due first.2
    (picked.least (due.0, first.0) (set-known case old world number was part (due.0, first.0) acting first_there)) in
    let same = tied-timers shape world was part (due.0, first.0) due first_there there tie in record {
      set = subst (λ (d : RowName × Timer). IsTimerHeld shape was part d.0 d.1) same first.1;
      least = λ other later held. not-below due (other, later) (picked.least (other, later)
          (set-known case old world number was part (other, later) acting (held-set case old world number was part other later acting held)));
    }

-- and the other way
held-least : (case : CaseShape) (old : BookView) (world : World) (number : ℕ) (was : NodeView) (part : ℕ) (due : RowName × Timer)
    → IsActing case old world number was → IsLeastHeld case.topology was part due
    → least_timer case.topology world (worker_of world number) part ≡ Some due
held-least case old world number was part due acting least =
    let shape = case.topology in
    let known = timers_known shape world (worker_of world number) part in
    let there = held-set case old world number was part due.0 due.1 acting least.set in
    let here = set-known case old world number was part due acting there in
    let found = reduce-some due_cmp-total known due here in
    let picked = reduce-picks due_cmp-total known found.0 found.1 in
    let other = least-held case old world number was part found.0 acting found.1 in
    let tie = neither (due_cmp found.0 due) (least.least found.0.0 found.0.1 other.set) (picked.least due here) in
    found.1 ∙ ap Some (tied-timers shape world was part found.0 due
    (known-set case old world number was part found.0 acting picked.there) there tie)

-- ---- what fires

-- a timer that is due fires, where nothing is prepared, by the row as it is held
due-is : (case : CaseShape) (old : BookView) (world : World) (number : ℕ) (was : NodeView) (mark : ℕ) (due : RowName × Timer)
    (held : HeldView) → IsActing case old world number was → was.prepared ≡ None → held_on case.topology was.held due.0 ≡ Some held
    → fire_due case number world mark due ≡ option_map_or (fire_effects number world mark due held.lease)
    (outcome_of case due.0 (row_held case.topology held due.0) (OfTimer due.1)) (nothing world number)
due-is case old world number was mark due held acting free on =
    ap (λ o. if is_some o then nothing world number else at_lease (lease_on case.topology (worker_of world number) due.0))
    (worker-free case old world number was acting free)
    ∙ ap at_lease (lease_on-held case old world number was due.0 acting ∙ ap (option_map lease_held) on)
    ∙ ap (λ row. option_map_or (fire_effects number world mark due held.lease) (outcome_of case due.0 row (OfTimer due.1))
    (nothing world number)) (row-held case old world number was held due.0 acting on)
  where
    at_lease : Option LeaseView → Deed
    at_lease lease = option_map_or (fire_under case number world mark due) lease (nothing world number)

-- the timer that may fire does
pub asked-is : (case : CaseShape) (old : BookView) (world : World) (number : ℕ) (was : NodeView) (part : ℕ) (asked : Request)
    → IsActing case old world number was → MayAskFire case was part (least (marks_of case.topology part world.marks)) asked
    → fire case number part world ≡ writes world number asked.lease asked.entry (worker_of world number)
asked-is case old world number was part asked acting may =
    let shape = case.topology in
    let mark = least (marks_of shape part world.marks) in
    let due : RowName × Timer = (may.name, may.timer) in
    let next = may.next in
    let held = next.set.held in
    ap (λ o. option_map_or (fire_due case number world mark) (where_passes (λ (d : RowName × Timer). nat_le d.1.time mark) o)
    (nothing world number)) (held-least case old world number was part due acting (record { set = next.set; least = next.least }))
    ∙ ap (λ (b : Bool). option_map_or (fire_due case number world mark) (if b then Some due else None) (nothing world number))
    (le-leb may.timer.time mark next.due)
    ∙ due-is case old world number was mark due held acting next.free next.set.there
    ∙ ap (λ o. option_map_or (fire_effects number world mark due held.lease) o (nothing world number)) may.does
    ∙ ap (λ (a : Request). writes world number a.lease a.entry (worker_of world number)) (sym may.request)

-- where none may fire there is nothing to do
none-is : (case : CaseShape) (old : BookView) (world : World) (number : ℕ) (was : NodeView) (part : ℕ)
    → IsActing case old world number was
    → ((asked : Request) → MayAskFire case was part (least (marks_of case.topology part world.marks)) asked → ⊥)
    → fire case number part world ≡ nothing world number
none-is case old world number was part acting never =
    by_least (least_timer case.topology world (worker_of world number) part) refl
  where
    shape : Shape
    shape = case.topology

    mark : ℕ
    mark = least (marks_of case.topology part world.marks)

    by_effects : (due : RowName × Timer) → nat_le due.1.time mark ≡ true → was.prepared ≡ None
        → (is : IsLeastHeld case.topology was part due) → (o : Option EffectsView)
        → outcome_of case due.0 (row_held case.topology is.set.held due.0) (OfTimer due.1) ≡ o
        → option_map_or (fire_effects number world mark due is.set.held.lease) o (nothing world number) ≡ nothing world number
    by_effects due within free is None does = refl
    by_effects due within free is (Some effects) does = absurd (never (record {
      lease = is.set.held.lease;
      name = due.0;
      entry = entries.Fire is.set.held.lease.seq due.0 due.1 mark effects;
      late = due.1.late;
    }) (record {
      name = due.0;
      timer = due.1;
      next = record { free = free; set = is.set; least = is.least; due = leb-true due.1.time mark within };
      effects = effects;
      does = does;
      request = refl;
    }))

    by_prepared : (due : RowName × Timer) → nat_le due.1.time mark ≡ true → IsLeastHeld case.topology was part due
        → (o : Option Sending) → sending_of was ≡ o → fire_due case number world mark due ≡ nothing world number
    by_prepared due within is (Some sending) there = ap (λ o. if is_some o then nothing world number
        else option_map_or (fire_under case number world mark due) (lease_on case.topology (worker_of world number) due.0)
        (nothing world number)) (ap (λ (w : Worker). w.prepared) (acting-worker case old world number was acting) ∙ there)
    by_prepared due within is None there = let free = free-none case (own_view old) was acting.fits there in
        due-is case old world number was mark due is.set.held acting free is.set.there
        ∙ by_effects due within free is (outcome_of case due.0 (row_held case.topology is.set.held due.0) (OfTimer due.1)) refl

    by_due : (due : RowName × Timer) → IsLeastHeld case.topology was part due → (b : Bool) → nat_le due.1.time mark ≡ b
        → option_map_or (fire_due case number world mark) (if b then Some due else None) (nothing world number)
        ≡ nothing world number
    by_due due is true within = by_prepared due within is (sending_of was) refl
    by_due due is false within = refl

    by_least : (o : Option (RowName × Timer)) → least_timer case.topology world (worker_of world number) part ≡ o
        → option_map_or (fire_due case number world mark) (where_passes (λ (d : RowName × Timer). nat_le d.1.time mark) o)
        (nothing world number) ≡ nothing world number
    by_least None is = refl
    by_least (Some due) is =
        by_due due (least-held case old world number was part due acting is) (nat_le due.1.time mark) refl

-- a timer that fires is on its row
fire-on : (case : CaseShape) (was : NodeView) (part mark : ℕ) (asked : Request) → MayAskFire case was part mark asked → IsOnRow asked
fire-on case was part mark asked may = subst IsOnRow (sym may.request) refl

-- the least mark that is known of a part is that of the scripted world
pub mark-is : (case : CaseShape) (old new : BookView) (world : World) (number part mark : ℕ) (was : NodeView)
    → IsActing case old world number was → new.marks ≡ old.marks
    → IsLeastKnown case.topology part (own_view old) (own_view new) mark → mark ≡ least (marks_of case.topology part world.marks)
mark-is case old new world number part mark was acting marks known =
    le_antisymm (subst (λ m. mark ≤ least (marks_of case.topology part m)) (marks ∙ sym acting.marks) known.at_most)
    (subst (λ m. least (marks_of case.topology part m) ≤ mark) (sym acting.marks) known.at_least)

-- a timer
pub fire-acts : (case : CaseShape) (old new : BookView) (world : World) (number : ℕ) (was node : NodeView) (part : ℕ)
    (outcome : Outcome) → IsActing case old world number was → new.marks ≡ old.marks
    → AnswersFire case (own_view old) (own_view new) part was node outcome
    → Acts case new world number node (steps.Fire number part) outcome
fire-acts case old new world number was node part outcome acting marks is =
    let shape = case.topology in
    let mark = least (marks_of shape part world.marks) in
    sym (some-acts shape number (own_view old) (own_view new) (MayAskFire case was part mark) was node outcome world
    (fire case number part world) (acting-alone case old new world number was acting) marks (acting-of case old world number was acting)
    (none-is case old world number was part acting) (λ asked may. asked-is case old world number was part asked acting may)
    (fire-on case was part mark)
    (subst (λ m. AnswersSome shape (own_view old) (own_view new) (MayAskFire case was part m) was node outcome)
    (mark-is case old new world number part is.mark was acting marks is.known) is.answers))
