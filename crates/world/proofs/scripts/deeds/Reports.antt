-- What a node answers that reports on an interval, as the scripted world does.
use Rattle.std.proofs.Common.{◌≡◌, ◌∙◌, ◌<◌, ℕ, refl, sym, ap, subst}
use Rattle.std.specs.Prelude.{IfSome, None, Option, Some, slice_get, slice_set}
use Rattle.std.specs.Option.{option_map, option_map_or}
use Rattle.std.proofs.lemmas.List.{append-nil}
use Rattle.list_lemmas.proofs.Places.{slice_get-some}
use Rattle.key_intervals.specs.declared.bounds.Bounds.{Bounds}
use Rattle.topology.specs.Rules.{interval_count}
use Rattle.topology.specs.Shapes.{Shape}
use Rattle.run_history.specs.Cases.{CaseShape, intervals_of}
use Rattle.run_history.specs.Fences.{IsCurrent, known}
use Rattle.run_history.specs.Marks.{own_work}
use Rattle.run_history.specs.Runs.{cached, run_of}
use Rattle.run_history.proofs.CaseIntervals.{length-intervals}
use Rattle.book.specs.Books.{BookView}
use Rattle.book.specs.Marks.{reported, with_mark}
use Rattle.book.specs.OwnDesks.{own_view}
use Rattle.holdings.specs.Holding.{HeldView, held_at}
use Rattle.holdings.proofs.OwnLaws.{own_work-known}
use Rattle.node.specs.Answers.{AnswersReport, AnswersReportOf, IsMarked}
use Rattle.node.specs.Workers.{NodeView}
use Rattle.node.specs.declared.outcome.Outcome.{Outcome}
use Rattle.node.specs.declared.outcome.Outcome.TheVariants as outcomes
use Rattle.world.specs.scripts.Acts.{changed_by, done, nothing, report, report_own, report_under}
use Rattle.world.specs.scripts.Worlds.{World, run_known}
use Rattle.plans.specs.declared.step.Step.TheVariants as steps
use Rattle.world.proofs.scripts.OwnerLaws.{done-current}
use Rattle.world.proofs.scripts.deeds.Acting.{Acts, IsActing, acting-worker, tells}
use Rattle.world.proofs.scripts.deeds.Held.{lease_held, lease_of-held}
use Rattle.world.proofs.scripts.deeds.Left.{acted-same, acting-alone, acting-of, idle-acts, left_world, moved-alone, not-turned, stale-acts, workers-same}

-- an interval that is there has bounds
bounds-there : (shape : Shape) (interval : ℕ) → interval < interval_count shape
    → (bounds : Bounds) × (slice_get (intervals_of shape) interval ≡ Some bounds)
bounds-there shape interval within =
    slice_get-some (intervals_of shape) interval (subst (λ n. interval < n) (sym (length-intervals shape)) within)

-- what is reported under a lease is what is held of its interval
under-is : (case : CaseShape) (old : BookView) (world : World) (number : ℕ) (was : NodeView) (interval : ℕ) (held : HeldView)
    (bounds : Bounds) → IsActing case old world number was → held_at was.held interval ≡ Some held
    → slice_get (intervals_of case.topology) interval ≡ Some bounds
    → report case number interval world ≡ report_own case number world held.lease bounds
under-is case old world number was interval held bounds acting at there =
    ap (λ o. option_map_or (report_under case number world) o (nothing world number))
    (lease_of-held case old world number was interval acting ∙ ap (option_map lease_held) at)
    ∙ ap (λ o. option_map_or (report_own case number world held.lease) o (nothing world number))
    (ap (slice_get (intervals_of case.topology)) (acting.fits.held.each interval held at).of_interval ∙ there)

-- the own work by the rows that are cached is the own work as it is known
own-is : (case : CaseShape) (old : BookView) (world : World) (number : ℕ) (was : NodeView) (interval own : ℕ) (held : HeldView)
    (bounds : Bounds) → IsActing case old world number was → held_at was.held interval ≡ Some held
    → slice_get (intervals_of case.topology) interval ≡ Some bounds → own ≡ own_work case (cached held.rows) bounds
    → own ≡ own_work case (run_known case.topology world held.lease) bounds
own-is case old world number was interval own held bounds acting at there is =
    subst (λ t. IfSome t (λ _. own ≡ own_work case (run_of case.topology (known held.lease.interval held.lease.seq old.history)) bounds))
    (tells old.rows acting.told)
    (own_work-known case (own_view old) interval held bounds (acting.fits.held.each interval held at) there
    acting.lawful.runnable.topology own is)
    ∙ ap (λ h. own_work case (run_of case.topology (known held.lease.interval held.lease.seq h)) bounds) (sym acting.history)

-- a mark that was set
marked-acts : (case : CaseShape) (old new : BookView) (world : World) (number : ℕ) (was node : NodeView) (interval mark : ℕ)
    (held : HeldView) (bounds : Bounds) → IsActing case old world number was → held_at was.held interval ≡ Some held
    → slice_get (intervals_of case.topology) interval ≡ Some bounds
    → IsMarked case (own_view old) (own_view new) held was node mark
    → done case.topology world (report_own case number world held.lease bounds)
    ≡ (outcomes.Marked mark, left_world (own_view new) number node world.flight world)
marked-acts case old new world number was node interval mark held bounds acting at there m =
    let shape = case.topology in
    let lease = held.lease in
    let deed = report_own case number world lease bounds in
    let here = (acting.fits.held.each interval held at).of_interval in
    let reported_is = m.report.alone refl in
    let own = own-is case old world number was interval m.report.own held bounds acting at there
    (m.report.of_rows bounds (ap (slice_get (intervals_of shape)) here ∙ there)) in
    let mark_is : reported shape lease.interval (own_work case (run_known shape world lease) bounds) world.marks ≡ mark =
    ap (λ o. reported shape lease.interval o world.marks) (sym own) ∙ ap (reported shape lease.interval m.report.own) acting.marks
    ∙ ap (λ (c : CaseShape). reported c.topology lease.interval m.report.own old.marks) (sym acting.of_case) ∙ sym reported_is.answer in
    done-current shape world deed lease refl (subst (IsCurrent lease.interval lease.seq) (sym acting.history) reported_is.last)
    ∙ acted-same deed.answer (outcomes.Marked mark) (changed_by shape world deed)
    (left_world (own_view new) number node world.flight world) (ap outcomes.Marked mark_is)
    (append-nil world.history ∙ acting.history ∙ sym (moved-alone (own_view old) (own_view new) new.history m.idle.looked refl))
    (ap (λ k. with_mark lease.interval k world.marks) mark_is ∙ ap (with_mark lease.interval mark) acting.marks
    ∙ sym reported_is.raised)
    (sym (ap (slice_set world.workers number) (m.idle.kept ∙ sym (acting-worker case old world number was acting))
    ∙ workers-same world number)) refl refl refl refl

-- what is answered under a lease
answer-acts : (case : CaseShape) (old new : BookView) (world : World) (number : ℕ) (was node : NodeView) (interval : ℕ)
    (outcome : Outcome) (held : HeldView) (bounds : Bounds) → IsActing case old world number was
    → (((mark : ℕ) → outcome ≡ outcomes.Marked mark → ⊥) → new.marks ≡ old.marks) → held_at was.held interval ≡ Some held
    → slice_get (intervals_of case.topology) interval ≡ Some bounds
    → AnswersReportOf case (own_view old) (own_view new) held was node outcome
    → done case.topology world (report_own case number world held.lease bounds)
    ≡ (outcome, left_world (own_view new) number node world.flight world)
answer-acts case old new world number was node interval (outcomes.Marked mark) held bounds acting marks at there is =
    marked-acts case old new world number was node interval mark held bounds acting at there is
answer-acts case old new world number was node interval (outcomes.Stale newer) held bounds acting marks at there is =
    stale-acts case.topology number (own_view old) (own_view new) held.lease was node newer world
    (report_own case number world held.lease bounds) (acting-alone case old new world number was acting) (marks (λ mark same. cc))
    (acting-of case old world number was acting) refl refl is
answer-acts case old new world number was node interval (outcomes.Busy found) held bounds acting marks at there is =
    absurd (not-turned (own_view old) (own_view new) held.lease was node found (acting-alone case old new world number was acting) is)
answer-acts case old new world number was node interval _ held bounds acting marks at there is = absurd is

-- a report
pub report-acts : (case : CaseShape) (old new : BookView) (world : World) (number : ℕ) (was node : NodeView) (interval : ℕ)
    (outcome : Outcome) → IsActing case old world number was
    → (((mark : ℕ) → outcome ≡ outcomes.Marked mark → ⊥) → new.marks ≡ old.marks) → interval < interval_count case.topology
    → AnswersReport case (own_view old) (own_view new) (held_at was.held interval) was node outcome
    → Acts case new world number node (steps.Report number interval) outcome
report-acts case old new world number was node interval outcome acting marks within is = by_held (held_at was.held interval) refl is
  where
    there : (bounds : Bounds) × (slice_get (intervals_of case.topology) interval ≡ Some bounds)
    there = bounds-there case.topology interval within

    by_held : (o : Option HeldView) → held_at was.held interval ≡ o
        → AnswersReport case (own_view old) (own_view new) o was node outcome
        → Acts case new world number node (steps.Report number interval) outcome
    by_held None at answers = sym (ap (done case.topology world)
        (ap (λ o. option_map_or (report_under case number world) o (nothing world number))
        (lease_of-held case old world number was interval acting ∙ ap (option_map lease_held) at))
        ∙ idle-acts case.topology number (own_view old) (own_view new) was node outcomes.Nothing world.flight world
        (acting-alone case old new world number was acting)
        (marks (λ mark same. let e : outcomes.Nothing ≡ outcomes.Marked mark = sym answers.0 ∙ same in cc))
        (acting-of case old world number was acting) answers.1
        ∙ ap (λ o. (o, left_world (own_view new) number node world.flight world)) (sym answers.0))
    by_held (Some held) at answers = sym (ap (done case.topology world)
        (under-is case old world number was interval held there.0 acting at there.1)
        ∙ answer-acts case old new world number was node interval outcome held there.0 acting marks at there.1 answers)
