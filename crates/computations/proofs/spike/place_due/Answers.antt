use Rattle.std.proofs.Common.{rules, subst, sym, ◌∙◌, ◌≡◌, ◌≢◌, None, slice_get}
use Rattle.std.proofs.lemmas.Option.{slice_get_within}
use Rattle.mw_types.specs.declared.state.HeldTotal.{HeldTotal}
use Rattle.computations.specs.Handlers.{due_time}
use Rattle.computations.specs.Places.{IsFirstFrom}
use Rattle.computations.proofs.Totals.{find_due_total, find_none_past, find_none_due, ended_where_none}
use Rattle.computations.proofs.spike.place_due.Goals as goal

-- no total stands there
pub returns-in_default-clause-none : goal.returns-in_default-clause-none
returns-in_default-clause-none c =
    let held = c.args.held.now in
    let at = c.first_from-at.result in
    let first = subst (λ n. IsFirstFrom (λ (h : HeldTotal). h.stamp) held n at) c.saturating_sub.ensures c.first_from-at.ensures in
    let missing : slice_get held at ≡ None = search rules in
    find_none_past held c.args.time at first (ended_where_none held at missing)

-- the total there is read
pub returns-then-due_time-time-clause-place : goal.returns-then-due_time-time-clause-place
returns-then-due_time-time-clause-place c =
    slice_get_within c.args.held.now c.first_from-at.result c.in-Some.total.now (sym c.in-Some.ensures.element)

-- and is due
pub returns-then-due_time-time-clause-first : goal.returns-then-due_time-time-clause-first
returns-then-due_time-time-clause-first c =
    let held = c.args.held.now in
    let at = c.first_from-at.result in
    let first = subst (λ n. IsFirstFrom (λ (h : HeldTotal). h.stamp) held n at) c.saturating_sub.ensures c.first_from-at.ensures in
    let read = sym c.in-Some.ensures.element in
    let due : due_time c.in-Some.total.now.stamp ≡ c.args.time = search rules in
    find_due_total held c.args.time at first c.in-Some.total.now read due ∙ sym read

-- it is not due, nor is one after it
pub returns-else-due_time-time-clause-none : goal.returns-else-due_time-time-clause-none
returns-else-due_time-time-clause-none c =
    let held = c.args.held.now in
    let at = c.first_from-at.result in
    let first = subst (λ n. IsFirstFrom (λ (h : HeldTotal). h.stamp) held n at) c.saturating_sub.ensures c.first_from-at.ensures in
    let not_due : due_time c.in-Some.total.now.stamp ≢ c.args.time = search rules in
    find_none_due held c.args.time at first c.in-Some.total.now c.requires.within.ascending c.requires.in_time (sym c.in-Some.ensures.element) not_due
