-- Each injector's row lies in an interval.
use Rattle.std.proofs.Common.{inl, inr, ◌≡◌, ◌∙◌, ◌<◌, ◌+◌, ℕ, true, List, [], length, refl, sym, ap, subst, arith, get_or, Any}
use Rattle.std.specs.Prelude.{MatchOption, Option, None, Some}
use Rattle.std.specs.Ordering.{is_le, is_lt}
use Rattle.std.specs.declared.cmp.Ordering.TheVariants.{Less}
use Rattle.std.proofs.lemmas.Bool.{cases_lt}
use Rattle.std.proofs.lemmas.Option.{slice_get-get_or}
use Rattle.mw_types.specs.Orders.{key_cmp}
use Rattle.key_intervals.specs.declared.bounds.Bounds.{Bounds}
use Rattle.key_intervals.specs.Intervals.{AreIntervals, HasRow, ends_after}
use Rattle.key_intervals.proofs.Beginnings.{empty_first}
use Rattle.key_intervals.proofs.Lookup.{first_of_part, has_row}
use Rattle.topology.specs.Rules.{IsTopology}
use Rattle.topology.specs.Shapes.{Shape, injectors_of}
use Rattle.run_history.specs.Cases.{intervals_of}
use Rattle.run_history.specs.Fences.{interval_of}
use Rattle.run_history.proofs.IntervalLaws.{are-intervals, has-interval_of, part-has_interval}

-- an interval that begins with the empty key has it
first_goes_past : (all : List Bounds) (i : ℕ) (d : Bounds) → AreIntervals all → i < length all → (get_or all i d).from ≡ []
    → ends_after (get_or all i d).to [] ≡ true
first_goes_past all i d are within from = elim (cases_lt (i + 1) (length all)) [
  | inl less ↦ by_end (get_or all i d).to (are.next i d less)
  | inr last ↦ ap (λ (to : Option (List ℕ)). ends_after to []) (are.last i d (omega (arith, within, last)))
]
  where
    next : Bounds
    next = get_or all (i + 1) d

    by_end : (to : Option (List ℕ)) → MatchOption to ((next.part ≡ (get_or all i d).part + 1) × (next.from ≡ []))
        (λ end. (next.part ≡ (get_or all i d).part) × (next.from ≡ end) × (key_cmp (get_or all i d).from end ≡ Less))
        → ends_after to [] ≡ true
    by_end None meets = refl
    by_end (Some end) meets = ap is_lt (ap (λ (k : List ℕ). key_cmp k end) (sym from) ∙ meets.2)

-- the first interval of a part has its row without a key
first-row : (all : List Bounds) (part : ℕ) → AreIntervals all → Any (λ (b : Bounds). b.part ≡ part) all
    → (i : ℕ) × HasRow all i (record { part = part; key = [] })
first-row all part are some =
    let d = some.1 in
    let first = first_of_part all d are some.0 some.2 in
    let within : first.0 < length all = (let below = some.2 in let at = first.1 in omega (arith, below, at)) in
    let of_part : (get_or all first.0 d).part ≡ part = first.2 ∙ ap (λ (b : Bounds). b.part) some.3 ∙ some.4 in (
      first.0,
      (
        get_or all first.0 d,
        slice_get-get_or all first.0 d within,
        has_row (get_or all first.0 d) (record { part = part; key = [] }) of_part
            (subst (λ (k : List ℕ). is_le (key_cmp k []) ≡ true) (sym first.3) (empty_first []))
            (first_goes_past all first.0 d are within first.3),
      ),
    )

-- the row of an injector lies in an interval
pub injector-lies : (shape : Shape) (part : ℕ) → IsTopology shape → part < injectors_of shape
    → (i : ℕ) × (interval_of shape (record { part = part; key = [] }) ≡ Some i)
injector-lies shape part rules below =
    let are = are-intervals shape rules in
    let row = first-row (intervals_of shape) part are (part-has_interval shape part (omega (arith, below))) in
    (row.0, has-interval_of shape row.0 (record { part = part; key = [] }) are row.1)
