-- The own work of an interval, as it is known under a claim of it, is the same by a beginning as by the whole.
use Rattle.std.proofs.Common.{◌≡◌, ◌-◌, ℕ, Bool, true, false, cond, List, [], ◌∷◌, ◌++◌, map, refl, sym, ap, subst}
use Rattle.std.specs.Prelude.{None, Some, slice_get, unwrap_or}
use Rattle.std.specs.Option.{option_map}
use Rattle.std.specs.List.{AllByRecursion, flat_map}
use Rattle.std.proofs.lemmas.Bool.{eq-eqb}
use Rattle.mw_types.specs.declared.entry.Entry.{Entry}
use Rattle.mw_types.specs.declared.entry.Entry.TheVariants.{Claim}
use Rattle.mw_types.specs.declared.identity.RowName.{RowName}
use Rattle.key_intervals.specs.declared.bounds.Bounds.{Bounds}
use Rattle.key_intervals.specs.Intervals.{bounds_from, bounds_of, covers, rows_covered}
use Rattle.topology.specs.Shapes.{ComputationShape, Shape, cuts_of, injectors_of}
use Rattle.topology.specs.Rules.{IsTopology}
use Rattle.injector.specs.Sources.{stated_at}
use Rattle.row_parts.specs.Contents.{Contents, fresh, cursor_in}
use Rattle.run_history.specs.Cases.{CaseShape, fresh_of, intervals_of, is_injector, source_of}
use Rattle.run_history.specs.Fences.{CarryNot, IsFenced, known}
use Rattle.run_history.specs.Marks.{own_work, row_marks, stated_marks}
use Rattle.run_history.specs.Runs.{Run, row_of, run_of}
use Rattle.run_history.specs.Watermarks.{least, source_mark}
use Rattle.run_history.proofs.IntervalLaws.{are-intervals, has-interval_of}
use Rattle.list_lemmas.proofs.Lists.{each-append}
use Rattle.list_lemmas.proofs.Places.{each-at}
use Rattle.history_laws.proofs.CoveredLaws.{rows_covered-known}
use Rattle.history_laws.proofs.FenceLaws.{row_in-known}

-- ---- the interval of an injector

-- an interval of an injector has the empty key
abbrev pub HasOwnRow : Shape → Bounds → Type 0
HasOwnRow shape b = is_injector shape b.part ≡ true → covers b (record { part = b.part; key = [] }) ≡ true

-- so have those of a part whose cuts are none where it is an injector
pub bounds-own : (shape : Shape) (part : ℕ) (from : List ℕ) (cuts : List (List ℕ))
    → (is_injector shape part ≡ true → (cuts ≡ []) × (from ≡ [])) → AllByRecursion (HasOwnRow shape) (bounds_from part from cuts)
bounds-own shape part from [] none = (
  (λ is. subst (λ (f : List ℕ). covers (record { part = part; from = f; to = None }) (record { part = part; key = [] }) ≡ true)
      (sym (none is).1) (rw (eq-eqb part part refl) refl)),
  tt,
)
bounds-own shape part from (cut ∷ cuts) none = (
  (λ is. absurd (let e = (none is).0 in cc)),
  bounds-own shape part cut cuts (λ is. absurd (let e = (none is).0 in cc)),
)

-- an injector has no cuts
pub no-cuts : (shape : Shape) (part : ℕ) → is_injector shape part ≡ true → cuts_of shape part ≡ []
no-cuts shape part is = ap (λ b. unwrap_or (option_map (λ (c : ComputationShape). c.cuts)
    (cond b None (slice_get shape.computations (part - injectors_of shape)))) []) is

-- so have those of all parts
pub all-own : (shape : Shape) (parts : List ℕ)
    → AllByRecursion (HasOwnRow shape) (bounds_of (map (λ (part : ℕ). record { part = part; cuts = cuts_of shape part }) parts))
all-own shape [] = tt
all-own shape (part ∷ parts) = each-append (HasOwnRow shape) (bounds_from part [] (cuts_of shape part))
    (bounds_of (map (λ (p : ℕ). record { part = p; cuts = cuts_of shape p }) parts))
    (bounds-own shape part [] (cuts_of shape part) (λ is. (no-cuts shape part is, refl))) (all-own shape parts)

-- so has each interval, by its number
pub has-own_row : (shape : Shape) (interval : ℕ) (b : Bounds) → slice_get (intervals_of shape) interval ≡ Some b → HasOwnRow shape b
has-own_row shape interval b at = each-at (HasOwnRow shape) (intervals_of shape) interval b (all-own shape _) at

-- ---- own work

-- what an injector's file states is the same by two runs that have the same row of it
stated-same : (case : CaseShape) (one other : Run) (part : ℕ)
    → (is_injector case.topology part ≡ true
    → row_of case.topology one (record { part = part; key = [] }) ≡ row_of case.topology other (record { part = part; key = [] }))
    → stated_marks case one part ≡ stated_marks case other part
stated-same case one other part same = by_part (is_injector case.topology part) refl
  where
    by_part : (b : Bool) → is_injector case.topology part ≡ b
        → cond b (source_mark case one part ∷ []) [] ≡ cond b (source_mark case other part ∷ []) []
    by_part true is = ap (λ (r : Contents). stated_at (source_of case part) (cursor_in r.state) ∷ []) (same is)
    by_part false is = refl

-- the own work of an interval, as it is known under a claim of it, is the same by a beginning as by the whole, where the
-- beginning has the claim and all that was written under it
pub own_work-known : (case : CaseShape) (interval seq worker : ℕ) (b : Bounds) (front rest : List Entry) → IsTopology case.topology
    → slice_get (intervals_of case.topology) interval ≡ Some b → IsFenced case.topology (front ++ rest)
    → slice_get front seq ≡ Some (Claim worker interval) → CarryNot seq rest
    → own_work case (run_of case.topology (known interval seq (front ++ rest))) b
    ≡ own_work case (run_of case.topology (known interval seq front)) b
own_work-known case interval seq worker b front rest rules at fenced claimed none =
    λ i. least (flat_map (λ (r : RowName × Contents). row_marks r.1) (rows i) ++ stated i)
  where
    one : Run
    one = run_of case.topology (known interval seq (front ++ rest))

    other : Run
    other = run_of case.topology (known interval seq front)

    rows : rows_covered b one.rows ≡ rows_covered b other.rows
    rows = rows_covered-known case.topology interval seq worker b front rest rules at fenced claimed none

    stated : stated_marks case one b.part ≡ stated_marks case other b.part
    stated = stated-same case one other b.part (λ is.
        let name : RowName = record { part = b.part; key = [] } in
        ap (λ o. unwrap_or o (fresh (fresh_of case.topology b.part)))
        (row_in-known case.topology interval seq worker front rest fenced claimed none name
        (has-interval_of case.topology interval name (are-intervals case.topology rules) (b, at, has-own_row case.topology interval b at is))))
