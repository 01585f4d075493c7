-- The topology of one count keeps the rules.
use Rattle.std.proofs.Common.{◌≡◌, ℕ, zero, suc, ◌-◌, ◌≤◌, Bool, true, false, cond, Option, None, [], ◌∷◌, length, take, All, Contains, true≢false, refl, sym, arith, lit≤, lit<}
use Rattle.std.specs.List.Sorted.{IsStrictlySortedBy}
use Rattle.std.proofs.lemmas.List.Elements.{All-nil, All-cons}
use Rattle.std.proofs.lemmas.Option.{slice_get_past}
use Rattle.mw_types.specs.Kinds.{IsKind}
use Rattle.mw_types.specs.declared.kind.Kind.TheVariants.{Count}
use Rattle.topology.specs.Shapes.{Shape, Reading, ComputationShape, injectors_of, parts_of, streams_of, computation_of, reads_of}
use Rattle.topology.specs.Rules.{IsTopology, AreCutKeys, IsPassWhereWeak}
use Rattle.topology.specs.Samples.{one_count}

-- what holds of an element holds of each of the list of it alone
pub all_one : {X : Type 0} (P : X → Type 0) (x : X) → P x → All P (x ∷ [])
all_one P x holds = All-cons P x [] holds (All-nil P)

-- no cuts are cuts
pub no_cuts : AreCutKeys []
unfolding IsStrictlySortedBy
no_cuts = record { some = All-nil _; short = All-nil _; ascending = tt }

-- both ways give none
none_either_way : {X : Type 0} (b : Bool) (o : Option X) → o ≡ None → cond b None o ≡ None
none_either_way true o e = refl
none_either_way false o e = e

-- past the parts there is no computation
pub computation_of-past : (shape : Shape) (part : ℕ) → parts_of shape ≤ part → computation_of shape part ≡ None
computation_of-past shape part past = none_either_way _ _ (slice_get_past shape.computations (part - injectors_of shape) (omega arith))

-- the count reads the injector's stream
one_count-above : (size part : ℕ) → All (λ (r : Reading). Contains (take part (streams_of (one_count size))) r.stream) (reads_of (one_count size) part)
one_count-above size zero = All-nil _
one_count-above size (suc zero) = all_one (λ (r : Reading). Contains (take 1 (streams_of (one_count size))) r.stream) _ (0, lit< tt, refl)
one_count-above size (suc (suc n)) = rw (computation_of-past (one_count size) (suc (suc n)) (omega arith)) (All-nil _)

-- a count of this size is one
pub one_count-is_topology : (size : ℕ) → IsKind (Count size) → IsTopology (one_count size)
one_count-is_topology size kind = record {
  some_injector = lit≤ tt;
  few_injectors = lit≤ tt;
  few_computations = lit≤ tt;
  few_readings = lit≤ tt;
  few_intervals = lit≤ tt;
  names = refl;
  streams = refl;
  names_differ = refl;
  streams_differ = refl;
  reading = all_one (λ (c : ComputationShape). 1 ≤ length c.reads) _ (lit≤ tt);
  above = one_count-above size;
  kinds = all_one (λ (c : ComputationShape). IsKind c.kind) _ kind;
  cuts = all_one (λ (c : ComputationShape). AreCutKeys c.cuts) _ no_cuts;
  foldable = refl;
  passes = all_one IsPassWhereWeak _ (λ e. absurd (true≢false (sym e)));
}
