-- What the parts of a topology leave keeps the laws of computations: lemmas, of which a reader needs none.
use Rattle.std.proofs.Common.{◌≡◌, ◌≤◌, ℕ, true, List, [], All, sym, subst}
use Rattle.std.specs.Option.{option_map_or}
use Rattle.std.specs.List.{AllByRecursion}
use Rattle.std.proofs.lemmas.List.Elements.{All-from_recursion, All-weaker}
use Rattle.mw_types.specs.declared.TheConstants.{MAX_STAMP}
use Rattle.mw_types.specs.declared.kind.Kind.{Kind}
use Rattle.mw_types.specs.declared.state.State.{State}
use Rattle.mw_types.specs.declared.record.Production.{Production}
use Rattle.mw_types.specs.declared.timer.Timer.{Timer}
use Rattle.mw_types.specs.Kinds.{IsKind}
use Rattle.mw_types.specs.Bounds.{IsWithin}
use Rattle.mw_types.specs.Outcomes.{EffectsView}
use Rattle.computations.specs.Handlers.{Cause, stamp_of, is_late_cause, has_kind, unchanged, effects_of}
use Rattle.computations.specs.Laws.{IsLawful, AreLawful, SetNoneUnlessRecords}
use Rattle.computations.specs.Parts.{HasState, part_doings}
use Rattle.computations.specs.Leaving.{Leaves, IsTimerAfter, IsProductionAfter}
use Rattle.computations.specs.LeavingLaws.{effects-leave}

-- what each element of a list is, as a weaker fact of each
each-as : {X : Type 0} (P Q : X → Type 0) → ((x : X) → P x → Q x) → (xs : List X) → AllByRecursion P xs → All Q xs
each-as P Q weaker xs each = All-weaker P Q weaker xs (All-from_recursion P xs each)

-- what a kind leaves in a row with a state of the kind is lawful
leaves-lawful : (MayHave : State → Type 0) (kind : Kind) (key : List ℕ) (state : State) (cause : Cause)
    (o : EffectsView) → Leaves kind key state cause o → IsKind kind → has_kind kind state ≡ true →
    ((s : State) → has_kind kind s ≡ true → MayHave s) → IsWithin state → stamp_of cause ≤ MAX_STAMP →
    IsLawful cause MayHave o
leaves-lawful MayHave kind key state cause o leaves ranged of may within in_time =
    let timers = leaves.timers.each ranged in_time in
    let productions = leaves.productions.each ranged in_time in record {
      kept = may o.state (leaves.left.kept of);
      within = λ short. record {
        state_within = leaves.left.within ranged of in_time within short;
        times = each-as (IsTimerAfter cause) (λ (t : Timer). t.time ≤ MAX_STAMP) (λ t after. after.in_time)
            o.timers timers;
        stamps = each-as (IsProductionAfter cause) (λ (p : Production). p.stamp ≤ MAX_STAMP)
            (λ p after. after.in_time) o.productions productions;
      };
      timers_after = each-as (IsTimerAfter cause) (λ (t : Timer). stamp_of cause ≤ t.time) (λ t after. after.after)
          o.timers timers;
      timers_as_late = each-as (IsTimerAfter cause) (λ (t : Timer). t.late ≡ is_late_cause cause)
          (λ t after. after.as_late) o.timers timers;
      few_timers = leaves.timers.few;
      productions_after = each-as (IsProductionAfter cause) (λ (p : Production). stamp_of cause ≤ p.stamp)
          (λ p after. after.after) o.productions productions;
      few_productions = leaves.productions.few;
    }

-- a part keeps the laws at each cause
pub part-lawful : AreLawful part_doings
part-lawful parts part key state cause (kind, at, ranged, of_kind) within in_time =
    subst (λ o. IsLawful cause (HasState parts part)
    (option_map_or (λ kind. effects_of kind key state cause) o (unchanged state))) (sym at)
    (leaves-lawful (HasState parts part) kind key state cause (effects_of kind key state cause)
    (effects-leave kind key state cause) ranged of_kind (λ s of. (kind, at, ranged, of)) within in_time)

-- a part sets no timer unless at a record
pub part-sets_none : SetNoneUnlessRecords part_doings
part-sets_none parts part key state cause (kind, at, ranged, of_kind) within in_time other =
    subst (λ o. (option_map_or (λ kind. effects_of kind key state cause) o (unchanged state)).timers ≡ [])
    (sym at) ((effects-leave kind key state cause).timers.none other)
