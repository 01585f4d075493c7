-- A timer that is set and an id that was seen are of a part that is there, and a timer of a computation.
use Rattle.std.proofs.Common.{◌≡◌, ◌≢◌, ◌<◌, ◌≤◌, Bool, true, false, List, [], refl, sym, ap, subst, arith}
use Rattle.std.specs.Prelude.{Option, Some, None, IsSome, Contains, unwrap_or}
use Rattle.std.proofs.lemmas.Bool.{ltb-false}
use Rattle.mw_types.specs.declared.identity.RowName.{RowName}
use Rattle.mw_types.specs.declared.timer.Timer.{Timer}
use Rattle.mw_types.specs.declared.entry.Entry.{Entry}
use Rattle.topology.specs.Shapes.{Shape, injectors_of, parts_of}
use Rattle.row_parts.specs.Contents.{Contents, fresh}
use Rattle.run_history.specs.Cases.{CaseShape, is_injector, fresh_of}
use Rattle.run_history.specs.Runs.{Run, run_of, row_in, row_of}
use Rattle.run_history.specs.Legal.{IsLegal}
use Rattle.history_laws.proofs.FitLaws.{legal-of_kind}
use Rattle.history_laws.proofs.PrintLaws.{legal-on_parts}

-- no list has an element where it is empty
none-has : {X : Type 0} (xs : List X) (x : X) → xs ≡ [] → Contains xs x → ⊥
none-has xs x is has = let none = subst (λ l. Contains l x) is has in let within = none.1 in omega (arith, within)

-- a row that differs from a fresh one is there
pub row-there : (shape : Shape) (run : Run) (name : RowName) → (row_of shape run name ≡ fresh (fresh_of shape name.part) → ⊥)
    → IsSome (row_in run name)
row-there shape run name differs = by_found (row_in run name) refl
  where
    by_found : (o : Option Contents) → row_in run name ≡ o → IsSome (row_in run name)
    by_found None is = absurd (differs (ap (λ p. unwrap_or p (fresh (fresh_of shape name.part))) is))
    by_found (Some c) is = subst IsSome (sym is) refl

-- a timer that is set is of a part that is there
pub timer-part : (case : CaseShape) (history : List Entry) (row : RowName) (timer : Timer) → IsLegal case history
    → Contains (row_of case.topology (run_of case.topology history) row).timers timer → row.part < parts_of case.topology
timer-part case history row timer legal has =
    (legal-on_parts case history legal).rows row (row-there case.topology (run_of case.topology history) row
    (λ is. none-has _ timer (ap (λ (c : Contents). c.timers) is) has))

-- and of a computation
pub timer-computation : (case : CaseShape) (history : List Entry) (row : RowName) (timer : Timer) → IsLegal case history
    → Contains (row_of case.topology (run_of case.topology history) row).timers timer → injectors_of case.topology ≤ row.part
timer-computation case history row timer legal has =
    by_test (is_injector case.topology row.part) refl
  where
    by_test : (b : Bool) → is_injector case.topology row.part ≡ b → injectors_of case.topology ≤ row.part
    by_test true is = absurd (none-has _ timer ((legal-of_kind case history legal).no_timers row is) has)
    by_test false is = ltb-false row.part (injectors_of case.topology) is

-- a row that has seen ids is of a part that is there
pub seen-part : (case : CaseShape) (history : List Entry) (row : RowName) → IsLegal case history
    → (row_of case.topology (run_of case.topology history) row).seen ≢ [] → row.part < parts_of case.topology
seen-part case history row legal some =
    (legal-on_parts case history legal).rows row (row-there case.topology (run_of case.topology history) row
    (λ is. some (ap (λ (c : Contents). c.seen) is)))
