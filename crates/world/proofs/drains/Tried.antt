-- What a drain does next, by tests of all that the rows of a run hold, for a run that can be computed.
use Rattle.std.proofs.Common.{◌≡◌, ◌≢◌, ◌⊎◌, ◌&&◌, ◌||◌, Bool, true, false, List, [], ◌∷◌, refl, sym, ◌∙◌, ap, subst, arith, inl, inr}
use Rattle.std.specs.Prelude.{Option, Some, None, IsSome, Contains, nat_lt}
use Rattle.std.specs.List.{list_all}
use Rattle.std.specs.Cmp.{tied_itself}
use Rattle.std.specs.Ordering.{is_eq, is_gt, ordering_then}
use Rattle.std.specs.declared.cmp.Ordering.TheVariants.{Equal}
use Rattle.std.proofs.lemmas.Bool.{and_parts, ltb-true}
use Rattle.std.proofs.lemmas.List.Elements.{All-contains, All-from_recursion}
use Rattle.list_lemmas.proofs.Tests.{equal_from_test}
use Rattle.list_lemmas.proofs.Places.{each-passes}
use Rattle.mw_types.specs.Orders.{id_cmp, row_cmp, timer_cmp, key_cmp}
use Rattle.mw_types.proofs.OrderLaws.{id_cmp-total, key_cmp-total}
use Rattle.mw_types.specs.declared.identity.RecordId.{RecordId}
use Rattle.mw_types.specs.declared.identity.RowName.{RowName}
use Rattle.mw_types.specs.declared.delivery.Delivery.{Delivery}
use Rattle.mw_types.specs.declared.timer.Timer.{Timer}
use Rattle.topology.specs.Shapes.{Shape}
use Rattle.row_parts.specs.Contents.{Contents, fresh, same_id, found_delivery}
use Rattle.run_history.specs.Cases.{CaseShape, fresh_of}
use Rattle.run_history.specs.Runs.{Run, row_of}
use Rattle.run_history.specs.Watermarks.{low_watermark}
use Rattle.history_laws.proofs.IdLaws.{same_id-true}
use Rattle.history_laws.proofs.RowSteps.{same_row}
use Rattle.list_lemmas.proofs.Lists.{find-each, find-passes}
use Rattle.book.specs.Senders.{IsPendingIn, IsLeastSent}
use Rattle.world.specs.drains.Drains.{IsDue}
use Rattle.world.proofs.drains.FirstItems.{row_of-named}

-- what all rows of a run pass, and a fresh row, the row of each name passes
row-passes : (shape : Shape) (run : Run) (test : RowName → Contents → Bool)
    → list_all (λ (r : RowName × Contents). test r.0 r.1) run.rows ≡ true
    → (name : RowName) → test name (fresh (fresh_of shape name.part)) ≡ true → test name (row_of shape run name) ≡ true
row-passes shape run test all name new =
    row_of-named shape (λ n c. test n c ≡ true) name run.rows (each-passes (λ (r : RowName × Contents). test r.0 r.1) run.rows all) new

-- an element of a list that all pass a test passes it
has-passes : {X : Type 0} (test : X → Bool) (xs : List X) (x : X) → list_all test xs ≡ true → Contains xs x → test x ≡ true
has-passes test xs x all has = All-contains (λ y. test y ≡ true) xs x
    (All-from_recursion (λ y. test y ≡ true) xs (each-passes test xs all)) has

-- of two tests of which one passes, the one does or the other
either : (a b : Bool) → (a || b) ≡ true → (a ≡ true) ⊎ (b ≡ true)
either true b e = inl refl
either false b e = inr e

-- whether this id alone is pending
abbrev pub is_alone : Run → RecordId → Bool
is_alone run id = list_all (λ (r : RowName × Contents). list_all (λ (d : Delivery). same_id d.id id) r.1.pending) run.rows

-- an id that alone is pending is the least
pub alone-least : (shape : Shape) (run : Run) (id : RecordId) (sender : RowName) → is_alone run id ≡ true → IsPendingIn shape run id sender
    → IsLeastSent shape run id sender
alone-least shape run id sender alone pending = record {
  pending = pending;
  least = λ other name pends. by_found other name (found_delivery other (row_of shape run name).pending) refl pends;
}
  where
    by_found : (other : RecordId) (name : RowName) (o : Option Delivery) → found_delivery other (row_of shape run name).pending ≡ o
        → IsSome o → is_gt (id_cmp id other) ≡ false
    by_found other name None is some = absurd (cc)
    by_found other name (Some d) is some =
        let passes = find-each (λ (e : Delivery). same_id e.id id ≡ true) (λ (e : Delivery). same_id e.id other)
        (row_of shape run name).pending d
        (each-passes (λ (e : Delivery). same_id e.id id) (row_of shape run name).pending
        (row-passes shape run (λ n c. list_all (λ (e : Delivery). same_id e.id id) c.pending) alone name refl)) is in
        let own = same_id-true d.id id passes in
        let as_other = same_id-true d.id other
        (find-passes (λ (e : Delivery). same_id e.id other) (row_of shape run name).pending d is) in
        subst (λ i. is_gt (id_cmp id i) ≡ false) (sym own ∙ as_other) (ap is_gt (tied_itself id_cmp-total id))

-- whether no timer is due
abbrev pub is_none_due : CaseShape → Run → Bool
is_none_due case run = list_all (λ (r : RowName × Contents).
    list_all (λ (t : Timer). nat_lt (low_watermark case run r.0.part) t.time) r.1.timers) run.rows

-- no timer is due where none is by the test
pub none-due : (case : CaseShape) (run : Run) → is_none_due case run ≡ true → (row : RowName) (timer : Timer) → IsDue case run row timer → ⊥
none-due case run none row timer is =
    let later = ltb-true (low_watermark case run row.part) timer.time
    (has-passes (λ (t : Timer). nat_lt (low_watermark case run row.part) t.time) (row_of case.topology run row).timers timer
    (row-passes case.topology run (λ n c. list_all (λ (t : Timer). nat_lt (low_watermark case run n.part) t.time) c.timers) none row refl)
    is.set) in
    let due = is.due in omega (arith, later, due)

-- whether no timer is due but this one of this row
abbrev pub is_due_alone : CaseShape → Run → RowName → Timer → Bool
is_due_alone case run row timer = list_all (λ (r : RowName × Contents). list_all
    (λ (t : Timer). nat_lt (low_watermark case run r.0.part) t.time || (is_eq (row_cmp r.0 row) && is_eq (timer_cmp timer t)))
    r.1.timers) run.rows

-- a due timer is that one, where no other is due
pub due-alone : (case : CaseShape) (run : Run) (row : RowName) (timer : Timer) → is_due_alone case run row timer ≡ true
    → (other : RowName) (another : Timer) → IsDue case run other another → (other ≡ row) × (timer_cmp timer another ≡ Equal)
due-alone case run row timer alone other another is =
    by_test (either (nat_lt (low_watermark case run other.part) another.time)
    (is_eq (row_cmp other row) && is_eq (timer_cmp timer another))
    (has-passes (λ (t : Timer). nat_lt (low_watermark case run other.part) t.time
    || (is_eq (row_cmp other row) && is_eq (timer_cmp timer t))) (row_of case.topology run other).timers another
    (row-passes case.topology run (λ n c. list_all (λ (t : Timer). nat_lt (low_watermark case run n.part) t.time
    || (is_eq (row_cmp n row) && is_eq (timer_cmp timer t))) c.timers) alone other refl) is.set))
  where
    by_test : (nat_lt (low_watermark case run other.part) another.time ≡ true)
        ⊎ ((is_eq (row_cmp other row) && is_eq (timer_cmp timer another)) ≡ true)
        → (other ≡ row) × (timer_cmp timer another ≡ Equal)
    by_test (inl late) =
        let later = ltb-true (low_watermark case run other.part) another.time late in
        let due = is.due in absurd (omega (arith, later, due))
    by_test (inr both) =
        let parts = and_parts (is_eq (row_cmp other row)) (is_eq (timer_cmp timer another)) both in
        (same_row other row parts.0, equal_from_test (timer_cmp timer another) parts.1)

-- and so it is the least
pub alone-first : (row other : RowName) (timer another : Timer) → other ≡ row → timer_cmp timer another ≡ Equal
    → is_gt (ordering_then (timer_cmp timer another) (key_cmp row.key other.key)) ≡ false
alone-first row other timer another same tie =
    subst (λ o. is_gt (ordering_then o (key_cmp row.key other.key)) ≡ false) (sym tie)
    (subst (λ (n : RowName). is_gt (key_cmp row.key n.key) ≡ false) (sym same) (ap is_gt (tied_itself key_cmp-total row.key)))

-- whether no row has seen ids but this one
abbrev pub is_seen_alone : Run → RowName → Bool
is_seen_alone run row = list_all (λ (r : RowName × Contents). list_all (λ (id : RecordId). is_eq (row_cmp row r.0)) r.1.seen) run.rows

-- a row that alone has seen ids is the first
pub seen-alone : (shape : Shape) (run : Run) (row other : RowName) → is_seen_alone run row ≡ true
    → (row_of shape run other).seen ≢ [] → is_gt (row_cmp row other) ≡ false
seen-alone shape run row other alone some =
    by_seen (row_of shape run other).seen refl
    (row-passes shape run (λ n c. list_all (λ (id : RecordId). is_eq (row_cmp row n)) c.seen) alone other refl)
  where
    by_seen : (ids : List RecordId) → (row_of shape run other).seen ≡ ids
        → list_all (λ (id : RecordId). is_eq (row_cmp row other)) (row_of shape run other).seen ≡ true → is_gt (row_cmp row other) ≡ false
    by_seen [] is all = absurd (some is)
    by_seen (id ∷ ids) is all =
        let passes = and_parts (is_eq (row_cmp row other)) (list_all (λ (x : RecordId). is_eq (row_cmp row other)) ids)
        (subst (λ l. list_all (λ (x : RecordId). is_eq (row_cmp row other)) l ≡ true) is all) in
        ap is_gt (equal_from_test (row_cmp row other) passes.0)

-- whether no row has seen ids
abbrev pub is_none_seen : Run → Bool
is_none_seen run = list_all (λ (r : RowName × Contents). list_all (λ (id : RecordId). false) r.1.seen) run.rows

-- no row has seen ids, where none has by the test
pub none-seen : (shape : Shape) (run : Run) → is_none_seen run ≡ true → (row : RowName) → (row_of shape run row).seen ≡ []
none-seen shape run none row =
    by_seen (row_of shape run row).seen refl (row-passes shape run (λ n c. list_all (λ (id : RecordId). false) c.seen) none row refl)
  where
    by_seen : (ids : List RecordId) → (row_of shape run row).seen ≡ ids
        → list_all (λ (id : RecordId). false) (row_of shape run row).seen ≡ true → (row_of shape run row).seen ≡ []
    by_seen [] is all = is
    by_seen (id ∷ ids) is all = absurd (wrong (subst (λ l. list_all (λ (x : RecordId). false) l ≡ true) is all))
      where
        wrong : list_all (λ (x : RecordId). false) (id ∷ ids) ≡ true → ⊥
        wrong e = cc
