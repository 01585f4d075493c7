-- What is least in an order is one, and what the rows of a run hold, where they hold nothing of a kind.
use Rattle.std.proofs.Common.{◌≡◌, ℕ, false, List, [], ◌∷◌, ◌++◌, refl, sym, ◌∙◌, ap, subst}
use Rattle.std.specs.Prelude.{Option, Some, unwrap_or}
use Rattle.std.specs.List.{AllByRecursion, flat_map}
use Rattle.std.specs.BTreeMap.{is_at}
use Rattle.std.specs.Map.{lookup}
use Rattle.std.specs.Cmp.{IsTotalOrder, then_total, on_total, nat_cmp_total}
use Rattle.std.specs.Ordering.{is_gt, is_eq, nat_cmp, ordering_then, ordering_reverse}
use Rattle.std.specs.declared.cmp.Ordering.{Ordering}
use Rattle.std.specs.declared.cmp.Ordering.TheVariants.{Less, Equal, Greater}
use Rattle.std.proofs.lemmas.Map.Lookups.{exact_unsigned, exact_bytes}
use Rattle.mw_types.specs.Orders.{id_cmp, row_cmp, timer_cmp, key_cmp}
use Rattle.mw_types.proofs.OrderLaws.{id_cmp-total, row_cmp-total, key_cmp-total}
use Rattle.mw_types.specs.declared.identity.RecordId.{RecordId}
use Rattle.mw_types.specs.declared.identity.RowName.{RowName}
use Rattle.mw_types.specs.declared.timer.Timer.{Timer}
use Rattle.topology.specs.Shapes.{Shape}
use Rattle.row_parts.specs.Orders.{timer_cmp-total}
use Rattle.row_parts.specs.Contents.{Contents, fresh}
use Rattle.run_history.specs.Cases.{fresh_of}
use Rattle.run_history.specs.Runs.{Run, row_of}
use Rattle.run_history.specs.Finished.{all_pending}
use Rattle.list_lemmas.proofs.Lists.{found_of_each, each-weaker}
use Rattle.run_history.proofs.Lookups.{each_found}
use Rattle.history_laws.proofs.LowLaws.{AreRowsInOrder}
use Rattle.history_laws.proofs.RowSteps.{both_Equal, same_row}
use Rattle.history_laws.proofs.UnfinishedLaws.{flat_map-nil}

-- two things of which neither is after the other tie
pub tied_both_ways : {K : Type 0} {R : K → K → Ordering} → IsTotalOrder R → (x y : K) → is_gt (R x y) ≡ false → is_gt (R y x) ≡ false
    → R x y ≡ Equal
tied_both_ways {K} {R} total x y one other = tied (R x y) one (sym (ap is_gt (total.antisymm y x)) ∙ other)
  where
    tied : (o : Ordering) → is_gt o ≡ false → is_gt (ordering_reverse o) ≡ false → o ≡ Equal
    tied Less one other = cc
    tied Equal one other = refl
    tied Greater one other = cc

-- two ids of which neither is after the other are one
pub one_id : (a b : RecordId) → is_gt (id_cmp a b) ≡ false → is_gt (id_cmp b a) ≡ false → a ≡ b
one_id a b one other =
    let k = both_Equal _ _ (tied_both_ways id_cmp-total a b one other) in
    let p = exact_unsigned a.commit b.commit k.0 in
    let q = exact_unsigned a.index b.index k.1 in
    λ i. record { commit = p i; index = q i }

-- two rows of which neither is after the other are one
pub one_row : (a b : RowName) → is_gt (row_cmp a b) ≡ false → is_gt (row_cmp b a) ≡ false → a ≡ b
one_row a b one other = same_row a b (ap is_eq (tied_both_ways row_cmp-total a b one other))

-- two set timers of which neither is after the other are of one key
pub one_key : (t u : Timer) (k l : List ℕ) → is_gt (ordering_then (timer_cmp t u) (key_cmp k l)) ≡ false
    → is_gt (ordering_then (timer_cmp u t) (key_cmp l k)) ≡ false → k ≡ l
one_key t u k l one other =
    exact_bytes k l (both_Equal _ _ (tied_both_ways
    (then_total (on_total (λ (p : Timer × List ℕ). p.0) timer_cmp-total) (on_total (λ (p : Timer × List ℕ). p.1) key_cmp-total))
    (t, k) (u, l) one other)).1

-- two parts of which neither is after the other by a count, and then by number, are one
pub one_part : (count : ℕ → ℕ) (a b : ℕ) → is_gt (ordering_then (nat_cmp (count a) (count b)) (nat_cmp a b)) ≡ false
    → is_gt (ordering_then (nat_cmp (count b) (count a)) (nat_cmp b a)) ≡ false → a ≡ b
one_part count a b one other =
    exact_unsigned a b (both_Equal _ _ (tied_both_ways (then_total (on_total count nat_cmp_total) nat_cmp_total) a b one other)).1

-- no row has anything pending where nothing is
pub none-row_of : (shape : Shape) (run : Run) (name : RowName) → all_pending run ≡ [] → (row_of shape run name).pending ≡ []
none-row_of shape run name none =
    found_of_each (λ (c : Contents). c.pending ≡ []) _ run.rows (fresh (fresh_of shape name.part))
    (flat_map-nil (λ (r : RowName × Contents). r.1.pending) run.rows none) refl

-- nothing comes of elements of which nothing comes
nil-flat_map : {A X : Type 0} (f : A → List X) (xs : List A) → AllByRecursion (λ x. f x ≡ []) xs → flat_map f xs ≡ []
nil-flat_map f [] none = refl
nil-flat_map f (x ∷ xs) none = ap (λ l. l ++ flat_map f xs) none.0 ∙ nil-flat_map f xs none.1

-- the rows of a run hold nothing of a kind where the row of each name holds nothing of it
pub nil-rows : {X : Type 0} (items : Contents → List X) (shape : Shape) (run : Run) → AreRowsInOrder run
    → ((name : RowName) → items (row_of shape run name) ≡ []) → flat_map (λ (r : RowName × Contents). items r.1) run.rows ≡ []
nil-rows items shape run order none =
    nil-flat_map (λ (r : RowName × Contents). items r.1) run.rows
    (each-weaker (λ (r : RowName × Contents). lookup (is_at (row_cmp r.0)) run.rows ≡ Some r.1)
    (λ (r : RowName × Contents). items r.1 ≡ [])
    (λ r found. subst (λ (o : Option Contents). items (unwrap_or o (fresh (fresh_of shape r.0.part))) ≡ []) found (none r.0))
    run.rows (each_found row_cmp-total run.rows order.sorted))
