-- The purge with which a drain ends is of the first row, over all intervals, that has seen ids.
use Rattle.std.proofs.Common.{◌≡◌, ◌≢◌, ◌<◌, ◌≤◌, ◌+◌, ◌⊎◌, ℕ, Bool, true, false, List, [], ◌∷◌, length, refl, sym, ◌∙◌, ap, subst, arith, inl, inr, get_or, fold, map, min, rules}
use Rattle.std.specs.Prelude.{Option, Some, None, IsSome, IfSome, Contains, MatchOption, All}
use Rattle.std.specs.List.{AllByRecursion}
use Rattle.std.specs.List.Sorted.{IsStrictlySortedBy}
use Rattle.std.specs.Cmp.{IsTotalOrder}
use Rattle.std.specs.Option.{is_some, option_and_then}
use Rattle.std.specs.Ordering.{is_gt, is_le, is_lt, ordering_reverse}
use Rattle.std.specs.declared.cmp.Ordering.{Ordering}
use Rattle.std.specs.declared.cmp.Ordering.TheVariants.{Less, Equal, Greater}
use Rattle.std.proofs.lemmas.Bool.{both_ways, cases_lt}
use Rattle.std.proofs.lemmas.Cmp.{upto}
use Rattle.std.proofs.lemmas.List.Elements.{All-contains, All-from_recursion}
use Rattle.std.proofs.lemmas.Option.{get_or_from_slice_get, slice_get_within}
use Rattle.mw_types.specs.Orders.{id_cmp, key_cmp, row_cmp, timer_cmp}
use Rattle.mw_types.specs.declared.delivery.Delivery.{Delivery}
use Rattle.mw_types.specs.declared.entry.Entry.{Entry}
use Rattle.mw_types.specs.declared.identity.RecordId.{RecordId}
use Rattle.mw_types.specs.declared.identity.RowName.{RowName}
use Rattle.mw_types.proofs.OrderLaws.{key_cmp-total, row_cmp-total}
use Rattle.key_intervals.specs.declared.bounds.Bounds.{Bounds}
use Rattle.key_intervals.specs.Intervals.{AreIntervals, Meets, covers, ends_after, start_of}
use Rattle.key_intervals.proofs.Beginnings.{after_part, begin_in_two, begins_by, key_decides, turned_below}
use Rattle.key_intervals.proofs.Lookup.{begins_by_row, goes_past, of_part}
use Rattle.topology.specs.Rules.{IsTopology, interval_count}
use Rattle.topology.specs.Shapes.{Shape}
use Rattle.row_parts.specs.Contents.{AreSeen, AreTimers, Contents, same_id, found_delivery}
use Rattle.run_history.specs.Cases.{CaseShape, intervals_of}
use Rattle.run_history.specs.Fences.{interval_of}
use Rattle.run_history.specs.Finished.{all_pending, is_handled}
use Rattle.run_history.specs.Legal.{IsLegal, floor_of}
use Rattle.run_history.specs.Runs.{Run, row_of, run_of}
use Rattle.run_history.proofs.IntervalLaws.{are-intervals, interval_of-has}
use Rattle.list_lemmas.proofs.Lists.{each-weaker, find-each, find-passes, some_same}
use Rattle.history_laws.specs.Ids.{TellsWhatWaits}
use Rattle.history_laws.proofs.FinishedLaws.{legal-floors}
use Rattle.history_laws.proofs.IdLaws.{legal-ids, legal-tells, same_id-true}
use Rattle.history_laws.proofs.LowLaws.{AreRowsInOrder, rows-in_order}
use Rattle.book.specs.Books.{BookView, core_of}
use Rattle.book.specs.Lawful.{IsKeepable, IsLawful}
use Rattle.holdings.specs.Holding.{held_at, held_on}
use Rattle.node.specs.Asking.{MayAskPurge, Request, forgetting}
use Rattle.node.specs.Workers.{NodeView}
use Rattle.world.specs.drains.Drains.{IsNextEntry}
use Rattle.world.specs.drains.Turns.{HasAsked, HasAskedOne, HasTurned, IsAtWork, IsEmptied, IsEndOf, IsInjected, IsQuiet, IsSettled}
use Rattle.world.proofs.drains.FirstItems.{row_of-named}
use Rattle.world.proofs.drains.LawfulRows.{lawful-rows}
use Rattle.world.proofs.drains.KnownLaws.{interval-found, row-known, held-there}
use Rattle.world.proofs.drains.NextLaws.{IsFirstRow, none_or_seen}
use Rattle.world.proofs.drains.LeastWorkLaws.{turned-asked}
use Rattle.world.proofs.drains.ThereLaws.{seen-part}
use Rattle.world.proofs.drains.TurnLaws.{interval-counted}

-- ---- orders

-- what is less the other way round is greater
pub lt-flip : {X : Type 0} (R : X → X → Ordering) → IsTotalOrder R → (x y : X) → is_lt (R y x) ≡ is_gt (R x y)
lt-flip R total x y = ap is_lt (total.antisymm y x) ∙ reversed (R x y)
  where
    reversed : (o : Ordering) → is_lt (ordering_reverse o) ≡ is_gt o
    reversed Less = refl
    reversed Equal = refl
    reversed Greater = refl

-- what is at most is not greater
le-not_gt : (o : Ordering) → is_le o ≡ true → is_gt o ≡ false
le-not_gt Less e = refl
le-not_gt Equal e = refl
le-not_gt Greater e = absurd (cc)

-- and back
not_gt-le : (o : Ordering) → is_gt o ≡ false → is_le o ≡ true
not_gt-le Less e = refl
not_gt-le Equal e = refl
not_gt-le Greater e = absurd (cc)

-- where an interval has a row, the next one begins after it
begins_after : (b next : Bounds) (name : RowName) → Meets b next → covers b name ≡ true → begins_by name next ≡ false
begins_after b next name m h = by_end b.to m (of_part b name h) (goes_past b name h)
  where
    by_end : (to : Option (List ℕ)) → MatchOption to ((next.part ≡ b.part + 1) × (next.from ≡ []))
        (λ end. (next.part ≡ b.part) × (next.from ≡ end) × (key_cmp b.from end ≡ Less))
        → b.part ≡ name.part → ends_after to name.key ≡ true → begins_by name next ≡ false
    by_end None m p h = after_part next.part name.part _ (omega (arith, m.0, p))
    by_end (Some end) m p h =
        ap is_le (key_decides next.part name.part _ (m.0 ∙ p) ∙ ap (λ k. key_cmp k name.key) m.1 ∙ key_cmp-total.antisymm end name.key)
        ∙ turned_below _ h

-- rows of a later interval are after those of an earlier one
pub intervals-rise : (shape : Shape) (i j : ℕ) (a b : RowName) → AreIntervals (intervals_of shape) → interval_of shape a ≡ Some i
    → interval_of shape b ≡ Some j → i < j → is_gt (row_cmp b a) ≡ false → ⊥
intervals-rise shape i j a b are lies other less le =
    let all = intervals_of shape in
    let one = interval_of-has shape i a lies in
    let two = interval_of-has shape j b other in
    let d = one.0 in
    let first : get_or all i d ≡ one.0 = get_or_from_slice_get all i one.0 d one.1 in
    let second : get_or all j d ≡ two.0 = get_or_from_slice_get all j two.0 d two.1 in
    let short : j < length all = slice_get_within all j two.0 two.1 in
    let near : i + 1 < length all = omega (arith, less, short) in
    let begun : begins_by a two.0 ≡ true = not_gt-le (row_cmp (start_of two.0) a)
    (upto row_cmp-total (start_of two.0) b a (le-not_gt (row_cmp (start_of two.0) b) (begins_by_row two.0 b two.2)) le) in
    let by : begins_by a (get_or all (i + 1) d) ≡ true =
    begin_in_two all a are.next (i + 1) j d (omega (arith, less)) short
    (subst (λ (c : Bounds). begins_by a c ≡ true) (sym second) begun) in
    both_ways (begins_by a (get_or all (i + 1) d))
    (begins_after (get_or all i d) (get_or all (i + 1) d) a (are.next i d near)
    (subst (λ (c : Bounds). covers c a ≡ true) (sym first) one.2)) by

-- ---- rows that are kept

-- the lists of a row are in order
pub record IsOrdered (row : Contents) : Type 0 where
  pub seen : AreSeen row.floor row.seen
  pub timers : AreTimers row.timers

-- no list is out of order where it is empty
none-sorted : {X : Type 0} (R : X → X → Ordering) → IsStrictlySortedBy R []
unfolding IsStrictlySortedBy
none-sorted R = tt

-- the lists of each row of a lawful history are, where that is told
pub rows-ordered : (book : BookView) (name : RowName) → IsLawful book.case (core_of book) → IsSome book.rows
    → IsOrdered (row_of book.case.topology (run_of book.case.topology book.history) name)
rows-ordered book name lawful told =
    row_of-named book.case.topology (λ n c. IsOrdered c) name (run_of book.case.topology book.history).rows
    (each-weaker (IsKeepable book.case (length book.history)) (λ r. IsOrdered r.1)
    (λ r kept. record { seen = kept.spelled.is_row.seen; timers = kept.spelled.is_row.timers })
    (run_of book.case.topology book.history).rows (lawful-rows book.case book.history book.rows told lawful.held).1)
    (record {
      seen = record {
        ascending = none-sorted id_cmp;
        each = search rules;
        kept = search rules;
        few = omega arith;
      };
      timers = record { ascending = none-sorted timer_cmp; times = search rules; few = omega arith };
    })

-- the floor is the number of the next entry where nothing is pending
floor-settled : (case : CaseShape) (history : List Entry) → IsLegal case history → all_pending (run_of case.topology history) ≡ []
    → floor_of (run_of case.topology history) ≡ length history
floor-settled case history legal settled =
    let run = run_of case.topology history in
    ap (λ (ds : List Delivery). fold min run.next (map (λ (d : Delivery). d.id.commit) ds)) settled ∙ (legal-ids case history legal).next

-- an id that is handled has a commit number of the history
handled-before : (case : CaseShape) (history : List Entry) (id : RecordId) → IsLegal case history → is_handled id history ≡ true
    → id.commit < length history
handled-before case history id legal handled = by_made (found_delivery id run.made) refl (tells.handled id handled)
  where
    run : Run
    run = run_of case.topology history

    tells : TellsWhatWaits history run
    tells = legal-tells case history legal

    by_made : (o : Option Delivery) → found_delivery id run.made ≡ o → IsSome o → id.commit < length history
    by_made None is some = absurd (cc)
    by_made (Some d) is some =
        let ids = legal-ids case history legal in
        let below : d.id.commit < run.next = find-each (λ (e : Delivery). e.id.commit < run.next) (λ (e : Delivery). same_id e.id id) run.made d
        ids.made.below is in
        let own : d.id ≡ id = same_id-true d.id id (find-passes (λ (e : Delivery). same_id e.id id) run.made d is) in
        let next = ids.next in
        subst (λ (i : RecordId). i.commit < length history) own (omega (arith, below, next))

-- a row that has seen ids has a floor below that of the run, where nothing is pending
pub floor-rises : (book : BookView) (name : RowName) → IsLawful book.case (core_of book) → IsSome book.rows → IsLegal book.case book.history
    → IsSettled book.case book.history → let run = run_of book.case.topology book.history in
    (row_of book.case.topology run name).seen ≢ [] → (row_of book.case.topology run name).floor < floor_of run
floor-rises book name lawful told legal settled some = by_seen row.seen refl (rows-ordered book name lawful told).seen.kept
    ((legal-floors book.case book.history legal).seen name)
  where
    row : Contents
    row = row_of book.case.topology (run_of book.case.topology book.history) name

    by_seen : (ids : List RecordId) → row.seen ≡ ids → All (λ (id : RecordId). row.floor ≤ id.commit) row.seen
        → AllByRecursion (λ (id : RecordId). is_handled id book.history ≡ true) row.seen
        → row.floor < floor_of (run_of book.case.topology book.history)
    by_seen [] is kept handled = absurd (some is)
    by_seen (id ∷ ids) is kept handled =
        let has : Contains row.seen id = subst (λ l. Contains l id) (sym is) (0, omega arith, refl) in
        let above = All-contains (λ (i : RecordId). row.floor ≤ i.commit) row.seen id kept has in
        let done = All-contains (λ (i : RecordId). is_handled i book.history ≡ true) row.seen id
        (All-from_recursion (λ (i : RecordId). is_handled i book.history ≡ true) row.seen handled) has in
        let before = handled-before book.case book.history id legal done in
        let floor = floor-settled book.case book.history legal settled in omega (arith, above, before, floor)

-- a list that has an element is not empty, and back
seen-some : {X : Type 0} (xs : List X) → 1 ≤ length xs → xs ≢ []
seen-some [] long e = absurd (omega (arith, long))
seen-some (x ∷ xs) long e = cc

some-seen : {X : Type 0} (xs : List X) → xs ≢ [] → 1 ≤ length xs
some-seen [] some = absurd (some refl)
some-seen (x ∷ xs) some = omega arith

-- ---- the next entry

module _ (book : BookView) (node : NodeView) (at : IsAtWork book node) (told : IsSome book.rows) (lawful : IsLawful book.case (core_of book))
    (settled : IsSettled book.case book.history) where
  -- what stands after the history
  abbrev run : Run
  run = run_of book.case.topology book.history

  -- the history is legal
  legal : IsLegal book.case book.history
  legal = (lawful-rows book.case book.history book.rows told lawful.held).0

  -- its rows are in order
  abbrev order : AreRowsInOrder run
  order = rows-in_order book.case.topology book.history

  -- the first row by name that has seen ids is one that its interval may be asked to purge
  first-asked : (row : RowName) → IsFirstRow book.case run order row
      → (interval : ℕ) × (interval_of book.case.topology row ≡ Some interval) × (asked : Request)
      × MayAskPurge book.case.topology node interval 1 (floor_of run) asked
  first-asked row first =
      let shape = book.case.topology in
      let there = seen-part book.case book.history row legal first.0 in
      let lies = interval-found shape row there in
      let held = held-there book node row at there in
      let same = row-known book node row held.0 at told held.1 in (
        lies.0,
        lies.1,
        forgetting held.0 row (floor_of run),
        record {
          name = row;
          of_interval = lies.1;
          may = record {
            free = at.free;
            held = held.0;
            there = held.1;
            forgets = record {
              many = let long = subst (λ (c : Contents). 1 ≤ length c.seen) (sym same) (some-seen (row_of shape run row).seen first.0) in
                  omega (arith, long);
              rises = subst (λ (c : Contents). c.floor < floor_of run) (sym same) (floor-rises book row lawful told legal settled first.0);
            };
            request = refl;
          };
          first = λ other within forgets.
              let on : held_on shape node.held other ≡ Some held.0 =
              ap (option_and_then (held_at node.held)) (within ∙ sym lies.1) ∙ held.1 in
              let many = forgets.many in
              let long = subst (λ (c : Contents). 1 ≤ length c.seen) (row-known book node other held.0 at told on) (omega (arith, many)) in
              lt-flip row_cmp row_cmp-total row other ∙ first.1 other (seen-some (row_of shape run other).seen long);
        },
      )

  -- no row of an interval has seen ids where it may not be asked to purge one, and none of an earlier one has
  pub emptied-here : IsTopology book.case.topology → (interval : ℕ)
      → ((earlier : ℕ) → earlier < interval → IsEmptied book.case book.history earlier)
      → ((asked : Request) → MayAskPurge book.case.topology node interval 1 (floor_of run) asked → ⊥)
      → IsEmptied book.case book.history interval
  emptied-here rules interval emptied none row lies = by_case (none_or_seen book.case run order)
    where
      by_place : (first : RowName) → IsFirstRow book.case run order first → (row_of book.case.topology run row).seen ≢ [] → (j : ℕ)
          → interval_of book.case.topology first ≡ Some j → (j < interval) ⊎ (interval ≤ j) → (interval < j) ⊎ (j ≤ interval) → ⊥
      by_place first is some j at_j (inl less) after = is.0 (emptied j less first at_j)
      by_place first is some j at_j (inr le) (inl less) =
          intervals-rise book.case.topology interval j row first (are-intervals book.case.topology rules) lies at_j less (is.1 row some)
      by_place first is some j at_j (inr le) (inr ge) =
          let one = first-asked first is in
          let same : one.0 ≡ interval = let e = some_same one.0 j (sym one.1 ∙ at_j) in omega (arith, le, ge, e) in
          none one.2 (subst (λ (i : ℕ). MayAskPurge book.case.topology node i 1 (floor_of run) one.2) same one.3)

      by_list : (first : RowName) → IsFirstRow book.case run order first → (ids : List RecordId)
          → (row_of book.case.topology run row).seen ≡ ids → (row_of book.case.topology run row).seen ≡ []
      by_list first is [] same = same
      by_list first is (id ∷ ids) same =
          let there = interval-found book.case.topology first (seen-part book.case book.history first legal is.0) in
          absurd (by_place first is (λ e. let wrong = sym same ∙ e in cc) there.0 there.1 (cases_lt there.0 interval)
          (cases_lt interval there.0))

      by_case : ((row : RowName) → (row_of book.case.topology run row).seen ≡ []) ⊎ ((row : RowName) × IsFirstRow book.case run order row)
          → (row_of book.case.topology run row).seen ≡ []
      by_case (inl all) = all row
      by_case (inr (first, is)) = by_list first is (row_of book.case.topology run row).seen refl

  -- the row that an interval is asked to purge is the first of all, where none before it may be asked
  pub asked-first : IsTopology book.case.topology → (interval : ℕ)
      → ((earlier : ℕ) → earlier < interval → IsEmptied book.case book.history earlier)
      → (asked : Request) → (may : MayAskPurge book.case.topology node interval 1 (floor_of run) asked)
      → IsFirstRow book.case run order may.name
  asked-first rules interval emptied asked may = (has, by_case (none_or_seen book.case run order))
    where
      shape : Shape
      shape = book.case.topology

      -- the row has seen ids
      has : (row_of shape run may.name).seen ≢ []
      has =
          let many = may.may.forgets.many in
          let same = row-known book node may.name may.may.held at told may.may.there in
          seen-some (row_of shape run may.name).seen (subst (λ (c : Contents). 1 ≤ length c.seen) same (omega (arith, many)))

      -- the first of all is in the row's interval
      by_place : (row : RowName) → IsFirstRow book.case run order row → (other : RowName) → (row_of shape run other).seen ≢ []
          → (j : ℕ) → interval_of shape row ≡ Some j → (j < interval) ⊎ (interval ≤ j) → (interval < j) ⊎ (j ≤ interval)
          → is_gt (row_cmp may.name other) ≡ false
      by_place row first other some j lies (inl less) after = absurd (first.0 (emptied j less row lies))
      by_place row first other some j lies (inr le) (inl less) =
          absurd (intervals-rise shape interval j may.name row (are-intervals shape rules) may.of_interval lies less (first.1 may.name has))
      by_place row first other some j lies (inr le) (inr ge) =
          let same : interval ≡ j = omega (arith, le, ge) in
          let within : interval_of shape row ≡ Some interval = lies ∙ ap Some (sym same) in
          let on : held_on shape node.held row ≡ Some may.may.held =
          ap (option_and_then (held_at node.held)) (within ∙ sym may.of_interval) ∙ may.may.there in
          let known = row-known book node row may.may.held at told on in
          let not_less = may.first row within (record {
            many = let long = subst (λ (c : Contents). 1 ≤ length c.seen) (sym known) (some-seen (row_of shape run row).seen first.0) in
                omega (arith, long);
            rises = subst (λ (c : Contents). c.floor < floor_of run) (sym known) (floor-rises book row lawful told legal settled first.0);
          }) in
          upto row_cmp-total may.name row other (sym (lt-flip row_cmp row_cmp-total may.name row) ∙ not_less) (first.1 other some)

      by_case : ((row : RowName) → (row_of shape run row).seen ≡ []) ⊎ ((row : RowName) × IsFirstRow book.case run order row)
          → (other : RowName) → (row_of shape run other).seen ≢ [] → is_gt (row_cmp may.name other) ≡ false
      by_case (inl all) other some = absurd (has (all may.name))
      by_case (inr (row, first)) other some =
          let lies = interval-found shape row (seen-part book.case book.history row legal first.0) in
          by_place row first other some lies.0 lies.1 (cases_lt lies.0 interval) (cases_lt interval lies.0)

-- a last purge is a turn
pub purge-turned : (old new : BookView) (node : NodeView) (interval : ℕ) (more : Bool) → IsAtWork old node
    → IsLawful old.case (core_of old) → IsSettled old.case old.history → (IsSome old.rows → IsQuiet old.case old.history)
    → (IsSome old.rows → IsInjected old.case old.history)
    → (IsSome old.rows → (earlier : ℕ) → earlier < interval → IsEmptied old.case old.history earlier)
    → HasAskedOne old new (MayAskPurge old.case.topology node interval 1 (floor_of (run_of old.case.topology old.history))) more
    → HasTurned old new more
purge-turned old new node interval more at lawful settled quiet injected emptied done = by_asked done.asked done.done done.may
  where
    by_asked : (asked : Option Request) → HasAsked old new asked more
        → IfSome asked (MayAskPurge old.case.topology node interval 1 (floor_of (run_of old.case.topology old.history)))
        → HasTurned old new more
    by_asked None done may = turned-asked old new None more done (λ told. tt)
    by_asked (Some asked) done may = turned-asked old new (Some asked) more done (λ told from claimed.
        let first = asked-first old node at told lawful settled lawful.runnable.topology interval (emptied told) asked may in
        subst (λ (a : Request). IsNextEntry old.case from old.history a.entry) (sym may.may.request) (inr (record {
          earlier = record {
            earlier = record {
              earlier = record { claimed = claimed; none_pending = settled };
              none_due = quiet told;
            };
            none_left = injected told;
          };
          has = first.0;
          least = first.1;
          to_floor = refl;
        })))

-- and where it writes none, no row of the interval has seen ids
pub purge-emptied : (old new : BookView) (node : NodeView) (interval : ℕ) (more : Bool) → IsAtWork old node
    → IsLawful old.case (core_of old) → IsSettled old.case old.history → IsSome old.rows
    → ((earlier : ℕ) → earlier < interval → IsEmptied old.case old.history earlier)
    → HasAskedOne old new (MayAskPurge old.case.topology node interval 1 (floor_of (run_of old.case.topology old.history))) more
    → more ≡ false → IsEmptied old.case old.history interval
purge-emptied old new node interval more at lawful settled told emptied done none_more =
    emptied-here old node at told lawful settled lawful.runnable.topology interval emptied
    (done.none (by_none done.asked (done.done.is_more ∙ none_more)))
  where
    by_none : (asked : Option Request) → is_some asked ≡ false → asked ≡ None
    by_none None e = refl
    by_none (Some a) e = absurd (cc)

-- a drain is at its end where no row of any interval has seen ids
pub purge-ended : (book : BookView) → IsLawful book.case (core_of book) → IsSome book.rows
    → IsSettled book.case book.history → IsQuiet book.case book.history → IsInjected book.case book.history
    → ((interval : ℕ) → interval < interval_count book.case.topology → IsEmptied book.case book.history interval)
    → IsEndOf book.case book.history
purge-ended book lawful told settled quiet injected emptied from claimed = record {
  earlier = record {
    earlier = record {
      earlier = record { claimed = claimed; none_pending = settled };
      none_due = quiet;
    };
    none_left = injected;
  };
  none_seen = λ row. by_list row (row_of book.case.topology (run_of book.case.topology book.history) row).seen refl;
}
  where
    by_list : (row : RowName) (ids : List RecordId) → (row_of book.case.topology (run_of book.case.topology book.history) row).seen ≡ ids
        → (row_of book.case.topology (run_of book.case.topology book.history) row).seen ≡ []
    by_list row [] is = is
    by_list row (id ∷ ids) is =
        let legal = (lawful-rows book.case book.history book.rows told lawful.held).0 in
        let there = interval-found book.case.topology row
        (seen-part book.case book.history row legal (λ e. let wrong = sym is ∙ e in cc)) in
        emptied there.0 (interval-counted book.case.topology row there.0 there.1) row there.1
