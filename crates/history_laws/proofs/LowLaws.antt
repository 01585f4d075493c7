-- The low watermark never falls.
use Rattle.std.proofs.Common.{◌≡◌, ℕ, zero, suc, ◌<◌, ◌≤◌, ◌==◌, ◌&&◌, Bool, true, false, cond, List, [], ◌∷◌, ◌++◌, map, fold, refl, sym, ◌∙◌, ap, subst, arith}
use Rattle.std.specs.Prelude.{Option, Some, None, MatchBool, filter, not, unwrap_or}
use Rattle.std.specs.List.{AllByRecursion, flat_map}
use Rattle.std.specs.List.Sorted.{IsStrictlySortedBy}
use Rattle.std.specs.BTreeMap.{is_at, insert_entry}
use Rattle.std.specs.Map.{lookup, keys_of}
use Rattle.std.specs.Option.{option_map_or}
use Rattle.std.proofs.lemmas.Bool.{eqb-true, eq-eqb}
use Rattle.mw_types.specs.declared.TheConstants.{END}
use Rattle.mw_types.specs.declared.identity.RowName.{RowName}
use Rattle.mw_types.specs.declared.timer.Timer.{Timer}
use Rattle.mw_types.specs.declared.delivery.Delivery.{Delivery}
use Rattle.mw_types.specs.declared.entry.Entry.{Entry}
use Rattle.mw_types.specs.Orders.{row_cmp}
use Rattle.mw_types.proofs.OrderLaws.{row_cmp-total}
use Rattle.topology.specs.Shapes.{Shape, parts_of, feeds_of}
use Rattle.topology.specs.Rules.{IsTopology}
use Rattle.row_parts.specs.Contents.{Contents, fresh}
use Rattle.run_history.specs.Cases.{CaseShape, is_injector, fresh_of}
use Rattle.run_history.specs.Made.{row_written}
use Rattle.run_history.specs.Runs.{Run, run_of, row_of, followed, empty_run}
use Rattle.run_history.specs.Watermarks.{least, waiting_stamps, timer_times, times_set, oldest_work, source_mark, low_under, low_watermark}
use Rattle.run_history.specs.Legal.{MayFollow, IsLegal}
use Rattle.run_history.proofs.Lookups.{each_found, sorted-insert_entry}
use Rattle.run_history.specs.Inputs.{IsRunnable}
use Rattle.list_lemmas.proofs.Lists.{each-append, each-weaker, each-both}
use Rattle.history_laws.proofs.Along.{run_of-append, AreLegal-apart, along_entries, along_any}
use Rattle.history_laws.proofs.FeedLaws.{feeds-before}
use Rattle.history_laws.proofs.IdLaws.{AreIds, AreIds-followed, legal-ids}
use Rattle.history_laws.proofs.RowSteps.{made_row, same_row}
use Rattle.history_laws.proofs.StampLaws.{AreInTime, AreInTime-followed, legal-in_time}
use Rattle.history_laws.proofs.WorkLaws.{DueFrom, IsWorkFrom, FeedsFrom, IsWorkFrom-followed, source_mark-followed}

-- ---- rows stand in the order of their names

-- the rows of a run stand in the order of their names
pub record AreRowsInOrder (run : Run) : Type 0 where
  pub sorted : IsStrictlySortedBy row_cmp (keys_of run.rows)

-- one more entry keeps rows in order
pub AreRowsInOrder-followed : (shape : Shape) (run : Run) (entry : Entry) → AreRowsInOrder run → AreRowsInOrder (followed shape run entry)
AreRowsInOrder-followed shape run entry order = record { sorted = by_row (row_written entry) }
  where
    by_row : (w : Option RowName) → IsStrictlySortedBy row_cmp
        (keys_of (option_map_or (λ (n : RowName). insert_entry row_cmp run.rows n (made_row shape run entry n)) w run.rows))
    by_row None = order.sorted
    by_row (Some name) = sorted-insert_entry row_cmp-total run.rows name (made_row shape run entry name) order.sorted

-- before any entry there are no rows
pub AreRowsInOrder-empty : AreRowsInOrder empty_run
unfolding IsStrictlySortedBy
AreRowsInOrder-empty = record { sorted = tt }

-- the rows of each history stand in the order of their names
pub rows-in_order : (shape : Shape) (history : List Entry) → AreRowsInOrder (run_of shape history)
rows-in_order shape history = along_any shape AreRowsInOrder (AreRowsInOrder-followed shape) history empty_run AreRowsInOrder-empty

-- ---- the least of some marks

-- the least of marks is at most each
least-each : (marks : List ℕ) → AllByRecursion (λ m. least marks ≤ m) marks
least-each [] = tt
least-each (m ∷ ms) = (
  omega arith,
  each-weaker (λ k. least ms ≤ k) (λ k. least (m ∷ ms) ≤ k) (λ k le. omega (arith, le)) ms
      (least-each ms),
)

-- and at most the end
pub least-end : (marks : List ℕ) → least marks ≤ END
least-end [] = omega arith
least-end (m ∷ ms) = omega (arith, least-end ms)

-- what is at most each mark, and at most the end, is at most the least
pub least-bound : (x : ℕ) (marks : List ℕ) → x ≤ END → AllByRecursion (λ m. x ≤ m) marks → x ≤ least marks
least-bound x [] end each = end
least-bound x (m ∷ ms) end each = let rest = least-bound x ms end each.1 in let first = each.0 in omega (arith, first, rest)

-- what is at most the least is at most each mark
pub bound-each : (x : ℕ) (marks : List ℕ) → x ≤ least marks → AllByRecursion (λ m. x ≤ m) marks
bound-each x marks below = each-weaker (λ m. least marks ≤ m) (λ m. x ≤ m) (λ m le. omega (arith, below, le)) marks (least-each marks)

-- what holds of two lists together holds of each of them
pub each-apart : {X : Type 0} (P : X → Type 0) (xs ys : List X) → AllByRecursion P (xs ++ ys) → AllByRecursion P xs × AllByRecursion P ys
each-apart P [] ys each = (tt, each)
each-apart P (x ∷ xs) ys each = let rest = each-apart P xs ys each.1 in ((each.0, rest.0), rest.1)

-- a bound of the numbers of those that pass, as a bound of each that passes
pub from_passing : {X : Type 0} (x : ℕ) (f : X → ℕ) (test : X → Bool) (xs : List X) → AllByRecursion (λ m. x ≤ m) (map f (filter test xs))
    → AllByRecursion (λ e. test e ≡ true → x ≤ f e) xs
from_passing x f test [] each = tt
from_passing x f test (e ∷ es) each =
    elim (test e) as (λ b. AllByRecursion (λ m. x ≤ m) (map f (cond b (e ∷ filter test es) (filter test es)))
    → (b ≡ true → x ≤ f e) × AllByRecursion (λ e. test e ≡ true → x ≤ f e) es) [
      | true ↦ λ each. ((λ _. each.0), from_passing x f test es each.1)
      | false ↦ λ each. ((λ no_pass. absurd (cc)), from_passing x f test es each)
    ] each

-- and back
pub to_passing : {X : Type 0} (x : ℕ) (f : X → ℕ) (test : X → Bool) (xs : List X) → AllByRecursion (λ e. test e ≡ true → x ≤ f e) xs
    → AllByRecursion (λ m. x ≤ m) (map f (filter test xs))
to_passing x f test [] each = tt
to_passing x f test (e ∷ es) each =
    elim (test e) as (λ b. (b ≡ true → x ≤ f e) → AllByRecursion (λ m. x ≤ m) (map f (cond b (e ∷ filter test es) (filter test es)))) [
      | true ↦ λ here. (here refl, to_passing x f test es each.1)
      | false ↦ λ here. to_passing x f test es each.1
    ] each.0

-- ---- the oldest work as a bound

-- the timers of each row of a part are due from this time on
abbrev RowsFrom : ℕ → ℕ → List (RowName × Contents) → Type 0
RowsFrom x part rows = AllByRecursion (λ (r : RowName × Contents). (r.0.part == part) ≡ true → AllByRecursion (DueFrom x) r.1.timers) rows

-- from the times of a part's timers to its rows
from_times : (x part : ℕ) (rows : List (RowName × Contents))
    → AllByRecursion (λ m. x ≤ m) (flat_map (λ (r : RowName × Contents). cond (r.0.part == part) (times_set r.1) []) rows)
    → RowsFrom x part rows
from_times x part [] each = tt
from_times x part (r ∷ rs) each =
    let parts = each-apart (λ m. x ≤ m) (cond (r.0.part == part) (times_set r.1) []) _ each in (
      (λ (of : (r.0.part == part) ≡ true). from_passing x (λ (t : Timer). t.time) (λ (t : Timer). not t.late) r.1.timers
          (subst (λ b. AllByRecursion (λ m. x ≤ m) (cond b (times_set r.1) [])) of parts.0)),
      from_times x part rs parts.1,
    )

-- and back
to_times : (x part : ℕ) (rows : List (RowName × Contents)) → RowsFrom x part rows
    → AllByRecursion (λ m. x ≤ m) (flat_map (λ (r : RowName × Contents). cond (r.0.part == part) (times_set r.1) []) rows)
to_times x part [] each = tt
to_times x part (r ∷ rs) each = each-append (λ m. x ≤ m) (cond (r.0.part == part) (times_set r.1) []) _
    (elim (r.0.part == part) as (λ b. (b ≡ true → AllByRecursion (DueFrom x) r.1.timers)
    → AllByRecursion (λ m. x ≤ m) (cond b (times_set r.1) [])) [
      | true ↦ λ here. to_passing x (λ (t : Timer). t.time) (λ (t : Timer). not t.late) r.1.timers (here refl)
      | false ↦ λ here. tt
    ] each.0)
    (to_times x part rs each.1)

-- a fact of the rows of a part is one of the row of each name of the part, where a fresh row has it
row_of-rows : (shape : Shape) (name : RowName) (part x : ℕ) (rows : List (RowName × Contents)) → name.part ≡ part → RowsFrom x part rows
    → AllByRecursion (DueFrom x) (unwrap_or (lookup (is_at (row_cmp name)) rows) (fresh (fresh_of shape name.part))).timers
row_of-rows shape name part x [] of each = tt
row_of-rows shape name part x (r ∷ rs) of each =
    elim (is_at (row_cmp name) r.0) as (λ b. is_at (row_cmp name) r.0 ≡ b
    → AllByRecursion (DueFrom x) (unwrap_or (cond b (Some r.1) (lookup (is_at (row_cmp name)) rs))
    (fresh (fresh_of shape name.part))).timers) [
      | true ↦ λ tie. each.0 (eq-eqb r.0.part part (ap (λ (n : RowName). n.part) (sym (same_row name r.0 tie)) ∙ of))
      | false ↦ λ tie. row_of-rows shape name part x rs of each.1
    ] refl

-- a fact of the row of each name of a part is one of the rows of the part
rows-row_of : (shape : Shape) (run : Run) (part x : ℕ) → AreRowsInOrder run
    → ((name : RowName) → name.part ≡ part → AllByRecursion (DueFrom x) (row_of shape run name).timers)
    → RowsFrom x part run.rows
rows-row_of shape run part x order each =
    each-weaker (λ (e : RowName × Contents). lookup (is_at (row_cmp e.0)) run.rows ≡ Some e.1)
    (λ (r : RowName × Contents). (r.0.part == part) ≡ true → AllByRecursion (DueFrom x) r.1.timers)
    (λ r found of. subst (λ o. AllByRecursion (DueFrom x) (unwrap_or o (fresh (fresh_of shape r.0.part))).timers) found
    (each r.0 (eqb-true r.0.part part of)))
    run.rows (each_found row_cmp-total run.rows order.sorted)

-- a bound of the oldest work of a part is one of its work
pub oldest-work : (shape : Shape) (run : Run) (x part : ℕ) → x ≤ oldest_work run part → IsWorkFrom shape run x part
oldest-work shape run x part below =
    let parts = each-apart (λ m. x ≤ m) (waiting_stamps run part) (timer_times run part)
    (bound-each x (waiting_stamps run part ++ timer_times run part) below) in record {
      waiting = from_passing x (λ (d : Delivery). d.item.stamp)
          (λ (d : Delivery). (d.to.part == part) && not d.item.late) run.unhandled parts.0;
      timers = λ name of. row_of-rows shape name part x run.rows of (from_times x part run.rows parts.1);
    }

-- and back
pub work-oldest : (shape : Shape) (run : Run) (x part : ℕ) → AreRowsInOrder run → x ≤ END → IsWorkFrom shape run x part
    → x ≤ oldest_work run part
work-oldest shape run x part order end work = least-bound x (waiting_stamps run part ++ timer_times run part) end
    (each-append (λ m. x ≤ m) (waiting_stamps run part) (timer_times run part)
    (to_passing x (λ (d : Delivery). d.item.stamp) (λ (d : Delivery). (d.to.part == part) && not d.item.late) run.unhandled work.waiting)
    (to_times x part run.rows (rows-row_of shape run part x order work.timers)))

-- ---- the low watermark as a bound

-- looking back through at most so many streams, no source states an earlier watermark and no computation has older work that is not late
abbrev pub LowFrom : CaseShape → Run → ℕ → ℕ → ℕ → Type 0
LowFrom case run x zero part = IsWorkFrom case.topology run x part
LowFrom case run x (suc depth) part = IsWorkFrom case.topology run x part × AllByRecursion
    (FeedsFrom case run x (LowFrom case run x depth)) (feeds_of case.topology part)

-- from the low watermark to the bound
pub low-from : (case : CaseShape) (run : Run) (x depth part : ℕ) → x ≤ low_under case run depth part → LowFrom case run x depth part
low-from case run x zero part below = oldest-work case.topology run x part below
low-from case run x (suc depth) part below =
    let each = bound-each x (oldest_work run part ∷ map
    (λ feeding. cond (is_injector case.topology feeding) (source_mark case run feeding) (low_under case run depth feeding))
    (feeds_of case.topology part)) below in
    (oldest-work case.topology run x part each.0, feeds (λ f. low-from case run x depth f) (feeds_of case.topology part) each.1)
  where
    feed : ((f : ℕ) → x ≤ low_under case run depth f → LowFrom case run x depth f) → (b : Bool) (f : ℕ)
        → x ≤ cond b (source_mark case run f) (low_under case run depth f)
        → MatchBool b (x ≤ source_mark case run f) (LowFrom case run x depth f)
    feed deeper true f below = below
    feed deeper false f below = deeper f below

    feeds : ((f : ℕ) → x ≤ low_under case run depth f → LowFrom case run x depth f) → (fs : List ℕ)
        → AllByRecursion (λ m. x ≤ m) (map (λ feeding. cond (is_injector case.topology feeding) (source_mark case run feeding)
        (low_under case run depth feeding)) fs)
        → AllByRecursion (FeedsFrom case run x (LowFrom case run x depth)) fs
    feeds deeper [] each = tt
    feeds deeper (f ∷ fs) each = (feed deeper (is_injector case.topology f) f each.0, feeds deeper fs each.1)

-- and back
pub from-low : (case : CaseShape) (run : Run) (x depth part : ℕ) → AreRowsInOrder run → x ≤ END → LowFrom case run x depth part
    → x ≤ low_under case run depth part
from-low case run x zero part order end from = work-oldest case.topology run x part order end from
from-low case run x (suc depth) part order end from =
    least-bound x (oldest_work run part ∷ map (λ feeding. cond (is_injector case.topology feeding) (source_mark case run feeding)
    (low_under case run depth feeding)) (feeds_of case.topology part)) end (
      work-oldest case.topology run x part order end from.0,
      feeds (λ f. from-low case run x depth f order end)
          (feeds_of case.topology part) from.1,
    )
  where
    feed : ((f : ℕ) → LowFrom case run x depth f → x ≤ low_under case run depth f) → (b : Bool) (f : ℕ)
        → MatchBool b (x ≤ source_mark case run f) (LowFrom case run x depth f)
        → x ≤ cond b (source_mark case run f) (low_under case run depth f)
    feed deeper true f from = from
    feed deeper false f from = deeper f from

    feeds : ((f : ℕ) → LowFrom case run x depth f → x ≤ low_under case run depth f) → (fs : List ℕ)
        → AllByRecursion (FeedsFrom case run x (LowFrom case run x depth)) fs
        → AllByRecursion (λ m. x ≤ m) (map (λ feeding. cond (is_injector case.topology feeding) (source_mark case run feeding)
        (low_under case run depth feeding)) fs)
    feeds deeper [] each = tt
    feeds deeper (f ∷ fs) each = (feed deeper (is_injector case.topology f) f each.0, feeds deeper fs each.1)

-- the low watermark of a part is at most the end
pub low_under-end : (case : CaseShape) (run : Run) (depth part : ℕ) → low_under case run depth part ≤ END
low_under-end case run zero part = least-end (waiting_stamps run part ++ timer_times run part)
low_under-end case run (suc depth) part = least-end (oldest_work run part ∷ map
    (λ feeding. cond (is_injector case.topology feeding) (source_mark case run feeding) (low_under case run depth feeding))
    (feeds_of case.topology part))

-- what a feeding part has, seen through other streams
feed-weaker : (case : CaseShape) (run : Run) (x : ℕ) (One Other : ℕ → Type 0) (f : ℕ) → (One f → Other f) → FeedsFrom case run x One f
    → FeedsFrom case run x Other f
feed-weaker case run x One Other f weaker from =
    elim (is_injector case.topology f) as (λ b. MatchBool b (x ≤ source_mark case run f) (One f)
    → MatchBool b (x ≤ source_mark case run f) (Other f)) [
      | true ↦ λ m. m
      | false ↦ λ w. weaker w
    ] from

-- no path through streams is longer than the number of its part, so looking back further changes nothing
pub LowFrom-any_depth : (case : CaseShape) (run : Run) (x : ℕ) → IsTopology case.topology → (depth part : ℕ) → part ≤ depth
    → LowFrom case run x depth part
    → (other : ℕ) → LowFrom case run x other part
LowFrom-any_depth case run x rules zero part le from zero = from
LowFrom-any_depth case run x rules zero part le from (suc other) = (
  from,
  each-weaker (λ f. f < part) (FeedsFrom case run x (LowFrom case run x other)) (λ f less. absurd (omega (arith, less, le)))
      (feeds_of case.topology part) (feeds-before case.topology part rules),
)
LowFrom-any_depth case run x rules (suc depth) part le from zero = from.0
LowFrom-any_depth case run x rules (suc depth) part le from (suc other) = (
  from.0,
  each-weaker (λ f. (f < part) × FeedsFrom case run x (LowFrom case run x depth) f) (FeedsFrom case run x (LowFrom case run x other))
      (λ f (both : (f < part) × FeedsFrom case run x (LowFrom case run x depth) f).
      let less = both.0 in
      let near : f ≤ depth = omega (arith, less, le) in
      feed-weaker case run x (LowFrom case run x depth) (LowFrom case run x other) f
      (λ deeper. LowFrom-any_depth case run x rules depth f near deeper other) both.1)
      (feeds_of case.topology part)
      (each-both (λ f. f < part) (FeedsFrom case run x (LowFrom case run x depth)) (feeds_of case.topology part)
      (feeds-before case.topology part rules) from.1),
)

-- what holds of each element for each number holds for each number of each element
pub each-every : {X : Type 0} (P : ℕ → X → Type 0) (xs : List X) → ((n : ℕ) → AllByRecursion (P n) xs)
    → AllByRecursion (λ x. (n : ℕ) → P n x) xs
each-every P [] each = tt
each-every P (x ∷ xs) each = ((λ n. (each n).0), each-every P xs (λ n. (each n).1))

-- one more entry keeps each bound of the low watermark of a part
pub LowFrom-followed : (case : CaseShape) (history : List Entry) (run : Run) (entry : Entry) (x : ℕ) → IsRunnable case
    → AreIds history run → AreInTime run → MayFollow case run entry
    → (depth part : ℕ) → ((any : ℕ) → LowFrom case run x any part) → LowFrom case (followed case.topology run entry) x depth part
LowFrom-followed case history run entry x runs ids in_time may zero part from =
    IsWorkFrom-followed case history run entry x part runs ids in_time may (from 0) (from 1).1
LowFrom-followed case history run entry x runs ids in_time may (suc depth) part from = (
  IsWorkFrom-followed case history run entry x part runs ids in_time may (from 0) (from 1).1,
  each-weaker (λ f. (any : ℕ) → FeedsFrom case run x (LowFrom case run x any) f)
      (FeedsFrom case (followed case.topology run entry) x (LowFrom case (followed case.topology run entry) x depth))
      (λ f all. feed f (λ deeper. LowFrom-followed case history run entry x runs ids in_time may depth f deeper)
      (is_injector case.topology f) refl all)
      (feeds_of case.topology part)
      (each-every (λ any f. FeedsFrom case run x (LowFrom case run x any) f) (feeds_of case.topology part) (λ any. (from (suc any)).1)),
)
  where
    after : Run
    after = followed case.topology run entry

    feed : (f : ℕ) → (((any : ℕ) → LowFrom case run x any f) → LowFrom case after x depth f) → (b : Bool) → is_injector case.topology f ≡ b
        → ((any : ℕ) → MatchBool b (x ≤ source_mark case run f) (LowFrom case run x any f))
        → MatchBool b (x ≤ source_mark case after f) (LowFrom case after x depth f)
    feed f deeper true is all = let before = all 0 in let rises = source_mark-followed case run entry f runs may is in
        omega (arith, before, rises)
    feed f deeper false is all = deeper all

-- what stands after a history, and a bound of the low watermark of a part
pub record KeepsLow (case : CaseShape) (x part : ℕ) (history : List Entry) (run : Run) : Type 0 where
  pub ids : AreIds history run
  pub in_time : AreInTime run
  pub low : (depth : ℕ) → LowFrom case run x depth part

-- the low watermark of a part never falls
pub low_watermark-rises : (case : CaseShape) (front rest : List Entry) (part : ℕ) → IsRunnable case → IsLegal case (front ++ rest)
    → part ≤ parts_of case.topology
    → low_watermark case (run_of case.topology front) part ≤ low_watermark case (run_of case.topology (front ++ rest)) part
low_watermark-rises case front rest part runs legal there =
    subst (λ (r : Run). x ≤ low_watermark case r part) (sym (run_of-append case.topology front rest))
    (from-low case after x (parts_of case.topology) part
    (subst AreRowsInOrder (run_of-append case.topology front rest) (rows-in_order case.topology (front ++ rest)))
    (low_under-end case before (parts_of case.topology) part) (kept.low (parts_of case.topology)))
  where
    before : Run
    before = run_of case.topology front

    x : ℕ
    x = low_watermark case before part

    after : Run
    after = fold (followed case.topology) before rest

    first : KeepsLow case x part front before
    first =
        let parts = AreLegal-apart case front rest empty_run legal in record {
          ids = legal-ids case front parts.0;
          in_time = legal-in_time case front runs parts.0;
          low = LowFrom-any_depth case before x runs.topology (parts_of case.topology) part there
              (low-from case before x (parts_of case.topology) part (let least_one : x ≤ x = omega arith in least_one));
        }

    kept : KeepsLow case x part (front ++ rest) after
    kept = along_entries case (KeepsLow case x part)
        (λ done run entry keeps may. record {
          ids = AreIds-followed case done run entry keeps.ids may;
          in_time = AreInTime-followed case run entry runs keeps.in_time may;
          low = λ depth. LowFrom-followed case done run entry x runs keeps.ids keeps.in_time may depth part keeps.low;
        }) rest front before first (AreLegal-apart case front rest empty_run legal).1
