-- Which window is open after some deeds of a row.
use Rattle.std.proofs.Common.{◌≡◌, ℕ, ◌+◌, ◌<◌, ◌≤◌, Bool, true, false, cond, not, ◌==◌, List, [], ◌∷◌, ◌++◌, length, filter, find, sum_by, Option, Some, None, refl, sym, ap, ◌∙◌, subst, arith}
use Rattle.std.specs.List.{AllByRecursion}
use Rattle.std.specs.Ordering.{nat_cmp, match_ordering}
use Rattle.std.specs.declared.cmp.Ordering.TheVariants.{Less, Equal, Greater}
use Rattle.std.proofs.lemmas.List.Sums.{sum_by-append}
use Rattle.std.proofs.lemmas.Bool.{ne_eqb}
use Rattle.std.proofs.lemmas.Bool.Decides.{nat_tests}
use Rattle.mw_types.specs.declared.TheConstants.{MAX_STAMP}
use Rattle.mw_types.specs.declared.state.Window.{Window}
use Rattle.computations.specs.Handlers.{one_more, window_end, counted}
use Rattle.plain_answer.specs.Deeds.{Deed, took, fired, after_deed, takes_into, fires_at, taken_into, fired_at, open_window, IsTimely}

-- each end is below those after it
abbrev pub Ascends : List Window → Type 0
Ascends [] = Unit {0}
Ascends (w ∷ ws) = AllByRecursion (λ (z : Window). w.end < z.end) ws × Ascends ws

-- a window that ends before all of these is none of them
absent : (end : ℕ) (ws : List Window) → AllByRecursion (λ (z : Window). end < z.end) ws → find (λ w. w.end == end) ws ≡ None
absent end [] below = refl
absent end (w ∷ ws) below =
    let lt : end < w.end = below.0 in
    let other : (w.end == end) ≡ false = grind (arith, nat_tests) in
    ap (λ b. cond b (Some w) (find (λ w. w.end == end) ws)) other ∙ absent end ws below.1

-- what is before the first window is before the others
below_others : (n : ℕ) (w : Window) (ws : List Window) → n < w.end → AllByRecursion (λ (z : Window). w.end < z.end) ws
    → AllByRecursion (λ (z : Window). n < z.end) ws
below_others n w [] lt rest = tt
below_others n w (z ∷ zs) lt rest = (omega (arith, lt, rest.0), below_others n w zs lt rest.1)

-- one more in a window
abbrev more : Window → Window
more w = record w { count = one_more w.count }

-- a window that is found, with one more, or a new one
abbrev with_one : ℕ → Option Window → Window
with_one end None = record { end = end; count = 1 }
with_one end (Some w) = more w

-- what is found of the window that a record goes into
find-counted : (end : ℕ) (ws : List Window) → Ascends ws
    → find (λ w. w.end == end) (counted ws end) ≡ Some (with_one end (find (λ w. w.end == end) ws))
find-counted end [] up = let same : (end == end) ≡ true = grind (arith, nat_tests) in ap (λ b. cond b (Some (with_one end None)) None) same
find-counted end (w ∷ ws) up =
    elim (nat_cmp end w.end) as
    (λ o. nat_cmp end w.end ≡ o
    → find (λ w. w.end == end) (match_ordering o (with_one end None ∷ w ∷ ws) (more w ∷ ws) (w ∷ counted ws end))
    ≡ Some (with_one end (find (λ w. w.end == end) (w ∷ ws)))) [
      | Less ↦ λ e.
          let lt : end < w.end = grind (arith, nat_tests) in
          let same : (end == end) ≡ true = grind (arith, nat_tests) in
          ap (λ b. cond b (Some (with_one end None)) (find (λ w. w.end == end) (w ∷ ws))) same
          ∙ ap (λ o. Some (with_one end o)) (sym (absent end (w ∷ ws) (lt, below_others end w ws lt up.0)))
      | Equal ↦ λ e.
          let here : (w.end == end) ≡ true = grind (arith, nat_tests) in
          ap (λ b. cond b (Some (more w)) (find (λ w. w.end == end) ws)) here
          ∙ sym (ap (λ b. Some (with_one end (cond b (Some w) (find (λ w. w.end == end) ws)))) here)
      | Greater ↦ λ e.
          let other : (w.end == end) ≡ false = grind (arith, nat_tests) in
          ap (λ b. cond b (Some w) (find (λ w. w.end == end) (counted ws end))) other
          ∙ find-counted end ws up.1
          ∙ sym (ap (λ b. Some (with_one end (cond b (Some w) (find (λ w. w.end == end) ws)))) other)
    ] refl

-- and of each other
find-counted-other : (end other : ℕ) (ws : List Window) → (end == other) ≡ false
    → find (λ w. w.end == other) (counted ws end) ≡ find (λ w. w.end == other) ws
find-counted-other end other [] differ = ap (λ b. cond b (Some (with_one end None)) None) differ
find-counted-other end other (w ∷ ws) differ =
    elim (nat_cmp end w.end) as
    (λ o. nat_cmp end w.end ≡ o
    → find (λ w. w.end == other) (match_ordering o (with_one end None ∷ w ∷ ws) (more w ∷ ws) (w ∷ counted ws end))
    ≡ find (λ w. w.end == other) (w ∷ ws)) [
      | Less ↦ λ e. ap (λ b. cond b (Some (with_one end None)) (find (λ w. w.end == other) (w ∷ ws))) differ
      | Equal ↦ λ e.
          let not_here : (w.end == other) ≡ false = grind (arith, nat_tests) in
          ap (λ b. cond b (Some (more w)) (find (λ w. w.end == other) ws)) not_here
          ∙ sym (ap (λ b. cond b (Some w) (find (λ w. w.end == other) ws)) not_here)
      | Greater ↦ λ e. ap (λ o. cond (w.end == other) (Some w) o) (find-counted-other end other ws differ)
    ] refl

-- a window that fired is gone, and each other stays
find-closed : (time end : ℕ) (ws : List Window)
    → find (λ w. w.end == end) (filter (λ w. not (w.end == time)) ws) ≡ cond (time == end) None (find (λ w. w.end == end) ws)
find-closed time end [] = elim (time == end) as (λ b. ◌≡◌ {A = Option Window} None (cond b None None)) [ true ↦ refl | false ↦ refl ]
find-closed time end (w ∷ ws) =
    elim (w.end == time) as
    (λ b. (w.end == time) ≡ b → find (λ w. w.end == end) (cond (not b) (w ∷ filter (λ w. not (w.end == time)) ws)
    (filter (λ w. not (w.end == time)) ws))
    ≡ cond (time == end) None (cond (w.end == end) (Some w) (find (λ w. w.end == end) ws))) [
      | true ↦ λ e.
          let same : (w.end == end) ≡ (time == end) = ap (λ n. n == end) (let is : w.end ≡ time = grind (arith, nat_tests) in is) in
          find-closed time end ws ∙ dropped (time == end) (w.end == end) w (find (λ w. w.end == end) ws) same
      | false ↦ λ e.
          elim (w.end == end) as
          (λ c. (w.end == end) ≡ c → cond c (Some w) (find (λ w. w.end == end) (filter (λ w. not (w.end == time)) ws))
          ≡ cond (time == end) None (cond c (Some w) (find (λ w. w.end == end) ws))) [
            | true ↦ λ f.
                let differ : (time == end) ≡ false = grind (arith, nat_tests) in
                sym (ap (λ b. cond b None (Some w)) differ)
            | false ↦ λ f. find-closed time end ws
          ] refl
    ] refl
  where
    dropped : (gone here : Bool) (w : Window) (rest : Option Window) → here ≡ gone → cond gone None rest
        ≡ cond gone None (cond here (Some w) rest)
    dropped true here w rest same = refl
    dropped false here w rest same = sym (ap (λ b. cond b (Some w) rest) same)

-- a list that ascends still does
Ascends-counted : (end : ℕ) (ws : List Window) → Ascends ws → Ascends (counted ws end)
Ascends-counted end [] up = (tt, tt)
Ascends-counted end (w ∷ ws) up =
    elim (nat_cmp end w.end) as
    (λ o. nat_cmp end w.end ≡ o → Ascends (match_ordering o (with_one end None ∷ w ∷ ws) (more w ∷ ws) (w ∷ counted ws end))) [
      | Less ↦ λ e. let lt : end < w.end = grind (arith, nat_tests) in ((lt, below_others end w ws lt up.0), up)
      | Equal ↦ λ e. up
      | Greater ↦ λ e. let lt : w.end < end = grind (arith, nat_tests) in (above w.end end ws lt up.0, Ascends-counted end ws up.1)
    ] refl
  where
    above : (n end : ℕ) (ws : List Window) → n < end → AllByRecursion (λ (z : Window). n < z.end) ws
        → AllByRecursion (λ (z : Window). n < z.end) (counted ws end)
    above n end [] lt each = (lt, tt)
    above n end (w ∷ ws) lt each =
        elim (nat_cmp end w.end) as
        (λ o. AllByRecursion (λ (z : Window). n < z.end) (match_ordering o (with_one end None ∷ w ∷ ws) (more w ∷ ws)
        (w ∷ counted ws end))) [
          | Less ↦ (lt, each)
          | Equal ↦ each
          | Greater ↦ (each.0, above n end ws lt each.1)
        ]

-- what is above a number is above it where some are left out
each-filter : (n : ℕ) (p : Window → Bool) (ws : List Window) → AllByRecursion (λ (z : Window). n < z.end) ws
    → AllByRecursion (λ (z : Window). n < z.end) (filter p ws)
each-filter n p [] each = tt
each-filter n p (w ∷ ws) each =
    elim (p w) as (λ b. AllByRecursion (λ (z : Window). n < z.end) (cond b (w ∷ filter p ws) (filter p ws)))
    [ true ↦ (each.0, each-filter n p ws each.1) | false ↦ each-filter n p ws each.1 ]

-- windows ascend where some are left out
Ascends-filter : (p : Window → Bool) (ws : List Window) → Ascends ws → Ascends (filter p ws)
Ascends-filter p [] up = tt
Ascends-filter p (w ∷ ws) up =
    elim (p w) as (λ b. Ascends (cond b (w ∷ filter p ws) (filter p ws)))
    [ true ↦ (each-filter w.end p ws up.0, Ascends-filter p ws up.1) | false ↦ Ascends-filter p ws up.1 ]

-- ---- along the deeds of a row

-- the windows of a row that has done these deeds
pub record HasWindows (size : ℕ) (done : List Deed) (ws : List Window) : Type 0 where
  pub ascending : Ascends ws
  pub each : (end : ℕ) → find (λ w. w.end == end) ws ≡ open_window size end done

-- one more of what is counted
sum-snoc : (f : Deed → ℕ) (done : List Deed) (d : Deed) → sum_by f (done ++ d ∷ []) ≡ sum_by f done + f d
sum-snoc f done d = sum_by-append f done (d ∷ []) ∙ omega arith

-- the window that is open, by what fired and what was taken
abbrev opened : ℕ → ℕ → ℕ → Option Window
opened end fires takes = cond (fires == 0) (cond (takes == 0) None (Some (record { end = end; count = takes }))) None

-- what is counted is at most the number of deeds
sum-few : (size end : ℕ) (done : List Deed) → taken_into size end done ≤ length done
sum-few size end [] = omega arith
sum-few size end (d ∷ ds) = omega (arith, one d, sum-few size end ds, sum_by-append (takes_into size end) (d ∷ []) ds)
  where
    one : (d : Deed) → takes_into size end d ≤ 1
    one (took stamp true) = omega arith
    one (took stamp false) = elim (window_end size stamp == end) as (λ b. cond b 1 0 ≤ 1) [ true ↦ omega arith | false ↦ omega arith ]
    one (fired time) = omega arith

-- an open window, as it is found
abbrev open_at : ℕ → ℕ → Option Window
open_at end count = Some (record { end = end; count = count })

-- one more taken into a window that has not fired
with_one-opened : (end takes : ℕ) → takes < MAX_STAMP → Some (with_one end (opened end 0 takes)) ≡ opened end 0 (takes + 1)
with_one-opened end takes few =
    let some : (takes + 1 == 0) ≡ false = ne_eqb (takes + 1) 0 (λ e. omega (arith, e)) in
    elim (takes == 0) as
    (λ b. (takes == 0) ≡ b → Some (with_one end (cond b None (open_at end takes))) ≡ cond (takes + 1 == 0) None (open_at end (takes + 1))) [
      | true ↦ λ e.
          let first : takes ≡ 0 = grind (arith, nat_tests) in
          let one : 1 ≡ takes + 1 = omega (arith, first) in
          ap (open_at end) one ∙ sym (ap (λ b. cond b None (open_at end (takes + 1))) some)
      | false ↦ λ e.
          let room : one_more takes ≡ takes + 1 = omega (arith, few) in
          ap (open_at end) room ∙ sym (ap (λ b. cond b None (open_at end (takes + 1))) some)
    ] refl

-- with one more deed
pub HasWindows-next : (size : ℕ) (done : List Deed) (ws : List Window) (d : Deed) → length done < MAX_STAMP → IsTimely size done d
    → HasWindows size done ws → HasWindows size (done ++ d ∷ []) (after_deed size ws d)
HasWindows-next size done ws (took stamp true) few timely has = record {
  ascending = has.ascending;
  each = λ end. has.each end ∙ sym (rest end);
}
  where
    rest : (end : ℕ) → open_window size end (done ++ took stamp true ∷ []) ≡ open_window size end done
    rest end =
        let t : taken_into size end (done ++ took stamp true ∷ [])
        ≡ taken_into size end done = sum-snoc (takes_into size end) done (took stamp true) ∙ omega arith in
        let f : fired_at end (done ++ took stamp true ∷ []) ≡ fired_at end done = sum-snoc (fires_at end) done (took stamp true)
        ∙ omega arith in
        ap (λ n. opened end n (taken_into size end (done ++ took stamp true ∷ []))) f ∙ ap (opened end (fired_at end done)) t
HasWindows-next size done ws (took stamp false) few timely has = record {
  ascending = Ascends-counted end ws has.ascending;
  each = each;
}
  where
    end : ℕ
    end = window_end size stamp

    d : Deed
    d = took stamp false

    each : (other : ℕ) → find (λ w. w.end == other) (counted ws end) ≡ open_window size other (done ++ d ∷ [])
    each other =
        elim (end == other) as
        (λ b. (end == other) ≡ b → find (λ w. w.end == other) (counted ws end) ≡ open_window size other (done ++ d ∷ [])) [
          | true ↦ λ e.
              let same : end ≡ other = grind (arith, nat_tests) in
              subst (λ o. find (λ w. w.end == o) (counted ws end) ≡ open_window size o (done ++ d ∷ [])) same here
          | false ↦ λ e.
              let t : taken_into size other (done ++ d ∷ []) ≡ taken_into size other done =
              sum-snoc (takes_into size other) done d ∙ ap (λ b. taken_into size other done + cond b 1 0) e ∙ omega arith in
              let f : fired_at other (done ++ d ∷ []) ≡ fired_at other done = sum-snoc (fires_at other) done d ∙ omega arith in
              find-counted-other end other ws e ∙ has.each other
              ∙ sym (ap (λ n. opened other n (taken_into size other (done ++ d ∷ []))) f ∙ ap (opened other (fired_at other done)) t)
        ] refl
      where
        here : find (λ w. w.end == end) (counted ws end) ≡ open_window size end (done ++ d ∷ [])
        here =
            let same : (end == end) ≡ true = grind (arith, nat_tests) in
            let t : taken_into size end (done ++ d ∷ []) ≡ taken_into size end done + 1 =
            sum-snoc (takes_into size end) done d ∙ ap (λ b. taken_into size end done + cond b 1 0) same in
            let f : fired_at end (done ++ d ∷ []) ≡ 0 = sum-snoc (fires_at end) done d ∙ omega (arith, timely) in
            let few_taken : taken_into size end done < MAX_STAMP = omega (arith, few, sum-few size end done) in
            find-counted end ws has.ascending
            ∙ ap (λ o. Some (with_one end o)) (has.each end ∙ ap (λ n. opened end n (taken_into size end done)) timely)
            ∙ with_one-opened end (taken_into size end done) few_taken
            ∙ sym (ap (λ n. opened end n (taken_into size end (done ++ d ∷ []))) f ∙ ap (opened end 0) t)
HasWindows-next size done ws (fired time) few timely has = record {
  ascending = Ascends-filter (λ w. not (w.end == time)) ws has.ascending;
  each = λ end. find-closed time end ws ∙ closed end;
}
  where
    closed : (end : ℕ) → cond (time == end) None (find (λ w. w.end == end) ws) ≡ open_window size end (done ++ fired time ∷ [])
    closed end =
        let t : taken_into size end (done ++ fired time ∷ [])
        ≡ taken_into size end done = sum-snoc (takes_into size end) done (fired time) ∙ omega arith in
        let f : fired_at end (done ++ fired time ∷ [])
        ≡ fired_at end done + cond (time == end) 1 0 = sum-snoc (fires_at end) done (fired time) in
        elim (time == end) as
        (λ b. fired_at end (done ++ fired time ∷ []) ≡ fired_at end done + cond b 1 0
        → cond b None (find (λ w. w.end == end) ws) ≡ open_window size end (done ++ fired time ∷ [])) [
          | true ↦ λ g.
              let some : (fired_at end (done ++ fired time ∷ []) == 0) ≡ false = grind (arith, nat_tests, g) in
              sym (ap (λ b. cond b (cond (taken_into size end (done ++ fired time ∷ []) == 0) None
              (Some (record { end = end; count = taken_into size end (done ++ fired time ∷ []) }))) None) some)
          | false ↦ λ g.
              let h : fired_at end (done ++ fired time ∷ []) ≡ fired_at end done = g ∙ omega arith in
              has.each end ∙ sym (ap (λ n. opened end n (taken_into size end (done ++ fired time ∷ []))) h
              ∙ ap (opened end (fired_at end done)) t)
        ] f
