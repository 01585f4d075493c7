-- The places of a row of a spike: whatever the order of its records, and as its state holds them.
use Rattle.std.proofs.Common.{◌≡◌, ℕ, zero, suc, ◌+◌, ◌-◌, ◌<◌, ◌≤◌, ◌==◌, ◌&&◌, not, Bool, true, false, cond, List, [], ◌∷◌, ◌++◌, length, map, filter, drop, ℤ, refl, sym, ◌∙◌, ap, arith, append_assoc, length-append, length-drop}
use Rattle.std.specs.Prelude.{nat_le, pos, int_lt, ◌*ℤ◌}
use Rattle.std.specs.Int.{int_max}
use Rattle.std.specs.List.{AllByRecursion}
use Rattle.std.specs.Ordering.{nat_cmp, match_ordering, ordering_then}
use Rattle.std.specs.declared.cmp.Ordering.{Ordering}
use Rattle.std.specs.declared.cmp.Ordering.TheVariants.{Less, Equal, Greater}
use Rattle.std.proofs.lemmas.Bool.{eq-eqb}
use Rattle.std.proofs.lemmas.List.{append-nil}
use Rattle.std.proofs.lemmas.Bool.Decides.{nat_tests}
use Rattle.mw_types.specs.declared.TheConstants.{MAX_STAMP}
use Rattle.mw_types.specs.declared.state.HeldTotal.{HeldTotal}
use Rattle.mw_types.specs.declared.timer.Timer.{Timer}
use Rattle.row_parts.specs.Contents.{with_timer, without_timer, is_timer, set_again}
use Rattle.computations.specs.Handlers.{due_time, held_with, is_spike, known_with}
use Rattle.computations.specs.Entering.{entered-recursion}
use Rattle.plain_answer.specs.Plain.{sum_of_last, spike_at, spikes_in}
use Rattle.plain_answer.specs.Places.{with_place}

-- ---- as the state holds them

-- the place of a held total
abbrev pub held_place : HeldTotal → ℕ × ℤ
held_place h = (h.stamp, h.value)

-- the timer of a held total
abbrev pub held_timer : HeldTotal → Timer
held_timer h = record { tag = 0; time = due_time h.stamp; late = false }

-- a total that is held more is a place more
pub places-held : (held : List HeldTotal) (stamp : ℕ) (value : ℤ)
    → map held_place (held_with held stamp value) ≡ with_place (map held_place held) (stamp, value)
places-held [] stamp value = refl
places-held (h ∷ hs) stamp value =
    elim (nat_cmp stamp h.stamp) as
    (λ o. map held_place (match_ordering o (record { stamp = stamp; value = value } ∷ h ∷ hs)
    (record { stamp = h.stamp; value = int_max h.value value } ∷ hs) (h ∷ held_with hs stamp value))
    ≡ match_ordering o ((stamp, value) ∷ held_place h ∷ map held_place hs) ((h.stamp, int_max h.value value) ∷ map held_place hs)
    (held_place h ∷ with_place (map held_place hs) (stamp, value))) [
      | Less ↦ refl
      | Equal ↦ refl
      | Greater ↦ ap (λ l. held_place h ∷ l) (places-held hs stamp value)
    ]

-- a place that is above these goes behind them
pub place-behind : (front back : List (ℕ × ℤ)) (place : ℕ × ℤ) → AllByRecursion (λ (p : ℕ × ℤ). p.0 < place.0) front
    → with_place (front ++ back) place ≡ front ++ with_place back place
place-behind [] back place below = refl
place-behind (p ∷ ps) back place below =
    let less : p.0 < place.0 = below.0 in
    let above : nat_cmp place.0 p.0 ≡ Greater = grind (arith, nat_tests) in
    ap (λ o. match_ordering o (place ∷ p ∷ (ps ++ back)) ((p.0, int_max p.1 place.1) ∷ (ps ++ back))
    (p ∷ with_place (ps ++ back) place)) above
    ∙ ap (λ l. p ∷ l) (place-behind ps back place below.1)

-- held totals ascend, and are below the greatest timestamp
abbrev pub Climb : List HeldTotal → Type 0
Climb [] = Unit {0}
Climb (h ∷ hs) = AllByRecursion (λ (g : HeldTotal). h.stamp < g.stamp) hs × Climb hs

-- and are below the greatest timestamp
abbrev pub AreLow : List HeldTotal → Type 0
AreLow held = AllByRecursion (λ (h : HeldTotal). h.stamp < MAX_STAMP) held

-- what is before the first total is before the others
below_others : (n : ℕ) (h : HeldTotal) (hs : List HeldTotal) → n < h.stamp → AllByRecursion (λ (g : HeldTotal). h.stamp < g.stamp) hs
    → AllByRecursion (λ (g : HeldTotal). n < g.stamp) hs
below_others n h [] lt rest = tt
below_others n h (g ∷ gs) lt rest = (omega (arith, lt, rest.0), below_others n h gs lt rest.1)

-- they still ascend with one more
pub Climb-held : (held : List HeldTotal) (stamp : ℕ) (value : ℤ) → Climb held → Climb (held_with held stamp value)
Climb-held [] stamp value up = (tt, tt)
Climb-held (h ∷ hs) stamp value up =
    elim (nat_cmp stamp h.stamp) as
    (λ o. nat_cmp stamp h.stamp ≡ o → Climb (match_ordering o (record { stamp = stamp; value = value } ∷ h ∷ hs)
    (record { stamp = h.stamp; value = int_max h.value value } ∷ hs) (h ∷ held_with hs stamp value))) [
      | Less ↦ λ e. let lt : stamp < h.stamp = grind (arith, nat_tests) in ((lt, below_others stamp h hs lt up.0), up)
      | Equal ↦ λ e. up
      | Greater ↦ λ e. let lt : h.stamp < stamp = grind (arith, nat_tests) in (
        entered-recursion (λ (g : HeldTotal). g.stamp) (record { stamp = stamp; value = value })
            (λ (g : HeldTotal). record { stamp = g.stamp; value = int_max g.value value }) (λ (g : HeldTotal). h.stamp < g.stamp) lt
            (λ g p. p) hs up.0,
        Climb-held hs stamp value up.1,
      )
    ] refl

-- and are still below the greatest timestamp
pub AreLow-held : (held : List HeldTotal) (stamp : ℕ) (value : ℤ) → stamp < MAX_STAMP → AreLow held → AreLow (held_with held stamp value)
AreLow-held held stamp value low lows =
    entered-recursion (λ (g : HeldTotal). g.stamp) (record { stamp = stamp; value = value })
    (λ (g : HeldTotal). record { stamp = g.stamp; value = int_max g.value value }) (λ (g : HeldTotal). g.stamp < MAX_STAMP) low
    (λ g p. p) held lows

-- below the greatest timestamp totals are due in the order of their timestamps
due-order : (a b : ℕ) → a < MAX_STAMP → b < MAX_STAMP → ordering_then (nat_cmp (due_time a) (due_time b)) (nat_cmp 0 0) ≡ nat_cmp a b
due-order a b low other =
    let one : due_time a ≡ a + 1 = omega (arith, low) in
    let two : due_time b ≡ b + 1 = omega (arith, other) in
    (λ i. ordering_then (nat_cmp (one i) (two i)) (nat_cmp 0 0)) ∙ last (nat_cmp (a + 1) (b + 1)) ∙ same
  where
    last : (o : Ordering) → ordering_then o (nat_cmp 0 0) ≡ o
    last Less = refl
    last Equal = refl
    last Greater = refl

    same : nat_cmp (a + 1) (b + 1) ≡ nat_cmp a b
    same = elim (nat_cmp a b) as (λ o. nat_cmp a b ≡ o → nat_cmp (a + 1) (b + 1) ≡ o) [
      | Less ↦ λ e. grind (arith, nat_tests)
      | Equal ↦ λ e. grind (arith, nat_tests)
      | Greater ↦ λ e. grind (arith, nat_tests)
    ] refl

-- the timers of totals, with one more
pub timers-held : (held : List HeldTotal) (stamp : ℕ) (value : ℤ) → stamp < MAX_STAMP → AreLow held
    → with_timer (record { tag = 0; time = due_time stamp; late = false }) (map held_timer held)
    ≡ map held_timer (held_with held stamp value)
timers-held [] stamp value low lows = refl
timers-held (h ∷ hs) stamp value low lows =
    let t : Timer = record { tag = 0; time = due_time stamp; late = false } in
    ap (λ o. match_ordering o (t ∷ held_timer h ∷ map held_timer hs) (set_again t (held_timer h) ∷ map held_timer hs)
    (held_timer h ∷ with_timer t (map held_timer hs))) (due-order stamp h.stamp low lows.0)
    ∙ (elim (nat_cmp stamp h.stamp) as
    (λ o. match_ordering o (record { tag = 0; time = due_time stamp; late = false } ∷ held_timer h ∷ map held_timer hs)
    (set_again (record { tag = 0; time = due_time stamp; late = false }) (held_timer h) ∷ map held_timer hs)
    (held_timer h ∷ with_timer (record { tag = 0; time = due_time stamp; late = false }) (map held_timer hs))
    ≡ map held_timer (match_ordering o (record { stamp = stamp; value = value } ∷ h ∷ hs)
    (record { stamp = h.stamp; value = int_max h.value value } ∷ hs) (h ∷ held_with hs stamp value))) [
      | Less ↦ refl
      | Equal ↦ refl
      | Greater ↦ ap (λ l. held_timer h ∷ l) (timers-held hs stamp value low lows.1)
    ])

-- the first timer goes with the first total
pub first-timer : (h : HeldTotal) (hs : List HeldTotal) → Climb (h ∷ hs) → AreLow (h ∷ hs)
    → without_timer 0 (due_time h.stamp) (map held_timer (h ∷ hs)) ≡ map held_timer hs
first-timer h hs up lows =
    let own : is_timer 0 (due_time h.stamp) (held_timer h)
    ≡ true = ap (λ b. true && b) (eq-eqb (due_time h.stamp) (due_time h.stamp) refl) in
    ap (λ b. cond (not b) (held_timer h ∷ without_timer 0 (due_time h.stamp) (map held_timer hs))
    (without_timer 0 (due_time h.stamp) (map held_timer hs))) own
    ∙ others hs up.0 lows.1
  where
    others : (gs : List HeldTotal) → AllByRecursion (λ (g : HeldTotal). h.stamp < g.stamp) gs → AreLow gs
        → without_timer 0 (due_time h.stamp) (map held_timer gs) ≡ map held_timer gs
    others [] above low = refl
    others (g ∷ gs) above low =
        let mine : h.stamp < MAX_STAMP = lows.0 in
        let its : g.stamp < MAX_STAMP = low.0 in
        let later : h.stamp < g.stamp = above.0 in
        let far : due_time h.stamp < due_time g.stamp = omega (arith, mine, its, later) in
        let other : (due_time g.stamp == due_time h.stamp) ≡ false = apart (due_time g.stamp) (due_time h.stamp) far in
        ap (λ b. cond (not (true && b)) (held_timer g ∷ without_timer 0 (due_time h.stamp) (map held_timer gs))
        (without_timer 0 (due_time h.stamp) (map held_timer gs))) other
        ∙ ap (λ l. held_timer g ∷ l) (others gs above.1 low.1)
      where
        apart : (a b : ℕ) → b < a → (a == b) ≡ false
        apart a b less = grind (arith, nat_tests)

-- and the others stay
pub first-total : (h : HeldTotal) (hs : List HeldTotal) → Climb (h ∷ hs)
    → filter (λ (g : HeldTotal). not (g.stamp == h.stamp)) (h ∷ hs) ≡ hs
first-total h hs up =
    ap (λ b. cond (not b) (h ∷ filter (λ (g : HeldTotal). not (g.stamp == h.stamp)) hs)
    (filter (λ (g : HeldTotal). not (g.stamp == h.stamp)) hs))
    (eq-eqb h.stamp h.stamp refl)
    ∙ others hs up.0
  where
    apart : (a b : ℕ) → b < a → (a == b) ≡ false
    apart a b less = grind (arith, nat_tests)

    others : (gs : List HeldTotal) → AllByRecursion (λ (g : HeldTotal). h.stamp < g.stamp) gs
        → filter (λ (g : HeldTotal). not (g.stamp == h.stamp)) gs ≡ gs
    others [] above = refl
    others (g ∷ gs) above =
        ap (λ b. cond (not b) (g ∷ filter (λ (g : HeldTotal). not (g.stamp == h.stamp)) gs)
        (filter (λ (g : HeldTotal). not (g.stamp == h.stamp)) gs))
        (apart g.stamp h.stamp above.0)
        ∙ ap (λ l. g ∷ l) (others gs above.1)

-- ---- the last values

-- the last so many
abbrev pub lastly : ℕ → List ℤ → List ℤ
lastly last values = drop (length values - last) values

-- to drop no more than a list has
drop-less : {X : Type 0} (k : ℕ) (xs ys : List X) → k ≤ length xs → drop k (xs ++ ys) ≡ drop k xs ++ ys
drop-less zero xs ys less = refl
drop-less (suc k) [] ys less = absurd (omega (arith, less))
drop-less (suc k) (x ∷ xs) ys less = drop-less k xs ys (omega (arith, less))

-- to drop one more
drop-one : {X : Type 0} (k : ℕ) (xs : List X) → drop 1 (drop k xs) ≡ drop (suc k) xs
drop-one zero xs = refl
drop-one (suc k) [] = refl
drop-one (suc k) (x ∷ xs) = drop-one k xs

-- the last of the last and one more
pub lastly-push : (last : ℕ) (values : List ℤ) (value : ℤ) → known_with last (lastly last values) value ≡ lastly last (values ++ value ∷ [])
lastly-push last values value = by_size (nat_le (length values) last) refl
  where
    by_size : (b : Bool) → nat_le (length values) last ≡ b → known_with last (lastly last values) value ≡ lastly last (values ++ value ∷ [])
    by_size true e =
        let few : length values ≤ last = grind (arith, nat_tests) in
        let none : length values - last ≡ 0 = omega (arith, few) in
        ap (λ k. known_with last (drop k values) value) none
    by_size false e =
        let many : last < length values = grind (arith, nat_tests) in
        let k : ℕ = length values - last in
        let within : length values - last ≤ length values = omega arith in
        let left : length (lastly last values ++ value ∷ []) - last ≡ 1 =
        omega (arith, length-append (lastly last values) (value ∷ []), length-drop (length values - last) values, many) in
        let more : suc (length values - last) ≡ length (values ++ value ∷ []) - last = omega
        (arith, length-append values (value ∷ []), many) in
        ap (λ n. drop n (lastly last values ++ value ∷ [])) left
        ∙ ap (drop 1) (sym (drop-less (length values - last) values (value ∷ []) within))
        ∙ drop-one (length values - last) (values ++ value ∷ [])
        ∙ ap (λ n. drop n (values ++ value ∷ [])) more

-- whether enough values are known
pub enough-known : (last times : ℕ) (values : List ℤ) (value : ℤ)
    → is_spike last times (lastly last values) value
    ≡ (nat_le last (length values) && int_lt (pos times *ℤ sum_of_last last values) (value *ℤ pos last))
enough-known last times values value =
    ap (λ b. b && int_lt (pos times *ℤ sum_of_last last values) (value *ℤ pos last))
    (ap (λ n. n == last) (length-drop (length values - last) values) ∙ enough (length values))
  where
    enough : (n : ℕ) → (n - (n - last) == last) ≡ nat_le last n
    enough n = elim (nat_le last n) as (λ b. nat_le last n ≡ b → (n - (n - last) == last) ≡ b) [
      | true ↦ λ e. let le : last ≤ n = grind (arith, nat_tests) in
          let same : n - (n - last) ≡ last = omega (arith, le) in eq-eqb (n - (n - last)) last same
      | false ↦ λ e. let less : n < last = grind (arith, nat_tests) in
          let low : n - (n - last) < last = omega (arith, less) in apart (n - (n - last)) last low
    ] refl
      where
        apart : (a b : ℕ) → a < b → (a == b) ≡ false
        apart a b less = grind (arith, nat_tests)

-- spikes among one place more
pub spikes-push : (last times : ℕ) (key : List ℕ) (before : List ℤ) (places : List (ℕ × ℤ)) (stamp : ℕ) (value : ℤ)
    → spikes_in last times key before (places ++ (stamp, value) ∷ [])
    ≡ spikes_in last times key before places ++ spike_at last times key (before ++ map (λ (p : ℕ × ℤ). p.1) places) stamp value
spikes-push last times key before [] stamp value =
    append-nil (spike_at last times key before stamp value)
    ∙ ap (λ l. spike_at last times key l stamp value) (sym (append-nil before))
spikes-push last times key before (p ∷ ps) stamp value =
    ap (λ l. spike_at last times key before p.0 p.1 ++ l) (spikes-push last times key (before ++ p.1 ∷ []) ps stamp value
    ∙ ap (λ l. spikes_in last times key (before ++ p.1 ∷ []) ps ++ spike_at last times key l stamp value)
    (append_assoc before (p.1 ∷ []) (map (λ (p : ℕ × ℤ). p.1) ps)))
    ∙ sym (append_assoc (spike_at last times key before p.0 p.1) (spikes_in last times key (before ++ p.1 ∷ []) ps)
    (spike_at last times key (before ++ p.1 ∷ map (λ (p : ℕ × ℤ). p.1) ps) stamp value))
