-- What a count gives is what its windows tally, one member after another. On the way to the code of the plain text.
use Rattle.std.proofs.Common.{◌≡◌, ℕ, ◌+◌, ◌==◌, ◌&&◌, not, Bool, true, false, cond, List, [], ◌∷◌, ◌++◌, length, map, filter, fold, Option, Some, None, refl, sym, ◌∙◌, ap, subst, arith}
use Rattle.std.specs.Prelude.{nat_eq, unwrap_or, Result, Ok, Err, IfOk}
use Rattle.std.specs.declared.cmp.Ordering.TheVariants.{Less}
use Rattle.std.specs.Cmp.Lexicographic.{pointwise}
use Rattle.std.specs.Cmp.{IsTotalOrder, then_total, on_total, nat_cmp_total, tied_itself}
use Rattle.std.specs.Cmp.Lexicographic.{nat_list_cmp_total}
use Rattle.std.specs.List.{AllByRecursion}
use Rattle.std.specs.List.Sorted.{IsPermutation, IsStrictlySortedBy}
use Rattle.std.specs.Map.{lookup, keys_of}
use Rattle.std.specs.BTreeMap.{insert_entry, is_at}
use Rattle.std.specs.Ordering.{is_eq, nat_cmp}
use Rattle.std.proofs.lemmas.Bool.{eq-eqb, both_ways}
use Rattle.std.proofs.lemmas.Bool.Decides.{nat_tests}
use Rattle.std.proofs.lemmas.List.{append-nil}
use Rattle.std.proofs.lemmas.Map.Lookups.{exact_unsigned, exact_bytes, exact_pairs}
use Rattle.mw_types.specs.declared.kind.Kind.TheVariants as kinds
use Rattle.mw_types.specs.declared.record.Record.{Record}
use Rattle.mw_types.specs.Orders.{key_cmp}
use Rattle.run_history.proofs.Lookups.{lookup-insert_entry, sorted-insert_entry}
use Rattle.list_lemmas.proofs.Tests.{equal_from_test}
use Rattle.list_lemmas.proofs.Filters.{by_keys, filter-map}
use Rattle.list_lemmas.proofs.Totals.{total, when, total-push}
use Rattle.plain_answer.specs.Plain.{Keyed, plain_end, plain_of}
use Rattle.plain_answer.specs.Tallies.{window_cmp, tally_at, tally_with, tally_of, window_given}
use Rattle.plain_answer.proofs.Closing.{at_place, count_at, counted_at, same-key, key-itself}
use Rattle.plain_answer.proofs.PlainCounts.{into, plain-at}

-- windows are in a total order
pub window_cmp-total : IsTotalOrder window_cmp
window_cmp-total = then_total (on_total (λ (w : List ℕ × ℕ). w.0) nat_list_cmp_total) (on_total (λ (w : List ℕ × ℕ). w.1) nat_cmp_total)

-- windows that tie are one
pub same-window : (a b : List ℕ × ℕ) → is_at (window_cmp a) b ≡ true → a ≡ b
same-window a b e = exact_pairs key_cmp nat_cmp exact_bytes exact_unsigned a b (equal_from_test (window_cmp a b) e)

window-itself : (a : List ℕ × ℕ) → is_at (window_cmp a) a ≡ true
window-itself a = ap is_eq (tied_itself window_cmp-total a)

-- a window ties with that of a record exactly where the record is at its place
at-window : (a b : List ℕ × ℕ) → is_at (window_cmp a) b ≡ (pointwise nat_eq a.0 b.0 && (b.1 == a.1))
at-window a b = elim (is_at (window_cmp a) b) as (λ t. is_at (window_cmp a) b ≡ t → t ≡ (pointwise nat_eq a.0 b.0 && (b.1 == a.1))) [
  | true ↦ λ e. subst (λ (w : List ℕ × ℕ). true ≡ (pointwise nat_eq a.0 w.0 && (w.1 == a.1))) (same-window a b e)
      (sym ((λ i. key-itself a.0 i && (a.1 == a.1)) ∙ eq-eqb a.1 a.1 refl))
  | false ↦ λ e. apart e (pointwise nat_eq a.0 b.0) refl (b.1 == a.1) refl
] refl
  where
    apart : is_at (window_cmp a) b ≡ false → (s : Bool) → pointwise nat_eq a.0 b.0 ≡ s → (t : Bool) → (b.1 == a.1) ≡ t → false ≡ (s && t)
    apart e false one t other = refl
    apart e true one false other = refl
    apart e true one true other =
        let ends : b.1 ≡ a.1 = grind (arith, nat_tests) in
        let same : b ≡ a = λ i. (sym (same-key a.0 b.0 one) i, ends i) in
        absurd (both_ways (is_at (window_cmp a) b) e (ap (is_at (window_cmp a)) same ∙ window-itself a))

-- what stands of some members: entries in order, with the count of each window that has one
record Tallies (size : ℕ) (done : List Keyed) (es : List ((List ℕ × ℕ) × ℕ)) : Type 0 where
  sorted : IsStrictlySortedBy window_cmp (keys_of es)
  each : (w : List ℕ × ℕ) → lookup (is_at (window_cmp w)) es
      ≡ cond (total (into size w.0 w.1) done == 0) None (Some (total (into size w.0 w.1) done))

-- what a count reads of a window that is found or not
count-found : (n : ℕ) → unwrap_or (cond (n == 0) None (Some n)) 0 ≡ n
count-found n = elim (n == 0) as (λ b. (n == 0) ≡ b → unwrap_or (cond b None (Some n)) 0 ≡ n) [
  | true ↦ λ e. let none : n ≡ 0 = grind (arith, nat_tests) in sym none
  | false ↦ λ e. refl
] refl

-- with one member more
tallies-with : (size : ℕ) (done : List Keyed) (m : Keyed) (es : List ((List ℕ × ℕ) × ℕ)) → Tallies size done es
    → Tallies size (done ++ m ∷ []) (tally_with size es m)
tallies-with size done m es tallies = by_late m.1.late refl
  where
    own : List ℕ × ℕ
    own = (m.0, plain_end size m.1.stamp)

    grown : (w : List ℕ × ℕ) (k : ℕ) → into size w.0 w.1 m ≡ k
        → total (into size w.0 w.1) (done ++ m ∷ []) ≡ total (into size w.0 w.1) done + k
    grown w k is = total-push (into size w.0 w.1) done m ∙ ap (λ n. total (into size w.0 w.1) done + n) is

    same_find : (w : List ℕ × ℕ) → into size w.0 w.1 m ≡ 0 → lookup (is_at (window_cmp w)) es
        ≡ cond (total (into size w.0 w.1) (done ++ m ∷ []) == 0) None (Some (total (into size w.0 w.1) (done ++ m ∷ [])))
    same_find w none =
        let stays : total (into size w.0 w.1) done ≡ total (into size w.0 w.1) (done ++ m ∷ []) = omega (arith, grown w 0 none) in
        tallies.each w ∙ ap (λ n. cond (n == 0) None (Some n)) stays

    by_late : (b : Bool) → m.1.late ≡ b
        → Tallies size (done ++ m ∷ []) (cond b es (insert_entry window_cmp es own (tally_at es own + 1)))
    by_late true is = record {
      sorted = tallies.sorted;
      each = λ w. same_find w (late_none (pointwise nat_eq w.0 m.0) w);
    }
      where
        late_none : (b : Bool) (w : List ℕ × ℕ)
            → when (pointwise nat_eq w.0 m.0 && not m.1.late) (when (plain_end size m.1.stamp == w.1) 1) ≡ 0
        late_none b w = ap (λ l. when (pointwise nat_eq w.0 m.0 && not l) (when (plain_end size m.1.stamp == w.1) 1)) is
            ∙ by_key (pointwise nat_eq w.0 m.0)
          where
            by_key : (c : Bool) → when (c && false) (when (plain_end size m.1.stamp == w.1) 1) ≡ 0
            by_key true = refl
            by_key false = refl
    by_late false is = record {
      sorted = sorted-insert_entry window_cmp-total es own (tally_at es own + 1) tallies.sorted;
      each = λ w. lookup-insert_entry window_cmp-total es own (tally_at es own + 1) w ∙ by_window w (is_at (window_cmp w) own) refl;
    }
      where
        counts : (w : List ℕ × ℕ) → into size w.0 w.1 m ≡ when (is_at (window_cmp w) own) 1
        counts w = ap (λ l. when (pointwise nat_eq w.0 m.0 && not l) (when (plain_end size m.1.stamp == w.1) 1)) is
            ∙ both (pointwise nat_eq w.0 m.0) (plain_end size m.1.stamp == w.1)
            ∙ ap (λ b. when b 1) (sym (at-window w own))
          where
            both : (a b : Bool) → when (a && true) (when b 1) ≡ when (a && b) 1
            both true b = refl
            both false b = refl

        by_window : (w : List ℕ × ℕ) (b : Bool) → is_at (window_cmp w) own ≡ b
            → cond b (Some (tally_at es own + 1)) (lookup (is_at (window_cmp w)) es)
            ≡ cond (total (into size w.0 w.1) (done ++ m ∷ []) == 0) None (Some (total (into size w.0 w.1) (done ++ m ∷ [])))
        by_window w true e =
            let here : w ≡ own = same-window w own e in
            let one : into size w.0 w.1 m ≡ 1 = counts w ∙ ap (λ b. when b 1) e in
            let found : tally_at es own ≡ total (into size w.0 w.1) done =
            ap (tally_at es) (sym here) ∙ ap (λ o. unwrap_or o 0) (tallies.each w) ∙ count-found (total (into size w.0 w.1) done) in
            let more : tally_at es own + 1 ≡ total (into size w.0 w.1) (done ++ m ∷ []) = omega (arith, found, grown w 1 one) in
            let some : (total (into size w.0 w.1) (done ++ m ∷ []) == 0) ≡ false = grind (arith, nat_tests, more) in
            ap Some more ∙ sym (ap (λ b. cond b None (Some (total (into size w.0 w.1) (done ++ m ∷ [])))) some)
        by_window w false e = same_find w (counts w ∙ ap (λ b. when b 1) e)

tallies-along : (size : ℕ) (done ms : List Keyed) (es : List ((List ℕ × ℕ) × ℕ)) → Tallies size done es
    → Tallies size (done ++ ms) (fold (tally_with size) es ms)
tallies-along size done [] es tallies = subst (λ l. Tallies size l es) (sym (append-nil done)) tallies
tallies-along size done (m ∷ ms) es tallies =
    subst (λ l. Tallies size l (fold (tally_with size) (tally_with size es m) ms)) (Rattle.std.proofs.Common.append_assoc done (m ∷ []) ms)
    (tallies-along size (done ++ m ∷ []) ms (tally_with size es m) (tallies-with size done m es tallies))

tallies-all : (size : ℕ) (ms : List Keyed) → Tallies size ms (tally_of size ms)
unfolding IsStrictlySortedBy
tallies-all size ms = tallies-along size [] ms [] (record { sorted = tt; each = λ w. refl })

-- of entries in order, those of a window are the one that is found
filter-found : (w : List ℕ × ℕ) (es : List ((List ℕ × ℕ) × ℕ)) (o : Option ℕ) → IsStrictlySortedBy window_cmp (keys_of es)
    → lookup (is_at (window_cmp w)) es ≡ o
    → map window_given (filter (λ (e : (List ℕ × ℕ) × ℕ). is_at (window_cmp w) e.0) es)
    ≡ Rattle.std.specs.Option.option_map_or (λ n. count_at w.0 w.1 n ∷ []) o []
unfolding IsStrictlySortedBy
filter-found w [] o sorted found = ap (λ o. Rattle.std.specs.Option.option_map_or (λ n. count_at w.0 w.1 n ∷ []) o []) found
filter-found w (e ∷ es) o sorted found =
    elim (is_at (window_cmp w) e.0) as
    (λ b. is_at (window_cmp w) e.0 ≡ b → cond b (Some e.1) (lookup (is_at (window_cmp w)) es) ≡ o
    → map window_given (cond b (e ∷ filter (λ (e : (List ℕ × ℕ) × ℕ). is_at (window_cmp w) e.0) es)
    (filter (λ (e : (List ℕ × ℕ) × ℕ). is_at (window_cmp w) e.0) es))
    ≡ Rattle.std.specs.Option.option_map_or (λ n. count_at w.0 w.1 n ∷ []) o []) [
      | true ↦ λ f g.
          let here : w ≡ e.0 = same-window w e.0 f in
          (λ i. count_at (sym here i).0 (sym here i).1 e.1 ∷ map window_given (rest here es sorted.0 i))
          ∙ ap (λ o. Rattle.std.specs.Option.option_map_or (λ n. count_at w.0 w.1 n ∷ []) o []) g
      | false ↦ λ f g. filter-found w es o sorted.1 g
    ] refl found
  where
    rest : w ≡ e.0 → (fs : List ((List ℕ × ℕ) × ℕ)) → AllByRecursion (λ k. window_cmp e.0 k ≡ Less) (keys_of fs)
        → filter (λ (e : (List ℕ × ℕ) × ℕ). is_at (window_cmp w) e.0) fs ≡ []
    rest here [] less = refl
    rest here (f ∷ fs) less =
        ap (λ b. cond b (f ∷ filter (λ (e : (List ℕ × ℕ) × ℕ). is_at (window_cmp w) e.0) fs)
        (filter (λ (e : (List ℕ × ℕ) × ℕ). is_at (window_cmp w) e.0) fs))
        (ap (λ k. is_at (window_cmp k) f.0) here ∙ ap is_eq less.0)
        ∙ rest here fs less.1

-- what is given at one place
tally-at : (size : ℕ) (ms : List Keyed) (w : List ℕ × ℕ)
    → filter (at_place w) (map window_given (tally_of size ms)) ≡ counted_at w.0 w.1 (total (into size w.0 w.1) ms)
tally-at size ms w =
    let tallies = tallies-all size ms in
    filter-map (at_place w) window_given (tally_of size ms)
    ∙ ap (map window_given) (Rattle.std.proofs.lemmas.List.Elements.filter_agree (λ e. at_place w (window_given e))
    (λ (e : (List ℕ × ℕ) × ℕ). is_at (window_cmp w) e.0) (λ e. sym (at-window w e.0)) (tally_of size ms))
    ∙ filter-found w (tally_of size ms) _ tallies.sorted (tallies.each w)
    ∙ last (total (into size w.0 w.1) ms == 0)
  where
    last : (b : Bool)
        → Rattle.std.specs.Option.option_map_or (λ n. count_at w.0 w.1 n ∷ []) (cond b None (Some (total (into size w.0 w.1) ms))) []
        ≡ cond b [] (count_at w.0 w.1 (total (into size w.0 w.1) ms) ∷ [])
    last true = refl
    last false = refl

-- the tally gives what a count gives plainly
pub tally-plain : (size : ℕ) (ms : List Keyed) → IsPermutation (plain_of (kinds.Count size) ms) (map window_given (tally_of size ms))
tally-plain size ms =
    by_keys at_place (λ (r : Record). (r.key, r.stamp))
    (λ r. (λ i. key-itself r.key i && (r.stamp == r.stamp)) ∙ eq-eqb r.stamp r.stamp refl)
    (length (plain_of (kinds.Count size) ms)) (plain_of (kinds.Count size) ms) (map window_given (tally_of size ms)) (omega arith)
    (λ w. plain-at size w.0 w.1 ms ∙ sym (tally-at size ms w))

-- what is made of such a tally is what a count gives plainly
pub given-plain : {A E : Type 0} (items : A → List Record) (size : ℕ) (ms : List Keyed) (tally : List ((List ℕ × ℕ) × ℕ))
    (result : Result A E)
    → tally ≡ tally_of size ms → IfOk result (λ a. items a ≡ map window_given tally)
    → IfOk result (λ a. IsPermutation (plain_of (kinds.Count size) ms) (items a))
given-plain items size ms tally (Err why) is given = tt
given-plain items size ms tally (Ok a) is given =
    subst (IsPermutation (plain_of (kinds.Count size) ms)) (sym (given ∙ ap (map window_given) is)) (tally-plain size ms)
