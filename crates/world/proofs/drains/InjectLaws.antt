-- The line that a turn injects is what comes next in a drain.
use Rattle.std.proofs.Common.{◌≡◌, ◌<◌, ◌≤◌, ◌+◌, ◌⊎◌, ℕ, Bool, true, false, cond, zero, suc, List, [], ◌∷◌, length, refl, sym, ◌∙◌, ap, subst, arith, inl, inr}
use Rattle.std.specs.Prelude.{Option, Some, None, IsSome, IfSome, Contains, filter, nat_lt, nat_le, slice_get}
use Rattle.std.specs.List.{AllByRecursion, range_with_len}
use Rattle.std.specs.Cmp.{nat_cmp_is}
use Rattle.std.specs.Option.{is_some, option_and_then, option_map, option_map_or}
use Rattle.std.specs.Ordering.{is_gt, nat_cmp, ordering_then}
use Rattle.std.specs.declared.cmp.Ordering.TheVariants.{Less, Equal}
use Rattle.std.proofs.lemmas.Bool.{both_ways, cases_lt, le-leb, leb-true, lt-ltb, ltb-true}
use Rattle.std.proofs.lemmas.List.Elements.{All-contains, All-from_recursion, All-contains_itself, recursion_from_All}
use Rattle.mw_types.specs.declared.entry.Entry.TheVariants as entries
use Rattle.injector.specs.Sources.{SourceLine, item_at}
use Rattle.injector.specs.declared.item.Item.{Item}
use Rattle.topology.specs.Shapes.{injectors_of}
use Rattle.row_parts.specs.Contents.{Contents, cursor_in}
use Rattle.run_history.specs.Cases.{CaseShape, record_of, source_of}
use Rattle.run_history.specs.Finished.{has_line, injectors_left}
use Rattle.run_history.specs.Runs.{Run, run_of}
use Rattle.run_history.specs.Watermarks.{cursor_of}
use Rattle.list_lemmas.proofs.Lists.{each-filter, each-weaker, filter-passes, none_some, some_same}
use Rattle.book.specs.Books.{BookView}
use Rattle.holdings.specs.Holding.{HeldView, held_on, row_held}
use Rattle.node.specs.Asking.{Request, line_asked, next_line}
use Rattle.node.specs.LineSteps.{injector_row}
use Rattle.node.specs.Workers.{NodeView}
use Rattle.world.specs.drains.Drains.{HasClaimedAll, IsNextEntry}
use Rattle.world.specs.drains.Turns.{HasAsked, HasTurned, IsAtWork, IsBestLine, IsFirstLine, IsInjected, IsNextInjector, IsQuiet, IsSettled, cursor_at, lesser_line, line_at}
use Rattle.world.proofs.drains.FirstItems.{from_filter}
use Rattle.world.proofs.drains.KnownLaws.{held-there, row-known}
use Rattle.world.proofs.drains.LeastWorkLaws.{turned-asked}
use Rattle.world.proofs.drains.TurnLaws.{IsOwnRequest}
use Rattle.run_history.specs.Fences.{is_claim}

-- ---- lists

-- an element that passes a test is among those that do
contains-filter : {X : Type 0} (test : X → Bool) (xs : List X) (x : X) → Contains xs x → test x ≡ true → Contains (filter test xs) x
contains-filter test xs x has passes =
    All-contains (λ y. test y ≡ true → Contains (filter test xs) y) xs x
    (All-from_recursion (λ y. test y ≡ true → Contains (filter test xs) y) xs
    (from_filter (Contains (filter test xs)) test xs
    (recursion_from_All (Contains (filter test xs)) (filter test xs) (All-contains_itself (filter test xs))))) has passes

-- an element of those that pass a test passes it
filter-contains : {X : Type 0} (test : X → Bool) (xs : List X) (x : X) → Contains (filter test xs) x → test x ≡ true
filter-contains test xs x has = All-contains (λ y. test y ≡ true) (filter test xs) x
    (All-from_recursion (λ y. test y ≡ true) (filter test xs) (filter-passes test xs)) has

-- numbers in order have each number in between
contains-range : (a n k : ℕ) → k < n → Contains (range_with_len a n) (a + k)
contains-range a zero k less = absurd (omega (arith, less))
contains-range a (suc n) zero less = (0, omega arith, omega arith)
contains-range a (suc n) (suc k) less =
    let rest = contains-range (a + 1) n k (omega (arith, less)) in
    let same : a + 1 + k ≡ a + suc k = omega arith in
    subst (Contains (range_with_len a (suc n))) same (suc rest.0, omega (arith, rest.1), rest.2)

-- and none that is not
range-below : (a n : ℕ) → AllByRecursion (λ (x : ℕ). x < a + n) (range_with_len a n)
range-below a zero = tt
range-below a (suc n) = (
  omega arith,
  each-weaker (λ (x : ℕ). x < a + 1 + n) (λ (x : ℕ). x < a + suc n) (λ x less. omega (arith, less)) (range_with_len (a + 1) n)
      (range-below (a + 1) n),
)

-- a list has an element at each place below its length
pub slice_get-some : {X : Type 0} (xs : List X) (i : ℕ) → i < length xs → IsSome (slice_get xs i)
slice_get-some [] i less = absurd (omega (arith, less))
slice_get-some (x ∷ xs) zero less = refl
slice_get-some (x ∷ xs) (suc i) less = slice_get-some xs i (omega (arith, less))

-- ---- counts of lines

-- what comes first by its count, and then by its number, is not after the other
first-cmp : (a b p q : ℕ) → (a < b) ⊎ ((a ≡ b) × (p ≤ q)) → is_gt (ordering_then (nat_cmp a b) (nat_cmp p q)) ≡ false
first-cmp a b p q (inl less) = ap (λ o. is_gt (ordering_then o (nat_cmp p q))) (sym (nat_cmp_is a b Less less))
first-cmp a b p q (inr (same, le)) =
    ap (λ o. is_gt (ordering_then o (nat_cmp p q))) (sym (nat_cmp_is a b Equal same)) ∙ (elim (cases_lt p q) [
      | inl less ↦ ap is_gt (sym (nat_cmp_is p q Less less))
      | inr ge ↦ ap is_gt (sym (nat_cmp_is p q Equal (omega (arith, le, ge))))
    ])

-- how many lines an injector has injected is so in the history, where that is told
pub cursor-known : (book : BookView) (node : NodeView) (part : ℕ) → IsAtWork book node → IsSome book.rows
    → part < injectors_of book.case.topology
    → cursor_at book.case node part ≡ cursor_of book.case (run_of book.case.topology book.history) part
cursor-known book node part at told less =
    let held = held-there book node (injector_row part) at (omega (arith, less)) in
    ap (λ (o : Option HeldView). option_map_or (λ (h : HeldView). cursor_in (row_held book.case.topology h (injector_row part)).state) o 0) held.1
    ∙ ap (λ (c : Contents). cursor_in c.state) (row-known book node (injector_row part) held.0 at told held.1)

-- a line is there where the count is below the number of lines
pub line-there : (case : CaseShape) (node : NodeView) (part : ℕ) (line : ℕ × ℕ) → line_at case node part ≡ Some line
    → (cursor_at case node part < length (source_of case part)) × ((cursor_at case node part, part) ≡ line)
line-there case node part line is = by_test (nat_lt (cursor_at case node part) (length (source_of case part))) refl is
  where
    by_test : (b : Bool) → nat_lt (cursor_at case node part) (length (source_of case part)) ≡ b
        → cond b (Some (cursor_at case node part, part)) None ≡ Some line
        → (cursor_at case node part < length (source_of case part)) × ((cursor_at case node part, part) ≡ line)
    by_test true less e = (ltb-true (cursor_at case node part) (length (source_of case part)) less, some_same _ line e)
    by_test false less e = absurd (none_some line e)

-- and back
there-line : (case : CaseShape) (node : NodeView) (part : ℕ) → cursor_at case node part < length (source_of case part)
    → line_at case node part ≡ Some (cursor_at case node part, part)
there-line case node part less = ap (λ b. cond b (Some (cursor_at case node part, part)) None)
    (lt-ltb (cursor_at case node part) (length (source_of case part)) less)

-- ---- the least of them

-- an injector more
pub best-more : (case : CaseShape) (node : NodeView) (count : ℕ) (best : Option (ℕ × ℕ)) → IsBestLine case node count best
    → IsBestLine case node (count + 1) (lesser_line best (line_at case node count))
best-more case node count best is = by_best best is (line_at case node count) refl
  where
    -- an injector is the last, or before it
    last : (part : ℕ) → part < count + 1 → (part < count) ⊎ (part ≡ count)
    last part less = elim (cases_lt part count) [ inl below ↦ inl below | inr above ↦ inr (omega (arith, less, above)) ]

    -- what is at the last is of its number
    own : (o : ℕ × ℕ) → line_at case node count ≡ Some o → o.1 ≡ count
    own o at = ap (λ (l : ℕ × ℕ). l.1) (sym (line-there case node count o at).1)

    by_both : (b o : ℕ × ℕ) → IsBestLine case node count (Some b) → line_at case node count ≡ Some o → (t : Bool) → nat_le b.0 o.0 ≡ t
        → IsBestLine case node (count + 1) (cond t (Some b) (Some o))
    by_both b o is at true le = record {
      there = let below = is.there.0 in (omega (arith, below), is.there.1);
      least = λ part line less there. elim (last part less) [
        | inl below ↦ is.least part line below there
        | inr same ↦
            let one : o ≡ line = some_same o line (sym at ∙ ap (line_at case node) (sym same) ∙ there) in (
              b,
              refl,
              subst (IsFirstLine b) one (elim (cases_lt b.0 o.0) [
                | inl before ↦ inl before
                | inr after ↦
                    let most = leb-true b.0 o.0 le in
                    let below = is.there.0 in
                    let number = own o at in
                    inr (omega (arith, most, after), omega (arith, below, number))
              ]),
            )
      ];
    }
    by_both b o is at false le = record {
      there = (let number = own o at in omega (arith, number), ap (line_at case node) (own o at) ∙ at);
      least = λ part line less there. (
        o,
        refl,
        elim (last part less) [
          | inl below ↦
              let first = is.least part line below there in
              let one : b ≡ first.0 = some_same b first.0 first.1 in
              before b line (subst (λ (l : ℕ × ℕ). IsFirstLine l line) (sym one) first.2)
          | inr same ↦
              let one : o ≡ line = some_same o line (sym at ∙ ap (line_at case node) (sym same) ∙ there) in
              subst (IsFirstLine o) one (inr (refl, omega arith))
        ],
      );
    }
      where
        less-o : o.0 < b.0
        less-o = elim (cases_lt o.0 b.0) [
          | inl less ↦ less
          | inr ge ↦ absurd (both_ways (nat_le b.0 o.0) le (le-leb b.0 o.0 ge))
        ]

        before : (c line : ℕ × ℕ) → IsFirstLine b line → IsFirstLine o line
        before c line (inl less) = inl (omega (arith, less, less-o))
        before c line (inr (same, le)) = inl (omega (arith, same, less-o))

    by_best : (best : Option (ℕ × ℕ)) → IsBestLine case node count best → (found : Option (ℕ × ℕ)) → line_at case node count ≡ found
        → IsBestLine case node (count + 1) (lesser_line best found)
    by_best None is None at = record {
      there = tt;
      least = λ part line less there. elim (last part less) [
        | inl below ↦ is.least part line below there
        | inr same ↦ absurd (none_some line (sym at ∙ ap (line_at case node) (sym same) ∙ there))
      ];
    }
    by_best None is (Some o) at = record {
      there = (let number = own o at in omega (arith, number), ap (line_at case node) (own o at) ∙ at);
      least = λ part line less there. elim (last part less) [
        | inl below ↦ absurd (none_some _ (is.least part line below there).1)
        | inr same ↦
            let one : o ≡ line = some_same o line (sym at ∙ ap (line_at case node) (sym same) ∙ there) in
            (o, refl, subst (IsFirstLine o) one (inr (refl, omega arith)))
      ];
    }
    by_best (Some b) is None at = record {
      there = let below = is.there.0 in (omega (arith, below), is.there.1);
      least = λ part line less there. elim (last part less) [
        | inl below ↦ is.least part line below there
        | inr same ↦ absurd (none_some line (sym at ∙ ap (line_at case node) (sym same) ∙ there))
      ];
    }
    by_best (Some b) is (Some o) at = by_both b o is at (nat_le b.0 o.0) refl

-- ---- the next entry

module _ (book : BookView) (node : NodeView) (at : IsAtWork book node) (told : IsSome book.rows) where
  -- what stands after the history
  abbrev run : Run
  run = run_of book.case.topology book.history

  -- an injector that has a line left has one by its row as it is held
  left-line : (other : ℕ) → Contains (injectors_left book.case run) other
      → (other < injectors_of book.case.topology) × (line_at book.case node other ≡ Some (cursor_at book.case node other, other))
  left-line other has =
      let range = range_with_len 0 (injectors_of book.case.topology) in
      let passes = filter-contains (has_line book.case run) range other has in
      let below : other < 0 + injectors_of book.case.topology = All-contains (λ (x : ℕ). x < 0 + injectors_of book.case.topology)
      (filter (has_line book.case run) range) other
      (All-from_recursion (λ (x : ℕ). x < 0 + injectors_of book.case.topology) (filter (has_line book.case run) range)
      (each-filter (λ (x : ℕ). x < 0 + injectors_of book.case.topology) (has_line book.case run) range
      (range-below 0 (injectors_of book.case.topology)))) has in
      let less : other < injectors_of book.case.topology = omega (arith, below) in
      let cursor = cursor-known book node other at told less in
      let lines = ltb-true (cursor_of book.case run other) (length (source_of book.case other)) passes in
      (less, there-line book.case node other (omega (arith, cursor, lines)))

  -- the injector that was found has a line left, and comes first
  pub found-first : (part : ℕ) → IsNextInjector book.case node (injectors_of book.case.topology) (Some part)
      → Contains (injectors_left book.case run) part × ((other : ℕ) → Contains (injectors_left book.case run) other
      → is_gt (ordering_then (nat_cmp (cursor_of book.case run part) (cursor_of book.case run other)) (nat_cmp part other)) ≡ false)
  found-first part (None, best, is) = absurd (none_some part (sym is))
  found-first part (Some line, best, is) =
      let same : part ≡ line.1 = some_same part line.1 is in
      let less : part < injectors_of book.case.topology = let below = best.there.0 in omega (arith, below, same) in
      let there = line-there book.case node part line (ap (line_at book.case node) same ∙ best.there.1) in
      let cursor = cursor-known book node part at told less in
      let lines = there.0 in
      let count : cursor_at book.case node part ≡ line.0 = ap (λ (l : ℕ × ℕ). l.0) there.1 in (
        contains-filter (has_line book.case run) (range_with_len 0 (injectors_of book.case.topology)) part
            (let zero_more : 0 + part ≡ part = omega arith in
            subst (Contains (range_with_len 0 (injectors_of book.case.topology))) zero_more
            (contains-range 0 (injectors_of book.case.topology) part less))
            (lt-ltb (cursor_of book.case run part) (length (source_of book.case part)) (omega (arith, cursor, lines))),
        λ other has.
            let left = left-line other has in
            let first = best.least other (cursor_at book.case node other, other) left.0 left.1 in
            let one : line ≡ first.0 = some_same line first.0 first.1 in
            let others = cursor-known book node other at told left.0 in
            first-cmp (cursor_of book.case run part) (cursor_of book.case run other) part other
            (by_first (subst (λ (l : ℕ × ℕ). IsFirstLine l (cursor_at book.case node other, other)) (sym one) first.2)
            (sym cursor ∙ count) others same),
      )
    where
      by_first : {a b c d lines other number : ℕ} → (lines < b) ⊎ ((lines ≡ b) × (number ≤ other)) → a ≡ lines → b ≡ c → d ≡ number
          → (a < c) ⊎ ((a ≡ c) × (d ≤ other))
      by_first (inl less) x y z = inl (omega (arith, less, x, y))
      by_first (inr (same, le)) x y z = inr (omega (arith, same, x, y), omega (arith, le, z))

-- what is asked for of an injector is its next line
line-request : (case : CaseShape) (node : NodeView) (part : ℕ) (asked : Request) → line_asked case node part ≡ Some asked
    → (held : HeldView) × (line : ℕ) × (item : Item) × (held_on case.topology node.held (injector_row part) ≡ Some held)
    × (asked.lease ≡ held.lease) × (asked.entry ≡ entries.Inject held.lease.seq part line (record_of item))
line-request case node part asked is = by_place (held_on case.topology node.held (injector_row part)) refl is
  where
    by_item : (held : HeldView) → held_on case.topology node.held (injector_row part) ≡ Some held → (o : Option Item)
        → option_map (λ (item : Item). record {
          lease = held.lease;
          name = injector_row part;
          entry = entries.Inject held.lease.seq part (cursor_in (row_held case.topology held (injector_row part)).state) (record_of item);
          late = item.late;
        }) o ≡ Some asked
        → (held : HeldView) × (line : ℕ) × (item : Item) × (held_on case.topology node.held (injector_row part) ≡ Some held)
        × (asked.lease ≡ held.lease) × (asked.entry ≡ entries.Inject held.lease.seq part line (record_of item))
    by_item held on None e = absurd (none_some asked e)
    by_item held on (Some item) e =
        let one = some_same (record {
          lease = held.lease;
          name = injector_row part;
          entry = entries.Inject held.lease.seq part (cursor_in (row_held case.topology held (injector_row part)).state) (record_of item);
          late = item.late;
        }) asked e in (
          held,
          cursor_in (row_held case.topology held (injector_row part)).state,
          item,
          on,
          sym (ap (λ (a : Request). a.lease) one),
          sym (ap (λ (a : Request). a.entry) one),
        )

    by_place : (o : Option HeldView) → held_on case.topology node.held (injector_row part) ≡ o
        → option_and_then (next_line case (injector_row part)) o ≡ Some asked
        → (held : HeldView) × (line : ℕ) × (item : Item) × (held_on case.topology node.held (injector_row part) ≡ Some held)
        × (asked.lease ≡ held.lease) × (asked.entry ≡ entries.Inject held.lease.seq part line (record_of item))
    by_place None on e = absurd (none_some asked e)
    by_place (Some held) on e = by_item held on
        (item_at (source_of case part) (cursor_in (row_held case.topology held (injector_row part)).state)) e

-- it is a request under the lease that is held
pub line-own : (case : CaseShape) (node : NodeView) (part : ℕ)
    → IfSome (line_asked case node part) (IsOwnRequest case.topology node.held)
line-own case node part = by_asked (line_asked case node part) refl
  where
    by_asked : (o : Option Request) → line_asked case node part ≡ o → IfSome o (IsOwnRequest case.topology node.held)
    by_asked None is = tt
    by_asked (Some asked) is =
        let r = line-request case node part asked is in record {
          name = injector_row part;
          held = r.0;
          on = r.3;
          lease = r.4;
          write = λ interval. ap (is_claim interval) r.5;
        }

-- an injected line is a turn
pub inject-turned : (old new : BookView) (node : NodeView) (part : ℕ) (more : Bool) → IsAtWork old node → IsSettled old.case old.history
    → (IsSome old.rows → IsQuiet old.case old.history)
    → IsNextInjector old.case node (injectors_of old.case.topology) (Some part)
    → HasAsked old new (line_asked old.case node part) more → HasTurned old new more
inject-turned old new node part more at settled quiet found done =
    turned-asked old new (line_asked old.case node part) more done (λ told. by_asked told (line_asked old.case node part) refl)
  where
    by_asked : IsSome old.rows → (o : Option Request) → line_asked old.case node part ≡ o
        → IfSome o (λ (a : Request). (from : ℕ) → HasClaimedAll old.case from old.history → IsNextEntry old.case from old.history a.entry)
    by_asked told None is = tt
    by_asked told (Some asked) is = λ from claimed.
        let first = found-first old node at told part found in
        let request = line-request old.case node part asked is in
        subst (IsNextEntry old.case from old.history) (sym request.5) (record {
          earlier = record {
            earlier = record { claimed = claimed; none_pending = settled };
            none_due = quiet told;
          };
          left = first.0;
          least = first.1;
        })

-- an injector that has a line left is asked for it
asked-there : (case : CaseShape) (node : NodeView) (part : ℕ) (held : HeldView) → held_on case.topology node.held (injector_row part) ≡ Some held
    → cursor_at case node part < length (source_of case part) → line_asked case node part ≡ None → ⊥
asked-there case node part held on less none =
    let cursor = cursor_in (row_held case.topology held (injector_row part)).state in
    let same : cursor_at case node part ≡ cursor = ap (λ (o : Option HeldView).
    option_map_or (λ (h : HeldView). cursor_in (row_held case.topology h (injector_row part)).state) o 0) on in
    by_item (slice_get (source_of case part) cursor) (slice_get-some (source_of case part) cursor (omega (arith, less, same)))
    (sym (ap (option_and_then (next_line case (injector_row part))) on) ∙ none)
  where
    by_item : (o : Option SourceLine) → IsSome o
        → option_map {U = Request} (λ (item : Item). record {
          lease = held.lease;
          name = injector_row part;
          entry = entries.Inject held.lease.seq part (cursor_in (row_held case.topology held (injector_row part)).state) (record_of item);
          late = item.late;
        }) (option_map (λ (l : SourceLine). l.item) o) ≡ None → ⊥
    by_item None some e = absurd (cc)
    by_item (Some l) some e = absurd (none_some _ (sym e))

-- no line is left where none was injected
pub inject-none : (old new : BookView) (node : NodeView) (found : Option ℕ) (more : Bool) → IsAtWork old node → IsSome old.rows
    → IsNextInjector old.case node (injectors_of old.case.topology) found
    → IfSome found (λ part. HasAsked old new (line_asked old.case node part) more) → more ≡ false → IsInjected old.case old.history
inject-none old new node found more at told next done none_more = by_left (injectors_left old.case (run_of old.case.topology old.history)) refl
  where
    left : List ℕ
    left = injectors_left old.case (run_of old.case.topology old.history)

    by_found : (f : Option ℕ) → IfSome f (λ part. HasAsked old new (line_asked old.case node part) more) → (best : Option (ℕ × ℕ))
        → IsBestLine old.case node (injectors_of old.case.topology) best → f ≡ option_map (λ (line : ℕ × ℕ). line.1) best
        → (line : ℕ × ℕ) → best ≡ Some line → ⊥
    by_found None done best is same line e = absurd (none_some _ (same ∙ ap (option_map (λ (l : ℕ × ℕ). l.1)) e))
    by_found (Some part) done best is same line e =
        let one : part ≡ line.1 = some_same part line.1 (same ∙ ap (option_map (λ (l : ℕ × ℕ). l.1)) e) in
        let there = subst (λ (o : Option (ℕ × ℕ)). IfSome o (λ l. (l.1 < injectors_of old.case.topology)
        × (line_at old.case node l.1 ≡ Some l))) e is.there in
        let below = there.0 in
        let less : part < injectors_of old.case.topology = omega (arith, below, one) in
        let at_line = line-there old.case node part line (ap (line_at old.case node) one ∙ there.1) in
        let held = held-there old node (injector_row part) at (omega (arith, less)) in
        asked-there old.case node part held.0 held.1 at_line.0 (by_none (line_asked old.case node part) (done.is_more ∙ none_more))
      where
        by_none : (asked : Option Request) → is_some asked ≡ false → asked ≡ None
        by_none None e = refl
        by_none (Some a) e = absurd (cc)

    by_left : (l : List ℕ) → left ≡ l → left ≡ []
    by_left [] is = is
    by_left (p ∷ ps) is =
        let line = left-line old node at told p (subst (λ l. Contains l p) (sym is) (0, omega arith, refl)) in
        let first = next.1.least p (cursor_at old.case node p, p) line.0 line.1 in
        absurd (by_found found done next.0 next.1 next.2 first.0 first.1)
