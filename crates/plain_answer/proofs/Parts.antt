-- Part by part: at the end the streams of a history have the totals of the plain streams.
use Rattle.std.proofs.Common.{◌≡◌, ℕ, zero, suc, ◌+◌, ◌-◌, ◌<◌, ◌≤◌, ◌==◌, Bool, true, false, cond, List, [], ◌∷◌, ◌++◌, length, map, filter, Option, Some, None, refl, sym, ◌∙◌, ap, subst, arith, append_assoc, length-append}
use Rattle.std.specs.Prelude.{nat_lt, slice_get, Contains, IfSome}
use Rattle.std.specs.Option.{option_map, option_map_or}
use Rattle.std.specs.List.{AllByRecursion, flat_map, enumerate_from, range_with_len}
use Rattle.std.proofs.lemmas.Bool.{ltb-false, lt-ltb}
use Rattle.std.proofs.lemmas.Bool.Decides.{nat_tests}
use Rattle.std.proofs.lemmas.List.{take_all, append-nil}
use Rattle.std.proofs.lemmas.List.Elements.{All-contains, All-from_recursion}
use Rattle.mw_types.specs.declared.identity.RowName.{RowName}
use Rattle.mw_types.specs.declared.record.Record.{Record}
use Rattle.mw_types.specs.declared.record.Production.{Production}
use Rattle.mw_types.specs.declared.kind.Kind.{Kind}
use Rattle.mw_types.specs.declared.delivery.Delivery.{Delivery}
use Rattle.mw_types.specs.declared.entry.Entry.{Entry}
use Rattle.topology.specs.declared.subscription.Subscription.{Subscription}
use Rattle.topology.specs.Shapes.{Shape, ComputationShape, injectors_of, parts_of, consumers_of, feeds_of, kind_of}
use Rattle.injector.specs.Sources.{SourceLine}
use Rattle.row_parts.specs.Contents.{cursor_in}
use Rattle.run_history.specs.Cases.{CaseShape, is_injector, source_of, record_of}
use Rattle.run_history.specs.Inputs.{IsRunnable}
use Rattle.run_history.specs.Made.{row_written, productions_of, late_cause, sends_of, row_to}
use Rattle.run_history.specs.Runs.{Run, run_of}
use Rattle.run_history.specs.Legal.{IsLegal, IsDone}
use Rattle.run_history.specs.Printing.{IsOnPart}
use Rattle.run_history.proofs.RunLaws.{IsLegal-push}
use Rattle.history_laws.proofs.FeedLaws.{consumers-fed, feeds-before}
use Rattle.history_laws.proofs.PrintLaws.{legal-on_parts}
use Rattle.list_lemmas.proofs.Lists.{each-append, each-map, each-all, each-weaker}
use Rattle.list_lemmas.proofs.Places.{each-behind}
use Rattle.list_lemmas.proofs.Totals.{total, when, total-append, total-map, total-filter, total-flat_map, total-same, total-each, total-both, HaveSameTotals}
use Rattle.plain_answer.specs.Plain.{Keyed, members_read, plain_of, injected_of, sources_of, streams_with, plain_streams}
use Rattle.plain_answer.specs.Stories.{Member, member_of, added_by, done_of, out_of}
use Rattle.plain_answer.proofs.Handled.{handled-total}
use Rattle.plain_answer.proofs.Injected.{legal-injected, first_records}
use Rattle.plain_answer.proofs.Members.{out_at, out_at-total}
use Rattle.plain_answer.proofs.Sent.{sends, send_of, sent-total}
use Rattle.plain_answer.proofs.Stories.{out-push, along_legal}
use Rattle.plain_answer.proofs.Taking.{reads_done, reads_done-total}

-- ---- streams as one sum

-- a sum over the members of streams, from a part on
abbrev pub stream_total : (Member → ℕ) → ℕ → List (List Record) → ℕ
stream_total g n [] = 0
stream_total g n (x ∷ xs) = total (λ r. g (n, r)) x + stream_total g (n + 1) xs

-- with one more stream
pub stream_total-push : (g : Member → ℕ) (n : ℕ) (xs : List (List Record)) (x : List Record)
    → stream_total g n (xs ++ x ∷ []) ≡ stream_total g n xs + total (λ r. g (n + length xs, r)) x
stream_total-push g n [] x =
    let same : n ≡ n + 0 = omega arith in
    omega (arith, ap (λ k. total (λ r. g (k, r)) x) same)
stream_total-push g n (y ∷ ys) x =
    let same : n + 1 + length ys ≡ n + length (y ∷ ys) = omega arith in
    omega (arith, stream_total-push g (n + 1) ys x, ap (λ k. total (λ r. g (k, r)) x) same)

-- what is sent to a part, as what its rows read
abbrev pub to_part : ℕ → (Keyed → ℕ) → RowName × Record → ℕ
to_part part g s = when (s.0.part == part) (g (s.0.key, s.1))

-- a sum over what a part reads of streams
abbrev pub of_member : Shape → ℕ → (Keyed → ℕ) → Member → ℕ
of_member shape part g o = total (to_part part g) (sends shape o)

-- a sum over all that streams send
streams-sent : (shape : Shape) (g : RowName × Record → ℕ) (n : ℕ) (streams : List (List Record))
    → total g (flat_map (λ (s : ℕ × List Record). flat_map (sends_of (consumers_of shape s.0)) s.1) (enumerate_from n streams))
    ≡ stream_total (λ o. total g (sends shape o)) n streams
streams-sent shape g n [] = refl
streams-sent shape g n (x ∷ xs) =
    omega (
      arith,
      total-append g (flat_map (sends_of (consumers_of shape n)) x)
          (flat_map (λ (s : ℕ × List Record). flat_map (sends_of (consumers_of shape s.0)) s.1) (enumerate_from (n + 1) xs)),
      total-flat_map g (sends_of (consumers_of shape n)) x,
      streams-sent shape g (n + 1) xs,
    )

-- a sum over what a part reads of streams
pub members-total : (shape : Shape) (g : Keyed → ℕ) (streams : List (List Record)) (part : ℕ)
    → total g (members_read shape streams part) ≡ stream_total (of_member shape part g) 0 streams
members-total shape g streams part =
    let all : List (RowName × Record) =
    flat_map (λ (s : ℕ × List Record). flat_map (sends_of (consumers_of shape s.0)) s.1) (enumerate_from 0 streams) in
    total-map g (λ (r : RowName × Record). (r.0.key, r.1)) (filter (λ (r : RowName × Record). r.0.part == part) all)
    ∙ total-filter (λ (r : RowName × Record). g (r.0.key, r.1)) (λ (r : RowName × Record). r.0.part == part) all
    ∙ streams-sent shape (to_part part g) 0 streams

-- ---- parts that are there

-- a member is of a part that is there
abbrev pub IsThere : Shape → Member → Type 0
IsThere shape o = o.0 < parts_of shape

-- what an entry on a part that is there adds
added-there : (shape : Shape) (run : Run) (entry : Entry) → IsOnPart shape entry
    → AllByRecursion (IsThere shape) (added_by run entry)
added-there shape run entry on = by_row (row_written entry) on
  where
    by_row : (o : Option RowName) → IfSome o (λ (row : RowName). row.part < parts_of shape)
        → AllByRecursion (IsThere shape) (option_map_or
        (λ (row : RowName). map (member_of row.part (late_cause run.made entry)) (productions_of entry)) o [])
    by_row None on = tt
    by_row (Some row) on =
        each-map (IsThere shape) (member_of row.part (late_cause run.made entry)) (productions_of entry)
        (each-all (λ (p : Production). row.part < parts_of shape) (λ p. on) (productions_of entry))

-- what is in the streams after each legal history
pub out-there : (case : CaseShape) (h : List Entry) → IsLegal case h → AllByRecursion (IsThere case.topology) (out_of case.topology h)
out-there case = along_legal case (λ h. AllByRecursion (IsThere case.topology) (out_of case.topology h))
    (λ h entry legal may was.
    subst (AllByRecursion (IsThere case.topology)) (sym (out-push case.topology h entry))
    (each-append (IsThere case.topology) (out_of case.topology h) (added_by (run_of case.topology h) entry) was
    (added-there case.topology (run_of case.topology h) entry (each-behind (IsOnPart case.topology) h (entry ∷ [])
    (legal-on_parts case (h ++ entry ∷ []) (IsLegal-push case h entry legal may)).entries).0)))
    tt

-- ---- a part reads what is before it

-- where no subscription is of a part, nothing is sent to it
none-read : (shape : Shape) (part : ℕ) (g : Keyed → ℕ) (item : Record) (ss : List Subscription)
    → AllByRecursion (λ (s : Subscription). (s.to == part) ≡ false) ss → total (to_part part g) (sends_of ss item) ≡ 0
none-read shape part g item [] each = refl
none-read shape part g item (s ∷ ss) each =
    let here : when (s.to == part) (g ((row_to item s).key, item)) ≡ 0 = ap (λ b. when b (g ((row_to item s).key, item))) each.0 in
    omega (arith, here, none-read shape part g item ss each.1)

-- a part reads nothing of a part behind it
pub later-unread : (case : CaseShape) (part : ℕ) (g : Keyed → ℕ) (o : Member) → IsRunnable case → IsThere case.topology o → part ≤ o.0
    → of_member case.topology part g o ≡ 0
later-unread case part g o runs there behind =
    none-read case.topology part g o.1 (consumers_of case.topology o.0)
    (each-weaker (λ (s : Subscription). Contains (feeds_of case.topology s.to) o.0) (λ (s : Subscription). (s.to == part) ≡ false)
    (λ (s : Subscription) has.
    let above : o.0 < s.to = All-contains (λ f. f < s.to) (feeds_of case.topology s.to) o.0
    (All-from_recursion (λ f. f < s.to) (feeds_of case.topology s.to) (feeds-before case.topology s.to runs.topology)) has in
    let far : part < s.to = omega (arith, behind, above) in
    apart s.to part far)
    (consumers_of case.topology o.0) (consumers-fed case.topology o.0 there))
  where
    apart : (a b : ℕ) → b < a → (a == b) ≡ false
    apart a b less = grind (arith, nat_tests)

-- ---- kinds by their places

-- the first element behind some others
slice_get-middle : {X : Type 0} (front : List X) (x : X) (rest : List X) → slice_get (front ++ x ∷ rest) (length front) ≡ Some x
slice_get-middle [] x rest = refl
slice_get-middle (y ∷ ys) x rest = slice_get-middle ys x rest

-- the kind of the computation at a place
pub kind_of-place : (shape : Shape) (front : List ComputationShape) (c : ComputationShape) (rest : List ComputationShape)
    → shape.computations ≡ front ++ c ∷ rest → kind_of shape (injectors_of shape + length front) ≡ Some c.kind
kind_of-place shape front c rest all =
    ap (λ b. option_map (λ (c : ComputationShape). c.kind) (cond b None
    (slice_get shape.computations (injectors_of shape + length front - injectors_of shape))))
    (behind (injectors_of shape) (length front))
    ∙ (λ i. option_map (λ (c : ComputationShape). c.kind) (slice_get (all i) (back i)))
    ∙ ap (option_map (λ (c : ComputationShape). c.kind)) (slice_get-middle front c rest)
  where
    behind : (n k : ℕ) → nat_lt (n + k) n ≡ false
    behind n k = grind (arith, nat_tests)

    back : injectors_of shape + length front - injectors_of shape ≡ length front
    back = omega arith

-- ---- part by part

-- what makes a part of a kind plain
abbrev pub IsPlain : CaseShape → List Entry → Type 0
IsPlain case h = (part : ℕ) (kind : Kind) → kind_of case.topology part ≡ Some kind → (ms : List Keyed)
    → HaveSameTotals (reads_done part (done_of case.topology h)) ms
    → HaveSameTotals (out_at part (out_of case.topology h)) (plain_of kind ms)

module _ (case : CaseShape) (h : List Entry) (runs : IsRunnable case) (legal : IsLegal case h)
    (done : IsDone case (run_of case.topology h)) (plain : IsPlain case h) where
  abbrev shape : Shape
  shape = case.topology

  -- what the history put into the streams
  abbrev out : List Member
  out = out_of shape h

  -- what a part read is what the streams sent it
  pub reads-out : (part : ℕ) (g : Keyed → ℕ) → total g (reads_done part (done_of shape h)) ≡ total (of_member shape part g) out
  reads-out part g =
      let f : Delivery → ℕ = λ d. to_part part g (send_of d) in
      let made = handled-total case f h legal in
      let none : total f (run_of shape h).unhandled ≡ 0 = ap (total f) done.handled in
      reads_done-total g part (done_of shape h) ∙ omega (arith, made, none) ∙ sent-total case (to_part part g) h legal

  -- these streams have what the history put into the first parts' streams
  record Knows (streams : List (List Record)) (n : ℕ) : Type 0 where
    long : length streams ≡ n
    totals : (g : Member → ℕ) → total (λ (o : Member). when (nat_lt o.0 n) (g o)) out ≡ stream_total g 0 streams

  -- and with one more
  knows-push : (streams : List (List Record)) (n : ℕ) (x : List Record) → Knows streams n → HaveSameTotals (out_at n out) x
      → Knows (streams ++ x ∷ []) (n + 1)
  knows-push streams n x knows same = record {
    long = omega (arith, length-append streams (x ∷ []), knows.long);
    totals = λ g.
        let long : 0 + length streams ≡ n = omega (arith, knows.long) in
        total-same (λ (o : Member). when (nat_lt o.0 (n + 1)) (g o))
        (λ o. when (nat_lt o.0 n) (g o) + when (o.0 == n) (g (n, o.1))) out (one g)
        ∙ total-both (λ (o : Member). when (nat_lt o.0 n) (g o)) (λ o. when (o.0 == n) (g (n, o.1))) out
        ∙ (λ i. knows.totals g i + (sym (out_at-total (λ r. g (n, r)) n out) ∙ same (λ r. g (n, r))
        ∙ ap (λ k. total (λ r. g (k, r)) x) (sym long)) i)
        ∙ sym (stream_total-push g 0 streams x);
  }
    where
      sum : (g : Member → ℕ) (o : Member) (a b c : Bool) → nat_lt o.0 (n + 1) ≡ a → nat_lt o.0 n ≡ b → (o.0 == n) ≡ c
          → when a (g o) ≡ when b (g o) + when c (g (n, o.1))
      sum g o true true true f s t = absurd (grind (arith, nat_tests))
      sum g o true true false f s t = omega arith
      sum g o true false true f s t = let here : o.0 ≡ n = grind (arith, nat_tests) in omega (arith, ap (λ k. g (k, o.1)) here)
      sum g o true false false f s t = absurd (grind (arith, nat_tests))
      sum g o false true c f s t = absurd (grind (arith, nat_tests))
      sum g o false false true f s t = absurd (grind (arith, nat_tests))
      sum g o false false false f s t = omega arith

      one : (g : Member → ℕ) (o : Member) → when (nat_lt o.0 (n + 1)) (g o) ≡ when (nat_lt o.0 n) (g o) + when (o.0 == n) (g (n, o.1))
      one g o = sum g o (nat_lt o.0 (n + 1)) (nat_lt o.0 n) (o.0 == n) refl refl refl

  -- an injector's stream
  injector-plain : (part : ℕ) → part < injectors_of shape → out_at part out ≡ injected_of (source_of case part)
  injector-plain part less =
      let is : is_injector shape part ≡ true = lt-ltb part (injectors_of shape) less in
      let was = legal-injected case part is h legal in
      let all : was.cursor ≡ length (source_of case part) = sym (ap cursor_in was.state) ∙ done.injected part less in
      was.members ∙ ap (first_records case part is) all
      ∙ ap (map (λ (l : SourceLine). record_of l.item)) (take_all (length (source_of case part)) (source_of case part) (omega arith))

  -- the streams of injectors, one after another
  knows-injectors : (k a : ℕ) (streams : List (List Record)) → a + k ≤ injectors_of shape → Knows streams a
      → Knows (streams ++ map injected_of (map (source_of case) (range_with_len a k))) (a + k)
  knows-injectors zero a streams within knows =
      let same : a ≡ a + 0 = omega arith in
      subst (λ n. Knows (streams ++ []) n) same (subst (λ l. Knows l a) (sym (append-nil streams)) knows)
  knows-injectors (suc k) a streams within knows =
      let less : a < injectors_of shape = omega (arith, within) in
      let x : List Record = injected_of (source_of case a) in
      let same : a + 1 + k ≡ a + suc k = omega arith in
      let next = knows-push streams a x knows (λ g. ap (total g) (injector-plain a less)) in
      subst (λ n. Knows (streams ++ x ∷ map injected_of (map (source_of case) (range_with_len (a + 1) k))) n) same
      (subst (λ l. Knows l (a + 1 + k)) (append_assoc streams (x ∷ []) (map injected_of (map (source_of case) (range_with_len (a + 1) k))))
      (knows-injectors k (a + 1) (streams ++ x ∷ []) (omega (arith, within)) next))

  -- at the end what injectors put into the streams are the records of their files
  all-injectors : Knows (map injected_of (sources_of case)) (0 + injectors_of shape)
  all-injectors = knows-injectors (injectors_of shape) 0 [] (omega arith) (record { long = refl; totals = λ g. none g out })
    where
      none : (g : Member → ℕ) (os : List Member) → total (λ (o : Member). when (nat_lt o.0 0) (g o)) os ≡ 0
      none g [] = refl
      none g (o ∷ os) =
          let here : nat_lt o.0 0 ≡ false = grind (arith, nat_tests) in
          omega (arith, ap (λ b. when b (g o)) here, none g os)

  -- a sum over them
  pub injectors-known : (g : Member → ℕ)
      → total (λ (o : Member). when (nat_lt o.0 (injectors_of shape)) (g o)) out ≡ stream_total g 0 (map injected_of (sources_of case))
  injectors-known g =
      let same : injectors_of shape ≡ 0 + injectors_of shape = omega arith in
      ap (λ n. total (λ (o : Member). when (nat_lt o.0 n) (g o)) out) same ∙ all-injectors.totals g

  -- what a part reads of the streams before it
  reads-known : (streams : List (List Record)) (n : ℕ) → Knows streams n
      → HaveSameTotals (reads_done n (done_of shape h)) (members_read shape streams n)
  reads-known streams n knows g =
      reads-out n g
      ∙ total-each (of_member shape n g) (λ (o : Member). when (nat_lt o.0 n) (of_member shape n g o)) out
      (each-weaker (IsThere shape) (λ o. of_member shape n g o ≡ when (nat_lt o.0 n) (of_member shape n g o)) one out
      (out-there case h legal))
      ∙ knows.totals (of_member shape n g) ∙ sym (members-total shape g streams n)
    where
      one : (o : Member) → IsThere shape o → of_member shape n g o ≡ when (nat_lt o.0 n) (of_member shape n g o)
      one o there = elim (nat_lt o.0 n) as (λ b. nat_lt o.0 n ≡ b → of_member shape n g o ≡ when b (of_member shape n g o)) [
        | true ↦ λ e. refl
        | false ↦ λ e. later-unread case n g o runs there (ltb-false o.0 n e)
      ] refl

  -- and those of computations, one after another
  knows-computations : (front cs : List ComputationShape) (streams : List (List Record)) → shape.computations ≡ front ++ cs
      → Knows streams (injectors_of shape + length front)
      → Knows (streams_with shape streams cs) (injectors_of shape + length front + length cs)
  knows-computations front [] streams all knows =
      let same : injectors_of shape + length front ≡ injectors_of shape + length front + 0 = omega arith in
      subst (Knows streams) same knows
  knows-computations front (c ∷ cs) streams all knows =
      let n : ℕ = injectors_of shape + length front in
      let x : List Record = plain_of c.kind (members_read shape streams n) in
      let at : n ≡ length streams = sym knows.long in
      let next = knows-push streams n x knows
      (plain n c.kind (kind_of-place shape front c cs all) (members_read shape streams n) (reads-known streams n knows)) in
      let longer : n + 1 ≡ injectors_of shape + length (front ++ c ∷ []) = omega (arith, length-append front (c ∷ [])) in
      let same : injectors_of shape + length (front ++ c ∷ []) + length cs ≡ injectors_of shape + length front + length (c ∷ cs) =
      omega (arith, length-append front (c ∷ [])) in
      subst (Knows (streams_with shape streams (c ∷ cs))) same
      (subst (λ k. Knows (streams_with shape (streams ++ plain_of c.kind (members_read shape streams k) ∷ []) cs)
      (injectors_of shape + length (front ++ c ∷ []) + length cs)) at
      (knows-computations (front ++ c ∷ []) cs (streams ++ x ∷ [])
      (all ∙ sym (append_assoc front (c ∷ []) cs)) (subst (Knows (streams ++ x ∷ [])) longer next)))

  -- and so those of all parts
  all-known : Knows (plain_streams case) (parts_of shape)
  all-known =
      let same : 0 + injectors_of shape ≡ injectors_of shape + 0 = omega arith in
      let last : injectors_of shape + 0 + length shape.computations ≡ parts_of shape = omega arith in
      subst (Knows (plain_streams case)) last
      (knows-computations [] shape.computations (map injected_of (sources_of case)) refl
      (subst (Knows (map injected_of (sources_of case))) same all-injectors))

  -- at the end what is in the streams is what is there plainly
  pub out-plain : (g : Member → ℕ) → total g out ≡ stream_total g 0 (plain_streams case)
  out-plain g =
      total-each g (λ (o : Member). when (nat_lt o.0 (parts_of shape)) (g o)) out
      (each-weaker (IsThere shape) (λ o. g o ≡ when (nat_lt o.0 (parts_of shape)) (g o))
      (λ o there. sym (ap (λ b. when b (g o)) (lt-ltb o.0 (parts_of shape) there))) out (out-there case h legal))
      ∙ all-known.totals g

  -- and what a part read is what it reads plainly
  pub reads-plain : (part : ℕ) → HaveSameTotals (reads_done part (done_of shape h)) (members_read shape (plain_streams case) part)
  reads-plain part g = reads-out part g ∙ out-plain (of_member shape part g) ∙ sym (members-total shape g (plain_streams case) part)
