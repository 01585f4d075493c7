-- The streams of a plain count by their names, and the lines of those that nothing reads.
use Rattle.std.proofs.Common.{◌≡◌, ℕ, ◌+◌, Bool, true, false, cond, not, ◌&&◌, ◌||◌, List, [], ◌∷◌, ◌++◌, length, map, filter, slice_get, unwrap_or, refl, sym, ◌∙◌, ap, subst, arith, append_assoc, length-append}
use Rattle.std.specs.List.{flat_map, enumerate_from, list_any}
use Rattle.std.proofs.lemmas.Bool.{and_parts, or_parts, not-true}
use Rattle.std.proofs.lemmas.List.{append-nil, length-map}
use Rattle.mw_types.specs.declared.record.Record.{Record}
use Rattle.topology.specs.declared.subscription.Subscription.{Subscription}
use Rattle.topology.specs.Shapes.{Shape, InjectorShape, ComputationShape, Reading, injectors_of, streams_of, stream_of, consumers_of, subscriptions_to}
use Rattle.topology.specs.Rules.{all_differ}
use Rattle.topology.specs.Folding.{are_reading, is_read}
use Rattle.topology.proofs.ReadOrder.{is, streams_by, ReadBefore, is-itself, is-other, differ-before, names-next}
use Rattle.topology.proofs.WhatIsLeft.{injected_streams}
use Rattle.list_lemmas.proofs.Totals.{total, when, HaveSameTotals}
use Rattle.run_history.specs.Cases.{CaseShape}
use Rattle.run_history.specs.Texts.{ResultLine}
use Rattle.plain_answer.specs.Plain.{plain_of, plain_line, plain_lines, plain_streams, streams_with, members_read, injected_of, sources_of}
use Rattle.plain_answer.proofs.Lines.{streams-lines}
use Rattle.plain_answer.proofs.Making.{injected-length}
use Rattle.plain_answer.proofs.Parts.{stream_total}
use Rattle.plain_answer.proofs.Same.{plain_of-same}
use Rattle.plain_answer.proofs.Sent.{none_reads}
use Rattle.plain_answer.proofs.StreamNames.{Streams, and_stream, and_given, read_named, named_with}
use Rattle.topology.proofs.StillRead.{behind-other}
use Rattle.plain_answer.proofs.NamedReads.{stream_total-same, names-total, AreNamed, reads-named}

-- ---- the streams of a case by name

-- streams with these names stay what they are where another name has new records
named-apart : (names : List (List ℕ)) (xs : List (List Record)) (streams : Streams) (s : List ℕ) (items : List Record)
    → AreNamed names xs streams → list_any (is s) names ≡ false → AreNamed names xs (and_stream streams s items)
named-apart [] [] streams s items named none = tt
named-apart [] (x ∷ xs) streams s items named none = absurd named
named-apart (name ∷ names) [] streams s items named none = absurd named
named-apart (name ∷ names) (x ∷ xs) streams s items named none =
    let both = or_parts (is s name) (list_any (is s) names) none in (
      subst (λ b. HaveSameTotals x (cond b items (streams name))) (sym (is-other s name both.0)) named.0,
      named-apart names xs streams s items named.1 both.1,
    )

-- one more stream has what its name has
named-push : (names : List (List ℕ)) (xs : List (List Record)) (streams : Streams) (s : List ℕ) (x : List Record)
    → AreNamed names xs streams → HaveSameTotals x (streams s) → AreNamed (names ++ s ∷ []) (xs ++ x ∷ []) streams
named-push [] [] streams s x named same = (same, tt)
named-push [] (y ∷ ys) streams s x named same = absurd named
named-push (name ∷ names) [] streams s x named same = absurd named
named-push (name ∷ names) (y ∷ ys) streams s x named same = (named.0, named-push names ys streams s x named.1 same)

-- the name that was set has the records that it was given
own-stream : (streams : Streams) (s : List ℕ) (x items : List Record) → HaveSameTotals x items
    → HaveSameTotals x (and_stream streams s items s)
own-stream streams s x items same = subst (λ b. HaveSameTotals x (cond b items (streams s))) (sym (is-itself s)) same

-- the streams of injectors by name
abbrev pub injected_named : List (List ℕ) → List (List Record) → Streams
injected_named (name ∷ names) (x ∷ xs) = and_stream (injected_named names xs) name x
injected_named _ _ = λ s. []

-- they are those by number, where names differ
are-injected : (names : List (List ℕ)) (xs : List (List Record)) → length names ≡ length xs → all_differ names ≡ true
    → AreNamed names xs (injected_named names xs)
are-injected [] [] long differ = tt
are-injected [] (x ∷ xs) long differ = absurd (omega (arith, long))
are-injected (name ∷ names) [] long differ = absurd (omega (arith, long))
are-injected (name ∷ names) (x ∷ xs) long differ =
    let both = and_parts (not (list_any (is name) names)) (all_differ names) differ in (
      own-stream (injected_named names xs) name x x (λ g. refl),
      named-apart names xs (injected_named names xs) name x (are-injected names xs (omega (arith, long)) both.1)
          (not-true (list_any (is name) names) both.0),
    )

-- so are the streams of computations behind them, where each reads only what stands before it
are-named : (shape : Shape) (before cs : List ComputationShape) (names : List (List ℕ)) (found : List (List Record)) (streams : Streams)
    → shape.computations ≡ before ++ cs → streams_of shape ≡ names ++ streams_by cs
    → length names ≡ injectors_of shape + length before → AreNamed names found streams
    → all_differ (names ++ streams_by cs) ≡ true → ReadBefore names cs
    → AreNamed (names ++ streams_by cs) (streams_with shape found cs) (named_with streams cs)
are-named shape before [] names found streams split all long named differ reads =
    subst (λ l. AreNamed l found streams) (sym (append-nil names)) named
are-named shape before (c ∷ cs) names found streams split all long named differ reads =
    subst (λ l. AreNamed l (streams_with shape (found ++ given ∷ []) cs) (named_with (and_given streams c) cs))
    (sym (names-next names c cs))
    (are-named shape (before ++ c ∷ []) cs (names ++ c.stream ∷ []) (found ++ given ∷ []) (and_given streams c)
    (split ∙ sym (append_assoc before (c ∷ []) cs)) (all ∙ names-next names c cs) counted pushed
    (subst (λ l. all_differ l ≡ true) (names-next names c cs) differ) reads.1)
  where
    given : List Record
    given = plain_of c.kind (members_read shape found (length found))

    given_named : List Record
    given_named = plain_of c.kind (read_named streams c.reads)

    same : HaveSameTotals given given_named
    same = plain_of-same c.kind (members_read shape found (length found)) (read_named streams c.reads)
        (reads-named shape before c cs names (streams_by (c ∷ cs)) found streams split all long named
        (differ-before names (streams_by (c ∷ cs)) differ) reads.0)

    pushed : AreNamed (names ++ c.stream ∷ []) (found ++ given ∷ []) (and_given streams c)
    pushed = named-push names found (and_given streams c) c.stream given
        (named-apart names found streams c.stream given_named named (behind-other names c.stream (streams_by cs) differ))
        (own-stream streams c.stream given given_named same)

    counted : length (names ++ c.stream ∷ []) ≡ injectors_of shape + length (before ++ c ∷ [])
    counted = omega (arith, long, length-append names (c.stream ∷ []), length-append before (c ∷ []))

-- the streams of a case by name
abbrev pub case_streams : CaseShape → Streams
case_streams case =
    named_with (injected_named (injected_streams case.topology) (map injected_of (sources_of case))) case.topology.computations

-- they are the plain streams
case-named : (case : CaseShape) → all_differ (streams_of case.topology) ≡ true
    → ReadBefore (injected_streams case.topology) case.topology.computations
    → AreNamed (streams_of case.topology) (plain_streams case) (case_streams case)
case-named case differ reads =
    are-named shape [] shape.computations names injected (injected_named names injected) refl refl counted
    (are-injected names injected (omega (arith, as_many, injected-length case 0 (injectors_of shape)))
    (differ-before names (streams_by shape.computations) differ)) differ reads
  where
    shape : Shape
    shape = case.topology

    names : List (List ℕ)
    names = injected_streams shape

    injected : List (List Record)
    injected = map injected_of (sources_of case)

    as_many : length names ≡ injectors_of shape
    as_many = length-map shape.injectors (λ (i : InjectorShape). i.stream)

    counted : length names ≡ injectors_of shape + 0
    counted = omega (arith, as_many)

-- ---- lines

-- nothing reads two lists of subscriptions together where nothing reads each
none-append : (ss ts : List Subscription) → none_reads (ss ++ ts) ≡ (none_reads ss && none_reads ts)
none-append [] ts = refl
none-append (s ∷ ss) ts = refl

-- a computation has no subscription to a stream where it does not read it
none-own : (to : ℕ) (s : List ℕ) (rs : List Reading)
    → none_reads (map (λ (r : Reading). record { to = to; by = r.by }) (filter (λ (r : Reading). is r.stream s) rs))
    ≡ not (are_reading rs s)
none-own to s [] = refl
none-own to s (r ∷ rs) = by (none-own to s rs) (is r.stream s)
  where
    of_this : List Reading → List Subscription
    of_this = map (λ (q : Reading). record { to = to; by = q.by })

    left : List Reading
    left = filter (λ (q : Reading). is q.stream s) rs

    by : none_reads (of_this left) ≡ not (are_reading rs s) → (b : Bool)
        → none_reads (of_this (cond b (r ∷ left) left)) ≡ not (b || are_reading rs s)
    by rest true = refl
    by rest false = rest

-- there is no subscription to a stream where no computation reads it
none-subscribes : (s : List ℕ) (n : ℕ) (cs : List ComputationShape)
    → none_reads (flat_map (subscriptions_to s) (enumerate_from n cs)) ≡ not (is_read cs s)
none-subscribes s n [] = refl
none-subscribes s n (c ∷ cs) =
    none-append (subscriptions_to s (n, c)) (flat_map (subscriptions_to s) (enumerate_from (n + 1) cs))
    ∙ (λ i. none-own n s c.reads i && none-subscribes s (n + 1) cs i)
    ∙ neither (are_reading c.reads s) (is_read cs s)
  where
    neither : (a b : Bool) → (not a && not b) ≡ not (a || b)
    neither true b = refl
    neither false b = refl

-- what a member of a stream counts by its line, if nothing reads the stream
abbrev pub line_value : (ResultLine → ℕ) → List ComputationShape → List ℕ → Record → ℕ
line_value g cs s r = when (not (is_read cs s)) (g (plain_line s r))

-- what the lines of a stream count
abbrev pub line_total : (ResultLine → ℕ) → List ComputationShape → Streams → List ℕ → ℕ
line_total g cs streams s = total (line_value g cs s) (streams s)

-- a sum over the lines of a plain count is one over the names of its streams
pub lines-total : (case : CaseShape) → all_differ (streams_of case.topology) ≡ true
    → ReadBefore (injected_streams case.topology) case.topology.computations → (g : ResultLine → ℕ)
    → total g (plain_lines case) ≡ total (line_total g case.topology.computations (case_streams case)) (streams_of case.topology)
lines-total case differ reads g =
    streams-lines shape g 0 (plain_streams case)
    ∙ stream_total-same (λ o. when (none_reads (consumers_of shape o.0)) (g (plain_line (stream_of shape o.0) o.1)))
    (λ o. value (stream_of shape o.0) o.1) 0 (plain_streams case)
    (λ o. ap (λ b. when b (g (plain_line (stream_of shape o.0) o.1)))
    (none-subscribes (stream_of shape o.0) (injectors_of shape) shape.computations))
    ∙ ap (λ l. stream_total (λ o. value (unwrap_or (slice_get l o.0) []) o.1) 0 (plain_streams case)) (sym (append-nil (streams_of shape)))
    ∙ names-total value (streams_of shape) [] (plain_streams case) (case_streams case) named
  where
    shape : Shape
    shape = case.topology

    value : List ℕ → Record → ℕ
    value = line_value g shape.computations

    named : AreNamed (streams_of shape) (plain_streams case) (case_streams case)
    named = case-named case differ reads
