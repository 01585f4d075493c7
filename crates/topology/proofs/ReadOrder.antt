-- Where streams differ and each computation reads only what is published before it, none publishes what one before it
-- reads or publishes.
use Rattle.std.proofs.Common.{◌≡◌, ℕ, Bool, true, false, not, ◌||◌, nat_eq, List, [], ◌∷◌, ◌++◌, map, true≢false, inl, inr, refl, sym, ◌∙◌, subst, append_assoc}
use Rattle.std.specs.List.{list_any, AllByRecursion}
use Rattle.std.specs.Cmp.Lexicographic.{pointwise, bytes_decides}
use Rattle.std.proofs.lemmas.Bool.{both_ways, false_from_ne_true, and_parts, and_from, or_parts, or_cases, or_left, or_right, not-true, not_from_false}
use Rattle.std.proofs.lemmas.List.Folds.{list_any-append}
use Rattle.list_lemmas.proofs.Lists.{each-weaker, each-both}
use Rattle.topology.specs.Shapes.{ComputationShape, Reading}
use Rattle.topology.specs.Rules.{all_differ}
use Rattle.topology.specs.FileRules.{reads_among}
use Rattle.topology.proofs.Lists.{each-passes, each-turned}

-- the test by which streams are told apart
abbrev pub is : List ℕ → List ℕ → Bool
is one other = pointwise nat_eq one other

-- what a computation behind another publishes is new to that one, which neither publishes nor reads it
abbrev pub IsApart : ComputationShape → ComputationShape → Type 0
IsApart c behind =
    (is c.stream behind.stream ≡ false) × AllByRecursion (λ (r : Reading). is r.stream behind.stream ≡ false) c.reads

-- so it is with any two of these
abbrev pub AreApart : List ComputationShape → Type 0
AreApart [] = Unit {0}
AreApart (c ∷ cs) = AllByRecursion (IsApart c) cs × AreApart cs

-- the streams of computations, in their order
abbrev pub streams_by : List ComputationShape → List (List ℕ)
streams_by cs = map (λ (c : ComputationShape). c.stream) cs

-- the first of these reads among known streams, and each other one among these and what those before it publish
abbrev pub ReadBefore : List (List ℕ) → List ComputationShape → Type 0
ReadBefore known [] = Unit {0}
ReadBefore known (c ∷ cs) = (reads_among known c.reads ≡ true) × ReadBefore (known ++ c.stream ∷ []) cs

-- ---- one stream and another

-- each stream is the same as itself
pub is-itself : (s : List ℕ) → is s s ≡ true
is-itself s = (bytes_decides s s).1 refl

-- and other than those that are other than it
pub is-other : (s t : List ℕ) → is s t ≡ false → is t s ≡ false
is-other s t other =
    false_from_ne_true (is t s)
    (λ same. both_ways (is s t) other ((bytes_decides s t).1 (sym ((bytes_decides t s).0 same))))

-- what is known stays known where more is
pub any-more : (s : List ℕ) (known more : List (List ℕ)) → list_any (is s) known ≡ true
    → list_any (is s) (known ++ more) ≡ true
any-more s known more there = list_any-append (is s) known more
    ∙ or_left (list_any (is s) known) (list_any (is s) more) there

-- what holds of each known stream holds of one that is among them
among-each : (P : List ℕ → Type 0) (s : List ℕ) (known : List (List ℕ)) → AllByRecursion P known
    → list_any (is s) known ≡ true → P s
among-each P s [] each there = absurd (true≢false (sym there))
among-each P s (x ∷ known) each there = elim (or_cases (is s x) (list_any (is s) known) there) [
  | inl here ↦ subst P (sym ((bytes_decides s x).0 here)) each.0
  | inr later ↦ among-each P s known each.1 later
]

-- ---- streams that differ

-- where all of two lists differ, those of each do, and none of the one is in the other
differ-all : (xs ys : List (List ℕ)) → all_differ (xs ++ ys) ≡ true
    → (all_differ xs ≡ true) × (all_differ ys ≡ true) × AllByRecursion (λ x. list_any (is x) ys ≡ false) xs
differ-all [] ys differ = (refl, differ, tt)
differ-all (x ∷ xs) ys differ =
    let both = and_parts (not (list_any (is x) (xs ++ ys))) (all_differ (xs ++ ys)) differ in
    let apart = sym (list_any-append (is x) xs ys) ∙ not-true (list_any (is x) (xs ++ ys)) both.0 in
    let neither = or_parts (list_any (is x) xs) (list_any (is x) ys) apart in
    let rest = differ-all xs ys both.1 in (
      and_from (not (list_any (is x) xs)) (all_differ xs)
          (not_from_false (list_any (is x) xs) neither.0) rest.0,
      rest.1,
      (neither.1, rest.2),
    )

-- those of the first do
pub differ-before : (xs ys : List (List ℕ)) → all_differ (xs ++ ys) ≡ true → all_differ xs ≡ true
differ-before xs ys differ = (differ-all xs ys differ).0

-- and those of the second
pub differ-behind : (xs ys : List (List ℕ)) → all_differ (xs ++ ys) ≡ true → all_differ ys ≡ true
differ-behind xs ys differ = (differ-all xs ys differ).1

-- of the first none is in the second
pub differ-each : (xs ys : List (List ℕ)) → all_differ (xs ++ ys) ≡ true
    → AllByRecursion (λ x. list_any (is x) ys ≡ false) xs
differ-each xs ys differ = (differ-all xs ys differ).2

-- and so it is with whatever is among the first
pub differ-apart : (xs ys : List (List ℕ)) → all_differ (xs ++ ys) ≡ true → (s : List ℕ) → list_any (is s) xs ≡ true
    → list_any (is s) ys ≡ false
differ-apart xs ys differ s there = among-each (λ x. list_any (is x) ys ≡ false) s xs (differ-each xs ys differ) there

-- ---- computations behind others

-- what a computation publishes is known to those behind it
pub names-next : (known : List (List ℕ)) (c : ComputationShape) (cs : List ComputationShape)
    → known ++ streams_by (c ∷ cs) ≡ (known ++ c.stream ∷ []) ++ streams_by cs
names-next known c cs = sym (append_assoc known (c.stream ∷ []) (streams_by cs))

-- where a stream is not among those of computations, none of them publishes it
pub none-publishes : (s : List ℕ) (cs : List ComputationShape) → list_any (is s) (streams_by cs) ≡ false
    → AllByRecursion (λ (c : ComputationShape). is s c.stream ≡ false) cs
none-publishes s [] none = tt
none-publishes s (c ∷ cs) none =
    let neither = or_parts (is s c.stream) (list_any (is s) (streams_by cs)) none in
    (neither.0, none-publishes s cs neither.1)

-- computations that read what is known are apart from all behind them
pub read-apart : (known : List (List ℕ)) (cs : List ComputationShape) → all_differ (known ++ streams_by cs) ≡ true
    → ReadBefore known cs
    → AreApart cs
read-apart known [] differ reads = tt
read-apart known (c ∷ cs) differ reads = (
  each-both (λ (d : ComputationShape). is c.stream d.stream ≡ false)
      (λ (d : ComputationShape). AllByRecursion (λ (read : Reading). is read.stream d.stream ≡ false) c.reads) cs
      (unlike c.stream own)
      (each-turned (λ (read : Reading) (d : ComputationShape). is read.stream d.stream ≡ false) c.reads cs each),
  read-apart (known ++ c.stream ∷ []) cs next reads.1,
)
  where
    next : all_differ ((known ++ c.stream ∷ []) ++ streams_by cs) ≡ true
    next = subst (λ l. all_differ l ≡ true) (names-next known c cs) differ

    -- what is known to those behind is published by none of them
    unlike : (s : List ℕ) → list_any (is s) (known ++ c.stream ∷ []) ≡ true
        → AllByRecursion (λ (d : ComputationShape). is s d.stream ≡ false) cs
    unlike s there = none-publishes s cs (differ-apart (known ++ c.stream ∷ []) (streams_by cs) next s there)

    own : list_any (is c.stream) (known ++ c.stream ∷ []) ≡ true
    own = list_any-append (is c.stream) known (c.stream ∷ [])
        ∙ or_right (list_any (is c.stream) known) (is c.stream c.stream || false)
        (or_left (is c.stream c.stream) false (is-itself c.stream))

    each : AllByRecursion (λ (read : Reading).
        AllByRecursion (λ (d : ComputationShape). is read.stream d.stream ≡ false) cs) c.reads
    each = each-weaker (λ (read : Reading). list_any (is read.stream) known ≡ true)
        (λ (read : Reading). AllByRecursion (λ (d : ComputationShape). is read.stream d.stream ≡ false) cs)
        (λ read there. unlike read.stream (any-more read.stream known (c.stream ∷ []) there)) c.reads
        (each-passes (λ (read : Reading). list_any (is read.stream) known) c.reads reads.0)
