-- Streams by their names. What a weak computation publishes may be read of the streams that it reads.
use Rattle.std.proofs.Common.{◌≡◌, ℕ, ◌+◌, Bool, true, false, cond, List, [], ◌∷◌, ◌++◌, map, refl, sym, ◌∙◌, ap, subst, arith}
use Rattle.std.specs.List.{flat_map, AllByRecursion}
use Rattle.std.specs.Cmp.Lexicographic.{bytes_decides}
use Rattle.mw_types.specs.declared.kind.Kind.TheVariants.{Pass}
use Rattle.mw_types.specs.declared.record.Record.{Record}
use Rattle.topology.specs.declared.subscription.By.{By}
use Rattle.topology.specs.Shapes.{ComputationShape, Reading, extracted}
use Rattle.topology.specs.Rules.{IsPassWhereWeak}
use Rattle.topology.proofs.FoldLaws.{reading_through, through, strong_ones}
use Rattle.topology.proofs.ReadOrder.{is, IsApart, AreApart}
use Rattle.topology.proofs.WhatIsLeft.{each-left}
use Rattle.topology.proofs.StillRead.{IsOfStrong}
use Rattle.list_lemmas.proofs.Totals.{total, total-map, total-flat_map, total-same, HaveSameTotals}
use Rattle.plain_answer.specs.Plain.{Keyed, plain_of}
use Rattle.plain_answer.proofs.Same.{plain_of-same}

-- ---- streams by name

-- the records of the stream of each name
abbrev pub Streams : Type 0
Streams = List ℕ → List Record

-- the streams, where the one of this name has these records
abbrev pub and_stream : Streams → List ℕ → List Record → Streams
and_stream streams name items other = cond (is other name) items (streams other)

-- a record, with the key that is extracted of its own
abbrev pub keyed_by : By → Record → Keyed
keyed_by by item = (extracted by item.key, item)

-- what a reading reads
abbrev pub read_by : Streams → Reading → List Keyed
read_by streams r = map (keyed_by r.by) (streams r.stream)

-- what readings read, one behind the other
abbrev pub read_named : Streams → List Reading → List Keyed
read_named streams reads = flat_map (read_by streams) reads

-- the streams, where a computation has published what it gives of them
abbrev pub and_given : Streams → ComputationShape → Streams
and_given streams c = and_stream streams c.stream (plain_of c.kind (read_named streams c.reads))

-- the streams, where computations have published, each behind those before it
abbrev pub named_with : Streams → List ComputationShape → Streams
named_with streams [] = streams
named_with streams (c ∷ cs) = named_with (and_given streams c) cs

-- ---- what readings read

-- a sum over what a reading reads
abbrev pub reading_total : (Keyed → ℕ) → Streams → Reading → ℕ
reading_total g streams r = total (λ (m : Record). g (keyed_by r.by m)) (streams r.stream)

-- a sum over what readings read is that of each reading
pub read-total : (streams : Streams) (g : Keyed → ℕ) (reads : List Reading)
    → total g (read_named streams reads) ≡ total (reading_total g streams) reads
read-total streams g reads =
    total-flat_map g (read_by streams) reads
    ∙ total-same (λ r. total g (read_by streams r)) (reading_total g streams) reads
    (λ r. total-map g (keyed_by r.by) (streams r.stream))

-- readings of other streams read the same where one has new records
read-apart_from : (streams : Streams) (name : List ℕ) (items : List Record) (reads : List Reading)
    → AllByRecursion (λ (r : Reading). is r.stream name ≡ false) reads
    → read_named streams reads ≡ read_named (and_stream streams name items) reads
read-apart_from streams name items [] apart = refl
read-apart_from streams name items (r ∷ rs) apart =
    λ i. map (keyed_by r.by) (cond (sym apart.0 i) items (streams r.stream))
    ++ read-apart_from streams name items rs apart.1 i

-- ---- one weak computation

-- `whole` has what `left` has, and as the stream of a weak computation what that reads of `left`
pub record IsSeenThrough (weak : ComputationShape) (whole left : Streams) : Type 0 where
  pub elsewhere : (s : List ℕ) → is s weak.stream ≡ false → HaveSameTotals (whole s) (left s)
  pub passed : (s : List ℕ) → is s weak.stream ≡ true
      → HaveSameTotals (whole s) (map (λ (m : Keyed). m.1) (read_named left weak.reads))

-- what readings read, they read through the weak computation too
seen-read : (weak : ComputationShape) (whole left : Streams) → IsSeenThrough weak whole left → (reads : List Reading)
    → HaveSameTotals (read_named whole reads) (read_named left (flat_map (reading_through weak) reads))
seen-read weak whole left seen reads g =
    read-total whole g reads
    ∙ total-same (reading_total g whole) (λ r. total (reading_total g left) (reading_through weak r)) reads
    (λ r. of_one r (is r.stream weak.stream) refl)
    ∙ sym (total-flat_map (reading_total g left) (reading_through weak) reads)
    ∙ sym (read-total left g (flat_map (reading_through weak) reads))
  where
    by_own : Reading → Reading → Reading
    by_own r read = record { stream = read.stream; by = r.by }

    of_one : (r : Reading) (b : Bool) → is r.stream weak.stream ≡ b
        → reading_total g whole r ≡ total (reading_total g left) (cond b (map (by_own r) weak.reads) (r ∷ []))
    of_one r true same =
        seen.passed r.stream same (λ m. g (keyed_by r.by m))
        ∙ total-map (λ m. g (keyed_by r.by m)) (λ (m : Keyed). m.1) (read_named left weak.reads)
        ∙ read-total left (λ k. g (keyed_by r.by k.1)) weak.reads
        ∙ sym (total-map (reading_total g left) (by_own r) weak.reads)
    of_one r false other = seen.elsewhere r.stream other (λ m. g (keyed_by r.by m)) ∙ alone (reading_total g left r)
      where
        alone : (n : ℕ) → n ≡ n + 0
        alone n = omega arith

-- the weak computation is seen through where one more has published that is apart from it
seen-more : (weak c : ComputationShape) (whole left : Streams) → IsApart weak c → IsSeenThrough weak whole left
    → IsSeenThrough weak (and_given whole c) (and_given left (through weak c))
seen-more weak c whole left apart seen = record { elsewhere = elsewhere; passed = passed }
  where
    given : List Record
    given = plain_of c.kind (read_named whole c.reads)

    given_left : List Record
    given_left = plain_of c.kind (read_named left (flat_map (reading_through weak) c.reads))

    same : HaveSameTotals given given_left
    same = plain_of-same c.kind (read_named whole c.reads) (read_named left (flat_map (reading_through weak) c.reads))
        (seen-read weak whole left seen c.reads)

    elsewhere : (s : List ℕ) → is s weak.stream ≡ false
        → HaveSameTotals (and_stream whole c.stream given s) (and_stream left c.stream given_left s)
    elsewhere s other = elim (is s c.stream) as (λ b. HaveSameTotals (cond b given (whole s)) (cond b given_left (left s))) [
      | true ↦ same
      | false ↦ seen.elsewhere s other
    ]

    passed : (s : List ℕ) → is s weak.stream ≡ true
        → HaveSameTotals (and_stream whole c.stream given s)
        (map (λ (m : Keyed). m.1) (read_named (and_stream left c.stream given_left) weak.reads))
    passed s own g =
        let differs : is s c.stream ≡ false =
        subst (λ t. is t c.stream ≡ false) (sym ((bytes_decides s weak.stream).0 own)) apart.0 in
        ap (λ b. total g (cond b given (whole s))) differs
        ∙ seen.passed s own g
        ∙ ap (λ l. total g (map (λ (m : Keyed). m.1) l)) (read-apart_from left c.stream given_left weak.reads apart.1)

-- and where any number have published that are apart from it
seen-behind : (weak : ComputationShape) (whole left : Streams) (cs : List ComputationShape) → IsSeenThrough weak whole left
    → AllByRecursion (IsApart weak) cs → (s : List ℕ) → is s weak.stream ≡ false
    → HaveSameTotals (named_with whole cs s) (named_with left (map (through weak) cs) s)
seen-behind weak whole left [] seen apart s other = seen.elsewhere s other
seen-behind weak whole left (c ∷ cs) seen apart s other =
    seen-behind weak (and_given whole c) (and_given left (through weak c)) cs (seen-more weak c whole left apart.0 seen)
    apart.1 s other

-- a pass that has just published is seen through
seen-pass : (streams : Streams) (weak : ComputationShape) → weak.kind ≡ Pass → IsSeenThrough weak (and_given streams weak) streams
seen-pass streams weak pass = record { elsewhere = elsewhere; passed = passed }
  where
    given : List Record
    given = plain_of weak.kind (read_named streams weak.reads)

    elsewhere : (s : List ℕ) → is s weak.stream ≡ false → HaveSameTotals (and_given streams weak s) (streams s)
    elsewhere s other g = ap (λ b. total g (cond b given (streams s))) other

    passed : (s : List ℕ) → is s weak.stream ≡ true
        → HaveSameTotals (and_given streams weak s) (map (λ (m : Keyed). m.1) (read_named streams weak.reads))
    passed s own g =
        ap (λ b. total g (cond b given (streams s))) own
        ∙ ap (λ kind. total g (plain_of kind (read_named streams weak.reads))) pass

-- ---- all weak computations

-- a stream that no weak computation publishes has the same without the weak ones
pub same-strong : (streams : Streams) (cs : List ComputationShape) → AreApart cs → AllByRecursion IsPassWhereWeak cs
    → (s : List ℕ) → IsOfStrong s cs
    → HaveSameTotals (named_with streams cs s) (named_with streams (strong_ones cs) s)
same-strong streams [] apart passes s of_strong = λ g. refl
same-strong streams (c ∷ cs) apart passes s of_strong =
    by (same-strong (and_given streams c) cs apart.1 passes.1 s of_strong.1) c.weak refl
  where
    strong_apart : AllByRecursion (IsApart c) (strong_ones cs)
    strong_apart = each-left (λ (d : ComputationShape). d.stream) (λ w d. refl)
        (λ name. (is c.stream name ≡ false) × AllByRecursion (λ (r : Reading). is r.stream name ≡ false) c.reads) cs apart.0

    by : HaveSameTotals (named_with (and_given streams c) cs s) (named_with (and_given streams c) (strong_ones cs) s)
        → (b : Bool) → c.weak ≡ b
        → HaveSameTotals (named_with (and_given streams c) cs s)
        (named_with streams (cond b (map (through c) (strong_ones cs)) (c ∷ strong_ones cs)) s)
    by rest true weak g =
        rest g
        ∙ seen-behind c (and_given streams c) streams (strong_ones cs) (seen-pass streams c (passes.0 weak)) strong_apart s
        (of_strong.0 weak) g
    by rest false strong g = rest g
