-- Which streams have a reader once the weak computations are taken out: of the streams that stay, those that had one.
use Rattle.std.proofs.Common.{◌≡◌, ℕ, Bool, true, false, cond, not, ◌||◌, List, [], ◌∷◌, ◌++◌, map, refl, sym, ◌∙◌, ap}
use Rattle.std.specs.Cmp.Lexicographic.{bytes_decides}
use Rattle.std.specs.List.{flat_map, list_any, AllByRecursion}
use Rattle.std.proofs.lemmas.Bool.{both_ways, false_from_ne_true, and_parts, or_parts, or_left, not-true}
use Rattle.std.proofs.lemmas.List.Elements.{All-weaker}
use Rattle.std.proofs.lemmas.List.Folds.{list_any-append, list_any_none}
use Rattle.std.proofs.lemmas.List.Sums.{AllPass-from_list_all}
use Rattle.list_lemmas.proofs.Lists.{each-weaker, each-both}
use Rattle.topology.specs.Shapes.{ComputationShape, Reading}
use Rattle.topology.specs.Rules.{all_differ}
use Rattle.topology.specs.FileRules.{reads_among}
use Rattle.topology.specs.Folding.{are_reading, is_read, are_weak_read}
use Rattle.topology.proofs.Lists.{each-passes, any-map, any-flat_map, any-replaced, or-nothing}
use Rattle.topology.proofs.FoldLaws.{reading_through, through, strong_ones, by_computation}
use Rattle.topology.proofs.ReadOrder.{is, IsApart, AreApart, streams_by, ReadBefore, is-itself, is-other, differ-apart, names-next, none-publishes}

-- this stream is that of no weak computation
abbrev pub IsOfStrong : List ℕ → List ComputationShape → Type 0
IsOfStrong s cs = AllByRecursion (λ (c : ComputationShape). c.weak ≡ true → is s c.stream ≡ false) cs

-- each weak computation has a reader behind it
abbrev pub AreReadBehind : List ComputationShape → Type 0
AreReadBehind [] = Unit {0}
AreReadBehind (c ∷ cs) = (c.weak ≡ true → is_read cs c.stream ≡ true) × AreReadBehind cs

-- ---- where one is taken out

-- the readings of all computations
abbrev readings : List ComputationShape → List Reading
readings cs = flat_map (λ (c : ComputationShape). c.reads) cs

module _ (gone : ComputationShape) (s : List ℕ) where
  -- a reading of the stream that goes counts as one of this stream where the weak computation read it
  abbrev counts : Reading → Bool
  counts r = cond (is r.stream gone.stream) (are_reading gone.reads s) (is r.stream s)

  -- so it is with what stands for one reading
  one-through : (r : Reading) (b : Bool)
      → are_reading (cond b (map (λ (q : Reading). record { stream = q.stream; by = r.by }) gone.reads) (r ∷ [])) s
      ≡ cond b (are_reading gone.reads s) (is r.stream s)
  one-through r true =
      any-map (λ (q : Reading). is q.stream s) (λ (q : Reading). record { stream = q.stream; by = r.by }) gone.reads
  one-through r false = or-nothing (is r.stream s)

  -- and with what stands for all of them
  read-through : (cs : List ComputationShape) → is_read (map (through gone) cs) s ≡ list_any counts (readings cs)
  read-through [] = refl
  read-through (c ∷ cs) =
      let own : are_reading (flat_map (reading_through gone) c.reads) s ≡ list_any counts c.reads =
      any-flat_map (λ (q : Reading). is q.stream s) (reading_through gone) c.reads
      ∙ (λ i. list_any (λ r. one-through r (is r.stream gone.stream) i) c.reads) in
      (λ i. own i || read-through cs i) ∙ sym (list_any-append counts c.reads (readings cs))

  -- where it had a reader, what it read is read instead, and what else was read still is
  read-instead : is s gone.stream ≡ false → (cs : List ComputationShape) → is_read cs gone.stream ≡ true
      → is_read (map (through gone) cs) s ≡ (are_reading gone.reads s || is_read cs s)
  read-instead other cs had =
      read-through cs
      ∙ any-replaced (λ (r : Reading). is r.stream gone.stream) (λ (r : Reading). is r.stream s) (are_reading gone.reads s)
      apart (readings cs) (read_by gone.stream ∙ had)
      ∙ ap (λ b. are_reading gone.reads s || b) (read_by s)
    where
      read_by : (t : List ℕ) → list_any (λ (r : Reading). is r.stream t) (readings cs) ≡ is_read cs t
      read_by t = any-flat_map (λ (r : Reading). is r.stream t) (λ (c : ComputationShape). c.reads) cs

      apart : (r : Reading) → is r.stream gone.stream ≡ true → is r.stream s ≡ false
      apart r same = ap (λ t. is t s) ((bytes_decides r.stream gone.stream).0 same) ∙ is-other s gone.stream other

-- ---- where all are

-- a stream that no weak computation publishes is read where it was
pub read-strong : (cs : List ComputationShape) → AreApart cs → AreReadBehind cs → (s : List ℕ) → IsOfStrong s cs
    → is_read (strong_ones cs) s ≡ is_read cs s
read-strong = by_computation
    (λ cs left. AreApart cs → AreReadBehind cs → (s : List ℕ) → IsOfStrong s cs → is_read left s ≡ is_read cs s)
    (λ apart behind s strong. refl)
    (λ gone cs left weak rest apart behind s strong.
    let own = each-weaker (IsApart gone) (λ (d : ComputationShape). d.weak ≡ true → is gone.stream d.stream ≡ false)
    (λ d one d_weak. one.0) cs apart.0 in
    read-instead gone s (strong.0 weak) left (rest apart.1 behind.1 gone.stream own ∙ behind.0 weak)
    ∙ ap (λ b. are_reading gone.reads s || b) (rest apart.1 behind.1 s strong.1))
    (λ c cs left stays rest apart behind s strong.
    ap (λ b. are_reading c.reads s || b) (rest apart.1 behind.1 s strong.1))

-- ---- which weak computations have readers

-- where streams differ, one that stands behind others is not among them
pub behind-other : (known : List (List ℕ)) (s : List ℕ) (later : List (List ℕ)) → all_differ (known ++ s ∷ later) ≡ true
    → list_any (is s) known ≡ false
behind-other known s later differ = false_from_ne_true (list_any (is s) known) (λ there.
    both_ways (list_any (is s) (s ∷ later)) (differ-apart known (s ∷ later) differ s there)
    (or_left (is s s) (list_any (is s) later) (is-itself s)))

-- readings of known streams are not of another
unread : (known : List (List ℕ)) (s : List ℕ) → list_any (is s) known ≡ false → (rs : List Reading)
    → reads_among known rs ≡ true → are_reading rs s ≡ false
unread known s new rs there = list_any_none (λ (r : Reading). is r.stream s) rs
    (All-weaker (λ (r : Reading). list_any (is r.stream) known ≡ true) (λ (r : Reading). is r.stream s ≡ false)
    unlike rs (AllPass-from_list_all (λ (r : Reading). list_any (is r.stream) known) rs there))
  where
    unlike : (r : Reading) → list_any (is r.stream) known ≡ true → is r.stream s ≡ false
    unlike r old = false_from_ne_true (is r.stream s) (λ same. both_ways (list_any (is s) known) new
        (ap (λ t. list_any (is t) known) (sym ((bytes_decides r.stream s).0 same)) ∙ old))

-- a weak computation that has a reader has one behind it, as none before it knows its stream
pub read-behind : (all : List ComputationShape) (known : List (List ℕ)) (cs : List ComputationShape)
    → all_differ (known ++ streams_by cs) ≡ true → ReadBefore known cs
    → ((s : List ℕ) → list_any (is s) known ≡ false → is_read all s ≡ is_read cs s)
    → AllByRecursion (λ (c : ComputationShape). c.weak ≡ true → is_read all c.stream ≡ true) cs → AreReadBehind cs
read-behind all known [] differ reads same each = tt
read-behind all known (c ∷ cs) differ reads same each = (
  λ weak. sym (only c.stream (behind-other known c.stream (streams_by cs) differ)) ∙ each.0 weak,
  read-behind all (known ++ c.stream ∷ []) cs (ap all_differ (sym (names-next known c cs)) ∙ differ) reads.1
      (λ s new. only s (or_parts (list_any (is s) known) (is s c.stream || false)
      (sym (list_any-append (is s) known (c.stream ∷ [])) ∙ new)).0)
      each.1,
)
  where
    only : (s : List ℕ) → list_any (is s) known ≡ false → is_read all s ≡ is_read cs s
    only s new = same s new ∙ ap (λ b. b || is_read cs s) (unread known s new c.reads reads.0)

-- by the rule that a weak computation's stream is read, each has a reader
pub weak-read : (cs : List ComputationShape) → are_weak_read cs ≡ true
    → AllByRecursion (λ (c : ComputationShape). c.weak ≡ true → is_read cs c.stream ≡ true) cs
weak-read cs rule =
    let test : ComputationShape → Bool = λ c. not c.weak || is_read cs c.stream in
    each-weaker (λ c. test c ≡ true) (λ (c : ComputationShape). c.weak ≡ true → is_read cs c.stream ≡ true)
    (λ c passes weak. ap (λ b. not b || is_read cs c.stream) (sym weak) ∙ passes) cs (each-passes test cs rule)

-- ---- which streams are of strong parts

-- one that none of these publishes
pub of-none : (s : List ℕ) (cs : List ComputationShape) → list_any (is s) (streams_by cs) ≡ false → IsOfStrong s cs
of-none s cs new = each-weaker (λ (d : ComputationShape). is s d.stream ≡ false)
    (λ (d : ComputationShape). d.weak ≡ true → is s d.stream ≡ false) (λ d other weak. other) cs
    (none-publishes s cs new)

-- and one that a strong computation publishes, where streams differ
pub of-strong : (cs : List ComputationShape) → all_differ (streams_by cs) ≡ true
    → AllByRecursion (λ (c : ComputationShape). c.weak ≡ false → IsOfStrong c.stream cs) cs
of-strong [] differ = tt
of-strong (c ∷ cs) differ =
    let both = and_parts (not (list_any (is c.stream) (streams_by cs))) (all_differ (streams_by cs)) differ in
    let new = not-true (list_any (is c.stream) (streams_by cs)) both.0 in
    let own : c.weak ≡ false → IsOfStrong c.stream (c ∷ cs) =
    λ strong. (λ weak. absurd (both_ways c.weak strong weak), of-none c.stream cs new) in
    (own, later new (of-strong cs both.1))
  where
    later : list_any (is c.stream) (streams_by cs) ≡ false
        → AllByRecursion (λ (d : ComputationShape). d.weak ≡ false → IsOfStrong d.stream cs) cs
        → AllByRecursion (λ (d : ComputationShape). d.weak ≡ false → IsOfStrong d.stream (c ∷ cs)) cs
    later new rest = each-weaker
        (λ (d : ComputationShape). (is c.stream d.stream ≡ false) × (d.weak ≡ false → IsOfStrong d.stream cs))
        (λ (d : ComputationShape). d.weak ≡ false → IsOfStrong d.stream (c ∷ cs))
        (λ d known strong. (λ weak. is-other c.stream d.stream known.0, known.1 strong)) cs
        (each-both (λ (d : ComputationShape). is c.stream d.stream ≡ false)
        (λ (d : ComputationShape). d.weak ≡ false → IsOfStrong d.stream cs) cs (none-publishes c.stream cs new) rest)
