-- The streams that are worked out part by part are the plain ones, each in some order.
use Rattle.std.proofs.Common.{◌≡◌, ℕ, zero, suc, ◌+◌, ◌-◌, ◌<◌, ◌≤◌, ◌==◌, List, [], ◌∷◌, ◌++◌, length, map, drop, take, refl, sym, ◌∙◌, ap, subst, arith, length-append, get_or, sum_by, Some}
use Rattle.std.specs.Prelude.{slice_get, unwrap_or, nat_lt, None, false, cond}
use Rattle.std.specs.Option.{option_map}
use Rattle.std.proofs.lemmas.Bool.Decides.{nat_tests}
use Rattle.std.specs.List.{range_with_len}
use Rattle.std.specs.List.Sorted.{IsPermutation}
use Rattle.mw_types.specs.declared.identity.RowName.{RowName}
use Rattle.mw_types.specs.declared.record.Record.{Record}
use Rattle.mw_types.specs.declared.kind.Kind.{Kind}
use Rattle.topology.specs.Shapes.{Shape, ComputationShape, injectors_of, parts_of, kind_of}
use Rattle.injector.specs.Sources.{Source, item_at}
use Rattle.run_history.specs.Cases.{CaseShape, record_of, source_of}
use Rattle.history_laws.proofs.PendingLaws.{was_some}
use Rattle.list_lemmas.proofs.Totals.{total, when, total-sum_by, HaveSameTotals, totals-permuted}
use Rattle.plain_answer.specs.Plain.{Keyed, members_read, plain_of, injected_of, sources_of, streams_with, plain_streams}
use Rattle.plain_answer.specs.Stories.{Member}
use Rattle.plain_answer.specs.Sends.{EachMoved, HaveSameSums, ArePlain, AreRead}
use Rattle.plain_answer.proofs.Parts.{stream_total, members-total}
use Rattle.plain_answer.proofs.Sent.{sends}
use Rattle.plain_answer.proofs.Same.{plain_of-same}

-- with one more
pub moved-push : (xs ys : List (List Record)) (x y : List Record) → EachMoved xs ys → HaveSameSums x y
    → EachMoved (xs ++ x ∷ []) (ys ++ y ∷ [])
moved-push [] [] x y each moved = (moved, tt)
moved-push [] (z ∷ ys) x y each moved = absurd each
moved-push (z ∷ xs) [] x y each moved = absurd each
moved-push (z ∷ xs) (w ∷ ys) x y each moved = (each.0, moved-push xs ys x y each.1 moved)

-- as many
pub moved-length : (xs ys : List (List Record)) → EachMoved xs ys → length xs ≡ length ys
moved-length [] [] each = refl
moved-length [] (y ∷ ys) each = absurd each
moved-length (x ∷ xs) [] each = absurd each
moved-length (x ∷ xs) (y ∷ ys) each = ap suc (moved-length xs ys each.1)

-- the same sums
pub moved-total : (g : Member → ℕ) (n : ℕ) (xs ys : List (List Record)) → EachMoved xs ys → stream_total g n xs ≡ stream_total g n ys
moved-total g n [] [] each = refl
moved-total g n [] (y ∷ ys) each = absurd each
moved-total g n (x ∷ xs) [] each = absurd each
moved-total g n (x ∷ xs) (y ∷ ys) each =
    omega (arith, total-sum_by (λ r. g (n, r)) x, total-sum_by (λ r. g (n, r)) y, each.0 (λ r. g (n, r)), moved-total g (n + 1) xs ys each.1)

-- what a part reads of them
pub moved-read : (shape : Shape) (xs ys : List (List Record)) (part : ℕ) → EachMoved xs ys
    → HaveSameTotals (members_read shape xs part) (members_read shape ys part)
moved-read shape xs ys part each g =
    members-total shape g xs part ∙ moved-total (λ o. total (λ (s : RowName × Record). when (s.0.part == part) (g (s.0.key, s.1))) (sends shape o)) 0 xs ys each ∙ sym (members-total shape g ys part)

-- what a kind makes of them
pub moved-plain : (shape : Shape) (kind : Kind) (xs ys : List (List Record)) (part : ℕ) → EachMoved xs ys
    → HaveSameTotals (plain_of kind (members_read shape xs part)) (plain_of kind (members_read shape ys part))
moved-plain shape kind xs ys part each =
    plain_of-same kind (members_read shape xs part) (members_read shape ys part) (moved-read shape xs ys part each)

-- each as it is
pub moved-itself : (xs : List (List Record)) → EachMoved xs xs
moved-itself [] = tt
moved-itself (x ∷ xs) = ((λ f. refl), moved-itself xs)

-- the streams of the parts so far, from which those of the parts that are left make the plain ones
pub record AreMadeTo (case : CaseShape) (part : ℕ) (streams : List (List Record)) : Type 0 where
  pub found : List (List Record)
  pub long : length found ≡ part
  pub moved : EachMoved found streams
  pub left : streams_with case.topology found (drop (part - injectors_of case.topology) case.topology.computations) ≡ plain_streams case

-- the one that is there, and those that are left behind it
pub dropped : (cs : List ComputationShape) (i : ℕ) (c : ComputationShape) → slice_get cs i ≡ Some c → drop i cs ≡ c ∷ drop (i + 1) cs
dropped [] i c e = absurd cc
dropped (y ∷ ys) zero c e = ap (λ z. z ∷ ys) (some_same e)
  where
    some_same : Some y ≡ Some c → y ≡ c
    some_same e = cc
dropped (y ∷ ys) (suc i) c e =
    let same : suc (i + 1) ≡ suc i + 1 = omega arith in
    dropped ys i c e ∙ ap (λ n. c ∷ drop n (y ∷ ys)) same

-- one more part
pub made-push : (case : CaseShape) (part : ℕ) (kind : Kind) (c : ComputationShape) (streams : List (List Record)) (x : List Record)
    → injectors_of case.topology ≤ part
    → slice_get case.topology.computations (part - injectors_of case.topology) ≡ Some c → c.kind ≡ kind
    → AreMadeTo case part streams → IsPermutation (plain_of kind (members_read case.topology streams part)) x
    → AreMadeTo case (part + 1) (streams ++ x ∷ [])
made-push case part kind c streams x from at of made moved =
    let shape = case.topology in
    let next : List Record = plain_of c.kind (members_read shape made.found (length made.found)) in
    let same : next ≡ plain_of kind (members_read shape made.found part) =
    λ i. plain_of (of i) (members_read shape made.found (made.long i)) in
    let more : part + 1 - injectors_of shape ≡ part - injectors_of shape + 1 = omega (arith, from) in
    record {
      found = made.found ++ next ∷ [];
      long = omega (arith, length-append made.found (next ∷ []), made.long);
      moved = moved-push made.found streams next x made.moved
          (λ f.
          ap (λ l. sum_by f l) same
          ∙ sym (total-sum_by f (plain_of kind (members_read shape made.found part)))
          ∙ moved-plain shape kind made.found streams part made.moved f
          ∙ totals-permuted (plain_of kind (members_read shape streams part)) x moved f
          ∙ total-sum_by f x);
      left = ap (λ n. streams_with shape (made.found ++ next ∷ []) (drop n shape.computations)) more
          ∙ ap (λ l. streams_with shape made.found l) (sym (dropped shape.computations (part - injectors_of shape) c at))
          ∙ made.left;
    }

-- after the last part they are the plain ones
pub made-all : (case : CaseShape) (part : ℕ) (streams : List (List Record)) → parts_of case.topology ≤ part
    → AreMadeTo case part streams → ArePlain case streams
made-all case part streams over made =
    let shape = case.topology in
    let none : drop (part - injectors_of shape) shape.computations ≡ [] =
    past shape.computations (part - injectors_of shape) (omega (arith, over)) in
    subst (λ l. EachMoved l streams) (ap (streams_with shape made.found) (sym none) ∙ made.left) made.moved
  where
    past : (cs : List ComputationShape) (i : ℕ) → length cs ≤ i → drop i cs ≡ []
    past [] zero le = refl
    past [] (suc i) le = refl
    past (c ∷ cs) zero le = absurd (omega (arith, le))
    past (c ∷ cs) (suc i) le = past cs i (omega (arith, le))

-- as many records of sources as injectors
pub injected-length : (case : CaseShape) (a n : ℕ) → length (map injected_of (map (source_of case) (range_with_len a n))) ≡ n
injected-length case a zero = refl
injected-length case a (suc n) = ap suc (injected-length case (a + 1) n)

-- those of the injectors
pub made-injected : (case : CaseShape) (part : ℕ) (streams : List (List Record)) → part ≡ injectors_of case.topology
    → streams ≡ map injected_of (sources_of case) → AreMadeTo case part streams
made-injected case part streams here are = record {
  found = streams;
  long = ap length are ∙ injected-length case 0 (injectors_of case.topology) ∙ sym here;
  moved = moved-itself streams;
  left =
      let none : part - injectors_of case.topology ≡ 0 = omega (arith, here) in
      ap (λ n. streams_with case.topology streams (drop n case.topology.computations)) none
      ∙ ap (λ l. streams_with case.topology l case.topology.computations) are;
}

-- injectors, with one more
pub injected-push : (case : CaseShape) (a n : ℕ)
    → map injected_of (map (source_of case) (range_with_len a (n + 1)))
    ≡ map injected_of (map (source_of case) (range_with_len a n)) ++ injected_of (source_of case (a + n)) ∷ []
injected-push case a zero = let same : a ≡ a + 0 = omega arith in ap (λ k. injected_of (source_of case k) ∷ []) same
injected-push case a (suc n) =
    let same : a + 1 + n ≡ a + suc n = omega arith in
    let more : suc n + 1 ≡ suc (n + 1) = omega arith in
    ap (λ k. map injected_of (map (source_of case) (range_with_len a k))) more
    ∙ ap (λ l. injected_of (source_of case a) ∷ l) (injected-push case (a + 1) n
    ∙ ap (λ k. map injected_of (map (source_of case) (range_with_len (a + 1) n)) ++ injected_of (source_of case k) ∷ []) same)

-- how many streams there are
pub made-long : (case : CaseShape) (part : ℕ) (streams : List (List Record)) → AreMadeTo case part streams → length streams ≡ part
made-long case part streams made = sym (moved-length made.found streams made.moved) ∙ made.long

-- a number is not below one that it reaches
behind : (n k : ℕ) → k ≤ n → nat_lt n k ≡ false
behind n k le = grind (arith, nat_tests)

-- a computation of this kind is there
pub kind_there : (shape : Shape) (part : ℕ) (kind : Kind) → injectors_of shape ≤ part → kind_of shape part ≡ Some kind
    → (c : ComputationShape) × (slice_get shape.computations (part - injectors_of shape) ≡ Some c) × (c.kind ≡ kind)
kind_there shape part kind from of =
    was_some (λ (c : ComputationShape). c.kind) (slice_get shape.computations (part - injectors_of shape)) kind
    (sym (ap (λ b. option_map (λ (c : ComputationShape). c.kind) (cond b None (slice_get shape.computations (part - injectors_of shape))))
    (behind part (injectors_of shape) from)) ∙ of)

-- one more part, of the members that are at hand
pub made-next : (case : CaseShape) (part : ℕ) (kind : Kind) (streams more : List (List Record)) (reads : List (List Keyed)) (x : List Record)
    → injectors_of case.topology ≤ part → part < parts_of case.topology → kind_of case.topology part ≡ Some kind
    → AreMadeTo case part streams → AreRead case.topology streams reads
    → IsPermutation (plain_of kind (get_or reads part [])) x → more ≡ streams ++ x ∷ [] → AreMadeTo case (part + 1) more
made-next case part kind streams more reads x from within of made read moved is =
    let there = kind_there case.topology part kind from of in
    subst (AreMadeTo case (part + 1)) (sym is)
    (made-push case part kind there.0 streams x from there.1 there.2 made
    (subst (λ l. IsPermutation (plain_of kind l) x) (read.each part within) moved))

-- the records of one more line
pub injected-more : (source : Source) (n : ℕ) (item : Record) → option_map record_of (item_at source n) ≡ Some item
    → injected_of (take n source) ++ item ∷ [] ≡ injected_of (take (n + 1) source)
injected-more [] n item e = absurd cc
injected-more (l ∷ ls) zero item e = ap (λ x. x ∷ []) (some_same e)
  where
    some_same : Some (record_of l.item) ≡ Some item → item ≡ record_of l.item
    some_same e = cc
injected-more (l ∷ ls) (suc n) item e =
    let same : suc (n + 1) ≡ suc n + 1 = omega arith in
    ap (λ x. record_of l.item ∷ x) (injected-more ls n item e) ∙ ap (λ k. injected_of (take k (l ∷ ls))) same

-- a source at a place
pub source-there : (sources : List Source) (n : ℕ) (x : Source) → n < length sources → x ≡ get_or sources n x
    → unwrap_or (slice_get sources n) [] ≡ x
source-there [] n x less is = absurd (omega (arith, less))
source-there (y ∷ ys) zero x less is = sym is
source-there (y ∷ ys) (suc n) x less is = source-there ys n x (omega (arith, less)) is

-- an element that is there does not depend on what stands for none
pub at-any : {X : Type 0} (xs : List X) (n : ℕ) (d e : X) → n < length xs → get_or xs n d ≡ get_or xs n e
at-any [] n d e less = absurd (omega (arith, less))
at-any (y ∷ ys) zero d e less = refl
at-any (y ∷ ys) (suc n) d e less = at-any ys n d e (omega (arith, less))
