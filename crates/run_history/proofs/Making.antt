-- One step of a loop that makes something of each element, where the invariant speaks of the elements that are left.
use Rattle.std.proofs.Common.{◌≡◌, ℕ, ◌+◌, ◌<◌, ◌≤◌, List, [], ◌∷◌, ◌++◌, length, get_or, drop, map, filter, sum_by, nat_eq, sym, ◌∙◌, ap, append_assoc, arith, length-append}
use Rattle.std.specs.List.{flat_map, enumerate_from}
use Rattle.std.specs.Cmp.Lexicographic.{pointwise}
use Rattle.std.proofs.lemmas.List.{at_drop_more, at_drop_all, map-append, length-map, append-nil}
use Rattle.std.proofs.lemmas.List.Folds.{flat_map-map}
use Rattle.std.proofs.lemmas.List.FromFn.{length-enumerate_from}
use Rattle.std.proofs.lemmas.List.Sums.{sum_by-cons, length-filter, count_by-le-length}
use Rattle.topology.specs.Shapes.{ComputationShape, Reading, subscriptions_to}

-- the numbering goes on behind the first list
pub enumerate_from-append : {X : Type 0} (n : ℕ) (xs ys : List X)
    → enumerate_from n (xs ++ ys) ≡ enumerate_from n xs ++ enumerate_from (n + length xs) ys
enumerate_from-append n [] ys = ap (λ m. enumerate_from m ys) (omega arith)
enumerate_from-append n (x ∷ xs) ys =
    let next : n + 1 + length xs ≡ n + length (x ∷ xs) = omega arith in
    ap (λ l. (n, x) ∷ l) (enumerate_from-append (n + 1) xs ys ∙ ap (λ m. enumerate_from (n + 1) xs ++ enumerate_from m ys) next)

-- one more element, which gives a list of numbered elements
pub many_step : {X Y Z : Type 0} (f : ℕ × Z → Y) (h : X → List Z) (xs : List X) (i n m : ℕ) (x : X) (done all : List Y)
    → i < length xs → x ≡ get_or xs i x → m ≡ n + length (h x)
    → done ++ map f (enumerate_from n (flat_map h (drop i xs))) ≡ all
    → (done ++ map f (enumerate_from n (h x))) ++ map f (enumerate_from m (flat_map h (drop (i + 1) xs))) ≡ all
many_step f h xs i n m x done all within is next left =
    let rest = flat_map h (drop (i + 1) xs) in
    append_assoc done _ _
    ∙ ap (λ k. done ++ (map f (enumerate_from n (h x)) ++ map f (enumerate_from k rest))) next
    ∙ sym (ap (λ l. done ++ l) (ap (map f) (enumerate_from-append n (h x) rest) ∙ map-append f (enumerate_from n (h x)) _))
    ∙ ap (λ y. done ++ map f (enumerate_from n (h y ++ rest))) is
    ∙ sym (ap (λ l. done ++ l) (at_drop_more (λ l. map f (enumerate_from n (flat_map h l))) xs i x within))
    ∙ left

-- how long a numbered list is
pub length-numbered : {X Y : Type 0} (f : ℕ × X → Y) (n : ℕ) (xs : List X) → length (map f (enumerate_from n xs)) ≡ length xs
length-numbered f n xs = length-map (enumerate_from n xs) f ∙ length-enumerate_from n xs

-- how long a list is, once a numbered list is appended
pub length_sent : {X Y : Type 0} (f : ℕ × X → Y) (n : ℕ) (xs : List X) (done new : List Y) → new ≡ done ++ map f (enumerate_from n xs)
    → length new ≡ length done + length xs
length_sent f n xs done new sent =
    ap length sent ∙ length-append done (map f (enumerate_from n xs)) ∙ ap (λ k. length done + k) (length-numbered f n xs)

-- one more element, whose list is numbered on from what is there
pub sent_step : {X Y Z : Type 0} (f : ℕ × Z → Y) (h : X → List Z) (xs : List X) (i : ℕ) (x : X) (done new all : List Y)
    → i < length xs → x ≡ get_or xs i x → new ≡ done ++ map f (enumerate_from (length done) (h x))
    → done ++ map f (enumerate_from (length done) (flat_map h (drop i xs))) ≡ all
    → new ++ map f (enumerate_from (length new) (flat_map h (drop (i + 1) xs))) ≡ all
sent_step f h xs i x done new all within is sent left =
    ap (λ l. l ++ map f (enumerate_from (length new) (flat_map h (drop (i + 1) xs)))) sent
    ∙ many_step f h xs i (length done) (length new) x done all within is (length_sent f (length done) (h x) done new sent) left

-- no element is left
pub sent_all : {W X Y Z : Type 0} (f : ℕ × Z → Y) (g : W → List Z) (v : X → W) (xs : List X) (i : ℕ) (done : List Y) → length xs ≤ i
    → done ++ map f (enumerate_from (length done) (flat_map (λ x. g (v x)) (drop i xs))) ≡ map f
    (enumerate_from 0 (flat_map (λ x. g (v x)) xs))
    → done ≡ map f (enumerate_from 0 (flat_map g (map v xs)))
sent_all f g v xs i done over left =
    sym (append-nil done)
    ∙ sym (at_drop_all (λ l. done ++ map f (enumerate_from (length done) (flat_map (λ x. g (v x)) l))) xs i over)
    ∙ left
    ∙ sym (ap (λ l. map f (enumerate_from 0 l)) (flat_map-map g v xs))

-- a computation subscribes no more often than it reads
subscriptions_few : (stream : List ℕ) (n : ℕ) (c : ComputationShape) → length (subscriptions_to stream (n, c)) ≤ length c.reads
subscriptions_few stream n c =
    let test = λ (r : Reading). pointwise nat_eq r.stream stream in
    let subscribed : length (subscriptions_to stream (n, c)) ≡ length (filter test c.reads) = length-map (filter test c.reads)
    (λ (r : Reading). record { to = n; by = r.by }) in
    omega (arith, subscribed, length-filter test c.reads, count_by-le-length test c.reads)

-- no stream has more consumers than there are readings
pub consumers_few : (stream : List ℕ) (n : ℕ) (cs : List ComputationShape)
    → length (flat_map (subscriptions_to stream) (enumerate_from n cs)) ≤ sum_by (λ (c : ComputationShape). length c.reads) cs
consumers_few stream n [] = omega arith
consumers_few stream n (c ∷ cs) =
    let rest = flat_map (subscriptions_to stream) (enumerate_from (n + 1) cs) in
    let all : length (flat_map (subscriptions_to stream) (enumerate_from n (c ∷ cs))) ≡ length
    (subscriptions_to stream (n, c)) + length rest =
    length-append (subscriptions_to stream (n, c)) rest in
    let total : sum_by (λ (d : ComputationShape). length d.reads) (c ∷ cs) ≡ length c.reads + sum_by
    (λ (d : ComputationShape). length d.reads) cs =
    sum_by-cons (λ (d : ComputationShape). length d.reads) c cs in
    omega (arith, all, total, subscriptions_few stream n c, consumers_few stream (n + 1) cs)
