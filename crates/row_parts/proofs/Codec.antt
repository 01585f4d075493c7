-- Reading gives back what is spelled, and reads nothing else: the law, and how it carries over to larger values.
use Rattle.std.proofs.Common.{◌≡◌, ℕ, zero, suc, ◌+◌, ◌^◌, ◌<◌, ◌≤◌, Bool, true, false, cond, ltb, List, [], ◌∷◌, ◌++◌, length, get_or, take, drop, Option, Some, None, refl, sym, ap, subst, ◌∙◌, append_assoc, arith, inl, inr}
use Rattle.std.specs.Prelude.{⊤}
use Rattle.std.specs.Bool.{Decides}
use Rattle.std.specs.List.{AllByRecursion, flat_map}
use Rattle.std.specs.List.Sorted.{IsStrictlySortedBy}
use Rattle.std.specs.Cmp.{IsTotalOrder}
use Rattle.std.specs.declared.cmp.Ordering.{Ordering}
use Rattle.std.specs.Int.{Width, w16, w32, w64, byte_len, from_be_bytes, to_be_bytes}
use Rattle.std.proofs.lemmas.Bool.{cases_lt, ltb-false, le-ltb}
use Rattle.std.proofs.lemmas.List.{append-nil, take_at, drop_at, take-append-drop, length-append, length-take, get_or-drop, get_or-take, get_or_past}
use Rattle.std.proofs.lemmas.Nat.{be_bytes_2, be_bytes_4, be_bytes_8, from_be_bytes-to_be_bytes_2, from_be_bytes-to_be_bytes_4, from_be_bytes-to_be_bytes_8}
use Rattle.list_lemmas.proofs.Lists.{some_same}
use Rattle.row_parts.specs.Spelling.{list_spelling}
use Rattle.row_parts.specs.Reading.{◌>>=◌, keep, number_at, times_at, list_at, ascends, ascending_at}
use Rattle.row_parts.proofs.Ascending.{ascends_decides}

abbrev pub IsBytes : List ℕ → Type 0
IsBytes bytes = (i : ℕ) → get_or bytes i 0 < 256

pub IsBytes-drop : (n : ℕ) (bytes : List ℕ) → IsBytes bytes → IsBytes (drop n bytes)
IsBytes-drop n bytes h i = rw get_or-drop (h (n + i))

IsBytes-take : (n : ℕ) (bytes : List ℕ) → IsBytes bytes → IsBytes (take n bytes)
IsBytes-take n bytes h i =
    elim (cases_lt i n) [
      | inl lt ↦ rw (get_or-take n bytes i 0 lt) (h i)
      | inr le ↦ rw (get_or_past (take n bytes) i 0 (omega (arith, length-take n bytes))) (omega arith)
    ]

-- the value of a step that gave one
pub bind_some : {A B : Type 0} (o : Option A) (f : A → Option B) (y : B) → (o >>= f) ≡ Some y → (x : A) × (o ≡ Some x) × (f x ≡ Some y)
bind_some (Some x) f y e = (x, refl, e)
bind_some None f y e = absurd cc

-- two steps after a first one may be taken as one
pub bind_assoc : {A B C : Type 0} (o : Option A) (f : A → Option B) (g : B → Option C) → ((o >>= f) >>= g) ≡ (o >>= (λ x. f x >>= g))
bind_assoc (Some x) f g = refl
bind_assoc None f g = refl

-- the same after a step where it is the same of each value
pub bind_same : {A B : Type 0} (o : Option A) (f g : A → Option B) → ((x : A) → f x ≡ g x) → (o >>= f) ≡ (o >>= g)
bind_same (Some x) f g same = same x
bind_same None f g same = refl

-- a test that did not fail
pub guard_some : {A : Type 0} (b : Bool) (x y : A) → cond b None (Some x) ≡ Some y → (b ≡ false) × (x ≡ y)
guard_some true x y e = absurd cc
guard_some false x y e = (refl, cc)

-- a test that passed
pub keep_some : {A : Type 0} (b : Bool) (x y : A) → keep b x ≡ Some y → (b ≡ true) × (x ≡ y)
keep_some true x y e = (refl, cc)
keep_some false x y e = absurd cc

-- what is read is spelled so and fits, and what fits is read from its spelling
pub record Reads {X : Type 0} (spelling : X → List ℕ) (Fits : X → Type 0) (read : List ℕ → Option (X × List ℕ)) : Type 0 where
  pub takes : (bytes : List ℕ) (x : X × List ℕ) → IsBytes bytes → read bytes ≡ Some x
      → (bytes ≡ spelling x.0 ++ x.1) × IsBytes x.1 × Fits x.0
  pub again : (x : X) (rest : List ℕ) → Fits x → read (spelling x ++ rest) ≡ Some (x, rest)

-- the same reader, spelling and premise in other words
pub as_read : {X : Type 0} {spelling spelling' : X → List ℕ} {Fits Fits' : X → Type 0} {read : List ℕ → Option (X × List ℕ)}
    (read' : List ℕ → Option (X × List ℕ))
    → ((bytes : List ℕ) → read' bytes ≡ read bytes) → ((x : X) → spelling' x ≡ spelling x) → ((x : X) → Fits' x → Fits x)
    → ((x : X) → Fits x → Fits' x) → Reads spelling Fits read → Reads spelling' Fits' read'
as_read read' same spelled to from reads = record {
  takes = λ bytes x fits e.
      let t = reads.takes bytes x fits (sym (same bytes) ∙ e) in
      (t.0 ∙ ap (λ (l : List ℕ). l ++ x.1) (sym (spelled x.0)), t.1, from x.0 t.2);
  again = λ x rest fits. same _ ∙ rw (spelled x) (reads.again x rest (to x fits));
}

-- ---- numbers

pub record IsWide (w : Width) (limit : ℕ) : Type 0 where
  pub len : (n : ℕ) → length (to_be_bytes w n) ≡ byte_len w
  pub back : (bytes : List ℕ) → length bytes ≡ byte_len w → IsBytes bytes → to_be_bytes w (from_be_bytes w bytes) ≡ bytes
  pub again : (n : ℕ) → n < limit → from_be_bytes w (to_be_bytes w n) ≡ n
  pub below : (bytes : List ℕ) → IsBytes bytes → from_be_bytes w bytes < limit

pub wide16 : IsWide w16 (2 ^ 16)
wide16 = record {
  len = λ n. refl;
  back = λ bytes len fits. be_bytes_2 bytes _ len fits refl;
  again = λ n lt. from_be_bytes-to_be_bytes_2 n lt;
  below = λ bytes fits. omega (arith, fits 0, fits 1);
}

pub wide32 : IsWide w32 (2 ^ 32)
wide32 = record {
  len = λ n. refl;
  back = λ bytes len fits. be_bytes_4 bytes _ len fits refl;
  again = λ n lt. from_be_bytes-to_be_bytes_4 n lt;
  below = λ bytes fits. omega (arith, fits 0, fits 1, fits 2, fits 3);
}

pub wide64 : IsWide w64 (2 ^ 64)
wide64 = record {
  len = λ n. refl;
  back = λ bytes len fits. be_bytes_8 bytes _ len fits refl;
  again = λ n lt. from_be_bytes-to_be_bytes_8 n lt;
  below = λ bytes fits. omega (arith, fits 0, fits 1, fits 2, fits 3, fits 4, fits 5, fits 6, fits 7);
}

-- a number
pub number_reads : (w : Width) (limit : ℕ) → IsWide w limit → Reads (to_be_bytes w) (λ n. n < limit) (number_at w)
number_reads w limit wide = record {
  takes = λ bytes x fits e.
      let g = guard_some (ltb (length bytes) (byte_len w)) (from_be_bytes w (take (byte_len w) bytes), drop (byte_len w) bytes) x e in
      let long : byte_len w ≤ length bytes = ltb-false _ _ g.0 in
      let len : length (take (byte_len w) bytes) ≡ byte_len w = omega (arith, length-take (byte_len w) bytes) in
      let front : IsBytes (take (byte_len w) bytes) = IsBytes-take (byte_len w) bytes fits in
      let whole : bytes ≡ to_be_bytes w (from_be_bytes w (take (byte_len w) bytes)) ++ drop (byte_len w) bytes =
      sym (take-append-drop (byte_len w) bytes) ∙ ap (λ (l : List ℕ). l ++ drop (byte_len w) bytes)
      (sym (wide.back (take (byte_len w) bytes) len front)) in
      subst (λ (y : ℕ × List ℕ). (bytes ≡ to_be_bytes w y.0 ++ y.1) × IsBytes y.1 × (y.0 < limit)) g.1
      (whole, IsBytes-drop (byte_len w) bytes fits, wide.below (take (byte_len w) bytes) front);
  again = λ n rest lt.
      let len = wide.len n in
      let long : ltb (length (to_be_bytes w n ++ rest)) (byte_len w) ≡ false = le-ltb _ _
      (omega (arith, length-append (to_be_bytes w n) rest)) in
      rw (long, take_at (to_be_bytes w n) rest (byte_len w) len, drop_at (to_be_bytes w n) rest (byte_len w) len, wide.again n lt) refl;
}

-- ---- one value after another

-- nothing, at the end
abbrev pub nothing_at : List ℕ → Option (⊤ × List ℕ)
nothing_at bytes = Some (tt, bytes)

pub nothing_reads : Reads (λ (x : ⊤). []) (λ x. ⊤) nothing_at
nothing_reads = record {
  takes = λ bytes x fits e. subst (λ (y : ⊤ × List ℕ). (bytes ≡ [] ++ y.1) × IsBytes y.1 × ⊤) (some_same (tt, bytes) x e) (refl, fits, tt);
  again = λ x rest fits. refl;
}

abbrev pub paired : {X Y : Type 0} → Option (X × List ℕ) → (List ℕ → Option (Y × List ℕ)) → Option ((X × Y) × List ℕ)
paired o q = o >>= λ a. q a.1 >>= λ b. Some ((a.0, b.0), b.1)

abbrev pub pair_at : {X Y : Type 0} → (List ℕ → Option (X × List ℕ)) → (List ℕ → Option (Y × List ℕ)) → List ℕ → Option ((X × Y) × List ℕ)
pair_at r q bytes = paired (r bytes) q

-- two values, one after the other
pub pair_reads : {X Y : Type 0} {s : X → List ℕ} {t : Y → List ℕ} {F : X → Type 0} {G : Y → Type 0} (r : List ℕ → Option (X × List ℕ))
    (q : List ℕ → Option (Y × List ℕ))
    → Reads s F r → Reads t G q → Reads (λ (p : X × Y). s p.0 ++ t p.1) (λ p. F p.0 × G p.1) (pair_at r q)
pair_reads {X} {Y} {s} {t} {F} {G} r q one two = record {
  takes = λ bytes x fits e.
      let a = bind_some (r bytes) (λ a. q a.1 >>= λ b. Some ((a.0, b.0), b.1)) x e in
      let b = bind_some (q a.0.1) (λ b. Some ((a.0.0, b.0), b.1)) x a.2 in
      let t1 = one.takes bytes a.0 fits a.1 in
      let t2 = two.takes a.0.1 b.0 t1.1 b.1 in
      let whole : bytes ≡ (s a.0.0 ++ t b.0.0) ++ b.0.1 = t1.0 ∙ ap (λ (l : List ℕ). s a.0.0 ++ l) t2.0
      ∙ sym (append_assoc (s a.0.0) (t b.0.0) b.0.1) in
      subst (λ (y : (X × Y) × List ℕ). (bytes ≡ (s y.0.0 ++ t y.0.1) ++ y.1) × IsBytes y.1 × (F y.0.0 × G y.0.1))
      (some_same ((a.0.0, b.0.0), b.0.1) x b.2) (whole, t2.1, (t1.2, t2.2));
  again = λ p rest fits.
      ap (pair_at r q) (append_assoc (s p.0) (t p.1) rest) ∙ rw (one.again p.0 (t p.1 ++ rest) fits.0, two.again p.1 rest fits.1) refl;
}

-- a value that is made of what was read, where a test of it passes
pub made_reads : {X Z : Type 0} {s : X → List ℕ} {F : X → Type 0} (r : List ℕ → Option (X × List ℕ)) (test : X → Bool) (Q : X → Type 0)
    → ((x : X) → Decides (test x) (Q x))
    → (to : X → Z) (from : Z → X) → ((z : Z) → to (from z) ≡ z) → ((x : X) → from (to x) ≡ x)
    → Reads s F r → Reads (λ z. s (from z)) (λ z. F (from z) × Q (from z)) (λ bytes. r bytes >>= λ x. keep (test x.0) (to x.0, x.1))
made_reads {X} {Z} {s} {F} r test Q decides to from there back reads = record {
  takes = λ bytes z fits e.
      let a = bind_some (r bytes) (λ x. keep (test x.0) (to x.0, x.1)) z e in
      let k = keep_some (test a.0.0) (to a.0.0, a.0.1) z a.2 in
      let t = reads.takes bytes a.0 fits a.1 in
      let is : a.0.0 ≡ from z.0 = sym (back a.0.0) ∙ ap (λ (y : Z × List ℕ). from y.0) k.1 in
      let rest : a.0.1 ≡ z.1 = ap (λ (y : Z × List ℕ). y.1) k.1 in
      let q : Q a.0.0 = (decides a.0.0).0 k.0 in (
        t.0 ∙ ap (λ (x : X). s x ++ a.0.1) is ∙ ap (λ (l : List ℕ). s (from z.0) ++ l) rest,
        subst IsBytes rest t.1,
        (subst F is t.2, subst Q is q),
      );
  again = λ z rest fits.
      let passes : test (from z) ≡ true = (decides (from z)).1 fits.1 in
      rw (reads.again (from z) rest fits.0, passes, there z) refl;
}

by_cases : {A B : Type 0} (o : Option A) (f g : A → Option B) → ((a : A) → f a ≡ g a) → (o >>= f) ≡ (o >>= g)
by_cases None f g h = refl
by_cases (Some a) f g h = h a

abbrev behind : {X Y : Type 0} → X → Option (Y × List ℕ) → Option ((X × Y) × List ℕ)
behind x o = o >>= λ b. Some ((x, b.0), b.1)

bind_behind : {X Y W : Type 0} (x : X) (o : Option (Y × List ℕ)) (k : X × Y → List ℕ → Option W)
    → (o >>= λ b. k (x, b.0) b.1) ≡ (behind x o >>= λ p. k p.0 p.1)
bind_behind x None k = refl
bind_behind x (Some b) k = refl

bind_pair : {X Y W : Type 0} (o : Option (X × List ℕ)) (q : List ℕ → Option (Y × List ℕ)) (k : X × Y → List ℕ → Option W)
    → (o >>= λ a. q a.1 >>= λ b. k (a.0, b.0) b.1) ≡ (paired o q >>= λ p. k p.0 p.1)
bind_pair None q k = refl
bind_pair (Some a) q k = bind_behind a.0 (q a.1) k

-- a field, and the fields behind it
pub more : {X Y W : Type 0} (r : List ℕ → Option (X × List ℕ)) (q : List ℕ → Option (Y × List ℕ)) (bytes : List ℕ)
    (k : X × Y → List ℕ → Option W) (f : X × List ℕ → Option W)
    → ((a : X × List ℕ) → f a ≡ (q a.1 >>= λ b. k (a.0, b.0) b.1)) → (r bytes >>= f) ≡ (pair_at r q bytes >>= λ p. k p.0 p.1)
more r q bytes k f inner = by_cases (r bytes) f (λ a. q a.1 >>= λ b. k (a.0, b.0) b.1) inner ∙ bind_pair (r bytes) q k

-- ---- lists

times_take : {X : Type 0} {s : X → List ℕ} {F : X → Type 0} (r : List ℕ → Option (X × List ℕ)) → Reads s F r
    → (n : ℕ) (bytes : List ℕ) (x : List X × List ℕ) → IsBytes bytes → times_at r n bytes ≡ Some x
    → (bytes ≡ flat_map s x.0 ++ x.1) × IsBytes x.1 × (length x.0 ≡ n) × AllByRecursion F x.0
unfolding times_at
times_take {X} {s} {F} r reads zero bytes x fits e =
    subst (λ (y : List X × List ℕ). (bytes ≡ flat_map s y.0 ++ y.1) × IsBytes y.1 × (length y.0 ≡ 0) × AllByRecursion F y.0)
    (some_same ([], bytes) x e) (refl, fits, refl, tt)
times_take {X} {s} {F} r reads (suc n) bytes x fits e =
    let a = bind_some (r bytes) (λ first. times_at r n first.1 >>= λ others. Some (first.0 ∷ others.0, others.1)) x e in
    let b = bind_some (times_at r n a.0.1) (λ others. Some (a.0.0 ∷ others.0, others.1)) x a.2 in
    let first = reads.takes bytes a.0 fits a.1 in
    let others = times_take r reads n a.0.1 b.0 first.1 b.1 in
    let made : List X × List ℕ = (a.0.0 ∷ b.0.0, b.0.1) in
    let whole : bytes ≡ (s a.0.0 ++ flat_map s b.0.0) ++ b.0.1 = first.0 ∙ ap (λ (l : List ℕ). s a.0.0 ++ l) others.0
    ∙ sym (append_assoc (s a.0.0) (flat_map s b.0.0) b.0.1) in
    subst (λ (y : List X × List ℕ). (bytes ≡ flat_map s y.0 ++ y.1) × IsBytes y.1 × (length y.0 ≡ suc n) × AllByRecursion F y.0)
    (some_same made x b.2) (whole, others.1, ap suc others.2, (first.2, others.3))

times_again : {X : Type 0} {s : X → List ℕ} {F : X → Type 0} (r : List ℕ → Option (X × List ℕ)) → Reads s F r
    → (xs : List X) (rest : List ℕ) → AllByRecursion F xs → times_at r (length xs) (flat_map s xs ++ rest) ≡ Some (xs, rest)
unfolding times_at
times_again r reads [] rest fits = refl
times_again {X} {s} {F} r reads (x ∷ xs) rest fits =
    ap (times_at r (suc (length xs))) (append_assoc (s x) (flat_map s xs) rest)
    ∙ rw (reads.again x (flat_map s xs ++ rest) fits.0, times_again r reads xs rest fits.1) refl

-- a list
pub list_reads : {X : Type 0} {s : X → List ℕ} {F : X → Type 0} (r : List ℕ → Option (X × List ℕ)) → Reads s F r
    → Reads (list_spelling s) (λ xs. (length xs < 2 ^ 32) × AllByRecursion F xs) (list_at r)
unfolding list_at
list_reads {X} {s} {F} r reads = record {
  takes = λ bytes x fits e.
      let a = bind_some (number_at w32 bytes) (λ count. times_at r count.0 count.1) x e in
      let n = (number_reads w32 (2 ^ 32) wide32).takes bytes a.0 fits a.1 in
      let xs = times_take r reads a.0.0 a.0.1 x n.1 a.2 in
      let tail : bytes ≡ to_be_bytes w32 a.0.0 ++ ((flat_map s x.0 ++ []) ++ x.1) = n.0
      ∙ ap (λ (l : List ℕ). to_be_bytes w32 a.0.0 ++ l) (xs.0 ∙ ap (λ (l : List ℕ). l ++ x.1) (sym (append-nil (flat_map s x.0)))) in
      let counted : bytes ≡ to_be_bytes w32 (length x.0) ++ ((flat_map s x.0 ++ []) ++ x.1) = subst
      (λ (k : ℕ). bytes ≡ to_be_bytes w32 k ++ ((flat_map s x.0 ++ []) ++ x.1)) (sym xs.2) tail in
      (counted ∙ sym (append_assoc (to_be_bytes w32 (length x.0)) (flat_map s x.0 ++ []) x.1), xs.1, (omega (arith, xs.2, n.2), xs.3));
  again = λ xs rest fits.
      let regrouped : list_spelling s xs ++ rest ≡ to_be_bytes w32 (length xs) ++ (flat_map s xs ++ rest) =
      append_assoc (to_be_bytes w32 (length xs)) (flat_map s xs ++ []) rest
      ∙ ap (λ (l : List ℕ). to_be_bytes w32 (length xs) ++ (l ++ rest)) (append-nil (flat_map s xs)) in
      ap (list_at r) regrouped ∙ rw ((number_reads w32 (2 ^ 32) wide32).again (length xs) (flat_map s xs ++ rest) fits.0)
      (times_again r reads xs rest fits.1);
}

-- a list in strict order
pub ascending_reads : {X : Type 0} {cmp : X → X → Ordering} → IsTotalOrder cmp
    → {s : X → List ℕ} {F : X → Type 0} (r : List ℕ → Option (X × List ℕ)) → Reads s F r
    → Reads (list_spelling s) (λ xs. ((length xs < 2 ^ 32) × AllByRecursion F xs) × IsStrictlySortedBy cmp xs) (ascending_at cmp r)
unfolding ascending_at
ascending_reads {X} {cmp} o {s} {F} r reads =
    made_reads (list_at r) (ascends cmp) (IsStrictlySortedBy cmp) (ascends_decides o) (λ (xs : List X). xs) (λ (xs : List X). xs)
    (λ xs. refl) (λ xs. refl) (list_reads r reads)
