-- The law of reading for states.
use Rattle.std.proofs.Common.{◌≡◌, ℕ, ℤ, zero, suc, ◌^◌, ◌<◌, ◌≤◌, Bool, true, ◌&&◌, List, [], ◌∷◌, ◌++◌, length, FitsSigned, eqb, Option, Some, Result, Ok, Err, refl, sym, ap, subst, ◌∙◌, arith}
use Rattle.std.specs.Prelude.{⊤, map, All, nat_le, IfOk, IsErrOf, MatchResult}
use Rattle.std.specs.Bool.{Decides}
use Rattle.std.specs.List.{AllByRecursion}
use Rattle.std.specs.List.Sorted.{IsStrictlySortedBy}
use Rattle.std.specs.Ordering.{nat_cmp, on}
use Rattle.std.specs.declared.cmp.Ordering.TheVariants.{Less}
use Rattle.std.specs.Int.{w32, w64, to_be_bytes}
use Rattle.std.proofs.lemmas.Bool.{eqb-true}
use Rattle.std.proofs.lemmas.List.{append-nil, nil_from_length}
use Rattle.std.proofs.lemmas.List.Elements.{All-from_recursion, recursion_from_All}
use Rattle.list_lemmas.proofs.Lists.{some_same, each-both}
use Rattle.mw_types.specs.declared.TheConstants.{MAX_STAMP}
use Rattle.mw_types.specs.declared.state.Window.{Window}
use Rattle.mw_types.specs.declared.state.HeldTotal.{HeldTotal}
use Rattle.mw_types.specs.declared.state.State.{State}
use Rattle.mw_types.specs.declared.state.State.TheVariants.{Injector, Count, Spike, Pass}
use Rattle.mw_types.specs.Bounds.{AreWindows, AreHeld}
use Rattle.row_parts.specs.declared.refusal.StateRefusal.{StateRefusal}
use Rattle.row_parts.specs.declared.refusal.StateRefusal.TheVariants as refusals
use Rattle.row_parts.specs.Orders.{window_cmp, held_cmp, window_cmp-total, held_cmp-total}
use Rattle.row_parts.specs.Spelling.{signed_spelling, window_spelling, held_spelling, list_spelling, state_spelling, IsSpelledState}
use Rattle.row_parts.specs.Reading.{◌>>=◌, keep, Gives, number_at, signed_at, window_at, held_at, list_at, ascending_at, injector_at, count_at, spike_at, pass_at, state_of, state_at, whole_state}
use Rattle.row_parts.proofs.Codec.{IsBytes, bind_some, keep_some, Reads, nothing_at, nothing_reads, pair_at, pair_reads, more, list_reads, ascending_reads}
use Rattle.row_parts.proofs.PartLaws.{u32_reads, u64_reads, signed_reads, window_reads, held_reads, always, at_most, both}

-- ---- lists of a state

-- what holds of each element, by recursion
pub weaker : {X : Type 0} {P Q : X → Type 0} → ((x : X) → P x → Q x) → (xs : List X) → AllByRecursion P xs → AllByRecursion Q xs
weaker f [] all = tt
weaker f (x ∷ xs) all = (f x all.0, weaker f xs all.1)

heads : {X : Type 0} (f : X → ℕ) (x : X) (xs : List X) → AllByRecursion (λ y. on f nat_cmp x y ≡ Less) xs
    → AllByRecursion (λ n. nat_cmp (f x) n ≡ Less) (map f xs)
heads f x [] all = tt
heads f x (y ∷ ys) all = (all.0, heads f x ys all.1)

heads_back : {X : Type 0} (f : X → ℕ) (x : X) (xs : List X) → AllByRecursion (λ n. nat_cmp (f x) n ≡ Less) (map f xs)
    → AllByRecursion (λ y. on f nat_cmp x y ≡ Less) xs
heads_back f x [] all = tt
heads_back f x (y ∷ ys) all = (all.0, heads_back f x ys all.1)

sorted_keys : {X : Type 0} (f : X → ℕ) (xs : List X) → IsStrictlySortedBy (on f nat_cmp) xs → IsStrictlySortedBy nat_cmp (map f xs)
unfolding IsStrictlySortedBy
sorted_keys f [] s = tt
sorted_keys f (x ∷ xs) s = (heads f x xs s.0, sorted_keys f xs s.1)

sorted_by_keys : {X : Type 0} (f : X → ℕ) (xs : List X) → IsStrictlySortedBy nat_cmp (map f xs) → IsStrictlySortedBy (on f nat_cmp) xs
unfolding IsStrictlySortedBy
sorted_by_keys f [] s = tt
sorted_by_keys f (x ∷ xs) s = (heads_back f x xs s.0, sorted_by_keys f xs s.1)

abbrev InWindow : Window → Type 0
InWindow w = (w.end ≤ MAX_STAMP) × (w.count ≤ MAX_STAMP)

abbrev ReadWindows : List Window → Type 0
ReadWindows ws = ((length ws < 2 ^ 32) × AllByRecursion InWindow ws) × IsStrictlySortedBy window_cmp ws

windows_are : (ws : List Window) → ReadWindows ws → AreWindows ws
windows_are ws f = record {
  ascending = sorted_keys (λ (w : Window). w.end) ws f.1;
  ends = All-from_recursion (λ (w : Window). w.end ≤ MAX_STAMP) ws (weaker (λ w h. h.0) ws f.0.1);
  counts = All-from_recursion (λ (w : Window). w.count ≤ MAX_STAMP) ws (weaker (λ w h. h.1) ws f.0.1);
  few = f.0.0;
}

windows_read : (ws : List Window) → AreWindows ws → ReadWindows ws
windows_read ws are = (
  (
    are.few,
    each-both _ _ ws (recursion_from_All (λ (w : Window). w.end ≤ MAX_STAMP) ws are.ends)
        (recursion_from_All (λ (w : Window). w.count ≤ MAX_STAMP) ws are.counts),
  ),
  sorted_by_keys (λ (w : Window). w.end) ws are.ascending,
)

abbrev InHeld : HeldTotal → Type 0
InHeld h = (h.stamp ≤ MAX_STAMP) × FitsSigned w64 h.value

abbrev ReadHeld : List HeldTotal → Type 0
ReadHeld hs = ((length hs < 2 ^ 32) × AllByRecursion InHeld hs) × IsStrictlySortedBy held_cmp hs

held_are : (hs : List HeldTotal) → ReadHeld hs → AreHeld hs × All (λ (h : HeldTotal). FitsSigned w64 h.value) hs
held_are hs f = (
  record {
    ascending = sorted_keys (λ (h : HeldTotal). h.stamp) hs f.1;
    stamps = All-from_recursion (λ (h : HeldTotal). h.stamp ≤ MAX_STAMP) hs (weaker (λ h p. p.0) hs f.0.1);
    few = f.0.0;
  },
  All-from_recursion (λ (h : HeldTotal). FitsSigned w64 h.value) hs (weaker (λ h p. p.1) hs f.0.1),
)

held_read : (hs : List HeldTotal) → AreHeld hs → All (λ (h : HeldTotal). FitsSigned w64 h.value) hs → ReadHeld hs
held_read hs are values = (
  (
    are.few,
    each-both _ _ hs (recursion_from_All (λ (h : HeldTotal). h.stamp ≤ MAX_STAMP) hs are.stamps)
        (recursion_from_All (λ (h : HeldTotal). FitsSigned w64 h.value) hs values),
  ),
  sorted_by_keys (λ (h : HeldTotal). h.stamp) hs are.ascending,
)

-- ---- each kind

-- what reading takes for a state of one kind, behind the byte that tells it
takes_kind : {X : Type 0} {s : X → List ℕ} {F : X → Type 0} (r : List ℕ → Option (X × List ℕ)) (test : X → Bool) (Q : X → Type 0)
    → ((x : X) → Decides (test x) (Q x)) → (to : X → State) → Reads s F r
    → (kind : ℕ) → ((x : X) → state_spelling (to x) ≡ kind ∷ s x) → ((x : X) → F x → Q x → IsSpelledState (to x))
    → (bytes : List ℕ) (z : State × List ℕ) → IsBytes bytes → (r bytes >>= λ x. keep (test x.0) (to x.0, x.1)) ≡ Some z
    → (kind ∷ bytes ≡ state_spelling z.0 ++ z.1) × IsBytes z.1 × IsSpelledState z.0
takes_kind {X} {s} {F} r test Q decides to reads kind spelled fits bytes z are e =
    let a = bind_some (r bytes) (λ x. keep (test x.0) (to x.0, x.1)) z e in
    let k = keep_some (test a.0.0) (to a.0.0, a.0.1) z a.2 in
    let t = reads.takes bytes a.0 are a.1 in
    let whole : kind ∷ bytes ≡ state_spelling (to a.0.0) ++ a.0.1 = ap (λ (l : List ℕ). kind ∷ l) t.0
    ∙ ap (λ (l : List ℕ). l ++ a.0.1) (sym (spelled a.0.0)) in
    subst (λ (y : State × List ℕ). (kind ∷ bytes ≡ state_spelling y.0 ++ y.1) × IsBytes y.1 × IsSpelledState y.0) k.1
    (whole, t.1, fits a.0.0 t.2 ((decides a.0.0).0 k.0))

abbrev kept : {X : Type 0} → (X → Bool) → (X → State) → X × List ℕ → Option (State × List ℕ)
kept test to y = keep (test y.0) (to y.0, y.1)

-- what reading gives for a state of one kind
again_kind : {X : Type 0} {s : X → List ℕ} {F : X → Type 0} (r : List ℕ → Option (X × List ℕ)) (test : X → Bool) (Q : X → Type 0)
    → ((x : X) → Decides (test x) (Q x)) → (to : X → State) → Reads s F r
    → (x : X) (rest : List ℕ) → F x → Q x → (r (s x ++ rest) >>= kept test to) ≡ Some (to x, rest)
again_kind r test Q decides to reads x rest fits q = rw (reads.again x rest fits, (decides x).1 q) refl

abbrev injector_parts : List ℕ → Option ((ℕ × ⊤) × List ℕ)
injector_parts = pair_at (number_at w32) nothing_at

abbrev count_parts : List ℕ → Option ((ℕ × (List Window × ⊤)) × List ℕ)
count_parts = pair_at (number_at w64) (pair_at (ascending_at window_cmp window_at) nothing_at)

abbrev spike_parts : List ℕ → Option ((ℕ × (List HeldTotal × (List ℤ × ⊤))) × List ℕ)
spike_parts = pair_at (number_at w64) (pair_at (ascending_at held_cmp held_at) (pair_at (list_at signed_at) nothing_at))

abbrev pass_parts : List ℕ → Option ((ℕ × ⊤) × List ℕ)
pass_parts = pair_at (number_at w64) nothing_at

injector_is : (bytes : List ℕ) → injector_at bytes ≡ (injector_parts bytes >>= λ p. keep true (Injector p.0.0, p.1))
unfolding injector_at
injector_is bytes = more (number_at w32) nothing_at bytes (λ p rest. keep true (Injector p.0, rest)) _ (λ a. refl)

count_is : (bytes : List ℕ) → count_at bytes ≡ (count_parts bytes >>= λ p. keep (nat_le p.0.0 MAX_STAMP) (Count p.0.0 p.0.1.0, p.1))
unfolding count_at
count_is bytes = more (number_at w64) (pair_at (ascending_at window_cmp window_at) nothing_at) bytes
    (λ p rest. keep (nat_le p.0 MAX_STAMP) (Count p.0 p.1.0, rest)) _
    (λ a. more (ascending_at window_cmp window_at) nothing_at a.1 (λ p rest. keep (nat_le a.0 MAX_STAMP) (Count a.0 p.0, rest)) _
    (λ b. refl))

spike_is : (bytes : List ℕ) → spike_at bytes ≡ (spike_parts bytes >>= λ p. keep (nat_le p.0.0 MAX_STAMP && nat_le (length p.0.1.1.0) 64)
    (Spike p.0.0 p.0.1.0 p.0.1.1.0, p.1))
unfolding spike_at
spike_is bytes = more (number_at w64) (pair_at (ascending_at held_cmp held_at) (pair_at (list_at signed_at) nothing_at)) bytes
    (λ p rest. keep (nat_le p.0 MAX_STAMP && nat_le (length p.1.1.0) 64) (Spike p.0 p.1.0 p.1.1.0, rest)) _
    (λ a. more (ascending_at held_cmp held_at) (pair_at (list_at signed_at) nothing_at) a.1
    (λ p rest. keep (nat_le a.0 MAX_STAMP && nat_le (length p.1.0) 64) (Spike a.0 p.0 p.1.0, rest)) _
    (λ b. more (list_at signed_at) nothing_at b.1 (λ p rest. keep (nat_le a.0 MAX_STAMP && nat_le (length p.0) 64)
    (Spike a.0 b.0 p.0, rest)) _ (λ c. refl)))

pass_is : (bytes : List ℕ) → pass_at bytes ≡ (pass_parts bytes >>= λ p. keep (nat_le p.0.0 MAX_STAMP) (Pass p.0.0, p.1))
unfolding pass_at
pass_is bytes = more (number_at w64) nothing_at bytes (λ p rest. keep (nat_le p.0 MAX_STAMP) (Pass p.0, rest)) _ (λ a. refl)

injector_law : Reads (λ (p : ℕ × ⊤). to_be_bytes w32 p.0 ++ []) (λ p. (p.0 < 2 ^ 32) × ⊤) injector_parts
injector_law = pair_reads (number_at w32) nothing_at u32_reads nothing_reads

windows_law : Reads (list_spelling window_spelling) ReadWindows (ascending_at window_cmp window_at)
windows_law = ascending_reads window_cmp-total window_at window_reads

count_law : Reads (λ (p : ℕ × (List Window × ⊤)). to_be_bytes w64 p.0 ++ (list_spelling window_spelling p.1.0 ++ []))
    (λ p. (p.0 < 2 ^ 64) × (ReadWindows p.1.0 × ⊤)) count_parts
count_law = pair_reads (number_at w64) (pair_at (ascending_at window_cmp window_at) nothing_at) u64_reads
    (pair_reads (ascending_at window_cmp window_at) nothing_at windows_law nothing_reads)

held_law : Reads (list_spelling held_spelling) ReadHeld (ascending_at held_cmp held_at)
held_law = ascending_reads held_cmp-total held_at held_reads

known_law : Reads (list_spelling signed_spelling) (λ known. (length known < 2 ^ 32) × AllByRecursion (FitsSigned w64) known)
    (list_at signed_at)
known_law = list_reads signed_at signed_reads

spike_law : Reads (λ (p : ℕ × (List HeldTotal × (List ℤ × ⊤))). to_be_bytes w64 p.0 ++
    (list_spelling held_spelling p.1.0 ++ (list_spelling signed_spelling p.1.1.0 ++ [])))
    (λ p. (p.0 < 2 ^ 64) × (ReadHeld p.1.0 × (((length p.1.1.0 < 2 ^ 32) × AllByRecursion (FitsSigned w64) p.1.1.0) × ⊤))) spike_parts
spike_law = pair_reads (number_at w64) (pair_at (ascending_at held_cmp held_at) (pair_at (list_at signed_at) nothing_at)) u64_reads
    (pair_reads (ascending_at held_cmp held_at) (pair_at (list_at signed_at) nothing_at) held_law
    (pair_reads (list_at signed_at) nothing_at known_law nothing_reads))

pass_law : Reads (λ (p : ℕ × ⊤). to_be_bytes w64 p.0 ++ []) (λ p. (p.0 < 2 ^ 64) × ⊤) pass_parts
pass_law = pair_reads (number_at w64) nothing_at u64_reads nothing_reads

-- ---- states

kind_takes : (kind : ℕ) (rest : List ℕ) (z : State × List ℕ) → IsBytes rest → state_of kind rest ≡ Some z
    → (kind ∷ rest ≡ state_spelling z.0 ++ z.1) × IsBytes z.1 × IsSpelledState z.0
kind_takes zero rest z are e =
    takes_kind injector_parts (λ p. true) (λ p. ⊤) always (λ p. Injector p.0) injector_law 0 (λ p. refl) (λ p f q. (f.0, tt)) rest z are
    (sym (injector_is rest) ∙ e)
kind_takes (suc zero) rest z are e =
    takes_kind count_parts (λ p. nat_le p.0 MAX_STAMP) (λ p. p.0 ≤ MAX_STAMP) (λ p. at_most p.0 MAX_STAMP)
    (λ p. Count p.0 p.1.0) count_law 1 (λ p. refl) (λ p f q. ((q, windows_are p.1.0 f.1.0), tt)) rest z are (sym (count_is rest) ∙ e)
kind_takes (suc (suc zero)) rest z are e =
    takes_kind spike_parts (λ p. nat_le p.0 MAX_STAMP && nat_le (length p.1.1.0) 64) (λ p. (p.0 ≤ MAX_STAMP) × (length p.1.1.0 ≤ 64))
    (λ p. both (at_most p.0 MAX_STAMP) (at_most (length p.1.1.0) 64)) (λ p. Spike p.0 p.1.0 p.1.1.0) spike_law 2 (λ p. refl)
    (λ p f q. let h = held_are p.1.0 f.1.0 in ((q.0, h.0, q.1), (h.1, All-from_recursion (FitsSigned w64) p.1.1.0 f.1.1.0.1))) rest z are
    (sym (spike_is rest) ∙ e)
kind_takes (suc (suc (suc zero))) rest z are e =
    takes_kind pass_parts (λ p. nat_le p.0 MAX_STAMP) (λ p. p.0 ≤ MAX_STAMP) (λ p. at_most p.0 MAX_STAMP) (λ p. Pass p.0) pass_law 3
    (λ p. refl) (λ p f q. (q, tt)) rest z are (sym (pass_is rest) ∙ e)
kind_takes (suc (suc (suc (suc kind)))) rest z are e = absurd cc

state_takes : (bytes : List ℕ) (z : State × List ℕ) → IsBytes bytes → state_at bytes ≡ Some z
    → (bytes ≡ state_spelling z.0 ++ z.1) × IsBytes z.1 × IsSpelledState z.0
unfolding state_at
state_takes [] z are e = absurd cc
state_takes (kind ∷ rest) z are e = kind_takes kind rest z (λ i. are (suc i)) e

state_again : (state : State) (rest : List ℕ) → IsSpelledState state → state_at (state_spelling state ++ rest) ≡ Some (state, rest)
unfolding state_at
state_again (Injector cursor) rest f = injector_is _
    ∙ again_kind injector_parts (λ p. true) (λ p. ⊤) always (λ p. Injector p.0) injector_law (cursor, tt) rest (f.0, tt) tt
state_again (Count late windows) rest f =
    count_is _ ∙ again_kind count_parts (λ p. nat_le p.0 MAX_STAMP) (λ p. p.0 ≤ MAX_STAMP) (λ p. at_most p.0 MAX_STAMP)
    (λ p. Count p.0 p.1.0) count_law (late, (windows, tt)) rest (omega (arith, f.0.0), (windows_read windows f.0.1, tt)) f.0.0
state_again (Spike late held known) rest f =
    spike_is _ ∙ again_kind spike_parts (λ p. nat_le p.0 MAX_STAMP && nat_le (length p.1.1.0) 64)
    (λ p. (p.0 ≤ MAX_STAMP) × (length p.1.1.0 ≤ 64)) (λ p. both (at_most p.0 MAX_STAMP) (at_most (length p.1.1.0) 64))
    (λ p. Spike p.0 p.1.0 p.1.1.0) spike_law (late, (held, (known, tt))) rest
    (omega (arith, f.0.0), (held_read held f.0.1 f.1.0, ((omega (arith, f.0.2), recursion_from_All (FitsSigned w64) known f.1.1), tt)))
    (f.0.0, f.0.2)
state_again (Pass late) rest f =
    pass_is _ ∙ again_kind pass_parts (λ p. nat_le p.0 MAX_STAMP) (λ p. p.0 ≤ MAX_STAMP) (λ p. at_most p.0 MAX_STAMP)
    (λ p. Pass p.0) pass_law (late, tt) rest (omega (arith, f.0), tt) f.0

-- a state
pub state_reads : Reads state_spelling IsSpelledState state_at
state_reads = record { takes = state_takes; again = state_again }

-- ---- a value that is all of the bytes

-- what is read to the end is spelled by all of the bytes
pub whole_takes : {X : Type 0} {s : X → List ℕ} {F : X → Type 0} (r : List ℕ → Option (X × List ℕ)) → Reads s F r
    → (bytes : List ℕ) (x : X) → IsBytes bytes
    → (r bytes >>= λ y. keep (eqb (length y.1) 0) y.0) ≡ Some x → F x × (bytes ≡ s x)
whole_takes {X} {s} {F} r reads bytes x are e =
    let a = bind_some (r bytes) (λ y. keep (eqb (length y.1) 0) y.0) x e in
    let k = keep_some (eqb (length a.0.1) 0) a.0.0 x a.2 in
    let t = reads.takes bytes a.0 are a.1 in
    let nothing : a.0.1 ≡ [] = nil_from_length a.0.1 (eqb-true _ _ k.0) in
    let whole : bytes ≡ s a.0.0 = t.0 ∙ ap (λ (l : List ℕ). s a.0.0 ++ l) nothing ∙ append-nil (s a.0.0) in
    subst (λ (y : X). F y × (bytes ≡ s y)) k.1 (t.2, whole)

-- what is spelled by all of the bytes is read
pub whole_again : {X : Type 0} {s : X → List ℕ} {F : X → Type 0} (r : List ℕ → Option (X × List ℕ)) → Reads s F r → (x : X) → F x
    → (r (s x) >>= λ y. keep (eqb (length y.1) 0) y.0) ≡ Some x
whole_again {X} {s} {F} r reads x fits =
    let read : r (s x) ≡ Some (x, []) = ap r (sym (append-nil (s x))) ∙ reads.again x [] fits in
    rw read refl

-- what a reader of whole states answers
pub state_found : (bytes : List ℕ) (answer : Result State StateRefusal) → IsBytes bytes
    → Gives (λ state. state) answer (whole_state bytes) → IfOk answer (λ state. IsSpelledState state × (bytes ≡ state_spelling state))
unfolding whole_state
state_found bytes (Ok state) are given = whole_takes state_at state_reads bytes state are given
state_found bytes (Err e) are given = tt

pub state_only : (bytes : List ℕ) (answer : Result State StateRefusal) → Gives (λ state. state) answer (whole_state bytes)
    → (state : State) → IsSpelledState state → bytes ≡ state_spelling state
    → MatchResult answer (λ answered. answered ≡ state) (λ refusal. refusal ≡ refusals.NoMemory)
unfolding whole_state
state_only bytes answer given state fits is = by answer
    (subst (Gives (λ state. state) answer) (ap whole_state is ∙ whole_again state_at state_reads state fits) given)
  where
    by : (answer : Result State StateRefusal) → Gives (λ state. state) answer (Some state)
        → MatchResult answer (λ answered. answered ≡ state) (λ refusal. refusal ≡ refusals.NoMemory)
    by (Ok answered) g = sym (some_same state answered g)
    by (Err refusals.NoMemory) g = refl
    by (Err refusals.Damaged) g = absurd cc

pub state_damaged : (bytes : List ℕ) (answer : Result State StateRefusal) → Gives (λ state. state) answer (whole_state bytes)
    → IsErrOf answer refusals.Damaged → (state : State) → IsSpelledState state → bytes ≡ state_spelling state → ⊥
state_damaged bytes answer given damaged state fits is =
    let m : refusals.Damaged ≡ refusals.NoMemory = subst
    (λ r. MatchResult r (λ answered. answered ≡ state) (λ refusal. refusal ≡ refusals.NoMemory)) damaged
    (state_only bytes answer given state fits is) in
    absurd cc
