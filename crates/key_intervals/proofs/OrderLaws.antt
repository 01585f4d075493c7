-- The order of a part's live intervals where some end and others are appended.
use Rattle.std.proofs.Common.{◌≡◌, ◌<◌, ◌∙◌, ◌++◌, ◌∷◌, [], ℕ, zero, suc, List, Bool, true, false, Some, arith, refl, sym, ap, subst, inl, inr}
use Rattle.std.specs.Prelude.{slice_get, Contains, flat_map}
use Rattle.std.specs.List.{AllByRecursion}
use Rattle.std.specs.Option.{option_map, option_map_or}
use Rattle.std.specs.Ordering.{is_le}
use Rattle.std.specs.declared.cmp.Ordering.TheVariants.{Less}
use Rattle.std.proofs.lemmas.List.Elements.{Contains-append_left, Contains-append_right}
use Rattle.list_lemmas.proofs.Lists.{each-all, each-append, each-both, each-weaker, none_some, some_same}
use Rattle.list_lemmas.proofs.Places.{each-at}
use Rattle.mw_types.specs.Orders.{key_cmp}
use Rattle.key_intervals.specs.declared.bounds.Bounds.{Bounds}
use Rattle.key_intervals.specs.declared.given.Given.{Given}
use Rattle.key_intervals.specs.Division.{fresh}
use Rattle.key_intervals.specs.Index.{AreInOrder, BeginsBefore, IsOfPart, IsOrder, from_of}
use Rattle.key_intervals.proofs.GivenLists.{AreEnded, with_fresh, live-kept, live-origin}
use Rattle.key_intervals.proofs.KeyOrder.{below_upto, upto_itself}

-- ---- lists in which each element becomes some others

-- two lists in order, of which each of the first stands so to each of the second, are in order together
ordered-append : {X : Type 0} (R : X → X → Type 0) (xs ys : List X) → AreInOrder R xs → AreInOrder R ys
    → AllByRecursion (λ x. AllByRecursion (R x) ys) xs → AreInOrder R (xs ++ ys)
ordered-append R [] ys one two across = two
ordered-append R (x ∷ xs) ys one two across =
    (each-append (R x) xs ys one.0 across.0, ordered-append R xs ys one.1 two across.1)

-- what holds of what each becomes holds of all of it
each-become : {X Y : Type 0} (P : X → Type 0) (Q : Y → Type 0) (f : X → List Y) → ((x : X) → P x → AllByRecursion Q (f x))
    → (xs : List X) → AllByRecursion P xs → AllByRecursion Q (flat_map f xs)
each-become P Q f step [] each = tt
each-become P Q f step (x ∷ xs) each = each-append Q (f x) (flat_map f xs) (step x each.0) (each-become P Q f step xs each.1)

-- what one becomes is among what all become
become-contains : {X Y : Type 0} (f : X → List Y) (xs : List X) (x : X) (y : Y) → Contains xs x → Contains (f x) y → Contains (flat_map f xs) y
become-contains f [] x y in' has = absurd (omega (arith, in'.1))
become-contains f (z ∷ xs) x y (zero, less, is) has = Contains-append_left (f z) (flat_map f xs) y (subst (λ a. Contains (f a) y) (sym is) has)
become-contains f (z ∷ xs) x y (suc k, less, is) has =
    Contains-append_right (f z) (flat_map f xs) y (become-contains f xs x y (k, omega (arith, less), is) has)

-- what becomes of elements in order is in order
ordered-become : {X Y : Type 0} (P : X → Type 0) (R : X → X → Type 0) (S : Y → Y → Type 0) (f : X → List Y)
    → ((x : X) → P x → AreInOrder S (f x))
    → ((x z : X) → P x → P z → R x z → AllByRecursion (λ y. AllByRecursion (S y) (f z)) (f x))
    → (xs : List X) → AllByRecursion P xs → AreInOrder R xs → AreInOrder S (flat_map f xs)
ordered-become P R S f alone across [] each order = tt
ordered-become {X} {Y} P R S f alone across (x ∷ xs) each order =
    ordered-append S (f x) (flat_map f xs) (alone x each.0) (ordered-become P R S f alone across xs each.1 order.1)
    (behind xs (each-both P (R x) xs each.1 order.0))
  where
    behind : (zs : List X) → AllByRecursion (λ z. P z × R x z) zs → AllByRecursion (λ y. AllByRecursion (S y) (flat_map f zs)) (f x)
    behind [] all = each-all (λ y. AllByRecursion (S y) []) (λ y. tt) (f x)
    behind (z ∷ zs) all =
        each-weaker (λ y. AllByRecursion (S y) (f z) × AllByRecursion (S y) (flat_map f zs)) (λ y. AllByRecursion (S y) (flat_map f (z ∷ zs)))
        (λ y both. each-append (S y) (f z) (flat_map f zs) both.0 both.1) (f x)
        (each-both (λ y. AllByRecursion (S y) (f z)) (λ y. AllByRecursion (S y) (flat_map f zs)) (f x)
        (across x z each.0 all.0.0 all.0.1) (behind zs all.1))

-- in an order what stands earlier stands so to what stands later
pub ordered-get : {X : Type 0} (R : X → X → Type 0) (xs : List X) (k l : ℕ) (x y : X) → AreInOrder R xs → k < l → slice_get xs k ≡ Some x
    → slice_get xs l ≡ Some y → R x y
ordered-get R [] k l x y order less one other = absurd (none_some x one)
ordered-get R (z ∷ xs) k zero x y order less one other = absurd (omega (arith, less))
ordered-get R (z ∷ xs) zero (suc l) x y order less one other =
    subst (λ a. R a y) (some_same z x one) (each-at (R z) xs l y order.0 other)
ordered-get R (z ∷ xs) (suc k) (suc l) x y order less one other = ordered-get R xs k l x y order.1 (omega (arith, less)) one other

-- ---- the order of one part

-- the first key of a live number
pub from-is : (given : List Given) (n : ℕ) (b : Bounds) → slice_get given n ≡ Some (fresh b) → from_of given n ≡ b.from
from-is given n b at =
    ap (λ o. option_map_or (λ (c : Bounds). c.from) (option_map (λ (g : Given). g.bounds) o) []) at

-- what stands in the place of a number: it begins no earlier, and before each of the part that begins later
pub record IsHeir (given after : List Given) (part number heir : ℕ) : Type 0 where
  pub of_part : IsOfPart after part heir
  pub late : is_le (key_cmp (from_of given number) (from_of after heir)) ≡ true
  pub early : (other : ℕ) → IsOfPart given part other → BeginsBefore given number other
      → key_cmp (from_of after heir) (from_of given other) ≡ Less

-- these stand in the places of the part's numbers
pub record AreHeirs (given after : List Given) (part : ℕ) (heirs : ℕ → List ℕ) : Type 0 where
  pub each : (n : ℕ) → IsOfPart given part n → AllByRecursion (IsHeir given after part n) (heirs n)
  pub ordered : (n : ℕ) → IsOfPart given part n → AreInOrder (BeginsBefore after) (heirs n)
  pub whole : (i : ℕ) → IsOfPart after part i → (n : ℕ) × IsOfPart given part n × Contains (heirs n) i

-- they are then the order of the part
pub order-of_heirs : (given after : List Given) (part : ℕ) (numbers : List ℕ) (heirs : ℕ → List ℕ) → IsOrder given part numbers
    → AreHeirs given after part heirs → IsOrder after part (flat_map heirs numbers)
order-of_heirs given after part numbers heirs is are = record {
  of_part = each-become (IsOfPart given part) (IsOfPart after part) heirs
      (λ n of. each-weaker (IsHeir given after part n) (IsOfPart after part) (λ h heir. heir.of_part) (heirs n) (are.each n of)) numbers is.of_part;
  whole = λ i of. let was = are.whole i of in become-contains heirs numbers was.0 i (is.whole was.0 was.1) was.2;
  rising = ordered-become (IsOfPart given part) (BeginsBefore given) (BeginsBefore after) heirs are.ordered across numbers is.of_part is.rising;
}
  where
    across : (m n : ℕ) → IsOfPart given part m → IsOfPart given part n → BeginsBefore given m n
        → AllByRecursion (λ h. AllByRecursion (BeginsBefore after h) (heirs n)) (heirs m)
    across m n of too before =
        each-weaker (IsHeir given after part m) (λ h. AllByRecursion (BeginsBefore after h) (heirs n))
        (λ h heir. each-weaker (IsHeir given after part n) (BeginsBefore after h)
        (λ k other. below_upto (from_of after h) (from_of given n) (from_of after k) (heir.early n too before) other.late)
        (heirs n) (are.each n too)) (heirs m) (are.each m of)

-- a number that stays is its own heir
pub kept-heir : (given after : List Given) (part n : ℕ) (b : Bounds) → slice_get given n ≡ Some (fresh b) → slice_get after n ≡ Some (fresh b)
    → b.part ≡ part → IsHeir given after part n n
kept-heir given after part n b was is of =
    let same : from_of after n ≡ from_of given n = from-is after n b is ∙ sym (from-is given n b was) in record {
      of_part = (b, is, of);
      late = ap (λ key. is_le (key_cmp (from_of given n) key)) same ∙ upto_itself (from_of given n);
      early = λ other there before. ap (λ key. key_cmp key (from_of given other)) same ∙ before;
    }

-- what stays itself is as it was
become-itself : (numbers : List ℕ) → flat_map (λ n. n ∷ []) numbers ≡ numbers
become-itself [] = refl
become-itself (n ∷ ns) = ap (λ all. n ∷ all) (become-itself ns)

module _ (test : ℕ → Bool) (given rest : List Given) (added : List Bounds) (ended : AreEnded test given rest) where
  -- the order of a part stays of which none ends and none is appended
  pub order-kept : (part : ℕ) (numbers : List ℕ) → ((n : ℕ) → IsOfPart given part n → test n ≡ false)
      → ((k : ℕ) (b : Bounds) → slice_get added k ≡ Some b → b.part ≡ part → ⊥) → IsOrder given part numbers
      → IsOrder (with_fresh rest added) part numbers
  order-kept part numbers stays none is =
      subst (IsOrder (with_fresh rest added) part) (become-itself numbers)
      (order-of_heirs given (with_fresh rest added) part numbers (λ n. n ∷ []) is (record {
        each = λ n of. (
          kept-heir given (with_fresh rest added) part n of.0 of.1
              (live-kept test given rest added ended n of.0 of.1 (stays n of)) of.2,
          tt,
        );
        ordered = λ n of. (tt, tt);
        whole = λ i of. elim (live-origin test given rest added ended i of.0 of.1) [
          | inl old ↦ (i, (of.0, old.0, of.2), (0, omega arith, refl))
          | inr new ↦ absurd (none new.0 of.0 new.2 of.2)
        ];
      }))
