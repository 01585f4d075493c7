-- Each move of a mailbox keeps its counts.
use Rattle.std.proofs.Common.{◌≡◌, ◌≢◌, ◌∙◌, ℕ, zero, suc, ◌+◌, true≢false, List, [], ◌∷◌, ◌++◌, length, set, refl, sym, ap, ⊎_elim, arith, length-append}
use mathlib.Core.Option.{some, some-ne-none, some-injective}
use lib.ListN.{get_elem?}
use Rattle.crossbeam_queue.specs.Fifo.{Pushes, Pops, Forks, Learns}
use Rattle.crossbeam_queue.proofs.Lists.{at_set, at_snoc}
use Rattle.workers.specs.declared.hand.Hand.{Hand}
use Rattle.workers.specs.Mailboxes.{AreCounted, HasHeld, IsLeft, IsOnly, all_puts, all_takes, beside, first_hand, new_hand, with_put, with_take}

-- ---- sums over passes

puts_set : (views : List Hand) (i : ℕ) (v w : Hand) → get_elem? views i ≡ some v → all_puts (set views i w) + v.puts ≡ all_puts views + w.puts
puts_set [] i v w at = absurd (some-ne-none v (sym at))
puts_set (u ∷ us) zero v w at = let is = ap (λ (h : Hand). h.puts) (some-injective _ _ at) in omega (arith, is)
puts_set (u ∷ us) (suc i) v w at = let rest = puts_set us i v w at in omega (arith, rest)

takes_set : (views : List Hand) (i : ℕ) (v w : Hand) → get_elem? views i ≡ some v → all_takes (set views i w) + v.takes ≡ all_takes views + w.takes
takes_set [] i v w at = absurd (some-ne-none v (sym at))
takes_set (u ∷ us) zero v w at = let is = ap (λ (h : Hand). h.takes) (some-injective _ _ at) in omega (arith, is)
takes_set (u ∷ us) (suc i) v w at = let rest = takes_set us i v w at in omega (arith, rest)

puts_snoc : (views : List Hand) (w : Hand) → all_puts (views ++ w ∷ []) ≡ all_puts views + w.puts
puts_snoc [] w = omega arith
puts_snoc (u ∷ us) w = let rest = puts_snoc us w in omega (arith, rest)

takes_snoc : (views : List Hand) (w : Hand) → all_takes (views ++ w ∷ []) ≡ all_takes views + w.takes
takes_snoc [] w = omega arith
takes_snoc (u ∷ us) w = let rest = takes_snoc us w in omega (arith, rest)

length_set : (views : List Hand) (i : ℕ) (w : Hand) → length (set views i w) ≡ length views
length_set [] i w = refl
length_set (u ∷ us) zero w = refl
length_set (u ∷ us) (suc i) w = ap suc (length_set us i w)

-- a pass that stays as alone as it was keeps that the only one is
only_set : (views : List Hand) (i : ℕ) (v w : Hand) → get_elem? views i ≡ some v → w.alone ≡ v.alone → IsOnly views → IsOnly (set views i w)
only_set views i v w at same only j u at' alone = length_set views i w ∙ ⊎_elim
    (λ (x : (j ≡ i) × (w ≡ u)). only i v at (sym same ∙ ap (λ (h : Hand). h.alone) x.1 ∙ alone))
    (λ (x : (j ≢ i) × (get_elem? views j ≡ some u)). only j u x.1 alone) (at_set views i j w u at')

-- ---- the moves

pub begins : {T : Type 0} → AreCounted {T = T} [] (first_hand ∷ [])
begins = record { counted = refl; only = λ i v at alone. refl }

pub puts : {T : Type 0} (n pass : ℕ) (v : Hand) (x : T) → Pushes AreCounted n pass v x (λ w. w ≡ with_put v)
puts n pass v x items views room is at =
    let w = with_put v in (
      w,
      record {
        counted =
            let a = puts_set views pass v w at in
            let b = takes_set views pass v w at in
            let c = is.counted in
            omega (arith, length-append items (x ∷ []));
        only = only_set views pass v w at refl is.only;
      },
      refl,
    )

pub takes : {T : Type 0} (pass : ℕ) (v : Hand) → Pops {T = T} AreCounted pass v (λ x w. w ≡ with_take v)
takes pass v x items views is at =
    let w = with_take v in (
      w,
      record {
        counted =
            let a = puts_set views pass v w at in
            let b = takes_set views pass v w at in
            let c = is.counted in
            omega arith;
        only = only_set views pass v w at refl is.only;
      },
      refl,
    )

pub deals : {T : Type 0} (pass : ℕ) (v : Hand) → Forks {T = T} AreCounted pass v (beside v) new_hand
deals pass v items views is at =
    let w = beside v in
    let mid = set views pass w in
    record {
      counted =
          let a = puts_set views pass v w at in
          let b = takes_set views pass v w at in
          let c = is.counted in
          let d = puts_snoc mid new_hand in
          let e = takes_snoc mid new_hand in
          omega arith;
      only = λ j u at' alone. ⊎_elim
          (λ (was : get_elem? mid j ≡ some u). ⊎_elim
          (λ (x : (j ≡ pass) × (w ≡ u)). absurd (true≢false (sym alone ∙ sym (ap (λ (h : Hand). h.alone) x.1))))
          (λ (x : (j ≢ pass) × (get_elem? views j ≡ some u)). absurd (other views pass j v u at x.1 x.0 (is.only j u x.1 alone)))
          (at_set views pass j w u was))
          (λ (new : new_hand ≡ u). absurd (true≢false (sym alone ∙ sym (ap (λ (h : Hand). h.alone) new))))
          (at_snoc mid new_hand u j at');
    }
  where
    -- two places are not one
    other : (views : List Hand) (i j : ℕ) (v u : Hand) → get_elem? views i ≡ some v → get_elem? views j ≡ some u → j ≢ i → length views ≡ 1 → ⊥
    other [] i j v u at at' apart one = absurd (some-ne-none v (sym at))
    other (a ∷ b ∷ views) i j v u at at' apart one = cc
    other (a ∷ []) zero zero v u at at' apart one = apart refl
    other (a ∷ []) (suc i) j v u at at' apart one = some-ne-none v (sym at)
    other (a ∷ []) zero (suc j) v u at at' apart one = some-ne-none u (sym at')

pub learns : {T : Type 0} (pass : ℕ) (v : Hand) → Learns {T = T} AreCounted pass v (λ items. HasHeld v (length items))
learns pass v items views is at = record { views = views; place = pass; this = at; counted = is.counted; only = is.only }

-- what was there at that moment, a pass that is alone has put there
pub left_of_held : (v : Hand) (count : ℕ) → HasHeld v count → IsLeft v count
left_of_held v count h alone = lone h.views h.place h.this (h.only h.place v h.this alone) h.counted
  where
    lone : (us : List Hand) (i : ℕ) → get_elem? us i ≡ some v → length us ≡ 1 → all_puts us ≡ all_takes us + count
        → v.puts ≡ v.takes + count
    lone [] i here single counted = absurd (some-ne-none v (sym here))
    lone (u ∷ []) zero here single counted =
        let a = ap (λ (h : Hand). h.puts) (some-injective _ _ here) in
        let b = ap (λ (h : Hand). h.takes) (some-injective _ _ here) in
        omega (arith, a, b, counted)
    lone (u ∷ []) (suc i) here single counted = absurd (some-ne-none v (sym here))
    lone (u ∷ w ∷ us) i here single counted = absurd cc
