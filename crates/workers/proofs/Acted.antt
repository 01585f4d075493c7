-- How many actions there are of rounds.
use Rattle.std.proofs.Common.{◌≡◌, ◌≤◌, ◌+◌, ◌*◌, ◌∷◌, ℕ, suc, Bool, true, false, cond, ltb, eqb, List, [], length, refl, arith, filter}
use Rattle.std.proofs.lemmas.Bool.Decides.{nat_tests}
use Rattle.plans.specs.declared.action.Action.{Action}
use Rattle.workers.specs.Actions.{acted, acted_to}

length-kept : {X : Type 0} (b : Bool) (x : X) (xs : List X) → length (cond b (x ∷ xs) xs) ≡ cond b (length xs + 1) (length xs)
length-kept true x xs = omega arith
length-kept false x xs = refl

-- a number is below the next one where it is below this one, or this one
count-next : (n round x y z : ℕ) → x ≡ y + z
    → cond (ltb n (suc round)) (x + 1) x ≡ cond (ltb n round) (y + 1) y + cond (eqb n round) (z + 1) z
count-next n round x y z same = grind (arith, nat_tests)

-- those of one round more
pub acted-next : (round : ℕ) (actions : List Action) → acted_to (suc round) actions ≡ acted_to round actions + acted round actions
acted-next round [] = omega arith
acted-next round (a ∷ actions) =
    let to_next = length-kept (ltb a.round (suc round)) a (filter (λ (b : Action). ltb b.round (suc round)) actions) in
    let to = length-kept (ltb a.round round) a (filter (λ (b : Action). ltb b.round round) actions) in
    let here = length-kept (eqb a.round round) a (filter (λ (b : Action). eqb b.round round) actions) in
    let all = count-next a.round round (acted_to (suc round) actions) (acted_to round actions) (acted round actions)
    (acted-next round actions) in
    omega (arith, to_next, to, here, all)

few-more : (b : Bool) (x n : ℕ) → x ≤ n → cond b (x + 1) x ≤ suc n
few-more true x n few = omega (arith, few)
few-more false x n few = omega (arith, few)

-- there are no more than all
pub acted-few : (round : ℕ) (actions : List Action) → acted_to round actions ≤ length actions
acted-few round [] = omega arith
acted-few round (a ∷ actions) =
    let here = length-kept (ltb a.round round) a (filter (λ (b : Action). ltb b.round round) actions) in
    let few = few-more (ltb a.round round) (acted_to round actions) (length actions) (acted-few round actions) in
    omega (arith, here, few)

-- before the first round there is none
pub acted-none : (actions : List Action) → acted_to 0 actions ≡ 0
acted-none [] = refl
acted-none (a ∷ actions) = none (ltb a.round 0) refl (acted-none actions)
  where
    none : (b : Bool) → ltb a.round 0 ≡ b → acted_to 0 actions ≡ 0 → length (cond b (a ∷ filter (λ (c : Action). ltb c.round 0) actions)
        (filter (λ (c : Action). ltb c.round 0) actions)) ≡ 0
    none true is rest = absurd (grind (arith, nat_tests))
    none false is rest = rest

-- where there is no action there is none of a round
pub acted-empty : (round : ℕ) (actions : List Action) → actions ≡ [] → acted round actions ≡ 0
acted-empty round [] none = refl
acted-empty round (a ∷ actions) none = absurd cc

-- ---- how much that is

-- the first claims are within what rounds may append
pub room-first : (workers rounds actions : ℕ) → 61 ≤ 61 * (1 + actions) + 6000 * workers * rounds
room-first workers rounds actions = grind arith

-- so much is appended before a round, so much by its actions, and so much in it
pub room-next : (acts here next workers crew round : ℕ) → next ≡ acts + here → crew ≡ workers
    → 61 + (61 * acts + 6000 * workers * round) + 61 * here + 6000 * crew ≤ 61 + (61 * next + 6000 * workers * (round + 1))
room-next acts here next workers crew round same long = grind arith

-- and that is within what rounds may append
pub room-within : (acts workers round rounds actions : ℕ) → acts ≤ actions → round ≤ rounds
    → 61 + (61 * acts + 6000 * workers * round) ≤ 61 * (1 + actions) + 6000 * workers * rounds
room-within acts workers round rounds actions few within = grind arith
