-- How many lines of which injectors, added up.
use Rattle.std.proofs.Common.{◌≤◌, ◌+◌, ◌==◌, ℕ, Bool, true, false, cond, nat_lt, ap, arith, inl, inr}
use Rattle.std.proofs.lemmas.Bool.{cases_eq, cases_lt, eq-eqb, le-ltb, lt-ltb, ne_eqb}
use Rattle.workers.specs.Serving.{lines_below, lines_each, lines_of}

-- lines of one injector and then more of it
pub lines_of-then : (injector m n k : ℕ) → m + n ≤ k → (part : ℕ)
    → lines_of injector m part + lines_of injector n part ≤ lines_of injector k part
lines_of-then injector m n k less part = elim (injector == part) as (λ b. cond b m 0 + cond b n 0 ≤ cond b k 0) [
  | true ↦ less
  | false ↦ omega arith
]

-- fewer lines of one injector
pub lines_of-less : (injector m n : ℕ) → m ≤ n → (part : ℕ) → lines_of injector m part ≤ lines_of injector n part
lines_of-less injector m n less part = elim (injector == part) as (λ b. cond b m 0 ≤ cond b n 0) [
  | true ↦ less
  | false ↦ omega arith
]

-- lines of the first injectors and then of the next one
pub lines_below-then : (injectors many part : ℕ)
    → lines_below injectors many part + lines_of injectors many part ≤ lines_below (injectors + 1) many part
lines_below-then injectors many part = elim (cases_lt part injectors) [
  | inl before ↦
      let first = ap (λ (b : Bool). cond b many 0) (lt-ltb part injectors before) in
      let other = ap (λ (b : Bool). cond b many 0) (ne_eqb injectors part (λ same. omega (arith, before, same))) in
      let all = ap (λ (b : Bool). cond b many 0) (lt-ltb part (injectors + 1) (omega (arith, before))) in
      omega (arith, first, other, all)
  | inr behind ↦
      let none = ap (λ (b : Bool). cond b many 0) (le-ltb part injectors behind) in
      elim (cases_eq injectors part) [
        | inl same ↦
            let one = ap (λ (b : Bool). cond b many 0) (eq-eqb injectors part same) in
            let all = ap (λ (b : Bool). cond b many 0) (lt-ltb part (injectors + 1) (omega (arith, same))) in
            omega (arith, none, one, all)
        | inr other ↦
            let apart = ap (λ (b : Bool). cond b many 0) (ne_eqb injectors part other) in omega (arith, none, apart)
      ]
]

-- which are so many of each at most
pub lines_below-each : (injectors many part : ℕ) → lines_below injectors many part ≤ lines_each many part
lines_below-each injectors many part = elim (nat_lt part injectors) as (λ b. cond b many 0 ≤ many) [
  | true ↦ omega arith
  | false ↦ omega arith
]

-- and so are those of the next one with them
pub lines_both-each : (injectors many part : ℕ)
    → lines_below injectors many part + lines_of injectors many part ≤ lines_each many part
lines_both-each injectors many part =
    let next = lines_below-then injectors many part in
    let each = lines_below-each (injectors + 1) many part in
    omega (arith, next, each)
