-- What stays the same of a key, whatever is extracted of it.
use Rattle.std.proofs.Common.{◌≡◌, ℕ, suc, ◌+◌, ◌==◌, ◌||◌, not, Bool, true, false, cond, List, [], ◌∷◌, refl, sym, ◌∙◌, ap, arith}
use Rattle.std.specs.Prelude.{take, drop}
use Rattle.std.specs.List.{list_any, prefix_len, before_first, after_first}
use Rattle.topology.specs.declared.subscription.By.TheVariants.{Head, Tail}
use Rattle.topology.specs.Shapes.{extracted, or_whole}
use Rattle.plain_answer.specs.Splits.{behind_last}

-- whether a byte is a slash
abbrev slash : ℕ → Bool
slash b = b == 47

-- how far the first slash is
abbrev far : List ℕ → ℕ
far bytes = prefix_len (λ b. not (slash b)) bytes

-- ---- what stands before the first slash

-- of one byte more
before-step : (b : ℕ) (bs : List ℕ) → before_first slash (b ∷ bs) ≡ cond (slash b) [] (b ∷ before_first slash bs)
before-step b bs = elim (slash b) as (λ c. take (cond (not c) (1 + far bs) 0) (b ∷ bs) ≡ cond c [] (b ∷ before_first slash bs)) [
  | true ↦ refl
  | false ↦ let more : 1 + far bs ≡ suc (far bs) = omega arith in ap (λ n. take n (b ∷ bs)) more
]

-- before it no other stands
before-twice : (bs : List ℕ) → before_first slash (before_first slash bs) ≡ before_first slash bs
before-twice [] = refl
before-twice (b ∷ bs) =
    ap (before_first slash) (before-step b bs)
    ∙ elim (slash b) as
    (λ c. slash b ≡ c → before_first slash (cond c [] (b ∷ before_first slash bs)) ≡ cond c [] (b ∷ before_first slash bs)) [
      | true ↦ λ e. refl
      | false ↦ λ e.
          before-step b (before_first slash bs) ∙ ap (λ c. cond c [] (b ∷ before_first slash (before_first slash bs))) e
          ∙ ap (λ l. b ∷ l) (before-twice bs)
    ] refl
    ∙ sym (before-step b bs)

-- the head of a head is the head
pub head-twice : (key : List ℕ) → extracted Head (extracted Head key) ≡ extracted Head key
head-twice key = by (before_first slash key) refl
  where
    by : (l : List ℕ) → before_first slash key ≡ l → extracted Head (extracted Head key) ≡ extracted Head key
    by [] e = ap (extracted Head) (ap (λ l. or_whole l key) e)
    by (b ∷ bs) e =
        let head : extracted Head key ≡ b ∷ bs = ap (λ l. or_whole l key) e in
        let same : before_first slash (b ∷ bs) ≡ b ∷ bs = ap (before_first slash) (sym e) ∙ before-twice key ∙ e in
        ap (extracted Head) head ∙ ap (λ l. or_whole l (b ∷ bs)) same ∙ sym head

-- ---- what stands behind the last slash

-- of one byte more
after-step : (b : ℕ) (bs : List ℕ) → after_first slash (b ∷ bs) ≡ cond (slash b) bs (after_first slash bs)
after-step b bs = elim (slash b) as (λ c. drop (cond (not c) (1 + far bs) 0 + 1) (b ∷ bs) ≡ cond c bs (after_first slash bs)) [
  | true ↦ refl
  | false ↦ let more : 1 + far bs + 1 ≡ suc (far bs + 1) = omega arith in ap (λ n. drop n (b ∷ bs)) more
]

-- where no slash is nothing stands behind one
after-none : (key : List ℕ) → list_any slash key ≡ false → after_first slash key ≡ []
after-none [] none = refl
after-none (b ∷ bs) none = after-step b bs
    ∙ elim (slash b) as (λ c. (c || list_any slash bs) ≡ false → cond c bs (after_first slash bs) ≡ []) [
      | true ↦ λ e. absurd cc
      | false ↦ λ e. after-none bs e
    ] none

-- what stands behind the first slash has the last one's end
behind-after : (key : List ℕ) → list_any slash key ≡ true → behind_last (after_first slash key) ≡ behind_last key
behind-after [] some = absurd cc
behind-after (b ∷ bs) some =
    ap behind_last (after-step b bs)
    ∙ elim (slash b) as (λ c. (c || list_any slash bs) ≡ true → behind_last (cond c bs (after_first slash bs)) ≡ behind_last bs) [
      | true ↦ λ e. refl
      | false ↦ λ e. behind-after bs e
    ] some
    ∙ sym (ap (λ c. cond c (behind_last bs) (b ∷ bs)) some)

-- the tail has what stands behind the last slash of a key
pub tail-behind : (key : List ℕ) → behind_last (extracted Tail key) ≡ behind_last key
tail-behind key = elim (list_any slash key) as (λ c. list_any slash key ≡ c → behind_last (extracted Tail key) ≡ behind_last key) [
  | true ↦ λ e. whole (after_first slash key) (behind-after key e)
  | false ↦ λ e. ap (λ l. behind_last (or_whole l key)) (after-none key e)
] refl
  where
    whole : (l : List ℕ) → behind_last l ≡ behind_last key → behind_last (or_whole l key) ≡ behind_last key
    whole [] e = refl
    whole (x ∷ xs) e = e
