-- Lists that are written four elements at once.
use Rattle.std.proofs.Common.{◌≡◌, ℕ, ◌-◌, ◌≤◌, List, [], ◌∷◌, ◌++◌, length, take, drop, get_or, refl, sym, ap, subst, ◌∙◌, append_assoc, arith}
use Rattle.std.proofs.lemmas.List.{append-nil, take_all}
use Rattle.std.proofs.lemmas.List.Elements.{All-append, All-cons, All-nil}
use Rattle.std.proofs.lemmas.Grind.{flat_map-append}
use Rattle.std.specs.Prelude.{All}
use Rattle.std.specs.List.{flat_map}
use Rattle.std.specs.Int.{w32, to_be_bytes}
use Rattle.row_parts.specs.Spelling.{list_spelling}

-- ---- the elements of a list, four at once

-- the first four, and what is after them
pub parted : {X : Type 0} (rest : List X) (a b c d : X) → 4 ≤ length rest → a ≡ get_or rest 0 a → b ≡ get_or rest 1 b
    → c ≡ get_or rest 2 c → d ≡ get_or rest 3 d → rest ≡ a ∷ b ∷ c ∷ d ∷ take (length rest - 4) (drop 4 rest)
parted (x ∷ y ∷ z ∷ w ∷ rest) a b c d many ia ib ic id =
    rw (ia, ib, ic, id, take_all (length (x ∷ y ∷ z ∷ w ∷ rest) - 4) rest (omega arith)) refl
parted [] a b c d many ia ib ic id = absurd (omega (arith, many))
parted (x ∷ []) a b c d many ia ib ic id = absurd (omega (arith, many))
parted (x ∷ y ∷ []) a b c d many ia ib ic id = absurd (omega (arith, many))
parted (x ∷ y ∷ z ∷ []) a b c d many ia ib ic id = absurd (omega (arith, many))

-- four more are written
pub wrote_four : {X : Type 0} (spelling : X → List ℕ) (four after rest : List X) (items written total : List ℕ) → rest ≡ four ++ after
    → written ≡ items ++ flat_map spelling four → items ++ flat_map spelling rest ≡ total → written ++ flat_map spelling after ≡ total
wrote_four {X} spelling four after rest items written total is more so_far =
    ap (λ (l : List ℕ). l ++ flat_map spelling after) more
    ∙ append_assoc items (flat_map spelling four) (flat_map spelling after)
    ∙ ap (λ (l : List ℕ). items ++ l) (sym (flat_map-append spelling four after))
    ∙ ap (λ (l : List X). items ++ flat_map spelling l) (sym is) ∙ so_far

-- four more are typed
pub typed_four : {X : Type 0} (typed : X → Type 0) (four after rest xs : List X) → rest ≡ four ++ after
    → All typed four → (All typed rest → All typed xs) → All typed after → All typed xs
typed_four typed four after rest xs is all so_far left = so_far (subst (All typed) (sym is) (All-append typed four after all left))

-- the rest is written, and with it the whole list
pub whole_list : {X : Type 0} (spelling : X → List ℕ) (xs rest : List X) (out items written : List ℕ) → written ≡ items ++ flat_map spelling rest
    → items ++ flat_map spelling rest ≡ (out ++ to_be_bytes w32 (length xs)) ++ flat_map spelling xs
    → written ≡ out ++ list_spelling spelling xs
whole_list spelling xs rest out items written last so_far =
    last ∙ so_far ∙ append_assoc out (to_be_bytes w32 (length xs)) (flat_map spelling xs)
    ∙ ap (λ (l : List ℕ). out ++ (to_be_bytes w32 (length xs) ++ l)) (sym (append-nil (flat_map spelling xs)))

-- four values that are typed
pub are_typed : {X : Type 0} (typed : X → Type 0) (a b c d : X) → typed a → typed b → typed c → typed d → All typed (a ∷ b ∷ c ∷ d ∷ [])
are_typed typed a b c d ta tb tc td = All-cons typed a (b ∷ c ∷ d ∷ []) ta (All-cons typed b (c ∷ d ∷ []) tb
    (All-cons typed c (d ∷ []) tc (All-cons typed d [] td (All-nil typed))))

-- the bytes of four, one after another
pub gathered : {X : Type 0} (spelling : X → List ℕ) (x y z w : X) (a b c d : List ℕ)
    → a ≡ spelling x → b ≡ spelling y → c ≡ spelling z → d ≡ spelling w
    → flat_map (λ (l : List ℕ). l) (a ∷ b ∷ c ∷ d ∷ []) ≡ flat_map spelling (x ∷ y ∷ z ∷ w ∷ [])
gathered spelling x y z w a b c d ia ib ic id = rw (ia, ib, ic, id) refl
