-- A list with a value for each part.
use Rattle.std.proofs.Common.{◌≡◌, ℕ, ◌+◌, ◌<◌, List, [], ◌∷◌, ◌++◌, map, length, get_or, sym, ◌∙◌, ap, arith}
use Rattle.std.specs.List.{range_with_len}
use Rattle.std.proofs.lemmas.List.FromFn.{length-map-range_with_len, get_or-map-range_with_len, map-range_with_len_more}
use Rattle.topology.specs.Shapes.{Shape, parts_of}
use Rattle.topology.specs.Kept.{by_part}

-- such a list has a place for each part
pub by_part_covers : {X : Type 0} (f : Shape → ℕ → X) (kept shape : Shape) (xs ys : List X) (part : ℕ)
    → kept ≡ shape → ys ≡ by_part f kept → xs ≡ ys → part < parts_of shape → part < length xs
by_part_covers f kept shape xs ys part same made seen within =
    let long : length xs ≡ parts_of shape = ap length (seen ∙ made) ∙ length-map-range_with_len (f kept) 0 (parts_of kept) ∙ ap parts_of same in
    omega arith

-- and at each place that part's value
pub by_part_at : {X : Type 0} (f : Shape → ℕ → X) (kept shape : Shape) (xs ys : List X) (part : ℕ) (d : X)
    → kept ≡ shape → ys ≡ by_part f kept → xs ≡ ys → part < parts_of shape → get_or xs part d ≡ f shape part
by_part_at f kept shape xs ys part d same made seen within =
    ap (λ l. get_or l part d) (seen ∙ made ∙ ap (by_part f) same)
    ∙ get_or-map-range_with_len (f shape) 0 (parts_of shape) part part d within (omega arith)

-- the value of one more part is pushed
pub by_part_push : {X : Type 0} (f : ℕ → X) (n : ℕ) (before after : List X) (x : X)
    → before ≡ map f (range_with_len 0 n) → x ≡ f n → after ≡ before ++ x ∷ [] → after ≡ map f (range_with_len 0 (n + 1))
by_part_push f n before after x so_far value pushed =
    pushed ∙ ap (λ l. l ++ x ∷ []) so_far ∙ ap (λ y. map f (range_with_len 0 n) ++ y ∷ []) value
    ∙ sym (map-range_with_len_more f 0 n n (omega arith))
