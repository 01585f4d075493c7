-- What the rows of `clap` have for an argument, after one more use.
use Rattle.std.proofs.Common.{◌≡◌, ◌∙◌, Bool, true, false, true≢false, cond, ℕ, List, [], ◌∷◌, ◌++◌, Option, Some, None, refl, sym, ap, is_some, option_map}
use Rattle.std.proofs.lemmas.Bool.{eq-eqb}
use Rattle.std.specs.Cmp.Lexicographic.{same_text}
use Rattle.std.specs.List.{find}
use Rattle.std.specs.Option.{unwrap_or}
use Rattle.std.specs.Prelude.{option_and_then, slice_get}
use Rattle.std.specs.Str.{bytes_eq}
use Rattle.clap.specs.Values.{read_as}
use Rattle.clap.specs.Walk.{Row, Text, all_of, first_of, has_row, one_of, row_text, with_values, without}
use Rattle.clap.specs.declared.builder.value_parser.Reading.{Reading}
use Rattle.clap.specs.declared.parser.matches.ValueSource.{ValueSource}

-- the values of a row, and how they are read
abbrev pub Values : Type 0
Values = List Text × Reading

abbrev pub view : Row → Values
view r = (r.values, r.reading)

-- what the rows have for an argument
abbrev pub seen : Text → List Row → Option Values
seen id rows = option_map view (find (λ r. bytes_eq r.id id) rows)

abbrev pub more : List Text → Values → Values
more vs had = (had.0 ++ vs, had.1)

pub bytes_eq-self : (xs : List ℕ) → bytes_eq xs xs ≡ true
bytes_eq-self [] = refl
bytes_eq-self (x ∷ xs) = rw (eq-eqb x x refl) (bytes_eq-self xs)

pub seen-more : (id : Text) (how : Reading) (s : ValueSource) (vs : List Text) (rows : List Row)
    → seen id (with_values id how s vs rows) ≡ Some (more vs (unwrap_or (seen id rows) ([], how)))
seen-more id how s vs [] = simp (bytes_eq-self id)
seen-more id how s vs (r ∷ rs) = go (bytes_eq r.id id) refl (seen-more id how s vs rs)
  where
    go : (b : Bool) → bytes_eq r.id id ≡ b → seen id (with_values id how s vs rs) ≡ Some (more vs (unwrap_or (seen id rs) ([], how)))
        → seen id (with_values id how s vs (r ∷ rs)) ≡ Some (more vs (unwrap_or (seen id (r ∷ rs)) ([], how)))
    go true e ih = simp e
    go false e ih = simp e ih

kept : (id j : Text) (r : Row) (xs ys : List Row) → seen j xs ≡ seen j ys → seen j (r ∷ xs) ≡ seen j (r ∷ ys)
kept id j r xs ys same = go (bytes_eq r.id j)
  where
    go : (b : Bool) → option_map view (cond b (Some r) (find (λ x. bytes_eq x.id j) xs))
        ≡ option_map view (cond b (Some r) (find (λ x. bytes_eq x.id j) ys))
    go true = refl
    go false = same

pub seen-other : (id j : Text) (how : Reading) (s : ValueSource) (vs : List Text) (rows : List Row)
    → bytes_eq id j ≡ false → seen j (with_values id how s vs rows) ≡ seen j rows
seen-other id j how s vs [] apart = simp apart
seen-other id j how s vs (r ∷ rs) apart = go (bytes_eq r.id id) refl (seen-other id j how s vs rs apart)
  where
    go : (b : Bool) → bytes_eq r.id id ≡ b → seen j (with_values id how s vs rs) ≡ seen j rs
        → seen j (with_values id how s vs (r ∷ rs)) ≡ seen j (r ∷ rs)
    go true e ih =
        let here : bytes_eq r.id j ≡ false = ap (λ t. bytes_eq t j) (same_text r.id id (sym e)) ∙ apart in
        simp (e, here)
    go false e ih = rw e (kept id j r (with_values id how s vs rs) rs ih)

pub has_row-seen : (id : Text) (rows : List Row) → has_row id rows ≡ is_some (seen id rows)
has_row-seen id [] = refl
has_row-seen id (r ∷ rs) = go (bytes_eq r.id id) refl (has_row-seen id rs)
  where
    go : (b : Bool) → bytes_eq r.id id ≡ b → has_row id rs ≡ is_some (seen id rs) → has_row id (r ∷ rs) ≡ is_some (seen id (r ∷ rs))
    go true e ih = simp e
    go false e ih = simp e ih

pub without-absent : (id : Text) (rows : List Row) → is_some (seen id rows) ≡ false → without id rows ≡ rows
without-absent id [] none = refl
without-absent id (r ∷ rs) none = go (bytes_eq r.id id) refl (without-absent id rs)
  where
    go : (b : Bool) → bytes_eq r.id id ≡ b → (is_some (seen id rs) ≡ false → without id rs ≡ rs) → without id (r ∷ rs) ≡ r ∷ rs
    go true e ih = absurd (true≢false (simp e at none))
    go false e ih = rw e (ap (λ xs. r ∷ xs) (ih (simp e at none)))

-- what the getters read
pub all_of-seen : (id : Text) (rows : List Row) → all_of id rows ≡ option_map (λ p. p.0) (seen id rows)
all_of-seen id rows = go (find (λ r. bytes_eq r.id id) rows)
  where
    go : (o : Option Row) → option_map (λ r. r.values) o ≡ option_map (λ p. p.0) (option_map view o)
    go None = refl
    go (Some r) = refl

pub first_of-seen : (id : Text) (rows : List Row) → first_of id rows ≡ option_and_then (λ p. slice_get p.0 0) (seen id rows)
first_of-seen id rows = go (find (λ r. bytes_eq r.id id) rows)
  where
    go : (o : Option Row)
        → option_and_then (λ (r : Row). slice_get r.values 0) o ≡ option_and_then (λ (p : Values). slice_get p.0 0) (option_map view o)
    go None = refl
    go (Some r) = refl

pub one_of-seen : (id : Text) (rows : List Row)
    → one_of id rows ≡ option_and_then (λ p. option_map (read_as p.1) (slice_get p.0 0)) (seen id rows)
one_of-seen id rows = go (find (λ r. bytes_eq r.id id) rows)
  where
    go : (o : Option Row)
        → option_and_then row_text o ≡ option_and_then (λ (p : Values). option_map (read_as p.1) (slice_get p.0 0)) (option_map view o)
    go None = refl
    go (Some r) = refl
