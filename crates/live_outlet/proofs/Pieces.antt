-- Pieces of live lines behind a text that is made of such lines.
use Rattle.std.proofs.Common.{◌≡◌, ℕ, zero, suc, ◌+◌, ◌-◌, ◌<◌, ◌≤◌, ◌⊎◌, Bool, true, false, List, [], ◌∷◌, ◌++◌, length, map, take, drop, inl, inr, refl, sym, ◌∙◌, ap, subst, arith, append_assoc, append-nil, zero-add}
use Rattle.std.specs.Prelude.{Contains}
use Rattle.std.specs.List.{AllByRecursion}
use Rattle.std.proofs.lemmas.Bool.{cases_lt}
use Rattle.std.proofs.lemmas.List.{take-append-drop, take-append-le, take_all}
use Rattle.std.proofs.lemmas.List.Concat.{flat_map-append}
use Rattle.std.proofs.lemmas.List.Elements.{Contains-append_left, Contains-append_right}
use Rattle.mw_types.specs.declared.delivery.Emission.{Emission}
use Rattle.topology.specs.Shapes.{Shape}
use Rattle.text_lines.specs.Lines.{last_line}
use Rattle.list_lemmas.proofs.Lists.{each-append, each-weaker}
use Rattle.live_outlet.specs.LiveLines.{live_of, live_line_of, IsLive}
use Rattle.live_outlet.specs.Outlets.{live_lines, AreLive, piece_of, owes_behind}
use Rattle.live_outlet.specs.Covering.{told_by, IsBegun, ended, IsMadeOf, StandIn}

-- ---- lines that end

-- live lines are lines that end
lines-ended : (shape : Shape) (es : List Emission) → live_lines shape es ≡ ended (map (told_by shape) es)
lines-ended shape [] = refl
lines-ended shape (e ∷ es) = ap (λ l. live_line_of shape e ++ l) (lines-ended shape es)

-- more lines that end behind a text without a rest
ended-more : (lines ms : List (List ℕ)) (rest r : List ℕ) → rest ≡ []
    → (ended lines ++ rest) ++ (ended ms ++ r) ≡ ended (lines ++ ms) ++ r
ended-more lines ms rest r none =
    ap (λ l. (ended lines ++ l) ++ (ended ms ++ r)) none
    ∙ ap (λ l. l ++ (ended ms ++ r)) (append-nil (ended lines))
    ∙ sym (append_assoc (ended lines) (ended ms) r)
    ∙ ap (λ l. l ++ r) (sym (flat_map-append (λ (line : List ℕ). line ++ 10 ∷ []) lines ms))

-- behind an LF the rest is a line too
ended-behind : (lines ms : List (List ℕ)) (rest r : List ℕ)
    → (ended lines ++ rest) ++ 10 ∷ (ended ms ++ r) ≡ ended (lines ++ rest ∷ ms) ++ r
ended-behind lines ms rest r =
    append_assoc (ended lines) rest (10 ∷ (ended ms ++ r))
    ∙ ap (λ l. ended lines ++ l) (sym (append_assoc rest (10 ∷ []) (ended ms ++ r)) ∙ sym (append_assoc (rest ++ 10 ∷ []) (ended ms) r))
    ∙ sym (append_assoc (ended lines) ((rest ++ 10 ∷ []) ++ ended ms) r)
    ∙ ap (λ l. l ++ r) (sym (flat_map-append (λ (line : List ℕ). line ++ 10 ∷ []) lines (rest ∷ ms)))

-- ---- lines of emissions

-- the live lines of emissions are of those emissions
begun-each : (shape : Shape) (run es : List Emission) → AreLive shape es → AllByRecursion (Contains run) es
    → AllByRecursion (IsBegun shape run) (map (told_by shape) es)
begun-each shape run [] live of_run = tt
begun-each shape run (e ∷ es) live of_run = (
  record { emission = e; emitted = of_run.0; live = live.0; left = []; whole = append-nil (told_by shape e) },
  begun-each shape run es live.1 of_run.1,
)

-- a rest is a line, where there is an emission at all
begun-rest : (shape : Shape) (run es : List Emission) (e : Emission) (rest : List ℕ) → AreLive shape (e ∷ es)
    → AllByRecursion (Contains run) (e ∷ es) → AllByRecursion (IsBegun shape run) (last_line rest) → IsBegun shape run rest
begun-rest shape run es e [] live of_run last =
    record { emission = e; emitted = of_run.0; live = live.0; left = told_by shape e; whole = refl }
begun-rest shape run es e (b ∷ bs) live of_run last = last.0

-- and a line may be a rest
rest-begun : (shape : Shape) (run : List Emission) (line : List ℕ) → IsBegun shape run line
    → AllByRecursion (IsBegun shape run) (last_line line)
rest-begun shape run [] is = tt
rest-begun shape run (b ∷ bs) is = (is, tt)

-- what holds of an emission and some lines
abbrev Stands : Shape → List (List ℕ) → Emission → Type 0
Stands shape lines e = Contains lines (told_by shape e) × IsLive (live_of shape e)

-- what stands goes on to stand among more lines
pub stand-before : (shape : Shape) (lines more : List (List ℕ)) (es : List Emission) → StandIn shape lines es
    → StandIn shape (lines ++ more) es
stand-before shape lines more es stand = each-weaker (Stands shape lines) (Stands shape (lines ++ more))
    (λ e is. (Contains-append_left lines more (told_by shape e) is.0, is.1)) es stand

stand-behind : (shape : Shape) (lines more : List (List ℕ)) (es : List Emission) → StandIn shape more es
    → StandIn shape (lines ++ more) es
stand-behind shape lines more es stand = each-weaker (Stands shape more) (Stands shape (lines ++ more))
    (λ e is. (Contains-append_right lines more (told_by shape e) is.0, is.1)) es stand

-- the live lines of emissions stand among themselves
stand-themselves : (shape : Shape) (es : List Emission) → AreLive shape es → StandIn shape (map (told_by shape) es) es
stand-themselves shape [] live = tt
stand-themselves shape (e ∷ es) live = (
  ((0, omega arith, refl), live.0),
  stand-behind shape (told_by shape e ∷ []) (map (told_by shape) es) es (stand-themselves shape es live.1),
)

-- ---- a whole piece

-- more lines stand behind those of a text, and the lines of these emissions are among them; where an unfinished line may
-- stand at its end, an LF is owed
pub record Grows (shape : Shape) (run : List Emission) (lines : List (List ℕ)) (es : List Emission) (owes : Bool)
    (text : List ℕ) : Type 0 where
  pub more : List (List ℕ)
  pub made : IsMadeOf shape run (lines ++ more) text
  pub finished : (made.rest ≡ []) ⊎ (owes ≡ true)
  pub stand : StandIn shape (lines ++ more) es

-- a text is made of the same lines where nothing is appended
made-none : (shape : Shape) (run : List Emission) (lines : List (List ℕ)) (text : List ℕ) → IsMadeOf shape run lines text
    → IsMadeOf shape run (lines ++ []) (text ++ [])
made-none shape run lines text is = record {
  rest = is.rest;
  whole = append-nil text ∙ is.whole ∙ ap (λ l. ended l ++ is.rest) (sym (append-nil lines));
  each = subst (AllByRecursion (IsBegun shape run)) (sym (append-nil lines)) is.each;
  last = is.last;
}

-- or where lines are appended and a rest, to a text without a rest
made-more : (shape : Shape) (run : List Emission) (lines ms : List (List ℕ)) (text piece : List ℕ) (is : IsMadeOf shape run lines text)
    → is.rest ≡ [] → IsMadeOf shape run ms piece → IsMadeOf shape run (lines ++ ms) (text ++ piece)
made-more shape run lines ms text piece is none more = record {
  rest = more.rest;
  whole = ap (λ t. t ++ piece) is.whole ∙ ap (λ p. (ended lines ++ is.rest) ++ p) more.whole ∙ ended-more lines ms is.rest more.rest none;
  each = each-append (IsBegun shape run) lines ms is.each more.each;
  last = more.last;
}

-- or behind an LF
made-behind : (shape : Shape) (run : List Emission) (lines ms : List (List ℕ)) (text piece : List ℕ) (is : IsMadeOf shape run lines text)
    → IsBegun shape run is.rest → IsMadeOf shape run ms piece → IsMadeOf shape run (lines ++ is.rest ∷ ms) (text ++ 10 ∷ piece)
made-behind shape run lines ms text piece is begun more = record {
  rest = more.rest;
  whole = ap (λ t. t ++ 10 ∷ piece) is.whole ∙ ap (λ p. (ended lines ++ is.rest) ++ 10 ∷ p) more.whole
      ∙ ended-behind lines ms is.rest more.rest;
  each = each-append (IsBegun shape run) lines (is.rest ∷ ms) is.each (begun, more.each);
  last = more.last;
}

-- live lines are made of live lines
made-lines : (shape : Shape) (run es : List Emission) → AreLive shape es → AllByRecursion (Contains run) es
    → IsMadeOf shape run (map (told_by shape) es) (live_lines shape es)
made-lines shape run es live of_run = record {
  rest = [];
  whole = lines-ended shape es ∙ sym (append-nil (ended (map (told_by shape) es)));
  each = begun-each shape run es live of_run;
  last = tt;
}

-- an LF that is not owed is owed by no one
not_owed : (rest : List ℕ) → (rest ≡ []) ⊎ (◌≡◌ {A = Bool} false true) → rest ≡ []
not_owed rest (inl none) = none
not_owed rest (inr owed) = absurd (cc)

-- a whole piece is written
pub piece-written : (shape : Shape) (run : List Emission) (lines : List (List ℕ)) (text : List ℕ) (owes : Bool) (es : List Emission)
    (is : IsMadeOf shape run lines text) → (is.rest ≡ []) ⊎ (owes ≡ true) → AreLive shape es → AllByRecursion (Contains run) es
    → Grows shape run lines es (owes_behind owes (live_lines shape es)) (text ++ piece_of owes (live_lines shape es))
unfolding made-none made-more made-lines made-behind
piece-written shape run lines text owes [] is finished live of_run =
    record { more = []; made = made-none shape run lines text is; finished = finished; stand = tt }
piece-written shape run lines text false (e ∷ es) is finished live of_run = record {
  more = map (told_by shape) (e ∷ es);
  made = made-more shape run lines (map (told_by shape) (e ∷ es)) text (live_lines shape (e ∷ es)) is (not_owed is.rest finished)
      (made-lines shape run (e ∷ es) live of_run);
  finished = inl refl;
  stand = stand-behind shape lines (map (told_by shape) (e ∷ es)) (e ∷ es) (stand-themselves shape (e ∷ es) live);
}
piece-written shape run lines text true (e ∷ es) is finished live of_run = record {
  more = is.rest ∷ map (told_by shape) (e ∷ es);
  made = made-behind shape run lines (map (told_by shape) (e ∷ es)) text (live_lines shape (e ∷ es)) is
      (begun-rest shape run es e is.rest live of_run is.last) (made-lines shape run (e ∷ es) live of_run);
  finished = inl refl;
  stand = stand-behind shape lines (is.rest ∷ map (told_by shape) (e ∷ es)) (e ∷ es)
      (stand-behind shape (is.rest ∷ []) (map (told_by shape) (e ∷ es)) (e ∷ es) (stand-themselves shape (e ∷ es) live));
}

-- ---- a piece that is cut off

-- a beginning that goes past a first list
take-past : (xs ys : List ℕ) (n : ℕ) → take (length xs + n) (xs ++ ys) ≡ xs ++ take n ys
take-past [] ys n = ap (λ k. take k ys) (zero-add n)
take-past (x ∷ xs) ys n =
    let more : length (x ∷ xs) + n ≡ suc (length xs + n) = omega arith in
    ap (λ k. take k (x ∷ (xs ++ ys))) more ∙ ap (λ l. x ∷ l) (take-past xs ys n)

-- a beginning of live lines is made of live lines
lines-cut : (shape : Shape) (run es : List Emission) (count : ℕ) → AreLive shape es → AllByRecursion (Contains run) es
    → (lines : List (List ℕ)) × IsMadeOf shape run lines (take count (live_lines shape es))
lines-cut shape run [] count live of_run =
    ([], record { rest = []; whole = take_all count [] (omega arith); each = tt; last = tt })
lines-cut shape run (e ∷ es) count live of_run =
    by_place (cases_lt (length (told_by shape e)) count) (lines-cut shape run es (count - (length (told_by shape e) + 1)) live.1 of_run.1)
  where
    line : List ℕ
    line = told_by shape e

    after : List ℕ
    after = live_lines shape es

    begun : IsBegun shape run (take count line)
    begun = record {
      emission = e;
      emitted = of_run.0;
      live = live.0;
      left = drop count line;
      whole = take-append-drop count line;
    }

    by_place : (length line < count) ⊎ (count ≤ length line)
        → ((lines : List (List ℕ)) × IsMadeOf shape run lines (take (count - (length line + 1)) after))
        → (lines : List (List ℕ)) × IsMadeOf shape run lines (take count ((line ++ 10 ∷ []) ++ after))
    by_place (inr within) next = (
      [],
      record {
        rest = take count line;
        whole = ap (take count) (append_assoc line (10 ∷ []) after) ∙ take-append-le count line (10 ∷ after) within;
        each = tt;
        last = rest-begun shape run (take count line) begun;
      },
    )
    by_place (inl past) next =
        let left = count - (length line + 1) in
        let at : count ≡ length line + suc left = omega (arith, past) in
        let made = next.1 in (
          line ∷ next.0,
          record {
            rest = made.rest;
            whole = ap (take count) (append_assoc line (10 ∷ []) after)
                ∙ ap (λ k. take k (line ++ 10 ∷ after)) at
                ∙ take-past line (10 ∷ after) (suc left)
                ∙ sym (append_assoc line (10 ∷ []) (take left after))
                ∙ ap (λ l. (line ++ 10 ∷ []) ++ l) made.whole
                ∙ sym (append_assoc (line ++ 10 ∷ []) (ended next.0) made.rest);
            each = (record { emission = e; emitted = of_run.0; live = live.0; left = []; whole = append-nil line }, made.each);
            last = made.last;
          },
        )

-- a beginning of a piece is written
pub piece-begun : (shape : Shape) (run : List Emission) (lines : List (List ℕ)) (text : List ℕ) (owes : Bool) (es : List Emission)
    (count : ℕ)
    (is : IsMadeOf shape run lines text) → (is.rest ≡ []) ⊎ (owes ≡ true) → AreLive shape es → AllByRecursion (Contains run) es
    → (more : List (List ℕ)) × IsMadeOf shape run (lines ++ more) (text ++ take count (piece_of owes (live_lines shape es)))
piece-begun shape run lines text owes [] count is finished live of_run =
    let none = sym (take_all count [] (omega arith)) in
    ([], subst (λ l. IsMadeOf shape run (lines ++ []) (text ++ l)) none (made-none shape run lines text is))
piece-begun shape run lines text false (e ∷ es) count is finished live of_run =
    let cut = lines-cut shape run (e ∷ es) count live of_run in
    (cut.0, made-more shape run lines cut.0 text _ is (not_owed is.rest finished) cut.1)
piece-begun shape run lines text true (e ∷ es) zero is finished live of_run = ([], made-none shape run lines text is)
piece-begun shape run lines text true (e ∷ es) (suc count) is finished live of_run =
    let cut = lines-cut shape run (e ∷ es) count live of_run in
    (is.rest ∷ cut.0, made-behind shape run lines cut.0 text _ is (begun-rest shape run es e is.rest live of_run is.last) cut.1)
