-- How much work a case begins with.
use Rattle.std.proofs.Common.{◌≡◌, ◌≤◌, ◌+◌, ℕ, Bool, true, false, cond, List, [], ◌∷◌, ◌++◌, length, map, filter, refl, sym, ◌∙◌, ap, arith, length-append}
use Rattle.std.specs.Prelude.{Option, Some, None, nat_lt}
use Rattle.std.specs.Option.{option_map_or}
use Rattle.std.specs.List.{range_with_len}
use Rattle.std.proofs.lemmas.List.Elements.{filter-append}
use Rattle.std.proofs.lemmas.List.FromFn.{map-range_with_len_more}
use Rattle.mw_types.specs.declared.kind.Kind.{Kind}
use Rattle.mw_types.specs.declared.kind.Kind.TheVariants.{Count, Spike, Pass}
use Rattle.mw_types.specs.declared.state.State.TheVariants.{Injector}
use Rattle.topology.specs.Shapes.{kind_of}
use Rattle.computations.specs.Handlers.{fresh_state}
use Rattle.row_parts.specs.Contents.{cursor_in}
use Rattle.run_history.specs.Cases.{CaseShape, source_of}
use Rattle.run_history.specs.Runs.{empty_run}
use Rattle.run_history.specs.Watermarks.{cursor_of}
use Rattle.run_history.specs.Finished.{has_line}

-- nothing is injected before any entry
cursor-none : (case : CaseShape) (part : ℕ) → cursor_of case empty_run part ≡ 0
cursor-none case part = by_kind (kind_of case.topology part)
  where
    by_kind : (o : Option Kind) → cursor_in (option_map_or fresh_state o (Injector 0)) ≡ 0
    by_kind None = refl
    by_kind (Some (Count size)) = refl
    by_kind (Some (Spike last times)) = refl
    by_kind (Some Pass) = refl

-- a list is itself, gone through by what changes nothing
map-same : (ns : List ℕ) → map (λ (n : ℕ). n) ns ≡ ns
map-same [] = refl
map-same (n ∷ ns) = ap (λ l. n ∷ l) (map-same ns)

-- a range with one more number
range-more : (n : ℕ) → range_with_len 0 (n + 1) ≡ range_with_len 0 n ++ n ∷ []
range-more n =
    sym (map-same (range_with_len 0 (n + 1))) ∙ map-range_with_len_more (λ (m : ℕ). m) 0 n n (omega arith)
    ∙ ap (λ l. l ++ n ∷ []) (map-same (range_with_len 0 n))

-- how many injectors before this part have a line
abbrev pub lines_before : CaseShape → ℕ → ℕ
lines_before case part = length (filter (has_line case empty_run) (range_with_len 0 part))

-- one more injector
pub before-more : (case : CaseShape) (part : ℕ) (b : Bool) → nat_lt 0 (length (source_of case part)) ≡ b
    → lines_before case (part + 1) ≡ lines_before case part + cond b 1 0
before-more case part b is =
    let has : has_line case empty_run part ≡ b = ap (λ n. nat_lt n (length (source_of case part))) (cursor-none case part) ∙ is in
    ap (λ l. length (filter (has_line case empty_run) l)) (range-more part)
    ∙ ap length (filter-append (has_line case empty_run) (range_with_len 0 part) (part ∷ []))
    ∙ length-append (filter (has_line case empty_run) (range_with_len 0 part)) (filter (has_line case empty_run) (part ∷ []))
    ∙ ap (λ n. lines_before case part + n) (ap (λ c. length (cond c (part ∷ []) [])) has ∙ by_b b)
  where
    by_b : (b : Bool) → length (cond b (part ∷ []) []) ≡ cond b 1 0
    by_b true = refl
    by_b false = refl

-- one at most
pub one-small : (b : Bool) → cond b 1 0 ≤ 1
one-small true = omega arith
one-small false = omega arith
