-- What load makes, and why that is refused.
use Rattle.std.proofs.Common.{◌≡◌, ◌∙◌, ◌+◌, ◌*◌, ◌%◌, ◌++◌, ℕ, suc, List, [], ◌∷◌, Result, sym, ap, subst, arith}
use Rattle.std.specs.Prelude.{codes, decimal}
use Rattle.std.proofs.lemmas.List.{append_assoc}
use Rattle.json_reading.specs.Refusals.{and_then}
use Rattle.topology.specs.Shapes.{Shape}
use Rattle.injector.specs.Sources.{Source}
use Rattle.task_runs.specs.declared.status.Status.{Status}
use Rattle.millwheel_cli.specs.Limits.{lines_limit}
use Rattle.millwheel_cli.specs.Files.{source_taken}
use Rattle.millwheel_cli.specs.Loads.{load_text, drawn_after, drawn, record_line, mark_line}

-- what the topology is taken for comes before what the lines are taken for
abbrev behind : ℕ → ℕ → Result Shape Status → Result Source Status
behind seed lines found = and_then found (λ shape. source_taken 0 lines_limit (load_text seed lines))

-- a record line, written in three pieces
pub record_written : (old a b c rest : List ℕ) (line number letter stamp : ℕ) → a ≡ old ++ codes "{\"key\":\"" → b ≡ a ++ letter ∷ []
    → c ≡ b ++ rest → rest ≡ codes "\",\"ts\":" ++ (decimal stamp ++ codes "}\n") → letter ≡ 97 + number % 26
    → stamp ≡ 10 * line + number % 100 → c ≡ old ++ record_line line number
record_written old a b c rest line number letter stamp first second third tail key time =
    let front : List ℕ = codes "{\"key\":\"" in
    third ∙ ap (λ t. t ++ rest) (second ∙ ap (λ t. t ++ letter ∷ []) first)
    ∙ append_assoc (old ++ front) (letter ∷ []) rest
    ∙ append_assoc old front (letter ∷ rest)
    ∙ ap (λ k. old ++ (front ++ (k ∷ rest))) key
    ∙ ap (λ r. old ++ (front ++ ((97 + number % 26) ∷ r))) tail
    ∙ ap (λ s. old ++ (front ++ ((97 + number % 26) ∷ (codes "\",\"ts\":" ++ (decimal s ++ codes "}\n"))))) time

-- a number and one more, in either spelling
suc-is : (n : ℕ) → suc n ≡ n + 1
suc-is n = omega arith

-- one more number is drawn
pub drawn_next : (seed line number next : ℕ) → number ≡ drawn seed line → next ≡ drawn_after number → next ≡ drawn seed (line + 1)
drawn_next seed line number next before is =
    subst (λ n. next ≡ drawn seed n) (suc-is line) (is ∙ ap drawn_after before)

-- one more line
pub load_text_next : (seed line number : ℕ) (text a b : List ℕ) → number ≡ drawn seed (line + 1) → text ≡ load_text seed line
    → a ≡ text ++ record_line line number → b ≡ a ++ mark_line line → b ≡ load_text seed (line + 1)
load_text_next seed line number text a b draws before record_is mark_is =
    let drew : number ≡ drawn seed (suc line) = subst (λ n. number ≡ drawn seed n) (sym (suc-is line)) draws in
    let next : b ≡ load_text seed (suc line) =
    mark_is ∙ ap (λ t. t ++ mark_line line) (record_is ∙ ap (λ t. t ++ record_line line number) before
    ∙ ap (λ n. load_text seed line ++ record_line line n) drew)
    ∙ append_assoc (load_text seed line) (record_line line (drawn seed (suc line))) (mark_line line) in
    subst (λ n. b ≡ load_text seed n) (suc-is line) next
