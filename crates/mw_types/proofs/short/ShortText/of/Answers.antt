use Rattle.std.proofs.Common.{arith, rules, ◌≡◌, ◌≤◌, ◌++◌, ◌-◌, ◌∙◌, ℕ, List, length, take, drop, replicate, subst, sym}
use Rattle.std.specs.Prelude.{IsUtf8}
use Rattle.std.proofs.Math.Seq.{drop-append_seam, take-append_seam}
use Rattle.std.proofs.lemmas.List.{drop-replicate, length-append, length-drop, length-replicate}
use Rattle.mw_types.proofs.short.ShortText.of.Goals as goal

-- the text stands before the zeros that it does not cover
pub invariant_of-result : goal.invariant_of-result
invariant_of-result c =
    let text : List ℕ = c.args.text.now in
    let n : ℕ = length text in
    let blank : List ℕ = replicate 30 0 in
    let rest : List ℕ = drop n blank in
    let same : text ≡ c.copy_from_slice.new.self = search rules in
    let whole : length (text ++ rest) ≡ 30 =
    omega (arith, c.requires, length-append text rest, length-drop n blank, length-replicate {A = ℕ} 30 0) in
    let valid : ∥ IsUtf8 (take n (text ++ rest)) ∥₁ = ∣ subst IsUtf8 (sym (take-append_seam text rest)) c.utf8.text ∣₁ in
    let zeros : drop n (text ++ rest) ≡ replicate (30 - n) 0 = drop-append_seam text rest ∙ drop-replicate n 30 0 in
    subst (λ l. (n ≤ 30) × (length (l ++ rest) ≡ 30) × ∥ IsUtf8 (take n (l ++ rest)) ∥₁ × (drop n (l ++ rest) ≡ replicate (30 - n) 0))
    same (c.requires, whole, valid, zeros)
