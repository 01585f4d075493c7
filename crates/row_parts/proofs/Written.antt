-- What stands in a list of bytes after several writes.
use Rattle.std.proofs.Common.{◌≡◌, ℕ, List, [], ◌∷◌, ◌++◌, sym, ap, ◌∙◌, append_assoc}
use Rattle.std.specs.List.{concat}
use Rattle.std.proofs.lemmas.List.{append-nil}

-- one more write
pub one_more : (out pieces last before now : List ℕ) → before ≡ out ++ pieces → now ≡ before ++ last → now ≡ out ++ (pieces ++ last)
one_more out pieces last before now so_far next = next ∙ ap (λ (l : List ℕ). l ++ last) so_far ∙ append_assoc out pieces last

-- three writes
pub wrote_3 : (out a b c one two three : List ℕ) → one ≡ out ++ a → two ≡ one ++ b → three ≡ two ++ c
    → three ≡ out ++ concat (a ∷ b ∷ c ∷ [])
wrote_3 out a b c one two three w1 w2 w3 =
    one_more out (a ++ b) c two three (one_more out a b one two w1 w2) w3
    ∙ ap (λ (l : List ℕ). out ++ l) (append_assoc a b c ∙ ap (λ (l : List ℕ). a ++ (b ++ l)) (sym (append-nil c)))

-- four writes
pub wrote_4 : (out a b c d one two three four : List ℕ) → one ≡ out ++ a → two ≡ one ++ b → three ≡ two ++ c → four ≡ three ++ d
    → four ≡ out ++ concat (a ∷ b ∷ c ∷ d ∷ [])
wrote_4 out a b c d one two three four w1 w2 w3 w4 =
    one_more out (concat (a ∷ b ∷ c ∷ [])) d three four (wrote_3 out a b c one two three w1 w2 w3) w4
    ∙ ap (λ (l : List ℕ). out ++ l) (append_assoc a (b ++ (c ++ [])) d
    ∙ ap (λ (l : List ℕ). a ++ l) (append_assoc b (c ++ []) d
    ∙ ap (λ (l : List ℕ). b ++ l) (ap (λ (l : List ℕ). l ++ d) (append-nil c) ∙ ap (λ (l : List ℕ). c ++ l) (sym (append-nil d)))))
