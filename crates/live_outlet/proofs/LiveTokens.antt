-- The tokens of a live line's texts, written one after another.
use Rattle.std.proofs.Common.{◌≡◌, ℕ, List, [], ◌∷◌, ◌++◌, codes, ◌∙◌, ap}
use Rattle.mw_types.specs.PrintedIds.{printed_id}
use Rattle.json.specs.Token.{Token, key, string}
use Rattle.live_outlet.specs.LiveLines.{LiveLine}
use Rattle.live_outlet.specs.Tokens.{text_tokens}
use Rattle.list_lemmas.proofs.Lists.{append_then}

-- what is written of a line's id, key and stream
pub texts_written : (line : LiveLine) (i k s : List ℕ) (old named keyed streamed : List Token)
    → i ≡ printed_id line.id → k ≡ line.key → s ≡ line.stream
    → named ≡ old ++ key (codes "id") ∷ string i ∷ []
    → keyed ≡ named ++ key (codes "key") ∷ string k ∷ []
    → streamed ≡ keyed ++ key (codes "stream") ∷ string s ∷ []
    → streamed ≡ old ++ text_tokens line
texts_written line i k s old named keyed streamed of_id of_key of_stream e1 e2 e3 =
    append_then old keyed streamed _ _ (append_then old named keyed _ _ e1 e2) e3
    ∙ ap (λ i. old ++ tokens i k s) of_id
    ∙ ap (λ k. old ++ tokens (printed_id line.id) k s) of_key
    ∙ ap (λ s. old ++ tokens (printed_id line.id) line.key s) of_stream
  where
    tokens : (i k s : List ℕ) → List Token
    tokens i k s = key (codes "id") ∷ string i ∷ key (codes "key") ∷ string k
        ∷ key (codes "stream") ∷ string s ∷ []
