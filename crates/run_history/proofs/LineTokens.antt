-- The tokens of a line of the result, written one after another.
use Rattle.std.proofs.Common.{◌≡◌, ℕ, ℤ, List, [], ◌∷◌, ◌++◌, codes, decimal, ◌∙◌, ap}
use Rattle.std.specs.Fmt.{signed_decimal}
use Rattle.json.specs.Token.{Token, begin_object, end_object, key, string, number}
use Rattle.run_history.specs.Texts.{ResultLine, line_data}
use Rattle.run_history.specs.Printing.{number_tokens, text_tokens, tokens_of}
use Rattle.run_history.proofs.EntryTexts.{signed_decimal-of_integer}
use Rattle.list_lemmas.proofs.Lists.{append_then}

-- what is written of a line's key and stream
pub texts_written : (line : ResultLine) (k s : List ℕ) (old keyed streamed : List Token) → k ≡ line.key → s ≡ line.stream
    → keyed ≡ old ++ key (codes "key") ∷ string k ∷ []
    → streamed ≡ keyed ++ key (codes "stream") ∷ string s ∷ []
    → streamed ≡ old ++ text_tokens line
texts_written line k s old keyed streamed of_key of_stream e1 e2 =
    append_then old keyed streamed _ _ e1 e2
    ∙ ap (λ k. old ++ tokens k s) of_key ∙ ap (λ s. old ++ tokens line.key s) of_stream
  where
    tokens : (k s : List ℕ) → List Token
    tokens k s = key (codes "key") ∷ string k ∷ key (codes "stream") ∷ string s ∷ []

-- what is written of its timestamp and value
pub numbers_written : (line : ResultLine) (n : ℕ) (v : ℤ) (old named stamped valued numbered : List Token)
    → n ≡ line.stamp → v ≡ line.value
    → named ≡ old ++ key (codes "ts") ∷ []
    → stamped ≡ named ++ number (decimal n) ∷ []
    → valued ≡ stamped ++ key (codes "value") ∷ []
    → numbered ≡ valued ++ number (signed_decimal v) ∷ []
    → numbered ≡ old ++ number_tokens line
numbers_written line n v old named stamped valued numbered of_stamp of_value e1 e2 e3 e4 =
    append_then old valued numbered _ _ (append_then old stamped valued _ _ (append_then old named stamped _ _ e1 e2) e3) e4
    ∙ ap (λ n. old ++ tokens n v) of_stamp ∙ ap (λ v. old ++ tokens line.stamp v) of_value
  where
    tokens : (n : ℕ) (v : ℤ) → List Token
    tokens n v = key (codes "ts") ∷ number (decimal n) ∷ key (codes "value") ∷ number (signed_decimal v) ∷ []

-- what is written of a line is an object
pub line_written : (line : ResultLine) (old begun named numbered ended : List Token)
    → begun ≡ old ++ begin_object ∷ []
    → named ≡ begun ++ text_tokens line
    → numbered ≡ named ++ number_tokens line
    → ended ≡ numbered ++ end_object ∷ []
    → ended ≡ old ++ tokens_of (line_data line)
line_written line old begun named numbered ended e1 e2 e3 e4 =
    append_then old numbered ended _ _ (append_then old named numbered _ _ (append_then old begun named _ _ e1 e2) e3) e4
    ∙ ap (λ d. old ++ tokens d) (signed_decimal-of_integer line.value)
  where
    tokens : (digits : List ℕ) → List Token
    tokens digits = begin_object ∷ key (codes "key") ∷ string line.key ∷ key (codes "stream") ∷ string line.stream
        ∷ key (codes "ts") ∷ number (decimal line.stamp) ∷ key (codes "value") ∷ number digits ∷ end_object ∷ []
