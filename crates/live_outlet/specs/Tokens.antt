-- The tokens of a live line. No public clause cites this module. Own.
use Rattle.std.specs.Prelude.{List, [], ◌∷◌, codes, decimal}
use Rattle.std.specs.Fmt.{signed_decimal}
use Rattle.mw_types.specs.PrintedIds.{printed_id}
use Rattle.json.specs.Token.{Token, key, number, string}
use Rattle.live_outlet.specs.LiveLines.{LiveLine}

-- the tokens of a line's id, key and stream
abbrev pub text_tokens : LiveLine → List Token
text_tokens line = key (codes "id") ∷ string (printed_id line.id)
    ∷ key (codes "key") ∷ string line.key ∷ key (codes "stream") ∷ string line.stream ∷ []

-- the tokens of its timestamp and value
abbrev pub number_tokens : LiveLine → List Token
number_tokens line = key (codes "ts") ∷ number (decimal line.stamp)
    ∷ key (codes "value") ∷ number (signed_decimal line.value) ∷ []
