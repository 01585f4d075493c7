-- Which histories can be printed, and what is remembered of one that is followed entry by entry. Own.
use Rattle.std.specs.Prelude.{◌≡◌, ◌<◌, ◌≤◌, ◌^◌, ◌*◌, ℕ, Bool, false, nat_lt, List, [], ◌∷◌, codes, decimal, None, length, slice_get, unwrap_or, All, IfSome}
use Rattle.std.specs.Fmt.{signed_decimal}
use Rattle.std.specs.Option.{option_map_or}
use Rattle.mw_types.specs.declared.identity.RecordId.{RecordId}
use Rattle.mw_types.specs.declared.identity.RowName.{RowName}
use Rattle.mw_types.specs.declared.delivery.Delivery.{Delivery}
use Rattle.mw_types.specs.declared.delivery.Emission.{Emission}
use Rattle.mw_types.specs.declared.entry.Entry.{Entry}
use Rattle.topology.specs.Shapes.{Shape, parts_of, consumers_of}
use Rattle.row_parts.specs.Contents.{found_delivery}
use Rattle.run_history.specs.Made.{row_written, productions_of, emissions_made}
use Rattle.run_history.specs.Runs.{run_of}
use Rattle.run_history.specs.Texts.{ResultLine}
use Rattle.json.specs.Token.{Token, key, number, string}
use Rattle.json.specs.Tree.{json_tokens}
use Rattle.serde_json.specs.Data.{Data}
use Rattle.serde_json.specs.Written.{outline}

-- the part that an entry is on is there
abbrev pub IsOnPart : Shape → Entry → Type 0
IsOnPart shape entry = IfSome (row_written entry) (λ (row : RowName). row.part < parts_of shape)

-- a history has at most 2^32 entries, each on a part that is there and with at most 8 productions
pub record IsPrintable (shape : Shape) (history : List Entry) : Type 0 where
  pub few : length history ≤ 2 ^ 32
  pub parts : All (IsOnPart shape) history
  pub productions : All (λ entry. length (productions_of entry) ≤ 8) history

-- ---- what is remembered of a history, entry by entry

-- whether a delivery of this id is late, by how many late deliveries each entry made
abbrev pub is_late_id : List ℕ → RecordId → Bool
is_late_id late id = nat_lt id.index (unwrap_or (slice_get late id.commit) 0)

-- each delivery that was made is late or not as these numbers say, one of each entry so far
pub record KnowsLate (late : List ℕ) (made : List Delivery) : Type 0 where
  pub known : (id : RecordId) →
      option_map_or (λ (d : Delivery). d.item.late) (found_delivery id made) false ≡ is_late_id late id
  pub so_far : (id : RecordId) → length late ≤ id.commit → found_delivery id made ≡ None

-- these numbers, one for each entry of the history, tell which of its deliveries are late
pub record HasFollowed (shape : Shape) (history : List Entry) (late : List ℕ) : Type 0 where
  pub each : length late ≡ length history
  pub knows : KnowsLate late (run_of shape history).made

-- ---- what no public clause cites

-- the tokens that are written for a value
abbrev pub tokens_of : Data → List Token
tokens_of value = json_tokens (outline value)

-- the tokens of a line's key and stream
abbrev pub text_tokens : ResultLine → List Token
text_tokens line = key (codes "key") ∷ string line.key ∷ key (codes "stream") ∷ string line.stream ∷ []

-- the tokens of its timestamp and value
abbrev pub number_tokens : ResultLine → List Token
number_tokens line = key (codes "ts") ∷ number (decimal line.stamp)
    ∷ key (codes "value") ∷ number (signed_decimal line.value) ∷ []

-- how many deliveries an entry makes: one of each production to each consumer of its part
abbrev pub sends_made : Shape → Entry → ℕ
sends_made shape entry = option_map_or
    (λ (row : RowName). length (productions_of entry) * length (consumers_of shape row.part))
    (row_written entry) 0

-- the emissions that an entry makes, by whether its cause is late
abbrev pub emissions_by : Shape → Bool → ℕ → Entry → List Emission
emissions_by shape late commit entry = option_map_or
    (λ (row : RowName). emissions_made shape row.part (productions_of entry) late commit)
    (row_written entry) []
