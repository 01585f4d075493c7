-- How a plain count splits into shards: a split gives each key the number of a shard. Own.
use Rattle.std.specs.Prelude.{◌≡◌, ◌≢◌, ℕ, ◌<◌, ◌==◌, if◌then◌else◌, List, [], ◌∷◌, ◌++◌, length, filter, sum_by, All, codes}
use Rattle.std.specs.List.{flat_map, list_any, enumerate_from}
use Rattle.std.specs.List.Sorted.{IsPermutation, IsSorted}
use Rattle.mw_types.specs.declared.record.Record.{Record}
use Rattle.topology.specs.declared.subscription.By.{By}
use Rattle.topology.specs.Shapes.{Shape, Reading, ComputationShape, injectors_of, extracted}
use Rattle.run_history.specs.Cases.{CaseShape, source_of}
use Rattle.run_history.specs.Texts.{ResultLine, line_cmp, as_line, line_data}
use Rattle.plain_answer.specs.Plain.{Keyed, injected_of, injected_count, late_count, fired_of, handled_of, plain_lines}
use Rattle.serde_json.specs.Data.{Data, object, member, no_members, number, unsigned}

-- of each key the number of its shard
abbrev pub Split : Type 0
Split = List ℕ → ℕ

-- of the members that a part reads those whose rows are in a shard
abbrev pub reads_in : Split → ℕ → List Keyed → List Keyed
reads_in split shard reads = filter (λ (r : Keyed). split r.0 == shard) reads

-- of some records those whose keys are in a shard
abbrev pub records_in : Split → ℕ → List Record → List Record
records_in split shard items = filter (λ (r : Record). split r.key == shard) items

-- whatever a computation extracts of a key is in the shard of the key, so that all that comes of a record
-- stays in one shard
abbrev pub FollowsReadings : Shape → Split → Type 0
FollowsReadings shape split = All
    (λ (c : ComputationShape). All
    (λ (r : Reading). (key : List ℕ) → split (extracted r.by key) ≡ split key) c.reads)
    shape.computations

-- no computation reads by this part of a key
abbrev pub IsUnread : Shape → By → Type 0
IsUnread shape by = All (λ (c : ComputationShape). All (λ (r : Reading). r.by ≢ by) c.reads) shape.computations

-- what stands behind the last slash of a key, or the whole key where none is
abbrev pub behind_last : List ℕ → List ℕ
behind_last [] = []
behind_last (b ∷ bs) = if list_any (λ c. c == 47) (b ∷ bs) then behind_last bs else b ∷ bs

-- a case is a shard of another: of the same topology, and each injector's file has, in whatever order and
-- between whatever watermarks, the records of the other's that the split puts there, as late as they are
pub record IsShard (case : CaseShape) (split : Split) (shard : ℕ) (piece : CaseShape) : Type 0 where
  pub topology : piece.topology ≡ case.topology
  pub records : (injector : ℕ) → injector < injectors_of case.topology
      → IsPermutation (records_in split shard (injected_of (source_of case injector)))
      (injected_of (source_of piece injector))

-- these are the shards of a case, in the order of their numbers, by a split that follows its readings
pub record AreShards (case : CaseShape) (split : Split) (shards : List CaseShape) : Type 0 where
  pub follows : FollowsReadings case.topology split
  pub within : (key : List ℕ) → split key < length shards
  pub each : All (λ (s : ℕ × CaseShape). IsShard case split s.0 s.1) (enumerate_from 0 shards)

-- the sums of the numbers of the shards' summary lines
abbrev pub summed : List CaseShape → Data
summed shards = object
    (member (codes "fired") (number (unsigned (sum_by fired_of shards)))
    (member (codes "handled") (number (unsigned (sum_by handled_of shards)))
    (member (codes "injected") (number (unsigned (sum_by injected_count shards)))
    (member (codes "late") (number (unsigned (sum_by late_count shards))) no_members))))

-- the text is the merge of the shards' texts: the lines of all of them, sorted, and the sums of their
-- summary lines
pub record IsMergedText (shards : List CaseShape) (text : List ℕ) : Type 0 where
  pub lines : List ResultLine
  pub each_once : IsPermutation (flat_map plain_lines shards) lines
  pub in_order : IsSorted line_cmp lines
  pub spelled : text ≡ flat_map (λ line. as_line (line_data line)) lines ++ as_line (summed shards)
