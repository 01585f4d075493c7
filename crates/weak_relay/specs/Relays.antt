-- Of which records a weak computation awaits the acknowledgement: their ids, ascending and each once. Own.
use Rattle.std.specs.Prelude.{Bool, List}
use Rattle.std.specs.List.{list_any}
use Rattle.std.specs.Ordering.{is_eq}
use Rattle.std.specs.BTreeSet.{insert_key}
use Rattle.std.specs.Set.{remove_key}
use Rattle.std.specs.BTreeMap.{is_at}
use Rattle.mw_types.specs.Orders.{id_cmp}
use Rattle.mw_types.specs.declared.identity.RecordId.{RecordId}

-- one id and another are those of the same record
abbrev pub is_same : RecordId → RecordId → Bool
is_same one another = is_eq (id_cmp one another)

-- that of this record is awaited
abbrev pub holds : List RecordId → RecordId → Bool
holds awaited id = list_any (is_at (id_cmp id)) awaited

-- what is awaited once this record is sent on, be it for the first time or not
abbrev pub with_id : RecordId → List RecordId → List RecordId
with_id sent awaited = insert_key id_cmp awaited sent

-- what is awaited once this record is acknowledged
abbrev pub without_id : RecordId → List RecordId → List RecordId
without_id done awaited = remove_key (is_at (id_cmp done)) awaited
