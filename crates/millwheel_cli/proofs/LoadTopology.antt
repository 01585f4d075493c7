-- The topology of load is taken.
use Rattle.std.proofs.Common.{◌≡◌, ◌∙◌, false, [], ◌∷◌, Ok, Err, Some, refl, codes, ap}
use Rattle.std.specs.Option.{option_map_or}
use Rattle.json.proofs.Printed.Utf8.{IsUtf8-are_ascii}
use Rattle.serde_json.specs.Data.{Data, object, member, no_members, array, item, no_items, string, number, unsigned}
use Rattle.serde_json.specs.Read.{read}
use Rattle.serde_json.proofs.OnLiterals.{serde_json_on_literals}
use Rattle.mw_types.specs.declared.kind.Kind.TheVariants.{Count}
use Rattle.json_reading.proofs.Texts.{json_of-read}
use Rattle.topology.specs.declared.refusal.TopologyRefusal.TheVariants.{NotJson}
use Rattle.topology.specs.declared.subscription.By.TheVariants.{Key}
use Rattle.topology.specs.Shapes.{Shape}
use Rattle.topology.specs.FileRules.{topology_of, topology_at}
use Rattle.millwheel_cli.specs.Loads.{load_topology}

-- what it states
abbrev pub load_shape : Shape
load_shape = record {
  injectors = record { name = codes "clicks"; stream = codes "raw" } ∷ [];
  computations = record {
    name = codes "per_minute";
    kind = Count 60;
    reads = record { stream = codes "raw"; by = Key } ∷ [];
    stream = codes "windows";
    cuts = codes "h" ∷ codes "q" ∷ [];
    weak = false;
  } ∷ [];
}

-- its value
abbrev load_data : Data
load_data = object (
    member (codes "computations") (array (item (object (
    member (codes "cuts") (array (item (string (codes "h")) (item (string (codes "q")) no_items)))
    (member (codes "kind") (string (codes "count"))
    (member (codes "name") (string (codes "per_minute"))
    (member (codes "reads") (array (item (object (
    member (codes "by") (string (codes "key"))
    (member (codes "stream") (string (codes "raw")) no_members))) no_items))
    (member (codes "size") (number (unsigned 60))
    (member (codes "stream") (string (codes "windows")) no_members))))))) no_items))
    (member (codes "injectors") (array (item (object (
    member (codes "name") (string (codes "clicks"))
    (member (codes "stream") (string (codes "raw")) no_members))) no_items)) no_members))

load-read : read load_topology ≡ Some load_data
unfolding serde_json_on_literals
load-read = refl

load-checked : topology_at load_data ≡ Ok load_shape
load-checked = refl

-- it is read
pub topology-taken : topology_of load_topology ≡ Ok load_shape
topology-taken =
    ap (λ found. option_map_or topology_at found (Err NotJson))
    (json_of-read load_topology load_data (IsUtf8-are_ascii load_topology refl) load-read)
    ∙ load-checked
