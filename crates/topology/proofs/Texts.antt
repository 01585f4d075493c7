-- How many members an object has.
use Rattle.std.proofs.Common.{◌≡◌, List, [], ◌∷◌, length, String, Global, refl, ap, suc}
use Rattle.serde_json.specs.View.{members_view}
use Rattle.serde_json.specs.declared.value.Value.{Value}
use Rattle.topology.specs.Grammar.{member_count}

-- an object has as many members as its map has entries
pub member_count-members_view : (entries : List (String Global × Value)) → member_count (members_view entries) ≡ length entries
member_count-members_view [] = refl
member_count-members_view (e ∷ es) = ap suc (member_count-members_view es)
