-- What a list is seen as. No public clause cites this module.
use Rattle.std.specs.Prelude.{List}
use Rattle.std.specs.Arc.{arc_value}
use Rattle.mw_types.specs.declared.shared_list.Body.{Body}
use Rattle.mw_types.specs.declared.shared_list.Body.TheVariants.{Few, Many}

-- the elements in order
abbrev pub items : {X : Type 0} → Body X → List X
items (Few xs) = xs.items
items (Many tree) = (arc_value tree).0
