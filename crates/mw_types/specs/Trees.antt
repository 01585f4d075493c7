-- What a tree of shared leaves is seen as, and what holds of it. No public clause cites this module.
use Rattle.std.specs.Prelude.{◌≡◌, ℕ, ◌+◌, ◌≤◌, max, List, ◌++◌, length}
use Rattle.mw_types.specs.declared.tree.Node.{Node}
use Rattle.mw_types.specs.declared.tree.Node.TheVariants.{Leaf, Fork}

-- the elements in order, and the height that the node stores
abbrev pub items_and_height : {X : Type 0} → Node X → List X × ℕ
items_and_height (Leaf xs) = (xs.items, 0)
items_and_height (Fork height count left right) = (left.value.0 ++ right.value.0, height)

-- the stored count is right, the sides are lower than the node, and the node is at most 64 levels high
abbrev pub IsTree : {X : Type 0} → Node X → Type 0
IsTree (Leaf xs) = Unit {0}
IsTree (Fork height count left right) = (count ≡ length (left.value.0 ++ right.value.0))
    × (max left.value.1 right.value.1 + 1 ≤ height) × (height ≤ 64)
