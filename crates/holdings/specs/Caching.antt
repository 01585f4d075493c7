-- How the rows of an interval are cached: the list that a claim answered, and beside it the rows that are not
-- in it. No public clause cites this module.
use Rattle.std.specs.Prelude.{◌≡◌, List, [], ◌∷◌, None, map}
use Rattle.std.specs.List.{AllByRecursion}
use Rattle.std.specs.List.Sorted.{IsStrictlySortedBy}
use Rattle.std.specs.Map.{keys_of, lookup}
use Rattle.std.specs.BTreeMap.{insert_entry, is_at}
use Rattle.mw_types.specs.Orders.{row_cmp}
use Rattle.mw_types.specs.declared.identity.RowName.{RowName}
use Rattle.row_parts.specs.Contents.{Contents}
use Rattle.book.specs.declared.answers.NamedRow.{NamedRow}

-- the rows of a list and those beside it, in order of their names; the list's row counts where both have one
abbrev pub merged : List NamedRow → List (RowName × Contents) → List (RowName × Contents)
merged [] others = others
merged (r ∷ answered) others = insert_entry row_cmp (merged answered others) r.name r.row

-- the rows of a list, and those beside it, stand in order of their names, and no name has a row in both
pub record AreOrdered (answered : List NamedRow) (others : List (RowName × Contents)) : Type 0 where
  pub answered_ordered : IsStrictlySortedBy row_cmp (map (λ (r : NamedRow). r.name) answered)
  pub others_ordered : IsStrictlySortedBy row_cmp (keys_of others)
  pub apart : AllByRecursion (λ (r : NamedRow). lookup (is_at (row_cmp r.name)) others ≡ None) answered
