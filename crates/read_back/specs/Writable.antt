-- Which values can be written and read again as they were, and which texts have no control byte.
-- Own, over the values and texts of `serde_json`.
use Rattle.std.specs.Prelude.{◌≡◌, ◌<◌, ◌≤◌, ◌^◌, ℕ, List, ⊤, pos, negsuc}
use Rattle.std.specs.List.{AllByRecursion}
use Rattle.std.specs.Str.{IsUtf8}
use Rattle.serde_json.specs.Data.{Num, unsigned, negative, float}
use Rattle.serde_json.specs.Data.{Data, null, boolean, number, string, array, object}
use Rattle.serde_json.specs.Data.{Items, no_items, item, Members, no_members, member, put}

-- a whole number of 64 bits, of which only those below zero are written with a sign
abbrev pub IsWhole : Num → Type 0
IsWhole (unsigned n) = n < 2 ^ 64
IsWhole (negative (pos n)) = ⊥
IsWhole (negative (negsuc n)) = n < 2 ^ 63
IsWhole (float x) = ⊥

-- some members, and others behind them
abbrev pub followed_by : Members → Members → Members
followed_by no_members others = others
followed_by (member name d members) others = member name d (followed_by members others)

-- one by one each of these members goes behind those that are put before it, so no name stands twice and
-- they stand in the order of a map
abbrev pub StandInOrder : Members → Members → Type 0
StandInOrder before no_members = ⊤
StandInOrder before (member name d members) =
    (put name d before ≡ followed_by before (member name d no_members))
    × StandInOrder (followed_by before (member name d no_members)) members

abbrev mutual
  -- a value that can be written: its texts are UTF-8, its numbers whole, and its members in order
  pub IsWritable : Data → Type 0
  IsWritable null = ⊤
  IsWritable (boolean b) = ⊤
  IsWritable (number n) = IsWhole n
  IsWritable (string text) = IsUtf8 text
  IsWritable (array items) = AreWritable items
  IsWritable (object members) = StandInOrder no_members members × HaveWritable members

  -- the items of an array that can be written
  pub AreWritable : Items → Type 0
  AreWritable no_items = ⊤
  AreWritable (item d items) = IsWritable d × AreWritable items

  -- the members of an object that can be written
  pub HaveWritable : Members → Type 0
  HaveWritable no_members = ⊤
  HaveWritable (member name d members) = IsUtf8 name × IsWritable d × HaveWritable members

-- no byte is below a space, as those are that end lines
abbrev pub HasNoControl : List ℕ → Type 0
HasNoControl text = AllByRecursion (λ byte. 32 ≤ byte) text
