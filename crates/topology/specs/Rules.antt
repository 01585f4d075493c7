-- Which shapes are topologies. Own.
use Rattle.std.specs.Prelude.{◌≡◌, ℕ, ◌+◌, ◌≤◌, ◌==◌, ◌&&◌, ◌||◌, not, nat_le, nat_eq, Bool, true, false, IsTrue, List, [], ◌∷◌, ◌++◌, length, map, take, All, Contains, sum_by}
use Rattle.std.specs.Char.{is_ascii_lowercase, is_ascii_digit}
use Rattle.std.specs.List.{list_any, list_all, range_with_len}
use Rattle.std.specs.List.Sorted.{IsStrictlySortedBy}
use Rattle.std.specs.Cmp.Lexicographic.{pointwise}
use Rattle.mw_types.specs.declared.key.PartCuts.{PartCuts}
use Rattle.mw_types.specs.Orders.{key_cmp}
use Rattle.mw_types.specs.Kinds.{IsKind}
use Rattle.mw_types.specs.declared.kind.Kind.TheVariants.{Pass}
use Rattle.topology.specs.Folding.{is_foldable}
use Rattle.topology.specs.Shapes.{Shape, InjectorShape, ComputationShape, Reading, parts_of, streams_of, reads_of, cuts_of}

-- whether a name may have this byte: a lower-case letter, a digit or an underscore
abbrev pub is_name_byte : ℕ → Bool
is_name_byte b = is_ascii_lowercase b || is_ascii_digit b || (b == 95)

-- whether a text is a name: 1 to 64 such bytes, the first a letter
abbrev pub is_name : List ℕ → Bool
is_name [] = false
is_name (b ∷ bs) = is_ascii_lowercase b && list_all is_name_byte bs && nat_le (length bs) 63

-- whether no two of the texts are equal
abbrev pub all_differ : List (List ℕ) → Bool
all_differ [] = true
all_differ (x ∷ xs) = not (list_any (pointwise nat_eq x) xs) && all_differ xs

-- the names of the parts, by number
abbrev pub names_of : Shape → List (List ℕ)
names_of shape =
    map (λ (i : InjectorShape). i.name) shape.injectors
    ++ map (λ (c : ComputationShape). c.name) shape.computations

-- how many intervals of keys there are: one for each part, and one more for each cut
abbrev pub interval_count : Shape → ℕ
interval_count shape = parts_of shape + sum_by (λ (c : ComputationShape). length c.cuts) shape.computations

-- each part with its cuts, by number
abbrev pub part_cuts_of : Shape → List PartCuts
part_cuts_of shape = map (λ (part : ℕ). record { part = part; cuts = cuts_of shape part }) (range_with_len 0 (parts_of shape))

-- cuts have 1 to 256 bytes each, and stand strictly ascending
pub record AreCutKeys (cuts : List (List ℕ)) : Type 0 where
  pub some : All (λ (cut : List ℕ). 1 ≤ length cut) cuts
  pub short : All (λ (cut : List ℕ). length cut ≤ 256) cuts
  pub ascending : IsStrictlySortedBy key_cmp cuts

-- a computation is a pass where it is weak
abbrev pub IsPassWhereWeak : ComputationShape → Type 0
IsPassWhereWeak c = c.weak ≡ true → c.kind ≡ Pass

-- there are injectors, and at most 16; at most 32 computations, 64 readings and 61 intervals; names are
-- names and differ, and so are streams; a computation reads something, and only what a part before it
-- publishes; the numbers of kinds are in range, and cuts are cuts; a weak computation is a pass, what it
-- publishes is read, and without the weak ones at most 64 readings are left
pub record IsTopology (shape : Shape) : Type 0 where
  pub some_injector : 1 ≤ length shape.injectors
  pub few_injectors : length shape.injectors ≤ 16
  pub few_computations : length shape.computations ≤ 32
  pub few_readings : sum_by (λ (c : ComputationShape). length c.reads) shape.computations ≤ 64
  pub few_intervals : interval_count shape ≤ 61
  pub names : IsTrue (list_all is_name (names_of shape))
  pub streams : IsTrue (list_all is_name (streams_of shape))
  pub names_differ : IsTrue (all_differ (names_of shape))
  pub streams_differ : IsTrue (all_differ (streams_of shape))
  pub reading : All (λ (c : ComputationShape). 1 ≤ length c.reads) shape.computations
  pub above : (part : ℕ) → All (λ (r : Reading). Contains (take part (streams_of shape)) r.stream) (reads_of shape part)
  pub kinds : All (λ (c : ComputationShape). IsKind c.kind) shape.computations
  pub cuts : All (λ (c : ComputationShape). AreCutKeys c.cuts) shape.computations
  pub passes : All IsPassWhereWeak shape.computations
  pub foldable : IsTrue (is_foldable shape)
