-- The shape of a topology file: what its JSON value has to look like, and what it then states. Own.
-- The value is the one that `serde_json` reads, in which no object has two members of one name.
-- What is tried here is the form alone; which shapes are topologies is tried afterwards.
use Rattle.std.specs.Prelude.{ℕ, ◌+◌, ◌-◌, ◌==◌, ◌^◌, suc, List, [], ◌∷◌, nat_eq, nat_le, Bool, false, if◌then◌else◌, codes, Option, Some, None, option_and_then}
use Rattle.std.specs.Option.{option_map, option_map_or}
use Rattle.std.specs.Cmp.Lexicographic.{pointwise}
use Rattle.serde_json.specs.Data.{Num, Data, Items, no_items, item, Members, no_members, member}
use Rattle.serde_json.specs.Find.{get, as_array, as_object, as_number, as_str, as_u64, as_bool}
use Rattle.mw_types.specs.declared.kind.Kind.{Kind}
use Rattle.mw_types.specs.declared.kind.Kind.TheVariants.{Count, Spike, Pass}
use Rattle.topology.specs.declared.subscription.By.{By}
use Rattle.topology.specs.declared.subscription.By.TheVariants.{Key, Head, Tail}
use Rattle.topology.specs.Shapes.{Shape, InjectorShape, ComputationShape, Reading}

-- what the second gives of what the first found, or nothing where it found nothing
abbrev pub and_then : {X Y : Type 0} → Option X → (X → Option Y) → Option Y
and_then None f = None
and_then (Some x) f = f x

-- how many members there are
abbrev pub member_count : Members → ℕ
member_count no_members = 0
member_count (member name value rest) = suc (member_count rest)

-- whether a value is an object of so many members
abbrev pub has_members : ℕ → Data → Bool
has_members n value = option_map_or (λ members. member_count members == n) (as_object value) false

-- what such an object states; where it has that many members with known names, it has no other
abbrev pub with_members : {X : Type 0} → ℕ → Data → Option X → Option X
with_members n value stated = if has_members n value then stated else None

-- what each item states, in order, or nothing where one of them has another form
abbrev pub each_of : {X : Type 0} → (Data → Option X) → Items → Option (List X)
each_of form no_items = Some []
each_of form (item value rest) = and_then (form value) (λ x. and_then (each_of form rest) (λ xs. Some (x ∷ xs)))

-- what each item of a value states, which has to be an array
abbrev pub list_of : {X : Type 0} → (Data → Option X) → Data → Option (List X)
list_of form value = and_then (as_array value) (each_of form)

-- the items of the array that a member is
abbrev pub array_in : List ℕ → Data → Option Items
array_in name value = option_and_then as_array (get name value)

-- what each of these items states
abbrev pub list_in : {X : Type 0} → (Data → Option X) → List ℕ → Data → Option (List X)
list_in form name value = and_then (array_in name value) (each_of form)

-- a list, where it is not empty
abbrev pub some_of : {X : Type 0} → List X → Option (List X)
some_of [] = None
some_of (x ∷ xs) = Some (x ∷ xs)

-- the text that a member is
abbrev pub text_in : List ℕ → Data → Option (List ℕ)
text_in name value = option_and_then as_str (get name value)

-- the whole number up to the greatest one that is written, or 0, which no kind may have, where it is none
abbrev pub whole_up_to : ℕ → Num → ℕ
whole_up_to greatest number = option_map_or (λ n. if nat_le n greatest then n else 0) (as_u64 number) 0

-- the number that a member is, of which only its being a JSON number is a matter of form
abbrev pub number_in : ℕ → List ℕ → Data → Option ℕ
number_in greatest name value = option_map (whole_up_to greatest) (option_and_then as_number (get name value))

-- an injector, which has a name and a stream, and no other member
abbrev pub injector_in : Data → Option InjectorShape
injector_in value =
    with_members 2 value
    (and_then (text_in (codes "name") value) (λ name.
    and_then (text_in (codes "stream") value) (λ stream.
    Some (record { name = name; stream = stream }))))

-- the extractor of this name
abbrev pub by_named : List ℕ → Option By
by_named name =
    if pointwise nat_eq name (codes "key") then Some Key
    else (if pointwise nat_eq name (codes "head") then Some Head
    else (if pointwise nat_eq name (codes "tail") then Some Tail
    else None))

-- a reading, which has a stream and an extractor, and no other member
abbrev pub reading_in : Data → Option Reading
reading_in value =
    with_members 2 value
    (and_then (text_in (codes "stream") value) (λ stream.
    and_then (text_in (codes "by") value) (λ name.
    and_then (by_named name) (λ by.
    Some (record { stream = stream; by = by })))))

-- a count, with the length of its windows
abbrev pub count_kind : Data → Option Kind
count_kind value = and_then (number_in (2 ^ 64 - 1) (codes "size") value) (λ size. Some (Count size))

-- a spike, with its two numbers
abbrev pub spike_kind : Data → Option Kind
spike_kind value =
    and_then (number_in (2 ^ 32 - 1) (codes "last") value) (λ last.
    and_then (number_in (2 ^ 32 - 1) (codes "times") value) (λ times.
    Some (Spike last times)))

-- the kind of this name, with the numbers that the computation states for it
abbrev pub kind_named : Data → List ℕ → Option Kind
kind_named value name =
    if pointwise nat_eq name (codes "count") then count_kind value
    else (if pointwise nat_eq name (codes "spike") then spike_kind value
    else (if pointwise nat_eq name (codes "pass") then Some Pass
    else None))

-- the kind of a computation
abbrev pub kind_in : Data → Option Kind
kind_in value = and_then (text_in (codes "kind") value) (kind_named value)

-- what a computation reads, which is something
abbrev pub reads_in : Data → Option (List Reading)
reads_in value = and_then (list_in reading_in (codes "reads") value) some_of

-- the cuts of a computation, of which there are none where it has no such member
abbrev pub cuts_in : Data → Option (List (List ℕ))
cuts_in value = option_map_or (list_of as_str) (get (codes "cuts") value) (Some [])

-- how many members tell the numbers of a kind
abbrev pub numbers_of : Kind → ℕ
numbers_of (Count size) = 1
numbers_of (Spike last times) = 2
numbers_of Pass = 0

-- how often a member of this name is there, which is once at most
abbrev pub times_named : List ℕ → Data → ℕ
times_named name value = option_map_or (λ found. 1) (get name value) 0

-- how many members there are that may be missing: `cuts` of any computation, and `weak` of a pass
abbrev pub optional_of : Kind → Data → ℕ
optional_of Pass value = times_named (codes "cuts") value + times_named (codes "weak") value
optional_of _ value = times_named (codes "cuts") value

-- a pass is as weak as its member says, and not at all without one; a computation of another kind never is
abbrev pub weakness_in : Kind → Data → Option Bool
weakness_in Pass value = option_map_or as_bool (get (codes "weak") value) (Some false)
weakness_in _ value = Some false

-- how many members a computation of this kind has: its name, its kind, what it reads, its stream, the numbers
-- of its kind, and what else is there of those that may be missing
abbrev pub members_of : Kind → Data → ℕ
members_of kind value = 4 + numbers_of kind + optional_of kind value

-- what a computation is called, and what its stream is called
abbrev pub names_in : Data → Option (List ℕ × List ℕ)
names_in value =
    and_then (text_in (codes "name") value) (λ name.
    and_then (text_in (codes "stream") value) (λ stream. Some (name, stream)))

-- what it reads, and its cuts
abbrev pub lists_in : Data → Option (List Reading × List (List ℕ))
lists_in value = and_then (reads_in value) (λ reads. and_then (cuts_in value) (λ cuts. Some (reads, cuts)))

-- a computation of this kind and weakness
abbrev pub computation_with : Data → Kind → Bool → Option ComputationShape
computation_with value kind weak =
    and_then (names_in value) (λ names.
    and_then (lists_in value) (λ lists. Some (record {
      name = names.0;
      kind = kind;
      reads = lists.0;
      stream = names.1;
      cuts = lists.1;
      weak = weak;
    })))

-- a computation of this kind, which has the members of that kind and no other
abbrev pub computation_of_kind : Data → Kind → Option ComputationShape
computation_of_kind value kind =
    with_members (members_of kind value) value
    (and_then (weakness_in kind value) (computation_with value kind))

-- a computation
abbrev pub computation_in : Data → Option ComputationShape
computation_in value = and_then (kind_in value) (computation_of_kind value)

-- the injectors of a file, of which there is one at least
abbrev pub injectors_in : Data → Option (List InjectorShape)
injectors_in value = and_then (list_in injector_in (codes "injectors") value) some_of

-- the shape that a file states, which has injectors and computations, and no other member
abbrev pub shape_in : Data → Option Shape
shape_in value =
    with_members 2 value
    (and_then (injectors_in value) (λ injectors.
    and_then (list_in computation_in (codes "computations") value) (λ computations.
    Some (record { injectors = injectors; computations = computations }))))
