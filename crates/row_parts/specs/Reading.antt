-- Reading from left to right: a value and the bytes after it, or nothing where no value stands there.
-- Only the readers of parts cite this module, and neither `read_state` nor what reads a whole row.
use Rattle.std.specs.Prelude.{◌≡◌, ℕ, zero, suc, ℤ, List, [], ◌∷◌, length, take, drop, Option, Some, None, Result, Ok, Err, nat_lt, nat_le, ◌^◌, Bool, true, false, ◌&&◌, ◌==◌, if◌then◌else◌, option_and_then, ⊤}
use Rattle.std.specs.Str.{is_utf8}
use Rattle.std.specs.Ordering.{is_lt}
use Rattle.std.specs.declared.cmp.Ordering.{Ordering}
use Rattle.std.specs.Int.{Width, w16, w32, w64, byte_len, from_be_bytes, cast_signed}
use Rattle.mw_types.specs.declared.TheConstants.{MAX_STAMP}
use Rattle.mw_types.specs.declared.state.Window.{Window}
use Rattle.mw_types.specs.declared.state.HeldTotal.{HeldTotal}
use Rattle.mw_types.specs.declared.state.State.{State}
use Rattle.mw_types.specs.declared.state.State.TheVariants.{Injector, Count, Spike, Pass}
use Rattle.mw_types.specs.declared.timer.Timer.{Timer}
use Rattle.mw_types.specs.declared.identity.RecordId.{RecordId}
use Rattle.mw_types.specs.declared.identity.RowName.{RowName}
use Rattle.mw_types.specs.declared.record.Record.{Record}
use Rattle.mw_types.specs.declared.delivery.Delivery.{Delivery}
use Rattle.row_parts.specs.Orders.{window_cmp, held_cmp}
use Rattle.row_parts.specs.declared.refusal.StateRefusal.{StateRefusal}
use Rattle.row_parts.specs.declared.refusal.StateRefusal.TheVariants as refusals

infixl 10 ◌>>=◌
-- what the second gives of what the first found, or nothing where it found nothing
abbrev pub ◌>>=◌ : {A B : Type 0} → Option A → (A → Option B) → Option B
o >>= f = option_and_then f o

-- a refusal says that nothing stands there, unless memory ran out
abbrev pub Fails : {Y : Type 0} → StateRefusal → Option Y → Type 0
Fails refusals.NoMemory read = ⊤
Fails refusals.Damaged read = read ≡ None

-- what a function returned, seen by view, is what reading gives, unless memory ran out
abbrev pub Gives : {X Y : Type 0} → (X → Y) → Result X StateRefusal → Option Y → Type 0
Gives view (Ok x) read = read ≡ Some (view x)
Gives view (Err e) read = Fails e read

-- a value that passes a test
abbrev pub keep : {X : Type 0} → Bool → X → Option X
keep test x = if test then Some x else None

-- an unsigned number
abbrev pub number_at : Width → List ℕ → Option (ℕ × List ℕ)
number_at w bytes = if nat_lt (length bytes) (byte_len w) then None else Some (from_be_bytes w (take (byte_len w) bytes), drop (byte_len w) bytes)

-- a signed number
unfoldable pub signed_at : List ℕ → Option (ℤ × List ℕ)
signed_at bytes = do
  n ← number_at w64 bytes
  Some (cast_signed w64 n.0, n.1)

-- whether something is late
unfoldable pub flag_at : List ℕ → Option (Bool × List ℕ)
flag_at [] = None
flag_at (zero ∷ rest) = Some (false, rest)
flag_at (suc zero ∷ rest) = Some (true, rest)
flag_at (suc (suc b) ∷ rest) = None

-- as many values as were counted
unfoldable pub times_at : {X : Type 0} → (List ℕ → Option (X × List ℕ)) → ℕ → List ℕ → Option (List X × List ℕ)
times_at read zero bytes = Some ([], bytes)
times_at read (suc n) bytes = do
  first ← read bytes
  others ← times_at read n first.1
  Some (first.0 ∷ others.0, others.1)

-- a list
unfoldable pub list_at : {X : Type 0} → (List ℕ → Option (X × List ℕ)) → List ℕ → Option (List X × List ℕ)
list_at read bytes = do
  count ← number_at w32 bytes
  times_at read count.0 count.1

-- whether each element is below the next, and the first above this one
abbrev pub follows : {X : Type 0} → (X → X → Ordering) → X → List X → Bool
follows cmp last [] = true
follows cmp last (x ∷ xs) = is_lt (cmp last x) && follows cmp x xs

-- whether each element is below the next
abbrev pub ascends : {X : Type 0} → (X → X → Ordering) → List X → Bool
ascends cmp [] = true
ascends cmp (x ∷ xs) = follows cmp x xs

-- a list in strict order
unfoldable pub ascending_at : {X : Type 0} → (X → X → Ordering) → (List ℕ → Option (X × List ℕ)) → List ℕ → Option (List X × List ℕ)
ascending_at cmp read bytes = do
  xs ← list_at read bytes
  keep (ascends cmp xs.0) xs

-- a key
unfoldable pub key_at : List ℕ → Option (List ℕ × List ℕ)
key_at bytes = do
  n ← number_at w16 bytes
  keep (nat_le n.0 256 && nat_le n.0 (length n.1) && is_utf8 (take n.0 n.1)) (take n.0 n.1, drop n.0 n.1)

-- an id
unfoldable pub id_at : List ℕ → Option (RecordId × List ℕ)
id_at bytes = do
  commit ← number_at w64 bytes
  index ← number_at w32 commit.1
  keep (nat_lt commit.0 (2 ^ 32) && nat_lt index.0 512) (record { commit = commit.0; index = index.0 }, index.1)

-- an open window
unfoldable pub window_at : List ℕ → Option (Window × List ℕ)
window_at bytes = do
  end ← number_at w64 bytes
  count ← number_at w64 end.1
  keep (nat_le end.0 MAX_STAMP && nat_le count.0 MAX_STAMP) (record { end = end.0; count = count.0 }, count.1)

-- a held total
unfoldable pub held_at : List ℕ → Option (HeldTotal × List ℕ)
held_at bytes = do
  stamp ← number_at w64 bytes
  value ← signed_at stamp.1
  keep (nat_le stamp.0 MAX_STAMP) (record { stamp = stamp.0; value = value.0 }, value.1)

-- a timer
unfoldable pub timer_at : List ℕ → Option (Timer × List ℕ)
timer_at bytes = do
  time ← number_at w64 bytes
  tag ← number_at w64 time.1
  late ← flag_at tag.1
  keep (nat_le time.0 MAX_STAMP) (record { tag = tag.0; time = time.0; late = late.0 }, late.1)

-- a row's name
unfoldable pub name_at : List ℕ → Option (RowName × List ℕ)
name_at bytes = do
  part ← number_at w32 bytes
  key ← key_at part.1
  Some (record { part = part.0; key = key.0 }, key.1)

-- what follows the key of a record: its stamp, its value, and whether it is late
unfoldable pub after_key_at : List ℕ → Option ((ℕ × (ℤ × Bool)) × List ℕ)
after_key_at bytes = do
  stamp ← number_at w64 bytes
  value ← signed_at stamp.1
  late ← flag_at value.1
  keep (nat_le stamp.0 MAX_STAMP) ((stamp.0, (value.0, late.0)), late.1)

-- a record
unfoldable pub record_at : List ℕ → Option (Record × List ℕ)
record_at bytes = do
  key ← key_at bytes
  rest ← after_key_at key.1
  Some (record { key = key.0; stamp = rest.0.0; value = rest.0.1.0; late = rest.0.1.1 }, rest.1)

-- a delivery
unfoldable pub delivery_at : List ℕ → Option (Delivery × List ℕ)
delivery_at bytes = do
  id ← id_at bytes
  to ← name_at id.1
  item ← record_at to.1
  Some (record { id = id.0; to = to.0; item = item.0 }, item.1)

-- ---- states, behind the byte that tells the kind

-- of an injector
unfoldable pub injector_at : List ℕ → Option (State × List ℕ)
injector_at bytes = do
  cursor ← number_at w32 bytes
  Some (Injector cursor.0, cursor.1)

-- of a count
unfoldable pub count_at : List ℕ → Option (State × List ℕ)
count_at bytes = do
  late ← number_at w64 bytes
  windows ← ascending_at window_cmp window_at late.1
  keep (nat_le late.0 MAX_STAMP) (Count late.0 windows.0, windows.1)

-- of a spike
unfoldable pub spike_at : List ℕ → Option (State × List ℕ)
spike_at bytes = do
  late ← number_at w64 bytes
  held ← ascending_at held_cmp held_at late.1
  known ← list_at signed_at held.1
  keep (nat_le late.0 MAX_STAMP && nat_le (length known.0) 64) (Spike late.0 held.0 known.0, known.1)

-- of a pass
unfoldable pub pass_at : List ℕ → Option (State × List ℕ)
pass_at bytes = do
  late ← number_at w64 bytes
  keep (nat_le late.0 MAX_STAMP) (Pass late.0, late.1)

-- of each kind
abbrev pub state_of : ℕ → List ℕ → Option (State × List ℕ)
state_of zero rest = injector_at rest
state_of (suc zero) rest = count_at rest
state_of (suc (suc zero)) rest = spike_at rest
state_of (suc (suc (suc zero))) rest = pass_at rest
state_of (suc (suc (suc (suc kind)))) rest = None

-- a state
unfoldable pub state_at : List ℕ → Option (State × List ℕ)
state_at [] = None
state_at (kind ∷ rest) = state_of kind rest

-- a state, and nothing after it
unfoldable pub whole_state : List ℕ → Option State
whole_state bytes = do
  state ← state_at bytes
  keep (length state.1 == 0) state.0
