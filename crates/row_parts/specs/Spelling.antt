-- The bytes of a row and of a state: each has one spelling. Own.
-- Numbers stand with their high byte first; signed ones are in two's complement.
use Rattle.std.specs.Prelude.{ℕ, ℤ, List, [], ◌∷◌, length, All, Bool, true, false, FitsSigned, ◌<◌, ◌^◌, ⊤}
use Rattle.std.specs.List.{concat, flat_map}
use Rattle.std.specs.Int.{w16, w32, w64, to_be_bytes, cast_unsigned}
use Rattle.mw_types.specs.declared.state.Window.{Window}
use Rattle.mw_types.specs.declared.state.HeldTotal.{HeldTotal}
use Rattle.mw_types.specs.declared.state.State.{State}
use Rattle.mw_types.specs.declared.state.State.TheVariants.{Injector, Count, Spike, Pass}
use Rattle.mw_types.specs.declared.timer.Timer.{Timer}
use Rattle.mw_types.specs.declared.identity.RecordId.{RecordId}
use Rattle.mw_types.specs.declared.identity.RowName.{RowName}
use Rattle.mw_types.specs.declared.record.Record.{Record}
use Rattle.mw_types.specs.declared.delivery.Delivery.{Delivery}
use Rattle.mw_types.specs.Bounds.{IsWithin}
use Rattle.row_parts.specs.Contents.{Contents, IsRow}

-- a signed number
abbrev pub signed_spelling : ℤ → List ℕ
signed_spelling value = to_be_bytes w64 (cast_unsigned w64 value)

-- whether something is late
abbrev pub flag_spelling : Bool → List ℕ
flag_spelling true = 1 ∷ []
flag_spelling false = 0 ∷ []

-- a key: how many bytes, and the bytes
abbrev pub key_spelling : List ℕ → List ℕ
key_spelling key = concat (to_be_bytes w16 (length key) ∷ key ∷ [])

-- an id
abbrev pub id_spelling : RecordId → List ℕ
id_spelling id = concat (to_be_bytes w64 id.commit ∷ to_be_bytes w32 id.index ∷ [])

-- a list: how many elements, and each of them
abbrev pub list_spelling : {X : Type 0} → (X → List ℕ) → List X → List ℕ
list_spelling spelling xs = concat (to_be_bytes w32 (length xs) ∷ flat_map spelling xs ∷ [])

-- an open window
abbrev pub window_spelling : Window → List ℕ
window_spelling w = concat (to_be_bytes w64 w.end ∷ to_be_bytes w64 w.count ∷ [])

-- a held total
abbrev pub held_spelling : HeldTotal → List ℕ
held_spelling h = concat (to_be_bytes w64 h.stamp ∷ signed_spelling h.value ∷ [])

-- a state: its kind, and its parts
abbrev pub state_spelling : State → List ℕ
state_spelling (Injector cursor) = concat ((0 ∷ []) ∷ to_be_bytes w32 cursor ∷ [])
state_spelling (Count late windows) =
    concat ((1 ∷ []) ∷ to_be_bytes w64 late ∷ list_spelling window_spelling windows ∷ [])
state_spelling (Spike late held known) =
    concat ((2 ∷ []) ∷ to_be_bytes w64 late ∷ list_spelling held_spelling held ∷ list_spelling signed_spelling known ∷ [])
state_spelling (Pass late) = concat ((3 ∷ []) ∷ to_be_bytes w64 late ∷ [])

-- a timer
abbrev pub timer_spelling : Timer → List ℕ
timer_spelling t = concat (to_be_bytes w64 t.time ∷ to_be_bytes w64 t.tag ∷ flag_spelling t.late ∷ [])

-- the name of a row
abbrev pub name_spelling : RowName → List ℕ
name_spelling name = concat (to_be_bytes w32 name.part ∷ key_spelling name.key ∷ [])

-- a record
abbrev pub record_spelling : Record → List ℕ
record_spelling r = concat (key_spelling r.key ∷ to_be_bytes w64 r.stamp ∷ signed_spelling r.value ∷ flag_spelling r.late ∷ [])

-- a delivery
abbrev pub delivery_spelling : Delivery → List ℕ
delivery_spelling d = concat (id_spelling d.id ∷ name_spelling d.to ∷ record_spelling d.item ∷ [])

-- a row: the version of this form, the last entry that wrote it, its floor, its state and its lists
abbrev pub spelling_of : Contents → List ℕ
spelling_of row =
    concat ((1 ∷ []) ∷ to_be_bytes w64 row.last ∷ to_be_bytes w64 row.floor ∷ state_spelling row.state
    ∷ list_spelling timer_spelling row.timers ∷ list_spelling delivery_spelling row.pending ∷ list_spelling id_spelling row.seen ∷ [])

-- ---- what has a spelling of its own: the numbers fit the bytes that they are given, as those of each state and each row do

-- the signed numbers of a state
abbrev pub FitsBytes : State → Type 0
FitsBytes (Injector cursor) = ⊤
FitsBytes (Count late windows) = ⊤
FitsBytes (Spike late held known) = All (λ (h : HeldTotal). FitsSigned w64 h.value) held × All (FitsSigned w64) known
FitsBytes (Pass late) = ⊤

-- a state has its own spelling where it can be kept
abbrev pub IsSpelledState : State → Type 0
IsSpelledState state = IsWithin state × FitsBytes state

-- the numbers of a delivery
pub record DeliveryFits (d : Delivery) : Type 0 where
  pub part : d.to.part < 2 ^ 32
  pub value : FitsSigned w64 d.item.value

-- a row has its own spelling where it can be kept
pub record IsSpelledRow (row : Contents) : Type 0 where
  pub is_row : IsRow row
  pub state : FitsBytes row.state
  pub tags : All (λ (t : Timer). t.tag < 2 ^ 64) row.timers
  pub pending : All DeliveryFits row.pending
