-- How what is known of senders changes as entries come, in a book or in whatever keeps it as a book does.
use Rattle.std.specs.Prelude.{◌≡◌, ◌≤◌, ℕ, Bool, false, List, Option, Some, None, IsSome, if◌then◌else◌, ◌&&◌, ◌==◌, nat_lt}
use Rattle.std.specs.Ordering.{is_eq, is_gt}
use Rattle.mw_types.specs.Orders.{id_cmp, row_cmp}
use Rattle.mw_types.specs.declared.identity.RecordId.{RecordId}
use Rattle.mw_types.specs.declared.identity.RowName.{RowName}
use Rattle.mw_types.specs.declared.entry.Entry.{Entry}
use Rattle.mw_types.specs.declared.entry.Entry.TheVariants.{Ack}
use Rattle.row_parts.specs.Contents.{same_id}
use Rattle.book.specs.Senders.{sender_of}

-- nothing is known of an entry of this number, nor of a later one
abbrev pub IsUnsent : ℕ → List (RecordId × RowName) → Type 0
IsUnsent commit sent = (id : RecordId) → commit ≤ id.commit → sender_of sent id ≡ None

-- no id of which a sender is known is less than this one
abbrev pub IsLeastKnown : List (RecordId × RowName) → RecordId → Type 0
IsLeastKnown sent id = (other : RecordId) → IsSome (sender_of sent other) → is_gt (id_cmp id other) ≡ false

-- the same is known of each id
abbrev pub KnowsSame : List (RecordId × RowName) → List (RecordId × RowName) → Type 0
KnowsSame old new = (id : RecordId) → sender_of new id ≡ sender_of old id

-- whether an id is one of the first so many of the entry of this number
abbrev pub is_among_sent : ℕ → ℕ → RecordId → Bool
is_among_sent commit count id = (id.commit == commit) && nat_lt id.index count

-- who sent an id, once the entry of this number has made so many deliveries in a row
abbrev pub sender_more : ℕ → RowName → ℕ → RecordId → Option RowName → Option RowName
sender_more commit name count id sender =
    if is_among_sent commit count id then Some name else sender

-- a row has sent so many, under the number of its entry
abbrev pub HasSent : ℕ → RowName → ℕ → List (RecordId × RowName) → List (RecordId × RowName) → Type 0
HasSent commit name count old new = (id : RecordId) →
    sender_of new id ≡ sender_more commit name count id (sender_of old id)

-- nothing is known of the first so many of an entry, and the same of all others
abbrev pub HasForgotten : ℕ → ℕ → List (RecordId × RowName) → List (RecordId × RowName) → Type 0
HasForgotten commit count old new = (id : RecordId) →
    sender_of new id ≡ (if is_among_sent commit count id then None else sender_of old id)

-- the id that an entry acknowledges
abbrev pub settled_by : Entry → Option RecordId
settled_by (Ack seq row id) = Some id
settled_by _ = None

-- whether a sender is there, and is this row
abbrev pub is_sender : RowName → Option RowName → Bool
is_sender name None = false
is_sender name (Some sender) = is_eq (row_cmp name sender)

-- who sent an id, once a row has acknowledged one
abbrev pub sender_less : Option RecordId → RowName → RecordId → Option RowName → Option RowName
sender_less None name id sender = sender
sender_less (Some settled) name id sender =
    if same_id settled id && is_sender name sender then None else sender

-- an id is acknowledged by a row, where the row sent it
abbrev pub HasSettled : Option RecordId → RowName → List (RecordId × RowName)
    → List (RecordId × RowName) → Type 0
HasSettled settled name old new = (id : RecordId) →
    sender_of new id ≡ sender_less settled name id (sender_of old id)

-- what is known of senders after the entry of this number, which made so many deliveries in its row
abbrev pub IsAfterEntry : ℕ → Entry → RowName → ℕ → List (RecordId × RowName)
    → List (RecordId × RowName) → Type 0
IsAfterEntry commit entry name count old new = (id : RecordId) →
    sender_of new id
    ≡ sender_less (settled_by entry) name id (sender_more commit name count id (sender_of old id))
