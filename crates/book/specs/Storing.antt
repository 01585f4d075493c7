-- What is known of a row's bytes before they are edited. No public clause cites this module.
use Rattle.std.specs.Prelude.{◌≡◌, ◌-◌, ◌++◌, ℕ, List, [], Option, Some, None, length, take}
use Rattle.std.specs.BTreeMap.{is_at}
use Rattle.std.specs.Map.{lookup}
use Rattle.mw_types.specs.declared.delivery.Delivery.{Delivery}
use Rattle.mw_types.specs.declared.entry.Entry.{Entry}
use Rattle.mw_types.specs.declared.entry.Entry.TheVariants.{Inject}
use Rattle.mw_types.specs.declared.identity.RowName.{RowName}
use Rattle.mw_types.specs.Orders.{row_cmp}
use Rattle.row_parts.specs.Contents.{Contents}
use Rattle.row_parts.specs.Spelling.{spelling_of}
use Rattle.row_keeper.specs.Rows.{Rows}
use Rattle.record_codec.specs.Edits.{head_spelling, row_sending}
use Rattle.book.specs.declared.settling.Settled.{Settled}

-- where a row of this name is among these, its bytes are those of this one
abbrev pub AreBytesOf : RowName → Contents → Rows → Type 0
AreBytesOf name row rows = (bytes : List ℕ) → lookup (is_at (row_cmp name)) rows ≡ Some bytes → bytes ≡ spelling_of row

-- a row with this last entry, and the deliveries of three lists
abbrev pub row_of_pieces : ℕ → List Delivery → List Delivery → List Delivery → Contents → Contents
row_of_pieces last front new behind = row_sending last (front ++ (new ++ behind))

-- the bytes of a row before its deliveries
abbrev pub head_of : Contents → List ℕ
head_of row = head_spelling row.last (length row.pending) row

-- between these deliveries some go that a row had, and all else but its head is as in another row
pub record IsEdit (front gone behind : List Delivery) (before left : Contents) : Type 0 where
  pub pending : before.pending ≡ front ++ (gone ++ behind)
  pub seen : before.seen ≡ left.seen
  pub head : length (head_of left) ≡ length (head_of before)

-- these rows have the bytes of a row that is so edited
abbrev pub HaveEdited : RowName → List Delivery → List Delivery → List Delivery → Contents → Rows → Type 0
HaveEdited name front gone behind left rows =
    (before : Contents) × (AreBytesOf name before rows × IsEdit front gone behind before left)

-- these rows have the bytes of a row that lacks the last so many deliveries of this one
abbrev pub HaveShorter : RowName → ℕ → Contents → Rows → Type 0
HaveShorter name sent row = HaveEdited name (take (length row.pending - sent) row.pending) [] [] row

-- how many deliveries an entry puts behind those of its row, where it changes nothing else but the row's head
abbrev pub grown_by : Option Settled → Entry → ℕ → Option ℕ
grown_by None (Inject seq part line item) sent = Some sent
grown_by _ _ _ = None
