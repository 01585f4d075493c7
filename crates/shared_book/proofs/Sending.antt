-- A seat may cross threads where its keeper may.
use denote.RattleType.{RattleType}
use denote.Param.Send.{IsSend, IsSync, sendable}
use denote.Param.SendFields.{declared_sync}
use denote.Ref.{NamedLft}
use Rattle.std.proofs.Crossing.{crosses, frees, send, sync}
use Rattle.std.proofs.MapsCrossing as maps
use Rattle.atomic_table.proofs.shared.Seat.TheSendSync as places
use Rattle.row_keeper.specs.declared.keeper.Keeper.{Ghosts}
use Rattle.mw_types.proofs.timer.Timer.TheSendSync as timers
use Rattle.mw_types.proofs.record.Record.TheSendSync as records
use Rattle.mw_types.proofs.identity.RowName.TheSendSync as names
use Rattle.mw_types.proofs.identity.RecordId.TheSendSync as ids
use Rattle.mw_types.specs.contracts.entry.Entry as Entry
use Rattle.run_history.specs.contracts.details.Details as Details
use Rattle.run_history.specs.contracts.details.Fired as Fired
use Rattle.run_history.specs.contracts.details.Handled as Handled
use Rattle.run_history.specs.contracts.history.History as History
use Rattle.run_history.specs.contracts.names.Names as Names
use Rattle.run_history.proofs.packed.Packed.TheSendSync as packs
use Rattle.book.specs.contracts.book_core.Core as Core
use Rattle.book.proofs.Sending.{effects_send}
use Rattle.shared_book.specs.contracts.seats.Note as Note
use Rattle.shared_book.specs.contracts.seats.Seat as Seat
use Rattle.shared_book.specs.contracts.shared.Shared as Shared
use Rattle.std.specs.contracts.option.Option as Option
use Rattle.atomic_table.proofs.owned.Table.TheSendSync as tables
use Rattle.std.specs.Prelude.{false}
use Rattle.shared_book.specs.Opening.{SharedLaw, blank}
use Rattle.shared_book.specs.contracts.views.View as View
use Rattle.shared_book.specs.contracts.shared.Key as Key
use Rattle.shared_book.specs.contracts.rule.Law as Law
use Rattle.std.specs.contracts.alloc.Global as Global
use Rattle.std.specs.contracts.impls.GlobalAllocator.TheImpl as global
use Rattle.run_history.proofs.case.Case.TheSendSync as cases

-- an entry
pub entry_send : IsSend Entry.the_row
entry_send =
    search (sendable, effects_send, timers.the_field_send, records.the_field_send, names.the_field_send, ids.the_field_send)
    depth 30 fits 100000

-- what an entry has beside its numbers
handled_send : IsSend Handled.the_row
handled_send = search (sendable, effects_send) depth 30 fits 100000

fired_send : IsSend Fired.the_row
fired_send = search (sendable, effects_send, timers.the_field_send) depth 30 fits 100000

-- the names of rows
held_send : IsSend Names.the_row
held_send = search (sendable, crosses, names.the_send) depth 30

-- all that, as a field
details_field_send : IsSend Details.the_field.row
details_field_send =
    search (sendable, crosses, held_send, handled_send, fired_send, entry_send, records.the_send) depth 30

-- a history
pub history_send : IsSend History.the_row
history_send = search (sendable, crosses, details_field_send, packs.the_send) depth 30

-- a book but for its case, where its keeper may cross
pub core_send : (K : RattleType) (g : Ghosts K.Denot) → IsSend K → IsSend (Core.the_row K g)
core_send K g s = search (sendable, crosses, maps.crosses, history_send, names.the_send, ids.the_send) depth 30

-- a seat, where its keeper may cross
pub seat_send : (K : RattleType) (g : Ghosts K.Denot) → IsSend K → IsSend (Seat.the_row K g)
seat_send K g s = search (sendable, crosses, core_send, places.the_send) depth 30

-- a seat as a field, where its keeper may cross
pub seat_field_send : (K : RattleType) (g : Ghosts K.Denot) → IsSend K → IsSend (Seat.the_field K g).row
seat_field_send K g s = search (sendable, crosses, core_send, places.the_send) depth 30

-- a note, where its keeper may cross
pub note_send : (K : RattleType) (g : Ghosts K.Denot) → IsSend K → IsSend (Note.the_row K g)
note_send K g s = search (sendable, crosses, core_send, places.the_send) depth 30

-- the place of the table, where the keeper may cross
pub option_send : (K : RattleType) (g : Ghosts K.Denot) → IsSend K → IsSend (Option.the_row (Core.the_row K g))
option_send K g s = search (sendable, crosses, core_send) depth 30

-- threads may share a shared book, where its keeper may cross
pub shared_sync : (ℓ : NamedLft) (K : RattleType) (g : Ghosts K.Denot) → IsSend K → IsSync (Shared.the_row ℓ K g)
shared_sync ℓ K g s =
    declared_sync (Shared.the_type ℓ K g) (
      search (sendable, cases.the_sync),
      (
        tables.the_sync (Option.the_row (Core.the_row K g)) View.the_row (Key.the_row ℓ) Law.the_row Global.the_row
            (record { holds = SharedLaw; first = λ key. blank key.case.now key.seats false }) global.ghosts
            (option_send K g s) send sync frees,
        tt,
      ),
    )
