-- The steps by which a worker writes into a row that it holds.
use Rattle.std.specs.Prelude.{◌++◌, ◌∷◌, [], ℕ, Bool, List, Option}
use Rattle.mw_types.specs.Outcomes.{EffectsView}
use Rattle.mw_types.specs.declared.delivery.Delivery.{Delivery}
use Rattle.mw_types.specs.declared.identity.RowName.{RowName}
use Rattle.topology.specs.Shapes.{Shape}
use Rattle.row_parts.specs.Contents.{Contents}
use Rattle.run_history.specs.Made.{deliveries_made}
use Rattle.book.specs.Books.{LeaseView}
use Rattle.book.specs.Desks.{DeskView}
use Rattle.book.specs.Writings.{HasPut}
use Rattle.book.specs.declared.answers.Written.{Written}
use Rattle.book.specs.declared.writing.Writing.{Writing}
use Rattle.holdings.specs.Holding.{HeldView, HoldsEntry}
use Rattle.outbox.specs.Messages.{messages_from}
use Rattle.outbox.specs.declared.outgoing.Outgoing.{Outgoing}
use Rattle.outbox.specs.declared.outgoing.Outgoing.TheVariants as outgoing

-- this was written of a row that is held, as the desk answered it
abbrev pub HoldsPut : Shape → DeskView → DeskView → ℕ → RowName → Writing → ℕ → List (Option HeldView)
    → List (Option HeldView) → Type 0
HoldsPut shape old new interval name writing commit before after =
    HoldsEntry shape interval name commit (λ (lease : LeaseView) (row : Contents) (answer : Written).
    HasPut old new lease name writing row answer) before after

-- what a handler produced becomes messages from its row, under the commit number of the entry
abbrev pub handler_sends : Shape → RowName → EffectsView → Bool → ℕ → List Outgoing
handler_sends shape name effects late commit =
    messages_from name (deliveries_made shape name.part effects.productions late commit)

-- messages, with word behind them for the sender of a record that was handled, and then what that produced
abbrev pub with_sends : Shape → RowName → Delivery → EffectsView → ℕ → List Outgoing → List Outgoing
with_sends shape sender delivery effects commit messages =
    (messages ++ outgoing.Ack sender delivery.id ∷ [])
    ++ handler_sends shape delivery.to effects delivery.item.late commit
