-- What is to be sent, with room that is made before an entry has its number.
use Rattle.std.specs.Prelude.{ℕ, List}
use Rattle.mw_types.specs.declared.delivery.Delivery.{Delivery}
use Rattle.outbox.specs.declared.outgoing.Outgoing.{Outgoing}
use Rattle.outbox.specs.declared.outgoing.Outgoing.TheVariants as outgoing

-- what is to be sent, first come first, and for how many more there is room
pub record OutboxView : Type 0 where
  pub messages : List Outgoing
  pub room : ℕ

-- a delivery under another commit number
abbrev pub renumbered : ℕ → Delivery → Delivery
renumbered commit d = record d { id = record d.id { commit = commit } }

-- a message whose record is under another commit number
abbrev pub numbered : ℕ → Outgoing → Outgoing
numbered commit (outgoing.Deliver delivery sender) = outgoing.Deliver (renumbered commit delivery) sender
numbered commit (outgoing.Ack to id) = outgoing.Ack to id
