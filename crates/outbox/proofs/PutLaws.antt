-- What an outbox has once what an entry made is put into it.
use Rattle.std.proofs.Common.{◌≡◌, ◌∙◌, ◌<◌, ◌^◌, ℕ, Bool, List, [], ◌∷◌, ◌++◌, map, ap, subst}
use Rattle.std.specs.Prelude.{All}
use Rattle.mw_types.specs.declared.delivery.Delivery.{Delivery}
use Rattle.mw_types.specs.declared.identity.RecordId.{RecordId}
use Rattle.mw_types.specs.declared.identity.RowName.{RowName}
use Rattle.mw_types.specs.declared.record.Production.{Production}
use Rattle.topology.specs.Shapes.{Shape}
use Rattle.run_history.specs.Made.{deliveries_made}
use Rattle.outbox.specs.Messages.{IsAddressed, messages_from}
use Rattle.outbox.specs.Outboxes.{numbered}
use Rattle.outbox.specs.declared.outgoing.Outgoing.{Outgoing}
use Rattle.outbox.specs.declared.outgoing.Outgoing.TheVariants as outgoing

-- what was made, by the case and the productions as they are
pub made-here : (one two : Shape) (ps qs : List Production) (name : RowName) (late : Bool) (made : List Outgoing) → one ≡ two → ps ≡ qs
    → ((commit : ℕ) → map (numbered commit) made ≡ messages_from name (deliveries_made one name.part ps late commit))
    → (commit : ℕ) → map (numbered commit) made ≡ messages_from name (deliveries_made two name.part qs late commit)
made-here one two ps qs name late made same equal is = λ commit.
    is commit ∙ ap (λ (k : Shape). messages_from name (deliveries_made k name.part ps late commit)) same
    ∙ ap (λ (list : List Production). messages_from name (deliveries_made two name.part list late commit)) equal

-- and where it goes
pub addressed-here : (one two : Shape) (ps qs : List Production) (name : RowName) (late : Bool) → one ≡ two → ps ≡ qs
    → ((commit : ℕ) → commit < 2 ^ 32 → All (IsAddressed one) (messages_from name (deliveries_made one name.part ps late commit)))
    → (commit : ℕ) → commit < 2 ^ 32 → All (IsAddressed two) (messages_from name (deliveries_made two name.part qs late commit))
addressed-here one two ps qs name late same equal is = subst (λ (list : List Production). (commit : ℕ) → commit < 2 ^ 32
    → All (IsAddressed two) (messages_from name (deliveries_made two name.part list late commit))) equal
    (subst (λ (k : Shape). (commit : ℕ) → commit < 2 ^ 32 → All (IsAddressed k) (messages_from name
    (deliveries_made k name.part ps late commit)))
    same is)

-- an outbox into which word was put, and then what was made
pub outbox-written : (outbox one two three : List Outgoing) (ack : Outgoing) (sender : RowName) (id : RecordId) (made : List Outgoing)
    (name : RowName) (ds : List Delivery) (commit : ℕ) → one ≡ outbox → two ≡ one ++ ack ∷ [] → three ≡ two ++ map (numbered commit) made
    → ack ≡ outgoing.Ack sender id → map (numbered commit) made ≡ messages_from name ds
    → three ≡ (outbox ++ outgoing.Ack sender id ∷ []) ++ messages_from name ds
outbox-written outbox one two three ack sender id made name ds commit room put all word sent =
    all ∙ ap (λ (l : List Outgoing). l ++ map (numbered commit) made)
    (put ∙ ap (λ (l : List Outgoing). l ++ ack ∷ []) room ∙ ap (λ (a : Outgoing). outbox ++ a ∷ []) word)
    ∙ ap (λ (l : List Outgoing). (outbox ++ outgoing.Ack sender id ∷ []) ++ l) sent
