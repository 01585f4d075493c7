-- What relays write, what they send on, and what they make.
use Rattle.std.proofs.Common.{◌≡◌, ◌∙◌, ◌++◌, ◌∷◌, ℕ, zero, suc, Bool, true, false, List, [], length, refl, sym, ap, inl, inr}
use Rattle.std.specs.Prelude.{◌⊎◌, Option, None, Some, if◌then◌else◌, slice_get, slice_set, unwrap_or}
use Rattle.std.specs.Option.{option_map_or}
use Rattle.std.proofs.lemmas.List.{append-nil, length-set}
use Rattle.std.proofs.lemmas.Option.{unwrap_or-slice_get}
use Rattle.std.proofs.Math.Seq.{get_or-append_seam}
use Rattle.list_lemmas.proofs.Lists.{none_some}
use Rattle.mw_types.specs.declared.identity.RecordId.{RecordId}
use Rattle.mw_types.specs.declared.identity.RowName.{RowName}
use Rattle.run_history.specs.Cases.{CaseShape}
use Rattle.node.specs.declared.outcome.Outcome.TheVariants as outcomes
use Rattle.outbox.specs.declared.outgoing.Outgoing.{Outgoing}
use Rattle.outbox.specs.declared.outgoing.Outgoing.TheVariants as outgoing
use Rattle.weak_relay.specs.Relays.{holds, without_id}
use Rattle.plans.specs.declared.step.Step.TheVariants as steps
use Rattle.world.specs.scripts.Acts.{act, done, lose_message, nothing, pass_on, relay_message, relay_next, world_then}
use Rattle.world.specs.scripts.Keeping.{WritesNothing}
use Rattle.world.specs.scripts.Worlds.{World, held_by, in_flight, is_next, relays_on, to_pass}
use Rattle.world.proofs.scripts.Places.{at-set}
use Rattle.world.proofs.scripts.RelayLaws.{relay-deed}

-- ---- what is written

-- nothing where a message comes to a relay
pub relay-writes : (case : CaseShape) (number message : ℕ) (world : World)
    → WritesNothing world (world_then case world (steps.Relay number message))
relay-writes case number message world =
    relay-deed (λ d. WritesNothing world (done case.topology world d).1) number message world
    (record { history = append-nil world.history; marks = refl; workers = refl })
    (λ m held there room. record { history = append-nil world.history; marks = refl; workers = refl })
    (λ m there. record { history = append-nil world.history; marks = refl; workers = refl })

-- and nothing where one forgets
pub forget-writes : (case : CaseShape) (number : ℕ) (world : World)
    → WritesNothing world (world_then case world (steps.Forget number))
forget-writes case number world = record { history = append-nil world.history; marks = refl; workers = refl }

-- ---- what is sent on

-- what stands behind all others
at-end : {X : Type 0} (xs : List X) (x d : X) → unwrap_or (slice_get (xs ++ x ∷ []) (length xs)) d ≡ x
at-end xs x d = unwrap_or-slice_get (xs ++ x ∷ []) (length xs) d ∙ get_or-append_seam xs x [] d

-- the message under the next number is the one that came
pub relay-sends : (case : CaseShape) (number message : ℕ) (world : World)
    → (act case world (steps.Relay number message)).0 ≡ outcomes.Sent 1
    → in_flight (world_then case world (steps.Relay number message)).flight (length world.flight) ≡ in_flight world.flight message
relay-sends case number message world =
    relay-deed (λ d. (done case.topology world d).0 ≡ outcomes.Sent 1
    → in_flight (done case.topology world d).1.flight (length world.flight) ≡ in_flight world.flight message) number message world
    (λ e. absurd cc)
    (λ m held there room e. ap (in_flight (slice_set world.flight message None ++ Some m ∷ []))
    (sym (length-set world.flight message None))
    ∙ at-end (slice_set world.flight message None) (Some m) None ∙ sym there)
    (λ m there e. absurd cc)

-- word is sent on only where its record's id is held
pub word-held : (case : CaseShape) (number message : ℕ) (world : World) (to : RowName) (id : RecordId)
    → in_flight world.flight message ≡ Some (outgoing.Ack to id)
    → (act case world (steps.Relay number message)).0 ≡ outcomes.Sent 1 → holds (held_by world number) id ≡ true
word-held case number message world to id there sent =
    by_next (is_next number (relays_on world.routes word) word (to_pass world message))
    (ap (λ o. (done case.topology world (option_map_or (relay_next number message world) o (nothing world 0))).0) (sym there) ∙ sent)
  where
    word : Outgoing
    word = outgoing.Ack to id

    by_held : (b : Bool) → (done case.topology world (if b then pass_on number message world word (without_id id (held_by world number))
        else lose_message message world word)).0 ≡ outcomes.Sent 1 → b ≡ true
    by_held true e = refl
    by_held false e = absurd cc

    by_next : (b : Bool)
        → (done case.topology world (if b then relay_message number message world word else nothing world 0)).0 ≡ outcomes.Sent 1
        → holds (held_by world number) id ≡ true
    by_next true e = by_held (holds (held_by world number) id) e
    by_next false e = absurd cc

-- ---- what is made

-- what is in flight behind one more is that, or was there
put-was : (flight : List (Option Outgoing)) (m made : Outgoing) (other : ℕ) → in_flight (flight ++ Some m ∷ []) other ≡ Some made
    → (in_flight flight other ≡ Some made) ⊎ (Some m ≡ Some made)
put-was [] m made zero there = inr there
put-was [] m made (suc other) there = inl there
put-was (place ∷ flight) m made zero there = inl there
put-was (place ∷ flight) m made (suc other) there = put-was flight m made other there

-- what is in flight once one is gone was there
gone-was : (flight : List (Option Outgoing)) (message other : ℕ) (made : Outgoing)
    → in_flight (slice_set flight message None) other ≡ Some made → in_flight flight other ≡ Some made
gone-was flight message other made there = elim (at-set None flight message other None) [
  | inl here ↦ absurd (none_some made (sym here.1 ∙ there))
  | inr same ↦ sym same ∙ there
]

-- so a relay makes nothing
pub relay-makes : (case : CaseShape) (number message : ℕ) (world : World) (other : ℕ) (made : Outgoing)
    → in_flight (world_then case world (steps.Relay number message)).flight other ≡ Some made
    → (old : ℕ) × (in_flight world.flight old ≡ Some made)
relay-makes case number message world =
    relay-deed (λ d. (other : ℕ) (made : Outgoing) → in_flight (done case.topology world d).1.flight other ≡ Some made
    → (old : ℕ) × (in_flight world.flight old ≡ Some made)) number message world
    (λ other made at. (other, at))
    (λ m held there room other made at. elim (put-was (slice_set world.flight message None) m made other at) [
      | inl was ↦ (other, gone-was world.flight message other made was)
      | inr same ↦ (message, there ∙ same)
    ])
    (λ m there other made at. (other, gone-was world.flight message other made at))
