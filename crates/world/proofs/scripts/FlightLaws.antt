-- Messages that come into flight, and that leave it.
use Rattle.std.proofs.Common.{◌≡◌, ◌∙◌, ◌+◌, ◌-◌, ◌^◌, ◌++◌, ◌∷◌, ℕ, Bool, true, false, List, [], length, length-append, drop, take, inr, refl, sym, ap, subst, arith}
use Rattle.std.specs.Prelude.{Option, None, Some, All, IfSome, if◌then◌else◌, nat_le, slice_get, slice_set, unwrap_or}
use Rattle.std.specs.Option.{option_map, option_map_or}
use Rattle.std.proofs.lemmas.List.{append-nil, drop-map, length-drop, length-map, map-append, map-set, take_all}
use Rattle.std.proofs.lemmas.List.Elements.{All-get_or, All-push, All-set}
use Rattle.std.proofs.lemmas.Option.{get_or_from_slice_get, slice_get-map, slice_get_within}
use Rattle.mw_types.specs.declared.entry.Entry.{Entry}
use Rattle.mw_types.specs.declared.identity.RecordId.{RecordId}
use Rattle.run_history.specs.Cases.{CaseShape}
use Rattle.book.specs.Books.{BookView}
use Rattle.book.specs.OwnDesks.{own_view}
use Rattle.book.specs.declared.own_desk.NoNote.{NoNote}
use Rattle.outbox.specs.Messages.{IsOutgoing}
use Rattle.node.specs.Received.{outgoing_of}
use Rattle.node.specs.declared.message.Message.{Message}
use Rattle.node.specs.declared.outcome.Outcome.{Outcome}
use Rattle.node.specs.declared.outcome.Outcome.TheVariants as outcomes
use Rattle.outbox.specs.declared.outgoing.Outgoing.{Outgoing}
use Rattle.world.specs.scripts.Acts.{Deed, copy_message, done, has_numbers, lose_message, nothing, sent_after, stays, without_message}
use Rattle.world.specs.scripts.Relaying.{copied_left}
use Rattle.world.specs.scripts.Worlds.{World, in_flight, to_pass}
use Rattle.plans.specs.declared.step.Step.TheVariants as steps
use Rattle.world.specs.scripts.Standing.{IsFlying}
use Rattle.world.specs.scripts.WorkerCalls.{CopiesOn, FliesOn, HasCopied, IsFlightOf}
use Rattle.world.specs.scripts.WorldStates.{flight_of, noteless}
use Rattle.world.proofs.scripts.OnWays.{copied_left-none, copied_left-one}

-- ---- what stands under a number

-- what is in flight under a number, without its note
pub flight-at : (flight : List (Option (Message NoNote))) (number : ℕ)
    → in_flight (flight_of flight) number ≡ noteless (unwrap_or (slice_get flight number) None)
flight-at flight number =
    ap (λ (o : Option (Option Outgoing)). unwrap_or o None) (slice_get-map noteless flight number) ∙ by_place (slice_get flight number)
  where
    by_place : (o : Option (Option (Message NoNote))) → unwrap_or (option_map noteless o) None ≡ noteless (unwrap_or o None)
    by_place None = refl
    by_place (Some place) = refl

-- what is in flight from a number on
pub flight-from : (flight : List (Option (Message NoNote))) (n : ℕ)
    → flight_of (take (length flight - n) (drop n flight)) ≡ drop n (flight_of flight)
flight-from flight n = let size = length-drop n flight in
    ap (λ f. flight_of f) (take_all (length flight - n) (drop n flight) (omega (arith, size))) ∙ sym (drop-map noteless n flight)

-- what is in flight once a place is emptied
pub flight-gone : (flight : List (Option (Message NoNote))) (number : ℕ)
    → flight_of (slice_set flight number None) ≡ without_message number (flight_of flight)
flight-gone flight number = map-set noteless flight number None

-- what is in flight once one more is
pub flight-put : (flight : List (Option (Message NoNote))) (message : Message NoNote)
    → flight_of (flight ++ Some message ∷ []) ≡ sent_after (flight_of flight) (outgoing_of message ∷ [])
flight-put flight message = map-append noteless flight (Some message ∷ [])

-- what holds of all that is in flight holds of a message there
pub placed-at : (P : Outgoing → Type 0) (flight : List (Option Outgoing)) (number : ℕ) (message : Outgoing)
    → All (λ (place : Option Outgoing). IfSome place P) flight → in_flight flight number ≡ Some message → P message
placed-at P flight number message each at = by_place (slice_get flight number) refl at
  where
    by_place : (o : Option (Option Outgoing)) → slice_get flight number ≡ o → unwrap_or o None ≡ Some message → P message
    by_place None there e = absurd cc
    by_place (Some place) there e =
        let found : IfSome place P =
        subst (λ (o : Option Outgoing). IfSome o P) (get_or_from_slice_get flight number place place there)
        (All-get_or (λ (o : Option Outgoing). IfSome o P) flight number place (slice_get_within flight number place there) each) in
        subst (λ (o : Option Outgoing). IfSome o P) e found

-- so it may have been sent
pub flying-at : (book : BookView) (flight : List (Option Outgoing)) (number : ℕ) (message : Outgoing)
    → All (IsFlying book) flight → in_flight flight number ≡ Some message → IsOutgoing book.case (own_view book) message
flying-at book flight number message each at = placed-at (IsOutgoing book.case (own_view book)) flight number message each at

-- ---- what the script does

-- a step that changes no worker and writes nothing changes what is in flight, what that has to pass, and what
-- relays hold
pub changes-done : (case : CaseShape) (world : World) (answer : Outcome) (flight : List (Option Outgoing)) (left : List ℕ)
    (relays : List (List RecordId)) → (answer, record world { flight = flight; left = left; relays = relays })
    ≡ done case.topology world (record (stays world 0 answer) { flight = flight; left = left; relays = relays })
changes-done case world answer flight left relays = ap (λ (h : List Entry). (
  answer,
  record world {
    history = h;
    flight = flight;
    left = left;
    relays = relays;
  },
)) (sym (append-nil world.history))

-- or what is in flight alone
flies-done : (case : CaseShape) (world : World) (answer : Outcome) (flight : List (Option Outgoing))
    → (answer, record world { flight = flight }) ≡ done case.topology world (record (stays world 0 answer) { flight = flight })
flies-done case world answer flight = changes-done case world answer flight world.left world.relays

-- a message is lost
pub lose-gone : (number : ℕ) (flight : List (Option (Message NoNote))) (message : Message NoNote)
    → unwrap_or (slice_get flight number) None ≡ Some message
    → FliesOn (steps.Lose number) (flight_of flight) (flight_of (slice_set flight number None)) outcomes.Lost
lose-gone number flight message at case world same =
    let there : in_flight world.flight number ≡ Some (outgoing_of message) =
    ap (λ f. in_flight f number) same ∙ flight-at flight number ∙ ap noteless at in
    ap (λ (f : List (Option Outgoing)). (outcomes.Lost, record world { flight = f }))
    (flight-gone flight number ∙ ap (without_message number) (sym same))
    ∙ flies-done case world outcomes.Lost (without_message number world.flight)
    ∙ ap (λ o. done case.topology world (option_map_or (lose_message number world) o (nothing world 0))) (sym there)

-- no message is lost where none is there
pub lose-not : (number : ℕ) (flight : List (Option (Message NoNote))) → unwrap_or (slice_get flight number) None ≡ None
    → FliesOn (steps.Lose number) (flight_of flight) (flight_of flight) outcomes.Nothing
lose-not number flight at case world same =
    let there : in_flight world.flight number ≡ None = ap (λ f. in_flight f number) same ∙ flight-at flight number ∙ ap noteless at in
    ap (λ (f : List (Option Outgoing)). (outcomes.Nothing, record world { flight = f })) (sym same)
    ∙ flies-done case world outcomes.Nothing world.flight
    ∙ ap (λ o. done case.topology world (option_map_or (lose_message number world) o (nothing world 0))) (sym there)

-- a deed that changes nothing leaves what is in flight and what that has to pass
stays-here : (case : CaseShape) (world : World) (number : ℕ) (flight : List (Option Outgoing)) → IsFlightOf world flight
    → (outcomes.Nothing, record world { flight = flight; left = copied_left number (length flight) world.left })
    ≡ done case.topology world (nothing world 0)
stays-here case world number flight is =
    ap (λ (l : List ℕ). (outcomes.Nothing, record world { flight = flight; left = l }))
    (copied_left-none number (length flight) world.left is.sized)
    ∙ ap (λ (f : List (Option Outgoing)). (outcomes.Nothing, record world { flight = f })) (sym is.same)
    ∙ flies-done case world outcomes.Nothing world.flight

-- no message is copied where none is there
pub repeat-not : (number : ℕ) (flight : List (Option (Message NoNote))) → unwrap_or (slice_get flight number) None ≡ None
    → CopiesOn number (flight_of flight) (flight_of flight) outcomes.Nothing
repeat-not number flight at case world is =
    stays-here case world number (flight_of flight) is
    ∙ ap (λ o. done case.topology world (option_map_or (copy_message number world) o (nothing world 0)))
    (sym (ap (λ f. in_flight f number) is.same ∙ flight-at flight number ∙ ap noteless at))

-- the deed of a message that is copied, by whether there is a number for it
copied-if : ℕ → World → Outgoing → Bool → Deed
copied-if number world copied b = if b
    then record (stays world 0 (outcomes.Copied (length world.flight))) {
      flight = sent_after world.flight (copied ∷ []);
      left = world.left ++ to_pass world number ∷ [];
    } else nothing world 0

-- whether there is one, with notes or without
pub one-number : (flight : List (Option (Message NoNote))) → has_numbers (flight_of flight) 1 ≡ nat_le (length flight + 1) (2 ^ 32)
one-number flight = ap (λ n. nat_le (n + 1) (2 ^ 32)) (length-map flight noteless)

-- and in a scripted world
room-is : (world : World) (flight : List (Option (Message NoNote))) (b : Bool) → world.flight ≡ flight_of flight
    → nat_le (length flight + 1) (2 ^ 32) ≡ b → has_numbers world.flight 1 ≡ b
room-is world flight b same room = ap (λ f. has_numbers f 1) same ∙ one-number flight ∙ room

-- no message is copied where there is no number for it
pub repeat-full : (number : ℕ) (flight : List (Option (Message NoNote))) (message : Message NoNote)
    → unwrap_or (slice_get flight number) None ≡ Some message → nat_le (length flight + 1) (2 ^ 32) ≡ false
    → CopiesOn number (flight_of flight) (flight_of flight) outcomes.Nothing
unfolding copied-if
repeat-full number flight message at full case world is =
    stays-here case world number (flight_of flight) is
    ∙ ap (λ b. done case.topology world (copied-if number world (outgoing_of message) b)) (sym (room-is world flight false is.same full))
    ∙ ap (λ o. done case.topology world (option_map_or (copy_message number world) o (nothing world 0)))
    (sym (ap (λ f. in_flight f number) is.same ∙ flight-at flight number ∙ ap noteless at))

-- a message is copied
pub repeat-more : (number : ℕ) (flight : List (Option (Message NoNote))) (message : Message NoNote)
    → unwrap_or (slice_get flight number) None ≡ Some message → nat_le (length flight + 1) (2 ^ 32) ≡ true
    → CopiesOn number (flight_of flight) (flight_of (flight ++ Some message ∷ [])) (outcomes.Copied (length flight))
unfolding copied-if
repeat-more number flight message at room case world is =
    let after = sent_after world.flight (outgoing_of message ∷ []) in
    let size : length world.flight ≡ length flight = ap length is.same ∙ length-map flight noteless in
    let behind : flight_of (flight ++ Some message ∷ []) ≡ after =
    flight-put flight message ∙ ap (λ f. sent_after f (outgoing_of message ∷ [])) (sym is.same) in
    let more : length after ≡ length world.left + 1 =
    length-append world.flight (Some (outgoing_of message) ∷ []) ∙ ap (λ n. n + 1) (ap length is.same ∙ sym is.sized) in
    ap (λ (f : List (Option Outgoing)). (
      outcomes.Copied (length flight),
      record world { flight = f; left = copied_left number (length f) world.left },
    )) behind
    ∙ ap (λ (l : List ℕ). (outcomes.Copied (length flight), record world { flight = after; left = l }))
    (copied_left-one number (length after) world.left more)
    ∙ ap (λ n. (outcomes.Copied n, record world { flight = after; left = world.left ++ to_pass world number ∷ [] })) (sym size)
    ∙ changes-done case world (outcomes.Copied (length world.flight)) after (world.left ++ to_pass world number ∷ []) world.relays
    ∙ ap (λ b. done case.topology world (copied-if number world (outgoing_of message) b)) (sym (room-is world flight true is.same room))
    ∙ ap (λ o. done case.topology world (option_map_or (copy_message number world) o (nothing world 0)))
    (sym (ap (λ f. in_flight f number) is.same ∙ flight-at flight number ∙ ap noteless at))

-- a copy comes behind what was in flight
pub copied-behind : (number : ℕ) (flight : List (Option (Message NoNote))) (message : Message NoNote)
    → unwrap_or (slice_get flight number) None ≡ Some message
    → HasCopied number (flight_of flight) (flight_of (flight ++ Some message ∷ []))
copied-behind number flight message at =
    inr (outgoing_of message, flight-at flight number ∙ ap noteless at, flight-put flight message)

-- what is copied may have been sent
pub flying-put : (book : BookView) (flight : List (Option (Message NoNote))) (number : ℕ) (message : Message NoNote)
    → unwrap_or (slice_get flight number) None ≡ Some message → All (IsFlying book) (flight_of flight)
    → All (IsFlying book) (flight_of (flight ++ Some message ∷ []))
flying-put book flight number message at each =
    subst (All (IsFlying book)) (sym (flight-put flight message))
    (All-push (IsFlying book) (flight_of flight) (Some (outgoing_of message)) each
    (flying-at book (flight_of flight) number (outgoing_of message) each (flight-at flight number ∙ ap noteless at)))

-- what is left once one is gone may have been sent
pub flying-gone : (book : BookView) (flight : List (Option (Message NoNote))) (number : ℕ) → All (IsFlying book) (flight_of flight)
    → All (IsFlying book) (flight_of (slice_set flight number None))
flying-gone book flight number each =
    subst (All (IsFlying book)) (sym (flight-gone flight number)) (All-set (IsFlying book) (flight_of flight) number None tt each)
