-- The step by which a worker sends all that it has to send.
use Rattle.std.proofs.Common.{◌≡◌, ◌∙◌, ◌+◌, ◌^◌, ◌++◌, ℕ, true, false, List, [], length, refl, sym, ap, subst, arith}
use Rattle.std.specs.Prelude.{Option, Some, All, if◌then◌else◌, map, nat_le, slice_set, unwrap_or}
use Rattle.std.proofs.lemmas.List.{append-nil, length-map, set-get_or}
use Rattle.std.proofs.lemmas.List.Elements.{All-append, All-map}
use Rattle.std.proofs.lemmas.Option.{get_or_from_slice_get}
use Rattle.mw_types.specs.declared.entry.Entry.{Entry}
use Rattle.book.specs.Books.{BookView, core_of}
use Rattle.book.specs.Lawful.{IsLawful}
use Rattle.book.specs.OwnDesks.{own_view}
use Rattle.book.specs.declared.own_desk.NoNote.{NoNote}
use Rattle.book.proofs.OwnLaws.{sound}
use Rattle.node.specs.Workers.{NodeView, Worker, idle, leases_of, worker_at}
use Rattle.node.specs.declared.message.Message.{Message}
use Rattle.node.specs.declared.outcome.Outcome.TheVariants as outcomes
use Rattle.outbox.specs.declared.outgoing.Outgoing.{Outgoing}
use Rattle.node.proofs.FitLaws.{grown_looked, looked-moved, looked_not, more-looked}
use Rattle.world.specs.scripts.Acts.{done, has_numbers, nothing, send_all}
use Rattle.world.specs.scripts.Relaying.{sent_left}
use Rattle.world.specs.scripts.Worlds.{World, relays_on, worker_of}
use Rattle.world.specs.scripts.Standing.{FitsOwn, IsFlying}
use Rattle.world.specs.scripts.WorkerCalls.{HasCalled, HasSent, IsFlightOf, IsSending, IsWorldAt, SendsOn, world_with}
use Rattle.world.specs.scripts.WorldStates.{flight_of, noteless}
use Rattle.world.proofs.scripts.OnWays.{sent_left-more, sent_left-none}
use Rattle.world.proofs.scripts.WorldStands.{flying-more}
use Rattle.world.proofs.scripts.TakeSteps.{stays-done}
use Rattle.world.proofs.drains.TurnLaws.{stepped-looked}
use Rattle.world.proofs.scripts.WorkerLaws.{leases-kept}

-- ---- how far it has come

-- nothing was sent yet
pub sending-none : (book : BookView) (node : NodeView) (flight : List (Option Outgoing)) → FitsOwn book node
    → IsSending book node flight book node flight
sending-none book node flight fits =
    record { looked = looked_not (own_view book); marks = refl; fits = fits; rest = refl; sent = refl }

-- some was sent, and then more
pub sending-on : (old mid new : BookView) (was here node : NodeView) (flight between after : List (Option Outgoing))
    → IsSending old was flight mid here between → IsSending mid here between new node after
    → IsSending old was flight new node after
sending-on old mid new was here node flight between after one two = record {
  looked = looked-moved (own_view old) (own_view mid) (own_view new) new.history one.looked two.looked;
  marks = two.marks ∙ one.marks;
  fits = two.fits;
  rest = two.rest ∙ ap (λ (n : NodeView). let left : NodeView = record n { outbox = node.outbox } in left) one.rest;
  sent = two.sent ∙ one.sent;
}

-- ---- what is left

-- the worker has called its desk
pub sent-called : (old new : BookView) (was node : NodeView) (flight after : List (Option Outgoing))
    → IsLawful old.case (core_of old) → IsLawful new.case (core_of new) → IsSending old was flight new node after
    → HasCalled old new was node
sent-called old new was node flight after lawful still sending = record {
  grown = grown_looked was.held (own_view old) (own_view new) sending.looked;
  leases = leases-kept new was node (ap (λ (n : NodeView). leases_of n.held) sending.rest);
  fits = sending.fits;
  number = ap (λ (n : NodeView). n.number) sending.rest;
  was_sound = sound old lawful;
  sound = sound new still;
}

-- and has called nothing where it sends nothing
pub unsent-called : (book : BookView) (node : NodeView) → IsLawful book.case (core_of book) → FitsOwn book node
    → HasCalled book book node node
unsent-called book node lawful fits = sent-called book book node node [] [] lawful lawful (sending-none book node [] fits)

-- all of it was sent
pub all-sent : (old new : BookView) (was node : NodeView) (flight after : List (Option Outgoing))
    → IsSending old was flight new node after → node.outbox ≡ [] → after ≡ flight ++ map Some was.outbox
all-sent old new was node flight after sending none =
    sym (append-nil after) ∙ ap (λ (l : List Outgoing). after ++ map Some l) (sym none) ∙ sending.sent

-- it came behind what was in flight
pub sent-behind : (old new : BookView) (was node : NodeView) (flight after : List (Option Outgoing))
    → IsSending old was flight new node after → node.outbox ≡ [] → HasSent (length was.outbox) flight after
sent-behind old new was node flight after sending none = record {
  sent = was.outbox;
  behind = all-sent old new was node flight after sending none;
  few = omega arith;
}

-- or nothing came
pub sent-none : (most : ℕ) (flight : List (Option Outgoing)) → HasSent most flight flight
sent-none most flight = record { sent = []; behind = sym (append-nil flight); few = omega arith }

-- what is in flight then may have been sent
pub sent-flying : (old new : BookView) (was node : NodeView) (flight after : List (Option Outgoing)) → FitsOwn old was
    → IsSending old was flight new node after → node.outbox ≡ [] → All (IsFlying old) flight → All (IsFlying new) after
sent-flying old new was node flight after fits sending none each =
    subst (All (IsFlying new)) (sym (all-sent old new was node flight after sending none))
    (flying-more old new (flight ++ map Some was.outbox) (more-looked (own_view old) (own_view new) sending.looked)
    (All-append (IsFlying old) flight (map Some was.outbox) each (All-map (IsFlying old) Some was.outbox fits.outbox)))

-- ---- as the script does

-- the worker of a scripted world
worker-is : (book : BookView) (was : NodeView) (world : World) → IsWorldAt book was world
    → worker_of world was.number ≡ worker_at was
worker-is book was world at = ap (λ (o : Option Worker). unwrap_or o idle) at.there

-- a scripted world in which nothing was done
kept-world : (book : BookView) (was : NodeView) (world : World) (flight : List (Option Outgoing)) → IsWorldAt book was world
    → IsFlightOf world flight
    → record (world_with book was.number was world) { flight = flight; left = sent_left world.routes flight world.left } ≡ world
kept-world book was world flight at is =
    let stood = sym at.history in
    let marked = sym at.marks in
    let flies = sym is.same in
    let goes = sent_left-none world.routes flight world.left is.sized in
    λ i. record world { history = stood i; marks = marked i; workers = still i; flight = flies i; left = goes i }
  where
    still : slice_set world.workers was.number (worker_at was) ≡ world.workers
    still = ap (slice_set world.workers was.number)
        (sym (get_or_from_slice_get world.workers was.number (worker_at was) (worker_at was) at.there))
        ∙ set-get_or world.workers was.number (worker_at was)

-- the numbers that a worker's messages need
numbers-are : (book : BookView) (was : NodeView) (world : World) (flight : List (Option (Message NoNote))) (count : ℕ)
    → IsWorldAt book was world → world.flight ≡ flight_of flight → count ≡ length was.outbox
    → has_numbers world.flight (length (worker_of world was.number).outbox) ≡ nat_le (length flight + count) (2 ^ 32)
numbers-are book was world flight count at same counted =
    ap (λ n. nat_le (n + length (worker_of world was.number).outbox) (2 ^ 32)) (ap length same ∙ length-map flight noteless)
    ∙ ap (λ n. nat_le (length flight + n) (2 ^ 32))
    (ap (λ (w : Worker). length w.outbox) (worker-is book was world at) ∙ sym counted)

-- there are no numbers for what it has to send
pub send-full : (book : BookView) (was : NodeView) (flight : List (Option (Message NoNote))) (count : ℕ) → count ≡ length was.outbox
    → nat_le (length flight + count) (2 ^ 32) ≡ false
    → SendsOn book was (flight_of flight) book was (flight_of flight) outcomes.Nothing
send-full book was flight count counted full world at is =
    ap (λ (w : World). (outcomes.Nothing, w)) (kept-world book was world (flight_of flight) at is)
    ∙ stays-done book.case.topology world was.number outcomes.Nothing
    ∙ ap (λ b. done book.case.topology world (if b then send_all was.number world else nothing world was.number))
    (sym (numbers-are book was world flight count at is.same counted ∙ full))

-- all that it has to send is sent
pub send-more : (old new : BookView) (was node : NodeView) (flight after : List (Option (Message NoNote))) (count : ℕ)
    → IsSending old was (flight_of flight) new node (flight_of after) → node.outbox ≡ [] → count ≡ length was.outbox
    → nat_le (length flight + count) (2 ^ 32) ≡ true
    → SendsOn old was (flight_of flight) new node (flight_of after) (outcomes.Sent count)
send-more old new was node flight after count sending none counted room world at is =
    left new.history new.marks (worker_at node) (flight_of after) (sent_left world.routes (flight_of after) world.left) count
    ((stepped-looked old new sending.looked).appended ∙ sym at.history ∙ sym (append-nil world.history))
    (sending.marks ∙ sym at.marks)
    (ap worker_at (sending.rest ∙ ap (λ (l : List Outgoing). let n : NodeView = record was { outbox = l } in n) none)
    ∙ ap (λ (w : Worker). let v : Worker = record w { outbox = [] } in v) (sym here))
    behind
    (ap (λ f. sent_left world.routes f world.left) behind
    ∙ sent_left-more world.routes world.flight world.left (worker_of world was.number).outbox (is.sized ∙ ap length (sym is.same)))
    (counted ∙ ap (λ (w : Worker). length w.outbox) (sym here))
    ∙ ap (λ b. done old.case.topology world (if b then send_all was.number world else nothing world was.number))
    (sym (numbers-are old was world flight count at is.same counted ∙ room))
  where
    here : worker_of world was.number ≡ worker_at was
    here = worker-is old was world at

    behind : flight_of after ≡ world.flight ++ map Some (worker_of world was.number).outbox
    behind = all-sent old new was node (flight_of flight) (flight_of after) sending none
        ∙ ap (λ (f : List (Option Outgoing)). f ++ map Some was.outbox) (sym is.same)
        ∙ ap (λ (w : Worker). world.flight ++ map Some w.outbox) (sym here)

    left : (h : List Entry) (m : List ℕ) (w : Worker) (f : List (Option Outgoing)) (l : List ℕ) (n : ℕ) → h ≡ world.history ++ []
        → m ≡ world.marks → w ≡ record (worker_of world was.number) { outbox = [] }
        → f ≡ world.flight ++ map Some (worker_of world was.number).outbox
        → l ≡ world.left ++ map (λ (o : Outgoing). length (relays_on world.routes o)) (worker_of world was.number).outbox
        → n ≡ length (worker_of world was.number).outbox
        → (
          outcomes.Sent n,
          record world {
            history = h;
            marks = m;
            workers = slice_set world.workers was.number w;
            flight = f;
            left = l;
          },
        ) ≡ done old.case.topology world (send_all was.number world)
    left h m w f l n hs ms ws fs ls ns = λ i. (
      outcomes.Sent (ns i),
      record world {
        history = hs i;
        marks = ms i;
        workers = slice_set world.workers was.number (ws i);
        flight = fs i;
        left = ls i;
      },
    )
