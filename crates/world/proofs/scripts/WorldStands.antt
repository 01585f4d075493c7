-- What always holds of a world still does once one of its workers has acted.
use Rattle.std.proofs.Common.{◌≡◌, ◌≢◌, ◌∙◌, ◌<◌, ◌≤◌, ◌^◌, ◌++◌, ◌∷◌, ℕ, zero, List, [], length, get_or, refl, sym, ap, subst, arith, inl, inr}
use Rattle.std.specs.Prelude.{◌⊎◌, Option, None, Some, IfSome, All, map, slice_get, slice_set, unwrap_or}
use Rattle.std.specs.Option.{option_map, option_to_list}
use Rattle.std.proofs.lemmas.Bool.{cases_eq}
use Rattle.std.proofs.lemmas.List.{append-nil, get_or-set_other, get_or-set_same, length-set, map-set}
use Rattle.std.proofs.lemmas.List.Elements.{All-from_get_or, All-from_recursion, All-get_or, All-weaker}
use Rattle.std.proofs.lemmas.Option.{get_or_from_slice_get, slice_get-get_or, slice_get-map, slice_get_within}
use Rattle.mw_types.specs.declared.entry.Entry.{Entry}
use Rattle.mw_types.specs.declared.entry.Entry.TheVariants as entries
use Rattle.topology.specs.Shapes.{parts_of}
use Rattle.run_history.specs.Cases.{CaseShape}
use Rattle.run_history.specs.Fences.{CarryNot, sequencer_of}
use Rattle.run_history.proofs.Beginnings.{slice_get-more}
use Rattle.list_lemmas.proofs.Lists.{none_some, some_same}
use Rattle.book.specs.Books.{BookView}
use Rattle.book.specs.OwnDesks.{own_view}
use Rattle.book.specs.declared.own_desk.NoNote.{NoNote}
use Rattle.holdings.specs.Holding.{HeldView}
use Rattle.node.specs.Answers.{HasGrown, IsOwnEntry}
use Rattle.node.specs.Fits.{Fits}
use Rattle.outbox.specs.Messages.{IsOutgoing}
use Rattle.node.specs.Workers.{NodeView, Worker, idle, leases_of, worker_at}
use Rattle.node.specs.declared.message.Message.{Message}
use Rattle.outbox.specs.declared.outgoing.Outgoing.{Outgoing}
use Rattle.node.proofs.FitLaws.{Fits-beside, HasMore, outgoing-more}
use Rattle.world.specs.scripts.Keeping.{AreClaimed}
use Rattle.world.proofs.scripts.Places.{at-set}
use Rattle.world.specs.scripts.Standing.{AreOnWay, FitsOwn, IsFlying, IsWorld}
use Rattle.world.specs.drains.Turns.{HasStepped, with_own}
use Rattle.world.specs.scripts.WorkerCalls.{HasCalled}
use Rattle.world.specs.scripts.WorldStates.{WorldState, flight_of, world_of}
use Rattle.world.proofs.drains.TurnLaws.{lease-held, moved-before, stepped-by}

-- ---- how the history goes on

-- an entry at the end, if there is one
own-list : (own : Option Entry) (history : List Entry) → history ++ option_to_list own ≡ with_own own history
own-list None history = append-nil history
own-list (Some entry) history = refl

-- a book has stepped on by what a worker appended
pub stepped-grown : (all : List (Option HeldView)) (old new : BookView) (grown : HasGrown all (own_view old) (own_view new))
    → HasStepped old new grown.own
stepped-grown all old new grown =
    stepped-by old new grown.before grown.own grown.moved (grown.appended ∙ own-list grown.own grown.before)

-- the history with what a worker appended
pub history-grown : (all : List (Option HeldView)) (old new : BookView) (grown : HasGrown all (own_view old) (own_view new))
    → new.history ≡ old.history ++ option_to_list grown.own
history-grown all old new grown =
    grown.appended ∙ ap (λ (h : List Entry). h ++ option_to_list grown.own) (moved-before old new grown.before grown.moved)

-- the desk over the book has seen more
pub more-grown : (all : List (Option HeldView)) (old new : BookView) → HasGrown all (own_view old) (own_view new)
    → HasMore (own_view old) (own_view new)
more-grown all old new grown = record {
  case = grown.moved.case;
  told = grown.moved.told;
  rest = option_to_list grown.own;
  more = history-grown all old new grown;
}

-- ---- the workers

-- the worker that stands under a number
pub node-at : (state : WorldState) (number : ℕ) (d : NodeView) → IsWorld state → number < 16
    → slice_get state.nodes number ≡ Some (get_or state.nodes number d)
node-at state number d is less = let all = is.sixteen in slice_get-get_or state.nodes number d (omega (arith, all, less))

-- the scripted worker that it is
pub worker-at : (nodes : List NodeView) (number : ℕ) (node : NodeView) → slice_get nodes number ≡ Some node
    → slice_get (map worker_at nodes) number ≡ Some (worker_at node)
worker-at nodes number node at = slice_get-map worker_at nodes number ∙ ap (option_map worker_at) at

-- a lease is of a claim of the worker that has it
pub lease-claim : (state : WorldState) (number : ℕ) (node : NodeView) (interval seq : ℕ) → IsWorld state
    → slice_get state.nodes number ≡ Some node → leases_of node.held interval ≡ Some seq
    → slice_get state.book.history seq ≡ Some (entries.Claim number interval)
lease-claim state number node interval seq is at lease =
    is.claimed number interval seq
    (ap (λ (o : Option Worker). (unwrap_or o idle).leases interval) (worker-at state.nodes number node at) ∙ lease)

-- the worker of a claim
abbrev claimant : Option Entry → ℕ
claimant (Some (entries.Claim worker interval)) = worker
claimant _ = zero

-- what a worker appends carries no sequencer of another
foreign-own : (state : WorldState) (number n : ℕ) (was other : NodeView) (interval seq : ℕ) (entry : Entry) → IsWorld state
    → slice_get state.nodes number ≡ Some was → slice_get state.nodes n ≡ Some other → n ≢ number
    → leases_of other.held interval ≡ Some seq → IsOwnEntry was.held entry → sequencer_of entry ≢ Some seq
foreign-own state number n was other interval seq entry is at there apart lease (inl none) same = none_some seq (sym none ∙ same)
foreign-own state number n was other interval seq entry is at there apart lease (inr own) same =
    let one = lease-claim state number was own.0 own.1.lease.seq is at (lease-held was.held own.0 own.1 own.2) in
    let two = lease-claim state n other interval seq is there lease in
    let alike : own.1.lease.seq ≡ seq = some_same own.1.lease.seq seq (sym own.3 ∙ same) in
    apart (ap claimant (sym two ∙ ap (slice_get state.book.history) (sym alike) ∙ one))

-- nor does it where it appends nothing
carry-not : (state : WorldState) (number n : ℕ) (was other : NodeView) (interval seq : ℕ) (own : Option Entry) → IsWorld state
    → slice_get state.nodes number ≡ Some was → slice_get state.nodes n ≡ Some other → n ≢ number
    → leases_of other.held interval ≡ Some seq → IfSome own (IsOwnEntry was.held) → CarryNot seq (option_to_list own)
carry-not state number n was other interval seq None is at there apart lease under =
    All-from_recursion (λ (entry : Entry). sequencer_of entry ≢ Some seq) [] tt
carry-not state number n was other interval seq (Some entry) is at there apart lease under =
    All-from_recursion (λ (e : Entry). sequencer_of e ≢ Some seq) (entry ∷ [])
    (foreign-own state number n was other interval seq entry is at there apart lease under, tt)

-- another worker sees what one appended, and fits
pub fits-beside : (state : WorldState) (book : BookView) (number n : ℕ) (was other : NodeView) (node : NodeView) → IsWorld state
    → slice_get state.nodes number ≡ Some was → slice_get state.nodes n ≡ Some other → n ≢ number
    → FitsOwn state.book other → HasCalled state.book book was node → FitsOwn book other
fits-beside state book number n was other node is at there apart fits called =
    let grown = called.grown in
    subst (λ c. Fits c (own_view book) other) (sym grown.moved.case)
    (Fits-beside state.book.case (own_view state.book) (own_view book) other called.was_sound called.sound
    (record {
      case = grown.moved.case;
      told = grown.moved.told;
      rest = option_to_list grown.own;
      more = history-grown was.held state.book book grown;
      foreign = λ interval held on. carry-not state number n was other interval held.lease.seq grown.own is at there apart
          (lease-held other.held interval held on) grown.under;
      leases = λ interval held on. grown.moved.leases held.lease (fits.held.each interval held on).may_use;
    }) fits)

-- all workers fit once one has acted
all-fit : (state : WorldState) (book : BookView) (number : ℕ) (was node : NodeView) → IsWorld state
    → slice_get state.nodes number ≡ Some was → HasCalled state.book book was node
    → All (FitsOwn book) (slice_set state.nodes number node)
all-fit state book number was node is at called =
    let there = slice_get_within state.nodes number was at in
    let size = length-set state.nodes number node in
    All-from_get_or (FitsOwn book) (slice_set state.nodes number node) node (λ i less. elim (cases_eq i number) [
      | inl same ↦ subst (FitsOwn book)
          (sym (ap (λ k. get_or (slice_set state.nodes number node) k node) same
          ∙ get_or-set_same state.nodes number node node there)) called.fits
      | inr apart ↦
          let within : i < length state.nodes = omega (arith, less, size) in
          subst (FitsOwn book) (sym (get_or-set_other state.nodes number i node node apart))
          (fits-beside state book number i was (get_or state.nodes i node) node is at
          (slice_get-get_or state.nodes i node within) apart
          (All-get_or (FitsOwn state.book) state.nodes i node within is.fit) called)
    ])

-- each worker stands by its number
all-numbered : (state : WorldState) (book : BookView) (number : ℕ) (was node : NodeView) → IsWorld state
    → slice_get state.nodes number ≡ Some was → HasCalled state.book book was node
    → (n : ℕ) (x : NodeView) → slice_get (slice_set state.nodes number node) n ≡ Some x → x.number ≡ n
all-numbered state book number was node is at called n x found =
    let there = slice_get_within state.nodes number was at in
    let here = get_or_from_slice_get (slice_set state.nodes number node) n x node found in
    let size = length-set state.nodes number node in
    let less = slice_get_within (slice_set state.nodes number node) n x found in
    elim (cases_eq n number) [
      | inl same ↦
          let is_node : node ≡ x = sym (ap (λ k. get_or (slice_set state.nodes number node) k node) same
          ∙ get_or-set_same state.nodes number node node there) ∙ here in
          sym (ap (λ (m : NodeView). m.number) is_node) ∙ called.number ∙ is.numbered number was at ∙ sym same
      | inr apart ↦
          let within : n < length state.nodes = omega (arith, less, size) in
          is.numbered n x (slice_get-get_or state.nodes n node within
          ∙ ap Some (sym (get_or-set_other state.nodes number n node node apart) ∙ here))
    ]

-- ---- the leases

-- each lease is of a claim of its worker
all-claimed : (state : WorldState) (book : BookView) (number : ℕ) (was node : NodeView) (flight : List (Option (Message NoNote)))
    → IsWorld state → slice_get state.nodes number ≡ Some was → HasCalled state.book book was node
    → AreClaimed (world_of (record state { book = book; nodes = slice_set state.nodes number node; flight = flight }))
all-claimed state book number was node flight is at called n interval seq lease =
    elim (at-set idle (map worker_at state.nodes) number n (worker_at node)) [
      | inl here ↦
          let has = called.leases interval seq (sym (ap (λ (w : Worker). w.leases interval) (set ∙ here.1)) ∙ lease) in
          subst (λ k. slice_get book.history seq ≡ Some (entries.Claim k interval)) (sym here.0) (by_lease has)
      | inr there ↦ stays (is.claimed n interval seq (sym (ap (λ (w : Worker). w.leases interval) (set ∙ there)) ∙ lease))
    ]
  where
    set : unwrap_or (slice_get (map worker_at (slice_set state.nodes number node)) n) idle
        ≡ unwrap_or (slice_get (slice_set (map worker_at state.nodes) number (worker_at node)) n) idle
    set = ap (λ (ws : List Worker). unwrap_or (slice_get ws n) idle) (map-set worker_at state.nodes number node)

    stays : {claim : Entry} → slice_get state.book.history seq ≡ Some claim → slice_get book.history seq ≡ Some claim
    stays {claim = claim} stood =
        ap (λ (h : List Entry). slice_get h seq) (history-grown was.held state.book book called.grown)
        ∙ slice_get-more state.book.history seq claim (option_to_list called.grown.own) stood

    by_lease : (leases_of was.held interval ≡ Some seq) ⊎ (slice_get book.history seq ≡ Some (entries.Claim was.number interval))
        → slice_get book.history seq ≡ Some (entries.Claim number interval)
    by_lease (inl had) = stays (lease-claim state number was interval seq is at had)
    by_lease (inr new) = new ∙ ap (λ k. Some (entries.Claim k interval)) (is.numbered number was at)

-- ---- the messages

-- what is in flight may still have been sent
pub flying-more : (old new : BookView) (flight : List (Option Outgoing)) → HasMore (own_view old) (own_view new)
    → All (IsFlying old) flight → All (IsFlying new) flight
flying-more old new flight more each = All-weaker (IsFlying old) (IsFlying new) by_place flight each
  where
    by_place : (place : Option Outgoing) → IsFlying old place → IsFlying new place
    by_place None is = tt
    by_place (Some message) is = subst (λ c. IsOutgoing c (own_view new) message) (sym more.case)
        (outgoing-more old.case (own_view old) (own_view new) message more is)

-- ---- the whole

-- a world is one once a worker has acted
pub world-after : (state : WorldState) (book : BookView) (number : ℕ) (was node : NodeView) (flight : List (Option (Message NoNote)))
    (left : List ℕ) → IsWorld state → slice_get state.nodes number ≡ Some was → HasCalled state.book book was node
    → All (IsFlying book) (flight_of flight) → length flight ≤ 2 ^ 32 → AreOnWay state.routes (flight_of flight) left
    → IsWorld (record state { book = book; nodes = slice_set state.nodes number node; flight = flight; left = left })
world-after state book number was node flight left is at called flying few on_way = record {
  sixteen = length-set state.nodes number node ∙ is.sixteen;
  numbered = all-numbered state book number was node is at called;
  fit = all-fit state book number was node is at called;
  claimed = all-claimed state book number was node flight is at called;
  flying = flying;
  few = few;
  on_way = on_way;
  relays = is.relays;
  routed = is.routed ∙ ap (λ (c : CaseShape). parts_of c.topology) (sym called.grown.moved.case);
}

-- and where what is in flight changed, and what that has to pass
pub flown-world : (state : WorldState) (flight : List (Option (Message NoNote))) (left : List ℕ) → IsWorld state
    → All (IsFlying state.book) (flight_of flight) → length flight ≤ 2 ^ 32 → AreOnWay state.routes (flight_of flight) left
    → IsWorld (record state { flight = flight; left = left })
flown-world state flight left is flying few on_way = record {
  sixteen = is.sixteen;
  numbered = is.numbered;
  fit = is.fit;
  claimed = is.claimed;
  flying = flying;
  few = few;
  on_way = on_way;
  relays = is.relays;
  routed = is.routed;
}
