-- What is done about a record that a row has pending, by how it stands in its row as that is held.
use Rattle.std.proofs.Common.{◌≡◌, ℕ, Bool, true, false, List, refl, ◌∙◌, ap}
use Rattle.std.specs.Prelude.{Option, Some, IfSome}
use Rattle.std.specs.Option.{option_map_or}
use Rattle.mw_types.specs.Outcomes.{EffectsView}
use Rattle.mw_types.specs.declared.delivery.Delivery.{Delivery}
use Rattle.mw_types.specs.declared.identity.RowName.{RowName}
use Rattle.row_parts.specs.Contents.{is_finished}
use Rattle.run_history.specs.Fences.{interval_of}
use Rattle.run_history.specs.Runs.{run_of}
use Rattle.history_laws.proofs.SentLaws.{pending-as_made}
use Rattle.book.specs.Books.{BookView}
use Rattle.book.specs.Desking.{IsKnownOf}
use Rattle.book.specs.OwnDesks.{own_view}
use Rattle.book.specs.Proposals.{IsHandling}
use Rattle.book.specs.declared.proposal.Proposal.TheVariants as proposals
use Rattle.holdings.specs.Holding.{HeldView, held_at, row_held}
use Rattle.node.proofs.PurgeLaws.{held-on-at}
use Rattle.world.specs.drains.Drains.{is_full}
use Rattle.world.specs.drains.Standings.{IsFound, IsStandingIn, StandsIn}
use Rattle.world.specs.drains.Turns.{CanBeKept, IsAtWork, is_finished_at, is_full_at, worker_of}
use Rattle.world.specs.declared.drains.standing.Standing.TheVariants as standings
use Rattle.world.proofs.drains.CallLaws.{told-if}
use Rattle.world.proofs.drains.HeldLaws.{held-here, held-if, if-held}
use Rattle.world.proofs.drains.LeastWorkLaws.{found-next}

-- whether it is finished there
finished-here : (book : BookView) (all : List (Option HeldView)) (interval : ℕ) (d : Delivery) (here : HeldView) (b : Bool)
    → interval_of book.case.topology d.to ≡ Some interval → held_at all interval ≡ Some here
    → is_finished d.id (row_held book.case.topology here d.to) ≡ b → is_finished_at book.case.topology (worker_of all) d ≡ b
finished-here book all interval d here b covers there is =
    let shape = book.case.topology in
    ap (λ (o : Option HeldView). option_map_or (λ (h : HeldView). is_finished d.id (row_held shape h d.to)) o false)
    (held-on-at shape all d.to interval here covers there) ∙ is

-- whether that is full
full-here : (book : BookView) (all : List (Option HeldView)) (interval : ℕ) (d : Delivery) (here : HeldView) (b : Bool)
    → interval_of book.case.topology d.to ≡ Some interval → held_at all interval ≡ Some here
    → let run = run_of book.case.topology book.history in is_full run (row_held book.case.topology here d.to) ≡ b
    → is_full_at book.case.topology run (worker_of all) d.to ≡ b
full-here book all interval d here b covers there is =
    let shape = book.case.topology in
    ap (λ (o : Option HeldView). option_map_or (λ (h : HeldView). is_full (run_of shape book.history) (row_held shape h d.to)) o false)
    (held-on-at shape all d.to interval here covers there) ∙ is

-- a record that stands as finished is finished
pub stands-finished : (book : BookView) (all : List (Option HeldView)) (interval : ℕ) (d : Delivery) → IsAtWork book (worker_of all)
    → interval_of book.case.topology d.to ≡ Some interval → StandsIn book all interval d standings.Finished
    → is_finished_at book.case.topology (worker_of all) d ≡ true
stands-finished book all interval d at covers stands =
    let held = held-here book all d.to interval at covers in
    finished-here book all interval d held.0 true covers held.1 (if-held _ all interval held.0 held.1 stands)

-- one whose row forgets first is not, and that is full
pub stands-full : (book : BookView) (all : List (Option HeldView)) (interval : ℕ) (d : Delivery) → IsAtWork book (worker_of all)
    → interval_of book.case.topology d.to ≡ Some interval → StandsIn book all interval d standings.Full
    → (is_finished_at book.case.topology (worker_of all) d ≡ false)
    × (is_full_at book.case.topology (run_of book.case.topology book.history) (worker_of all) d.to ≡ true)
stands-full book all interval d at covers stands =
    let held = held-here book all d.to interval at covers in
    let is = if-held (λ (here : HeldView). IsStandingIn book.case (run_of book.case.topology book.history)
    (row_held book.case.topology here d.to) d standings.Full) all interval held.0 held.1 stands in (
      finished-here book all interval d held.0 false covers held.1 is.left,
      full-here book all interval d held.0 true covers held.1 is.full,
    )

-- one that was handled is not finished, and its row is not full
pub stands-left : (book : BookView) (all : List (Option HeldView)) (interval : ℕ) (d : Delivery) (effects : EffectsView)
    → IsAtWork book (worker_of all) → interval_of book.case.topology d.to ≡ Some interval
    → StandsIn book all interval d (standings.Handled effects)
    → (is_finished_at book.case.topology (worker_of all) d ≡ false)
    × (is_full_at book.case.topology (run_of book.case.topology book.history) (worker_of all) d.to ≡ false)
stands-left book all interval d effects at covers stands =
    let held = held-here book all d.to interval at covers in
    let is = if-held (λ (here : HeldView). IsStandingIn book.case (run_of book.case.topology book.history)
    (row_held book.case.topology here d.to) d (standings.Handled effects)) all interval held.0 held.1 stands in (
      finished-here book all interval d held.0 false covers held.1 is.left,
      full-here book all interval d held.0 false covers held.1 is.room,
    )

-- it may be written
pub stands-handling : (book : BookView) (all : List (Option HeldView)) (interval : ℕ) (d : Delivery) (effects : EffectsView)
    → IsAtWork book (worker_of all) → interval_of book.case.topology d.to ≡ Some interval → CanBeKept d
    → StandsIn book all interval d (standings.Handled effects)
    → IfSome (held_at all interval) (λ here. IsHandling book.case d.to (row_held book.case.topology here d.to) d effects)
stands-handling book all interval d effects at covers kept stands =
    let held = held-here book all d.to interval at covers in
    let is = if-held (λ (here : HeldView). IsStandingIn book.case (run_of book.case.topology book.history)
    (row_held book.case.topology here d.to) d (standings.Handled effects)) all interval held.0 held.1 stands in
    held-if (λ here. IsHandling book.case d.to (row_held book.case.topology here d.to) d effects) all interval held.0 held.1
    (record { id = kept.id; to_row = refl; new = is.left; does = is.does })

-- and was made, where that is told
pub stands-known : (book : BookView) (all : List (Option HeldView)) (sender : RowName) (interval : ℕ) (d : Delivery)
    (effects : EffectsView)
    → IsFound book (worker_of all) sender d → interval_of book.case.topology d.to ≡ Some interval
    → StandsIn book all interval d (standings.Handled effects)
    → IsKnownOf (own_view book) d.to (proposals.Handle d effects)
stands-known book all sender interval d effects found covers stands =
    let left = stands-left book all interval d effects found.at_work covers stands in
    told-if book.rows _ (λ told. pending-as_made book.case.topology book.history sender d.id d
    (found-next book (worker_of all) sender d found left.0 left.1 told).pending)
