-- A worker's leases are those of what its node holds, and a row as it is held is the row as it is known.
use Rattle.std.proofs.Common.{◌≡◌, ◌∙◌, ℕ, List, refl, sym, ap, subst}
use Rattle.std.specs.Prelude.{IfSome, None, Option, Some}
use Rattle.std.specs.Option.{option_and_then, option_map}
use Rattle.mw_types.specs.declared.identity.RowName.{RowName}
use Rattle.topology.specs.Shapes.{Shape}
use Rattle.run_history.specs.Cases.{CaseShape}
use Rattle.run_history.specs.Fences.{interval_of, known}
use Rattle.run_history.specs.Runs.{row_of, run_of}
use Rattle.list_lemmas.proofs.Lists.{none_some}
use Rattle.book.specs.Books.{BookView, LeaseView}
use Rattle.book.specs.Desks.{DeskView}
use Rattle.book.specs.OwnDesks.{own_view}
use Rattle.holdings.specs.Holding.{AreAllHeld, HeldView, IsHeld, held_at, held_on, row_held}
use Rattle.node.specs.Workers.{NodeView, leases_of}
use Rattle.world.specs.scripts.Worlds.{World, lease_of, lease_on, row_known, worker_of}
use Rattle.world.proofs.scripts.deeds.Acting.{IsActing, acting-worker, tells}

-- the lease of what is held
abbrev pub lease_held : HeldView → LeaseView
lease_held held = held.lease

-- the lease that a worker has of an interval is that of what is held there
lease-at : (case : CaseShape) (desk : DeskView) (all : List (Option HeldView)) (interval : ℕ) → AreAllHeld case desk all
    → option_map (λ (seq : ℕ). record { interval = interval; seq = seq }) (leases_of all interval)
    ≡ option_map lease_held (held_at all interval)
lease-at case desk all interval fit = by_held (held_at all interval) refl
  where
    by_held : (o : Option HeldView) → held_at all interval ≡ o
        → option_map (λ (seq : ℕ). record { interval = interval; seq = seq }) (option_map (λ (held : HeldView). held.lease.seq) o)
        ≡ option_map lease_held o
    by_held None is = refl
    by_held (Some held) is = let same = sym (fit.each interval held is).of_interval in
        λ i. Some (record { interval = same i; seq = held.lease.seq })

-- so of the worker that acts
pub lease_of-held : (case : CaseShape) (old : BookView) (world : World) (number : ℕ) (was : NodeView) (interval : ℕ)
    → IsActing case old world number was
    → lease_of (worker_of world number) interval ≡ option_map lease_held (held_at was.held interval)
lease_of-held case old world number was interval acting =
    ap (λ w. lease_of w interval) (acting-worker case old world number was acting)
    ∙ lease-at case (own_view old) was.held interval acting.fits.held

-- and of the interval of a row
pub lease_on-held : (case : CaseShape) (old : BookView) (world : World) (number : ℕ) (was : NodeView) (name : RowName)
    → IsActing case old world number was
    → lease_on case.topology (worker_of world number) name ≡ option_map lease_held (held_on case.topology was.held name)
lease_on-held case old world number was name acting = by_interval (interval_of case.topology name)
  where
    by_interval : (o : Option ℕ) → option_and_then (lease_of (worker_of world number)) o
        ≡ option_map lease_held (option_and_then (held_at was.held) o)
    by_interval None = refl
    by_interval (Some interval) = lease_of-held case old world number was interval acting

-- what is held of the interval of a row is held of an interval in which the row lies
pub held-lies : (shape : Shape) (all : List (Option HeldView)) (name : RowName) (held : HeldView)
    → held_on shape all name ≡ Some held
    → (interval : ℕ) × (interval_of shape name ≡ Some interval) × (held_at all interval ≡ Some held)
held-lies shape all name held on = by_interval (interval_of shape name) refl on
  where
    by_interval : (o : Option ℕ) → interval_of shape name ≡ o → option_and_then (held_at all) o ≡ Some held
        → (interval : ℕ) × (interval_of shape name ≡ Some interval) × (held_at all interval ≡ Some held)
    by_interval None is at = absurd (none_some held at)
    by_interval (Some interval) is at = (interval, is, at)

-- a row of an interval that is held is the row as it is known under the lease
pub row-at : (case : CaseShape) (old : BookView) (world : World) (number : ℕ) (was : NodeView) (interval : ℕ) (held : HeldView)
    (name : RowName) → IsActing case old world number was → held_at was.held interval ≡ Some held
    → interval_of case.topology name ≡ Some interval
    → row_known case.topology world held.lease name ≡ row_held case.topology held name
row-at case old world number was interval held name acting at lies =
    let shape = case.topology in
    let here : IsHeld case (own_view old) interval held = acting.fits.held.each interval held at in
    let each = subst (λ t. IfSome t (λ _. (n : RowName) → interval_of shape n ≡ Some held.lease.interval
    → row_held shape held n ≡ row_of shape (run_of shape (known held.lease.interval held.lease.seq old.history)) n))
    (tells old.rows acting.told) here.rows.known in
    ap (λ h. row_of shape (run_of shape (known held.lease.interval held.lease.seq h)) name) acting.history
    ∙ sym (each name (lies ∙ ap Some (sym here.of_interval)))

-- so where a row's interval is held
pub row-held : (case : CaseShape) (old : BookView) (world : World) (number : ℕ) (was : NodeView) (held : HeldView) (name : RowName)
    → IsActing case old world number was → held_on case.topology was.held name ≡ Some held
    → row_known case.topology world held.lease name ≡ row_held case.topology held name
row-held case old world number was held name acting on =
    let at = held-lies case.topology was.held name held on in
    row-at case old world number was at.0 held name acting at.2 at.1
