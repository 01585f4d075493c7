-- Each lease of a worker is of a claim of its own.
use Rattle.std.proofs.Common.{◌≡◌, ◌∙◌, ◌++◌, ℕ, zero, suc, List, length, refl, sym, ap, subst, inl, inr}
use Rattle.std.specs.Prelude.{◌⊎◌, if◌then◌else◌, ⊤, Option, None, Some, replicate, slice_get, slice_set, unwrap_or}
use Rattle.std.specs.Option.{option_map_or, option_to_list}
use Rattle.std.proofs.lemmas.Bool.{cases_eq, eq-eqb, ne_eqb}
use Rattle.mw_types.specs.declared.entry.Entry.{Entry}
use Rattle.mw_types.specs.declared.entry.Entry.TheVariants as entries
use Rattle.mw_types.specs.declared.identity.RowName.{RowName}
use Rattle.topology.specs.Folding.{RoutesView}
use Rattle.topology.specs.Shapes.{Shape}
use Rattle.run_history.specs.Made.{row_written}
use Rattle.run_history.proofs.Beginnings.{slice_get-last, slice_get-more}
use Rattle.list_lemmas.proofs.Lists.{none_some, some_same}
use Rattle.node.specs.Workers.{Worker, idle, sends, with_lease, with_outgoing}
use Rattle.world.specs.scripts.Acts.{with_sends}
use Rattle.world.specs.scripts.Keeping.{AreApart, AreClaimed}
use Rattle.world.specs.scripts.Worlds.{World, worker_of, world_on}
use Rattle.world.proofs.scripts.Places.{at-set}

-- an entry is the claim by which a worker has this sequencer for an interval
pub record IsNewClaim (world : World) (number : ℕ) (entry : Option Entry) (interval seq : ℕ) : Type 0 where
  pub next : seq ≡ length world.history
  pub claim : entry ≡ Some (entries.Claim number interval)

-- each lease of a worker is one that it had in a world, or is of the entry that it writes
abbrev pub LeasesFrom : World → ℕ → Option Entry → Worker → Type 0
LeasesFrom world number entry worker = (interval seq : ℕ) → worker.leases interval ≡ Some seq
    → ((worker_of world number).leases interval ≡ Some seq) ⊎ IsNewClaim world number entry interval seq

-- the same of the worker that a deed leaves, if it changes
abbrev pub LeasesAfter : World → ℕ → Option Entry → Option Worker → Type 0
LeasesAfter world number entry None = ⊤
LeasesAfter world number entry (Some worker) = LeasesFrom world number entry worker

-- what is claimed is a lease of the claim
pub LeasesFrom-claim : (shape : Shape) (world : World) (number interval : ℕ)
    → LeasesFrom world number (Some (entries.Claim number interval))
    (with_lease shape interval (Some (length world.history)) (worker_of world number))
LeasesFrom-claim shape world number interval i seq is = elim (cases_eq i interval) [
  | inl same ↦ inr (record {
    next = sym (some_same (length world.history) seq (sym (ap (λ b. if b then Some (length world.history)
        else (worker_of world number).leases i) (eq-eqb i interval same)) ∙ is));
    claim = ap (λ n. Some (entries.Claim number n)) (sym same);
  })
  | inr other ↦ inl (sym (ap (λ b. if b then Some (length world.history) else (worker_of world number).leases i)
      (ne_eqb i interval other)) ∙ is)
]

-- a worker that loses a lease keeps others
pub lost-had : (shape : Shape) (worker : Worker) (interval i seq : ℕ)
    → (with_lease shape interval None worker).leases i ≡ Some seq → worker.leases i ≡ Some seq
lost-had shape worker interval i seq is = elim (cases_eq i interval) [
  | inl same ↦ absurd (none_some seq (sym (ap (λ b. if b then None else worker.leases i) (eq-eqb i interval same)) ∙ is))
  | inr other ↦ sym (ap (λ b. if b then None else worker.leases i) (ne_eqb i interval other)) ∙ is
]

-- what a worker has to send is no lease
with_made-leases : (shape : Shape) (history : List Entry) (entry : Entry) (worker : Worker) (written : Option RowName)
    → (option_map_or (λ (name : RowName). with_outgoing (sends shape history (name, entry)) worker) written worker).leases
    ≡ worker.leases
with_made-leases shape history entry worker None = refl
with_made-leases shape history entry worker (Some name) = refl

-- nor is what an entry makes
pub with_sends-leases : (shape : Shape) (history : List Entry) (entry : Option Entry) (worker : Worker)
    → (with_sends shape history entry worker).leases ≡ worker.leases
with_sends-leases shape history None worker = refl
with_sends-leases shape history (Some entry) worker = with_made-leases shape history entry worker (row_written entry)

-- a claim that stands stays where one more entry may follow
claim-stays : (history : List Entry) (entry : Option Entry) (seq : ℕ) (claim : Entry) → slice_get history seq ≡ Some claim
    → slice_get (history ++ option_to_list entry) seq ≡ Some claim
claim-stays history entry seq claim there = slice_get-more history seq claim (option_to_list entry) there

-- a claim that is written stands last
claim-new : (history : List Entry) (entry : Option Entry) (claim : Entry) → entry ≡ Some claim
    → slice_get (history ++ option_to_list entry) (length history) ≡ Some claim
claim-new history entry claim is =
    subst (λ o. slice_get (history ++ option_to_list o) (length history) ≡ Some claim) (sym is) (slice_get-last history claim)

-- one worker is set, and each lease that it has is one that it had, or is of what is written
pub AreClaimed-set : (world new : World) (number : ℕ) (entry : Option Entry) (worker : Worker) → AreClaimed world
    → LeasesFrom world number entry worker → new.history ≡ world.history ++ option_to_list entry
    → new.workers ≡ slice_set world.workers number worker → AreClaimed new
AreClaimed-set world new number entry worker claimed from history workers n i seq is =
    subst (λ h. slice_get h seq ≡ Some (entries.Claim n i)) (sym history)
    (elim (at-set idle world.workers number n worker) [
      | inl here ↦ by_lease here.0 (from i seq (sym (ap (λ (w : Worker). w.leases i) (at_new ∙ here.1)) ∙ is))
      | inr there ↦ claim-stays world.history entry seq (entries.Claim n i)
          (claimed n i seq (sym (ap (λ (w : Worker). w.leases i) (at_new ∙ there)) ∙ is))
    ])
  where
    at_new : worker_of new n ≡ unwrap_or (slice_get (slice_set world.workers number worker) n) idle
    at_new = ap (λ ws. unwrap_or (slice_get ws n) idle) workers

    by_lease : n ≡ number → ((worker_of world number).leases i ≡ Some seq) ⊎ IsNewClaim world number entry i seq
        → slice_get (world.history ++ option_to_list entry) seq ≡ Some (entries.Claim n i)
    by_lease same (inl had) = claim-stays world.history entry seq (entries.Claim n i)
        (claimed n i seq (subst (λ k. (worker_of world k).leases i ≡ Some seq) (sym same) had))
    by_lease same (inr made) =
        subst (λ s. slice_get (world.history ++ option_to_list entry) s ≡ Some (entries.Claim n i)) (sym made.next)
        (claim-new world.history entry (entries.Claim n i) (made.claim ∙ ap (λ k. Some (entries.Claim k i)) (sym same)))

-- no worker changes
pub AreClaimed-more : (world new : World) (entry : Option Entry) → AreClaimed world
    → new.history ≡ world.history ++ option_to_list entry → new.workers ≡ world.workers → AreClaimed new
AreClaimed-more world new entry claimed history workers n i seq is =
    subst (λ h. slice_get h seq ≡ Some (entries.Claim n i)) (sym history)
    (claim-stays world.history entry seq (entries.Claim n i)
    (claimed n i seq (subst (λ ws. (unwrap_or (slice_get ws n) idle).leases i ≡ Some seq) workers is)))

-- the worker and the interval of a claim
abbrev claimant : Option Entry → ℕ × ℕ
claimant (Some (entries.Claim worker interval)) = (worker, interval)
claimant _ = (zero, zero)

-- leases that are of claims are apart
pub claimed-apart : (world : World) → AreClaimed world → AreApart world
claimed-apart world claimed number interval other another seq one two =
    let same = ap claimant (sym (claimed number interval seq one) ∙ claimed other another seq two) in record {
      worker = ap (λ (p : ℕ × ℕ). p.0) same;
      of_interval = ap (λ (p : ℕ × ℕ). p.1) same;
    }

-- among workers that have nothing there is no lease
idle-none : (count n i seq : ℕ) → (unwrap_or (slice_get (replicate count idle) n) idle).leases i ≡ Some seq → ⊥
idle-none zero n i seq is = none_some seq is
idle-none (suc count) zero i seq is = none_some seq is
idle-none (suc count) (suc n) i seq is = idle-none count n i seq is

-- before a script no worker has a lease
pub AreClaimed-first : (routes : RoutesView) (history : List Entry) (marks : List ℕ) → AreClaimed (world_on routes history marks)
AreClaimed-first routes history marks n i seq is = absurd (idle-none 16 n i seq is)
