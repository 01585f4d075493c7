-- Workers that hold what they claimed first.
use Rattle.std.proofs.Common.{inl, inr, ◌≡◌, ◌⊎◌, ◌∙◌, ◌<◌, ◌+◌, ◌∷◌, ℕ, List, [], length, sym, ap, subst, ⊎_elim, arith}
use Rattle.std.specs.Prelude.{slice_index_or}
use Rattle.std.proofs.lemmas.Bool.{cases_eq}
use Rattle.row_keeper.specs.declared.keeper.Keeper.{Ghosts}
use Rattle.mw_types.specs.declared.entry.Entry.TheVariants as entries
use Rattle.run_history.specs.Cases.{CaseShape, intervals_of}
use Rattle.run_history.specs.Fences.{Begins}
use Rattle.run_history.proofs.Beginnings.{Begins-at}
use Rattle.node.specs.Workers.{NodeView, leases_of}
use Rattle.shared_book.specs.Lists.{IsIn}
use Rattle.workers.specs.Slices.{IsOvertaken}
use Rattle.workers.proofs.Leases.{overtaken-more}
use Rattle.workers.specs.Claims.{HasClaimedTo, HasHolder, HaveClaimedOnly, HoldFirst, HoldsSince, LeasesOne}
use Rattle.workers.specs.Crews.{HasDone, HasToldAll, KeepsNodes, KeepsOwn, OthersStay, desk_of}
use Rattle.workers.specs.declared.crew.Worker.{Worker}
use Rattle.workers.proofs.Doing.{stepped-begins}
use Rattle.workers.proofs.Exact.{claimed-below}

-- a worker that has come to see more, and has the lease that it had
holds-more : {K J : Type 0} {g : Ghosts K} (interval seq : ℕ) (was now : Worker K J g)
    → leases_of now.node.held interval ≡ leases_of was.node.held interval → Begins (desk_of was).seen (desk_of now).seen
    → HoldsSince interval seq was → HoldsSince interval seq now
holds-more interval seq was now lease begins holds = record {
  claimed = (
    holds.claimed.0,
    Begins-at (desk_of was).seen (desk_of now).seen seq (entries.Claim holds.claimed.0 interval) begins holds.claimed.1,
  );
  held = ⊎_elim
      (λ held. inl (lease ∙ held))
      (λ over. inr (subst (IsOvertaken interval seq) begins.1 (overtaken-more interval seq (desk_of was).seen begins.0 over)))
      holds.held;
}

-- workers that have come to see more, and have the nodes that they had
pub hold-told : {K J : Type 0} {g : Ghosts K} (most count : ℕ) (old new : List (Worker K J g)) → HasDone most old new → KeepsNodes old new
    → HoldFirst count old → HoldFirst count new
hold-told most count old new done keeps hold interval below =
    let it = hold interval below in
    record {
      at = it.at;
      there = let there = it.there in let long = done.long in omega (arith, there, long);
      seq = it.seq;
      holds = λ d. holds-more interval it.seq (slice_index_or old it.at d) (slice_index_or new it.at d)
          (ap (λ (n : NodeView). leases_of n.held interval) (keeps it.at d it.there))
          (stepped-begins (slice_index_or old it.at d) (slice_index_or new it.at d) (done.each it.at d it.there)) (it.holds d);
    }

-- a worker that claims one more interval
pub hold-next : {K J : Type 0} {g : Ghosts K} (most count at : ℕ) (old new : List (Worker K J g)) → at < length old → HasDone most old new
    → OthersStay at old new → LeasesOne at count old new → HoldFirst count old → HoldFirst (count + 1) new
hold-next {K} {J} {g} most count at old new there done others leases hold interval below = elim (cases_eq interval count) [
  | inl same ↦ subst (λ (n : ℕ). HasHolder n new) (sym same) (record {
    at = at;
    there = let long = done.long in omega (arith, there, long);
    seq = leases.0;
    holds = λ d. record { claimed = (leases.1 d).claimed; held = inl (leases.1 d).lease };
  })
  | inr other ↦ before other
]
  where
    before : (interval ≡ count → ⊥) → HasHolder interval new
    before other =
        let it : HasHolder interval old = hold interval (omega (arith, below, other)) in
        let by_worker : (d : Worker K J g) → (it.at ≡ at) ⊎ (it.at ≡ at → ⊥) → HoldsSince interval it.seq (slice_index_or new it.at d) =
        λ d. elim [
          | inl here ↦ holds-more interval it.seq (slice_index_or old it.at d) (slice_index_or new it.at d)
              (subst (λ (n : ℕ). leases_of (slice_index_or new n d).node.held interval ≡ leases_of (slice_index_or old n d).node.held interval)
              (sym here) ((leases.1 d).others interval other))
              (stepped-begins (slice_index_or old it.at d) (slice_index_or new it.at d) (done.each it.at d it.there)) (it.holds d)
          | inr elsewhere ↦ subst (λ (w : Worker K J g). HoldsSince interval it.seq w) (sym (others it.at d elsewhere)) (it.holds d)
        ] in
        record {
          at = it.at;
          there = let within = it.there in let long = done.long in omega (arith, within, long);
          seq = it.seq;
          holds = λ d. by_worker d (cases_eq it.at at);
        }

-- no interval is claimed yet
pub hold-none : {K J : Type 0} {g : Ghosts K} (crew : List (Worker K J g)) → HoldFirst 0 crew
hold-none crew interval below = absurd (omega (arith, below))

-- all first claims are told, and nobody has claimed anything else
pub only-told : {K J : Type 0} {g : Ghosts K} (workers last : ℕ) (case : CaseShape) (old new : List (Worker K J g)) → last < length old
    → length new ≡ length old → HasToldAll last old new → KeepsOwn old new
    → HasClaimedTo workers (length (intervals_of case.topology)) last old → HaveClaimedOnly workers case new
only-told workers last case [] new there long told keeps claimed = absurd (omega (arith, there))
only-told workers last case (w ∷ ws) new there long told keeps claimed = record {
  begun = record {
    front = (desk_of (slice_index_or (w ∷ ws) last w)).seen;
    numbers = claimed.numbers;
    claimed = claimed.claimed w there;
    each = λ at d below.
        let inside : at < length (w ∷ ws) = omega (arith, below, long) in
        record {
          seen = told at inside w d;
          own = λ number here. inl (claimed.own at d inside number (subst (IsIn number) (keeps at d inside) here));
        };
  };
  no_more = λ at d below number here high.
      let inside : at < length (w ∷ ws) = omega (arith, below, long) in
      let among = claimed.own at d inside number (subst (IsIn number) (keeps at d inside) here) in
      let early = claimed-below workers 0 claimed.numbers (desk_of (slice_index_or (w ∷ ws) last w)).seen (claimed.claimed w there).at number
      among in
      absurd (omega (arith, early, high));
}
