-- The first claims, told from worker to worker.
use Rattle.std.proofs.Common.{inl, inr, ◌≡◌, ◌∙◌, ◌<◌, ◌+◌, ◌++◌, ◌∷◌, ℕ, suc, Bool, true, false, List, [], length, refl, sym, ap, subst, ⊎_elim, arith, length-append}
use Rattle.std.specs.Prelude.{IsFalse, IsTrue, ◌%◌, Some, slice_get, slice_index_or}
use Rattle.std.proofs.lemmas.Bool.{cases_eq}
use Rattle.std.proofs.lemmas.List.{get_or_default}
use Rattle.row_keeper.specs.declared.keeper.Keeper.{Ghosts}
use Rattle.mw_types.specs.declared.entry.Entry.{Entry}
use Rattle.mw_types.specs.declared.entry.Entry.TheVariants as entries
use Rattle.run_history.specs.Cases.{CaseShape}
use Rattle.run_history.specs.Fences.{Begins}
use Rattle.run_history.proofs.Beginnings.{Begins-length, Begins-trans}
use Rattle.shared_book.specs.Lists.{IsIn}
use Rattle.shared_book.proofs.Lists.{ascends_push, in_append, in_left, in_right}
use Rattle.workers.specs.Claims.{HasBegun, HasClaimedTo, HaveBegun, IsClaimedTo, claimed_by}
use Rattle.workers.specs.Crews.{AreFresh, ClaimsOne, HasClaimedOne, HasDone, HasGoneOn, HasTold, KeepsOwn, OthersStay, desk_of}
use Rattle.workers.specs.Rounds.{first_claim}
use Rattle.workers.specs.declared.crew.Worker.{Worker}
use Rattle.workers.proofs.Doing.{stepped-begins}
use Rattle.workers.proofs.Exact.{claimed-below, claimed-more, claimed-push}

-- claims that were seen are seen by who has seen more
pub claimed-to-more : (workers count : ℕ) (numbers : List ℕ) (seen more : List Entry) → Begins seen more → IsClaimedTo workers count numbers seen
    → IsClaimedTo workers count numbers more
claimed-to-more workers count numbers seen more begins claimed = record {
  many = claimed.many;
  ascend = claimed.ascend;
  at = claimed-more workers 0 numbers seen more begins claimed.at;
}

-- no claim is there yet
pub claimed-none : {K J : Type 0} {g : Ghosts K} (workers last : ℕ) (crew : List (Worker K J g)) → AreFresh crew
    → HasClaimedTo workers 0 last crew
claimed-none workers last crew fresh = record {
  numbers = [];
  claimed = λ d there. record { many = refl; ascend = tt; at = tt };
  own = λ at d below number here. absurd (subst (IsIn number) (fresh at d below) here);
}

-- another worker has seen the claims too, and nobody appended anything
pub claimed-told : {K J : Type 0} {g : Ghosts K} (workers count last to : ℕ) (old new : List (Worker K J g)) → last < length old
    → length new ≡ length old → HasTold last to old new → KeepsOwn old new → HasClaimedTo workers count last old
    → HasClaimedTo workers count to new
claimed-told workers count last to old new there long told keeps claimed = record {
  numbers = claimed.numbers;
  claimed = λ d within. claimed-to-more workers count claimed.numbers (desk_of (slice_index_or old last d)).seen
      (desk_of (slice_index_or new to d)).seen (told d d) (claimed.claimed d there);
  own = λ at d below number here.
      let inside : at < length old = omega (arith, below, long) in
      claimed.own at d inside number (subst (IsIn number) (keeps at d inside) here);
}

-- a worker that has seen the claims failed to claim
pub claimed-still : {K J : Type 0} {g : Ghosts K} (most workers count at : ℕ) (old new : List (Worker K J g)) → at < length old
    → HasDone most old new → KeepsOwn old new → HasClaimedTo workers count at old → HasClaimedTo workers count at new
claimed-still most workers count at old new there done keeps claimed = record {
  numbers = claimed.numbers;
  claimed = λ d within. claimed-to-more workers count claimed.numbers (desk_of (slice_index_or old at d)).seen
      (desk_of (slice_index_or new at d)).seen
      (stepped-begins (slice_index_or old at d) (slice_index_or new at d) (done.each at d there))
      (claimed.claimed d there);
  own = λ k d below number here.
      let inside : k < length old = (let long = done.long in omega (arith, below, long)) in
      claimed.own k d inside number (subst (IsIn number) (keeps k d inside) here);
}

-- a worker that has seen the claims claims the next interval
claimed-one : {K J : Type 0} {g : Ghosts K} (workers interval at : ℕ) (old new : List (Worker K J g)) (w : Worker K J g) → at < length old
    → HasDone 1 old new → at ≡ interval % workers → ClaimsOne at interval old new → OthersStay at old new → HasClaimedTo workers interval at old
    → HasClaimedTo workers (suc interval) at new
claimed-one {K} {J} {g} workers interval at old new w there done is one others claimed = record {
  numbers = numbers;
  claimed = λ d within. subst (λ (v : Worker K J g). IsClaimedTo workers (suc interval) numbers (desk_of v).seen)
      (get_or_default new at w d within) (mine within);
  own = own;
}
  where
    it : HasClaimedOne at interval (desk_of (slice_index_or old at w)) (desk_of (slice_index_or new at w))
    it = one w

    numbers : List ℕ
    numbers = claimed.numbers ++ it.number ∷ []

    was : IsClaimedTo workers interval claimed.numbers (desk_of (slice_index_or old at w)).seen
    was = claimed.claimed w there

    begins : Begins (desk_of (slice_index_or old at w)).seen (desk_of (slice_index_or new at w)).seen
    begins = stepped-begins (slice_index_or old at w) (slice_index_or new at w) (done.each at w there)

    below : (x : ℕ) → IsIn x claimed.numbers → x < it.number
    below x here =
        let seen = claimed-below workers 0 claimed.numbers (desk_of (slice_index_or old at w)).seen was.at x here in
        let later = it.later in omega (arith, seen, later)

    here : slice_get (desk_of (slice_index_or new at w)).seen it.number ≡ Some (first_claim workers (0 + length claimed.numbers))
    here = it.at
        ∙ ap (λ (worker : ℕ). Some (entries.Claim worker interval)) is
        ∙ ap (λ (n : ℕ). Some (first_claim workers n)) (let many = was.many in omega (arith, many))

    mine : at < length new → IsClaimedTo workers (suc interval) numbers (desk_of (slice_index_or new at w)).seen
    mine within = record {
      many = let long = length-append claimed.numbers (it.number ∷ []) in let many = was.many in omega (arith, long, many);
      ascend = ascends_push claimed.numbers it.number was.ascend below;
      at = claimed-push workers 0 it.number claimed.numbers (desk_of (slice_index_or new at w)).seen
          (claimed-more workers 0 claimed.numbers (desk_of (slice_index_or old at w)).seen (desk_of (slice_index_or new at w)).seen
          begins was.at) here;
    }

    own : (k : ℕ) (d : Worker K J g) → k < length new → (number : ℕ) → IsIn number (desk_of (slice_index_or new k d)).own → IsIn number numbers
    own k d within number present = elim (cases_eq k at) [
      | inl same ↦
          let place : slice_index_or new k d ≡ slice_index_or new at w =
          ap (λ (n : ℕ). slice_index_or new n d) same ∙ get_or_default new at d w (omega (arith, within, same)) in
          let owns = subst (λ (v : Worker K J g). IsIn number (desk_of v).own) place present in
          ⊎_elim
          (λ before. in_left number claimed.numbers (it.number ∷ []) (claimed.own at w there number before))
          (λ last. in_right number claimed.numbers (it.number ∷ []) last)
          (in_append number (desk_of (slice_index_or old at w)).own (it.number ∷ []) (subst (IsIn number) it.own owns))
      | inr other ↦
          in_left number claimed.numbers (it.number ∷ []) (claimed.own k d (let long = done.long in omega (arith, within, long)) number
          (subst (λ (v : Worker K J g). IsIn number (desk_of v).own) (others k d other) present))
    ]

-- the same, whoever the workers are
pub claimed-next : {K J : Type 0} {g : Ghosts K} (workers interval at : ℕ) (old new : List (Worker K J g)) → at < length old
    → HasDone 1 old new → at ≡ interval % workers → ClaimsOne at interval old new → OthersStay at old new → HasClaimedTo workers interval at old
    → HasClaimedTo workers (suc interval) at new
claimed-next workers interval at [] new there done is one others claimed = absurd (omega (arith, there))
claimed-next workers interval at (w ∷ ws) new there done is one others claimed =
    claimed-one workers interval at (w ∷ ws) new w there done is one others claimed

-- one more interval is claimed, or none
pub claimed-by : {K J : Type 0} {g : Ghosts K} (done : Bool) (workers interval at : ℕ) (crew : List (Worker K J g))
    → (IsTrue done → HasClaimedTo workers (suc interval) at crew) → (IsFalse done → HasClaimedTo workers interval at crew)
    → HasClaimedTo workers (claimed_by done interval) at crew
claimed-by true workers interval at crew claims fails = claims refl
claimed-by false workers interval at crew claims fails = fails refl

-- the same, by the number of workers at the begin and at the end
pub claimed-turn : {K J : Type 0} {g : Ghosts K} (interval : ℕ) (old mid new : List (Worker K J g)) → length mid ≡ length old
    → length new ≡ length mid → HasClaimedTo (length mid) (suc interval) (interval % length mid) new
    → HasClaimedTo (length old) (interval + 1) (interval % length new) new
claimed-turn interval old mid new before after claimed =
    let next : suc interval ≡ interval + 1 = omega arith in
    subst (λ (n : ℕ). HasClaimedTo n (interval + 1) (interval % length new) new) before
    (subst (λ (n : ℕ). HasClaimedTo (length mid) (interval + 1) (interval % n) new) (sym after)
    (subst (λ (n : ℕ). HasClaimedTo (length mid) n (interval % length mid) new) next claimed))

-- what a worker appends later stands behind the first claims
pub begun-gone : {K J : Type 0} {g : Ghosts K} (most : ℕ) (front : List Entry) (numbers : List ℕ) (was now : Worker K J g)
    → HasGoneOn most (desk_of was) (desk_of now) → HasBegun front numbers was → HasBegun front numbers now
begun-gone most front numbers was now went begun = record {
  seen = Begins-trans front (desk_of was).seen (desk_of now).seen begun.seen (went.rest, sym went.more);
  own = λ number here. ⊎_elim
      (λ before. begun.own number before)
      (λ added. inr (let later = went.later number added in
      let long = Begins-length front (desk_of was).seen begun.seen in omega (arith, later, long)))
      (in_append number (desk_of was).own went.added (subst (IsIn number) went.own here));
}

-- and so what all append
pub begun-done : {K J : Type 0} {g : Ghosts K} (most workers : ℕ) (case : CaseShape) (old new : List (Worker K J g)) → HasDone most old new
    → HaveBegun workers case old → HaveBegun workers case new
begun-done most workers case old new done begun = record {
  front = begun.front;
  numbers = begun.numbers;
  claimed = begun.claimed;
  each = λ at d below.
      let inside : at < length old = (let long = done.long in omega (arith, below, long)) in
      let stepped = done.each at d inside in
      begun-gone stepped.most begun.front begun.numbers (slice_index_or old at d) (slice_index_or new at d) stepped.went_on
      (begun.each at d inside);
}
