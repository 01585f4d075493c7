-- Rounds without a plan, by what the seat knows that took in those of all workers.
use Rattle.std.proofs.Common.{inl, inr, ◌≡◌, ◌⊎◌, ◌∙◌, ◌<◌, ◌≤◌, ◌+◌, ◌*◌, ◌++◌, ◌∷◌, ℕ, zero, suc, List, [], length, map, refl, sym, ap, subst, ⊎_elim, arith, append-nil}
use Rattle.std.specs.Prelude.{All, IfNone, IfSome, IsSome, None, Option, Some, min, slice_get, slice_index_or}
use Rattle.std.proofs.lemmas.Bool.{cases_lt}
use Rattle.std.proofs.lemmas.List.{length-map}
use Rattle.std.proofs.lemmas.List.Elements.{filter-append}
use Rattle.std.proofs.lemmas.Option.{slice_get_within}
use Rattle.row_keeper.specs.declared.keeper.Keeper.{Ghosts}
use Rattle.mw_types.specs.declared.entry.Entry.{Entry}
use Rattle.mw_types.specs.declared.entry.Entry.TheVariants as entries
use Rattle.topology.specs.Shapes.{injectors_of}
use Rattle.run_history.specs.Cases.{CaseShape, intervals_of, source_of}
use Rattle.run_history.specs.Fences.{Begins, IsClaimed}
use Rattle.run_history.proofs.Beginnings.{Begins-length, Begins-trans, at-Begins}
use Rattle.run_history.proofs.Claims.{last_claim-there}
use Rattle.book.specs.Books.{CoreView}
use Rattle.node.specs.declared.outcome.NodeFault.{NodeFault}
use Rattle.shared_book.specs.Lists.{IsIn}
use Rattle.shared_book.specs.Opening.{span}
use Rattle.shared_book.specs.Turns.{IsClosed}
use Rattle.shared_book.specs.declared.views.Basis.{Basis}
use Rattle.shared_book.specs.declared.views.View.{View}
use Rattle.workers.specs.Slices.{IsOvertaken, injected}
use Rattle.workers.proofs.InjectedLaws.{injected-more}
use Rattle.workers.specs.Claims.{AreQuiet, IsNoClaim}
use Rattle.workers.specs.Crews.{AreHealthy, HasDone, desk_of}
use Rattle.workers.specs.Rounds.{HasInjectedAll, claims_in, first_claim, first_claims, is_claim}
use Rattle.workers.specs.Runs.{HasDealt, HasLinesIn, HasRunPlain, HasTakenIn, IsFirstFault, IsHired}
use Rattle.workers.specs.declared.crew.Worker.{Worker}
use Rattle.workers.proofs.Ending.{begins-all, claims-of, numbers-are}
use Rattle.workers.proofs.Exact.{claimed-below, span-length}
use Rattle.workers.proofs.Faults.{first-healthy}
use Rattle.workers.proofs.Plainly.{claimed-since, silent-since}
use Rattle.workers.proofs.RunLaws.{ended-told}

-- ---- the seat that took in those of all

overtaken-again : (interval seq : ℕ) (front seen : List Entry) → Begins front seen → IsOvertaken interval seq front
    → (newer : ℕ) × (seq < newer) × IsClaimed interval newer seen
overtaken-again interval seq front seen begins (newer, (last, later)) =
    (newer, later, claimed-since interval newer front seen begins (last_claim-there interval newer front last))

injected-since : (part : ℕ) (front seen : List Entry) → Begins front seen → injected part front ≤ injected part seen
injected-since part front seen begins = injected-more part front begins.0 seen (sym begins.1)

lines-in : (case : CaseShape) (many part interval seq : ℕ) (front seen : List Entry) → Begins front seen → IsClaimed interval seq front
    → IsOvertaken interval seq front ⊎ (min (length (source_of case part)) many ≤ injected part front) → HasLinesIn case many part seen
lines-in case many part interval seq front seen begins claimed lines = record {
  interval = interval;
  seq = seq;
  claimed = claimed-since interval seq front seen begins claimed;
  lines = ⊎_elim
      (λ over. inl (overtaken-again interval seq front seen begins over))
      (λ few. inr (let more = injected-since part front seen begins in omega (arith, few, more)))
      lines;
}

told-at : {X : Type 0} (P : Type 0) (o told : Option X) (x : X) → o ≡ told → told ≡ Some x → IfSome o (λ _. P) → P
told-at {X} P o told x same is have = subst (λ (t : Option X). IfSome t (λ _. P)) (same ∙ is) have

if-told : {X : Type 0} (P : Type 0) (o : Option X) → ((x : X) → o ≡ Some x → P) → IfSome o (λ _. P)
if-told P None have = tt
if-told P (Some x) have = have x refl

-- the seat knows what the workers left
quiet-taken : {K J : Type 0} {g : Ghosts K} (case : CaseShape) (rounds : ℕ) (crew : List (Worker K J g)) (old new : View) (d : Worker K J g)
    → 0 < length crew → old.own ≡ []
    → ((k : ℕ) (e : Worker K J g) → k < length crew → (desk_of (slice_index_or crew k e)).told ≡ new.basis.told)
    → HasTakenIn old 0 crew new → AreQuiet (length crew) case (16 * rounds) crew → HasRunPlain (length crew) rounds case new
quiet-taken {K} {J} {g} case rounds crew old new d some none told taken quiet = record {
  first = record {
    front = quiet.only.begun.front;
    numbers = quiet.only.begun.numbers;
    claimed = quiet.only.begun.claimed;
    begins = Begins-trans quiet.only.begun.front (desk_of (slice_index_or crew 0 d)).seen new.front
        (quiet.only.begun.each 0 d some).seen (taken.each 0 d some);
    own = λ n here. ⊎_elim
        (λ was. absurd (subst (IsIn n) none was))
        (λ it. (quiet.only.begun.each it.0 d it.1).own n (it.2 d))
        (taken.own n here);
  };
  no_more = λ n here high. ⊎_elim
      (λ was. absurd (subst (IsIn n) none was))
      (λ it. silent-since n (desk_of (slice_index_or crew it.0 d)).seen new.front (taken.each it.0 d it.1)
      (quiet.only.no_more it.0 d it.1 n (it.2 d) high))
      (taken.own n here);
  lines = if-told ((part : ℕ) → part < injectors_of case.topology → HasLinesIn case (16 * rounds) part new.front) new.basis.told
      (λ x is part below.
      let it = quiet.lines part below in
      lines-in case (16 * rounds) part it.interval it.seq (desk_of (slice_index_or crew it.at d)).seen new.front
      (taken.each it.at d it.there) (it.holds d).claimed
      (told-at (IsOvertaken it.interval it.seq (desk_of (slice_index_or crew it.at d)).seen
      ⊎ (min (length (source_of case part)) (16 * rounds) ≤ injected part (desk_of (slice_index_or crew it.at d)).seen))
      (desk_of (slice_index_or crew it.at d)).told new.basis.told x (told it.at d it.there) is (it.lines d)));
}

-- the same, whoever the workers are
pub run-quiet : {K J : Type 0} {g : Ghosts K} (case : CaseShape) (rounds : ℕ) (crew : List (Worker K J g)) (old new : View)
    → 0 < length crew → old.own ≡ []
    → ((k : ℕ) (e : Worker K J g) → k < length crew → (desk_of (slice_index_or crew k e)).told ≡ new.basis.told)
    → HasTakenIn old 0 crew new → AreQuiet (length crew) case (16 * rounds) crew → HasRunPlain (length crew) rounds case new
run-quiet case rounds [] old new some none told taken quiet = absurd (omega (arith, some))
run-quiet case rounds (w ∷ crew) old new some none told taken quiet =
    quiet-taken case rounds (w ∷ crew) old new w some none told taken quiet

-- the same, with as many workers as were hired, where no worker has a fault
pub quiet-of : {K J : Type 0} {g : Ghosts K} (case : CaseShape) (workers rounds most : ℕ) (old dealt new : View) (hired crew : List (Worker K J g))
    (fault : Option NodeFault) → 0 < workers → length hired ≡ workers → HasDealt old dealt → old.own ≡ [] → All (IsHired old) hired
    → HasDone most hired crew → HasTakenIn dealt 0 crew new → IsFirstFault crew fault
    → (AreHealthy crew → AreQuiet (length hired) case (16 * rounds) crew) → IfNone fault (HasRunPlain workers rounds case new)
quiet-of {K} {J} {g} case workers rounds most old dealt new hired crew fault some many from none are done taken first quiet = by_fault fault first
  where
    same : length crew ≡ workers
    same = done.long ∙ many

    told : (k : ℕ) (e : Worker K J g) → k < length crew → (desk_of (slice_index_or crew k e)).told ≡ new.basis.told
    told k e below =
        ended-told most old hired crew are done k e below ∙ sym (ap (λ (b : Basis). b.told) (taken.basis ∙ from.basis))

    by_fault : (o : Option NodeFault) → IsFirstFault crew o → IfNone o (HasRunPlain workers rounds case new)
    by_fault None is =
        subst (λ (n : ℕ). HasRunPlain n rounds case new) same
        (run-quiet case rounds crew dealt new (omega (arith, some, same)) (from.own ∙ none) told taken
        (subst (λ (n : ℕ). AreQuiet n case (16 * rounds) crew) (sym done.long) (quiet (first-healthy crew None refl is))))
    by_fault (Some why) is = tt

-- ---- at the close

-- the first claims are claims
claims-all : (workers from count : ℕ) → claims_in (map (first_claim workers) (span from count)) ≡ map (first_claim workers) (span from count)
claims-all workers from zero = refl
claims-all workers from (suc count) = ap (λ (h : List Entry). first_claim workers from ∷ h) (claims-all workers (suc from) count)

-- where none is a claim there are none
claims-none : (history : List Entry) → ((k who interval : ℕ) → slice_get history k ≡ Some (entries.Claim who interval) → ⊥)
    → claims_in history ≡ []
claims-none [] none = refl
claims-none (entries.Claim who interval ∷ rest) none = absurd (none 0 who interval refl)
claims-none (_ ∷ rest) none = claims-none rest (λ k. none (suc k))

get-beyond : (front rest : List Entry) (k : ℕ) → slice_get (front ++ rest) (length front + k) ≡ slice_get rest k
get-beyond [] rest k = ap (slice_get rest) (omega arith)
get-beyond (e ∷ front) rest k =
    let next : suc (length front) + k ≡ suc (length front + k) = omega arith in
    ap (slice_get ((e ∷ front) ++ rest)) next ∙ get-beyond front rest k

-- the claims of entries that are all claims, and of others that are none
claims-both : (workers count : ℕ) (front rest : List Entry) → front ≡ map (first_claim workers) (span 0 count)
    → ((k who interval : ℕ) → slice_get rest k ≡ Some (entries.Claim who interval) → ⊥)
    → claims_in (front ++ rest) ≡ map (first_claim workers) (span 0 count)
claims-both workers count front rest is none =
    filter-append is_claim front rest
    ∙ ap (λ (h : List Entry). claims_in front ++ h) (claims-none rest none)
    ∙ append-nil (claims_in front)
    ∙ ap claims_in is
    ∙ claims-all workers 0 count

module _ (case : CaseShape) (workers rounds : ℕ) (v : View) (core : CoreView) (closed : IsClosed v core) (empty : v.basis.begin ≡ 0)
    (run : HasRunPlain workers rounds case v) where
  -- the front is the first claims
  front-is : run.first.front ≡ first_claims case workers
  front-is =
      let are = numbers-are workers (length (intervals_of case.topology)) (length run.first.front) run.first.numbers run.first.front
      run.first.claimed all
      (claimed-below workers 0 run.first.numbers run.first.front run.first.claimed.at) in
      begins-all (first_claims case workers) run.first.front
      (claims-of workers (length (intervals_of case.topology)) (length run.first.front) run.first.numbers run.first.front
      run.first.claimed are)
      (let long = length-map (span 0 (length (intervals_of case.topology))) (first_claim workers) in
      let many = span-length 0 (length (intervals_of case.topology)) in let same = are.1 in omega (arith, long, many, same))
    where
      all : (k : ℕ) → k < length run.first.front → IsIn k run.first.numbers
      all k below =
          let long = Begins-length run.first.front v.front run.first.begins in
          ⊎_elim (λ here. here) (λ (high : length run.first.front ≤ k). absurd (omega (arith, below, high)))
          (run.first.own k (closed.all_own k (omega (arith, empty)) (omega (arith, below, long))))

  -- behind it there is no claim
  behind : (n : ℕ) → length run.first.front ≤ n → n < length v.front → IsNoClaim n v.front
  behind n high below = run.no_more n (closed.all_own n (omega (arith, empty)) below) high

  behind-none : (k who interval : ℕ) → slice_get run.first.begins.0 k ≡ Some (entries.Claim who interval) → ⊥
  behind-none k who interval at =
      let here : slice_get v.front (length run.first.front + k) ≡ Some (entries.Claim who interval) =
      ap (λ (h : List Entry). slice_get h (length run.first.front + k)) (sym run.first.begins.1)
      ∙ get-beyond run.first.front run.first.begins.0 k ∙ at in
      (behind (length run.first.front + k) (omega arith)
      (slice_get_within v.front (length run.first.front + k) (entries.Claim who interval) here)).no_claim who interval here

  -- the claims are the first ones
  pub quiet-claims : claims_in v.front ≡ first_claims case workers
  quiet-claims =
      ap claims_in (sym run.first.begins.1)
      ∙ claims-both workers (length (intervals_of case.topology)) run.first.front run.first.begins.0 front-is behind-none

  -- a claim stands at the number of its interval
  claim-at : (interval n : ℕ) → IsClaimed interval n v.front → n ≡ interval
  claim-at interval n (who, at) = elim (cases_lt n (length run.first.front)) [
    | inl below ↦
        let here = at-Begins run.first.front v.front n (entries.Claim who interval) run.first.begins below at in
        let it = first-at 0 n (length (intervals_of case.topology))
        (subst (λ (h : List Entry). slice_get h n ≡ Some (entries.Claim who interval)) front-is here) in omega (arith, it)
    | inr high ↦
        absurd ((behind n high (slice_get_within v.front n (entries.Claim who interval) at)).no_claim who interval at)
  ]
    where
      first-at : (from k count : ℕ) → slice_get (map (first_claim workers) (span from count)) k ≡ Some (entries.Claim who interval)
          → from + k ≡ interval
      first-at from k zero is = absurd cc
      first-at from zero (suc count) is = let same : from ≡ interval = cc in omega (arith, same)
      first-at from (suc k) (suc count) is =
          let rest = first-at (suc from) k count is in omega (arith, rest)

  -- and each injector has its lines
  pub quiet-injected : IsSome v.basis.told → HasInjectedAll case rounds v.front
  quiet-injected told part below = by_told v.basis.told told run.lines
    where
      lines : HasLinesIn case (16 * rounds) part v.front → min (length (source_of case part)) (16 * rounds) ≤ injected part v.front
      lines it = ⊎_elim
          (λ again.
          let first = claim-at it.interval it.seq it.claimed in
          let second = claim-at it.interval again.0 again.2 in
          let later = again.1 in absurd (omega (arith, first, second, later)))
          (λ few. few)
          it.lines

      by_told : {X : Type 0} (o : Option X) → IsSome o
          → IfSome o (λ _. (p : ℕ) → p < injectors_of case.topology → HasLinesIn case (16 * rounds) p v.front)
          → min (length (source_of case part)) (16 * rounds) ≤ injected part v.front
      by_told None some have = absurd cc
      by_told (Some x) some have = lines (have part below)
