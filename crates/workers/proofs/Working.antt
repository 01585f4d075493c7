-- What calls append is added up.
use Rattle.std.proofs.Common.{◌≡◌, ◌∙◌, ◌≤◌, ◌+◌, ◌++◌, ◌∷◌, ℕ, zero, suc, List, [], length, refl, sym, ap, subst, arith, append-nil, append_assoc, length-append, ⊎_elim}
use Rattle.std.specs.Prelude.{Some, IsSome, slice_get, Contains}
use Rattle.std.proofs.lemmas.List.Elements.{Contains-append_cases}
use Rattle.mw_types.specs.declared.entry.Entry.{Entry}
use Rattle.mw_types.specs.declared.entry.Entry.TheVariants as entries
use Rattle.run_history.specs.Fences.{sequencer_of}
use Rattle.run_history.proofs.Beginnings.{at-Begins, slice_get-last}
use Rattle.book.specs.Desks.{DeskView, HasLooked, HasMoved}
use Rattle.book.proofs.Numbers.{numbers_from-none, numbers_from-one}
use Rattle.workers.specs.Slices.{HasWorked, IsAddedAt}

-- nothing is among no numbers
none-among : (at : ℕ) → Contains [] at → ⊥
none-among at here = absurd (let below = here.1 in omega (arith, below))

-- one number is the only one
one-among : (x at : ℕ) → Contains (x ∷ []) at → x ≡ at
one-among x at (zero, below, is) = is
one-among x at (suc k, below, is) = absurd (omega (arith, below))

-- no work at all
pub worked-not : (desk : DeskView) → HasWorked 0 desk desk
worked-not desk = record {
  case = refl;
  limit = refl;
  told = refl;
  alone = refl;
  rest = [];
  more = sym (append-nil desk.seen);
  added = [];
  own = sym (append-nil desk.own);
  few = omega arith;
  each = λ at here. absurd (none-among at here);
  leases = λ lease may. may;
  faults = omega arith;
}

-- a look is no work
pub worked-looked : (old new : DeskView) → HasLooked old new → HasWorked 0 old new
worked-looked old new moved = record {
  case = moved.case;
  limit = moved.limit;
  told = moved.told;
  alone = moved.alone;
  rest = moved.others;
  more = moved.more;
  added = [];
  own = moved.own ∙ ap (λ (l : List ℕ). old.own ++ l) (numbers_from-none (length new.seen) new.seen);
  few = omega arith;
  each = λ at here. absurd (none-among at here);
  leases = moved.leases;
  faults = moved.faults;
}

-- a claim carries no sequencer
claim-carries : (entry : Entry) (worker interval : ℕ) → IsSome (sequencer_of entry) → Some entry ≡ Some (entries.Claim worker interval) → ⊥
claim-carries (entries.Claim w i) worker interval carries is = absurd cc
claim-carries (entries.Inject seq part line item) worker interval carries is = absurd cc
claim-carries (entries.Handle seq name id effects) worker interval carries is = absurd cc
claim-carries (entries.Fire seq name timer mark effects) worker interval carries is = absurd cc
claim-carries (entries.Ack seq name id) worker interval carries is = absurd cc
claim-carries (entries.Purge seq name floor) worker interval carries is = absurd cc

-- an entry that carries a sequencer
pub worked-once : (old new : DeskView) (before : List Entry) (entry : Entry) → HasMoved old new before
    → new.seen ≡ before ++ entry ∷ [] → IsSome (sequencer_of entry) → HasWorked 1 old new
worked-once old new before entry moved appended carries = record {
  case = moved.case;
  limit = moved.limit;
  told = moved.told;
  alone = moved.alone;
  rest = moved.others ++ entry ∷ [];
  more = appended ∙ ap (λ (h : List Entry). h ++ entry ∷ []) moved.more ∙ append_assoc old.seen moved.others (entry ∷ []);
  added = length before ∷ [];
  own = moved.own ∙ ap (λ (l : List ℕ). old.own ++ l) (numbers_from-one before new.seen entry appended);
  few = omega arith;
  each = λ at here. subst (IsAddedAt old new) (one-among (length before) at here) last;
  leases = moved.leases;
  faults = moved.faults;
}
  where
    long : length new.seen ≡ length before + 1
    long = ap length appended ∙ length-append before (entry ∷ [])

    front : length before ≡ length old.seen + length moved.others
    front = ap length moved.more ∙ length-append old.seen moved.others

    last : IsAddedAt old new (length before)
    last = record {
      later = omega (arith, front);
      below = omega (arith, long);
      no_claim = λ worker interval at. claim-carries entry worker interval carries
          (sym (slice_get-last before entry) ∙ sym (ap (λ (h : List Entry). slice_get h (length before)) appended) ∙ at);
    }

-- at most so many is at most more
pub worked-less : (m n : ℕ) (old new : DeskView) → m ≤ n → HasWorked m old new → HasWorked n old new
worked-less m n old new less worked = record {
  case = worked.case;
  limit = worked.limit;
  told = worked.told;
  alone = worked.alone;
  rest = worked.rest;
  more = worked.more;
  added = worked.added;
  own = worked.own;
  few = let few = worked.few in omega (arith, few, less);
  each = worked.each;
  leases = worked.leases;
  faults = worked.faults;
}

-- what stands in what was seen before stands there still, and what is added later is later
added-before : (old mid new : DeskView) (rest : List Entry) (at : ℕ) → new.seen ≡ mid.seen ++ rest → IsAddedAt old mid at
    → IsAddedAt old new at
added-before old mid new rest at more is = record {
  later = is.later;
  below = let below = is.below in let long = ap length more ∙ length-append mid.seen rest in omega (arith, below, long);
  no_claim = λ worker interval here. is.no_claim worker interval
      (at-Begins mid.seen new.seen at (entries.Claim worker interval) (rest, sym more) is.below here);
}

added-after : (old mid new : DeskView) (rest : List Entry) (at : ℕ) → mid.seen ≡ old.seen ++ rest → IsAddedAt mid new at
    → IsAddedAt old new at
added-after old mid new rest at more is = record {
  later = let later = is.later in let long = ap length more ∙ length-append old.seen rest in omega (arith, later, long);
  below = is.below;
  no_claim = is.no_claim;
}

-- work after work
pub worked-both : (m n : ℕ) (old mid new : DeskView) → HasWorked m old mid → HasWorked n mid new → HasWorked (m + n) old new
worked-both m n old mid new one two = record {
  case = two.case ∙ one.case;
  limit = two.limit ∙ one.limit;
  told = two.told ∙ one.told;
  alone = two.alone ∙ one.alone;
  rest = one.rest ++ two.rest;
  more = two.more ∙ ap (λ (h : List Entry). h ++ two.rest) one.more ∙ append_assoc old.seen one.rest two.rest;
  added = one.added ++ two.added;
  own = two.own ∙ ap (λ (l : List ℕ). l ++ two.added) one.own ∙ append_assoc old.own one.added two.added;
  few = let a = one.few in let b = two.few in let long = length-append one.added two.added in omega (arith, a, b, long);
  each = λ at here. ⊎_elim
      (λ first. added-before old mid new two.rest at two.more (one.each at first))
      (λ second. added-after old mid new one.rest at one.more (two.each at second))
      (Contains-append_cases one.added two.added at here);
  leases = λ lease may. two.leases lease (one.leases lease may);
  faults = let a = one.faults in let b = two.faults in omega (arith, a, b);
}

-- work after work, within so much
pub worked-then : (m n k : ℕ) (old mid new : DeskView) → m + n ≤ k → HasWorked m old mid → HasWorked n mid new → HasWorked k old new
worked-then m n k old mid new less one two = worked-less (m + n) k old new less (worked-both m n old mid new one two)
