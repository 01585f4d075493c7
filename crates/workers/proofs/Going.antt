-- Desks that go on: what they append is added up.
use Rattle.std.proofs.Common.{◌≡◌, ◌∙◌, ◌≤◌, ◌+◌, ◌++◌, ◌∷◌, ℕ, suc, List, [], length, refl, sym, ap, subst, arith, append-nil, append_assoc, length-append, ⊎_elim}
use Rattle.std.specs.Prelude.{Contains}
use Rattle.mw_types.specs.declared.entry.Entry.{Entry}
use Rattle.book.specs.Desks.{DeskView, HasLooked}
use Rattle.book.proofs.Numbers.{numbers_from-none}
use Rattle.shared_book.specs.Lists.{IsIn}
use Rattle.shared_book.proofs.Lists.{in_append}
use Rattle.workers.specs.Slices.{HasWorked}
use Rattle.workers.specs.Crews.{HasGoneOn}

-- what is in a list stands somewhere in it
pub in-contains : (x : ℕ) (xs : List ℕ) → IsIn x xs → Contains xs x
in-contains x [] here = absurd here
in-contains x (y ∷ ys) here = ⊎_elim
    (λ (same : x ≡ y). (0, omega arith, sym same))
    (λ later. let it = in-contains x ys later in (suc it.0, (let below = it.1 in omega (arith, below)), it.2)) here

-- a desk that does nothing
pub gone-not : (desk : DeskView) → HasGoneOn 0 desk desk
gone-not desk = record {
  case = refl;
  limit = refl;
  told = refl;
  rest = [];
  more = sym (append-nil desk.seen);
  added = [];
  own = sym (append-nil desk.own);
  few = omega arith;
  later = λ number none. absurd none;
  faults = omega arith;
}

-- a desk that is as it was
pub gone-same : (old new : DeskView) → new ≡ old → HasGoneOn 0 old new
gone-same old new same = subst (HasGoneOn 0 old) (sym same) (gone-not old)

-- a look
pub gone-looked : (old new : DeskView) → HasLooked old new → HasGoneOn 0 old new
gone-looked old new moved = record {
  case = moved.case;
  limit = moved.limit;
  told = moved.told;
  rest = moved.others;
  more = moved.more;
  added = [];
  own = moved.own ∙ ap (λ (l : List ℕ). old.own ++ l) (numbers_from-none (length new.seen) new.seen);
  few = omega arith;
  later = λ number none. absurd none;
  faults = moved.faults;
}

-- a turn of work
pub gone-worked : (most : ℕ) (old new : DeskView) → HasWorked most old new → HasGoneOn most old new
gone-worked most old new worked = record {
  case = worked.case;
  limit = worked.limit;
  told = worked.told;
  rest = worked.rest;
  more = worked.more;
  added = worked.added;
  own = worked.own;
  few = worked.few;
  later = λ number here. (worked.each number (in-contains number worked.added here)).later;
  faults = worked.faults;
}

-- at most so many is at most more
pub gone-less : (m n : ℕ) (old new : DeskView) → m ≤ n → HasGoneOn m old new → HasGoneOn n old new
gone-less m n old new less went = record {
  case = went.case;
  limit = went.limit;
  told = went.told;
  rest = went.rest;
  more = went.more;
  added = went.added;
  own = went.own;
  few = let few = went.few in omega (arith, few, less);
  later = went.later;
  faults = went.faults;
}

-- a desk goes on, and goes on
pub gone-both : (m n : ℕ) (old mid new : DeskView) → HasGoneOn m old mid → HasGoneOn n mid new → HasGoneOn (m + n) old new
gone-both m n old mid new one two = record {
  case = two.case ∙ one.case;
  limit = two.limit ∙ one.limit;
  told = two.told ∙ one.told;
  rest = one.rest ++ two.rest;
  more = two.more ∙ ap (λ (h : List Entry). h ++ two.rest) one.more ∙ append_assoc old.seen one.rest two.rest;
  added = one.added ++ two.added;
  own = two.own ∙ ap (λ (l : List ℕ). l ++ two.added) one.own ∙ append_assoc old.own one.added two.added;
  few = let a = one.few in let b = two.few in let long = length-append one.added two.added in omega (arith, a, b, long);
  later = λ number here. ⊎_elim
      (λ first. one.later number first)
      (λ second. let later = two.later number second in
      let long = ap length one.more ∙ length-append old.seen one.rest in omega (arith, later, long))
      (in_append number one.added two.added here);
  faults = let a = one.faults in let b = two.faults in omega (arith, a, b);
}
