-- What is held fits its desk after each call.
use Rattle.std.proofs.Common.{◌≡◌, ◌≢◌, ◌<◌, ℕ, List, [], ◌∷◌, length, get_or, refl, sym, ◌∙◌, ap, arith, subst, inl, inr}
use Rattle.std.specs.Prelude.{Err, IfErr, IfOk, IfSome, IsSome, MatchResult, None, Ok, OnErr, Option, Result, Some, slice_set, unwrap_or}
use Rattle.std.specs.Option.{is_some}
use Rattle.std.specs.BTreeMap.{insert_entry}
use Rattle.std.specs.Ordering.{match_ordering}
use Rattle.std.specs.Cmp.{tied_itself}
use Rattle.std.specs.declared.cmp.Ordering.TheVariants.{Less, Equal, Greater}
use Rattle.std.proofs.lemmas.List.{length-set}
use Rattle.std.proofs.lemmas.Result.{IfErr-weaker}
use Rattle.mw_types.specs.declared.entry.Entry.{Entry}
use Rattle.mw_types.specs.Orders.{row_cmp}
use Rattle.mw_types.specs.declared.identity.RowName.{RowName}
use Rattle.mw_types.proofs.OrderLaws.{row_cmp-total}
use Rattle.topology.specs.Shapes.{Shape, parts_of}
use Rattle.row_parts.specs.Contents.{Contents, fresh}
use Rattle.run_history.specs.Cases.{CaseShape, fresh_of}
use Rattle.run_history.specs.Runs.{cached, row_in}
use Rattle.run_history.specs.Fences.{IsFenced, interval_of}
use Rattle.list_lemmas.proofs.Lists.{none_some, some_same}
use Rattle.book.specs.Answers.{answer_of}
use Rattle.book.specs.Books.{LeaseView}
use Rattle.book.specs.Desking.{IsRowKnown, MayAsk}
use Rattle.book.specs.DeskReasons.{HasReason}
use Rattle.book.specs.Desks.{DeskView, HasLooked, IsSound}
use Rattle.book.specs.declared.answers.Written.{Written}
use Rattle.book.specs.declared.desk_refusal.DeskRefusal.{DeskRefusal}
use Rattle.holdings.specs.Holding.{AreAllHeld, HasSeenOthers, HeldView, HoldsEntry, IsHeld, IsRefusedOf, KeepsHeld, KeepsOthers, held_at, row_held, with_row}
use Rattle.holdings.specs.Steps.{IsReady, KeepsAll, with_cached}
use Rattle.holdings.specs.Writing.{IsRewrittenAt}
use Rattle.holdings.proofs.HeldRows.{AreRowsHeld-cached, AreRowsHeld-elsewhere, AreRowsHeld-entered, AreRowsHeld-looked, AreRowsHeld-more, HasEntered, found-here, held-known, row_held-here, row_held-same}
use Rattle.holdings.proofs.HeldPlaces.{held-here, held-others, held-read, held-within, number_or_not}

-- ---- one row put twice

-- a value that is put again replaces the one before
insert-again : (es : List (RowName × Contents)) (name : RowName) (one two : Contents)
    → insert_entry row_cmp (insert_entry row_cmp es name one) name two ≡ insert_entry row_cmp es name two
insert-again [] name one two = rw (tied_itself row_cmp-total name) refl
insert-again (e ∷ es) name one two =
    elim (row_cmp name e.0) as (λ o. row_cmp name e.0 ≡ o
    → insert_entry row_cmp (match_ordering o ((name, one) ∷ e ∷ es) ((e.0, one) ∷ es) (e ∷ insert_entry row_cmp es name one)) name two
    ≡ match_ordering o ((name, two) ∷ e ∷ es) ((e.0, two) ∷ es) (e ∷ insert_entry row_cmp es name two)) [
      | Less ↦ λ _. rw (tied_itself row_cmp-total name) refl
      | Equal ↦ λ at. rw at refl
      | Greater ↦ λ at. rw at (ap (λ (l : List (RowName × Contents)). e ∷ l) (insert-again es name one two))
    ] refl

-- a row that is put again replaces the one before
pub with_row-again : (name : RowName) (one two : Contents) (held : HeldView) → with_row name two (with_row name one held) ≡ with_row name two held
with_row-again name one two held = λ i. record { lease = held.lease; rows = insert-again held.rows name one two i }

-- ---- without an entry of its own

-- all that is held still fits after a call without an entry of its own
pub AreAllHeld-looked : (case : CaseShape) (old new : DeskView) (all after : List (Option HeldView)) → old.case ≡ case → IsSound old
    → IsSound new → HasLooked old new → KeepsAll all after → AreAllHeld case old all → AreAllHeld case new after
AreAllHeld-looked case old new all after same sound now looked stay are = record {
  each = λ i held is.
      let before = are.each i held (sym (stay i) ∙ is) in record {
        of_interval = before.of_interval;
        may_use = looked.leases held.lease before.may_use;
        rows = AreRowsHeld-looked case old new held same sound now before.may_use looked before.rows;
      };
}

-- all that is held fits beside a worker that acts
pub AreAllHeld-beside : (case : CaseShape) (old new : DeskView) (all : List (Option HeldView)) → IsSound old → IsSound new → old.case ≡ case
    → HasSeenOthers old new all → AreAllHeld case old all → AreAllHeld case new all
AreAllHeld-beside case old new all sound now same others are = record {
  each = λ i held is.
      let before = are.each i held is in record {
        of_interval = before.of_interval;
        may_use = others.leases i held is;
        rows = AreRowsHeld-more case old new held others.rest
            (subst (λ (c : CaseShape). IsFenced c.topology new.seen) (others.case ∙ same) now.fenced)
            (sound.claimed held.lease before.may_use) others.more (others.foreign i held is) others.told before.rows;
      };
}

-- what is held of fewer intervals fits
pub AreAllHeld-fewer : (case : CaseShape) (desk : DeskView) (all after : List (Option HeldView)) (i : ℕ) → held_at after i ≡ None
    → KeepsOthers i all after → AreAllHeld case desk all → AreAllHeld case desk after
AreAllHeld-fewer case desk all after i gone others are = record {
  each = λ j held is. elim (number_or_not i j) [
    | inl same ↦ absurd (none_some held (sym gone ∙ sym (ap (held_at after) same) ∙ is))
    | inr apart ↦ are.each j held (sym (others j apart) ∙ is)
  ];
}

-- ---- an entry on a row

-- what is held of one interval fits, and what else is held fits
pub AreAllHeld-here : (case : CaseShape) (desk : DeskView) (after : List (Option HeldView)) (i : ℕ) (left : HeldView) → held_at after i ≡ Some left
    → IsHeld case desk i left → ((j : ℕ) (held : HeldView) → j ≢ i → held_at after j ≡ Some held → IsHeld case desk j held) → AreAllHeld case desk after
AreAllHeld-here case desk after i left here fits others = record {
  each = λ j held is. elim (number_or_not i j) [
    | inl same ↦ subst (λ n. IsHeld case desk n held) (sym same)
        (subst (IsHeld case desk i) (some_same left held (sym here ∙ sym (ap (held_at after) same) ∙ is)) fits)
    | inr apart ↦ others j held apart is
  ];
}

-- what follows of each value that is there follows where one is
pub some-so : {T : Type 0} (P : T → Type 0) (o : Option T) → ((x : T) → o ≡ Some x → P x) → IfSome o P
some-so P (Some x) so = so x refl
some-so P None so = tt

-- what follows from each acceptance follows from an accepted one
pub ok-so : {T E : Type 0} (P Q : T → Type 0) (result : Result T E) → ((x : T) → P x → Q x) → IfOk result P → IfOk result Q
ok-so P Q (Ok x) so is = so x is
ok-so P Q (Err e) so is = tt

module _ (case : CaseShape) (desk : DeskView) (all mid : List (Option HeldView)) (i : ℕ) (name : RowName) (left : HeldView)
    (lies : interval_of case.topology name ≡ Some i) (ready : IsReady case.topology i name all mid) (at : held_at mid i ≡ Some left)
    (are : AreAllHeld case desk all) where
  -- what is held has the row cached, as it was
  pub left-ready : left ≡ with_row name (row_held case.topology ready.held name) ready.held
  left-ready = some_same left (with_row name (row_held case.topology ready.held name) ready.held)
      (sym at ∙ ap (λ l. held_at l i) ready.is
      ∙ held-here all i (Some (with_row name (row_held case.topology ready.held name) ready.held)) (held-within all i ready.held ready.was))

  -- what is held fits, with the row cached
  pub IsHeld-ready : IsHeld case desk i left
  IsHeld-ready =
      let was = are.each i ready.held ready.was in
      subst (IsHeld case desk i) (sym left-ready) (record {
        of_interval = was.of_interval;
        may_use = was.may_use;
        rows = AreRowsHeld-cached case desk name ready.held (lies ∙ ap Some (sym was.of_interval)) was.rows;
      })

  -- the row lies in the interval of the lease
  pub lies-ready : interval_of case.topology name ≡ Some left.lease.interval
  lies-ready = lies ∙ ap Some (sym IsHeld-ready.of_interval)

  -- the row is held as before
  pub row-ready : row_held case.topology left name ≡ row_held case.topology ready.held name
  row-ready = ap (λ (h : HeldView). row_held case.topology h name) left-ready ∙ row_held-same case.topology name name ready.held

  -- the lease is as before
  pub lease-ready : left.lease ≡ ready.held.lease
  lease-ready = ap (λ (h : HeldView). h.lease) left-ready

  -- the row is cached
  pub there-ready : IsSome (row_in (cached left.rows) name)
  there-ready = subst (λ (h : HeldView). IsSome (row_in (cached h.rows) name)) (sym left-ready)
      (ap is_some (found-here name (row_held case.topology ready.held name) ready.held))

  -- the row that is read is the one that is held
  pub read-ready : (row : Contents) → row_in (cached left.rows) name ≡ Some row → row ≡ row_held case.topology left name
  read-ready row found = sym (ap (λ o. unwrap_or o (fresh (fresh_of case.topology name.part))) found)

  -- what is said of the row that was held is true of the row that is read
  pub said-ready : (P : Contents → Type 0) (row : Contents) → row_in (cached left.rows) name ≡ Some row
      → IfSome (held_at all i) (λ held. P (row_held case.topology held name)) → P row
  said-ready P row found said = subst P (sym (read-ready row found ∙ row-ready))
      (subst (λ (o : Option HeldView). IfSome o (λ held. P (row_held case.topology held name))) ready.was said)

  -- the lease may be used on the row
  pub may-ready : (lease : LeaseView) → lease ≡ left.lease → desk.case ≡ case → MayAsk desk lease name
  may-ready lease is same = subst (λ (l : LeaseView). MayAsk desk l name) (sym is) (record {
    may_use = IsHeld-ready.may_use;
    covers = subst (λ (c : CaseShape). interval_of c.topology name ≡ Some left.lease.interval) (sym same) lies-ready;
  })

  -- the row that is read is the row as it is known
  pub known-ready : (lease : LeaseView) (row : Contents) → lease ≡ left.lease → desk.case ≡ case → name.part < parts_of case.topology
      → row_in (cached left.rows) name ≡ Some row → IsRowKnown desk lease name row
  known-ready lease row is same part found = subst (λ (l : LeaseView). IsRowKnown desk l name row) (sym is)
      (held-known case desk name left row same IsHeld-ready.rows lies-ready part (read-ready row found))

module _ (case : CaseShape) (old new : DeskView) (all mid after : List (Option HeldView)) (i : ℕ) (name : RowName) (left : HeldView)
    (lies : interval_of case.topology name ≡ Some i) (ready : IsReady case.topology i name all mid) (at : held_at mid i ≡ Some left)
    (are : AreAllHeld case old all) (others : KeepsOthers i mid after) (lease : LeaseView) (lease_is : lease ≡ left.lease) where
  -- what is held of the interval fits before the entry
  fits : IsHeld case old i left
  fits = IsHeld-ready case old all mid i name left lies ready at are

  -- what is held has the row cached
  is-ready : left ≡ with_row name (row_held case.topology ready.held name) ready.held
  is-ready = left-ready case old all mid i name left lies ready at are

  -- what is held of other intervals is as before
  kept-others : KeepsOthers i all after
  kept-others j apart = others j apart ∙ ap (λ l. held_at l j) ready.is
      ∙ held-others all i (Some (with_row name (row_held case.topology ready.held name) ready.held)) j apart

  -- what is held of the interval after a write
  kept-here : (written : Result Written DeskRefusal) → IfSome (held_at mid i) (λ held. MatchResult written
      (λ (w : Written). held_at after i ≡ Some (with_row name w.row held)) (λ _. held_at after i ≡ Some held))
      → MatchResult written (λ (w : Written). held_at after i ≡ Some (with_row name w.row left)) (λ _. held_at after i ≡ Some left)
  kept-here written here = subst (λ (o : Option HeldView). IfSome o (λ held. MatchResult written
      (λ (w : Written). held_at after i ≡ Some (with_row name w.row held)) (λ _. held_at after i ≡ Some held))) at here

  -- all that is held fits after an entry on the row
  AreAllHeld-entered : old.case ≡ case → IsSound old → IsSound new → (answer : Written) → held_at after i ≡ Some (with_row name answer.row left)
      → HasEntered old new left.lease name answer → AreAllHeld case new after
  AreAllHeld-entered same sound now answer here by = AreAllHeld-here case new after i (with_row name answer.row left) here
      (record {
        of_interval = fits.of_interval;
        may_use = by.moved.leases left.lease fits.may_use;
        rows = AreRowsHeld-entered case old new same sound now name answer left fits.may_use
            (lies ∙ ap Some (sym fits.of_interval)) by fits.rows;
      })
      (λ j held apart is.
      let before = are.each j held (sym (kept-others j apart) ∙ is) in record {
        of_interval = before.of_interval;
        may_use = by.moved.leases held.lease before.may_use;
        rows = AreRowsHeld-elsewhere case old new same sound now left.lease name answer held fits.may_use before.may_use
            (λ e. apart (sym before.of_interval ∙ e ∙ fits.of_interval)) by before.rows;
      })

  -- all that is held fits after a refusal
  AreAllHeld-refused : old.case ≡ case → IsSound old → IsSound new → held_at after i ≡ Some left → HasLooked old new → AreAllHeld case new after
  AreAllHeld-refused same sound now here looked = AreAllHeld-looked case old new after after same sound now looked (λ j. refl)
      (AreAllHeld-here case old after i left here fits (λ j held apart is. are.each j held (sym (kept-others j apart) ∙ is)))

  -- all that is held fits after a write, whatever was answered
  pub AreAllHeld-kept : old.case ≡ case → IsSound old → IsSound new → (written : Result Written DeskRefusal)
      → IfSome (held_at mid i) (λ held. MatchResult written (λ (w : Written). held_at after i ≡ Some (with_row name w.row held))
      (λ _. held_at after i ≡ Some held)) → IfOk written (HasEntered old new lease name) → OnErr written (HasLooked old new) → AreAllHeld case new after
  AreAllHeld-kept same sound now (Ok answer) here by looked = AreAllHeld-entered same sound now answer (kept-here (Ok answer) here)
      (subst (λ (l : LeaseView). HasEntered old new l name answer) lease_is by)
  AreAllHeld-kept same sound now (Err why) here by looked = AreAllHeld-refused same sound now (kept-here (Err why) here) looked

  -- a refused write keeps what is held
  pub KeepsHeld-refused : (written : Result Written DeskRefusal) (result : Result ℕ DeskRefusal)
      → MatchResult written (λ (w : Written). result ≡ Ok w.commit) (λ why. result ≡ Err why)
      → IfSome (held_at mid i) (λ held. MatchResult written (λ (w : Written). held_at after i ≡ Some (with_row name w.row held))
      (λ _. held_at after i ≡ Some held)) → OnErr result (KeepsHeld case.topology all after)
  KeepsHeld-refused (Ok answer) result is here = subst (λ (r : Result ℕ DeskRefusal). OnErr r (KeepsHeld case.topology all after)) (sym is) tt
  KeepsHeld-refused (Err why) result is here = subst (λ (r : Result ℕ DeskRefusal). OnErr r (KeepsHeld case.topology all after)) (sym is) (record {
    there = λ j held there. elim (number_or_not i j) [
      | inl equal ↦
          let held_is : ready.held ≡ held = some_same ready.held held (sym ready.was ∙ sym (ap (held_at all) equal) ∙ there) in (
            left,
            ap (held_at after) equal ∙ kept-here (Err why) here,
            ap (λ (h : HeldView). h.lease) is-ready ∙ ap (λ (h : HeldView). h.lease) held_is,
            λ other. ap (λ (h : HeldView). row_held case.topology h other) is-ready ∙ row_held-same case.topology name other ready.held
                ∙ ap (λ (h : HeldView). row_held case.topology h other) held_is,
          )
      | inr apart ↦ (held, kept-others j apart ∙ there, refl, λ other. refl)
    ];
    none = λ j none. elim (number_or_not i j) [
      | inl equal ↦ absurd (none_some ready.held (sym none ∙ ap (held_at all) equal ∙ ready.was))
      | inr apart ↦ kept-others j apart ∙ none
    ];
  })

  -- an accepted write is held
  pub HoldsEntry-written : (IsEntry : LeaseView → Contents → Written → Type 0) (row : Contents) (written : Result Written DeskRefusal)
      (result : Result ℕ DeskRefusal) → MatchResult written (λ (w : Written). result ≡ Ok w.commit) (λ why. result ≡ Err why)
      → IfSome (held_at mid i) (λ held. MatchResult written (λ (w : Written). held_at after i ≡ Some (with_row name w.row held))
      (λ _. held_at after i ≡ Some held)) → row ≡ row_held case.topology left name → IfOk written (IsEntry lease row)
      → IfOk result (λ commit. HoldsEntry case.topology i name commit IsEntry all after)
  HoldsEntry-written IsEntry row (Err why) result is here row_is by =
      subst (λ (r : Result ℕ DeskRefusal). IfOk r (λ commit. HoldsEntry case.topology i name commit IsEntry all after)) (sym is) tt
  HoldsEntry-written IsEntry row (Ok answer) result is here row_is by =
      subst (λ (r : Result ℕ DeskRefusal). IfOk r (λ commit. HoldsEntry case.topology i name commit IsEntry all after)) (sym is) (record {
        held = ready.held;
        answer = answer;
        was = ready.was;
        entry = subst (λ (l : LeaseView). IsEntry l (row_held case.topology ready.held name) answer)
            (lease_is ∙ ap (λ (h : HeldView). h.lease) is-ready)
            (subst (λ (r : Contents). IsEntry lease r answer) (row_is ∙ row-ready case old all mid i name left lies ready at are) by);
        number = refl;
        is = kept-here (Ok answer) here ∙ ap (λ (h : HeldView). Some (with_row name answer.row h)) is-ready
            ∙ ap Some (with_row-again name (row_held case.topology ready.held name) answer.row ready.held);
        others = kept-others;
      })

-- ---- a write on a row where it lies

-- what is said of what is there, where this is there
pub there-so : {T : Type 0} (P : T → Type 0) (o : Option T) (x : T) → o ≡ Some x → P x → IfSome o P
there-so P o x is so = subst (λ p. IfSome p P) (sym is) so

-- and back
pub so-there : {T : Type 0} (P : T → Type 0) (o : Option T) (x : T) → o ≡ Some x → IfSome o P → P x
so-there P o x is so = subst (λ p. IfSome p P) is so

-- the same places are ready
pub ready-same : (shape : Shape) (i : ℕ) (name : RowName) (all mid items : List (Option HeldView)) → items ≡ mid
    → IsReady shape i name all mid → IsReady shape i name all items
ready-same shape i name all mid items same ready = record { held = ready.held; was = ready.was; is = same ∙ ready.is }

module _ (case : CaseShape) (desk : DeskView) (all mid : List (Option HeldView)) (i : ℕ) (name : RowName)
    (lies : interval_of case.topology name ≡ Some i) (ready : IsReady case.topology i name all mid) (are : AreAllHeld case desk all) where
  -- the interval has a place
  pub ready-within : i < length mid
  ready-within = subst (λ (l : List (Option HeldView)). i < length l) (sym ready.is)
      (let within = held-within all i ready.held ready.was in
      let long = length-set all i (Some (with_cached case.topology name ready.held)) in omega (arith, within, long))

  -- what is held there has the row cached
  pub ready-at : held_at mid i ≡ Some (with_cached case.topology name ready.held)
  ready-at = ap (λ l. held_at l i) ready.is
      ∙ held-here all i (Some (with_cached case.topology name ready.held)) (held-within all i ready.held ready.was)

  -- what is asked of the row that was held is true of it
  pub ready-said : (P : Contents → Type 0) → IfSome (held_at all i) (λ held. P (row_held case.topology held name))
      → P (row_held case.topology (with_cached case.topology name ready.held) name)
  ready-said P said = subst P (sym (row_held-here case.topology name (row_held case.topology ready.held name) ready.held))
      (so-there (λ (held : HeldView). P (row_held case.topology held name)) (held_at all i) ready.held ready.was said)

module _ (case : CaseShape) (desk : DeskView) (all mid : List (Option HeldView)) (i : ℕ) (name : RowName)
    (lies : interval_of case.topology name ≡ Some i) (ready : IsReady case.topology i name all mid) (are : AreAllHeld case desk all)
    (was : Option HeldView) (read : was ≡ get_or mid i was) where
  -- what is held of the interval, with the row cached
  abbrev pub place_held : HeldView
  place_held = with_cached case.topology name ready.held

  -- what is read at the interval's place is held
  pub place-is : was ≡ Some place_held
  place-is = held-read mid i was (ready-within case desk all mid i name lies ready are) read
      ∙ ready-at case desk all mid i name lies ready are

  -- something is held there
  pub place-held : IsSome was
  place-held = ap is_some place-is

  -- the row is cached
  pub place-there : IfSome was (λ held. IsSome (row_in (cached held.rows) name))
  place-there = there-so (λ (held : HeldView). IsSome (row_in (cached held.rows) name)) was place_held place-is
      (there-ready case desk all mid i name place_held lies ready (ready-at case desk all mid i name lies ready are) are)

  -- the lease may be used on it
  pub place-lease : desk.case ≡ case → IfSome was (λ held. MayAsk desk held.lease name)
  place-lease same = there-so (λ (held : HeldView). MayAsk desk held.lease name) was place_held place-is
      (may-ready case desk all mid i name place_held lies ready (ready-at case desk all mid i name lies ready are) are place_held.lease refl same)

  -- it is the row as it is known
  pub place-row : desk.case ≡ case → name.part < parts_of case.topology
      → IfSome was (λ held. IfSome (row_in (cached held.rows) name) (IsRowKnown desk held.lease name))
  place-row same part = there-so (λ (held : HeldView). IfSome (row_in (cached held.rows) name) (IsRowKnown desk held.lease name)) was place_held
      place-is
      (some-so (IsRowKnown desk place_held.lease name) (row_in (cached place_held.rows) name)
      (λ row found. known-ready case desk all mid i name place_held lies ready (ready-at case desk all mid i name lies ready are) are
      place_held.lease row refl same part found))

  -- what is asked of the row that was held is true of it
  pub place-said : (P : Contents → Type 0) → IfSome (held_at all i) (λ held. P (row_held case.topology held name))
      → IfSome was (λ held. IfSome (row_in (cached held.rows) name) P)
  place-said P said = there-so (λ (held : HeldView). IfSome (row_in (cached held.rows) name) P) was place_held place-is
      (some-so P (row_in (cached place_held.rows) name)
      (λ row found. said-ready case desk all mid i name place_held lies ready (ready-at case desk all mid i name lies ready are) are P row found
      said))

  -- a refusal is by the lease that is held
  pub place-refused : {T : Type 0} (new : DeskView) (result : Result T DeskRefusal)
      → IfErr result (λ why. IfSome was (λ held. HasReason desk new held.lease why)) → IfErr result (IsRefusedOf desk new all i)
  place-refused new result refused =
      IfErr-weaker result (λ why. IfSome was (λ (held : HeldView). HasReason desk new held.lease why)) (IsRefusedOf desk new all i)
      (λ why reason. there-so (λ (held : HeldView). HasReason desk new held.lease why) (held_at all i) ready.held ready.was
      (so-there (λ (held : HeldView). HasReason desk new held.lease why) was place_held place-is reason)) refused

-- what is said where a write is refused is said where its answer refuses
err-as : (A : Type 0) (written : Result Written DeskRefusal) (result : Result ℕ DeskRefusal)
    → MatchResult written (λ (w : Written). result ≡ Ok w.commit) (λ why. result ≡ Err why) → OnErr result A → OnErr written A
err-as A (Ok w) result is said = tt
err-as A (Err why) result is said = subst (λ (r : Result ℕ DeskRefusal). OnErr r A) is said

-- what a write in place answers, as an answer with the row that is held then
as-written : (shape : Shape) (after : List (Option HeldView)) (i : ℕ) (name : RowName) (held : HeldView) (place : Option HeldView)
    (result : Result ℕ DeskRefusal) (IsWrite : Contents → Written → Type 0)
    → held_at after i ≡ place → IfOk result (λ commit. IsRewrittenAt name (λ row left. IsWrite row (answer_of commit left)) held place)
    → OnErr result (place ≡ Some held)
    → (written : Result Written DeskRefusal)
    × (MatchResult written (λ (w : Written). result ≡ Ok w.commit) (λ why. result ≡ Err why)
    × (MatchResult written (λ (w : Written). held_at after i ≡ Some (with_row name w.row held)) (λ _. held_at after i ≡ Some held)
    × IfOk written (IsWrite (row_held shape held name))))
as-written shape after i name held place (Ok n) IsWrite at put kept =
    let p = put.1.1 in
    let write : IsWrite (row_held shape held name) (answer_of n p.left) = subst (λ (r : Contents). IsWrite r (answer_of n p.left))
    (sym (ap (λ o. unwrap_or o (fresh (fresh_of shape name.part))) p.was)) p.write in
    (Ok (answer_of n p.left), (refl, (at ∙ put.1.0 ∙ ap Some p.is, write)))
as-written shape after i name held place (Err why) IsWrite at put kept = (Err why, (refl, (at ∙ kept, tt)))

module _ (case : CaseShape) (old new : DeskView) (all mid : List (Option HeldView)) (i : ℕ) (name : RowName)
    (lies : interval_of case.topology name ≡ Some i) (ready : IsReady case.topology i name all mid) (are : AreAllHeld case old all)
    (was : Option HeldView) (read : was ≡ get_or mid i was) (place : Option HeldView) (result : Result ℕ DeskRefusal)
    (IsEntry : LeaseView → Contents → Written → Type 0)
    (put : IfOk result (λ commit. IfSome was (λ (held : HeldView).
    IsRewrittenAt name (λ row left. IsEntry held.lease row (answer_of commit left)) held place)))
    (kept : OnErr result (place ≡ was)) where
  -- what was held has the row cached, as it was
  abbrev pub put_held : HeldView
  put_held = with_cached case.topology name ready.held

  -- what is held once the place is written
  abbrev pub put_all : List (Option HeldView)
  put_all = slice_set mid i place

  -- it was held in the place
  put_held-is : was ≡ Some put_held
  put_held-is = place-is case old all mid i name lies ready are was read

  -- and of the interval
  put_held-at : held_at mid i ≡ Some put_held
  put_held-at = ready-at case old all mid i name lies ready are

  -- of every other interval the same is held
  put_all-others : KeepsOthers i mid put_all
  put_all-others = held-others mid i place

  -- the answer with the row that is held then
  answered : (written : Result Written DeskRefusal)
      × (MatchResult written (λ (w : Written). result ≡ Ok w.commit) (λ why. result ≡ Err why)
      × (MatchResult written (λ (w : Written). held_at put_all i ≡ Some (with_row name w.row put_held)) (λ _. held_at put_all i ≡ Some put_held)
      × IfOk written (IsEntry ready.held.lease (row_held case.topology put_held name))))
  answered = as-written case.topology put_all i name put_held place result (IsEntry ready.held.lease)
      (held-here mid i place (ready-within case old all mid i name lies ready are))
      (subst (λ (o : Option HeldView). IfOk result (λ commit. IfSome o (λ (held : HeldView).
      IsRewrittenAt name (λ row left. IsEntry held.lease row (answer_of commit left)) held place))) put_held-is put)
      (subst (λ (o : Option HeldView). OnErr result (place ≡ o)) put_held-is kept)

  -- what is held then
  answered-here : IfSome (held_at mid i) (λ held. MatchResult answered.0
      (λ (w : Written). held_at put_all i ≡ Some (with_row name w.row held)) (λ _. held_at put_all i ≡ Some held))
  answered-here = there-so (λ (held : HeldView). MatchResult answered.0
      (λ (w : Written). held_at put_all i ≡ Some (with_row name w.row held)) (λ _. held_at put_all i ≡ Some held))
      (held_at mid i) put_held put_held-at answered.1.1.0

  -- all that is held fits
  pub AreAllHeld-put : old.case ≡ case → IsSound old → IsSound new
      → ((w : Written) → IsEntry ready.held.lease (row_held case.topology put_held name) w → HasEntered old new ready.held.lease name w)
      → OnErr result (HasLooked old new) → AreAllHeld case new put_all
  AreAllHeld-put same sound now enters looked =
      AreAllHeld-kept case old new all mid put_all i name put_held lies ready put_held-at are put_all-others ready.held.lease refl
      same sound now answered.0 answered-here
      (ok-so (IsEntry ready.held.lease (row_held case.topology put_held name)) (HasEntered old new ready.held.lease name) answered.0 enters
      answered.1.1.1)
      (err-as (HasLooked old new) answered.0 result answered.1.0 looked)

  -- a refused write keeps what is held
  pub KeepsHeld-put : OnErr result (KeepsHeld case.topology all put_all)
  KeepsHeld-put = KeepsHeld-refused case old new all mid put_all i name put_held lies ready put_held-at are put_all-others
      ready.held.lease refl answered.0 result answered.1.0 answered-here

  -- an accepted write is held
  pub HoldsEntry-put : IfOk result (λ commit. HoldsEntry case.topology i name commit IsEntry all put_all)
  HoldsEntry-put = HoldsEntry-written case old new all mid put_all i name put_held lies ready put_held-at are put_all-others
      ready.held.lease refl IsEntry (row_held case.topology put_held name) answered.0 result answered.1.0 answered-here refl answered.1.1.1
