-- A drain that is done turn by turn.
use Rattle.std.proofs.Common.{◌≡◌, ℕ, ◌+◌, ◌-◌, ◌<◌, ◌≤◌, Bool, true, false, List, length, inl, inr, refl, sym, ◌∙◌, ap, subst, arith}
use Rattle.std.specs.Prelude.{Option, Some, None, IfSome}
use Rattle.std.specs.Option.{is_some}
use Rattle.list_lemmas.proofs.Told.{if-there}
use Rattle.std.proofs.lemmas.List.{length_push}
use Rattle.mw_types.specs.declared.entry.Entry.{Entry}
use Rattle.mw_types.specs.declared.entry.Entry.TheVariants as entries
use Rattle.topology.specs.Rules.{interval_count}
use Rattle.run_history.specs.Cases.{CaseShape}
use Rattle.book.specs.Books.{BookView, core_of}
use Rattle.book.specs.Lawful.{IsLawful}
use Rattle.book.specs.OwnDesks.{own_view}
use Rattle.node.specs.Fits.{Fits}
use Rattle.node.specs.declared.outcome.NodeFault.{NodeFault}
use Rattle.node.specs.declared.outcome.NodeFault.TheVariants as faults
use Rattle.world.specs.drains.Drains.{HasClaimedAll, HasEnded, IsDraining, IsNextEntry}
use Rattle.world.specs.drains.Turns.{HasStepped, HasTaken, HasTurned, HasFailed, IsAtWork, IsClaiming, IsFullUnended, IsNextIn, WhereTold, with_own}
use Rattle.world.specs.drains.DrainTurns.{DrainView, IsPastClaims, IsUnderWay, HasDrained, IsAtClaim, IsFullBefore, IsGoingOn}
use Rattle.world.proofs.GoLaws.{claims-first, claims-on, claims-all, gone-not, gone-step}
use Rattle.world.proofs.WholeDrains.{draining-first, draining-push}

-- ---- where a drain is

-- a drain that was begun
pub under_way-first : (book : BookView) (drain : DrainView) → drain.from ≡ length book.history → Fits book.case (own_view book) drain.node
    → drain.node.prepared ≡ None → drain.node.number ≡ 0 → IsUnderWay book drain
under_way-first book drain from fits free first = inl (record {
  start = book;
  count = 0;
  from = from;
  most = omega arith;
  claiming = claims-first book drain.node fits free first;
})

-- while fewer entries came since than there are intervals, so many are claimed
pub under_way-claim : (book : BookView) (drain : DrainView) (claimed : ℕ) → IsUnderWay book drain → claimed ≡ length book.history - drain.from
    → claimed < interval_count book.case.topology → IsAtClaim book drain claimed
under_way-claim book drain claimed (inl is) so_many less =
    let from = is.from in
    let next = is.claiming.next in
    let same : is.count ≡ claimed = omega (arith, from, next, so_many) in record {
      start = is.start;
      from = is.from;
      less = less;
      claiming = subst (IsClaiming is.start book drain.node) same is.claiming;
    }
under_way-claim book drain claimed (inr is) so_many less =
    absurd (let all = is.claimed in omega (arith, all, so_many, less))

-- else all are
pub under_way-past : (book : BookView) (drain : DrainView) (claimed : ℕ) → IsUnderWay book drain → claimed ≡ length book.history - drain.from
    → (claimed < interval_count book.case.topology → ⊥) → IsPastClaims book drain
under_way-past book drain claimed (inl is) so_many not_less =
    let from = is.from in
    let next = is.claiming.next in
    let most = is.most in
    let all : is.count ≡ interval_count book.case.topology = omega (arith, from, next, most, so_many, not_less) in
    let both = claims-all is.start book drain.node is.count
    (all ∙ ap (λ (c : CaseShape). interval_count c.topology) is.claiming.gone.case) is.claiming in record {
      at_work = both.0;
      claimed = subst (λ n. HasClaimedAll book.case n book.history) (sym is.from)
          (subst (λ (c : CaseShape). HasClaimedAll c (length is.start.history) book.history) (sym is.claiming.gone.case) both.1);
    }
under_way-past book drain claimed (inr is) so_many not_less = is

-- ---- a claim

-- a claim is the drain's next entry
pub claim-drained : (old new : BookView) (was drain : DrainView) (interval : ℕ) → IsAtClaim old was interval
    → HasTaken old new interval was.node drain.node → HasDrained was.from old new true
claim-drained old new was drain interval at taken = record {
  own = Some (entries.Claim was.node.number interval);
  stepped = taken.stepped;
  is_more = refl;
  next = λ told. record {
    first_worker = at.claiming.first_worker;
    there = at.less;
    next = at.claiming.next ∙ ap (λ n. n + interval) (sym at.from);
  };
}

-- and after it the drain is under way
pub claim-under_way : (old new : BookView) (was drain : DrainView) (interval : ℕ) → IsAtClaim old was interval
    → HasTaken old new interval was.node drain.node → drain.from ≡ was.from → IsUnderWay new drain
claim-under_way old new was drain interval at taken same = inl (record {
  start = at.start;
  count = interval + 1;
  from = same ∙ at.from;
  most = let less = at.less in
      let kept : interval_count new.case.topology ≡ interval_count old.case.topology =
      ap (λ (c : CaseShape). interval_count c.topology) taken.stepped.case in omega (arith, less, kept);
  claiming = claims-on at.start old new was.node drain.node interval at.claiming at.less taken;
})

-- before all claims a drain has not ended
pub claim-unended : (old : BookView) (was : DrainView) (interval : ℕ) (why : NodeFault) → IsAtClaim old was interval → IsFullBefore was.from old why
claim-unended old was interval why at = λ full told ended.
    let claimed = ended.earlier.earlier.earlier.claimed in
    let from = at.from in
    let next = at.claiming.next in
    let less = at.less in omega (arith, claimed, from, next, less)

-- ---- a turn

-- a turn appends the drain's next entry
pub turn-drained : (old new : BookView) (was : DrainView) (more : Bool) → IsPastClaims old was → HasTurned old new more
    → HasDrained was.from old new more
turn-drained old new was more past turned = record {
  own = turned.own;
  stepped = turned.stepped;
  is_more = turned.is_more;
  next = λ told. by_own turned.own (turned.next told);
}
  where
    by_own : (own : Option Entry) → IfSome own (IsNextIn old.case old.history) → IfSome own (IsNextEntry old.case was.from old.history)
    by_own None next = tt
    by_own (Some entry) next = next was.from past.claimed

-- and after it the drain is under way
pub turn-under_way : (old new : BookView) (was drain : DrainView) (more : Bool) → IsPastClaims old was → HasTurned old new more
    → drain.from ≡ was.from → IsAtWork new drain.node → IsUnderWay new drain
turn-under_way old new was drain more past turned same at = inr (record {
  at_work = at;
  claimed = subst (λ n. HasClaimedAll new.case n new.history) (sym same)
      (subst (λ (c : CaseShape). HasClaimedAll c was.from new.history) (sym turned.stepped.case)
      (let claimed = past.claimed in let longer = not_shorter turned.own turned.stepped.appended in omega (arith, claimed, longer)));
})
  where
    not_shorter : (own : Option Entry) → new.history ≡ with_own own old.history → length old.history ≤ length new.history
    not_shorter None is = let same : length new.history ≡ length old.history = ap length is in omega (arith, same)
    not_shorter (Some entry) is =
        let more : length new.history ≡ length old.history + 1 = ap length is ∙ length_push old.history entry in omega (arith, more)

-- a fault since the history is full comes before the end
pub turn-unended : (old : BookView) (was : DrainView) (why : NodeFault) → IsFullUnended old why → IsFullBefore was.from old why
turn-unended old was why unended = λ full told ended. unended full told was.from ended

-- one that wrote an entry brings the history nearer to its limit
pub drained-nearer : (old new : BookView) (from : ℕ) (more : Bool) → HasDrained from old new more → IsLawful new.case (core_of new)
    → more ≡ true → new.limit - length new.history < old.limit - length old.history
drained-nearer old new from more drained lawful is = by_own drained.own (drained.is_more ∙ is) drained.stepped
  where
    by_own : (own : Option Entry) → is_some own ≡ true → HasStepped old new own
        → new.limit - length new.history < old.limit - length old.history
    by_own None some stepped = absurd (cc)
    by_own (Some entry) some stepped =
        let long : length new.history ≡ length old.history + 1 = ap length stepped.appended ∙ length_push old.history entry in
        let same = stepped.limit in
        let few = lawful.few in omega (arith, long, same, few)

-- ---- a whole drain

-- a drain that is under way goes on
pub going-first : (book : BookView) (drain : DrainView) → IsUnderWay book drain → IsGoingOn book book drain.from drain
going-first book drain under =
    record { gone = gone-not book; under_way = under; same = refl; goes = λ told draining. draining }

-- by its next entry
pub going-on : (start old new : BookView) (from : ℕ) (was drain : DrainView) (more : Bool) → IsGoingOn start old from was
    → HasDrained was.from old new more → IsUnderWay new drain → drain.from ≡ was.from → IsGoingOn start new from drain
going-on start old new from was drain more on drained under same = record {
  gone = gone-step start old new drained.own on.gone drained.stepped;
  under_way = under;
  same = same ∙ on.same;
  goes = λ told draining.
      subst (IsDraining start.case from) (sym drained.stepped.appended)
      (by_own drained.own (drained.next (on.gone.tells ∙ told)) (on.goes told draining));
}
  where
    by_own : (own : Option Entry) → IfSome own (IsNextEntry old.case was.from old.history)
        → IsDraining start.case from old.history → IsDraining start.case from (with_own own old.history)
    by_own None next draining = draining
    by_own (Some entry) next draining =
        draining-push start.case from old.history entry draining
        (subst (λ (c : CaseShape). IsNextEntry c from old.history entry) on.gone.case
        (subst (λ n. IsNextEntry old.case n old.history entry) on.same next))

-- until a turn writes nothing
pub going-ended : (start old new : BookView) (from : ℕ) (was : DrainView) → IsGoingOn start old from was
    → HasDrained was.from old new false → WhereTold old (HasEnded old.case was.from old.history)
    → WhereTold start (HasEnded start.case from new.history)
going-ended start old new from was on drained ended = λ told.
    subst (HasEnded start.case from) (sym (by_own drained.own drained.is_more drained.stepped))
    (subst (λ (c : CaseShape). HasEnded c from old.history) on.gone.case
    (subst (λ n. HasEnded old.case n old.history) on.same (ended (on.gone.tells ∙ told))))
  where
    by_own : (own : Option Entry) → is_some own ≡ false → HasStepped old new own → new.history ≡ old.history
    by_own None none stepped = stepped.appended
    by_own (Some entry) none stepped = absurd (cc)

-- a turn that failed has left the drain where it was
pub going-failed : (start old new : BookView) (from : ℕ) (was : DrainView) (why : NodeFault) → IsGoingOn start old from was
    → HasFailed old new why → WhereTold start (IsDraining start.case from start.history → IsDraining start.case from new.history)
going-failed start old new from was why on failed = λ told draining.
    subst (IsDraining start.case from) (sym failed.stepped.appended) (on.goes told draining)

-- before its end, where the history is full
pub going-full : (start old new : BookView) (from : ℕ) (was : DrainView) (why : NodeFault) → IsGoingOn start old from was
    → HasFailed old new why → IsFullBefore was.from old why → why ≡ faults.HistoryFull
    → WhereTold start (HasEnded start.case from new.history → ⊥)
going-full start old new from was why on failed unended full = λ told.
    subst (λ (h : List Entry). HasEnded start.case from h → ⊥) (sym failed.stepped.appended)
    (subst (λ (c : CaseShape). HasEnded c from old.history → ⊥) on.gone.case
    (subst (λ n. HasEnded old.case n old.history → ⊥) on.same (unended full (on.gone.tells ∙ told))))

-- a drain from a book on is one from its length on
pub whole-draining : (old new : BookView) (from : ℕ) → from ≡ length old.history
    → WhereTold old (IsDraining old.case from old.history → IsDraining old.case from new.history)
    → IfSome old.rows (λ _. IsDraining old.case (length old.history) new.history)
whole-draining old new from same goes = if-there old.rows (λ told.
    subst (λ n. IsDraining old.case n new.history) same
    (goes told (subst (λ n. IsDraining old.case n old.history) (sym same) (draining-first old.case old.history))))

-- so is its end
pub whole-ended : (old new : BookView) (from : ℕ) → from ≡ length old.history → WhereTold old (HasEnded old.case from new.history)
    → IfSome old.rows (λ _. HasEnded old.case (length old.history) new.history)
whole-ended old new from same ended = if-there old.rows (λ told. subst (λ n. HasEnded old.case n new.history) same (ended told))

-- and that it has not come
pub whole-unended : (old new : BookView) (from : ℕ) → from ≡ length old.history → WhereTold old (HasEnded old.case from new.history → ⊥)
    → IfSome old.rows (λ _. HasEnded old.case (length old.history) new.history → ⊥)
whole-unended old new from same unended =
    if-there old.rows (λ told. subst (λ n. HasEnded old.case n new.history → ⊥) same (unended told))
