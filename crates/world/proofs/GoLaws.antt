-- How a drain goes on: turns one after another, and what holds once each interval is claimed.
use Rattle.std.proofs.Common.{◌≡◌, ◌<◌, ◌≤◌, ◌+◌, ◌⊎◌, ℕ, Bool, true, false, not, cond, List, [], ◌∷◌, length, refl, sym, ◌∙◌, ap, subst, arith, inl, inr}
use Rattle.std.specs.Prelude.{Option, Some, None, IsSome, IfSome, ◌==◌}
use Rattle.std.specs.Option.{is_some}
use Rattle.std.proofs.lemmas.Bool.{cases_lt, le-ltb}
use Rattle.std.proofs.lemmas.List.{length_push}
use Rattle.mw_types.specs.declared.entry.Entry.{Entry}
use Rattle.mw_types.specs.declared.entry.Entry.TheVariants as entries
use Rattle.topology.specs.Rules.{interval_count}
use Rattle.topology.specs.Shapes.{injectors_of, parts_of}
use Rattle.run_history.specs.Cases.{CaseShape}
use Rattle.run_history.specs.Fences.{Begins, last_claim}
use Rattle.run_history.specs.Runs.{run_of}
use Rattle.run_history.specs.Watermarks.{least, low_watermark}
use Rattle.run_history.proofs.Beginnings.{Begins-itself, Begins-trans}
use Rattle.run_history.proofs.Claims.{last_claim-push}
use Rattle.watermark.specs.Marks.{marks_of}
use Rattle.book.specs.Books.{BookView, core_of}
use Rattle.book.specs.Lawful.{IsLawful}
use Rattle.book.specs.Marks.{AreSafe}
use Rattle.book.specs.OwnDesks.{own_view}
use Rattle.node.specs.Fits.{Fits}
use Rattle.node.specs.Workers.{NodeView, Worker, goes_into, leases_of, where_passes}
use Rattle.node.specs.declared.outcome.NodeFault.{NodeFault}
use Rattle.world.specs.drains.Drains.{HasClaimedAll, IsDraining}
use Rattle.world.specs.drains.ReportRounds.{marks_after_round}
use Rattle.world.specs.drains.Turns.{AreExact, HasFailed, HasFirst, HasGone, HasLast, HasStepped, HasTaken, HasTurned, IsAtWork, IsClaiming, IsNextIn, IsSettled, with_own}
use Rattle.world.proofs.drains.RoundLaws.{round-low}
use Rattle.world.proofs.drains.LawfulRows.{lawful-rows}
use Rattle.world.proofs.drains.TurnLaws.{free-of, held-leased, lease-held, sending-none, stepped-on}
use Rattle.world.proofs.WholeDrains.{draining-first, draining-push}

-- ---- a step in which nothing was appended

-- the keeper tells as it did
pub told-on : (old new : BookView) (own : Option Entry) → HasStepped old new own → IsSome old.rows → IsSome new.rows
told-on old new own stepped told = stepped.tells ∙ told

-- what holds of the case and the history holds as before
pub fact-on : (Fact : CaseShape → List Entry → Type 0) (old new : BookView) → HasStepped old new None → Fact old.case old.history
    → Fact new.case new.history
fact-on Fact old new stepped fact = subst (λ (c : CaseShape). Fact c new.history) (sym stepped.case)
    (subst (Fact old.case) (sym stepped.appended) fact)

-- and held before
pub fact-back : (Fact : CaseShape → List Entry → Type 0) (old new : BookView) → HasStepped old new None → Fact new.case new.history
    → Fact old.case old.history
fact-back Fact old new stepped fact = subst (λ (c : CaseShape). Fact c old.history) stepped.case
    (subst (Fact new.case) stepped.appended fact)

-- a turn after it is a turn of the whole
pub turned-on : (one two three : BookView) (more : Bool) → HasStepped one two None → HasTurned two three more → HasTurned one three more
turned-on one two three more first turned = record {
  own = turned.own;
  stepped = stepped-on one two three turned.own first turned.stepped;
  is_more = turned.is_more;
  next = λ told. fact-back (λ (c : CaseShape) (h : List Entry). IfSome turned.own (IsNextIn c h)) one two first
      (turned.next (told-on one two None first told));
}

-- a fault after it is a fault of the whole
pub failed-on : (one two three : BookView) (why : NodeFault) → HasStepped one two None → HasFailed two three why → HasFailed one three why
failed-on one two three why first failed = record {
  stepped = stepped-on one two three None first failed.stepped;
  keeper = λ e. let rose = failed.keeper e in let later = first.faults in omega (arith, rose, later);
  full = failed.full;
  damaged = failed.damaged;
}

-- a turn that wrote nothing
pub stayed-turn : (old new : BookView) → HasTurned old new false → HasStepped old new None
stayed-turn old new turned = by_own turned.own turned.is_more turned.stepped
  where
    by_own : (own : Option Entry) → is_some own ≡ false → HasStepped old new own → HasStepped old new None
    by_own None none stepped = stepped
    by_own (Some entry) none stepped = absurd (cc)

-- a step that wrote nothing is a turn
pub turned-stayed : (old new : BookView) → HasStepped old new None → HasTurned old new false
turned-stayed old new stepped = record { own = None; stepped = stepped; is_more = refl; next = λ told. tt }

-- ---- a drain

-- nothing has happened yet
pub gone-not : (book : BookView) → HasGone book book
gone-not book = record { case = refl; limit = refl; tells = refl; faults = omega arith; grown = Begins-itself book.history }

-- a step more
pub gone-step : (start old new : BookView) (own : Option Entry) → HasGone start old → HasStepped old new own → HasGone start new
gone-step start old new own gone stepped = record {
  case = stepped.case ∙ gone.case;
  limit = stepped.limit ∙ gone.limit;
  tells = stepped.tells ∙ gone.tells;
  faults = let f = gone.faults in let s = stepped.faults in omega (arith, f, s);
  grown = Begins-trans start.history old.history new.history gone.grown
      (subst (Begins old.history) (sym stepped.appended) (longer own old.history));
}
  where
    longer : (o : Option Entry) (h : List Entry) → Begins h (with_own o h)
    longer None h = Begins-itself h
    longer (Some entry) h = (entry ∷ [], refl)

-- ---- the claims

-- a drain that has claimed nothing
pub claims-first : (book : BookView) (node : NodeView) → Fits book.case (own_view book) node → node.prepared ≡ None → node.number ≡ 0
    → IsClaiming book book node 0
claims-first book node fits free first = record {
  gone = gone-not book;
  fits = fits;
  free = free;
  first_worker = first;
  first = λ interval less. absurd (omega (arith, less));
  next = omega arith;
  draining = draining-first book.case book.history;
}

-- a claim more
pub claims-on : (start old new : BookView) (was node : NodeView) (interval : ℕ) → IsClaiming start old was interval
    → interval < interval_count old.case.topology → HasTaken old new interval was node → IsClaiming start new node (interval + 1)
claims-on start old new was node interval on less taken = record {
  gone = gone-step start old new (Some (entries.Claim was.number interval)) on.gone taken.stepped;
  fits = taken.fits;
  free = free-of new.case (own_view new) node taken.fits
      (ap (λ (w : Worker). w.prepared) taken.left
      ∙ ap (λ o. where_passes (λ sending. not (goes_into old.case.topology interval sending)) o) (sending-none was on.free));
  first_worker = taken.number ∙ on.first_worker;
  first = λ other below. by_place other below (cases_lt other interval);
  next =
      let long : length new.history ≡ length old.history + 1 =
      ap length taken.stepped.appended ∙ length_push old.history (entries.Claim was.number interval) in
      let next = on.next in omega (arith, long, next);
  draining = subst (IsDraining start.case (length start.history)) (sym taken.stepped.appended)
      (draining-push start.case (length start.history) old.history (entries.Claim was.number interval) on.draining (record {
        first_worker = on.first_worker;
        there = subst (λ (c : CaseShape). interval < interval_count c.topology) on.gone.case less;
        next = on.next;
      }));
}
  where
    claim : Entry
    claim = entries.Claim was.number interval

    -- the lease of an interval is the new one, or as before
    lease : (other : ℕ) → leases_of node.held other ≡ cond (other == interval) (Some (length old.history)) (leases_of was.held other)
    lease other = ap (λ (w : Worker). w.leases other) taken.left

    -- the last claim of an interval is the new one, or as before
    last : (other : ℕ) → last_claim other new.history ≡ cond (interval == other) (Some (length old.history)) (last_claim other old.history)
    last other = ap (last_claim other) taken.stepped.appended ∙ last_claim-push other old.history claim

    by_place : (other : ℕ) → other < interval + 1 → (other < interval) ⊎ (interval ≤ other) → HasLast new.history node.held other
    by_place other below (inl less) =
        let here = on.first other less in
        let apart : (other == interval) ≡ false = grind (arith, less) in
        let apart_too : (interval == other) ≡ false = grind (arith, less) in
        let held = held-leased node.held other here.held.lease.seq (lease other
        ∙ ap (λ b. cond b (Some (length old.history)) (leases_of was.held other)) apart ∙ lease-held was.held other here.held here.there) in
        record {
          held = held.0;
          there = held.1;
          last = last other ∙ ap (λ b. cond b (Some (length old.history)) (last_claim other old.history)) apart_too ∙ here.last
              ∙ ap Some (sym held.2);
        }
    by_place other below (inr ge) =
        let same : (other == interval) ≡ true = grind (arith, below, ge) in
        let same_too : (interval == other) ≡ true = grind (arith, below, ge) in
        let held = held-leased node.held other (length old.history) (lease other
        ∙ ap (λ b. cond b (Some (length old.history)) (leases_of was.held other)) same) in
        record {
          held = held.0;
          there = held.1;
          last = last other ∙ ap (λ b. cond b (Some (length old.history)) (last_claim other old.history)) same_too
              ∙ ap Some (sym held.2);
        }

-- all intervals are claimed
pub claims-all : (start book : BookView) (node : NodeView) (count : ℕ) → count ≡ interval_count start.case.topology
    → IsClaiming start book node count → IsAtWork book node × HasClaimedAll start.case (length start.history) book.history
claims-all start book node count all on = (
  record {
    fits = on.fits;
    free = on.free;
    each = subst (HasFirst book.history node.held) (all ∙ ap (λ (c : CaseShape). interval_count c.topology) (sym on.gone.case)) on.first;
  },
  let next = on.next in omega (arith, next, all),
)

-- ---- marks

-- the least mark of each computation, by a case, a history and marks
abbrev ExactOf : CaseShape → List Entry → List ℕ → Type 0
ExactOf case history marks = (part : ℕ) → injectors_of case.topology ≤ part → part < parts_of case.topology
    → least (marks_of case.topology part marks) ≡ low_watermark case (run_of case.topology history) part

-- after a round the marks are exact
pub round-exact : (old new : BookView) → IsLawful old.case (core_of old) → IsSome old.rows → IsSettled old.case old.history
    → HasStepped old new None → new.marks ≡ marks_after_round old.case (run_of old.case.topology old.history) old.marks → AreExact new
round-exact old new lawful told settled stepped after =
    fact-on (λ (c : CaseShape) (h : List Entry). ExactOf c h new.marks) old new stepped
    (subst (ExactOf old.case old.history) (sym after)
    (λ part computation there. round-low old.case old.history old.marks part lawful.runnable
    (lawful-rows old.case old.history old.rows told lawful.held).0 settled lawful.marks (safe old.rows told lawful.safe)
    (le-ltb part (injectors_of old.case.topology) computation) there))
  where
    safe : {X : Type 0} (o : Option X) → IsSome o → IfSome o (λ _. AreSafe old.case (run_of old.case.topology old.history) old.marks)
        → AreSafe old.case (run_of old.case.topology old.history) old.marks
    safe None there is = absurd (cc)
    safe (Some x) there is = is
