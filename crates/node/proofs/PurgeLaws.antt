-- What a node leaves when a row that it holds forgets ids.
use Rattle.std.proofs.Common.{◌≡◌, ◌∙◌, ◌≤◌, ℕ, List, [], ◌++◌, length, refl, sym, ap, subst, arith, inr}
use Rattle.std.specs.Prelude.{IfErr, IfOk, IfSome, IsSome, Option, Some, None, Result, Ok, Err, unwrap_or}
use Rattle.std.specs.Option.{option_and_then}
use Rattle.std.proofs.lemmas.List.{append-nil}
use Rattle.mw_types.specs.declared.entry.Entry.{Entry}
use Rattle.mw_types.specs.declared.entry.Entry.TheVariants as entries
use Rattle.mw_types.specs.declared.identity.RowName.{RowName}
use Rattle.topology.specs.Shapes.{Shape}
use Rattle.row_parts.specs.Contents.{Contents, fresh}
use Rattle.run_history.specs.Cases.{CaseShape, fresh_of}
use Rattle.run_history.specs.Fences.{interval_of, known}
use Rattle.run_history.specs.Legal.{floor_of}
use Rattle.run_history.specs.Runs.{row_in, row_of, run_of, written_row}
use Rattle.run_history.proofs.Known.{known-begins}
use Rattle.history_laws.proofs.StayLaws.{row-stays}
use Rattle.book.specs.Books.{LeaseView}
use Rattle.book.specs.Desking.{HasStored, IsPurgeKnown}
use Rattle.book.specs.Desks.{DeskView, HasLooked, IsSound}
use Rattle.book.specs.declared.answers.Written.{Written}
use Rattle.book.proofs.SeenRows.{told-then}
use Rattle.holdings.specs.Holding.{AreAllHeld, HeldView, HoldsEntry, held_at, held_on, row_held}
use Rattle.node.specs.Answers.{AnswersForget, AnswersSome, AnswersWrite, FailsAsked, FailsForget, HasGrown, IsFloorKnown}
use Rattle.node.specs.Asking.{HasToForget, MayAskForget, Request, forgetting}
use Rattle.node.specs.Fits.{Fits, IsWork}
use Rattle.node.specs.Workers.{NodeView, WorkView, worker_at}
use Rattle.node.specs.declared.outcome.NodeFault.{NodeFault}
use Rattle.node.specs.declared.outcome.Outcome.{Outcome}
use Rattle.node.specs.declared.outcome.Outcome.TheVariants as outcomes
use Rattle.node.specs.PurgeSteps.{CanForget}
use Rattle.node.proofs.FitLaws.{HasMore, more-appended, outbox-more}
use Rattle.node.proofs.LookLaws.{answers-later, err-fails, fault-later}

-- ---- a row that is there

-- what is held of an interval, by a row of it
pub held-at-on : (shape : Shape) (all : List (Option HeldView)) (name : RowName) (interval : ℕ) (held : HeldView)
    → held_on shape all name ≡ Some held → interval_of shape name ≡ Some interval → held_at all interval ≡ Some held
held-at-on shape all name interval held there covers = sym (ap (option_and_then (held_at all)) covers) ∙ there

-- what is held of the interval of a row
pub held-on-at : (shape : Shape) (all : List (Option HeldView)) (name : RowName) (interval : ℕ) (held : HeldView)
    → interval_of shape name ≡ Some interval → held_at all interval ≡ Some held → held_on shape all name ≡ Some held
held-on-at shape all name interval held covers at = ap (option_and_then (held_at all)) covers ∙ at

-- a row that has an id is there
has-row : (row : Option Contents) (new : Contents) → length new.seen ≡ 0 → 1 ≤ length (unwrap_or row new).seen → IsSome row
has-row None new none some = absurd (omega (arith, none, some))
has-row (Some row) new none some = refl

-- a row that is held and has an id is there
pub held-there : (case : CaseShape) (desk : DeskView) (all : List (Option HeldView)) (interval : ℕ) (held : HeldView) (name : RowName)
    → AreAllHeld case desk all → desk.case ≡ case → held_at all interval ≡ Some held → interval_of case.topology name ≡ Some interval
    → 1 ≤ length (row_held case.topology held name).seen
    → IfSome desk.told (λ _. IsSome (row_in (run_of desk.case.topology desk.seen) name))
held-there case desk all interval held name fit same at covers some =
    let shape = case.topology in
    let here = fit.each interval held at in
    let i = held.lease.interval in
    told-then desk.told
    (λ _. (n : RowName) → interval_of shape n ≡ Some i → row_held shape held n ≡ row_of shape (run_of shape
    (known i held.lease.seq desk.seen)) n)
    (λ _. IsSome (row_in (run_of desk.case.topology desk.seen) name)) here.rows.known (λ x is.
    let front = known i held.lease.seq desk.seen in
    let begins = known-begins i held.lease.seq desk.seen in
    let row = is name (covers ∙ sym (ap Some here.of_interval)) in
    let in_front = has-row (row_in (run_of shape front) name) (fresh (fresh_of shape name.part)) refl
    (subst (λ (r : Contents). 1 ≤ length r.seen) row some) in
    subst (λ (c : CaseShape). IsSome (row_in (run_of c.topology desk.seen) name)) (sym same)
    (subst (λ (h : List Entry). IsSome (row_in (run_of shape h) name)) begins.1
    (row-stays shape front begins.0 name in_front)))

-- a row that has ids to forget may be purged
pub may-purge : (case : CaseShape) (desk : DeskView) (all : List (Option HeldView)) (interval : ℕ) (held : HeldView) (name : RowName)
    (least floor : ℕ) → AreAllHeld case desk all → desk.case ≡ case → held_at all interval ≡ Some held
    → interval_of case.topology name ≡ Some interval → HasToForget case.topology held least floor name → floor ≤ desk.floor
    → IsPurgeKnown desk name (row_held case.topology held name) floor
may-purge case desk all interval held name least floor fit same at covers forgets low = record {
  rises = forgets.rises;
  known = low;
  there = held-there case desk all interval held name fit same at covers (omega (arith, forgets.many));
}

-- ---- a purge that stands

-- a node that holds this, and has prepared nothing
abbrev pub holding : List (Option HeldView) → NodeView → NodeView
holding held node = record node { held = held }

-- it fits
pub Fits-holding : (case : CaseShape) (old new : DeskView) (node : NodeView) (held : List (Option HeldView)) → HasMore old new
    → AreAllHeld case new held → node.prepared ≡ None → Fits case old node → Fits case new (holding held node)
Fits-holding case old new node held more fit free fits = record {
  of_case = more.case ∙ fits.of_case;
  held = fit;
  work = subst (λ (o : Option WorkView). IfSome o (IsWork case new held)) (sym free) tt;
  outbox = outbox-more case old new node.outbox more fits.outbox;
}

-- a purge of a row that is held, as the desk answered it
abbrev pub HoldsPurge : Shape → DeskView → DeskView → ℕ → RowName → ℕ → ℕ → List (Option HeldView) → List (Option HeldView) → Type 0
HoldsPurge shape old new interval name floor commit before after = HoldsEntry shape interval name commit
    (λ (lease : LeaseView) (row : Contents) (answer : Written). HasStored old new lease name (entries.Purge lease.seq name floor) row
    (λ (number : ℕ). written_row number (entries.Purge lease.seq name floor) [] row) answer) before after

-- the node fits
pub Fits-purged : (case : CaseShape) (old new : DeskView) (node : NodeView) (interval : ℕ) (name : RowName) (floor commit : ℕ)
    (held : List (Option HeldView)) → HoldsPurge case.topology old new interval name floor commit node.held held → AreAllHeld case new held
    → node.prepared ≡ None → Fits case old node → Fits case new (holding held node)
Fits-purged case old new node interval name floor commit held h fit free fits =
    Fits-holding case old new node held
    (more-appended old new h.entry.before (entries.Purge h.held.lease.seq name floor) h.entry.moved h.entry.written.appended) fit free fits

-- a row that a node may have forget may be purged
pub forget-floor : (case : CaseShape) (desk : DeskView) (node : NodeView) (interval : ℕ) (name : RowName) (floor : ℕ)
    → Fits case desk node → CanForget case.topology node 0 floor name → interval_of case.topology name ≡ Some interval → floor ≤ desk.floor
    → IfSome (held_at node.held interval) (λ held. IsPurgeKnown desk name (row_held case.topology held name) floor)
forget-floor case desk node interval name floor fits may covers low =
    let m = may.1 in
    let at = held-at-on case.topology node.held name interval m.held m.there covers in
    subst (λ (o : Option HeldView). IfSome o (λ held. IsPurgeKnown desk name (row_held case.topology held name) floor)) (sym at)
    (may-purge case desk node.held interval m.held name 0 floor fits.held fits.of_case at covers m.forgets low)

-- ---- a call that asks for some entry

-- what was asked was one for which the node may ask
pub answers-some : (shape : Shape) (old new : DeskView) (MayAsk : Request → Type 0) (asked : Request) (was node : NodeView)
    (outcome : Outcome) → MayAsk asked → AnswersWrite shape old new asked (worker_at was) was node outcome
    → AnswersSome shape old new MayAsk was node outcome
answers-some shape old new MayAsk asked was node (outcomes.Committed commit) may is = (asked, may, is)
answers-some shape old new MayAsk asked was node (outcomes.Stale newer) may is = (asked, may, is)
answers-some shape old new MayAsk asked was node (outcomes.Busy found) may is = (asked, may, is)
answers-some shape old new MayAsk asked was node (outcomes.Claimed seq) may is = absurd is
answers-some shape old new MayAsk asked was node outcomes.Prepared may is = absurd is
answers-some shape old new MayAsk asked was node outcomes.Duplicate may is = absurd is
answers-some shape old new MayAsk asked was node outcomes.NotMine may is = absurd is
answers-some shape old new MayAsk asked was node (outcomes.Queued count) may is = absurd is
answers-some shape old new MayAsk asked was node (outcomes.Sent count) may is = absurd is
answers-some shape old new MayAsk asked was node (outcomes.Copied message) may is = absurd is
answers-some shape old new MayAsk asked was node outcomes.Lost may is = absurd is
answers-some shape old new MayAsk asked was node (outcomes.Marked mark) may is = absurd is
answers-some shape old new MayAsk asked was node outcomes.Crashed may is = absurd is
answers-some shape old new MayAsk asked was node outcomes.Nothing may is = absurd is

-- ---- under the known floor

-- a floor that the desk knew as it looked
pub floor-known : (old mid new : DeskView) (floor : ℕ) → IsSound old → IsSound mid → HasLooked old mid → floor ≡ mid.floor
    → mid.floor ≤ new.floor → IsFloorKnown old new floor
floor-known old mid new floor was is looked at later = record {
  at_least = omega (arith, at, looked.floor);
  at_most = omega (arith, at, later);
  same = λ alone. at ∙ is.own_floor (looked.alone ∙ alone)
      ∙ ap (λ (c : CaseShape). floor_of (run_of c.topology mid.seen)) looked.case
      ∙ ap (λ (h : List Entry). floor_of (run_of old.case.topology h))
      (looked.more ∙ ap (λ (h : List Entry). old.seen ++ h) (looked.none alone) ∙ append-nil old.seen)
      ∙ sym (was.own_floor alone);
}

-- of a result
pub ok-answers : (result : Result Outcome NodeFault) (P Q : Outcome → Type 0) → ((outcome : Outcome) → P outcome → Q outcome)
    → IfOk result P → IfOk result Q
ok-answers (Ok outcome) P Q step is = step outcome is
ok-answers (Err fault) P Q step is = tt

-- what a row that forgets answers, once the desk was asked for its floor
pub forget-answers : (case : CaseShape) (old mid new : DeskView) (was node : NodeView) (name : RowName) (least floor : ℕ)
    (result : Result Outcome NodeFault) → IsSound old → IsSound mid → HasLooked old mid → floor ≡ mid.floor → Fits case old was
    → HasGrown was.held mid new → CanForget case.topology was least floor name
    → ((held : HeldView) → held_on case.topology was.held name ≡ Some held
    → IfOk result (AnswersWrite case.topology mid new (forgetting held name floor) (worker_at was) was node))
    → IfOk result (AnswersForget case.topology old new name least was node)
forget-answers case old mid new was node name least floor result sound is looked at fits grown may answers =
    let m = may.1 in
    let asked = forgetting m.held name floor in
    let shape = case.topology in
    ok-answers result (AnswersWrite shape mid new asked (worker_at was) was node) (AnswersForget shape old new name least was node)
    (λ outcome a. record {
      floor = floor;
      known = floor-known old mid new floor sound is looked at grown.moved.floor;
      answers = answers-some shape old new (MayAskForget shape was least floor name) asked was node outcome
          (subst (MayAskForget shape was least floor name) m.request m)
          (answers-later shape old mid new asked (worker_at was) was node outcome looked a);
    }) (answers m.held m.there)

-- why a row did not forget
pub forget-fails : (case : CaseShape) (old mid new : DeskView) (was : NodeView) (name : RowName) (least floor : ℕ)
    (result : Result Outcome NodeFault) → IsSound old → IsSound mid → HasLooked old mid → floor ≡ mid.floor
    → HasGrown was.held mid new → CanForget case.topology was least floor name
    → ((held : HeldView) → held_on case.topology was.held name ≡ Some held
    → IfErr result (FailsAsked mid new (Some (forgetting held name floor))))
    → IfErr result (FailsForget case.topology old new name least was)
forget-fails case old mid new was name least floor result sound is looked at grown may fails =
    let m = may.1 in
    let asked = forgetting m.held name floor in
    let shape = case.topology in
    err-fails result (FailsAsked mid new (Some asked)) (FailsForget shape old new name least was)
    (λ fault f. record {
      floor = floor;
      known = floor-known old mid new floor sound is looked at grown.moved.floor;
      fails = fault-later old mid new (MayAskForget shape was least floor name) fault looked
          (inr (asked, subst (MayAskForget shape was least floor name) m.request m, f));
    }) (fails m.held m.there)
