-- Rounds without a plan: who holds the first claims, and what was injected under them.
use Rattle.std.proofs.Common.{inl, inr, ◌≡◌, ◌⊎◌, ◌<◌, ◌≤◌, ◌+◌, ℕ, List, [], length, sym, subst, ⊎_elim, arith}
use Rattle.std.specs.Prelude.{IfSome, None, Option, Some, false, min, slice_index_or}
use Rattle.row_keeper.specs.declared.keeper.Keeper.{Ghosts}
use Rattle.atomic_table.specs.Seated.{TableId}
use Rattle.list_lemmas.proofs.Told.{if-anyway}
use Rattle.mw_types.specs.declared.entry.Entry.{Entry}
use Rattle.mw_types.specs.declared.entry.Entry.TheVariants as entries
use Rattle.workers.specs.declared.mailbox.Mailbox.{Mailbox}
use Rattle.topology.specs.Rules.{IsTopology}
use Rattle.run_history.specs.Cases.{CaseShape, intervals_of, source_of}
use Rattle.run_history.specs.Fences.{Begins, IsClaimed, interval_of}
use Rattle.run_history.proofs.Beginnings.{Begins-at, Begins-length, at-Begins}
use Rattle.book.specs.Desks.{DeskView}
use Rattle.node.specs.Workers.{NodeView, leases_of}
use Rattle.shared_book.specs.Lists.{IsIn}
use Rattle.shared_book.specs.declared.seats.Note.{Note}
use Rattle.shared_book.proofs.Lists.{in_append}
use Rattle.workers.specs.Slices.{HasLines, IsOvertaken, injected}
use Rattle.workers.specs.declared.orders.Orders.{Orders}
use Rattle.workers.proofs.PassLaws.{interval-below}
use Rattle.workers.proofs.Leases.{overtaken-more}
use Rattle.workers.specs.Claims.{AreQuiet, HaveClaimedOnly, HaveLines, HoldFirst, HoldsSince, IsNoClaim}
use Rattle.workers.specs.Crews.{AreCalm, AreHealthy, HasWorkedOnce, HaveWorked, KeepsOrders, KeepsWork, desk_of}
use Rattle.workers.specs.declared.crew.Worker.{Worker}
use Rattle.workers.proofs.Beginning.{begun-gone}
use Rattle.workers.proofs.Doing.{keeps-all}
use Rattle.workers.proofs.Going.{gone-worked, in-contains}
use Rattle.workers.proofs.Lying.{injector-lies}

-- ---- who has seen more

-- who has seen more knows what was overtaken
overtaken-since : (interval seq : ℕ) (front seen : List Entry) → Begins front seen → IsOvertaken interval seq front
    → IsOvertaken interval seq seen
overtaken-since interval seq front seen begins over =
    subst (IsOvertaken interval seq) begins.1 (overtaken-more interval seq front begins.0 over)

-- and what was claimed
pub claimed-since : (interval seq : ℕ) (front seen : List Entry) → Begins front seen → IsClaimed interval seq front
    → IsClaimed interval seq seen
claimed-since interval seq front seen begins (who, at) = (who, Begins-at front seen seq (entries.Claim who interval) begins at)

-- and what was no claim
pub silent-since : (number : ℕ) (front seen : List Entry) → Begins front seen → IsNoClaim number front → IsNoClaim number seen
silent-since number front seen begins silent = record {
  below = let below = silent.below in let long = Begins-length front seen begins in omega (arith, below, long);
  no_claim = λ who interval at.
      silent.no_claim who interval (at-Begins front seen number (entries.Claim who interval) begins silent.below at);
}

-- ---- before the first round

-- no line is asked for yet
pub lines-start : {K J : Type 0} {g : Ghosts K} (case : CaseShape) (crew : List (Worker K J g)) → IsTopology case.topology
    → HoldFirst (length (intervals_of case.topology)) crew → HaveLines case 0 crew
lines-start {K} {J} {g} case crew rules hold part below =
    let lies = injector-lies case.topology part rules below in
    let holder = hold lies.0 (interval-below case.topology lies.0 (record { part = part; key = [] }) lies.1) in
    record {
      interval = lies.0;
      lies = lies.1;
      at = holder.at;
      there = holder.there;
      seq = holder.seq;
      holds = holder.holds;
      lines = λ d. if-anyway (desk_of (slice_index_or crew holder.at d)).told
          (IsOvertaken lies.0 holder.seq (desk_of (slice_index_or crew holder.at d)).seen
          ⊎ (min (length (source_of case part)) 0 ≤ injected part (desk_of (slice_index_or crew holder.at d)).seen))
          (inr (omega arith));
    }

-- ---- what a worker does that keeps its node and its desk

holds-kept : {K J : Type 0} {g : Ghosts K} (interval seq : ℕ) (was now : Worker K J g) → now.node ≡ was.node → desk_of now ≡ desk_of was
    → HoldsSince interval seq was → HoldsSince interval seq now
holds-kept interval seq was now node desk holds = record {
  claimed = subst (λ (v : DeskView). IsClaimed interval seq v.seen) (sym desk) holds.claimed;
  held = subst (λ (v : DeskView). (leases_of now.node.held interval ≡ Some seq) ⊎ IsOvertaken interval seq v.seen) (sym desk)
      (subst (λ (n : NodeView). (leases_of n.held interval ≡ Some seq) ⊎ IsOvertaken interval seq (desk_of was).seen) (sym node)
      holds.held);
}

lines-kept : {K J : Type 0} {g : Ghosts K} (case : CaseShape) (many : ℕ) (old new : List (Worker K J g)) → length new ≡ length old
    → KeepsWork old new → HaveLines case many old → HaveLines case many new
lines-kept {K} {J} {g} case many old new long keeps have part below =
    let it = have part below in
    record {
      interval = it.interval;
      lies = it.lies;
      at = it.at;
      there = let there = it.there in omega (arith, there, long);
      seq = it.seq;
      holds = λ d. holds-kept it.interval it.seq (slice_index_or old it.at d) (slice_index_or new it.at d)
          (keeps.node it.at d it.there) (keeps.desk it.at d it.there) (it.holds d);
      lines = λ d. subst (λ (v : DeskView). IfSome v.told (λ _. IsOvertaken it.interval it.seq v.seen
          ⊎ (min (length (source_of case part)) many ≤ injected part v.seen))) (sym (keeps.desk it.at d it.there)) (it.lines d);
    }

only-kept : {K J : Type 0} {g : Ghosts K} (workers : ℕ) (case : CaseShape) (old new : List (Worker K J g)) → length new ≡ length old
    → KeepsWork old new → HaveClaimedOnly workers case old → HaveClaimedOnly workers case new
only-kept {K} {J} {g} workers case old new long keeps only = record {
  begun = record {
    front = only.begun.front;
    numbers = only.begun.numbers;
    claimed = only.begun.claimed;
    each = λ at d below.
        let inside : at < length old = omega (arith, below, long) in
        let desk = keeps.desk at d inside in
        let begun = only.begun.each at d inside in
        record {
          seen = subst (λ (v : DeskView). Begins only.begun.front v.seen) (sym desk) begun.seen;
          own = λ number here. begun.own number (subst (λ (v : DeskView). IsIn number v.own) desk here);
        };
  };
  no_more = λ at d below number here high.
      let inside : at < length old = omega (arith, below, long) in
      let desk = keeps.desk at d inside in
      subst (λ (v : DeskView). IsNoClaim number v.seen) (sym desk)
      (only.no_more at d inside number (subst (λ (v : DeskView). IsIn number v.own) desk here) high);
}

-- what was prepared without an action leaves the workers so
pub quiet-kept : {K J : Type 0} {g : Ghosts K} (workers : ℕ) (case : CaseShape) (many : ℕ) (old new : List (Worker K J g))
    → length new ≡ length old → AreCalm new → KeepsWork old new → AreQuiet workers case many old → AreQuiet workers case many new
quiet-kept workers case many old new long calm keeps quiet = record {
  calm = calm;
  only = only-kept workers case old new long keeps quiet.only;
  lines = lines-kept case many old new long keeps quiet.lines;
}

-- ---- a round

-- what a worker went on from begins what it has seen
turn-begins : {K J : Type 0} {g : Ghosts K} (id : TableId) (case : CaseShape) (boxes : List (Mailbox (Note K g) J)) (was now : Worker K J g)
    → HasWorkedOnce id case boxes was now → Begins (desk_of was).seen (desk_of now).seen
turn-begins id case boxes was now turn = (turn.worked.rest, sym turn.worked.more)

holds-worked : {K J : Type 0} {g : Ghosts K} (id : TableId) (case : CaseShape) (boxes : List (Mailbox (Note K g) J)) (interval seq : ℕ)
    (was now : Worker K J g) → HasWorkedOnce id case boxes was now → HoldsSince interval seq was → HoldsSince interval seq now
holds-worked id case boxes interval seq was now turn holds =
    let begins = turn-begins id case boxes was now turn in
    record {
      claimed = claimed-since interval seq (desk_of was).seen (desk_of now).seen begins holds.claimed;
      held = ⊎_elim
          (λ held. turn.kept interval seq held)
          (λ over. inr (overtaken-since interval seq (desk_of was).seen (desk_of now).seen begins over))
          holds.held;
    }

-- so many lines and 16 more
lines-add : (all many before after : ℕ) → min all many ≤ before → min all (before + 16) ≤ after → min all (many + 16) ≤ after
lines-add all many before after one two = omega (arith, one, two)

-- a worker that holds the interval of an injector injects 16 lines more
lines-worked : {K J : Type 0} {g : Ghosts K} (id : TableId) (case : CaseShape) (boxes : List (Mailbox (Note K g) J))
    (many part interval seq : ℕ) (was now : Worker K J g) → HasWorkedOnce id case boxes was now → was.orders.stall ≡ false
    → now.fault ≡ None → part < length case.topology.injectors
    → interval_of case.topology (record { part = part; key = [] }) ≡ Some interval → HoldsSince interval seq was
    → IfSome (desk_of was).told (λ _. IsOvertaken interval seq (desk_of was).seen
    ⊎ (min (length (source_of case part)) many ≤ injected part (desk_of was).seen))
    → IfSome (desk_of now).told (λ _. IsOvertaken interval seq (desk_of now).seen
    ⊎ (min (length (source_of case part)) (many + 16) ≤ injected part (desk_of now).seen))
lines-worked {K} {J} {g} id case boxes many part interval seq was now turn calm healthy below lies holds lines =
    subst (λ (t : Option Unit). IfSome t (λ _. Now)) (sym turn.worked.told)
    (by_told (desk_of was).told lines (turn.injected healthy calm part below))
  where
    Now : Type 0
    Now = IsOvertaken interval seq (desk_of now).seen
        ⊎ (min (length (source_of case part)) (many + 16) ≤ injected part (desk_of now).seen)

    begins : Begins (desk_of was).seen (desk_of now).seen
    begins = turn-begins id case boxes was now turn

    over : IsOvertaken interval seq (desk_of was).seen → IsOvertaken interval seq (desk_of now).seen
    over is = overtaken-since interval seq (desk_of was).seen (desk_of now).seen begins is

    by_told : {X : Type 0} (o : Option X)
        → IfSome o (λ _. IsOvertaken interval seq (desk_of was).seen
        ⊎ (min (length (source_of case part)) many ≤ injected part (desk_of was).seen))
        → IfSome o (λ _. (i s : ℕ) → interval_of case.topology (record { part = part; key = [] }) ≡ Some i
        → leases_of was.node.held i ≡ Some s
        → IsOvertaken i s (desk_of now).seen ⊎ HasLines 16 case part (desk_of was).seen (desk_of now).seen)
        → IfSome o (λ _. Now)
    by_told None before turned = tt
    by_told (Some x) before turned = ⊎_elim
        (λ is. inl (over is))
        (λ few. ⊎_elim
        (λ held. ⊎_elim
        (λ is. inl is)
        (λ more. inr (lines-add (length (source_of case part)) many (injected part (desk_of was).seen)
        (injected part (desk_of now).seen) few (omega (arith, more))))
        (turned interval seq lies held))
        (λ is. inl (over is))
        holds.held)
        before

lines-round : {K J : Type 0} {g : Ghosts K} (id : TableId) (case : CaseShape) (boxes : List (Mailbox (Note K g) J)) (many : ℕ)
    (old new : List (Worker K J g)) → HaveWorked id case boxes old new → AreCalm old → AreHealthy new → HaveLines case many old
    → HaveLines case (many + 16) new
lines-round {K} {J} {g} id case boxes many old new worked calm healthy have part below =
    let it = have part below in
    let there : it.at < length new = (let there = it.there in let long = worked.long in omega (arith, there, long)) in
    record {
      interval = it.interval;
      lies = it.lies;
      at = it.at;
      there = there;
      seq = it.seq;
      holds = λ d. holds-worked id case boxes it.interval it.seq (slice_index_or old it.at d) (slice_index_or new it.at d)
          (worked.each it.at d it.there) (it.holds d);
      lines = λ d. lines-worked id case boxes many part it.interval it.seq (slice_index_or old it.at d) (slice_index_or new it.at d)
          (worked.each it.at d it.there) (calm it.at d it.there) (healthy it.at d there) below it.lies (it.holds d) (it.lines d);
    }

-- a worker claims nothing in its turn of work
silent-worked : {K J : Type 0} {g : Ghosts K} (id : TableId) (case : CaseShape) (boxes : List (Mailbox (Note K g) J)) (front : List Entry)
    (was now : Worker K J g) → HasWorkedOnce id case boxes was now
    → ((number : ℕ) → IsIn number (desk_of was).own → length front ≤ number → IsNoClaim number (desk_of was).seen)
    → (number : ℕ) → IsIn number (desk_of now).own → length front ≤ number → IsNoClaim number (desk_of now).seen
silent-worked id case boxes front was now turn before number here high = ⊎_elim
    (λ old. silent-since number (desk_of was).seen (desk_of now).seen (turn-begins id case boxes was now turn) (before number old high))
    (λ added.
    let it = turn.worked.each number (in-contains number turn.worked.added added) in
    record { below = it.below; no_claim = it.no_claim })
    (in_append number (desk_of was).own turn.worked.added (subst (IsIn number) turn.worked.own here))

only-round : {K J : Type 0} {g : Ghosts K} (id : TableId) (workers : ℕ) (case : CaseShape) (boxes : List (Mailbox (Note K g) J))
    (old new : List (Worker K J g)) → HaveWorked id case boxes old new → HaveClaimedOnly workers case old
    → HaveClaimedOnly workers case new
only-round {K} {J} {g} id workers case boxes old new worked only = record {
  begun = record {
    front = only.begun.front;
    numbers = only.begun.numbers;
    claimed = only.begun.claimed;
    each = λ at d below.
        let inside : at < length old = (let long = worked.long in omega (arith, below, long)) in
        begun-gone 6000 only.begun.front only.begun.numbers (slice_index_or old at d) (slice_index_or new at d)
        (gone-worked 6000 (desk_of (slice_index_or old at d)) (desk_of (slice_index_or new at d)) (worked.each at d inside).worked)
        (only.begun.each at d inside);
  };
  no_more = λ at d below number here high.
      let inside : at < length old = (let long = worked.long in omega (arith, below, long)) in
      silent-worked id case boxes only.begun.front (slice_index_or old at d) (slice_index_or new at d) (worked.each at d inside)
      (λ n mine behind. only.no_more at d inside n mine behind) number here high;
}

-- a round without a fault leaves the workers so, with 16 lines more
pub quiet-round : {K J : Type 0} {g : Ghosts K} (id : TableId) (workers : ℕ) (case : CaseShape) (boxes : List (Mailbox (Note K g) J))
    (many : ℕ) (old new : List (Worker K J g)) → HaveWorked id case boxes old new → KeepsOrders old new → AreHealthy new
    → AreQuiet workers case many old → AreQuiet workers case (many + 16) new
quiet-round {K} {J} {g} id workers case boxes many old new worked keeps healthy quiet = record {
  calm = keeps-all (λ (w : Worker K J g). w.orders) (λ (o : Orders). o.stall ≡ false) old new worked.long keeps quiet.calm;
  only = only-round id workers case boxes old new worked quiet.only;
  lines = lines-round id case boxes many old new worked quiet.calm healthy quiet.lines;
}

-- so the workers begin
pub quiet-start : {K J : Type 0} {g : Ghosts K} (workers : ℕ) (case : CaseShape) (old new : List (Worker K J g)) → length new ≡ length old
    → KeepsOrders old new → AreCalm old → IsTopology case.topology → HaveClaimedOnly workers case new
    → HoldFirst (length (intervals_of case.topology)) new → AreQuiet workers case 0 new
quiet-start {K} {J} {g} workers case old new long keeps calm rules only hold = record {
  calm = keeps-all (λ (w : Worker K J g). w.orders) (λ (o : Orders). o.stall ≡ false) old new long keeps calm;
  only = only;
  lines = lines-start case new rules hold;
}
