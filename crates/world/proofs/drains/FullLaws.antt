-- A drain fails since the history is full only where it has not ended: it had a further entry to write.
use Rattle.std.proofs.Common.{◌≡◌, ℕ, true, ◌∷◌, ◌++◌, [], refl, sym, ◌∙◌, subst, arith}
use Rattle.std.specs.Prelude.{Option, Some, None, IsSome, IfSome, Contains}
use Rattle.std.specs.Option.{is_some}
use Rattle.mw_types.specs.declared.entry.Entry.{Entry}
use Rattle.mw_types.specs.declared.identity.RecordId.{RecordId}
use Rattle.mw_types.specs.declared.identity.RowName.{RowName}
use Rattle.topology.specs.Shapes.{injectors_of}
use Rattle.run_history.specs.Legal.{floor_of}
use Rattle.run_history.specs.Runs.{run_of}
use Rattle.run_history.specs.Watermarks.{least}
use Rattle.watermark.specs.Marks.{marks_of}
use Rattle.book.specs.Books.{BookView, core_of}
use Rattle.book.specs.Lawful.{IsLawful}
use Rattle.book.specs.Senders.{IsLeastSent}
use Rattle.node.specs.Asking.{MayAskFire, MayAskPurge, Request}
use Rattle.outbox.specs.Messages.{IsComputation}
use Rattle.node.specs.Workers.{NodeView}
use Rattle.node.specs.declared.outcome.NodeFault.{NodeFault}
use Rattle.node.specs.declared.outcome.NodeFault.TheVariants as faults
use Rattle.world.specs.drains.Turns.{AreExact, HasAskedOne, HasStepped, HasTurned, IsAtWork, IsFullAsking, IsFullUnended, IsInjected, IsNextIn, IsNextInjector, IsQuiet, IsSettled, IsUnended, WhereTold}
use Rattle.world.proofs.drains.DrainLaws.{told-fact-back}
use Rattle.world.proofs.drains.FireLoop.{IsFiring, firing-turned}
use Rattle.world.proofs.drains.InjectLaws.{found-first}
use Rattle.world.proofs.drains.OneStep.{ended-none, none_least}
use Rattle.world.proofs.drains.PurgeLoop.{IsPurging, purging-turned}

-- ---- where no drain has ended

-- where an entry comes next
turned-unended : (old new : BookView) → HasTurned old new true → WhereTold old (IsUnended old.case old.history)
turned-unended old new turned = λ told from ended. by_own turned.own turned.is_more (turned.next told) from ended
  where
    by_own : (own : Option Entry) → is_some own ≡ true → IfSome own (IsNextIn old.case old.history) → IsUnended old.case old.history
    by_own None some next from ended = absurd (cc)
    by_own (Some entry) some next from ended =
        ended-none old.case from old.history entry ended (next from ended.earlier.earlier.earlier.claimed)

-- where an id is unacknowledged
pub sent-unended : (book : BookView) (id : RecordId) (sender : RowName)
    → IsLeastSent book.case.topology (run_of book.case.topology book.history) id sender
    → WhereTold book (IsUnended book.case book.history)
sent-unended book id sender least = λ told from ended.
    none_least book.case from book.history id sender least ended.earlier.earlier.earlier

-- where an injector has a line left
pub line-unended : (book : BookView) (node : NodeView) (part : ℕ) → IsAtWork book node
    → IsNextInjector book.case node (injectors_of book.case.topology) (Some part)
    → WhereTold book (IsUnended book.case book.history)
line-unended book node part at next = λ told from ended.
    let first = found-first book node at told part next in
    let has = subst (λ l. Contains l part) ended.earlier.none_left first.0 in let within = has.1 in omega (arith, within)

-- ---- a call that fails

-- a call that fails for lack of memory does not fail since the history is full
pub full-not : (book : BookView) (why : NodeFault) → why ≡ faults.NoMemory → IsFullUnended book why
full-not book why is = λ full. absurd (let both : faults.NoMemory ≡ faults.HistoryFull = sym is ∙ full in cc)

-- a call that fails after a step that wrote nothing
pub unended-back : (old new : BookView) (why : NodeFault) → HasStepped old new None → IsFullUnended new why → IsFullUnended old why
unended-back old new why stepped is = λ full. told-fact-back IsUnended old new stepped (is full)

-- ---- what was asked for comes next

-- a book with the entry that was asked for
abbrev with_asked : BookView → Request → BookView
with_asked book asked = record book { history = book.history ++ asked.entry ∷ [] }

-- as if it had been written
as-written : (book : BookView) (MayAsk : Request → Type 0) (asked : Request) → MayAsk asked
    → HasAskedOne book (with_asked book asked) MayAsk true
as-written book MayAsk asked may = record {
  asked = Some asked;
  done = record {
    stepped = record { case = refl; limit = refl; tells = refl; faults = omega arith; appended = refl };
    is_more = refl;
  };
  may = may;
  none = λ e. absurd (cc);
}

-- a purge that fails so has a row left to purge
pub purging-full : (start old : BookView) (was : NodeView) (interval : ℕ) (why : NodeFault) → IsPurging start old was interval
    → IsLawful old.case (core_of old) → IsSettled start.case start.history → (IsSome start.rows → IsQuiet start.case start.history)
    → (IsSome start.rows → IsInjected start.case start.history)
    → IsFullAsking (MayAskPurge old.case.topology was interval 1 (floor_of (run_of old.case.topology old.history))) why
    → IsFullUnended start why
purging-full start old was interval why on lawful settled quiet injected asking = λ full.
    let one = asking full in
    let new = with_asked old one.0 in
    let MayAsk = MayAskPurge old.case.topology was interval 1 (floor_of (run_of old.case.topology old.history)) in
    turned-unended start new (purging-turned start old new was interval on lawful settled quiet injected
    (as-written old MayAsk one.0 one.1))

-- a timer that fails so is due
pub firing-full : (start old : BookView) (was : NodeView) (part : ℕ) (why : NodeFault) → IsFiring start old was part
    → IsLawful old.case (core_of old) → IsSettled start.case start.history → (IsSome start.rows → AreExact start)
    → IsComputation old.case.topology part
    → IsFullAsking (MayAskFire old.case was part (least (marks_of old.case.topology part old.marks))) why
    → IsFullUnended start why
firing-full start old was part why on lawful settled exact is asking = λ full.
    let one = asking full in
    let new = with_asked old one.0 in
    let MayAsk = MayAskFire old.case was part (least (marks_of old.case.topology part old.marks)) in
    turned-unended start new (firing-turned start old new was part on lawful settled exact is (as-written old MayAsk one.0 one.1))

-- ---- the whole
