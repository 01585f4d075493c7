-- How a drain looks for a timer to fire, one computation after another.
use Rattle.std.proofs.Common.{◌≡◌, ◌<◌, ◌≤◌, ◌+◌, ℕ, true, false, List, refl, sym, ◌∙◌, subst, arith, inl, inr}
use Rattle.std.specs.Prelude.{None, IsSome}
use Rattle.std.proofs.lemmas.Bool.{cases_lt}
use Rattle.mw_types.specs.declared.entry.Entry.{Entry}
use Rattle.topology.specs.Shapes.{injectors_of, parts_of}
use Rattle.run_history.specs.Cases.{CaseShape}
use Rattle.run_history.specs.Runs.{run_of}
use Rattle.run_history.specs.Watermarks.{least, low_watermark}
use Rattle.watermark.specs.Marks.{marks_of}
use Rattle.book.specs.Books.{BookView, core_of}
use Rattle.book.specs.Lawful.{IsLawful}
use Rattle.node.specs.Asking.{MayAskFire}
use Rattle.outbox.specs.Messages.{IsComputation}
use Rattle.node.specs.Workers.{NodeView}
use Rattle.world.specs.drains.Turns.{AreExact, HasAskedOne, HasStepped, HasTurned, IsAtWork, IsQuiet, IsQuietAt, IsSettled}
use Rattle.world.proofs.drains.FireLaws.{fire-quiet, fire-turned}
use Rattle.world.proofs.GoLaws.{fact-back, fact-on, told-on, turned-on}
use Rattle.world.proofs.drains.LawfulRows.{lawful-rows}
use Rattle.world.proofs.drains.PurgeLoop.{asked-stayed}
use Rattle.world.proofs.drains.ThereLaws.{timer-computation, timer-part}
use Rattle.world.proofs.drains.TurnLaws.{stepped-not, stepped-on}

-- no part before this one has a due timer, and nothing has happened
pub record IsFiring (start book : BookView) (node : NodeView) (part : ℕ) : Type 0 where
  pub stepped : HasStepped start book None
  pub at_work : IsAtWork book node
  pub marks : book.marks ≡ start.marks
  pub quiet : IsSome start.rows → (earlier : ℕ) → earlier < part → IsQuietAt start.case start.history earlier

-- no injector has a timer
pub firing-first : (book : BookView) (node : NodeView) → IsAtWork book node → IsLawful book.case (core_of book)
    → IsFiring book book node (injectors_of book.case.topology)
firing-first book node at lawful = record {
  stepped = stepped-not book;
  at_work = at;
  marks = refl;
  quiet = λ told earlier less row timer due of.
      let computation = timer-computation book.case book.history row timer
      (lawful-rows book.case book.history book.rows told lawful.held).0 due.set in omega (arith, computation, less, of);
}

-- the marks are exact as long as they and the history stay
exact-on : (start book : BookView) → HasStepped start book None → book.marks ≡ start.marks → AreExact start → AreExact book
exact-on start book stepped same exact =
    fact-on (λ (c : CaseShape) (h : List Entry). (part : ℕ) → injectors_of c.topology ≤ part → part < parts_of c.topology
    → least (marks_of c.topology part book.marks) ≡ low_watermark c (run_of c.topology h) part) start book stepped
    (subst (λ (m : List ℕ). (part : ℕ) → injectors_of start.case.topology ≤ part → part < parts_of start.case.topology
    → least (marks_of start.case.topology part m) ≡ low_watermark start.case (run_of start.case.topology start.history) part) (sym same) exact)

-- a part more
pub firing-on : (start old new : BookView) (was node : NodeView) (part : ℕ) → IsFiring start old was part
    → IsLawful old.case (core_of old) → (IsSome start.rows → AreExact start) → IsComputation old.case.topology part
    → HasAskedOne old new (MayAskFire old.case was part (least (marks_of old.case.topology part old.marks))) false
    → new.marks ≡ old.marks → IsAtWork new node → IsFiring start new node (part + 1)
firing-on start old new was node part on lawful exact is done same at = record {
  stepped = stepped-on start old new None on.stepped (asked-stayed old new done);
  at_work = at;
  marks = same ∙ on.marks;
  quiet = λ told earlier less. elim (cases_lt earlier part) [
    | inl below ↦ on.quiet told earlier below
    | inr above ↦
        let one : part ≡ earlier = omega (arith, less, above) in
        subst (IsQuietAt start.case start.history) one
        (fact-back (λ (c : CaseShape) (h : List Entry). IsQuietAt c h part) start old on.stepped
        (fire-quiet old new was part false on.at_work lawful (told-on start old None on.stepped told) is
        (exact-on start old on.stepped on.marks (exact told))
        (λ before below. fact-on (λ (c : CaseShape) (h : List Entry). IsQuietAt c h before) start old on.stepped (on.quiet told before below))
        done refl))
  ];
}

-- a part that has a due timer is a turn
pub firing-turned : (start old new : BookView) (was : NodeView) (part : ℕ) → IsFiring start old was part
    → IsLawful old.case (core_of old) → IsSettled start.case start.history → (IsSome start.rows → AreExact start)
    → IsComputation old.case.topology part
    → HasAskedOne old new (MayAskFire old.case was part (least (marks_of old.case.topology part old.marks))) true
    → HasTurned start new true
firing-turned start old new was part on lawful settled exact is done =
    turned-on start old new true on.stepped
    (fire-turned old new was part true on.at_work lawful (fact-on IsSettled start old on.stepped settled) is
    (λ told. exact-on start old on.stepped on.marks (exact (sym on.stepped.tells ∙ told)))
    (λ told before below. fact-on (λ (c : CaseShape) (h : List Entry). IsQuietAt c h before) start old on.stepped
    (on.quiet (sym on.stepped.tells ∙ told) before below))
    done)

-- all parts are looked at
pub firing-quiet : (start book : BookView) (node : NodeView) (part : ℕ) → parts_of start.case.topology ≤ part → IsFiring start book node part
    → IsLawful start.case (core_of start) → IsSome start.rows → IsQuiet start.case start.history
firing-quiet start book node part all on lawful told row timer due =
    let there = timer-part start.case start.history row timer
    (lawful-rows start.case start.history start.rows told lawful.held).0 due.set in
    on.quiet told row.part (omega (arith, there, all)) row timer due refl
