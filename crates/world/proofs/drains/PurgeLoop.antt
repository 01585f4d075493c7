-- How a drain looks for a row to purge, one interval after another.
use Rattle.std.proofs.Common.{◌≡◌, ◌<◌, ◌+◌, ℕ, true, false, List, refl, sym, ◌∙◌, subst, arith, inl, inr}
use Rattle.std.specs.Prelude.{Option, Some, None, IsSome}
use Rattle.std.proofs.lemmas.Bool.{cases_lt}
use Rattle.mw_types.specs.declared.entry.Entry.{Entry}
use Rattle.topology.specs.Rules.{interval_count}
use Rattle.run_history.specs.Cases.{CaseShape}
use Rattle.run_history.specs.Legal.{floor_of}
use Rattle.run_history.specs.Runs.{run_of}
use Rattle.book.specs.Books.{BookView, core_of}
use Rattle.book.specs.Lawful.{IsLawful}
use Rattle.node.specs.Asking.{MayAskPurge, Request}
use Rattle.node.specs.Workers.{NodeView}
use Rattle.world.specs.drains.Turns.{HasAsked, HasAskedOne, HasStepped, HasTurned, IsAtWork, IsEmptied, IsEndOf, IsInjected, IsQuiet, IsSettled}
use Rattle.world.proofs.GoLaws.{fact-back, fact-on, told-on, turned-on}
use Rattle.world.proofs.drains.PurgeLaws.{purge-emptied, purge-ended, purge-turned}
use Rattle.world.proofs.drains.TurnLaws.{stepped-not, stepped-on}

-- where no entry was asked for, none was appended
pub asked-stayed : (old new : BookView) {MayAsk : Request → Type 0} → HasAskedOne old new MayAsk false → HasStepped old new None
asked-stayed old new done = by_asked done.asked done.done
  where
    by_asked : (asked : Option Request) → HasAsked old new asked false → HasStepped old new None
    by_asked None done = done.stepped
    by_asked (Some asked) done = absurd (let more = done.is_more in cc)

-- ---- the intervals one after another

-- no interval before this one has a row that has seen ids, and nothing has happened
pub record IsPurging (start book : BookView) (node : NodeView) (interval : ℕ) : Type 0 where
  pub stepped : HasStepped start book None
  pub at_work : IsAtWork book node
  pub emptied : IsSome start.rows → (earlier : ℕ) → earlier < interval → IsEmptied start.case start.history earlier

-- no interval is looked at yet
pub purging-first : (book : BookView) (node : NodeView) → IsAtWork book node → IsPurging book book node 0
purging-first book node at = record {
  stepped = stepped-not book;
  at_work = at;
  emptied = λ told earlier less. absurd (omega (arith, less));
}

-- an interval more
pub purging-on : (start old new : BookView) (was node : NodeView) (interval : ℕ) → IsPurging start old was interval
    → IsLawful old.case (core_of old) → IsSettled start.case start.history
    → HasAskedOne old new (MayAskPurge old.case.topology was interval 1 (floor_of (run_of old.case.topology old.history))) false
    → IsAtWork new node → IsPurging start new node (interval + 1)
purging-on start old new was node interval on lawful settled done at = record {
  stepped = stepped-on start old new None on.stepped (asked-stayed old new done);
  at_work = at;
  emptied = λ told earlier less. elim (cases_lt earlier interval) [
    | inl below ↦ on.emptied told earlier below
    | inr above ↦
        let same : interval ≡ earlier = omega (arith, less, above) in
        subst (IsEmptied start.case start.history) same
        (fact-back (λ (c : CaseShape) (h : List Entry). IsEmptied c h interval) start old on.stepped
        (purge-emptied old new was interval false on.at_work lawful
        (fact-on IsSettled start old on.stepped settled) (told-on start old None on.stepped told)
        (λ before below. fact-on (λ (c : CaseShape) (h : List Entry). IsEmptied c h before) start old on.stepped (on.emptied told before below))
        done refl))
  ];
}

-- an interval that has a row to purge is a turn
pub purging-turned : (start old new : BookView) (was : NodeView) (interval : ℕ) → IsPurging start old was interval
    → IsLawful old.case (core_of old) → IsSettled start.case start.history → (IsSome start.rows → IsQuiet start.case start.history)
    → (IsSome start.rows → IsInjected start.case start.history)
    → HasAskedOne old new (MayAskPurge old.case.topology was interval 1 (floor_of (run_of old.case.topology old.history))) true
    → HasTurned start new true
purging-turned start old new was interval on lawful settled quiet injected done =
    turned-on start old new true on.stepped
    (purge-turned old new was interval true on.at_work lawful (fact-on IsSettled start old on.stepped settled)
    (λ told. fact-on IsQuiet start old on.stepped (quiet (sym on.stepped.tells ∙ told)))
    (λ told. fact-on IsInjected start old on.stepped (injected (sym on.stepped.tells ∙ told)))
    (λ told before below. fact-on (λ (c : CaseShape) (h : List Entry). IsEmptied c h before) start old on.stepped
    (on.emptied (sym on.stepped.tells ∙ told) before below))
    done)

-- all intervals are looked at
pub purging-ended : (start book : BookView) (node : NodeView) (count : ℕ) → count ≡ interval_count start.case.topology
    → IsPurging start book node count → IsLawful start.case (core_of start) → IsSome start.rows
    → IsSettled start.case start.history → IsQuiet start.case start.history → IsInjected start.case start.history
    → IsEndOf start.case start.history
purging-ended start book node count all on lawful told settled quiet injected =
    purge-ended start lawful told settled quiet injected (λ interval less. on.emptied told interval (omega (arith, less, all)))
