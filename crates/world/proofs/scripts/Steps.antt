-- What each step of a script keeps, and so each script.
use Rattle.std.proofs.Common.{◌≡◌, ◌∙◌, ℕ, List, [], ◌∷◌, length, refl, sym, ap, inl}
use Rattle.std.specs.Prelude.{Option, None, Some}
use Rattle.std.specs.Option.{option_map, option_to_list}
use Rattle.std.proofs.lemmas.List.{append-nil, length-set}
use Rattle.mw_types.specs.declared.entry.Entry.{Entry}
use Rattle.topology.specs.Folding.{RoutesView}
use Rattle.topology.specs.Shapes.{Shape}
use Rattle.run_history.specs.Cases.{CaseShape}
use Rattle.run_history.specs.Fences.{Begins}
use Rattle.run_history.proofs.Beginnings.{Begins-itself, Begins-trans}
use Rattle.book.specs.Books.{LeaseView}
use Rattle.node.specs.Workers.{Worker, with_lease}
use Rattle.world.specs.scripts.Acts.{Deed, changed_by, deed_of, done_unless, lost, stale_in, with_sends, workers_with, world_after, world_then}
use Rattle.world.specs.scripts.Keeping.{AppendsAtMostOne, AreClaimed, KeepsForm, KeepsMessages, KeepsWorld}
use Rattle.world.specs.scripts.Worlds.{World, worker_of, world_on}
use Rattle.plans.specs.declared.step.Step.{Step}
use Rattle.world.proofs.scripts.ScriptDeeds.{IsKeeping, keeps-step}
use Rattle.world.proofs.scripts.Leases.{AreClaimed-first, AreClaimed-more, AreClaimed-set, LeasesAfter, LeasesFrom, lost-had, with_sends-leases}
use Rattle.world.proofs.scripts.Messages.{KeepsMessages-itself, KeepsMessages-trans}

-- ---- a deed that is done, or whose lease was overtaken

-- a deed appends at most one entry
done-appends : (shape : Shape) (world : World) (deed : Deed) (stale : Option (LeaseView × ℕ))
    → AppendsAtMostOne world (done_unless shape world deed stale).1
done-appends shape world deed None = record { entry = deed.entry; appended = refl }
done-appends shape world deed (Some stale) = record { entry = None; appended = sym (append-nil world.history) }

-- one worker is set at most
workers-length : (number : ℕ) (after : Option Worker) (workers : List Worker)
    → length (workers_with number after workers) ≡ length workers
workers-length number None workers = refl
workers-length number (Some worker) workers = length-set workers number worker

-- a deed keeps the number of workers, and of marks
done-form : (shape : Shape) (world : World) (deed : Deed) (stale : Option (LeaseView × ℕ)) → IsKeeping world deed
    → KeepsForm world (done_unless shape world deed stale).1
done-form shape world deed None keeps = record {
  workers = workers-length deed.number (option_map (with_sends shape world.history deed.entry) deed.after) world.workers;
  marks = keeps.marks;
}
done-form shape world deed (Some (lease, newer)) keeps = record {
  workers = length-set world.workers deed.number (with_lease shape lease.interval None (worker_of world deed.number));
  marks = refl;
}

-- a deed keeps the numbers of messages
done-messages : (shape : Shape) (world : World) (deed : Deed) (stale : Option (LeaseView × ℕ)) → IsKeeping world deed
    → KeepsMessages world.flight (done_unless shape world deed stale).1.flight
done-messages shape world deed None keeps = keeps.flight
done-messages shape world deed (Some stale) keeps = keeps.flight

-- a worker that has to send more has the leases that it had
sends-leases : (shape : Shape) (world : World) (deed : Deed) (after : Worker) → LeasesFrom world deed.number deed.entry after
    → LeasesFrom world deed.number deed.entry (with_sends shape world.history deed.entry after)
sends-leases shape world deed after from interval seq is =
    from interval seq (sym (ap (λ (leases : ℕ → Option ℕ). leases interval)
    (with_sends-leases shape world.history deed.entry after)) ∙ is)

-- a deed that is done leaves leases that are claims of their workers
changed-claimed : (shape : Shape) (world : World) (deed : Deed) → AreClaimed world → (after : Option Worker)
    → deed.after ≡ after → LeasesAfter world deed.number deed.entry after → AreClaimed (changed_by shape world deed)
changed-claimed shape world deed claimed None is leases = AreClaimed-more world (changed_by shape world deed) deed.entry
    claimed refl (ap (λ o. workers_with deed.number (option_map (with_sends shape world.history deed.entry) o) world.workers) is)
changed-claimed shape world deed claimed (Some after) is leases =
    AreClaimed-set world (changed_by shape world deed) deed.number deed.entry (with_sends shape world.history deed.entry after)
    claimed (sends-leases shape world deed after leases) refl
    (ap (λ o. workers_with deed.number (option_map (with_sends shape world.history deed.entry) o) world.workers) is)

-- and so does one whose lease was overtaken
lost-claimed : (shape : Shape) (world : World) (deed : Deed) (lease : LeaseView) → AreClaimed world
    → AreClaimed (lost shape world deed lease)
lost-claimed shape world deed lease claimed = let worker = worker_of world deed.number in
    AreClaimed-set world (lost shape world deed lease) deed.number None (with_lease shape lease.interval None worker) claimed
    (λ interval seq is. inl (lost-had shape worker lease.interval interval seq is)) (sym (append-nil world.history)) refl

-- a deed, done or not
done-claimed : (shape : Shape) (world : World) (deed : Deed) (stale : Option (LeaseView × ℕ)) → IsKeeping world deed
    → AreClaimed world → AreClaimed (done_unless shape world deed stale).1
done-claimed shape world deed None keeps claimed = changed-claimed shape world deed claimed deed.after refl keeps.leases
done-claimed shape world deed (Some (lease, newer)) keeps claimed = lost-claimed shape world deed lease claimed

-- ---- a step

-- a step appends at most one entry
pub step-appends : (case : CaseShape) (world : World) (step : Step) → AppendsAtMostOne world (world_then case world step)
step-appends case world step = let deed = deed_of case world step in
    done-appends case.topology world deed (stale_in world.history deed.under)

-- a step keeps the history
pub step-grows : (case : CaseShape) (world : World) (step : Step) → Begins world.history (world_then case world step).history
step-grows case world step = let one = step-appends case world step in (option_to_list one.entry, sym one.appended)

-- a step keeps the number of workers, and of marks
pub step-form : (case : CaseShape) (world : World) (step : Step) → KeepsForm world (world_then case world step)
step-form case world step = let deed = deed_of case world step in
    done-form case.topology world deed (stale_in world.history deed.under) (keeps-step case world step)

-- a step keeps the numbers of messages
pub step-messages : (case : CaseShape) (world : World) (step : Step)
    → KeepsMessages world.flight (world_then case world step).flight
step-messages case world step = let deed = deed_of case world step in
    done-messages case.topology world deed (stale_in world.history deed.under) (keeps-step case world step)

-- a step leaves leases that are claims of their workers
pub step-claimed : (case : CaseShape) (world : World) (step : Step) → AreClaimed world → AreClaimed (world_then case world step)
step-claimed case world step = let deed = deed_of case world step in
    done-claimed case.topology world deed (stale_in world.history deed.under) (keeps-step case world step)

-- ---- a script

-- what each step keeps a script keeps
pub along_script : (case : CaseShape) (Holds : World → Type 0)
    → ((world : World) (step : Step) → Holds world → Holds (world_then case world step))
    → (script : List Step) (world : World) → Holds world → Holds (world_after case world script)
along_script case Holds keeps [] world holds = holds
along_script case Holds keeps (step ∷ script) world holds =
    along_script case Holds keeps script (world_then case world step) (keeps world step holds)

-- what was kept until a step is kept after it
kept-then : (case : CaseShape) (first world : World) (step : Step) → KeepsWorld first world → KeepsWorld first (world_then case world step)
kept-then case first world step kept = let form = step-form case world step in record {
  grown = Begins-trans first.history world.history (world_then case world step).history kept.grown (step-grows case world step);
  form = record { workers = form.workers ∙ kept.form.workers; marks = form.marks ∙ kept.form.marks };
  messages = KeepsMessages-trans first.flight world.flight (world_then case world step).flight kept.messages
      (step-messages case world step);
}

-- a world keeps what it has
kept-itself : (world : World) → KeepsWorld world world
kept-itself world = record {
  grown = Begins-itself world.history;
  form = record { workers = refl; marks = refl };
  messages = KeepsMessages-itself world.flight;
}

-- a whole script
pub script-keeps : (case : CaseShape) (world : World) (script : List Step) → KeepsWorld world (world_after case world script)
script-keeps case world script = along_script case (KeepsWorld world) (kept-then case world) script world (kept-itself world)

-- a script leaves leases that are claims of their workers
pub script-claimed : (case : CaseShape) (routes : RoutesView) (history : List Entry) (marks : List ℕ) (script : List Step)
    → AreClaimed (world_after case (world_on routes history marks) script)
script-claimed case routes history marks script =
    along_script case AreClaimed (step-claimed case) script (world_on routes history marks) (AreClaimed-first routes history marks)
