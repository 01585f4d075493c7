-- What each step of a script keeps of the world.
-- Akidau et al., VLDB 2013, section 6.2: no two owners have one sequencer. Own: the numbers of messages.
use Rattle.std.specs.Prelude.{◌≡◌, ◌<◌, ◌≤◌, ◌⊎◌, ◌++◌, ℕ, List, length, slice_get, Option, None, Some}
use Rattle.std.specs.Option.{option_to_list}
use Rattle.mw_types.specs.declared.entry.Entry.{Entry}
use Rattle.mw_types.specs.declared.entry.Entry.TheVariants as entries
use Rattle.run_history.specs.Fences.{Begins}
use Rattle.outbox.specs.declared.outgoing.Outgoing.{Outgoing}
use Rattle.world.specs.scripts.Worlds.{World, in_flight, worker_of}

-- at most one entry came behind what was there
pub record AppendsAtMostOne (old new : World) : Type 0 where
  pub entry : Option Entry
  pub appended : new.history ≡ old.history ++ option_to_list entry

-- there are as many workers as before, and as many marks
pub record KeepsForm (old new : World) : Type 0 where
  pub workers : length new.workers ≡ length old.workers
  pub marks : length new.marks ≡ length old.marks

-- each message that had a number is what it was, or gone; others have higher numbers
pub record KeepsMessages (old new : List (Option Outgoing)) : Type 0 where
  pub more : length old ≤ length new
  pub each : (message : ℕ) → message < length old →
      (in_flight new message ≡ in_flight old message) ⊎ (in_flight new message ≡ None)

-- each lease that a worker has is of a claim of its own, which has the lease's number
abbrev pub AreClaimed : World → Type 0
AreClaimed world = (number interval seq : ℕ) → (worker_of world number).leases interval ≡ Some seq →
    slice_get world.history seq ≡ Some (entries.Claim number interval)

-- one sequencer is one worker's, for one interval
pub record IsOneLease (number interval other another : ℕ) : Type 0 where
  pub worker : number ≡ other
  pub of_interval : interval ≡ another

-- no two workers have one sequencer, nor one worker for two intervals
abbrev pub AreApart : World → Type 0
AreApart world = (number interval other another seq : ℕ) →
    (worker_of world number).leases interval ≡ Some seq →
    (worker_of world other).leases another ≡ Some seq → IsOneLease number interval other another

-- nothing was written: the history, the marks and the workers are as they were
pub record WritesNothing (old new : World) : Type 0 where
  pub history : new.history ≡ old.history
  pub marks : new.marks ≡ old.marks
  pub workers : new.workers ≡ old.workers

-- what a script keeps of the world in which it begins
pub record KeepsWorld (old new : World) : Type 0 where
  pub grown : Begins old.history new.history
  pub form : KeepsForm old new
  pub messages : KeepsMessages old.flight new.flight
