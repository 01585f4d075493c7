-- The mailboxes of a run and a worker's passes of them. Own.
use Rattle.std.specs.Prelude.{◌≡◌, ◌<◌, ℕ, List, length, slice_index_or}
use Rattle.crossbeam_queue.specs.Passes.{IsPassOf}
use Rattle.workers.specs.declared.mailbox.Mailbox.{Mailbox}
use Rattle.workers.specs.declared.passes.MailPass.{MailPass}

-- a worker has so many mailboxes, and one pass of each, in the same order
pub record ArePasses {N J : Type 0} (count : ℕ) (boxes : List (Mailbox N J))
    (passes : List (MailPass N J)) : Type 0 where
  pub many_boxes : length boxes ≡ count
  pub many_passes : length passes ≡ count
  pub each : (at : ℕ) (box : Mailbox N J) (pass : MailPass N J) → at < count →
      IsPassOf (slice_index_or boxes at box).line (slice_index_or passes at pass).pass
