-- The mailboxes of a run, and the lists of their passes. No public clause cites this module.
use Rattle.std.specs.Prelude.{◌≡◌, ◌<◌, ◌≤◌, ◌∷◌, ◌++◌, [], ℕ, List, All, length, slice_index_or}
use Rattle.workers.specs.declared.mailbox.Mailbox.{Mailbox}
use Rattle.workers.specs.declared.passes.MailPass.{MailPass}
use Rattle.workers.specs.Passing.{ArePasses}

-- each list has a pass of each mailbox, of which there are so many
abbrev pub HavePasses : {N J : Type 0} → ℕ → List (Mailbox N J) → List (List (MailPass N J)) → Type 0
HavePasses count boxes all = All (ArePasses count boxes) all

-- each of the first so many lists got what is at its place, and the others are as they were
pub record AreHandedOut {X : Type 0} (made : List X) (done : ℕ) (old new : List (List X)) : Type 0 where
  pub long : length new ≡ length old
  pub got : (at : ℕ) (d : List X) (x : X) → at < done →
      slice_index_or new at d ≡ slice_index_or old at d ++ slice_index_or made at x ∷ []
  pub rest : (at : ℕ) (d : List X) → done ≤ at → slice_index_or new at d ≡ slice_index_or old at d
