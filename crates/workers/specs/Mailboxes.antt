-- What a mailbox keeps, and what is known of it: how many messages were put and taken. Own.
use Rattle.std.specs.Prelude.{◌≡◌, ◌+◌, ◌∷◌, [], ℕ, suc, List, true, false, length}
use mathlib.Core.Option.{some}
use lib.ListN.{get_elem?}
use Rattle.topology.specs.Shapes.{Shape}
use Rattle.outbox.specs.Messages.{IsAddressed}
use Rattle.node.specs.Received.{note_of, outgoing_of}
use Rattle.node.specs.declared.message.Message.{Message}
use Rattle.workers.specs.declared.hand.Hand.{Hand}

-- ---- what lies in a mailbox

-- the note of a message is of this book, and the message names rows of this topology
pub record IsOfOffice {N : Type 0} (book_of : N → List ℕ) (book : List ℕ) (shape : Shape)
    (message : Message N) : Type 0 where
  pub known : book_of (note_of message) ≡ book
  pub addressed : IsAddressed shape (outgoing_of message)

-- ---- what passes know

-- what the first pass knows
abbrev pub first_hand : Hand
first_hand = record { alone = true; puts = 0; takes = 0 }

-- what a further pass knows
abbrev pub new_hand : Hand
new_hand = record { alone = false; puts = 0; takes = 0 }

-- a pass is not alone any more
abbrev pub beside : Hand → Hand
beside v = record v { alone = false }

-- a pass has put one message more
abbrev pub with_put : Hand → Hand
with_put v = record v { puts = suc v.puts }

-- a pass has taken one message more
abbrev pub with_take : Hand → Hand
with_take v = record v { takes = suc v.takes }

-- where a pass is alone, so many messages are left: those that it put and did not take
abbrev pub IsLeft : Hand → ℕ → Type 0
IsLeft v left = v.alone ≡ true → v.puts ≡ v.takes + left

-- ---- what always holds of a mailbox

-- how many messages all passes put
abbrev pub all_puts : List Hand → ℕ
all_puts [] = 0
all_puts (v ∷ vs) = v.puts + all_puts vs

-- how many messages all passes took
abbrev pub all_takes : List Hand → ℕ
all_takes [] = 0
all_takes (v ∷ vs) = v.takes + all_takes vs

-- a pass that is alone is the only one
abbrev pub IsOnly : List Hand → Type 0
IsOnly views = (i : ℕ) (v : Hand) → get_elem? views i ≡ some v → v.alone ≡ true → length views ≡ 1

-- as many messages were put as were taken and are left
pub record AreCounted {T : Type 0} (items : List T) (views : List Hand) : Type 0 where
  pub counted : all_puts views ≡ all_takes views + length items
  pub only : IsOnly views

-- ---- what a refusal teaches

-- at a moment at which a pass knew v, its mailbox held so many messages: those that all its passes
-- had put by then and not taken
pub record HasHeld (v : Hand) (count : ℕ) : Type 0 where
  pub views : List Hand
  pub place : ℕ
  pub this : get_elem? views place ≡ some v
  pub counted : all_puts views ≡ all_takes views + count
  pub only : IsOnly views
