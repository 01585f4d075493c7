-- Messages keep their numbers.
use Rattle.std.proofs.Common.{◌≡◌, ◌∙◌, ◌<◌, ◌++◌, ℕ, List, length, refl, sym, arith, inl, inr, length-append}
use Rattle.std.specs.Prelude.{◌⊎◌, Option, None, slice_set}
use Rattle.std.proofs.lemmas.List.{get_or_append_left, length-set}
use Rattle.std.proofs.lemmas.Option.{unwrap_or-slice_get}
use Rattle.outbox.specs.declared.outgoing.Outgoing.{Outgoing}
use Rattle.world.specs.scripts.Keeping.{KeepsMessages}
use Rattle.world.specs.scripts.Worlds.{in_flight}
use Rattle.world.proofs.scripts.Places.{at-set}

-- messages that stay as they are
pub KeepsMessages-itself : (flight : List (Option Outgoing)) → KeepsMessages flight flight
KeepsMessages-itself flight = record { more = omega arith; each = λ message there. inl refl }

-- further messages
pub KeepsMessages-append : (flight more : List (Option Outgoing)) → KeepsMessages flight (flight ++ more)
KeepsMessages-append flight more = record {
  more = let l = length-append flight more in omega (arith, l);
  each = λ message there. inl (unwrap_or-slice_get (flight ++ more) message None
      ∙ get_or_append_left flight more None message there ∙ sym (unwrap_or-slice_get flight message None));
}

-- a message is gone
pub KeepsMessages-without : (flight : List (Option Outgoing)) (gone : ℕ) → KeepsMessages flight (slice_set flight gone None)
KeepsMessages-without flight gone = record {
  more = let l = length-set flight gone None in omega (arith, l);
  each = λ message there. elim (at-set None flight gone message None) [
    | inl taken ↦ inr taken.1
    | inr kept ↦ inl kept
  ];
}

-- what is kept of what was kept
pub KeepsMessages-trans : (one two three : List (Option Outgoing)) → KeepsMessages one two → KeepsMessages two three
    → KeepsMessages one three
KeepsMessages-trans one two three first second = record {
  more = let a = first.more in let b = second.more in omega (arith, a, b);
  each = λ message there. by_first message
      (second.each message (let a = first.more in omega (arith, a, there))) (first.each message there);
}
  where
    by_first : (message : ℕ) → (in_flight three message ≡ in_flight two message) ⊎ (in_flight three message ≡ None)
        → (in_flight two message ≡ in_flight one message) ⊎ (in_flight two message ≡ None)
        → (in_flight three message ≡ in_flight one message) ⊎ (in_flight three message ≡ None)
    by_first message (inr gone) before = inr gone
    by_first message (inl same) (inl as_before) = inl (same ∙ as_before)
    by_first message (inl same) (inr was_gone) = inr (same ∙ was_gone)

-- what is gone stays gone
pub gone-stays : (old new : List (Option Outgoing)) (message : ℕ) → KeepsMessages old new → message < length old
    → in_flight old message ≡ None → in_flight new message ≡ None
gone-stays old new message keeps there gone = elim (keeps.each message there) [
  | inl same ↦ same ∙ gone
  | inr now ↦ now
]
