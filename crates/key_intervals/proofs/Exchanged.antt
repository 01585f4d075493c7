-- Where some intervals end, and others have their rows, each row is still in one live interval.
use Rattle.std.proofs.Common.{◌≡◌, ◌<◌, ◌≤◌, ◌+◌, ◌∙◌, ◌⊎◌, ℕ, List, Bool, true, false, Some, length, arith, sym, ap, inl, inr, true≢false}
use Rattle.std.specs.Prelude.{slice_get}
use Rattle.std.proofs.lemmas.Bool.{cases_Bool}
use Rattle.mw_types.specs.declared.identity.RowName.{RowName}
use Rattle.key_intervals.specs.declared.bounds.Bounds.{Bounds}
use Rattle.key_intervals.specs.declared.given.Given.{Given}
use Rattle.key_intervals.specs.declared.TheConstants.{INTERVALS_MAX}
use Rattle.key_intervals.specs.Intervals.{covers, ends_after}
use Rattle.key_intervals.specs.Division.{fresh, AreDivided, HasLive}
use Rattle.key_intervals.proofs.GivenLists.{AreEnded, with_fresh, live-kept, added-at, live-origin, bounds-origin, length-with_fresh}

-- those that are appended have the rows of the live intervals that pass a test, each once, and have keys
pub record HaveTheirRows (test : ℕ → Bool) (given : List Given) (added : List Bounds) : Type 0 where
  pub all : (name : RowName) (i : ℕ) → HasLive given i name → test i ≡ true
      → (k : ℕ) × (b : Bounds) × (slice_get added k ≡ Some b) × (covers b name ≡ true)
  pub no_other : (name : RowName) (k : ℕ) (b : Bounds) → slice_get added k ≡ Some b → covers b name ≡ true
      → (i : ℕ) × (c : Bounds) × (slice_get given i ≡ Some (fresh c)) × (covers c name ≡ true) × (test i ≡ true)
  pub once : (name : RowName) (k l : ℕ) (a b : Bounds) → slice_get added k ≡ Some a → slice_get added l ≡ Some b
      → covers a name ≡ true → covers b name ≡ true → k ≡ l
  pub rising : (k : ℕ) (b : Bounds) → slice_get added k ≡ Some b → ends_after b.to b.from ≡ true
  pub few : length given + length added ≤ INTERVALS_MAX

module _ (parts : ℕ) (test : ℕ → Bool) (given rest : List Given) (added : List Bounds) (ended : AreEnded test given rest)
    (rows : HaveTheirRows test given added) (are : AreDivided parts given) where
  -- the intervals are then these
  abbrev after : List Given
  after = with_fresh rest added

  each-after : (name : RowName) → name.part < parts → (i : ℕ) × HasLive after i name
  each-after name there = let was = are.each name there in elim (cases_Bool (test was.0)) [
    | inl gone ↦
        let new = rows.all name was.0 was.1 gone in
        (length given + new.0, (new.1, added-at test given rest added ended new.0 new.1 new.2, new.3))
    | inr not ↦ (was.0, (was.1.0, live-kept test given rest added ended was.0 was.1.0 was.1.1 not, was.1.2))
  ]

  -- where a row is in an interval that stays, it is in none that is appended
  not_added : (name : RowName) (i k : ℕ) (b : Bounds) → HasLive given i name → test i ≡ false → slice_get added k ≡ Some b
      → covers b name ≡ true → ⊥
  not_added name i k b has not at covers =
      let old = rows.no_other name k b at covers in
      true≢false (sym old.4 ∙ ap test (are.once name old.0 i (old.1, old.2, old.3) has) ∙ not)

  -- where a live interval that has a row comes from
  abbrev Origin : RowName → ℕ → Bounds → Type 0
  Origin name i b = ((slice_get given i ≡ Some (fresh b)) × (test i ≡ false)) ⊎ ((k : ℕ) × (i ≡ length given + k) × (slice_get added k ≡ Some b))

  once-after : (name : RowName) (i j : ℕ) → HasLive after i name → HasLive after j name → i ≡ j
  once-after name i j one other =
      by_both (live-origin test given rest added ended i one.0 one.1) (live-origin test given rest added ended j other.0 other.1)
    where
      by_both : Origin name i one.0 → Origin name j other.0 → i ≡ j
      by_both (inl a) (inl b) = are.once name i j (one.0, a.0, one.2) (other.0, b.0, other.2)
      by_both (inl a) (inr b) = absurd (not_added name i b.0 other.0 (one.0, a.0, one.2) a.1 b.2 other.2)
      by_both (inr a) (inl b) = absurd (not_added name j a.0 one.0 (other.0, b.0, other.2) b.1 a.2 one.2)
      by_both (inr a) (inr b) =
          a.1 ∙ ap (λ k. length given + k) (rows.once name a.0 b.0 one.0 other.0 a.2 b.2 one.2 other.2) ∙ sym b.1

  rising-after : (i : ℕ) (g : Given) → slice_get after i ≡ Some g → ends_after g.bounds.to g.bounds.from ≡ true
  rising-after i g at = elim (bounds-origin test given rest added ended i g at) [
    | inl old ↦ ap (λ (b : Bounds). ends_after b.to b.from) (sym old.2) ∙ are.rising i old.0 old.1
    | inr new ↦ rows.rising new.0 g.bounds new.1
  ]

  -- each row is in one live interval
  pub exchanged-divided : AreDivided parts after
  exchanged-divided = record {
    each = each-after;
    once = once-after;
    rising = rising-after;
    few = omega (arith, rows.few, length-with_fresh test given rest added ended);
  }
