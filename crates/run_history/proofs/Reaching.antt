-- How far a history has been followed, entry by entry, and what it emitted so far.
use Rattle.std.proofs.Common.{◌≡◌, ℕ, ◌+◌, ◌<◌, ◌≤◌, ◌^◌, Bool, cond, List, [], ◌∷◌, ◌++◌, length, get_or, take, map, All, sym, ◌∙◌, ap, subst, arith, length-append}
use Rattle.std.specs.Prelude.{IfSome, None, Option, Some}
use Rattle.std.specs.Option.{option_map_or}
use Rattle.std.specs.List.{AllByRecursion, enumerate_from}
use Rattle.std.proofs.lemmas.List.{length-map, length-take-le, take_more}
use Rattle.std.proofs.lemmas.List.Elements.{All-append, All-from_recursion, All-map}
use Rattle.mw_types.specs.declared.record.Record.{Record}
use Rattle.mw_types.specs.declared.delivery.Emission.{Emission}
use Rattle.mw_types.specs.declared.entry.Entry.{Entry}
use Rattle.mw_types.specs.declared.identity.RowName.{RowName}
use Rattle.topology.specs.declared.subscription.Subscription.{Subscription}
use Rattle.topology.specs.Shapes.{Shape, parts_of, consumers_of}
use Rattle.row_parts.specs.Contents.{IsId}
use Rattle.run_history.specs.Made.{emission_at, emissions_made, emissions_to, emissions_of, deliveries_of, late_cause, produced, productions_of, row_written}
use Rattle.run_history.specs.Runs.{Run, run_of}
use Rattle.run_history.specs.Printing.{IsOnPart, HasFollowed, KnowsLate, emissions_by, sends_made}
use Rattle.run_history.proofs.Knowing.{knows_more}
use Rattle.run_history.proofs.RunLaws.{next-length, run_of-push}

-- ---- what is known of the deliveries

-- one more entry
pub followed_more : (shape : Shape) (history : List Entry) (entry : Entry) (late late' : List ℕ) → HasFollowed shape history late
    → late' ≡ late ++ cond (late_cause (run_of shape history).made entry) (sends_made shape entry) 0 ∷ []
    → HasFollowed shape (history ++ entry ∷ []) late'
followed_more shape history entry late late' before more =
    let run = run_of shape history in
    let at : length late ≡ run.next = before.each ∙ sym (next-length shape history) in
    let grown : List ℕ = late ++ cond (late_cause run.made entry) (sends_made shape entry) 0 ∷ [] in
    subst (HasFollowed shape (history ++ entry ∷ [])) (sym more) (record {
      each = length-append late _ ∙ ap (λ n. n + 1) before.each ∙ sym (length-append history (entry ∷ []));
      knows = subst (λ (r : Run). KnowsLate grown r.made) (sym (run_of-push shape history entry))
          (subst (λ (n : ℕ). KnowsLate grown (run.made ++ deliveries_of shape run.made n entry)) at
          (knows_more shape late run.made entry before.knows));
    })

-- what one more entry emits is told behind what was emitted
pub emissions-push : (shape : Shape) (history : List Entry) (entry : Entry)
    → (run_of shape (history ++ entry ∷ [])).emissions
    ≡ (run_of shape history).emissions ++ emissions_of shape (run_of shape history).made (length history) entry
emissions-push shape history entry =
    ap (λ (r : Run). r.emissions) (run_of-push shape history entry)
    ∙ ap (λ n. (run_of shape history).emissions ++ emissions_of shape (run_of shape history).made n entry) (next-length shape history)

-- ---- of which parts it is, and under which ids

-- what a part emits is of that part
emitted_part : (parts part commit : ℕ) (subscriptions : List Subscription) (items : List Record) → part < parts
    → All (λ (e : Emission). e.part < parts) (emissions_to subscriptions part commit items)
emitted_part parts part commit [] items there =
    All-map (λ (e : Emission). e.part < parts) (emission_at part commit) (enumerate_from 0 items) (λ k d below. there)
emitted_part parts part commit (s ∷ ss) items there = λ k d below. absurd (omega arith)

-- what an entry emits is of a part that is there
pub emitted_there : (shape : Shape) (late : Bool) (commit : ℕ) (entry : Entry) → IsOnPart shape entry
    → All (λ (e : Emission). e.part < parts_of shape) (emissions_by shape late commit entry)
emitted_there shape late commit entry there = by_row (row_written entry) there
  where
    by_row : (w : Option RowName) → IfSome w (λ (row : RowName). row.part < parts_of shape) → All (λ (e : Emission). e.part < parts_of shape)
        (option_map_or (λ (row : RowName). emissions_made shape row.part (productions_of entry) late commit) w [])
    by_row None there = λ k d below. absurd (omega arith)
    by_row (Some row) there = emitted_part (parts_of shape) row.part commit (consumers_of shape row.part) _ there

-- records that are numbered on from here have ids that can be printed
numbered_ids : (part commit k : ℕ) (items : List Record) → commit < 2 ^ 32 → k + length items ≤ 512
    → AllByRecursion (λ (e : Emission). IsId e.id) (map (emission_at part commit) (enumerate_from k items))
numbered_ids part commit k [] below few = tt
numbered_ids part commit k (item ∷ items) below few = (
  record { commit = below; index = omega (arith, few) },
  numbered_ids part commit (k + 1) items below (omega (arith, few)),
)

-- so has what a part emits
emitted_numbers : (part commit : ℕ) (subscriptions : List Subscription) (items : List Record) → commit < 2 ^ 32 → length items ≤ 8
    → All (λ (e : Emission). IsId e.id) (emissions_to subscriptions part commit items)
emitted_numbers part commit [] items below few =
    All-from_recursion (λ (e : Emission). IsId e.id) _ (numbered_ids part commit 0 items below (omega (arith, few)))
emitted_numbers part commit (s ∷ ss) items below few = λ k d less. absurd (omega arith)

-- and what an entry emits
pub emitted_ids : (shape : Shape) (late : Bool) (commit : ℕ) (entry : Entry) → commit < 2 ^ 32 → length (productions_of entry) ≤ 8
    → All (λ (e : Emission). IsId e.id) (emissions_by shape late commit entry)
emitted_ids shape late commit entry below few = by_row (row_written entry)
  where
    by_row : (w : Option RowName) → All (λ (e : Emission). IsId e.id)
        (option_map_or (λ (row : RowName). emissions_made shape row.part (productions_of entry) late commit) w [])
    by_row None = λ k d less. absurd (omega arith)
    by_row (Some row) =
        let long = length-map (productions_of entry) (produced late) in
        emitted_numbers row.part commit (consumers_of shape row.part) _ below (omega (arith, few, long))

-- what holds of each, and of each that is appended, holds of all
pub all-appended : {X : Type 0} (P : X → Type 0) (xs ys zs : List X) → zs ≡ xs ++ ys → All P ys → All P xs → All P zs
all-appended P xs ys zs is new old = subst (All P) (sym is) (All-append P xs ys old new)

-- ---- all entries

-- so many entries were followed, and these are their emissions
pub record Reached (shape : Shape) (entries : List Entry) (at : ℕ) (late : List ℕ) (emissions : List Emission) : Type 0 where
  pub followed : HasFollowed shape (take at entries) late
  pub emitted : emissions ≡ (run_of shape (take at entries)).emissions
  pub parts : All (λ (e : Emission). e.part < parts_of shape) emissions

-- no entry
pub reached_none : (shape : Shape) (entries : List Entry) (late : List ℕ) (emissions : List Emission)
    → HasFollowed shape [] late → emissions ≡ [] → Reached shape entries 0 late emissions
reached_none shape entries late emissions followed none = record {
  followed = followed;
  emitted = none;
  parts = subst (λ (l : List Emission). All (λ (e : Emission). e.part < parts_of shape) l) (sym none) (λ k d below. absurd (omega arith));
}

-- one more entry
pub reached_step : (shape : Shape) (entries : List Entry) (at : ℕ) (entry : Entry) (late late' : List ℕ) (emissions emissions' : List Emission)
    → at < length entries → entry ≡ get_or entries at entry → Reached shape entries at late emissions
    → ((history : List Entry) → HasFollowed shape history late → HasFollowed shape (history ++ entry ∷ []) late')
    → ((history : List Entry) → HasFollowed shape history late
    → emissions' ≡ emissions ++ emissions_of shape (run_of shape history).made at entry)
    → (All (λ (e : Emission). e.part < parts_of shape) emissions → All (λ (e : Emission). e.part < parts_of shape) emissions')
    → Reached shape entries (at + 1) late' emissions'
reached_step shape entries at entry late late' emissions emissions' within is reached learnt emitted parts =
    let front = take at entries in
    let more : front ++ entry ∷ [] ≡ take (at + 1) entries =
    ap (λ (e : Entry). front ++ e ∷ []) is ∙ sym (take_more entries at entry within) in
    let long : length front ≡ at = length-take-le at entries (omega (arith, within)) in record {
      followed = subst (λ (h : List Entry). HasFollowed shape h late') more (learnt front reached.followed);
      emitted = emitted front reached.followed
          ∙ ap (λ l. l ++ emissions_of shape (run_of shape front).made at entry) reached.emitted
          ∙ ap (λ n. (run_of shape front).emissions ++ emissions_of shape (run_of shape front).made n entry) (sym long)
          ∙ sym (emissions-push shape front entry)
          ∙ ap (λ (h : List Entry). (run_of shape h).emissions) more;
      parts = parts reached.parts;
    }
