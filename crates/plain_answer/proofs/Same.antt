-- What a kind gives of members does not depend on their order. On the way to the code of the plain text.
use Rattle.std.proofs.Common.{◌≡◌, ℕ, ◌==◌, ◌&&◌, Bool, List, [], length, map, filter, refl, sym, ◌∙◌, ap, arith}
use Rattle.std.specs.Prelude.{nat_eq, not}
use Rattle.std.specs.Cmp.Lexicographic.{pointwise}
use Rattle.std.proofs.lemmas.Bool.{eq-eqb}
use Rattle.mw_types.specs.declared.kind.Kind.{Kind}
use Rattle.mw_types.specs.declared.kind.Kind.TheVariants as kinds
use Rattle.mw_types.specs.declared.record.Record.{Record}
use Rattle.list_lemmas.proofs.Filters.{by_keys}
use Rattle.list_lemmas.proofs.Totals.{total, when, total-map, total-filter, HaveSameTotals, totals-permuted}
use Rattle.plain_answer.specs.Plain.{Keyed, row_members, places_in, spikes_in, plain_of}
use Rattle.plain_answer.specs.Places.{place_of}
use Rattle.plain_answer.proofs.Closing.{at_place, counted_at, key-itself}
use Rattle.plain_answer.proofs.Greatest.{places-fold}
use Rattle.plain_answer.proofs.Orders.{places-same}
use Rattle.plain_answer.proofs.PlainCounts.{into, plain-at}
use Rattle.plain_answer.proofs.SpikePlain.{row-at, spikes-key}

-- the places of a row
pub places-any : (key : List ℕ) (ms ns : List Keyed) → HaveSameTotals ms ns
    → places_in (row_members key ms) ≡ places_in (row_members key ns)
places-any key ms ns same =
    places-fold (row_members key ms)
    ∙ places-same (map place_of (row_members key ms)) (map place_of (row_members key ns)) pairs
    ∙ sym (places-fold (row_members key ns))
  where
    mine : Keyed → Bool
    mine m = pointwise nat_eq key m.0 && not m.1.late

    as_total : (g : ℕ × Rattle.std.specs.Prelude.ℤ → ℕ) (l : List Keyed)
        → total g (map place_of (row_members key l)) ≡ total (λ (m : Keyed). when (mine m) (g (place_of m.1))) l
    as_total g l = total-map g place_of (row_members key l)
        ∙ total-map (λ (r : Record). g (place_of r)) (λ (m : Keyed). m.1) (filter mine l)
        ∙ total-filter (λ (m : Keyed). g (place_of m.1)) mine l

    pairs : HaveSameTotals (map place_of (row_members key ms)) (map place_of (row_members key ns))
    pairs g = as_total g ms ∙ same (λ m. when (mine m) (g (place_of m.1))) ∙ sym (as_total g ns)

-- what a kind gives
pub plain_of-same : (kind : Kind) (ms ns : List Keyed) → HaveSameTotals ms ns → HaveSameTotals (plain_of kind ms) (plain_of kind ns)
plain_of-same (kinds.Count size) ms ns same =
    totals-permuted (plain_of (kinds.Count size) ms) (plain_of (kinds.Count size) ns)
    (by_keys at_place (λ (r : Record). (r.key, r.stamp))
    (λ r. (λ i. key-itself r.key i && (r.stamp == r.stamp)) ∙ eq-eqb r.stamp r.stamp refl)
    (length (plain_of (kinds.Count size) ms)) (plain_of (kinds.Count size) ms) (plain_of (kinds.Count size) ns) (omega arith)
    (λ place. plain-at size place.0 place.1 ms ∙ ap (counted_at place.0 place.1) (same (into size place.0 place.1))
    ∙ sym (plain-at size place.0 place.1 ns)))
plain_of-same (kinds.Spike last times) ms ns same =
    totals-permuted (plain_of (kinds.Spike last times) ms) (plain_of (kinds.Spike last times) ns)
    (by_keys (λ (key : List ℕ) (r : Record). pointwise nat_eq key r.key) (λ (r : Record). r.key) (λ r. key-itself r.key)
    (length (plain_of (kinds.Spike last times) ms)) (plain_of (kinds.Spike last times) ms)
    (plain_of (kinds.Spike last times) ns) (omega arith)
    (λ key. at key ms ∙ ap (spikes_in last times key []) (places-any key ms ns same) ∙ sym (at key ns)))
  where
    at : (key : List ℕ) (l : List Keyed)
        → filter (λ (r : Record). pointwise nat_eq key r.key) (plain_of (kinds.Spike last times) l)
        ≡ spikes_in last times key [] (places_in (row_members key l))
    at key l = row-at (λ (r : Record). r.key) (λ k. spikes_in last times k [] (places_in (row_members k l))) l
        (λ k. spikes-key last times k [] (places_in (row_members k l)))
        (λ k none. ap (λ m. spikes_in last times k [] (places_in m)) none) key
plain_of-same kinds.Pass ms ns same = λ g.
    total-map g (λ (m : Keyed). m.1) ms ∙ same (λ m. g m.1) ∙ sym (total-map g (λ (m : Keyed). m.1) ns)
