-- The law of reading for rows.
use Rattle.std.proofs.Common.{◌≡◌, ℕ, zero, suc, ◌^◌, ◌<◌, ◌≤◌, Bool, true, ◌&&◌, List, [], ◌∷◌, ◌++◌, length, Option, Some, None, refl, sym, ap, ◌∙◌, arith}
use Rattle.std.specs.Prelude.{⊤, nat_le, nat_lt}
use Rattle.std.specs.Bool.{Decides}
use Rattle.std.specs.List.{AllByRecursion}
use Rattle.std.specs.List.Sorted.{IsStrictlySortedBy}
use Rattle.std.specs.Int.{w64, to_be_bytes}
use Rattle.std.proofs.lemmas.List.Elements.{All-from_recursion, recursion_from_All}
use Rattle.list_lemmas.proofs.Lists.{some_same, each-both}
use Rattle.mw_types.specs.declared.TheConstants.{MAX_STAMP}
use Rattle.mw_types.specs.declared.state.State.{State}
use Rattle.mw_types.specs.declared.timer.Timer.{Timer}
use Rattle.mw_types.specs.declared.identity.RecordId.{RecordId}
use Rattle.mw_types.specs.declared.delivery.Delivery.{Delivery}
use Rattle.mw_types.specs.Orders.{id_cmp, timer_cmp}
use Rattle.mw_types.proofs.OrderLaws.{id_cmp-total}
use Rattle.row_parts.specs.Contents.{Contents, IsRow, IsId, IsDelivery, delivery_cmp}
use Rattle.row_parts.specs.Orders.{timer_cmp-total, delivery_cmp-total}
use Rattle.row_parts.specs.Spelling.{spelling_of, state_spelling, timer_spelling, delivery_spelling, id_spelling, list_spelling, IsSpelledState, IsSpelledRow, DeliveryFits}
use Rattle.row_parts.specs.Reading.{◌>>=◌, keep, number_at, state_at, ascending_at, timer_at, delivery_at, id_at}
use Rattle.row_parts.proofs.Codec.{IsBytes, Reads, as_read, nothing_at, nothing_reads, pair_at, pair_reads, made_reads, more, bind_assoc, ascending_reads}
use Rattle.row_parts.proofs.PartLaws.{u64_reads, timer_reads, delivery_reads, id_reads, at_most, below, both}
use Rattle.row_parts.proofs.StateLaws.{state_reads, weaker, whole_takes, whole_again}
use Rattle.record_codec.specs.Reading.{kept_from, Lists, are_within, row_with, lists_at, fields_at, row_at, whole_row}

-- ---- the fields

abbrev InTimer : Timer → Type 0
InTimer t = (t.time ≤ MAX_STAMP) × (t.tag < 2 ^ 64)

abbrev InDelivery : Delivery → Type 0
InDelivery d = IsDelivery d × DeliveryFits d

abbrev ReadTimers : List Timer → Type 0
ReadTimers ts = ((length ts < 2 ^ 32) × AllByRecursion InTimer ts) × IsStrictlySortedBy timer_cmp ts

abbrev ReadPending : List Delivery → Type 0
ReadPending ds = ((length ds < 2 ^ 32) × AllByRecursion InDelivery ds) × IsStrictlySortedBy delivery_cmp ds

abbrev ReadSeen : List RecordId → Type 0
ReadSeen ids = ((length ids < 2 ^ 32) × AllByRecursion IsId ids) × IsStrictlySortedBy id_cmp ids

timers_law : Reads (list_spelling timer_spelling) ReadTimers (ascending_at timer_cmp timer_at)
timers_law = ascending_reads timer_cmp-total timer_at timer_reads

pending_law : Reads (list_spelling delivery_spelling) ReadPending (ascending_at delivery_cmp delivery_at)
pending_law = ascending_reads delivery_cmp-total delivery_at delivery_reads

seen_law : Reads (list_spelling id_spelling) ReadSeen (ascending_at id_cmp id_at)
seen_law = ascending_reads id_cmp-total id_at id_reads

abbrev Fields : Type 0
Fields = ℕ × (ℕ × (State × (List Timer × (List Delivery × (List RecordId × ⊤)))))

abbrev row_from : Fields → Contents
row_from p = record { state = p.1.1.0; timers = p.1.1.1.0; pending = p.1.1.1.1.0; seen = p.1.1.1.1.1.0; floor = p.1.0; last = p.0 }

abbrev fields_of : Contents → Fields
fields_of row = (row.last, (row.floor, (row.state, (row.timers, (row.pending, (row.seen, tt))))))

abbrev row_test : Fields → Bool
row_test p = nat_lt p.0 (2 ^ 32) && nat_le p.1.0 (2 ^ 32) && kept_from p.1.0 p.1.1.1.1.1.0

abbrev IsInRange : Fields → Type 0
IsInRange p = (p.0 < 2 ^ 32) × (p.1.0 ≤ 2 ^ 32) × AllByRecursion (λ (id : RecordId). p.1.0 ≤ id.commit) p.1.1.1.1.1.0

kept_decides : (floor : ℕ) (ids : List RecordId) → Decides (kept_from floor ids) (AllByRecursion (λ (id : RecordId). floor ≤ id.commit) ids)
kept_decides floor [] = (λ e. tt, λ h. refl)
kept_decides floor (id ∷ ids) = both (at_most floor id.commit) (kept_decides floor ids)

in_range_decides : (p : Fields) → Decides (row_test p) (IsInRange p)
in_range_decides p =
    let d = both (both (below p.0 (2 ^ 32)) (at_most p.1.0 (2 ^ 32))) (kept_decides p.1.0 p.1.1.1.1.1.0) in
    (λ e. let q = d.0 e in (q.0.0, q.0.1, q.1), λ h. d.1 ((h.0, h.1), h.2))

abbrev after_pending : List ℕ → Option ((List RecordId × ⊤) × List ℕ)
after_pending = pair_at (ascending_at id_cmp id_at) nothing_at

abbrev after_timers : List ℕ → Option ((List Delivery × (List RecordId × ⊤)) × List ℕ)
after_timers = pair_at (ascending_at delivery_cmp delivery_at) after_pending

abbrev after_state : List ℕ → Option ((List Timer × (List Delivery × (List RecordId × ⊤))) × List ℕ)
after_state = pair_at (ascending_at timer_cmp timer_at) after_timers

abbrev after_floor : List ℕ → Option ((State × (List Timer × (List Delivery × (List RecordId × ⊤)))) × List ℕ)
after_floor = pair_at state_at after_state

abbrev after_last : List ℕ → Option ((ℕ × (State × (List Timer × (List Delivery × (List RecordId × ⊤))))) × List ℕ)
after_last = pair_at (number_at w64) after_floor

abbrev made : Fields → List ℕ → Option (Contents × List ℕ)
made p rest = keep (row_test p) (row_from p, rest)

-- the lists, as they are read before what follows them
abbrev lists_from : List Timer × (List Delivery × (List RecordId × ⊤)) → List ℕ → Option ((List Timer × (List Delivery × List RecordId)) × List ℕ)
lists_from p rest = Some ((p.0, (p.1.0, p.1.1.0)), rest)

lists_is : (bytes : List ℕ) → lists_at bytes ≡ (after_state bytes >>= λ p. lists_from p.0 p.1)
unfolding lists_at
lists_is bytes =
    more (ascending_at timer_cmp timer_at) after_timers bytes lists_from _ (λ a.
    more (ascending_at delivery_cmp delivery_at) after_pending a.1 (λ p rest. lists_from (a.0, p) rest) _ (λ b.
    more (ascending_at id_cmp id_at) nothing_at b.1 (λ p rest. lists_from (a.0, (b.0, p)) rest) _ (λ c. refl)))

fields_is : (bytes : List ℕ) → fields_at bytes ≡ (pair_at (number_at w64) after_last bytes >>= λ p. keep (row_test p.0) (row_from p.0, p.1))
unfolding fields_at
fields_is bytes =
    more (number_at w64) after_last bytes made _ (λ a.
    more (number_at w64) after_floor a.1 (λ p rest. made (a.0, p) rest) _ (λ b.
    more state_at after_state b.1 (λ p rest. made (a.0, (b.0, p)) rest) _ (λ c.
    let rest : (List Timer × (List Delivery × List RecordId)) × List ℕ → Option (Contents × List ℕ) =
    λ l. made (a.0, (b.0, (c.0, (l.0.0, (l.0.1.0, (l.0.1.1, tt)))))) l.1 in
    ap (λ lists. lists >>= rest) (lists_is c.1) ∙ bind_assoc (after_state c.1) (λ p. lists_from p.0 p.1) rest)))

abbrev Fit : Fields → Type 0
Fit p = (p.0 < 2 ^ 64) × ((p.1.0 < 2 ^ 64) × (IsSpelledState p.1.1.0 × (ReadTimers p.1.1.1.0 × (ReadPending p.1.1.1.1.0 × (ReadSeen p.1.1.1.1.1.0 × ⊤)))))

fields_spelling : Contents → List ℕ
fields_spelling row = to_be_bytes w64 row.last ++ (to_be_bytes w64 row.floor ++ (state_spelling row.state ++ (list_spelling timer_spelling row.timers ++ (list_spelling delivery_spelling row.pending ++ (list_spelling id_spelling row.seen ++ [])))))

row_fits : (row : Contents) → Fit (fields_of row) × IsInRange (fields_of row) → IsSpelledRow row
row_fits row f =
    let timers = f.0.1.1.1.0 in
    let pending = f.0.1.1.1.1.0 in
    let seen = f.0.1.1.1.1.1.0 in
    record {
      is_row = record {
        state = f.0.1.1.0.0;
        timers = record { ascending = timers.1; times = All-from_recursion (λ (t : Timer). t.time ≤ MAX_STAMP) row.timers (weaker (λ t h. h.0) row.timers timers.0.1); few = timers.0.0 };
        pending = record { ascending = pending.1; each = All-from_recursion IsDelivery row.pending (weaker (λ d h. h.0) row.pending pending.0.1); few = pending.0.0 };
        seen = record { ascending = seen.1; each = All-from_recursion IsId row.seen seen.0.1; kept = All-from_recursion (λ (id : RecordId). row.floor ≤ id.commit) row.seen f.1.2; few = seen.0.0 };
        floor = f.1.1;
        last = f.1.0;
      };
      state = f.0.1.1.0.1;
      tags = All-from_recursion (λ (t : Timer). t.tag < 2 ^ 64) row.timers (weaker (λ t h. h.1) row.timers timers.0.1);
      pending = All-from_recursion DeliveryFits row.pending (weaker (λ d h. h.1) row.pending pending.0.1);
    }

fits_row : (row : Contents) → IsSpelledRow row → Fit (fields_of row) × IsInRange (fields_of row)
fits_row row is =
    let r = is.is_row in (
      (
        omega (arith, r.last),
        (
          omega (arith, r.floor),
          (
            (r.state, is.state),
            (
              ((r.timers.few, each-both _ _ row.timers (recursion_from_All (λ (t : Timer). t.time ≤ MAX_STAMP) row.timers r.timers.times) (recursion_from_All (λ (t : Timer). t.tag < 2 ^ 64) row.timers is.tags)), r.timers.ascending),
              (
                ((r.pending.few, each-both _ _ row.pending (recursion_from_All IsDelivery row.pending r.pending.each) (recursion_from_All DeliveryFits row.pending is.pending)), r.pending.ascending),
                (((r.seen.few, recursion_from_All IsId row.seen r.seen.each), r.seen.ascending), tt),
              ),
            ),
          ),
        ),
      ),
      (r.last, r.floor, recursion_from_All (λ (id : RecordId). row.floor ≤ id.commit) row.seen r.seen.kept),
    )

fields_reads : Reads fields_spelling IsSpelledRow fields_at
unfolding fields_spelling
fields_reads =
    as_read fields_at fields_is (λ row. refl) fits_row row_fits
    (made_reads (pair_at (number_at w64) after_last) row_test IsInRange in_range_decides row_from fields_of (λ row. refl) (λ p. refl)
    (pair_reads (number_at w64) after_last u64_reads (pair_reads (number_at w64) after_floor u64_reads (pair_reads state_at after_state state_reads
    (pair_reads (ascending_at timer_cmp timer_at) after_timers timers_law (pair_reads (ascending_at delivery_cmp delivery_at) after_pending pending_law
    (pair_reads (ascending_at id_cmp id_at) nothing_at seen_law nothing_reads)))))))

-- what the fields give is a row that can be kept
pub fields_row : (bytes rest : List ℕ) (row : Contents) → IsBytes bytes → fields_at bytes ≡ Some (row, rest) → IsRow row
fields_row bytes rest row are e = (fields_reads.takes bytes (row, rest) are e).2.is_row

-- fields that are read one after the other, within their bounds
pub fields_read : (bytes r1 r2 r3 r4 : List ℕ) (last floor : ℕ) (state : State) (lists : Lists)
    → number_at w64 bytes ≡ Some (last, r1) → number_at w64 r1 ≡ Some (floor, r2) → state_at r2 ≡ Some (state, r3)
    → lists_at r3 ≡ Some (lists, r4) → are_within last floor lists ≡ true
    → fields_at bytes ≡ Some (row_with last floor state lists, r4)
unfolding fields_at
fields_read bytes r1 r2 r3 r4 last floor state lists e1 e2 e3 e4 within = rw (e1, e2, e3, e4, within) refl

-- ---- rows

row_takes : (bytes : List ℕ) (x : Contents × List ℕ) → IsBytes bytes → row_at bytes ≡ Some x → (bytes ≡ spelling_of x.0 ++ x.1) × IsBytes x.1 × IsSpelledRow x.0
unfolding row_at fields_spelling
row_takes [] x are e = absurd cc
row_takes (zero ∷ rest) x are e = absurd cc
row_takes (suc zero ∷ rest) x are e =
    let t = fields_reads.takes rest x (λ i. are (suc i)) e in
    (ap (λ (l : List ℕ). 1 ∷ l) t.0, t.1, t.2)
row_takes (suc (suc version) ∷ rest) x are e = absurd cc

row_again : (row : Contents) (rest : List ℕ) → IsSpelledRow row → row_at (spelling_of row ++ rest) ≡ Some (row, rest)
unfolding row_at fields_spelling
row_again row rest fits = fields_reads.again row rest fits

row_reads : Reads spelling_of IsSpelledRow row_at
row_reads = record { takes = row_takes; again = row_again }

-- what a reader of whole rows answers
pub row_found : (bytes : List ℕ) (row : Contents) → IsBytes bytes → whole_row bytes ≡ Some row → IsSpelledRow row × (bytes ≡ spelling_of row)
unfolding whole_row
row_found bytes row are read = whole_takes row_at row_reads bytes row are read

pub row_read : (bytes : List ℕ) (row : Contents) → IsSpelledRow row → bytes ≡ spelling_of row → whole_row bytes ≡ Some row
unfolding whole_row
row_read bytes row fits is = ap whole_row is ∙ whole_again row_at row_reads row fits

pub same_row : (row answered : Contents) → Some row ≡ Some answered → answered ≡ row
same_row row answered e = sym (some_same row answered e)

-- no row is read where nothing is
pub none_read : (bytes : List ℕ) (row : Contents) → whole_row bytes ≡ None → IsSpelledRow row → bytes ≡ spelling_of row → ⊥
none_read bytes row none fits is =
    let some : whole_row bytes ≡ Some row = row_read bytes row fits is in
    let clash : None ≡ Some row = sym none ∙ some in
    absurd cc
